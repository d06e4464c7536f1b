-- One more offer, and one more message.
use Rattle.std.proofs.Common.{◌≡◌, ℕ, suc, ◌+◌, ◌-◌, ◌≤◌, Bool, true, false, List, [], ◌∷◌, ◌++◌, length, refl, ap, ◌∙◌, arith, append-nil, append_assoc}
use Rattle.std.proofs.lemmas.Grind.{flat_map-append}
use Rattle.std.proofs.lemmas.List.{length-append, map-append}
use Rattle.std.specs.List.{list_any}
use Rattle.std.specs.Prelude.{if◌then◌else◌}
use Rattle.http_requests.specs.declared.messages.Meaning.{Meaning}
use Rattle.http_requests.specs.declared.messages.Meaning.TheVariants.{Request, Bad}
use Rattle.admission.specs.declared.control.Decision.{Decision}
use Rattle.admission.specs.declared.control.Decision.TheVariants.{Admitted, Rejected}
use Rattle.admission.specs.Reference.{Station, Offer, Decided, served, sample, samples, as_served, finish_in, decide, decided, decided_next}
use Rattle.admission.proofs.RequestLemmas.{decided_from-push, served-push}
use Rattle.reference.specs.Reference.{Terms, offer_at, offers_of, rejects, handled_next, handled_after, handled, samples_of}
use Rattle.arrivals.specs.Reference.{Arrival}
use Rattle.arrivals.specs.declared.incoming.Origin.{Origin}
use Rattle.paths.specs.declared.file.File.{File}

-- ---- offers

pub offers_more : (files : List File) (terms : Terms) (arrivals : List Arrival) (a : Arrival) → offers_of files terms (arrivals ++ a ∷ []) ≡ offers_of files terms arrivals ++ offer_at files terms a.origin a.message.what
unfolding offers_of
offers_more files terms arrivals a =
    flat_map-append (λ a. offer_at files terms a.origin a.message.what) arrivals (a ∷ []) ∙ ap (λ xs. offers_of files terms arrivals ++ xs) (append-nil (offer_at files terms a.origin a.message.what))

offer_few : (files : List File) (terms : Terms) (origin : Origin) (what : Meaning) → length (offer_at files terms origin what) ≤ 1
offer_few files terms origin (Request method target version closing since) = omega arith
offer_few files terms origin (Bad fault) = omega arith

pub offers_few : (files : List File) (terms : Terms) (arrivals : List Arrival) → length (offers_of files terms arrivals) ≤ length arrivals
unfolding offers_of
offers_few files terms [] = omega arith
offers_few files terms (a ∷ arrivals) = omega (
  arith,
  offers_few files terms arrivals,
  offer_few files terms a.origin a.message.what,
  length-append (offer_at files terms a.origin a.message.what) (offers_of files terms arrivals),
)

-- ---- decisions

decided_more : (station : Station) (offers : List Offer) (offer : Offer) → decided station (offers ++ offer ∷ []) ≡ decided station offers ++ decided_next station (decided station offers) offer ∷ []
decided_more station offers offer = decided_from-push station [] offers offer

-- a rejected one has none
pub samples_rejected : (station : Station) (offers : List Offer) (offer : Offer) → Rejected ≡ decide station (decided station offers) offer
    → samples_of station (offers ++ offer ∷ []) ≡ samples_of station offers
unfolding samples_of
samples_rejected station offers offer e =
    let next = decided_next station (decided station offers) offer in
    let own : as_served offer next.decision ≡ [] = rw (← e) refl in
    rw (decided_more station offers offer, served-push (decided station offers) next, own, append-nil (served (decided station offers))) refl

pub is_admitted_one : (station : Station) (offers : List Offer) (offer : Offer) (finish : ℕ) → Admitted finish ≡ decide station (decided station offers) offer → false ≡ list_any (rejects station offers) (offer ∷ [])
unfolding rejects
is_admitted_one station offers offer finish e = rw (← e) refl

pub is_rejected_one : (station : Station) (offers : List Offer) (offer : Offer) → Rejected ≡ decide station (decided station offers) offer → true ≡ list_any (rejects station offers) (offer ∷ [])
unfolding rejects
is_rejected_one station offers offer e = rw (← e) refl

abbrev pub finish_or : ℕ → Decision → ℕ
finish_or other (Admitted finish) = finish
finish_or other Rejected = other

pub finish_is : (enough : Bool) (own finish : ℕ) → Admitted finish ≡ (if enough then (Admitted own) else Rejected) → finish ≡ own
finish_is true own finish e = ap (finish_or own) e
finish_is false own finish e = ap (finish_or own) e

-- a request is finished no earlier than it came
pub finish_late : (station : Station) (past : List Decided) (offer : Offer) (finish : ℕ) → Admitted finish ≡ decide station past offer → offer.tick ≤ finish
finish_late station past offer finish e =
    let is : finish ≡ finish_in station (served past) offer = finish_is _ _ _ e in
    omega (arith, is)

-- an admitted request has a sample, which is from its arrival to its finish, with its delay
pub samples_admitted : (station : Station) (offers : List Offer) (offer : Offer) (finish : ℕ) → Admitted finish ≡ decide station (decided station offers) offer
    → samples_of station (offers ++ offer ∷ []) ≡ samples_of station offers ++ (finish - offer.tick + offer.delay) ∷ []
unfolding samples_of
samples_admitted station offers offer finish e =
    let next = decided_next station (decided station offers) offer in
    let own : as_served offer next.decision ≡ record { offer = offer; finish = finish } ∷ [] = rw (← e) refl in
    let late : offer.tick ≤ finish = finish_late station (decided station offers) offer finish e in
    let same : finish + offer.delay - offer.tick ≡ finish - offer.tick + offer.delay = omega arith in
    rw (decided_more station offers offer, served-push (decided station offers) next, own)
    (map-append sample (served (decided station offers)) (record { offer = offer; finish = finish } ∷ [])
    ∙ ap (λ n. samples (served (decided station offers)) ++ n ∷ []) same)

-- ---- messages

pub handled_more : (files : List File) (terms : Terms) (earlier first more : List Arrival) → handled_after files terms earlier (first ++ more) ≡ handled_after files terms earlier first ++ handled_after files terms (earlier ++ first) more
unfolding handled_after
handled_more files terms earlier [] more = rw (append-nil earlier) refl
handled_more files terms earlier (a ∷ first) more =
    let e : (earlier ++ a ∷ []) ++ first ≡ earlier ++ a ∷ first = append_assoc earlier (a ∷ []) first in
    ap (λ hs. handled_next files terms earlier a ∷ hs) (handled_more files terms (earlier ++ a ∷ []) first more ∙ ap (λ past. handled_after files terms (earlier ++ a ∷ []) first ++ handled_after files terms past more) e)

pub handled_one : (files : List File) (terms : Terms) (earlier : List Arrival) (a : Arrival) → handled_after files terms earlier (a ∷ []) ≡ handled_next files terms earlier a ∷ []
unfolding handled_after
handled_one files terms earlier a = refl

pub handled_push : (files : List File) (terms : Terms) (arrivals : List Arrival) (a : Arrival) → handled files terms (arrivals ++ a ∷ []) ≡ handled files terms arrivals ++ handled_next files terms arrivals a ∷ []
handled_push files terms arrivals a = handled_more files terms [] arrivals (a ∷ []) ∙ ap (λ hs. handled files terms arrivals ++ hs) (handled_one files terms arrivals a)

pub handled_count : (files : List File) (terms : Terms) (earlier arrivals : List Arrival) → length (handled_after files terms earlier arrivals) ≡ length arrivals
unfolding handled_after
handled_count files terms earlier [] = refl
handled_count files terms earlier (a ∷ arrivals) = ap (λ n. suc n) (handled_count files terms (earlier ++ a ∷ []) arrivals)
