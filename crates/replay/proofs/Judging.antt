-- What the decider makes of one more message.
use Rattle.std.proofs.Common.{◌≡◌, ℕ, ◌+◌, ◌-◌, ◌<◌, ◌≤◌, ◌/◌, Bool, true, false, List, [], ◌∷◌, ◌++◌, length, refl, sym, ap, ◌∙◌, arith, append-nil, Option, Result, Ok, Err}
use Rattle.std.specs.Prelude.{IfOk, IfErr, OnErr}
use Rattle.std.specs.Result.{IsErrAnd}
use Rattle.std.proofs.lemmas.List.{length-append}
use Rattle.http_requests.specs.declared.messages.Meaning.{Meaning}
use Rattle.admission.specs.declared.control.Decision.{Decision}
use Rattle.admission.specs.declared.control.Decision.TheVariants.{Admitted, Rejected}
use Rattle.admission.specs.Reference.{Offer, served, decide, decided, decided_from, tick_from}
use Rattle.admission.specs.Standing.{Standing, station_of}
use Rattle.admission.specs.After.{ControllerAfter}
use Rattle.responses.specs.declared.slip.Persistence.{Persistence}
use Rattle.responses.specs.declared.slip.Slip.{Slip}
use Rattle.responses.specs.Reference.{status_of, reply_text, record_text}
use Rattle.reference.specs.Reference.{station_for, Choice, Terms, tick_in, response, answers_head, is_head, persistence_of, outcome_answer, slip_of, offer_at, offers_of, is_turned_away, handled_next, handled_after, handled, bypassed_of, samples_of, breaks_a_rule}
use Rattle.arrivals.specs.Reference.{Arrival}
use Rattle.paths.specs.Reference.{asked, outcome}
use Rattle.paths.specs.declared.file.File.{File}
use Rattle.paths.specs.declared.resolution.Outcome.{Outcome}
use Rattle.http_requests.specs.declared.messages.HttpVersion.{HttpVersion}
use Rattle.http_requests.specs.declared.messages.Meaning.TheVariants.{Request, Bad}
use Rattle.responses.specs.declared.slip.ResponseKind.{ResponseKind}
use Rattle.responses.specs.declared.slip.ResponseKind.TheVariants.{Plain}
use Rattle.responses.specs.declared.slip.Status.TheVariants.{ServiceUnavailable}
use Rattle.captures.specs.Passes.{IsWriteOrMemory}
use Rattle.reference.specs.Outcomes.{IfCutShort, IfTooMany}
use Rattle.arrivals.specs.declared.incoming.Origin.{Origin}
use Rattle.captures.specs.declared.pass_fault.PassFault.{PassFault}
use Rattle.captures.specs.declared.pass_fault.PassFault.TheVariants.{Capture, TooMany, Memory, Write as Unwritten}
use Rattle.replay.specs.Totals.{AreBelow, no_counts, totals_of, with_reply, decided_totals, Decides}
use Rattle.replay.specs.Serving.{Counted, DeciderAfter, AreBy, IsOnTime, SameCapture, records_after}
use Rattle.http_requests.specs.declared.messages.Message.{Message}
use Rattle.arrivals.specs.Connections.{arrivals_with}
use Rattle.std.proofs.lemmas.List.Elements.{All-nil, All-cons, All-append, All-head, All-tail}
use Rattle.replay.specs.declared.totals.Totals.{Totals}
use Rattle.replay.specs.declared.decider.Decider.{Decider}
use Rattle.reference.proofs.Offering.{offers_more, handled_push, handled_count, samples_admitted, samples_rejected, is_admitted_one, is_rejected_one}
use Rattle.reference.proofs.SameAnswer.{status_same, reply_is}
use Rattle.replay.proofs.Writing.{records_one}
use Rattle.replay.proofs.CountMore.{counts_more, bypassed_more, bypassed_few, rejected_more, counts_below}

-- ---- offers

-- nothing is offered
pub decides_none : (offers : List Offer) (decider : Decider) → ControllerAfter offers decider.controller → decider.totals.samples ≡ samples_of (station_of decider.controller) offers → Decides offers [] decider decider false
unfolding tick_from
decides_none offers decider fits samples = record {
  station = refl;
  fits = rw (append-nil offers) fits;
  is_away = refl;
  totals = rw (append-nil offers, ← samples, append-nil decider.totals.rejected) refl;
  start = refl;
  most = refl;
  clock = refl;
}

pub decides_admitted : (offers : List Offer) (offer : Offer) (finish : ℕ) (decision : Decision) (old new : Decider) (controller : Standing) → decision ≡ Admitted finish
    → decision ≡ decide (station_of old.controller) (decided (station_of old.controller) offers) offer
    → station_of controller ≡ station_of old.controller → ControllerAfter (offers ++ offer ∷ []) controller → controller.clock ≡ offer.tick → old.totals.samples ≡ samples_of (station_of old.controller) offers
    → new ≡ record { start = old.start; most = old.most; controller = controller; totals = decided_totals old.totals (old.totals.samples ++ (finish - offer.tick + offer.delay) ∷ []) false }
    → Decides offers (offer ∷ []) old new false
unfolding tick_from
decides_admitted offers offer finish decision old new controller is e rules fits clock samples response_of =
    let own : Admitted finish ≡ decide (station_of old.controller) (decided (station_of old.controller) offers) offer = sym is ∙ e in
    rw response_of (record {
      station = rules;
      fits = fits;
      is_away = is_admitted_one (station_of old.controller) offers offer finish own;
      totals = ap (λ xs. decided_totals old.totals xs false) (ap (λ xs. xs ++ (finish - offer.tick + offer.delay) ∷ []) samples ∙ sym (samples_admitted (station_of old.controller) offers offer finish own));
      start = refl;
      most = refl;
      clock = clock;
    })

pub decides_rejected : (offers : List Offer) (offer : Offer) (decision : Decision) (old new : Decider) (controller : Standing) → decision ≡ Rejected
    → decision ≡ decide (station_of old.controller) (decided (station_of old.controller) offers) offer
    → station_of controller ≡ station_of old.controller → ControllerAfter (offers ++ offer ∷ []) controller → controller.clock ≡ offer.tick → old.totals.samples ≡ samples_of (station_of old.controller) offers
    → new ≡ record { start = old.start; most = old.most; controller = controller; totals = decided_totals old.totals old.totals.samples true }
    → Decides offers (offer ∷ []) old new true
unfolding tick_from
decides_rejected offers offer decision old new controller is e rules fits clock samples response_of =
    let own : Rejected ≡ decide (station_of old.controller) (decided (station_of old.controller) offers) offer = sym is ∙ e in
    rw response_of (record {
      station = rules;
      fits = fits;
      is_away = is_rejected_one (station_of old.controller) offers offer own;
      totals = ap (λ xs. decided_totals old.totals xs true) (samples ∙ sym (samples_rejected (station_of old.controller) offers offer own));
      start = refl;
      most = refl;
      clock = clock;
    })

-- the decider with another controller, and with other lists of rejected requests and samples
abbrev pub decider_with : Decider → Standing → List ℕ → List ℕ → Decider
decider_with decider controller rejected samples = record {
  start = decider.start;
  most = decider.most;
  controller = controller;
  totals = record { answered = decider.totals.answered; counts = decider.totals.counts; bypassed = decider.totals.bypassed; rejected = rejected; samples = samples };
}

abbrev pub decider_then : Decider → Standing → List ℕ → Bool → Decider
decider_then decider controller samples away = record { start = decider.start; most = decider.most; controller = controller; totals = decided_totals decider.totals samples away }

pub decider_sampled : (decider : Decider) (controller : Standing) (samples more : List ℕ) → samples ≡ more → decider_with decider controller decider.totals.rejected samples ≡ decider_then decider controller more false
decider_sampled decider controller samples more e = rw (e, append-nil decider.totals.rejected) refl

pub decider_rejected : (decider : Decider) (controller : Standing) (rejected : List ℕ) → rejected ≡ decider.totals.rejected ++ decider.totals.answered ∷ []
    → decider_with decider controller rejected decider.totals.samples ≡ decider_then decider controller decider.totals.samples true
decider_rejected decider controller rejected e = rw e refl

-- a request that was turned away is answered so, another is answered by its outcome
pub given_away : (X : Type 0) (files : List File) (choice : Choice) (what : Meaning) (seconds : ℕ) (response_of : ResponseKind X) → seconds ≡ choice.served.retry_after → response_of ≡ Plain (ServiceUnavailable seconds)
    → response_of ≡ response files choice.served true what
given_away X files choice what seconds response_of e is = is ∙ rw e refl

pub given_answer : (X : Type 0) (snapshot files : List File) (choice : Choice) (what : Meaning) (method target : List ℕ) (version : HttpVersion) (closing : Bool) (since : Option ℕ) (o : Outcome) (head : Bool) (response_of : ResponseKind X)
    → snapshot ≡ files → what ≡ Request method target version closing since → o ≡ outcome snapshot (asked method target) → head ≡ answers_head what
    → response_of ≡ outcome_answer files head since o → response_of ≡ response files choice.served false what
given_answer X snapshot files choice what method target version closing since o head response_of same is found heads e =
    let own : head ≡ is_head method = heads ∙ ap answers_head is in
    e ∙ rw (is, found, same, own) refl

pub if_ok : {T E : Type 0} (r : Result T E) (P Q : T → Type 0) → ((x : T) → P x → Q x) → IfOk r P → IfOk r Q
if_ok (Ok x) P Q f h = f x h
if_ok (Err e) P Q f h = tt

-- ---- messages

-- the totals of one more message
totals_more : (files : List File) (terms : Terms) (arrivals : List Arrival) (a : Arrival) (away : Bool) → away ≡ is_turned_away files terms arrivals a
    → with_reply (decided_totals (totals_of files terms arrivals) (samples_of (station_for terms) (offers_of files terms arrivals ++ offer_at files terms a.origin a.message.what)) away) (status_of (response {X = Unit {0}} files terms away a.message.what)) (breaks_a_rule a.message.what)
    ≡ totals_of files terms (arrivals ++ a ∷ [])
totals_more files terms arrivals a away e =
    let len : length (arrivals ++ a ∷ []) ≡ length arrivals + 1 = length-append arrivals (a ∷ []) in
    rw (
      e,
      len,
      handled_push files terms arrivals a,
      counts_more files terms (handled files terms arrivals) (handled_next files terms arrivals a),
      bypassed_more arrivals a,
      rejected_more (handled files terms arrivals) (handled_next files terms arrivals a),
      offers_more files terms arrivals a,
    ) refl

-- a message counts after the clock that it has set
clock_more : (files : List File) (terms : Terms) (a : Arrival) (what : Meaning) (before after : ℕ) → IsOnTime terms.speed a.origin.tick before → after ≡ tick_from before (offer_at files terms a.origin what)
    → IsOnTime terms.speed a.origin.tick after
unfolding tick_from
clock_more files terms a (Request method target version closing since) before after by e = λ counted counts. rw e (counts a.origin.tick (omega arith))
clock_more files terms a (Bad fault) before after by e = λ counted counts. rw e (by counted counts)

last_by : (arrivals : List Arrival) (a : Arrival) (tick : ℕ) → AreBy tick (arrivals ++ a ∷ []) → a.origin.tick ≤ tick
last_by [] a tick by = All-head (λ x. x.origin.tick ≤ tick) a [] by
last_by (x ∷ arrivals) a tick by = last_by arrivals a tick (All-tail (λ x. x.origin.tick ≤ tick) x (arrivals ++ a ∷ []) by)

later_more : (terms : Terms) (arrivals : List Arrival) (a : Arrival) (clock : ℕ) → IsOnTime terms.speed a.origin.tick clock
    → (tick : ℕ) → AreBy tick (arrivals ++ a ∷ []) → IsOnTime terms.speed tick clock
later_more terms arrivals a clock by tick all = λ counted counts.
    let last = last_by arrivals a tick all in
    by counted (λ earlier le. counts earlier (omega (arith, le, last)))

pub stands_more : (files : List File) (terms : Terms) (arrivals : List Arrival) (a : Arrival) (away : Bool) (old mid new : Decider) (status : ℕ) → Counted files terms arrivals old
    → IsOnTime terms.speed a.origin.tick old.controller.clock
    → Decides (offers_of files terms arrivals) (offer_at files terms a.origin a.message.what) old mid away
    → status ≡ status_of (response {X = Unit {0}} files terms away a.message.what)
    → SameCapture mid new → new.controller ≡ mid.controller → new.totals ≡ with_reply mid.totals status (breaks_a_rule a.message.what)
    → length arrivals < 536870912 → DeciderAfter files terms (arrivals ++ a ∷ []) new
stands_more files terms arrivals a away old mid new status stands by decides response_of capture same counted few =
    let away_is : away ≡ is_turned_away files terms arrivals a = rw stands.station at decides.is_away in
    let passed = clock_more files terms a a.message.what _ _ by (ap (λ c. c.clock) same ∙ decides.clock) in
    record {
      counted = record {
        early = let here = capture.0 in let there = decides.start in let early = stands.early in omega (arith, here, there, early);
        most = let here = capture.1 in let there = decides.most in let most = stands.most in omega (arith, here, there, most);
        station = ap station_of same ∙ decides.station ∙ stands.station;
        fits = rw (same, offers_more files terms arrivals a) decides.fits;
        totals = counted ∙ rw (decides.totals, stands.totals, stands.station, response_of) (totals_more files terms arrivals a away away_is);
        few = let len = length-append arrivals (a ∷ []) in omega (arith, len, few);
      };
      clock = later_more terms arrivals a new.controller.clock passed;
    }

pub stands_none : (files : List File) (terms : Terms) (decider : Decider) → decider.start ≤ 4102444800 → decider.most ≤ 536870912 → (station_of decider.controller) ≡ (station_for terms) → ControllerAfter [] decider.controller → decider.controller.clock ≡ 0
    → decider.totals ≡ record { answered = 0; counts = no_counts; bypassed = 0; rejected = []; samples = [] } → DeciderAfter files terms [] decider
unfolding offers_of samples_of handled_after served decided_from
stands_none files terms decider early most rules fits clock totals = record {
  counted = record { early = early; most = most; station = rules; fits = fits; totals = totals; few = omega arith };
  clock = λ tick by counted counts. rw clock (omega arith);
}

-- ---- what the decider's calls ask

pub answered_is : (files : List File) (terms : Terms) (arrivals : List Arrival) (decider : Decider) → Counted files terms arrivals decider → decider.totals.answered ≡ length arrivals
answered_is files terms arrivals decider stands = ap (λ t. t.answered) stands.totals

pub samples_are : (files : List File) (terms : Terms) (arrivals : List Arrival) (decider : Decider) → Counted files terms arrivals decider → decider.totals.samples ≡ samples_of (station_of decider.controller) (offers_of files terms arrivals)
samples_are files terms arrivals decider stands = rw stands.station (ap (λ t. t.samples) stands.totals)

pub counts_room : (files : List File) (terms : Terms) (arrivals : List Arrival) (decider : Decider) (n : ℕ) → Counted files terms arrivals decider → length arrivals < n → AreBelow n decider.totals.counts
counts_room files terms arrivals decider n stands lt =
    let len : length (handled files terms arrivals) ≡ length arrivals = handled_count files terms [] arrivals in
    rw (ap (λ t. t.counts) stands.totals) (counts_below files terms (handled files terms arrivals) n (omega (arith, len, lt)))

pub bypassed_room : (files : List File) (terms : Terms) (arrivals : List Arrival) (decider : Decider) (n : ℕ) → Counted files terms arrivals decider → length arrivals < n → decider.totals.bypassed < n
bypassed_room files terms arrivals decider n stands lt =
    let is : decider.totals.bypassed ≡ bypassed_of arrivals = ap (λ t. t.bypassed) stands.totals in
    let few = bypassed_few arrivals in
    omega (arith, is, few, lt)

-- ---- one message at the decider

-- what the decider has made of a message that is answered this
abbrev pub Judged : {X : Type 0} → List File → Terms → List Offer → Origin → Meaning → Decider → Decider → ResponseKind X → Type 0
Judged files terms offers origin what old mid response_of = (away : Bool) × Decides offers (offer_at files terms origin what) old mid away × (response_of ≡ response files terms away what)

pub counts_kept : (X : Type 0) (files : List File) (terms : Terms) (arrivals : List Arrival) (origin : Origin) (what : Meaning) (old mid : Decider) (response_of : ResponseKind X) (n : ℕ) → Counted files terms arrivals old
    → Judged files terms (offers_of files terms arrivals) origin what old mid response_of → length arrivals < n → AreBelow n mid.totals.counts × (mid.totals.bypassed < n) × (mid.totals.answered ≡ old.totals.answered)
counts_kept X files terms arrivals origin what old mid response_of n stands judged lt =
    let kept = judged.1.totals in (
      rw kept (counts_room files terms arrivals old n stands lt),
      rw kept (bypassed_room files terms arrivals old n stands lt),
      ap (λ t. t.answered) kept,
    )

pub stands_after : (X : Type 0) (files : List File) (terms : Terms) (arrivals : List Arrival) (a : Arrival) (origin : Origin) (what : Meaning) (old mid : Decider) (totals : Totals) (response_of : ResponseKind X) → Counted files terms arrivals old → IsOnTime terms.speed a.origin.tick old.controller.clock
    → a.origin ≡ origin → a.message.what ≡ what → old.totals.answered < 536870912 → Judged files terms (offers_of files terms arrivals) origin what old mid response_of
    → totals ≡ with_reply mid.totals (status_of response_of) (breaks_a_rule what)
    → DeciderAfter files terms (arrivals ++ a ∷ []) (record { start = mid.start; most = mid.most; controller = mid.controller; totals = totals })
stands_after X files terms arrivals a origin what old mid totals response_of stands by from meaning capacity judged counted =
    let e = answered_is files terms arrivals old stands in
    let status : status_of response_of ≡ status_of (response {X = Unit {0}} files terms judged.0 a.message.what) = rw (judged.2, meaning) (status_same X (Unit {0}) files terms judged.0 what) in
    stands_more files terms arrivals a judged.0 old mid _ (status_of response_of) stands by (rw (from, meaning) judged.1) status (refl, refl) refl (rw meaning counted) (omega (arith, e, capacity))

pub slip_is : (X : Type 0) (files : List File) (terms : Terms) (start : ℕ) (arrivals : List Arrival) (a : Arrival) (origin : Origin) (what : Meaning) (old mid : Decider) (response_of : ResponseKind X) (conn : ℕ) (head : Bool) (link : Persistence) (slip : Slip X)
    → Counted files terms arrivals old → a.origin ≡ origin → a.message.what ≡ what → Judged files terms (offers_of files terms arrivals) origin what old mid response_of
    → conn ≡ origin.conn → head ≡ answers_head what → link ≡ persistence_of what
    → slip ≡ record { number = old.totals.answered; conn = conn; date = start + tick_in terms origin / 1000000; head = head; link = link; what = response_of }
    → slip ≡ slip_of files terms start (handled_next files terms arrivals a)
slip_is X files terms start arrivals a origin what old mid response_of conn head link slip stands from meaning judged conns heads links slips =
    let away_is : judged.0 ≡ is_turned_away files terms arrivals a = rw (from, meaning) (rw stands.station at judged.1.is_away) in
    slips ∙ rw (answered_is files terms arrivals old stands, conns, heads, links, judged.2, away_is, from, meaning) refl

-- what a message's reply has written
pub reply_written : (X : Type 0) (files : List File) (terms : Terms) (start : ℕ) (arrivals : List Arrival) (a : Arrival) (slip : Slip X) (r : ℕ × ℕ × List ℕ) → slip ≡ slip_of files terms start (handled_next files terms arrivals a)
    → r ≡ (slip.number, slip.conn, reply_text files slip) → record_text r ≡ records_after files terms start arrivals (a ∷ [])
reply_written X files terms start arrivals a slip r slips response_of = ap record_text (reply_is files terms start (handled_next files terms arrivals a) slip r slips response_of) ∙ sym (records_one files terms start arrivals a)

-- ---- faults

-- what holds after a failed write or out of memory
pub cut_short : {T : Type 0} (r : Result T PassFault) (P : Type 0) → P → IfErr r (λ f. IfCutShort f P)
cut_short (Ok x) P h = tt
cut_short (Err (Capture f)) P h = tt
cut_short (Err (TooMany n)) P h = tt
cut_short (Err Unwritten) P h = h
cut_short (Err Memory) P h = h

-- a fault that `?` has passed on
pub passed_on : {T : Type 0} (r : Result T PassFault) (Q P : PassFault → Type 0) → ((f : PassFault) → Q f → P f) → IsErrAnd r Q → IfErr r P
passed_on (Ok x) Q P more h = tt
passed_on (Err f) Q P more h = more f h

pub on_many : (f : PassFault) (P Q : ℕ → Type 0) → ((n : ℕ) → P n → Q n) → IfTooMany f P → IfTooMany f Q
on_many (Capture f) P Q more h = tt
on_many (TooMany n) P Q more h = more n h
on_many Unwritten P Q more h = tt
on_many Memory P Q more h = tt

pub on_cut : (f : PassFault) (P Q : Type 0) → (P → Q) → IfCutShort f P → IfCutShort f Q
on_cut (Capture f) P Q more h = tt
on_cut (TooMany n) P Q more h = tt
on_cut Unwritten P Q more h = more h
on_cut Memory P Q more h = more h

-- a failed write, and out of memory, say nothing of a message too many, and what they say of a part
pub own_many : (f : PassFault) (P : ℕ → Type 0) → IsWriteOrMemory f → IfTooMany f P
own_many (Capture f) P own = absurd own
own_many (TooMany n) P own = absurd own
own_many Unwritten P own = tt
own_many Memory P own = tt

pub own_cut : (f : PassFault) (P : Type 0) → IsWriteOrMemory f → P → IfCutShort f P
own_cut (Capture f) P own h = absurd own
own_cut (TooMany n) P own h = absurd own
own_cut Unwritten P own h = h
own_cut Memory P own h = h

-- ---- the messages of a piece

by_with : (place id : ℕ) (origin : Origin) (ms : List Message) → AreBy origin.tick (arrivals_with place id origin ms)
by_with place id origin [] = All-nil (λ a. a.origin.tick ≤ origin.tick)
by_with place id origin (m ∷ ms) = All-cons (λ a. a.origin.tick ≤ origin.tick) _ (arrivals_with place id origin ms) (omega arith) (by_with place id origin ms)

pub by_more : (place id : ℕ) (origin : Origin) (ms : List Message) (arrivals : List Arrival) → AreBy origin.tick arrivals → AreBy origin.tick (arrivals ++ arrivals_with place id origin ms)
by_more place id origin ms arrivals by = All-append (λ a. a.origin.tick ≤ origin.tick) arrivals (arrivals_with place id origin ms) by (by_with place id origin ms)

-- what holds at any fault
pub on_err : {T : Type 0} (r : Result T PassFault) (P : Type 0) → P → OnErr r P
on_err (Ok x) P h = tt
on_err (Err f) P h = h
