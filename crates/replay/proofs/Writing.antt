-- What was written of one more message, and of one more record.
use Rattle.std.proofs.Common.{◌≡◌, ℕ, suc, ◌+◌, ◌<◌, List, [], ◌∷◌, ◌++◌, length, take, get_or, Option, refl, sym, ap, ◌∙◌, arith, append-nil}
use Rattle.std.proofs.lemmas.List.{append_assoc, map-append, length-map}
use Rattle.std.proofs.lemmas.Grind.{flat_map-append}
use Rattle.std.proofs.Math.Seq.{take-suc}
use Rattle.devices.proofs.Appending.{appends_none, appends_then, prefix_then}
use Rattle.http_requests.specs.declared.messages.Message.{Message}
use Rattle.responses.specs.Reference.{record_text}
use Rattle.arrivals.specs.declared.incoming.Origin.{Origin}
use Rattle.reference.specs.Reference.{Terms, handled_next, handled_after, handled, reply_of, replies_of, first_line, last_line, text_before_stop}
use Rattle.arrivals.specs.Reference.{Arrival}
use Rattle.arrivals.specs.Connections.{arrivals_with}
use Rattle.reference.specs.Texts.{AreTexts, reply_texts}
use Rattle.replay.specs.Serving.{records_after, Written, WrittenInPart}
use Rattle.reference.proofs.Offering.{handled_more, handled_one, handled_count}
use Rattle.paths.specs.declared.file.File.{File}

-- ---- messages

pub arrivals_step : (place id : ℕ) (origin : Origin) (ms : List Message) (i : ℕ) (d : Message) → i < length ms
    → arrivals_with place id origin (take (i + 1) ms) ≡ arrivals_with place id origin (take i ms) ++ record { origin = origin; connection = id; place = place; message = get_or ms i d } ∷ []
arrivals_step place id origin ms i d lt =
    let e : i + 1 ≡ suc i = omega arith in
    rw (e, take-suc ms i d lt) (map-append (λ m. record { origin = origin; connection = id; place = place; message = m }) (take i ms) (get_or ms i d ∷ []))

pub records_more : (files : List File) (terms : Terms) (start : ℕ) (earlier first more : List Arrival)
    → records_after files terms start earlier (first ++ more) ≡ records_after files terms start earlier first ++ records_after files terms start (earlier ++ first) more
records_more files terms start earlier first more =
    rw (
      handled_more files terms earlier first more,
      map-append (reply_of files terms start) (handled_after files terms earlier first) (handled_after files terms (earlier ++ first) more),
    )
    (flat_map-append record_text (replies_of files terms start (handled_after files terms earlier first)) (replies_of files terms start (handled_after files terms (earlier ++ first) more)))

pub records_none : (files : List File) (terms : Terms) (start : ℕ) (earlier : List Arrival) → records_after files terms start earlier [] ≡ []
unfolding handled_after
records_none files terms start earlier = refl

pub records_one : (files : List File) (terms : Terms) (start : ℕ) (earlier : List Arrival) (a : Arrival) → records_after files terms start earlier (a ∷ []) ≡ record_text (reply_of files terms start (handled_next files terms earlier a))
records_one files terms start earlier a = rw (handled_one files terms earlier a) (append-nil (record_text (reply_of files terms start (handled_next files terms earlier a))))

pub written_none : (files : List File) (terms : Terms) (start : ℕ) (earlier : List Arrival) (old : Option (List ℕ)) → Written files terms start earlier [] old old
written_none files terms start earlier old = rw (records_none files terms start earlier) (appends_none old)

pub written_more : (files : List File) (terms : Terms) (start : ℕ) (earlier first more : List Arrival) (old mid new : Option (List ℕ)) → Written files terms start earlier first old mid
    → Written files terms start (earlier ++ first) more mid new → Written files terms start earlier (first ++ more) old new
written_more files terms start earlier first more old mid new before after =
    rw (records_more files terms start earlier first more) (appends_then old mid new (records_after files terms start earlier first) (records_after files terms start (earlier ++ first) more) before after)

pub part_more : (files : List File) (terms : Terms) (start : ℕ) (earlier first more : List Arrival) (old mid new : Option (List ℕ)) → Written files terms start earlier first old mid
    → WrittenInPart files terms start (earlier ++ first) more mid new → WrittenInPart files terms start earlier (first ++ more) old new
part_more files terms start earlier first more old mid new before after =
    rw (records_more files terms start earlier first more) (prefix_then old mid new (records_after files terms start earlier first) (records_after files terms start (earlier ++ first) more) before after)

-- ---- the whole text

pub text_none : (files : List File) (terms : Terms) (start : ℕ) → text_before_stop (replies_of files terms start (handled files terms [])) ≡ first_line
unfolding handled_after
text_none files terms start = append-nil first_line

pub text_more : (files : List File) (terms : Terms) (start : ℕ) (arrivals more : List Arrival)
    → text_before_stop (replies_of files terms start (handled files terms (arrivals ++ more))) ≡ text_before_stop (replies_of files terms start (handled files terms arrivals)) ++ records_after files terms start arrivals more
text_more files terms start arrivals more =
    rw (records_more files terms start [] arrivals more) (sym (append_assoc first_line (records_after files terms start [] arrivals) (records_after files terms start arrivals more)))

pub replies_count : (files : List File) (terms : Terms) (start : ℕ) (arrivals : List Arrival) → length (replies_of files terms start (handled files terms arrivals)) ≡ length arrivals
replies_count files terms start arrivals = length-map (handled files terms arrivals) (reply_of files terms start) ∙ handled_count files terms [] arrivals

-- the replies are reported from the first line to the last
pub replies_laws : (files : List File) (terms : Terms) → AreTexts (reply_texts files terms)
replies_laws files terms = record {
  begins = text_none files terms;
  goes_on = text_more files terms;
  none = records_none files terms;
  more = records_more files terms;
  ends = λ start arrivals. ap (λ n. text_before_stop (replies_of files terms start (handled files terms arrivals)) ++ last_line n) (replies_count files terms start arrivals);
}
