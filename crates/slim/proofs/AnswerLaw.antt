-- A text and its slim text have the same answers.
use Rattle.std.proofs.Common.{◌≡◌, ℕ, List, [], ◌∷◌, length, map, Some, refl, sym, ap, ◌∙◌, subst, arith}
use Rattle.std.specs.Io.KnownBytes.{Appends}
use Rattle.std.proofs.lemmas.List.{length-map}
use Rattle.captures.specs.declared.version.Version.{Version}
use Rattle.captures.specs.declared.record.Record.{Record}
use Rattle.captures.specs.Reference.{format_of, used_once}
use Rattle.captures.specs.Upgrades.{later}
use Rattle.captures.proofs.Agree.{one_list}
use Rattle.captures.proofs.UpgradeLaws.{more_messages}
use Rattle.http_requests.specs.declared.messages.Meaning.{Meaning}
use Rattle.arrivals.specs.Reference.{Arrival, AreArrivals}
use Rattle.arrivals.specs.declared.incoming.Origin.{Origin}
use Rattle.arrivals.proofs.ArrivalLaws.{one_list_of_arrivals}
use Rattle.reference.proofs.InOrder.{answered}
use Rattle.reference.specs.Reference.{ArrivedCapture, Terms, replies_of, replies_text, handled, rejected_of, summary_of}
use Rattle.reference.specs.Outcomes.{outcome_of}
use Rattle.reference.specs.Explaining.{table}
use Rattle.reference.specs.Laws.{asked_by, reported_in}
use Rattle.reference.specs.declared.summary.Outcome.{Outcome}
use Rattle.reference.proofs.ByMeaning.{by_meaning}
use Rattle.reference.proofs.OneAnswer.{same_outcome}
use Rattle.slim.specs.declared.queries.Queries.{Queries}
use Rattle.slim.specs.declared.queries.Queries.TheVariants.{Kept}
use Rattle.slim.specs.Targets.{kept_arrival, kept_arrivals}
use Rattle.slim.specs.Slims.{seen, slimmed}
use Rattle.slim.specs.Laws.{IsSlim, SlimKeepsReplies, SlimKeepsRows, SlimKeepsDecisions}
use Rattle.slim.proofs.KeptTargets.{kept_all}
use Rattle.slim.proofs.SameAnswers.{change_nothing}
use Rattle.paths.specs.declared.file.File.{File}

-- what answers depend on is seen
abbrev asked_of : Origin × ℕ × Meaning → Origin × Meaning
asked_of q = (q.0, q.2)

asked_seen : (xs : List Arrival) → map asked_by xs ≡ map asked_of (map seen xs)
asked_seen [] = refl
asked_seen (x ∷ xs) = ap (λ l. asked_by x ∷ l) (asked_seen xs)

asked_same : (xs ys : List Arrival) → map seen xs ≡ map seen ys → map asked_by xs ≡ map asked_by ys
asked_same xs ys same = asked_seen xs ∙ ap (map asked_of) same ∙ sym (asked_seen ys)

count_same : (xs ys : List Arrival) → map seen xs ≡ map seen ys → length xs ≡ length ys
count_same xs ys same = sym (length-map xs seen) ∙ ap length same ∙ length-map ys seen

kept_count : (queries : Queries) (xs : List Arrival) → length (kept_arrivals queries xs) ≡ length xs
unfolding kept_arrivals
kept_count queries xs = length-map xs (kept_arrival queries)

-- the capture that the slim text is, beside the one that was read
record Beside (queries : Queries) (to : Version) (text slim : List ℕ) (s : IsSlim queries to text slim) (read : ArrivedCapture (Some text)) : Type 0 where
  own : ArrivedCapture (Some slim)
  version : own.capture.version ≡ later to s.version
  start : own.capture.start ≡ read.capture.start
  arrivals : read.arrivals ≡ s.arrivals
  asked : map asked_by own.arrivals ≡ map asked_by (kept_arrivals queries s.arrivals)

beside : (queries : Queries) (to : Version) (text slim : List ℕ) (s : IsSlim queries to text slim) → (read : ArrivedCapture (Some text)) → Beside queries to text slim s read
beside queries to text slim s read =
    let kept = s.kept in
    let same = one_list text read.capture.version s.version read.capture.start s.start read.capture.records s.records (read.capture.text refl) s.capture in
    let arrived : AreArrivals (used_once s.records) read.arrivals = subst (λ (rs : List Record). AreArrivals (used_once rs) read.arrivals) same.2 read.are in
    let one : read.arrivals ≡ s.arrivals = one_list_of_arrivals (used_once s.records) read.arrivals s.arrivals arrived s.arrived in
    let few = read.few in
    let most = ap (λ v. (format_of v).max_messages) same.0 in
    let wider = more_messages to s.version in
    let count = count_same kept.slims (kept_arrivals queries s.arrivals) kept.same ∙ kept_count queries s.arrivals in
    let count_read = ap length one in
    record {
      own = record {
        capture = record { version = later to s.version; start = s.start; records = slimmed queries s.records s.arrivals; rules = s.text.rules; text = λ known. s.text };
        arrivals = kept.slims;
        are = kept.arrived;
        few = omega (arith, few, most, wider, count, count_read);
      };
      version = refl;
      start = sym same.1;
      arrivals = one;
      asked = asked_same kept.slims (kept_arrivals queries s.arrivals) kept.same;
    }

-- what both come to
record Alike (files : List File) (terms : Terms) (start : ℕ) (xs ys : List Arrival) : Type 0 where
  replies : replies_of files terms start (handled files terms xs) ≡ replies_of files terms start (handled files terms ys)
  rejected : rejected_of (handled files terms xs) ≡ rejected_of (handled files terms ys)
  summary : summary_of files terms xs ≡ summary_of files terms ys

alike : (queries : Queries) (to : Version) (text slim : List ℕ) (s : IsSlim queries to text slim) (read : ArrivedCapture (Some text)) (b : Beside queries to text slim s read) (files : List File) (terms : Terms)
    → Alike files terms read.capture.start b.own.arrivals read.arrivals
alike queries to text slim s read b files terms =
    let start = read.capture.start in
    let same = by_meaning files terms start b.own.arrivals (kept_arrivals queries s.arrivals) b.asked in
    let nothing = change_nothing queries files terms start s.arrivals in
    let one : s.arrivals ≡ read.arrivals = sym b.arrivals in
    record {
      replies = same.0 ∙ nothing.0 ∙ ap (λ xs. replies_of files terms start (handled files terms xs)) one;
      rejected = same.1 ∙ nothing.1 ∙ ap (λ xs. rejected_of (handled files terms xs)) one;
      summary = same.2 ∙ nothing.2 ∙ ap (summary_of files terms) one;
    }

pub keeps_replies : SlimKeepsReplies
keeps_replies files terms queries to text slim old new outcome s a =
    let b = beside queries to text slim s a.read in
    let same = alike queries to text slim s a.read b files terms in
    let replies : replies_of files terms a.read.capture.start (handled files terms a.read.arrivals) ≡ replies_of files terms b.own.capture.start (handled files terms b.own.arrivals) =
    sym same.replies ∙ ap (λ t. replies_of files terms t (handled files terms b.own.arrivals)) (sym b.start) in
    answered files terms (Some slim) old new (reported_in (later to s.version) outcome) b.own
    (subst (λ rs. Appends old new (replies_text rs)) replies a.written_exactly)
    (same_outcome (reported_in (later to s.version) outcome) (outcome_of b.own.capture.version files terms b.own.arrivals) (sym b.version)
    (a.listed_exactly ∙ sym same.rejected) (a.figures ∙ sym same.summary))

pub keeps_decisions : SlimKeepsDecisions
keeps_decisions files terms queries to text slim old new other outcome s a written =
    let b = beside queries to text slim s a.read in
    let same = alike queries to text slim s a.read b files terms in
    let rows = by_meaning files terms b.own.capture.start b.own.arrivals (kept_arrivals queries s.arrivals) b.asked in
    record {
      read = b.own;
      written = subst (λ (t : List ℕ). Appends old other t) (sym rows.3) written;
      outcome_is = same_outcome (reported_in (later to s.version) outcome) (outcome_of b.own.capture.version files terms b.own.arrivals) (sym b.version)
          (ap (λ (o : Outcome). o.rejected) a.outcome_is ∙ sym same.rejected) (ap (λ (o : Outcome). o.summary) a.outcome_is ∙ sym same.summary);
    }

pub keeps_rows : SlimKeepsRows
keeps_rows files terms to text slim old new outcome s a =
    let b = beside Kept to text slim s a.read in
    let rows : table files terms a.read.arrivals ≡ table files terms (kept_arrivals Kept s.arrivals) = ap (table files terms) (b.arrivals ∙ sym (kept_all s.arrivals)) in
    keeps_decisions files terms Kept to text slim old new new outcome s a (subst (λ (t : List ℕ). Appends old new t) rows a.written)
