-- What a canonical block says to whoever reads it, and what a slim text becomes.
use Rattle.std.specs.Prelude.{◌≡◌, ℕ, ◌<◌, ◌≤◌, ◌==◌, false, List, [], ◌∷◌, ◌++◌, length, Option, Some}
use Rattle.std.specs.Io.KnownBytes.{Appends}
use Rattle.std.specs.List.{list_any}
use Rattle.paths.specs.Reference.{asked, question_mark}
use Rattle.decision_table.specs.declared.row.Row.{Row}
use Rattle.reference.specs.Reference.{Terms, Answers, handled, replies_of, rejected_of, summary_of}
use Rattle.reference.specs.Explaining.{Explains, row_of, method_of, table}
use Rattle.reference.specs.Laws.{reported_in}
use Rattle.reference.specs.declared.summary.Outcome.{Outcome}
use Rattle.captures.specs.declared.version.Version.{Version}
use Rattle.captures.specs.declared.record.Record.{Record}
use Rattle.captures.specs.declared.version.Version.TheVariants.{Traffic}
use Rattle.captures.specs.declared.capture_fault.CaptureFault.{CaptureFault}
use Rattle.captures.specs.Reference.{IsCaptureText, used_once}
use Rattle.captures.specs.Upgrades.{later}
use Rattle.arrivals.specs.Reference.{Arrival, AreArrivals}
use Rattle.slim.specs.Slims.{IsTooLarge, KeepsArrivals, slimmed}
use Rattle.slim.specs.Targets.{kept_arrivals, kept_what, without_query}
use Rattle.slim.specs.declared.queries.Queries.{Queries}
use Rattle.slim.specs.declared.queries.Queries.TheVariants.{Kept}
use Rattle.http_requests.specs.declared.heads.Verdict.{Verdict}
use Rattle.http_requests.specs.declared.messages.Meaning.{Meaning}
use Rattle.http_requests.specs.Reference.{IsVerdict}
use Rattle.slim.specs.Blocks.{block_of}
use Rattle.paths.specs.declared.file.File.{File}

-- The canonical block of what a block says has the same verdict, but for the body: it has none. So has that of the
-- meaning without its query, which is no longer.
abbrev pub BlockReads : Type 0
BlockReads = (queries : Queries) (block : List ℕ) (verdict : Verdict) → IsVerdict block verdict
    → IsVerdict (block_of (kept_what queries verdict.what))
    (record { what = kept_what queries verdict.what; length = 0 })

abbrev pub NoLonger : Type 0
NoLonger = (queries : Queries) (what : Meaning) → length (block_of (kept_what queries what)) ≤ length (block_of what)

-- A request asks for the same without its query, whatever its method.
abbrev pub QueryAsksNothing : Type 0
QueryAsksNothing = (method target : List ℕ) → asked method (without_query target) ≡ asked method target

-- Nothing of a query is left.
abbrev pub QueryIsGone : Type 0
QueryIsGone = (target : List ℕ) → list_any (λ b. b == question_mark) (without_query target) ≡ false

-- what the rows of these messages after the earlier ones say, each in turn, but for their targets
unfoldable pub rows_but_targets : List File → Terms → List Arrival → List Arrival → List (Row × List ℕ)
rows_but_targets files terms earlier [] = []
rows_but_targets files terms earlier (a ∷ arrivals) = (row_of files terms earlier a, method_of a.message.what)
    ∷ rows_but_targets files terms (earlier ++ a ∷ []) arrivals

-- Messages without their queries have the same replies, the same are turned away, the summary is the same, and so is
-- what the table says of each but for its target.
abbrev pub QueriesChangeNothing : Type 0
QueriesChangeNothing = (queries : Queries) (files : List File) (terms : Terms) (start : ℕ) (arrivals : List Arrival)
    → (replies_of files terms start (handled files terms (kept_arrivals queries arrivals))
    ≡ replies_of files terms start (handled files terms arrivals))
    × (rejected_of (handled files terms (kept_arrivals queries arrivals)) ≡ rejected_of (handled files terms arrivals))
    × (summary_of files terms (kept_arrivals queries arrivals) ≡ summary_of files terms arrivals)
    × (rows_but_targets files terms [] (kept_arrivals queries arrivals) ≡ rows_but_targets files terms [] arrivals)

-- The one text is the slim text of the other, as `Slims` says: its records keep the arrivals, and it is a text of its
-- format.
pub record IsSlim (queries : Queries) (to : Version) (old new : List ℕ) : Type 0 where
  pub version : Version
  pub start : ℕ
  pub records : List Record
  pub capture : IsCaptureText version old start records
  pub arrivals : List Arrival
  pub arrived : AreArrivals (used_once records) arrivals
  pub kept : KeepsArrivals queries records arrivals
  pub text : IsCaptureText (later to version) new start (slimmed queries records arrivals)

-- A slim text that is too large for a traffic text is of a text of more than 135,000,000,000 bytes.
abbrev pub SlimFits : Type 0
SlimFits = (queries : Queries) (to : Version) (text : List ℕ) (old new : Option (List ℕ)) (f : CaptureFault)
    (t : IsTooLarge queries to (Some text) old new f)
    → later to t.read.version ≡ Traffic
    → 135000000000 < length text

-- A slim text given again comes out unchanged.
abbrev pub SlimAgain : Type 0
SlimAgain = (queries : Queries) (to : Version) (old new again : List ℕ)
    → IsSlim queries to old new → IsSlim queries to new again → again ≡ new

-- A text of recorded traffic and its slim text have the same answers but for their format, whatever the snapshot and
-- the settings: the same replies, byte for byte, the same messages turned away, the same summary; and the same table of
-- decisions, or without queries that of the arrivals without them.
abbrev pub SlimKeepsReplies : Type 0
SlimKeepsReplies = (files : List File) (terms : Terms) (queries : Queries) (to : Version) (text slim : List ℕ)
    (old new : Option (List ℕ))
    (outcome : Outcome) (s : IsSlim queries to text slim)
    → Answers files terms (Some text) old new outcome
    → Answers files terms (Some slim) old new (reported_in (later to s.version) outcome)

abbrev pub SlimKeepsRows : Type 0
SlimKeepsRows = (files : List File) (terms : Terms) (to : Version) (text slim : List ℕ) (old new : Option (List ℕ))
    (outcome : Outcome) (s : IsSlim Kept to text slim)
    → Explains files terms (Some text) old new outcome
    → Explains files terms (Some slim) old new (reported_in (later to s.version) outcome)

abbrev pub SlimKeepsDecisions : Type 0
SlimKeepsDecisions = (files : List File) (terms : Terms) (queries : Queries) (to : Version) (text slim : List ℕ)
    (old new slim_new : Option (List ℕ)) (outcome : Outcome) (s : IsSlim queries to text slim)
    → Explains files terms (Some text) old new outcome
    → Appends old slim_new (table files terms (kept_arrivals queries s.arrivals))
    → Explains files terms (Some slim) old slim_new (reported_in (later to s.version) outcome)
