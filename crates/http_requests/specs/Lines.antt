-- What the code reads of a head, whose parts the parser gives as places in the block.
use Rattle.std.specs.Prelude.{◌≡◌, ℕ, ◌≤◌, Bool, true, false, List, [], ◌∷◌, length, map, All, codes}
use Rattle.httparse.specs.declared.spans.Span.{Span}
use Rattle.httparse.specs.Grammar.{RequestHead}
use Rattle.httparse.specs.Spans.{header_bytes, span_bytes, IsWithin, IsHeaderWithin}
use Rattle.http_requests.specs.Reference.{FieldLine, PartsSay, lines_of, same_text, values_of}
use Rattle.http_requests.specs.declared.heads.Verdict.{Verdict}
use Rattle.http_requests.specs.declared.heads.Head.{Head}
use Rattle.http_requests.specs.declared.heads.Lines.{Lines}
use Rattle.http_requests.specs.declared.heads.Noted.{Noted}
use Rattle.http_requests.specs.declared.heads.Lines.TheVariants.{Absent, Once, Repeated}

-- each place of the head lies within its block
pub record LiesWithin (head : Head) : Type 0 where
  pub method : IsWithin (length head.block.now) head.method
  pub target : IsWithin (length head.block.now) head.target
  pub headers : All (IsHeaderWithin (length head.block.now)) head.headers.now

-- the field lines that stand at the head's places
abbrev pub lines_at : Head → List FieldLine
lines_at head = map (header_bytes head.block.now) head.headers.now

-- what a head says
abbrev pub HeadSays : RequestHead → Verdict → Type 0
HeadSays head verdict = PartsSay head.method head.target head.minor (lines_of head.fields) verdict

-- what the head says, whose parts stand at its places
abbrev pub Says : Head → Verdict → Type 0
Says head verdict =
    PartsSay (span_bytes head.block.now head.method) (span_bytes head.block.now head.target) head.minor
    (lines_at head) verdict

-- how often there is a value, and where the only one stands
abbrev pub AreLines : List ℕ → List (List ℕ) → Lines → Type 0
AreLines block values Absent = values ≡ []
AreLines block values (Once span) = IsWithin (length block) span × (values ≡ span_bytes block span ∷ [])
AreLines block values Repeated = 2 ≤ length values

-- these lines, and one more with this value if it has the name
abbrev pub and_if : Lines → Bool → Span → Lines
and_if lines false value = lines
and_if Absent true value = Once value
and_if (Once first) true value = Repeated
and_if Repeated true value = Repeated

-- there is a line
abbrev pub is_there : Lines → Bool
is_there Absent = false
is_there (Once value) = true
is_there Repeated = true

-- the lines of each name that counts besides Host
pub record AreNoted (block : List ℕ) (lines : List FieldLine) (noted : Noted) : Type 0 where
  pub coding : AreLines block (values_of (codes "transfer-encoding") lines) noted.coding
  pub length : AreLines block (values_of (codes "content-length") lines) noted.length
  pub connection : AreLines block (values_of (codes "connection") lines) noted.connection
  pub none_match : AreLines block (values_of (codes "if-none-match") lines) noted.none_match
  pub since : AreLines block (values_of (codes "if-modified-since") lines) noted.since

-- a line with this value was added to those of its name
pub record AddsLine (name : List ℕ) (value : Span) (old new : Noted) : Type 0 where
  pub coding : new.coding ≡ and_if old.coding (same_text name (codes "transfer-encoding")) value
  pub length : new.length ≡ and_if old.length (same_text name (codes "content-length")) value
  pub connection : new.connection ≡ and_if old.connection (same_text name (codes "connection")) value
  pub none_match : new.none_match ≡ and_if old.none_match (same_text name (codes "if-none-match")) value
  pub since : new.since ≡ and_if old.since (same_text name (codes "if-modified-since")) value
