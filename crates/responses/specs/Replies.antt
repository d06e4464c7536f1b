-- The text of a reply: a status line, fields in their order, an empty line, a body (RFC 9112, 2.1).
use Rattle.std.specs.Prelude.{◌≡◌, ℕ, Bool, true, List, [], ◌++◌, Option, Some, None, ⊤, if◌then◌else◌}
use Rattle.std.specs.Prelude.{Result, OnOk, flat_map, codes, decimal}
use Rattle.std.specs.List.{list_all}
use Rattle.paths.specs.Reference.{file_of}
use Rattle.std.specs.Char.{is_ascii_graphic}
use Rattle.paths.specs.declared.file.File.{File}
use Rattle.responses.specs.declared.slip.ResponseKind.{ResponseKind}
use Rattle.responses.specs.declared.slip.ResponseKind.TheVariants.{Page, Known, Unmodified, Moved}
use Rattle.responses.specs.declared.slip.Slip.{Slip}
use Rattle.responses.specs.Reference.{status_of, status_text, content_of, head_text, field_line}

-- What is asked of a slip: a length without its bytes answers HEAD alone ..
abbrev pub OnlyHead : {X : Type 0} → Bool → ResponseKind X → Type 0
OnlyHead head (Known media len mtime) = head ≡ true
OnlyHead head what = ⊤

-- .. and a location is of visible characters of ASCII, as all of a URI are (RFC 3986, 2); so is each that `locate` of
-- `paths` answers
abbrev pub HasLocation : {X : Type 0} → ResponseKind X → Type 0
HasLocation (Moved location) = list_all is_ascii_graphic location ≡ true
HasLocation what = ⊤

-- The body of a GET in the two parts in which a reply is held: the line, and the bytes of the page that is shared.
abbrev pub note_of : {X : Type 0} → ResponseKind X → List ℕ
note_of (Page file mtime) = []
note_of (Known media len mtime) = []
note_of (Unmodified mtime) = []
note_of what = status_text (status_of what)

abbrev pub held_body : List File → Option ℕ → List ℕ
held_body files None = []
held_body files (Some file) = (file_of files file).bytes

-- the body: none in the answer to HEAD
abbrev pub body_text : {X : Type 0} → List File → Slip X → List ℕ
body_text files slip = if slip.head then [] else content_of files slip.what

-- the line before a reply of n bytes
abbrev pub record_line : ℕ → ℕ → ℕ → List ℕ
record_line number conn len =
    codes "reply " ++ decimal number ++ codes " " ++ decimal conn ++ codes " " ++ decimal len ++ codes "\n"

-- fields were added at the end of a head, unless memory ran out
abbrev pub AddsFields : {E : Type 0} → List ℕ → List ℕ → Result (Unit {0}) E → List (List ℕ × List ℕ) → Type 0
AddsFields old new result fields = OnOk result (new ≡ old ++ flat_map field_line fields)
