-- What a reader has to believe: the definitions of this crate that the headline stands on, in reading order.
use Rattle.std.specs.Prelude.{ℕ, true, List, [], Option, Bool, ◌∷◌, ◌++◌, bytes_eq, nat_eq, slice_index_or, ◌-◌, ◌==◌}
use Rattle.std.specs.Prelude.{◌&&◌, ◌||◌, not, false, take, drop, length, map, Some, None, codes, if◌then◌else◌}
use Rattle.std.specs.Prelude.{flat_map}
use Rattle.std.specs.List.{list_any, starts_with, position, slice_split, before_first, position_or_len, join_with_byte}
use Rattle.std.specs.Option.{option_map}
use Rattle.std.specs.Char.{is_digit, to_ascii_lowercase, is_ascii_alphanumeric}
use Rattle.std.specs.Str.{is_utf8}
use Rattle.paths.specs.declared.file.File.{File}
use Rattle.percent_encoding.specs.Percent.{percent_decode, percent_encode_byte}
use Rattle.paths.specs.declared.target.Asked.{Asked}
use Rattle.paths.specs.declared.target.Asked.TheVariants.{Path, Missing, BadTarget, NotAllowed, NotKnown}
use Rattle.paths.specs.declared.resolution.Outcome.{Outcome}
use Rattle.paths.specs.declared.target.Asked.TheVariants as askeds
use Rattle.paths.specs.declared.resolution.Outcome.TheVariants as outcomes

-- Bytes of ASCII by name (RFC 20).

abbrev pub number_sign : ℕ
number_sign = 35

abbrev pub percent_sign : ℕ
percent_sign = 37

abbrev pub dot : ℕ
dot = 46

abbrev pub slash : ℕ
slash = 47

abbrev pub question_mark : ℕ
question_mark = 63

-- The files of a snapshot.

-- the name lies in the folder: it begins with the folder's name and a slash
abbrev pub lies_in : List ℕ → List ℕ → Bool
lies_in folder name = starts_with nat_eq name (folder ++ slash ∷ [])

abbrev pub no_file : File
no_file = record { name = []; mtime = 0; bytes = [] }

-- the file of a number below the number of files
abbrev pub file_of : List File → ℕ → File
file_of files n = slice_index_or files n no_file

-- the number of the file of this name, and whether some file lies in this folder
abbrev pub position_of : List File → List ℕ → Option ℕ
position_of files name = position (λ f. bytes_eq f.name name) files

abbrev pub has_folder : List File → List ℕ → Bool
has_folder files folder = list_any (λ f. lies_in folder f.name) files

-- What a request asks for, by its method and its target alone.

-- GET and HEAD are served (RFC 9110, 9.3.1 and 9.3.2); the other methods of RFC 9110, 9.3 are known. Case matters.
abbrev pub is_served : List ℕ → Bool
is_served method = bytes_eq method (codes "GET") || bytes_eq method (codes "HEAD")

abbrev pub is_known : List ℕ → Bool
is_known method = list_any (bytes_eq method)
    (codes "POST" ∷ codes "PUT" ∷ codes "DELETE" ∷ codes "CONNECT" ∷ codes "OPTIONS" ∷ codes "TRACE" ∷ [])

-- what stands after the authority of a target in absolute form; an authority has at least one byte
abbrev pub is_authority_end : ℕ → Bool
is_authority_end b = b == slash || b == question_mark

abbrev pub after_authority : List ℕ → Option (List ℕ)
after_authority rest =
    if position_or_len is_authority_end rest == 0 then None
    else Some (drop (position_or_len is_authority_end rest) rest)

-- The path of a target (RFC 9112, 3.2.1 and 3.2.2; RFC 3986, 3.3 to 3.5). It begins with a slash or is empty, which
-- means the same as a slash. A target with a `#`, or of another form, has none.
abbrev pub path_of : List ℕ → Option (List ℕ)
path_of target =
    if list_any (λ b. b == number_sign) target then None
    else if starts_with nat_eq target (codes "/") then Some (before_first (λ b. b == question_mark) target)
    else if bytes_eq (map to_ascii_lowercase (take 7 target)) (codes "http://")
    then option_map (before_first (λ b. b == question_mark)) (after_authority (drop 7 target))
    else None

-- two hexadecimal digits come first
abbrev pub begins_hexadecimal : List ℕ → Bool
begins_hexadecimal [] = false
begins_hexadecimal (h ∷ []) = false
begins_hexadecimal (h ∷ l ∷ bytes) = is_digit h 16 && is_digit l 16

-- after each `%` two hexadecimal digits stand (RFC 3986, 2.1)
abbrev pub has_good_escapes : List ℕ → Bool
has_good_escapes [] = true
has_good_escapes (b ∷ bytes) = (not (b == percent_sign) || begins_hexadecimal bytes) && has_good_escapes bytes

-- the segments of a path: what stands between the slashes after its first byte, each decoded by itself
abbrev pub segments_of : List ℕ → List (List ℕ)
segments_of path = map percent_decode (slice_split (λ b. b == slash) (drop 1 path))

-- a decoded segment that no name has as a part: no UTF-8, or with byte 0 or a slash
abbrev pub is_nameless : List ℕ → Bool
is_nameless segment = not (is_utf8 segment) || list_any (λ b. b == 0 || b == slash) segment

-- empty or `.`: it stands for the folder so far
abbrev pub is_here : List ℕ → Bool
is_here segment = bytes_eq segment [] || bytes_eq segment (codes ".")

-- `..`: it stands for the folder above
abbrev pub is_up : List ℕ → Bool
is_up segment = bytes_eq segment (codes "..")

-- The segments from left to right (RFC 3986, 5.2.4, but that nothing is above the root): those kept so far, and whether
-- the last one read stood for a folder. The first fault decides.
abbrev pub walked : List (List ℕ) → Bool → List (List ℕ) → Asked
walked kept folder [] = Path kept folder
walked kept folder (segment ∷ more) =
    if is_nameless segment then Missing
    else if is_here segment then walked kept true more
    else if is_up segment then (if length kept == 0 then BadTarget else walked (take (length kept - 1) kept) true more)
    else walked (kept ++ segment ∷ []) false more

-- what a path asks for
abbrev pub asked_by : Option (List ℕ) → Asked
asked_by None = BadTarget
asked_by (Some path) = if has_good_escapes path then walked [] true (segments_of path) else BadTarget

-- what a request asks for: first its method is looked at, then its target
abbrev pub asked : List ℕ → List ℕ → Asked
asked method target =
    if is_served method then asked_by (path_of target)
    else if is_known method then NotAllowed
    else NotKnown

-- What a request is answered with, by what it asks for and the names of the files.

-- letters, digits and `-._~` (RFC 3986, 2.3)
abbrev pub is_unreserved : ℕ → Bool
is_unreserved b = is_ascii_alphanumeric b || list_any (λ c. b == c) (codes "-._~")

-- a byte of a location: itself, or `%` and two hexadecimal digits, those above 9 in capitals (RFC 3986, 2.1)
abbrev pub location_byte : ℕ → List ℕ
location_byte b = if is_unreserved b then b ∷ [] else percent_encode_byte b

-- the location of a folder: its segments, each encoded after a slash, and a last slash
abbrev pub location : List (List ℕ) → List ℕ
location segments = flat_map (λ s. slash ∷ flat_map location_byte s) segments ++ slash ∷ []

-- the segments as a name
abbrev pub joined : List (List ℕ) → List ℕ
joined segments = join_with_byte slash segments

-- a file, or a folder that was named without its slash, or none
abbrev pub file_or_folder : Option ℕ → Bool → List ℕ → Outcome
file_or_folder (Some file) folder to = outcomes.File file
file_or_folder None true to = outcomes.Move to
file_or_folder None false to = outcomes.Missing

-- In folder form the folder's `index.html` is asked for; else a file, and a folder of that name is redirected to.
abbrev pub outcome : List File → Asked → Outcome
outcome files (askeds.Path segments true) = file_or_folder
    (position_of files (joined (segments ++ codes "index.html" ∷ []))) false []
outcome files (askeds.Path segments false) = file_or_folder (position_of files (joined segments))
    (has_folder files (joined segments)) (location segments)
outcome files askeds.Missing = outcomes.Missing
outcome files askeds.BadTarget = outcomes.BadTarget
outcome files askeds.NotAllowed = outcomes.NotAllowed
outcome files askeds.NotKnown = outcomes.NotKnown
