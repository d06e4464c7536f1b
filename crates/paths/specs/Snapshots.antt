-- The text of a snapshot of a file tree.
use Rattle.std.specs.Prelude.{◌≡◌, ℕ, ◌<◌, ◌≤◌, ◌==◌, ◌&&◌, not, Bool, true, false, List, [], ◌∷◌, ◌++◌, length, All}
use Rattle.std.specs.Prelude.{codes, decimal, bytes_eq, flat_map, Result, MatchResult, ◌≢◌, get_or, take}
use Rattle.std.specs.List.{list_all, list_any, slice_split, AllPairs}
use Rattle.std.specs.Str.{is_utf8}
use Rattle.std.specs.Ordering.{is_lt, nat_cmp}
use Rattle.std.specs.Cmp.Lexicographic.{slice_cmp}
use Rattle.devices.specs.Reference.{line_feed}
use Rattle.paths.specs.Reference.{slash, lies_in, file_of}
use Rattle.paths.specs.declared.file.File.{File}

-- the greatest number of files, of bytes of a file, of bytes of a name and of bytes of a text, and the greatest time
abbrev pub max_files : ℕ
max_files = 65536

abbrev pub max_file_bytes : ℕ
max_file_bytes = 16777216

abbrev pub max_name_bytes : ℕ
max_name_bytes = 1024

abbrev pub max_time : ℕ
max_time = 253402300799

abbrev pub max_text_bytes : ℕ
max_text_bytes = 1073741824

-- the line before a file
abbrev pub file_line : File → List ℕ
file_line f = codes "file " ++ decimal f.mtime ++ codes " " ++ decimal (length f.name) ++ codes " "
    ++ decimal (length f.bytes)

-- a file: its line, its name and its bytes, each with a line feed
abbrev pub file_text : File → List ℕ
file_text f = file_line f ++ line_feed ∷ (f.name ++ line_feed ∷ (f.bytes ++ line_feed ∷ []))

-- the first line, without its line feed
abbrev pub first_line : List ℕ
first_line = codes "haboob-snapshot 1"

-- the last line, without its line feed
abbrev pub last_line : List File → List ℕ
last_line files = codes "end " ++ decimal (length files)

-- the text up to the last line, and the whole text
abbrev pub text_before_end : List File → List ℕ
text_before_end files = (first_line ++ line_feed ∷ []) ++ flat_map file_text files

abbrev pub snapshot_text : List File → List ℕ
snapshot_text files = text_before_end files ++ (last_line files ++ line_feed ∷ [])

-- a part of a name between slashes: not empty, `.` or `..`
abbrev pub is_part : List ℕ → Bool
is_part part = not (bytes_eq part []) && not (bytes_eq part (codes ".")) && not (bytes_eq part (codes ".."))

-- a name: UTF-8 without byte 0, of such parts
abbrev pub is_name : List ℕ → Bool
is_name name = is_utf8 name && list_all (λ b. not (b == 0)) name && list_all is_part
    (slice_split (λ b. b == slash) name)

-- the first name comes before the second, by their bytes
abbrev pub comes_before : List ℕ → List ℕ → Bool
comes_before m n = is_lt (slice_cmp nat_cmp m n)

-- a file within the limits
pub record IsFile (f : File) : Type 0 where
  pub mtime : f.mtime ≤ max_time
  pub some : 0 < length f.name
  pub short : length f.name ≤ max_name_bytes
  pub name : is_name f.name ≡ true
  pub bytes : length f.bytes ≤ max_file_bytes

-- The files of a snapshot: their names rise, and no file has the name of a folder. (A name that lies in a folder comes
-- after the folder's own name, so it is enough to look at later files.)
pub record IsSnapshot (files : List File) : Type 0 where
  pub count : length files ≤ max_files
  pub each : All IsFile files
  pub rising : AllPairs (λ f g. comes_before f.name g.name ≡ true) files
  pub apart : AllPairs (λ f g. lies_in f.name g.name ≡ false) files

-- the bytes are the text of a snapshot of these files
pub record IsSnapshotText (bytes : List ℕ) (files : List File) : Type 0 where
  pub text : bytes ≡ snapshot_text files
  pub rules : IsSnapshot files
  pub size : length bytes ≤ max_text_bytes

-- a prefix of the bytes is the text of a snapshot of these files, and this rest is after it
pub record BeginsWithSnapshot (bytes : List ℕ) (files : List File) (rest : List ℕ) : Type 0 where
  pub text : bytes ≡ snapshot_text files ++ rest
  pub rules : IsSnapshot files
  pub size : length (snapshot_text files) ≤ max_text_bytes

-- the name, of n bytes, may stand after those of these files
pub record FitsName (files : List File) (len : ℕ) (name : List ℕ) : Type 0 where
  pub length_is : length name ≡ len
  pub is : is_name name ≡ true
  pub order : list_all (λ f. comes_before f.name name) files ≡ true
  pub apart : list_any (λ f. lies_in f.name name) files ≡ false

-- the file may stand after these files
pub record Follows (files : List File) (f : File) : Type 0 where
  pub capacity : length files < max_files
  pub file : IsFile f
  pub order : list_all (λ g. comes_before g.name f.name) files ≡ true
  pub apart : list_any (λ g. lies_in g.name f.name) files ≡ false

-- The file of this name stands there, after those that come before it; or none has it, those before the place come
-- before it and the others after it.
abbrev pub IsPlace : List File → List ℕ → Result ℕ ℕ → Type 0
IsPlace files name r = MatchResult r
    (λ i. (i < length files) × ((file_of files i).name ≡ name)
    × ((k : ℕ) → k < i → comes_before (file_of files k).name name ≡ true))
    (λ i. (i ≤ length files) × ((k : ℕ) → k < i → comes_before (file_of files k).name name ≡ true)
    × ((k : ℕ) → i ≤ k → k < length files → comes_before name (file_of files k).name ≡ true))

-- Which folders of a name are no files.

-- no file has this name
abbrev pub HasNoFile : List File → List ℕ → Type 0
HasNoFile files name = (j : ℕ) → j < length files → (file_of files j).name ≢ name

-- no file has the name of a folder in which the name lies, as far as the folder's slash is among the name's first n
-- bytes
abbrev pub HasNoFileAbove : List File → List ℕ → ℕ → Type 0
HasNoFileAbove files name n = (k : ℕ) → k < n → get_or name k 0 ≡ slash → HasNoFile files (take k name)
