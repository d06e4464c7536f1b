-- What a writer keeps of the files so far, and how it finds the first rule that one more breaks.
use Rattle.std.specs.Prelude.{◌≡◌, ℕ, ◌+◌, ◌-◌, ◌^◌, not, List, [], ◌∷◌, ◌++◌, length, take, map, min, decimal, Option}
use Rattle.std.specs.Prelude.{Some, None, nat_eq, nat_lt, nat_le, if◌then◌else◌, ◌==◌, ◌&&◌, Bool}
use Rattle.std.specs.List.{list_any, filter, starts_with, list_all}
use Rattle.paths.specs.declared.file.File.{File}
use Rattle.paths.specs.Reference.{lies_in, file_of}
use Rattle.paths.specs.Snapshots.{max_time, max_file_bytes, max_files, max_text_bytes, comes_before, file_text}
use Rattle.paths.specs.Snapshots.{text_before_end, max_name_bytes, is_name, snapshot_text}
use Rattle.snapshots.specs.declared.write_fault.WriteFault.{WriteFault}
use Rattle.snapshots.specs.declared.write_fault.WriteFault.TheVariants.{Time, Size, Count, Name, Order, Conflict, Text}
use Rattle.snapshots.specs.declared.so_far.FilesSoFar.{FilesSoFar}

-- The rules that a file may break after others (docs/FORMATS.md, "Snapshot").

-- a name of 1 to 1,024 bytes that is allowed
abbrev pub is_good_name : List ℕ → Bool
is_good_name name = not (length name == 0) && nat_le (length name) max_name_bytes && is_name name

-- the first rule that the file breaks after these files, or none
unfoldable pub broken_rule : List File → File → Option WriteFault
broken_rule files f =
    if nat_lt max_time f.mtime then Some Time
    else if nat_lt max_file_bytes (length f.bytes) then Some Size
    else if nat_le max_files (length files) then Some Count
    else if not (is_good_name f.name) then Some Name
    else if not (list_all (λ g. comes_before g.name f.name) files) then Some Order
    else if list_any (λ g. lies_in g.name f.name) files then Some Conflict
    else if nat_lt max_text_bytes (length (snapshot_text (files ++ f ∷ []))) then Some Text
    else None

abbrev pub a_file : List ℕ → ℕ → List ℕ → File
a_file name mtime bytes = record { name = name; mtime = mtime; bytes = bytes }

-- the last name, empty before the first
abbrev pub last_name : List File → List ℕ
last_name files = (file_of files (length files - 1)).name

-- how many bytes the names have with which a name begins
abbrev pub lengths_within : List File → List ℕ → List ℕ
lengths_within files name = map (λ f. length f.name) (filter (λ f. starts_with nat_eq name f.name) files)

-- what is kept of these files
pub record IsSoFar (files : List File) (s : FilesSoFar) : Type 0 where
  pub count : s.count ≡ length files
  pub size : s.size ≡ length (text_before_end files)
  pub last : s.names.last.items ≡ last_name files
  pub lengths : s.names.lengths.items ≡ lengths_within files (last_name files)

-- how many bytes there are with n more: a sum past 64 bits stands as the greatest of 64 bits, which is past the
-- limit
abbrev pub more : ℕ → ℕ → ℕ
more size n = min (size + n) (2 ^ 64 - 1)

-- the first rule that a file breaks, by what is kept of those before it
unfoldable pub broken_by : FilesSoFar → File → Option WriteFault
broken_by s f =
    if nat_lt max_time f.mtime then Some Time
    else if nat_lt max_file_bytes (length f.bytes) then Some Size
    else if nat_le max_files s.count then Some Count
    else if not (is_good_name f.name) then Some Name
    else if not (comes_before s.names.last.items f.name) then Some Order
    else if list_any (λ len. lies_in (take len s.names.last.items) f.name) s.names.lengths.items then Some Conflict
    else if nat_lt (max_text_bytes - (5 + length (decimal (s.count + 1))))
    (more s.size (length (file_text f))) then Some Text
    else None

-- what is kept with one more name, and n bytes of text more
pub record Grown (s : FilesSoFar) (name : List ℕ) (n : ℕ) (next : FilesSoFar) : Type 0 where
  pub count : next.count ≡ more s.count 1
  pub size : next.size ≡ more s.size n
  pub last : next.names.last.items ≡ name
  pub lengths : next.names.lengths.items
      ≡ filter (λ len. starts_with nat_eq name (take len s.names.last.items)) s.names.lengths.items ++ length name ∷ []
