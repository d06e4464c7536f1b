-- What was taken of a text when a read failed.
use Rattle.std.specs.Prelude.{◌≡◌, ℕ, ◌+◌, ◌-◌, ◌<◌, ◌≤◌, ◌⊎◌, true, List, [], ◌++◌, length, Option, Err, is_some}
use Rattle.std.specs.Prelude.{unwrap_or}
use Rattle.paths.specs.Snapshots.{max_text_bytes, file_text, text_before_end, snapshot_text, IsSnapshot, Follows}
use Rattle.paths.specs.SnapshotFaults.{header_at, entry_at}
use Rattle.paths.specs.declared.file.File.{File}
use Rattle.paths.specs.declared.snapshot_fault.SnapshotFault.{SnapshotFault}
use Rattle.paths.specs.declared.snapshot_fault.SnapshotFaultKind.TheVariants.{Cut, Read, Memory}

-- A call that failed had taken the texts of these files whole, and this part after them. The fault names the entry
-- after the files.
pub record Reached (text : List ℕ) (f : SnapshotFault) (files : List File) (part rest : List ℕ) : Type 0 where
  pub taken : text ≡ (text_before_end files ++ part) ++ rest
  pub rules : IsSnapshot files
  pub size : length (text_before_end files) + length part ≤ max_text_bytes
  pub entry : f.entry ≡ length files + 1

-- the part is one of the entry after these files, which is cut
abbrev pub IsCutEntry : List File → List ℕ → Type 0
IsCutEntry files part =
    entry_at files (record { bytes = part; left = max_text_bytes - length (text_before_end files) }) ≡ Err Cut

-- a read failed in the entry that the fault names
abbrev pub FailsInEntry : List ℕ → SnapshotFault → List File → List ℕ → List ℕ → Type 0
FailsInEntry text f files part rest = Reached text f files part rest × IsCutEntry files part

-- memory ran out for the entry that the fault names: some of it had been taken, or the whole of one more file
abbrev pub LacksInEntry : List ℕ → SnapshotFault → List File → List ℕ → List ℕ → Type 0
LacksInEntry text f files part rest = Reached text f files part rest × (0 < length part)
    × (IsCutEntry files part ⊎ ((file : File) × Follows files file × (part ≡ file_text file)))

-- it failed in the first line, which is entry 0
pub record FailsInHeader (text : List ℕ) (f : SnapshotFault) (part rest : List ℕ) : Type 0 where
  pub taken : text ≡ part ++ rest
  pub size : length part ≤ max_text_bytes
  pub entry : f.entry ≡ 0
  pub cut : header_at (record { bytes = part; left = max_text_bytes }) ≡ Err Cut

-- a read of a snapshot failed with this rest ahead
abbrev pub FailsInSnapshot : List ℕ → List ℕ → SnapshotFault → Type 0
FailsInSnapshot text rest f = ((part : List ℕ) × FailsInHeader text f part rest)
    ⊎ ((files : List File) × (part : List ℕ) × FailsInEntry text f files part rest)

-- it failed after the last line, where the end of the input was looked for
pub record FailsAtEnd (text : List ℕ) (f : SnapshotFault) (files : List File) (rest : List ℕ) : Type 0 where
  pub taken : text ≡ snapshot_text files ++ rest
  pub rules : IsSnapshot files
  pub size : length (snapshot_text files) ≤ max_text_bytes
  pub entry : f.entry ≡ length files + 1

-- where the bytes of the input are known and memory ran out
abbrev pub NamesLacking : Option (List ℕ) → Option (List ℕ) → SnapshotFault → Type 0
NamesLacking old new f = f.kind ≡ Memory → is_some old ≡ true → (files : List File) × (part : List ℕ)
    × LacksInEntry (unwrap_or old []) f files part (unwrap_or new [])

-- where the bytes of the input are known and the fault is a failed read
abbrev pub NamesFailed : (List ℕ → List ℕ → SnapshotFault → Type 0) → Option (List ℕ) → Option (List ℕ) → SnapshotFault
    → Type 0
NamesFailed Fails old new f = f.kind ≡ Read → is_some old ≡ true → Fails (unwrap_or old []) (unwrap_or new []) f

-- it failed in an entry, or after the last line
abbrev pub FailsInText : List ℕ → List ℕ → SnapshotFault → Type 0
FailsInText text rest f = FailsInSnapshot text rest f ⊎ ((files : List File) × FailsAtEnd text f files rest)
