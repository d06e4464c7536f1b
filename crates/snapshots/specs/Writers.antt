-- A writer of a snapshot's text, which takes file after file.
use Rattle.std.specs.Prelude.{◌≡◌, ℕ, ◌+◌, ◌≤◌, List, length, Option, Some, None, Result, Ok, Err, MatchResult}
use Rattle.std.specs.Io.KnownBytes.{Appends}
use Rattle.devices.specs.Devices.{CountsBy}
use Rattle.paths.specs.declared.file.File.{File}
use Rattle.paths.specs.Snapshots.{max_text_bytes, text_before_end, snapshot_text, IsSnapshot}
use Rattle.snapshots.specs.declared.write_fault.WriteFault.{WriteFault}
use Rattle.snapshots.specs.declared.write_fault.WriteFault.TheVariants.{Write as Unwritten, Memory}
use Rattle.snapshots.specs.declared.so_far.FilesSoFar.{FilesSoFar}
use Rattle.snapshots.specs.Keeping.{IsSoFar}

-- A writer has taken these files, and no others: they keep the rules, and their text, up to the last line, was written
-- after what was there before.
pub record Took (files : List File) (before now : Option (List ℕ)) (s : FilesSoFar) : Type 0 where
  pub rules : IsSnapshot files
  pub size : length (snapshot_text files) ≤ max_text_bytes
  pub kept : IsSoFar files s
  pub text : Appends before now (text_before_end files)

-- the rule that a file was refused for
abbrev pub refused_for : Result Unit WriteFault → Option WriteFault
refused_for (Ok x) = None
refused_for (Err Unwritten) = None
refused_for (Err Memory) = None
refused_for (Err rule) = Some rule

-- how often the device failed in a call that answered this fault
abbrev pub failures_of : WriteFault → ℕ
failures_of Unwritten = 1
failures_of other = 0

-- the device's count rose by one exactly where it failed
abbrev pub Counts : {X : Type 0} → ℕ → ℕ → Result X WriteFault → Type 0
Counts old new r = CountsBy failures_of old new r
