-- The run that writes what was found in a folder as a snapshot.
use Rattle.std.specs.Prelude.{◌≡◌, ◌⊎◌, ℕ, Bool, false, List, [], ◌∷◌, ◌++◌, map, string_bytes, Option, Some, None}
use Rattle.std.specs.Prelude.{Result, Ok, Err}
use Rattle.std.specs.Io.KnownBytes.{Appends}
use Rattle.devices.specs.Devices.{AppendsPrefix}
use Rattle.paths.specs.declared.file.File.{File}
use Rattle.paths.specs.Snapshots.{text_before_end, snapshot_text, IsSnapshotText}
use Rattle.snapshots.specs.declared.so_far.FilesSoFar.{FilesSoFar}
use Rattle.snapshots.specs.declared.write_fault.WriteFault.{WriteFault}
use Rattle.snapshots.specs.declared.write_fault.WriteFault.TheVariants as rules
use Rattle.snapshots.specs.Keeping.{a_file, broken_rule}
use Rattle.snapshots.specs.Writers.{Took}
use Rattle.faults.specs.declared.fault.Fault.{Fault}
use Rattle.faults.specs.declared.fault.Fault.TheVariants.{Folder, Open, Write, Memory}
use Rattle.faults.specs.declared.folder_fault.FileFault.{FileFault}
use Rattle.faults.specs.declared.folder_fault.FileFault.TheVariants.{Time, Size, Count, Name, Order, Conflict, Text}
use Rattle.faults.specs.declared.folder_fault.FolderFault.{FolderFault}
use Rattle.runs.specs.declared.folder.Contents.{Contents}
use Rattle.runs.specs.declared.folder.Found.{Found}
use Rattle.runs.specs.declared.folder.Unanswered.{Unanswered}
use Rattle.runs.specs.declared.folder.Unanswered.TheVariants as lacks
use Rattle.faults.specs.declared.fault.Place.TheVariants.{Output}
use Rattle.faults.specs.declared.fault.Place.TheVariants as places
use Rattle.faults.specs.FaultLines.{shown_name}

-- what a folder may answer for a name
abbrev pub Answering : Type 1
Answering = List ℕ → Result Contents FileFault → Type 0

abbrev pub name_of : Found → List ℕ
name_of found = string_bytes found.name

-- the rule that a file breaks is why it isn't taken; a failed write and out of memory are faults of the run
abbrev pub refusal : WriteFault → Result FileFault Fault
refusal rules.Time = Ok Time
refusal rules.Size = Ok Size
refusal rules.Count = Ok Count
refusal rules.Name = Ok Name
refusal rules.Order = Ok Order
refusal rules.Conflict = Ok Conflict
refusal rules.Text = Ok Text
refusal rules.Write = Err (Write Output)
refusal rules.Memory = Err Memory

-- where a folder says nothing of a file, the run is cut short
abbrev pub unanswered : Unanswered → Fault
unanswered lacks.Memory = Memory
unanswered lacks.Descriptors = Open places.Folder

-- this is why the file can't stand in a snapshot after these files
abbrev pub Breaks : List File → File → FileFault → Type 0
Breaks files f fault = (rule : WriteFault) × (broken_rule files f ≡ Some rule) × (refusal rule ≡ Ok fault)

-- the folder answers that what was found is this file
abbrev pub IsFileOf : Answering → Found → File → Type 0
IsFileOf answers found f = (c : Contents) × (found.fault ≡ None) × answers (name_of found) (Ok c)
    × (f ≡ a_file (name_of found) c.mtime c.bytes.items)

-- what was found is this file, which keeps the rules after these files
abbrev pub IsTaken : Answering → List File → Found → File → Type 0
IsTaken answers files found f = IsFileOf answers found f × (broken_rule files f ≡ None)

-- What was found isn't taken after these files, and why: it was known before; or the folder answers so; or it is a file
-- that breaks a rule.
abbrev pub IsRefused : Answering → List File → Found → FileFault → Type 0
IsRefused answers files found fault =
    (found.fault ≡ Some fault)
    ⊎ (((found.fault ≡ None) × answers (name_of found) (Err fault))
    ⊎ ((f : File) × IsFileOf answers found f × Breaks files f fault))

-- Each of what was found is taken, as the next file after those before, or it isn't: `reasons` has for each why not.
abbrev pub Takes : Answering → List File → List Found → List File → List (Option FileFault) → Type 0
Takes answers before [] files [] = files ≡ before
Takes answers before (found ∷ more) files (None ∷ reasons) =
    (f : File) × IsTaken answers before found f × Takes answers (before ++ f ∷ []) more files reasons
Takes answers before (found ∷ more) files (Some fault ∷ reasons) =
    IsRefused answers before found fault × Takes answers before more files reasons
Takes answers before found files reasons = ⊥

-- nothing of what was found is left out
abbrev pub none_left_out : List Found → List (Option FileFault)
none_left_out found = map (λ one. None) found

-- the names of what isn't left out
abbrev pub names_taken : List Found → List (Option FileFault) → List (List ℕ)
names_taken (found ∷ more) (None ∷ reasons) = name_of found ∷ names_taken more reasons
names_taken (found ∷ more) (Some fault ∷ reasons) = names_taken more reasons
names_taken found reasons = []

-- All of these were gone through, and no others: `reasons` is of each of them, the files are those that were taken of
-- them, which keep the rules, and nothing was left out where that isn't allowed.
abbrev pub GoesThrough : Answering → List Found → Bool → List (Option FileFault) → List File → Type 0
GoesThrough answers found skip reasons files = Takes answers [] found files reasons
    × (skip ≡ false → reasons ≡ none_left_out found)
    × IsSnapshotText (snapshot_text files) files

-- All was gone through, and the snapshot of what was taken was written. The names in it are those of what was found
-- that isn't left out.
abbrev pub WritesFolder : Answering → List Found → Bool → List (Option FileFault) → Option (List ℕ)
    → Option (List ℕ) → Type 0
WritesFolder answers found skip reasons old new = (files : List File) × GoesThrough answers found skip reasons files
    × (map (λ f. f.name) files ≡ names_taken found reasons)
    × Appends old new (snapshot_text files)

-- how often the output failed in a run that answered this fault
abbrev pub output_failures : Fault → ℕ
output_failures (Write Output) = 1
output_failures other = 0

-- ---- one step

-- P holds of the files that a writer took until now, and of what was there before them
abbrev pub AfterTaking : Option (List ℕ) → FilesSoFar → (List File → Option (List ℕ) → Type 0) → Type 0
AfterTaking now writer P = (files : List File) (before : Option (List ℕ)) → Took files before now writer
    → P files before

-- what becomes of a file that is given to a writer which took these files: it is taken, or why not
abbrev pub AddsFile : List File → Option (List ℕ) → File → Option FileFault → Option (List ℕ) → FilesSoFar → Type 0
AddsFile files before f None now writer = (broken_rule files f ≡ None) × Took (files ++ f ∷ []) before now writer
AddsFile files before f (Some fault) now writer = Breaks files f fault × Took files before now writer

-- the file couldn't be written to its end, or there was no memory and nothing was written of it
abbrev pub CutsFile : List File → Option (List ℕ) → File → Option (List ℕ) → Fault → Type 0
CutsFile files before f now fault =
    ((fault ≡ Write Output) × (broken_rule files f ≡ None)
    × AppendsPrefix before now (text_before_end (files ++ f ∷ [])))
    ⊎ ((fault ≡ Memory) × Appends before now (text_before_end files))

-- the same of what was found
abbrev pub AddsFound :
    Answering → List File → Option (List ℕ) → Found → Option FileFault → Option (List ℕ) → FilesSoFar → Type 0
AddsFound answers files before found None now writer =
    (f : File) × IsTaken answers files found f × Took (files ++ f ∷ []) before now writer
AddsFound answers files before found (Some fault) now writer =
    IsRefused answers files found fault × Took files before now writer

-- What was found would be taken, but a write failed: a prefix stands of the text of these files and of that one. Or
-- there was no memory for it, or too many files were open to read it: all of the text of these files stands, and
-- nothing after it. Neither comes of what was known before not to be taken.
abbrev pub CutsFound : Answering → List File → Option (List ℕ) → Found → Option (List ℕ) → Fault → Type 0
CutsFound answers files before found now fault =
    ((fault ≡ Write Output) × (f : File) × IsTaken answers files found f
    × AppendsPrefix before now (text_before_end (files ++ f ∷ [])))
    ⊎ (((fault ≡ Memory) ⊎ (fault ≡ Open places.Folder)) × (found.fault ≡ None)
    × Appends before now (text_before_end files))

-- the output failed, or there was no memory
abbrev pub IsOutputFault : Fault → Type 0
IsOutputFault f = (f ≡ Write Output) ⊎ (f ≡ Memory)

-- the text couldn't be written to its end: a prefix of it stands
abbrev pub Cuts : List ℕ → Option (List ℕ) → Option (List ℕ) → Fault → Type 0
Cuts text old new f = IsOutputFault f × AppendsPrefix old new text

abbrev pub unwritten : WriteFault → Fault
unwritten rules.Write = Write Output
unwritten other = Memory

-- the fault of what has this name, or no memory for it
abbrev pub Names : List ℕ → FileFault → Fault → Type 0
Names name fault f = (f ≡ Memory)
    ⊎ ((g : FolderFault) × (f ≡ Folder g) × (g.name.items ≡ shown_name name) × (g.fault ≡ fault))

-- What was found can't be taken after these files, and nothing is to be left out: the fault names it, unless there was
-- no memory for its name. All of the text of these files stands, and nothing after it.
abbrev pub RefusesFound : Answering → List File → Bool → Option (List ℕ) → Found → Option (List ℕ) → Fault → Type 0
RefusesFound answers files skip before found now f = (skip ≡ false)
    × ((fault : FileFault) × IsRefused answers files found fault × Names (name_of found) fault f)
    × Appends before now (text_before_end files)

-- ---- where a run stops

-- it stopped at its first line, or before that: nothing was gone through, and a prefix of the line stands
abbrev pub StopsFirst : List (Option FileFault) → Option (List ℕ) → Option (List ℕ) → Fault → Type 0
StopsFirst reasons old new f = (reasons ≡ []) × Cuts (text_before_end []) old new f

-- it stopped at one of what was found: all before that one was gone through, and no more
abbrev pub StopsAt : Answering → List Found → Bool → List (Option FileFault) → Option (List ℕ) → Option (List ℕ)
    → Fault → Type 0
StopsAt answers found skip reasons old new f = (first : List Found) × (one : Found) × (rest : List Found)
    × (files : List File)
    × (found ≡ first ++ one ∷ rest)
    × GoesThrough answers first skip reasons files
    × (CutsFound answers files old one new f ⊎ RefusesFound answers files skip old one new f)

-- it stopped at its last line: all that was found was gone through, and a prefix of the snapshot stands
abbrev pub StopsLast : Answering → List Found → Bool → List (Option FileFault) → Option (List ℕ) → Option (List ℕ)
    → Fault → Type 0
StopsLast answers found skip reasons old new f = (files : List File) × GoesThrough answers found skip reasons files
    × Cuts (snapshot_text files) old new f

-- What a fault of the run says, and none else comes: where it stopped, and what stands. `reasons` is of none at the
-- first line, of all that was found at the last, and else of exactly those before the one at which it stopped. That one
-- would have been taken where its write failed; where it can't be taken and nothing may be left out, it is named, if
-- there is memory for its name.
abbrev pub IsSnapshotRunFault : Answering → List Found → Bool → List (Option FileFault) → Option (List ℕ)
    → Option (List ℕ) → Fault → Type 0
IsSnapshotRunFault answers found skip reasons old new f = StopsFirst reasons old new f
    ⊎ (StopsAt answers found skip reasons old new f
    ⊎ StopsLast answers found skip reasons old new f)
