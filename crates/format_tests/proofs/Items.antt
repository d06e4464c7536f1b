-- What a caller knows who gives the files of a list to a writer.
use Rattle.std.proofs.Common.{◌≡◌, ℕ, ◌+◌, ◌<◌, ◌≤◌, List, [], ◌∷◌, ◌++◌, length, take, get_or, Option, Result, Ok, Err, OnOk, sym, ap, ◌∙◌, subst}
use Rattle.std.proofs.lemmas.List.{take_more, take_all}
use Rattle.std.specs.Io.KnownBytes.{Appends}
use Rattle.devices.specs.Devices.{WritesPrefix}
use Rattle.paths.specs.declared.file.File.{File}
use Rattle.paths.specs.Snapshots.{snapshot_text, IsSnapshotText}
use Rattle.snapshots.specs.declared.write_fault.WriteFault.{WriteFault}
use Rattle.snapshots.specs.declared.so_far.FilesSoFar.{FilesSoFar}
use Rattle.snapshots.specs.Keeping.{a_file}
use Rattle.snapshots.specs.Writers.{Took}

pub took_item : (files : List File) (i : ℕ) (item : File) (name bytes : List ℕ) (before new : Option (List ℕ)) (s : FilesSoFar) → i < length files → item ≡ get_or files i item
    → name ≡ item.name → bytes ≡ item.bytes → Took (take i files ++ a_file name item.mtime bytes ∷ []) before new s → Took (take (i + 1) files) before new s
took_item files i item name bytes before new s lt is named filled took =
    subst (λ (fs : List File). Took fs before new s)
    (ap (λ n. take i files ++ a_file n item.mtime bytes ∷ []) named
    ∙ (ap (λ b. take i files ++ a_file item.name item.mtime b ∷ []) filled
    ∙ (ap (λ (g : File). take i files ++ g ∷ []) is ∙ sym (take_more files i item lt)))) took

pub all_text : (files : List File) (i : ℕ) (old new : Option (List ℕ)) (r : Result Unit WriteFault) → length files ≤ i
    → WritesPrefix old new r (snapshot_text (take i files)) → OnOk r (Appends old new (snapshot_text files))
all_text files i old new (Ok x) le h = subst (λ (fs : List File). Appends old new (snapshot_text fs)) (take_all i files le) h
all_text files i old new (Err f) le h = tt

pub all_rules : (files : List File) (i : ℕ) (r : Result Unit WriteFault) → length files ≤ i
    → IsSnapshotText (snapshot_text (take i files)) (take i files) → OnOk r (IsSnapshotText (snapshot_text files) files)
all_rules files i (Ok x) le h = subst (λ (fs : List File). IsSnapshotText (snapshot_text fs) fs) (take_all i files le) h
all_rules files i (Err f) le h = tt
