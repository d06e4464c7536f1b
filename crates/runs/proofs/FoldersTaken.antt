-- From what becomes of each file to what the run that writes a snapshot says.
use Rattle.devices.proofs.Appending.{prefix_none}
use Rattle.devices.specs.Devices.{Device, AppendsPrefix}
use Rattle.std.proofs.Common.{◌≡◌, ◌≢◌, ◌⊎◌, inl, inr, ℕ, ◌+◌, ◌<◌, ◌≤◌, Bool, true, false, List, [], ◌∷◌, ◌++◌, length, map, take, drop, get_or, is_some, Option, Some, None, Result, Ok, Err, IfOk, IfErr, OnOk, MatchResult, refl, sym, ap, ap₂, ◌∙◌, subst, append-nil}
use Rattle.std.proofs.lemmas.List.{append_assoc, map-append, take_more, take_all, take-append-drop}
use Rattle.std.specs.Io.KnownBytes.{Appends}
use Rattle.paths.specs.declared.file.File.{File}
use Rattle.paths.specs.Snapshots.{text_before_end, snapshot_text}
use Rattle.snapshots.specs.declared.so_far.FilesSoFar.{FilesSoFar}
use Rattle.snapshots.specs.declared.write_fault.WriteFault.{WriteFault}
use Rattle.snapshots.specs.declared.write_fault.WriteFault.TheVariants as rules
use Rattle.snapshots.specs.Keeping.{a_file, broken_rule}
use Rattle.snapshots.specs.Writers.{Took, refused_for}
use Rattle.snapshots.proofs.Taken.{whole}
use Rattle.faults.specs.declared.fault.Fault.{Fault}
use Rattle.faults.specs.declared.fault.Fault.TheVariants.{Write, Memory}
use Rattle.faults.specs.declared.folder_fault.FileFault.{FileFault}
use Rattle.runs.specs.declared.folder.Contents.{Contents}
use Rattle.runs.specs.declared.folder.Found.{Found}
use Rattle.faults.specs.declared.fault.Place.TheVariants.{Output}
use Rattle.runs.specs.Folders.{Answering, AddsFile, AddsFound, Breaks, Cuts, CutsFile, CutsFound, GoesThrough, IsRefused, IsSnapshotRunFault, IsTaken, Names, RefusesFound, StopsAt, Takes, WritesFolder, name_of, names_taken, none_left_out, refusal, unwritten}

-- ---- the first line and the last

pub cut_by : (text : List ℕ) (old new : Option (List ℕ)) (f : WriteFault) → AppendsPrefix old new text → Cuts text old new (unwritten f)
cut_by text old new rules.Time h = (inr refl, h)
cut_by text old new rules.Size h = (inr refl, h)
cut_by text old new rules.Count h = (inr refl, h)
cut_by text old new rules.Name h = (inr refl, h)
cut_by text old new rules.Order h = (inr refl, h)
cut_by text old new rules.Conflict h = (inr refl, h)
cut_by text old new rules.Text h = (inr refl, h)
cut_by text old new rules.Write h = (inl refl, h)
cut_by text old new rules.Memory h = (inr refl, h)

-- ---- one file

still : (files : List File) (before : Option (List ℕ)) (old new : Device) (s next : FilesSoFar) → (next ≡ s) × (new ≡ old) → Took files before old.bytes s → Took files before new.bytes next
still files before old new s next same took = rw (same.0, same.1) took

pub file_refused : (files : List File) (before : Option (List ℕ)) (f : File) (old new : Device) (s next : FilesSoFar) (fault : WriteFault) (reason : FileFault) → refusal fault ≡ Ok reason
    → (fault ≢ rules.Write → (next ≡ s) × (new ≡ old)) → refused_for (Err fault) ≡ broken_rule files f → Took files before old.bytes s
    → Breaks files f reason × Took files before new.bytes next
file_refused files before f old new s next rules.Time reason is same rule took = ((rules.Time, sym rule, is), still files before old new s next (same (λ e. cc)) took)
file_refused files before f old new s next rules.Size reason is same rule took = ((rules.Size, sym rule, is), still files before old new s next (same (λ e. cc)) took)
file_refused files before f old new s next rules.Count reason is same rule took = ((rules.Count, sym rule, is), still files before old new s next (same (λ e. cc)) took)
file_refused files before f old new s next rules.Name reason is same rule took = ((rules.Name, sym rule, is), still files before old new s next (same (λ e. cc)) took)
file_refused files before f old new s next rules.Order reason is same rule took = ((rules.Order, sym rule, is), still files before old new s next (same (λ e. cc)) took)
file_refused files before f old new s next rules.Conflict reason is same rule took = ((rules.Conflict, sym rule, is), still files before old new s next (same (λ e. cc)) took)
file_refused files before f old new s next rules.Text reason is same rule took = ((rules.Text, sym rule, is), still files before old new s next (same (λ e. cc)) took)
file_refused files before f old new s next rules.Write reason is same rule took = cc
file_refused files before f old new s next rules.Memory reason is same rule took = cc

pub file_cut : (files : List File) (before : Option (List ℕ)) (f : File) (old new : Device) (s next : FilesSoFar) (fault : WriteFault) (reported : Fault) → refusal fault ≡ Err reported
    → (fault ≡ rules.Write → AppendsPrefix before new.bytes (text_before_end (files ++ f ∷ [])))
    → (fault ≢ rules.Write → (next ≡ s) × (new ≡ old)) → refused_for (Err fault) ≡ broken_rule files f → Took files before old.bytes s
    → CutsFile files before f new.bytes reported
file_cut files before f old new s next rules.Time reported is part same rule took = cc
file_cut files before f old new s next rules.Size reported is part same rule took = cc
file_cut files before f old new s next rules.Count reported is part same rule took = cc
file_cut files before f old new s next rules.Name reported is part same rule took = cc
file_cut files before f old new s next rules.Order reported is part same rule took = cc
file_cut files before f old new s next rules.Conflict reported is part same rule took = cc
file_cut files before f old new s next rules.Text reported is part same rule took = cc
file_cut files before f old new s next rules.Write reported is part same rule took = (let reported_is : reported ≡ Write Output = cc in inl (reported_is, sym rule, part refl))
file_cut files before f old new s next rules.Memory reported is part same rule took = (let reported_is : reported ≡ Memory = cc in inr (reported_is, (still files before old new s next (same (λ e. cc)) took).text))

-- ---- what was found

pub none_of : (o : Option FileFault) (b : Bool) → b ≡ is_some o → b ≡ false → o ≡ None
none_of None b is isnt = refl
none_of (Some x) b is isnt = (let never : true ≡ false = sym is ∙ isnt in cc)

found_added : (answers : Answering) (files : List File) (before : Option (List ℕ)) (found : Found) (c : Contents) (r : Option FileFault) (now : Option (List ℕ)) (s : FilesSoFar) → found.fault ≡ None → answers (name_of found) (Ok c)
    → AddsFile files before (a_file (name_of found) c.mtime c.bytes.items) r now s → AddsFound answers files before found r now s
found_added answers files before found c None now s known says h = (a_file (name_of found) c.mtime c.bytes.items, ((c, known, says, refl), h.0), h.1)
found_added answers files before found c (Some fault) now s known says h =
    (inr (inr (a_file (name_of found) c.mtime c.bytes.items, (c, known, says, refl), h.0)), h.1)

pub found_ok : (answers : Answering) (files : List File) (before : Option (List ℕ)) (found : Found) (c : Contents) (r : Result (Option FileFault) Fault) (now : Option (List ℕ)) (s : FilesSoFar) → found.fault ≡ None → answers (name_of found) (Ok c)
    → IfOk r (λ o. AddsFile files before (a_file (name_of found) c.mtime c.bytes.items) o now s) → IfOk r (λ o. AddsFound answers files before found o now s)
found_ok answers files before found c (Ok o) now s known says h = found_added answers files before found c o now s known says h
found_ok answers files before found c (Err f) now s known says h = tt

cut_found : (answers : Answering) (files : List File) (before : Option (List ℕ)) (found : Found) (c : Contents) (reported : Fault) (now : Option (List ℕ)) → found.fault ≡ None → answers (name_of found) (Ok c)
    → CutsFile files before (a_file (name_of found) c.mtime c.bytes.items) now reported → CutsFound answers files before found now reported
cut_found answers files before found c reported now known says (inl h) = inl (h.0, a_file (name_of found) c.mtime c.bytes.items, ((c, known, says, refl), h.1), h.2)
cut_found answers files before found c reported now known says (inr h) = inr (inl h.0, known, h.1)

pub found_err : (answers : Answering) (files : List File) (before : Option (List ℕ)) (found : Found) (c : Contents) (r : Result (Option FileFault) Fault) (now : Option (List ℕ)) → found.fault ≡ None → answers (name_of found) (Ok c)
    → IfErr r (CutsFile files before (a_file (name_of found) c.mtime c.bytes.items) now) → IfErr r (CutsFound answers files before found now)
found_err answers files before found c (Ok o) now known says h = tt
found_err answers files before found c (Err f) now known says h = cut_found answers files before found c f now known says h

-- ---- all that was found

takes_one : (answers : Answering) (before : List File) (xs : List Found) (x : Found) (mid : List File) (reasons : List (Option FileFault)) (f : File) → Takes answers before xs mid reasons → IsTaken answers mid x f
    → Takes answers before (xs ++ x ∷ []) (mid ++ f ∷ []) (reasons ++ None ∷ [])
takes_one answers before [] x mid [] f h taken = (f, subst (λ (fs : List File). IsTaken answers fs x f) h taken, ap (λ (fs : List File). fs ++ f ∷ []) h)
takes_one answers before [] x mid (reason ∷ reasons) f h taken = absurd h
takes_one answers before (y ∷ xs) x mid [] f h taken = absurd h
takes_one answers before (y ∷ xs) x mid (None ∷ reasons) f h taken = (h.0, h.1, takes_one answers (before ++ h.0 ∷ []) xs x mid reasons f h.2 taken)
takes_one answers before (y ∷ xs) x mid (Some fault ∷ reasons) f h taken = (h.0, takes_one answers before xs x mid reasons f h.1 taken)

leaves_one : (answers : Answering) (before : List File) (xs : List Found) (x : Found) (mid : List File) (reasons : List (Option FileFault)) (fault : FileFault) → Takes answers before xs mid reasons → IsRefused answers mid x fault
    → Takes answers before (xs ++ x ∷ []) mid (reasons ++ Some fault ∷ [])
leaves_one answers before [] x mid [] fault h refused = (subst (λ (fs : List File). IsRefused answers fs x fault) h refused, h)
leaves_one answers before [] x mid (reason ∷ reasons) fault h refused = absurd h
leaves_one answers before (y ∷ xs) x mid [] fault h refused = absurd h
leaves_one answers before (y ∷ xs) x mid (None ∷ reasons) fault h refused = (h.0, h.1, leaves_one answers (before ++ h.0 ∷ []) xs x mid reasons fault h.2 refused)
leaves_one answers before (y ∷ xs) x mid (Some other ∷ reasons) fault h refused = (h.0, leaves_one answers before xs x mid reasons fault h.1 refused)

-- the names of the files
abbrev own_name : File → List ℕ
own_name f = f.name

names_are : (answers : Answering) (before : List File) (found : List Found) (files : List File) (reasons : List (Option FileFault)) → Takes answers before found files reasons → map own_name files ≡ map own_name before ++ names_taken found reasons
names_are answers before [] files [] h = ap (map own_name) h ∙ sym (append-nil (map own_name before))
names_are answers before [] files (reason ∷ reasons) h = absurd h
names_are answers before (x ∷ found) files [] h = absurd h
names_are answers before (x ∷ found) files (None ∷ reasons) h =
    let own : h.0.name ≡ name_of x = ap own_name h.1.0.3 in
    names_are answers (before ++ h.0 ∷ []) found files reasons h.2 ∙ ap (λ (ns : List (List ℕ)). ns ++ names_taken found reasons) (map-append own_name before (h.0 ∷ []))
    ∙ append_assoc (map own_name before) (h.0.name ∷ []) (names_taken found reasons)
    ∙ ap (λ (n : List ℕ). map own_name before ++ n ∷ names_taken found reasons) own
names_are answers before (x ∷ found) files (Some fault ∷ reasons) h = names_are answers before found files reasons h.1

-- what stands after n of what was found
pub record Stands (answers : Answering) (found : List Found) (at : ℕ) (skip : Bool) (reasons : List (Option FileFault)) (before now : Option (List ℕ)) (s : FilesSoFar) : Type 0 where
  pub files : List File
  pub takes : Takes answers [] (take at found) files reasons
  pub took : Took files before now s
  pub all : skip ≡ false → reasons ≡ none_left_out (take at found)

pub stands_none : (answers : Answering) (found : List Found) (skip : Bool) (before now : Option (List ℕ)) (s : FilesSoFar) → Took [] before now s → Stands answers found 0 skip [] before now s
stands_none answers found skip before now s took = record { files = []; takes = refl; took = took; all = λ e. refl }

abbrev not_left : Found → Option FileFault
not_left one = None

-- one more of what was found
first_more : (found : List Found) (at : ℕ) (item : Found) → at < length found → item ≡ get_or found at item → take at found ++ item ∷ [] ≡ take (at + 1) found
first_more found at item lt is = ap (λ (x : Found). take at found ++ x ∷ []) is ∙ sym (take_more found at item lt)

none_more : (found : List Found) (at : ℕ) (item : Found) (reasons : List (Option FileFault)) (reason : Option FileFault) → at < length found → item ≡ get_or found at item → reasons ≡ none_left_out (take at found) → reason ≡ None
    → reasons ++ reason ∷ [] ≡ none_left_out (take (at + 1) found)
none_more found at item reasons reason lt is none isnt =
    ap₂ (λ (ws : List (Option FileFault)) (w : Option FileFault). ws ++ w ∷ []) none isnt
    ∙ sym (map-append not_left (take at found) (item ∷ []))
    ∙ ap none_left_out (first_more found at item lt is)

pub stands_more : (answers : Answering) (found : List Found) (at : ℕ) (skip : Bool) (reasons : List (Option FileFault)) (reason : Option FileFault) (before now new : Option (List ℕ)) (s next : FilesSoFar) (item : Found) → at < length found → item ≡ get_or found at item
    → (stands : Stands answers found at skip reasons before now s) → (skip ≡ false → reason ≡ None) → AddsFound answers stands.files before item reason new next → Stands answers found (at + 1) skip (reasons ++ reason ∷ []) before new next
stands_more answers found at skip reasons None before now new s next item lt is stands only adds = record {
  files = stands.files ++ adds.0 ∷ [];
  takes = subst (λ (fs : List Found). Takes answers [] fs (stands.files ++ adds.0 ∷ []) (reasons ++ None ∷ [])) (first_more found at item lt is)
      (takes_one answers [] (take at found) item stands.files reasons adds.0 stands.takes adds.1);
  took = adds.2;
  all = λ e. none_more found at item reasons None lt is (stands.all e) refl;
}
stands_more answers found at skip reasons (Some fault) before now new s next item lt is stands only adds = record {
  files = stands.files;
  takes = subst (λ (fs : List Found). Takes answers [] fs stands.files (reasons ++ Some fault ∷ [])) (first_more found at item lt is)
      (leaves_one answers [] (take at found) item stands.files reasons fault stands.takes adds.0);
  took = adds.1;
  all = λ e. none_more found at item reasons (Some fault) lt is (stands.all e) (only e);
}

-- a list is its first items, one, and the rest
parted : (found : List Found) (at : ℕ) (item : Found) → at < length found → item ≡ get_or found at item → found ≡ take at found ++ item ∷ drop (at + 1) found
parted found at item lt is =
    sym (take-append-drop (at + 1) found)
    ∙ (ap (λ (fs : List Found). fs ++ drop (at + 1) found) (take_more found at item lt ∙ ap (λ (x : Found). take at found ++ x ∷ []) (sym is))
    ∙ append_assoc (take at found) (item ∷ []) (drop (at + 1) found))

-- what stands was gone through
through : (answers : Answering) (found : List Found) (at : ℕ) (skip : Bool) (reasons : List (Option FileFault)) (old now : Option (List ℕ)) (s : FilesSoFar) → (stands : Stands answers found at skip reasons old now s) → GoesThrough answers (take at found) skip reasons stands.files
through answers found at skip reasons old now s stands = (stands.takes, stands.all, whole stands.files old now s stands.took)

-- ---- faults

pub none_begun : (answers : Answering) (found : List Found) (skip : Bool) (reasons : List (Option FileFault)) (old new : Option (List ℕ)) (f : Fault) → reasons ≡ [] → Cuts (text_before_end []) old new f → IsSnapshotRunFault answers found skip reasons old new f
none_begun answers found skip reasons old new f none h = inl (none, h)

-- out of memory before the first line
pub none_reserved : (answers : Answering) (found : List Found) (skip : Bool) (reasons : List (Option FileFault)) (old : Option (List ℕ)) → reasons ≡ [] → IsSnapshotRunFault answers found skip reasons old old Memory
none_reserved answers found skip reasons old none = inl (none, (inr refl, prefix_none old (text_before_end [])))

stops_at : (answers : Answering) (found : List Found) (at : ℕ) (skip : Bool) (reasons : List (Option FileFault)) (old now new : Option (List ℕ)) (s : FilesSoFar) (item : Found) (reported : Fault) → at < length found → item ≡ get_or found at item
    → (stands : Stands answers found at skip reasons old now s) → CutsFound answers stands.files old item new reported ⊎ RefusesFound answers stands.files skip old item new reported → StopsAt answers found skip reasons old new reported
stops_at answers found at skip reasons old now new s item reported lt is stands h = (
  take at found,
  item,
  drop (at + 1) found,
  stands.files,
  parted found at item lt is,
  through answers found at skip reasons old now s stands,
  h,
)

pub stopped : (answers : Answering) (found : List Found) (at : ℕ) (skip : Bool) (reasons : List (Option FileFault)) (old now new : Option (List ℕ)) (s : FilesSoFar) (item : Found) (reported : Fault) → at < length found → item ≡ get_or found at item
    → (stands : Stands answers found at skip reasons old now s) → CutsFound answers stands.files old item new reported → IsSnapshotRunFault answers found skip reasons old new reported
stopped answers found at skip reasons old now new s item reported lt is stands h = inr (inl (stops_at answers found at skip reasons old now new s item reported lt is stands (inl h)))

refuses : (answers : Answering) (files : List File) (skip : Bool) (old new : Option (List ℕ)) (next : FilesSoFar) (item : Found) (reason : Option FileFault) (reported : Fault) → AddsFound answers files old item reason new next
    → (skip ≡ false) × ((fault : FileFault) × (reason ≡ Some fault) × Names (name_of item) fault reported) → RefusesFound answers files skip old item new reported
refuses answers files skip old new next item reason reported adds h =
    let refused = subst (λ (r : Option FileFault). AddsFound answers files old item r new next) h.1.1 adds in
    (h.0, (h.1.0, refused.0, h.1.2), refused.1.text)

pub refused_now : (answers : Answering) (found : List Found) (at : ℕ) (skip : Bool) (reasons : List (Option FileFault)) (reason : Option FileFault) (old now new : Option (List ℕ)) (s next : FilesSoFar) (item : Found) (reported : Fault) → at < length found → item ≡ get_or found at item
    → (stands : Stands answers found at skip reasons old now s) → AddsFound answers stands.files old item reason new next → (skip ≡ false) × ((fault : FileFault) × (reason ≡ Some fault) × Names (name_of item) fault reported)
    → IsSnapshotRunFault answers found skip reasons old new reported
refused_now answers found at skip reasons reason old now new s next item reported lt is stands adds h =
    inr (inl (stops_at answers found at skip reasons old now new s item reported lt is stands (inr (refuses answers stands.files skip old new next item reason reported adds h))))

-- ---- the end

all_through : (answers : Answering) (found : List Found) (at : ℕ) (skip : Bool) (reasons : List (Option FileFault)) (old now : Option (List ℕ)) (s : FilesSoFar) → length found ≤ at → (stands : Stands answers found at skip reasons old now s) → GoesThrough answers found skip reasons stands.files
all_through answers found at skip reasons old now s le stands =
    subst (λ (fs : List Found). GoesThrough answers fs skip reasons stands.files) (take_all at found le) (through answers found at skip reasons old now s stands)

pub ended : (answers : Answering) (found : List Found) (at : ℕ) (skip : Bool) (reasons : List (Option FileFault)) (old now new : Option (List ℕ)) (s : FilesSoFar) (r : Result Unit Fault) → length found ≤ at
    → (stands : Stands answers found at skip reasons old now s) → MatchResult r (λ done. Appends old new (snapshot_text stands.files)) (Cuts (snapshot_text stands.files) old new) → OnOk r (WritesFolder answers found skip reasons old new)
ended answers found at skip reasons old now new s (Ok done) le stands h =
    let all = all_through answers found at skip reasons old now s le stands in
    (stands.files, all, names_are answers [] found stands.files reasons all.0, h)
ended answers found at skip reasons old now new s (Err f) le stands h = tt

pub unended : (answers : Answering) (found : List Found) (at : ℕ) (skip : Bool) (reasons : List (Option FileFault)) (old now new : Option (List ℕ)) (s : FilesSoFar) (r : Result Unit Fault) → length found ≤ at
    → (stands : Stands answers found at skip reasons old now s) → MatchResult r (λ done. Appends old new (snapshot_text stands.files)) (Cuts (snapshot_text stands.files) old new) → IfErr r (IsSnapshotRunFault answers found skip reasons old new)
unended answers found at skip reasons old now new s (Ok done) le stands h = tt
unended answers found at skip reasons old now new s (Err f) le stands h = inr (inr (stands.files, all_through answers found at skip reasons old now s le stands, h))
