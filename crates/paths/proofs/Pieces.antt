-- A line that is read piece by piece, each as long as its shortest rest.
use Rattle.std.proofs.Common.{◌≡◌, ℕ, ◌≤◌, cond, Bool, true, false, List, length, drop, Option, Some, None, Result, Ok, Err, refl, arith, codes, nat_eq}
use Rattle.std.specs.List.{starts_with}
use Rattle.std.proofs.lemmas.List.{length-drop}
use Rattle.paths.specs.declared.file.EntryHeading.{EntryHeading}
use Rattle.devices.specs.Numbers.{number_of, three_numbers}
use Rattle.paths.specs.SnapshotFaults.{heading_of, file_heading, end_heading, GivesLine}
use Rattle.paths.specs.declared.snapshot_fault.SnapshotFaultKind.TheVariants.{Kind}
use Rattle.devices.specs.declared.text.Stop.{Stop}
use Rattle.devices.specs.Texts.{IsLong, GivesLongLine}
use Rattle.devices.proofs.Pieces.{number_long, three_long}

-- ---- a file's line has ten bytes at least

file_long : (text : List ℕ) (h : EntryHeading) → file_heading (three_numbers text) ≡ Ok h → 5 ≤ length text
file_long text h is = go (three_numbers text) refl is
  where
    go : (o : Option (ℕ × ℕ × ℕ)) → three_numbers text ≡ o → file_heading o ≡ Ok h → 5 ≤ length text
    go None e f = absurd cc
    go (Some numbers) e f = three_long text numbers e

-- a snapshot's line that announces something is that long
pub heading_long : (line : List ℕ) (h : EntryHeading) → heading_of line ≡ Ok h → IsLong 6 (codes "file ") 11 line
heading_long line h is = go (starts_with nat_eq line (codes "file ")) (starts_with nat_eq line (codes "end ")) refl (number_of (drop 4 line)) refl is
  where
    go : (b c : Bool) → starts_with nat_eq line (codes "file ") ≡ b → (o : Option ℕ) → number_of (drop 4 line) ≡ o
        → cond b (file_heading (three_numbers (drop 5 line))) (cond c (end_heading o) (Err Kind)) ≡ Ok h → IsLong 6 (codes "file ") 11 line
    go true c e o f k =
        let long : 5 ≤ length (drop 5 line) = file_long (drop 5 line) h k in
        (omega (arith, length-drop 5 line), λ _. omega (arith, length-drop 5 line))
    go false true e (Some n) f k =
        let some = number_long (drop 4 line) n f in
        (omega (arith, length-drop 4 line), λ yes. absurd cc)
    go false true e None f k = absurd cc
    go false false e o f k = absurd cc

-- so what follows a line that announces something is ahead
pub announced_line : (old : Option (List ℕ)) (left : ℕ) (new : Option (List ℕ)) (left_new : ℕ) (r : Result (List ℕ) Stop)
    → GivesLongLine 6 (codes "file ") 11 old left new left_new r → GivesLine old left new left_new r
announced_line old left new left_new (Ok line) gives = λ k. let g = gives k in (g.0, g.1, g.2, λ h is. g.3 (heading_long line h is))
announced_line old left new left_new (Err e) gives = gives

-- ---- one read of a piece
