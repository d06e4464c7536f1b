-- How long the lines are that announce something.
use Rattle.std.proofs.Common.{◌≡◌, ℕ, ◌≤◌, cond, ◌&&◌, Bool, true, false, List, length, drop, Option, Some, None, Result, Ok, Err, refl, arith, codes, nat_eq}
use Rattle.std.proofs.lemmas.List.{length-drop}
use Rattle.std.specs.List.{starts_with}
use Rattle.devices.specs.Numbers.{number_of, number_and_rest, three_numbers}
use Rattle.devices.specs.Texts.{IsLong, GivesLongLine}
use Rattle.devices.specs.declared.text.Stop.{Stop}
use Rattle.devices.proofs.Pieces.{number_long, rest_long, three_long}
use Rattle.captures.specs.Reference.{format_of}
use Rattle.captures.specs.CaptureFaults.{two_numbers, piece_heading, end_heading, tier_heading, stop_heading, heading_of}
use Rattle.captures.specs.Readers.{GivesLine}
use Rattle.captures.specs.declared.version.Version.{Version}
use Rattle.captures.specs.declared.headings.Heading.{Heading}
use Rattle.captures.specs.declared.capture_fault.CaptureFaultKind.TheVariants.{Kind}
use Rattle.captures.proofs.Lines.{bind_some}

two_long : (text : List ℕ) (numbers : ℕ × ℕ) → two_numbers text ≡ Some numbers → 3 ≤ length text
two_long text numbers h =
    let first = bind_some (number_and_rest text) _ _ h in
    let second = bind_some (number_of first.0.1) _ _ first.2 in
    omega (arith, rest_long text first.0 first.1, number_long first.0.1 second.0 second.1)

-- a line that announces something is that long
pub heading_long : (v : Version) (line : List ℕ) (h : Heading) → heading_of v line ≡ Ok h → IsLong 7 (codes "piece ") 12 line
heading_long v line h is =
    go (starts_with nat_eq line (codes "piece ")) (starts_with nat_eq line (codes "end ")) (starts_with nat_eq line (codes "tier ") && (format_of v).has_tiers)
    (starts_with nat_eq line (codes "stop ")) refl
    (three_numbers (drop 6 line)) refl (two_numbers (drop 4 line)) refl (two_numbers (drop 5 line)) refl (number_of (drop 5 line)) refl is
  where
    go : (b c d e : Bool) → starts_with nat_eq line (codes "piece ") ≡ b
        → (o : Option (ℕ × ℕ × ℕ)) → three_numbers (drop 6 line) ≡ o → (p : Option (ℕ × ℕ)) → two_numbers (drop 4 line) ≡ p
        → (q : Option (ℕ × ℕ)) → two_numbers (drop 5 line) ≡ q → (r : Option ℕ) → number_of (drop 5 line) ≡ r
        → cond b (piece_heading o) (cond c (end_heading p) (cond d (tier_heading q) (cond e (stop_heading r) (Err Kind)))) ≡ Ok h
        → IsLong 7 (codes "piece ") 12 line
    go true c d e is_b (Some n) o p ps q qs r rs k =
        let long = three_long (drop 6 line) n o in
        (omega (arith, length-drop 6 line), λ _. omega (arith, length-drop 6 line))
    go true c d e is_b None o p ps q qs r rs k = absurd cc
    go false true d e is_b o os (Some n) p q qs r rs k =
        let long = two_long (drop 4 line) n p in
        (omega (arith, length-drop 4 line), λ yes. absurd cc)
    go false true d e is_b o os None p q qs r rs k = absurd cc
    go false false true e is_b o os p ps (Some n) q r rs k =
        let long = two_long (drop 5 line) n q in
        (omega (arith, length-drop 5 line), λ yes. absurd cc)
    go false false true e is_b o os p ps None q r rs k = absurd cc
    go false false false true is_b o os p ps q qs (Some n) r k =
        let long = number_long (drop 5 line) n r in
        (omega (arith, length-drop 5 line), λ yes. absurd cc)
    go false false false true is_b o os p ps q qs None r k = absurd cc
    go false false false false is_b o os p ps q qs r rs k = absurd cc

-- so what follows a line that announces something is ahead
pub record_line : (v : Version) (old : Option (List ℕ)) (left : ℕ) (new : Option (List ℕ)) (left_new : ℕ) (r : Result (List ℕ) Stop)
    → GivesLongLine 7 (codes "piece ") 12 old left new left_new r → GivesLine v old left new left_new r
record_line v old left new left_new (Ok line) gives = λ k. let g = gives k in (g.0, g.1, g.2, λ h is. g.3 (heading_long v line h is))
record_line v old left new left_new (Err e) gives = gives
