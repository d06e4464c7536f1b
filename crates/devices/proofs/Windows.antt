-- What a window gives of the bytes that were read ahead.
use Rattle.std.proofs.Common.{◌≡◌, ℕ, suc, zero, ◌+◌, ◌-◌, ◌≤◌, ◌==◌, not, cond, nat_lt, Bool, true, false, List, [], ◌∷◌, ◌++◌, length, take, drop, Some, sym, ap, ◌∙◌, arith}
use Rattle.std.specs.List.{position, position_or_len}
use Rattle.std.proofs.lemmas.List.{length-take, take_at, drop-drop}
use Rattle.std.proofs.lemmas.Option.{cond_some}
use Rattle.std.proofs.Math.Seq.{take-add}
use Rattle.devices.specs.Texts.{NoneAfterFeed}

-- the bytes that wait are those given and those that wait then
pub gives_front : (bytes buffer came : List ℕ) (start end count : ℕ) → count ≤ length (take (end - start) (drop start bytes)) → came ≡ take count (drop start bytes)
    → take (end - start) (drop start bytes) ≡ take count (came ++ drop count buffer) ++ take (end - (start + count)) (drop (start + count) bytes)
gives_front bytes buffer came start end count within is =
    let waiting = drop start bytes in
    let more = end - (start + count) in
    let size : length (take count waiting) ≡ count = omega (arith, length-take count waiting, length-take (end - start) waiting) in
    let split : end - start ≡ count + more = omega (arith, length-take (end - start) waiting) in
    let front : take count (came ++ drop count buffer) ≡ take count waiting = ap (λ v. take count (v ++ drop count buffer)) is ∙ take_at (take count waiting) (drop count buffer) count size in
    ap (λ n. take n waiting) split
    ∙ (take-add count more waiting
    ∙ (ap (λ v. take count waiting ++ take more v) (drop-drop count start bytes) ∙ ap (λ v. v ++ take more (drop (start + count) bytes)) (sym front)))

-- up to the first line feed, none stands after one
to_first : (xs : List ℕ) (k : ℕ) → k ≤ position_or_len (λ b. b == 10) xs + 1 → NoneAfterFeed (take k xs)
to_first xs zero h = omega arith
to_first [] (suc k) h = omega arith
to_first (x ∷ xs) (suc k) h = step (x == 10) k (position_or_len (λ b. b == 10) xs) (position_or_len (λ b. b == 10) (take k xs)) (length (take k xs)) (to_first xs k) (omega (arith, length-take k xs)) h
  where
    step : (b : Bool) (k n m size : ℕ) → (k ≤ n + 1 → size ≤ m + 1) → size ≤ k → suc k ≤ cond (not b) (1 + n) 0 + 1 → suc size ≤ cond (not b) (1 + m) 0 + 1
    step true k n m size rest below h = omega arith
    step false k n m size rest below h = let more = rest (omega arith) in omega arith

pub to_first_feed : (xs : List ℕ) (at : ℕ) → Some at ≡ position (λ b. b == 10) xs → NoneAfterFeed (take (at + 1) xs)
to_first_feed xs at is =
    let first = cond_some (nat_lt (position_or_len (λ b. b == 10) xs) (length xs)) _ _ (sym is) in
    to_first xs (at + 1) (omega (arith, first.1))
