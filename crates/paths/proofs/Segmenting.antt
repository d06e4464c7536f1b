-- Cutting a path at its slashes.
use Rattle.std.proofs.Common.{◌≡◌, ℕ, ◌+◌, ◌-◌, ◌<◌, ◌≤◌, cond, nat_lt, Bool, true, false, List, [], ◌∷◌, length, take, drop, Some, None, refl, sym, ap, ◌∙◌, arith}
use Rattle.std.specs.List.{position, position_or_len, slice_split}
use Rattle.std.proofs.lemmas.Bool.Decides.{nat_tests}
use Rattle.std.proofs.lemmas.Option.{cond_some}
use Rattle.std.proofs.lemmas.List.{take_rest}
use Rattle.std.proofs.lemmas.List.Sums.{fails_before_first}
use Rattle.std.proofs.lemmas.List.Splits.{slice_split_none, slice_split_first}

-- where no element passes
past_all : (b : Bool) (k : ℕ) → cond b (Some k) None ≡ None → b ≡ false
past_all true k h = absurd cc
past_all false k h = refl

pub split_some : (p : ℕ → Bool) (text : List ℕ) (k : ℕ) → Some k ≡ position p text
    → slice_split p text ≡ take k text ∷ slice_split p (take (length text - (k + 1)) (drop (k + 1) text))
split_some p text k h =
    let found = cond_some (nat_lt (position_or_len p text) (length text)) _ _ (sym h) in
    let within : position_or_len p text < length text = let t = found.0 in grind (arith, nat_tests) in
    slice_split_first p text 0 within
    ∙ ap (λ n. take n text ∷ slice_split p (drop (n + 1) text)) found.1
    ∙ ap (λ v. take k text ∷ slice_split p v) (sym (take_rest text (k + 1)))

pub split_none : (p : ℕ → Bool) (text : List ℕ) → None ≡ position p text → slice_split p text ≡ text ∷ []
split_none p text h =
    let past = past_all (nat_lt (position_or_len p text) (length text)) (position_or_len p text) (sym h) in
    let all : length text ≤ position_or_len p text = let t = past in grind (arith, nat_tests) in
    slice_split_none p text (λ k d lt. fails_before_first p text k d (omega arith))
