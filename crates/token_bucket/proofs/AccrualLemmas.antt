-- Sums over ticks: where they split, and what they depend on.
use Rattle.std.proofs.Common.{◌≡◌, ℕ, zero, suc, ◌+◌, ◌-◌, ◌*◌, ◌<◌, ◌≤◌, refl, ◌∙◌, arith}
use Rattle.std.specs.Prelude.{sum_by}
use Rattle.std.specs.List.{range_with_len}
use Rattle.std.proofs.lemmas.List.Sums.{sum_by-cons}
use Rattle.token_bucket.specs.Reference.{accrual}
use Rattle.token_bucket.specs.After.{AccrualSplits}

-- the sum over n ticks from s on
unfoldable total : (ℕ → ℕ) → ℕ → ℕ → ℕ
total f s n = sum_by f (range_with_len s n)

total-zero : (f : ℕ → ℕ) (s : ℕ) → total f s 0 ≡ 0
unfolding total
total-zero f s = refl

total-suc : (f : ℕ → ℕ) (s n : ℕ) → total f s (suc n) ≡ f s + total f (s + 1) n
unfolding total
total-suc f s n = sum_by-cons f s (range_with_len (s + 1) n)

-- n ticks, and then m more
total-add : (f : ℕ → ℕ) (s t n m : ℕ) → s + n ≡ t → total f s (n + m) ≡ total f s n + total f t m
total-add f s t zero m at =
    let same : t ≡ s = omega arith in
    let none : 0 + m ≡ m = omega arith in
    rw (none, total-zero, same) (omega arith)
total-add f s t (suc n) m at =
    let more : suc n + m ≡ suc (n + m) = omega arith in
    rw (more, total-suc, total-suc, total-add f (s + 1) t n m (omega arith)) (omega arith)

-- equal rates at each tick give equal sums
total-agree : (f g : ℕ → ℕ) (s n : ℕ) → ((u : ℕ) → s ≤ u → u < s + n → f u ≡ g u) → total f s n ≡ total g s n
total-agree f g s zero same = rw (total-zero, total-zero) refl
total-agree f g s (suc n) same =
    let here : f s ≡ g s = same s (omega arith) (omega arith) in
    let rest : total f (s + 1) n ≡ total g (s + 1) n =
    total-agree f g (s + 1) n (λ u above below. same u (omega arith) (omega arith)) in
    rw (total-suc, total-suc, here, rest) refl

-- one rate at each tick
total-constant : (c s n : ℕ) → total (λ u. c) s n ≡ c * n
total-constant c s zero = rw total-zero (omega arith)
total-constant c s (suc n) = rw (total-suc, total-constant c (s + 1) n) (grind arith)

-- the ticks s to t and t to u are those from s to u
pub accrual-split : AccrualSplits
unfolding accrual total
accrual-split rate s t u first second =
    let parts : u - s ≡ (t - s) + (u - t) = omega arith in
    rw parts (total-add rate s t (t - s) (u - t) (omega arith))

-- only the rates of the ticks themselves matter
pub accrual-agree : (f g : ℕ → ℕ) (s t : ℕ) → ((u : ℕ) → s ≤ u → u < t → f u ≡ g u) → accrual f s t ≡ accrual g s t
unfolding accrual total
accrual-agree f g s t same = total-agree f g s (t - s) (λ u above below. same u above (omega arith))

-- a rate that stays the same
pub accrual-constant : (f : ℕ → ℕ) (c s t : ℕ) → ((u : ℕ) → s ≤ u → u < t → f u ≡ c) → accrual f s t ≡ c * (t - s)
unfolding accrual total
accrual-constant f c s t same =
    total-agree f (λ u. c) s (t - s) (λ u above below. same u above (omega arith)) ∙ total-constant c s (t - s)

-- no tick, no gain
pub accrual-none : (f : ℕ → ℕ) (s : ℕ) → accrual f s s ≡ 0
unfolding accrual total
accrual-none f s = let none : s - s ≡ 0 = omega arith in rw none (total-zero f s)
