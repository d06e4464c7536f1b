-- The value of an input after some steps of a chain.
use Rattle.std.specs.Prelude.{ℕ}
use Rattle.std.proofs.Common.{zero, suc, ◌≡◌, refl}

-- the value of the first k steps: step k-1 of .. of step 0 of the input
abbrev pub value_of : {V : Type 0} → (ℕ → V → V) → ℕ → V → V
value_of step zero x = x
value_of step (suc k) x = step k (value_of step k x)

-- steps that do nothing
pub value_of-same : (k : ℕ) → ◌≡◌ {A = ℕ} 0 (value_of (λ _ x. x) k 0)
value_of-same zero = refl
value_of-same (suc k) = value_of-same k
