-- The rates of controls.
use Rattle.std.proofs.Common.{◌≡◌, ℕ, zero, suc, ◌≤◌, List, [], ◌∷◌, ◌++◌, Some, slice_get, subst}
use Rattle.token_bucket.specs.Standing.{MAX_RATE}
use Rattle.admission.specs.declared.control.Control.{Control}
use Rattle.admission.specs.Standing.{AllRates}

pub rates_push : (controls : List Control) (control : Control) → AllRates controls → (1 ≤ control.rate) × (control.rate ≤ MAX_RATE)
    → AllRates (controls ++ control ∷ [])
unfolding AllRates
rates_push [] control rates range = (range.0, range.1, tt)
rates_push (first ∷ controls) control rates range = (rates.0, rates.1, rates_push controls control rates.2 range)

pub rates_at : (controls : List Control) (i : ℕ) (control : Control) → AllRates controls → slice_get controls i ≡ Some control
    → (1 ≤ control.rate) × (control.rate ≤ MAX_RATE)
unfolding AllRates
rates_at [] i control rates found = absurd (cc)
rates_at (first ∷ controls) zero control rates found =
    let same : first ≡ control = cc in
    let P : Control → Type 0 = λ c. (1 ≤ c.rate) × (c.rate ≤ MAX_RATE) in
    subst P same (rates.0, rates.1)
rates_at (first ∷ controls) (suc i) control rates found = rates_at controls i control rates.2 found
