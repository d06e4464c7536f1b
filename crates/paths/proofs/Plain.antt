-- A segment without an escape stands for itself.
use Rattle.std.proofs.Common.{◌≡◌, ℕ, ◌==◌, ◌&&◌, ◌||◌, cond, Bool, true, false, List, [], ◌∷◌, refl, ap}
use Rattle.std.specs.List.{list_any}
use Rattle.percent_encoding.specs.Percent.{percent_decode}

neither : (b c : Bool) → (b || c) ≡ false → (b ≡ false) × (c ≡ false)
neither true c h = absurd cc
neither false c h = (refl, h)

first_kept : (b : Bool) (c : Bool) (xs ys : List ℕ) → b ≡ false → cond (b && c) xs ys ≡ ys
first_kept b c xs ys h = rw h refl

pub plain_decode : (xs : List ℕ) → list_any (λ b. b == 37) xs ≡ false → percent_decode xs ≡ xs
unfolding percent_decode
plain_decode [] h = refl
plain_decode (b ∷ []) h = refl
plain_decode (b ∷ c ∷ []) h = refl
plain_decode (b ∷ high ∷ low ∷ rest) h =
    let parts = neither (b == 37) (list_any (λ b. b == 37) (high ∷ low ∷ rest)) h in
    rw parts.0 (ap (λ (v : List ℕ). b ∷ v) (plain_decode (high ∷ low ∷ rest) parts.1))
