-- Beginnings of one list.
use Rattle.std.proofs.Common.{◌≡◌, ℕ, zero, suc, ◌<◌, ◌≤◌, List, [], ◌∷◌, length, slice_get, refl, sym, ◌∙◌, arith}
use mathlib.Core.List.{IsPrefix}

-- a beginning as long as the whole is the whole
pub prefix_whole : {A : Type 0} (xs ys : List A) → IsPrefix xs ys → length ys ≤ length xs → xs ≡ ys
prefix_whole [] [] p le = refl
prefix_whole [] (y ∷ ys) p le = absurd (omega arith)
prefix_whole (x ∷ xs) [] p le = absurd (cc (p.1))
prefix_whole (x ∷ xs) (y ∷ ys) p le =
    let rest = prefix_whole xs ys (p.0, cc (p.1)) (omega arith) in cc (p.1, rest)

-- what is in a beginning is in the whole, at the same place
prefix_get : {A : Type 0} (xs ys : List A) (k : ℕ) → IsPrefix xs ys → k < length xs → slice_get xs k ≡ slice_get ys k
prefix_get [] ys k p h = absurd (omega arith)
prefix_get (x ∷ xs) [] k p h = absurd (cc (p.1))
prefix_get (x ∷ xs) (y ∷ ys) zero p h = cc (p.1)
prefix_get (x ∷ xs) (y ∷ ys) (suc k) p h = prefix_get xs ys k (p.0, cc (p.1)) (omega arith)

-- two beginnings have the same at each place that both have
pub same_place : {A : Type 0} (xs ys both : List A) (k : ℕ) → IsPrefix xs both → IsPrefix ys both → k < length xs → k < length ys
    → slice_get xs k ≡ slice_get ys k
same_place xs ys both k p q h i = prefix_get xs both k p h ∙ sym (prefix_get ys both k q i)
