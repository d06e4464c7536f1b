-- A sort gives the sorted list of the samples.
use Rattle.std.proofs.Common.{◌≡◌, ℕ, ◌<◌, List, [], ◌∷◌, length, zero, suc, refl, sym, ap, arith, rules}
use Rattle.std.specs.List.Sorted.{IsPermutation, IsSorted, IsNonDecreasingBy}
use Rattle.std.specs.Ordering.{nat_cmp}
use Rattle.std.specs.List as list
use Rattle.std.proofs.lemmas.List.Edits.{swap_is}
use Rattle.std.proofs.lemmas.List.Sorted.{IsPermutation-keeps, IsNonDecreasingBy-from_sort}
use mathlib.Core.Path.{◌∙◌}
use lib.ListN.{get_or, set}
use Rattle.admission.specs.Reference.{insert_sorted, sorted}
use Rattle.admission.specs.Tally.{remove_one}
use Rattle.admission.proofs.SortLemmas.{insert-front, insert-none, insert-swap, remove-insert}

-- an element and the one that takes its place
insert-set : (xs : List ℕ) (i y d : ℕ) → i < length xs → insert_sorted (get_or xs i d) (sorted (set xs i y)) ≡ insert_sorted y (sorted xs)
unfolding sorted
insert-set [] i y d h = let none : ⊥ = omega (arith, h) in elim none [ ]
insert-set (x ∷ xs) zero y d h = insert-swap x y (sorted xs)
insert-set (x ∷ xs) (suc i) y d h =
    rw (insert-swap (get_or xs i d) x (sorted (set xs i y)), insert-set xs i y d (omega (arith, h))) (insert-swap x y (sorted xs))

insert-once : (x : ℕ) (s t : List ℕ) → insert_sorted x s ≡ insert_sorted x t → s ≡ t
insert-once x s t h = sym (remove-insert x s) ∙ ap (remove_one x) h ∙ remove-insert x t

sorted-swap : (xs : List ℕ) (i j : ℕ) → i < length xs → j < length xs → sorted (list.swap xs i j) ≡ sorted xs
sorted-swap xs i j hi hj =
    let x = get_or xs i 0 in
    let y = get_or xs j 0 in
    let once = set xs i y in
    let first : insert_sorted x (sorted once) ≡ insert_sorted y (sorted xs) = insert-set xs i y 0 hi in
    let second : insert_sorted (get_or once j 0) (sorted (set once j x)) ≡ insert_sorted x (sorted once) = insert-set once j x 0 (search (rules, hj)) in
    let there : get_or once j 0 ≡ y = search (rules, hi, hj) in
    rw (sym (swap_is xs i j 0 hi hj)) (insert-once y _ _ ((rw there at second) ∙ first))

-- the samples in another order
pub sorted-permutation : (xs ys : List ℕ) → IsPermutation xs ys → sorted ys ≡ sorted xs
sorted-permutation xs ys moved = IsPermutation-keeps xs (λ l. sorted l ≡ sorted xs) refl (λ l i j hi hj h. sorted-swap l i j hi hj ∙ h) ys moved

-- samples that are sorted
sorted-rising : (xs : List ℕ) → IsNonDecreasingBy (λ x. x) xs → sorted xs ≡ xs
unfolding sorted
sorted-rising [] up = refl
sorted-rising (x ∷ []) up = insert-none x
sorted-rising (x ∷ y ∷ xs) up =
    rw (sorted-rising (y ∷ xs) (λ i j d le lt. up (suc i) (suc j) d (omega (arith, le)) (omega (arith, lt))))
    (insert-front x y xs (up 0 1 0 (omega arith) (omega arith)))

pub sorted-from_sort : (xs ys : List ℕ) → IsPermutation xs ys → IsSorted nat_cmp ys → ys ≡ sorted xs
sorted-from_sort xs ys moved up = sym (sorted-rising ys (IsNonDecreasingBy-from_sort (λ x. x) ys up)) ∙ sorted-permutation xs ys moved
