-- The ticks in a heap, the least on top.
use Rattle.std.proofs.Common.{◌≡◌, ℕ, zero, suc, ◌+◌, ◌<◌, ◌≤◌, List, [], ◌∷◌, length, drop, replicate, refl, sym, ◌∙◌, ap, arith, rules, inl, inr}
use Rattle.std.specs.Ordering.{nat_cmp}
use Rattle.std.specs.BinaryHeap.{IsUpperBound}
use Rattle.std.specs.List.Sorted.{IsPermutation}
use Rattle.std.specs.List as list
use Rattle.std.specs.declared.cmp.Reverse.{Reverse}
use Rattle.std.proofs.lemmas.Bool.{cases_lt}
use Rattle.std.proofs.lemmas.List.Edits.{swap_is}
use Rattle.std.proofs.lemmas.List.Sorted.{IsPermutation-keeps, IsPermutation-map}
use lib.ListN.{get_or, set}
use Rattle.admission.specs.Reference.{insert_sorted, sorted}
use Rattle.admission.specs.Tally.{remove_one}
use Rattle.admission.specs.Standing.{AllFrom}
use Rattle.admission.specs.Servers.{ticks_of}
use Rattle.admission.proofs.SortLemmas.{insert-none, insert-front, insert-past, insert-swap, remove-insert}

-- ---- another order

insert-set : (xs : List ℕ) (i y d : ℕ) → i < length xs → insert_sorted (get_or xs i d) (sorted (set xs i y)) ≡ insert_sorted y (sorted xs)
unfolding sorted
insert-set [] i y d h = let none : ⊥ = omega (arith, h) in elim none [ ]
insert-set (x ∷ xs) zero y d h = insert-swap x y (sorted xs)
insert-set (x ∷ xs) (suc i) y d h =
    rw (insert-swap (get_or xs i d) x (sorted (set xs i y)), insert-set xs i y d (omega (arith, h))) (insert-swap x y (sorted xs))

insert-once : (x : ℕ) (s t : List ℕ) → insert_sorted x s ≡ insert_sorted x t → s ≡ t
insert-once x s t h = sym (remove-insert x s) ∙ ap (remove_one x) h ∙ remove-insert x t

sorted-swap : (xs : List ℕ) (i j : ℕ) → i < length xs → j < length xs → sorted (list.swap xs i j) ≡ sorted xs
sorted-swap xs i j hi hj =
    let x = get_or xs i 0 in
    let y = get_or xs j 0 in
    let once = set xs i y in
    let first : insert_sorted x (sorted once) ≡ insert_sorted y (sorted xs) = insert-set xs i y 0 hi in
    let second : insert_sorted (get_or once j 0) (sorted (set once j x)) ≡ insert_sorted x (sorted once) = insert-set once j x 0 (search (rules, hj)) in
    let there : get_or once j 0 ≡ y = search (rules, hi, hj) in
    rw (sym (swap_is xs i j 0 hi hj)) (insert-once y _ _ ((rw there at second) ∙ first))

-- the same numbers in another order are sorted alike
pub sorted-permutation : (xs ys : List ℕ) → IsPermutation xs ys → sorted ys ≡ sorted xs
sorted-permutation xs ys moved = IsPermutation-keeps xs (λ l. sorted l ≡ sorted xs) refl (λ l i j hi hj h. sorted-swap l i j hi hj ∙ h) ys moved

pub ticks-permutation : (xs ys : List (Reverse ℕ)) → IsPermutation xs ys → sorted (ticks_of ys) ≡ sorted (ticks_of xs)
ticks-permutation xs ys moved = sorted-permutation (ticks_of xs) (ticks_of ys) (IsPermutation-map (λ (r : Reverse ℕ). r.0) xs ys moved)

-- ---- the least of them

from-insert : (x y : ℕ) (ys : List ℕ) → x ≤ y → AllFrom x ys → AllFrom x (insert_sorted y ys)
unfolding AllFrom
from-insert x y [] le all = rw (insert-none y) (le, tt)
from-insert x y (z ∷ zs) le all =
    elim (cases_lt z y) [
      | inl below ↦ rw (insert-past y z zs below) (all.0, from-insert x y zs le all.1)
      | inr above ↦ rw (insert-front y z zs above) (le, all)
    ]

from-sorted : (x : ℕ) (xs : List ℕ) → AllFrom x xs → AllFrom x (sorted xs)
unfolding AllFrom sorted
from-sorted x [] all = tt
from-sorted x (y ∷ ys) all = from-insert x y (sorted ys) all.0 (from-sorted x ys all.1)

insert-first : (x : ℕ) (xs : List ℕ) → AllFrom x xs → insert_sorted x xs ≡ x ∷ xs
unfolding AllFrom
insert-first x [] all = insert-none x
insert-first x (y ∷ ys) all = insert-front x y ys all.0

pub first-sorted : (x : ℕ) (xs : List ℕ) → AllFrom x xs → sorted (x ∷ xs) ≡ x ∷ sorted xs
unfolding sorted
first-sorted x xs all = insert-first x (sorted xs) (from-sorted x xs all)

pub sorted-first : (x : ℕ) (xs : List ℕ) → sorted (x ∷ xs) ≡ insert_sorted x (sorted xs)
unfolding sorted
sorted-first x xs = refl

pub from-lower : (x y : ℕ) (xs : List ℕ) → x ≤ y → AllFrom y xs → AllFrom x xs
unfolding AllFrom
from-lower x y [] le all = tt
from-lower x y (z ∷ zs) le all = (omega (arith, all.0), from-lower x y zs le all.1)

pub from-zero : (xs : List ℕ) → AllFrom 0 xs
unfolding AllFrom
from-zero [] = tt
from-zero (x ∷ xs) = (omega arith, from-zero xs)

-- what stands on top is the least
pub from-bound : (x : Reverse ℕ) (items : List (Reverse ℕ)) → IsUpperBound (λ (x y : Reverse ℕ). nat_cmp y.0 x.0) x items
    → AllFrom x.0 (ticks_of items)
unfolding AllFrom
from-bound x [] bound = tt
from-bound x (y ∷ items) bound = (search (rules, bound.0), from-bound x items bound.1)

-- ---- one tick is exchanged for another

pub exchanged : (finish : ℕ) (least added : Reverse ℕ) (old pushed new : List (Reverse ℕ)) → added.0 ≡ finish
    → IsPermutation (added ∷ old) pushed → IsPermutation pushed (least ∷ new)
    → AllFrom least.0 (ticks_of new) → least.0 ∷ sorted (ticks_of new) ≡ insert_sorted finish (sorted (ticks_of old))
exchanged finish least added old pushed new is push pop all =
    sym (first-sorted least.0 (ticks_of new) all)
    ∙ ticks-permutation pushed (least ∷ new) pop
    ∙ ticks-permutation (added ∷ old) pushed push
    ∙ sorted-first added.0 (ticks_of old)
    ∙ ap (λ x. insert_sorted x (sorted (ticks_of old))) is

-- the first server and the others
pub first_exchanged : (first finish : ℕ) (others next : List ℕ) (least : ℕ) → first ≤ finish → AllFrom first others
    → least ∷ next ≡ insert_sorted finish (sorted others) → least ∷ next ≡ drop 1 (insert_sorted finish (first ∷ sorted others))
first_exchanged first finish others next least le all is =
    elim (cases_lt first finish) [
      | inl below ↦ rw (insert-past finish first (sorted others) below) is
      | inr above ↦
          let same : first ≡ finish = omega arith in
          rw (insert-front finish first (sorted others) above)
          (is ∙ ap (λ n. insert_sorted n (sorted others)) (sym same) ∙ insert-first first (sorted others) (from-sorted first others all))
    ]

pub alone_exchanged : (first finish : ℕ) → first ≤ finish → finish ∷ sorted [] ≡ drop 1 (insert_sorted finish (first ∷ sorted []))
unfolding sorted
alone_exchanged first finish le =
    elim (cases_lt first finish) [
      | inl below ↦ rw (insert-past finish first [] below, insert-none finish) refl
      | inr above ↦
          let same : first ≡ finish = omega arith in
          rw (insert-front finish first [] above, same) refl
    ]

pub zero_more : (n : ℕ) (xs : List ℕ) → 0 ∷ sorted xs ≡ replicate n 0 → 0 ∷ sorted (0 ∷ xs) ≡ replicate (n + 1) 0
zero_more n xs is =
    let suc_is : n + 1 ≡ suc n = omega arith in
    rw (first-sorted 0 xs (from-zero xs), suc_is) (ap (λ ys. 0 ∷ ys) is)

pub zero_first : 0 ∷ sorted [] ≡ replicate 1 0
unfolding sorted
zero_first = refl

pub none_of : (items : List (Reverse ℕ)) (len : ℕ) → length items ≡ len → len ≡ 0 → ticks_of items ≡ []
none_of [] len long none = refl
none_of (x ∷ items) len long none = absurd (omega (arith, long, none))

pub from-none : (x : ℕ) (xs : List ℕ) → xs ≡ [] → AllFrom x xs
unfolding AllFrom
from-none x xs is = rw is tt
