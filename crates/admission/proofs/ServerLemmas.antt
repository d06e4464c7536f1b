-- When each server is free, as requests are finished.
use Rattle.std.proofs.Common.{◌≡◌, ℕ, zero, suc, ◌+◌, ◌-◌, ◌<◌, ◌≤◌, List, [], ◌∷◌, ◌++◌, length, drop, replicate, refl, sym, ◌∙◌, ap, arith, append_assoc, length-append, inl, inr}
use Rattle.std.specs.Prelude.{reverse, slice_index_or}
use Rattle.std.proofs.lemmas.Bool.{cases_lt}
use Rattle.std.proofs.lemmas.List.{map-append, length-map, length-drop, length-replicate, length-reverse, get_or-drop, get_or-replicate, get_or-reverse, get_or_past, get_or_append_left, get_or-append_right}
use Rattle.admission.specs.Reference.{Served, finishes, insert_sorted, sorted, free_at}
use Rattle.admission.specs.Servers.{free_ticks}
use Rattle.admission.specs.Standing.{first_free}
use Rattle.admission.proofs.SortLemmas.{insert-none, insert-front, insert-past, length-insert, length-sorted, sorted_push}

-- ---- insertion into ascending numbers

unfoldable IsAscending : ℕ → List ℕ → Type 0
IsAscending lo [] = Unit {0}
IsAscending lo (x ∷ xs) = (lo ≤ x) × IsAscending x xs

ascending-lower : (lo x : ℕ) (xs : List ℕ) → lo ≤ x → IsAscending x xs → IsAscending lo xs
unfolding IsAscending
ascending-lower lo x [] le up = tt
ascending-lower lo x (y ∷ xs) le up = (omega (arith, up.0), up.1)

ascending-insert : (lo x : ℕ) (xs : List ℕ) → IsAscending lo xs → lo ≤ x → IsAscending lo (insert_sorted x xs)
unfolding IsAscending
ascending-insert lo x [] up le = rw (insert-none x) (le, tt)
ascending-insert lo x (y ∷ ys) up le =
    elim (cases_lt y x) [
      | inl below ↦ rw (insert-past x y ys below) (up.0, ascending-insert y x ys up.1 (omega arith))
      | inr above ↦ rw (insert-front x y ys above) (le, (above, up.1))
    ]

ascending-sorted : (xs : List ℕ) → IsAscending 0 (sorted xs)
unfolding IsAscending sorted
ascending-sorted [] = tt
ascending-sorted (x ∷ xs) = ascending-insert 0 x (sorted xs) (ascending-sorted xs) (omega arith)

insert-least : (lo x m : ℕ) (xs : List ℕ) → IsAscending lo xs → x ≤ lo → insert_sorted x (drop m xs) ≡ x ∷ drop m xs
unfolding IsAscending
insert-least lo x zero [] up le = insert-none x
insert-least lo x zero (y ∷ ys) up le = insert-front x y ys (omega (arith, up.0))
insert-least lo x (suc m) [] up le = insert-none x
insert-least lo x (suc m) (y ∷ ys) up le = insert-least y x m ys up.1 (omega (arith, up.0))

drop-insert : (lo m x : ℕ) (xs : List ℕ) → IsAscending lo xs → drop (suc m) (insert_sorted x xs) ≡ drop 1 (insert_sorted x (drop m xs))
unfolding IsAscending
drop-insert lo zero x xs up = refl
drop-insert lo (suc m) x [] up = rw (insert-none x) refl
drop-insert lo (suc m) x (y ∷ ys) up =
    elim (cases_lt y x) [
      | inl below ↦ rw (insert-past x y ys below) (drop-insert y m x ys up.1)
      | inr above ↦ rw (insert-front x y ys above, insert-least y x m ys up.1 above) refl
    ]

-- ---- the least of the servers' ticks is replaced

pub length-exchanged : (x : ℕ) (xs : List ℕ) → length (drop 1 (insert_sorted x xs)) ≡ length xs
length-exchanged x xs = omega (arith, length-drop 1 (insert_sorted x xs), length-insert x xs)

pub first-exchanged : (x : ℕ) (xs : List ℕ) → 1 ≤ length xs → first_free xs ≤ x → first_free (drop 1 (insert_sorted x xs)) ≤ x
first-exchanged x [] some le = absurd (omega arith)
first-exchanged x (y ∷ []) some le =
    elim (cases_lt y x) [
      | inl below ↦ rw (insert-past x y [] below, insert-none x) (omega arith)
      | inr above ↦ rw (insert-front x y [] above) (omega arith)
    ]
first-exchanged x (y ∷ z ∷ ys) some le =
    elim (cases_lt y x) [
      | inl below ↦ rw (insert-past x y (z ∷ ys) below)
          (elim (cases_lt z x) [
            | inl under ↦ rw (insert-past x z ys under) (omega arith)
            | inr over ↦ rw (insert-front x z ys over) (omega arith)
          ])
      | inr above ↦ rw (insert-front x y (z ∷ ys) above) (omega arith)
    ]

-- ---- the servers after requests

finishes-push : (requests : List Served) (request : Served) → finishes (requests ++ request ∷ []) ≡ finishes requests ++ request.finish ∷ []
finishes-push requests request = map-append (λ (r : Served). r.finish) requests (request ∷ [])

length-finishes : (requests : List Served) → length (finishes requests) ≡ length requests
length-finishes requests = length-map requests (λ (r : Served). r.finish)

sorted-zeros-one : (xs : List ℕ) → insert_sorted 0 xs ≡ 0 ∷ xs
sorted-zeros-one [] = insert-none 0
sorted-zeros-one (x ∷ xs) = insert-front 0 x xs (omega arith)

sorted-zeros : (n : ℕ) (xs : List ℕ) → sorted (replicate n 0 ++ xs) ≡ replicate n 0 ++ sorted xs
unfolding sorted
sorted-zeros zero xs = refl
sorted-zeros (suc n) xs = rw (sorted-zeros n xs) (sorted-zeros-one (replicate n 0 ++ sorted xs))

sorted-none : sorted [] ≡ []
unfolding sorted
sorted-none = refl

append-none : (xs : List ℕ) → xs ++ [] ≡ xs
append-none [] = refl
append-none (x ∷ xs) = ap (λ ys. x ∷ ys) (append-none xs)

pub free_ticks-none : (n : ℕ) → free_ticks n [] ≡ replicate n 0
unfolding free_ticks
free_ticks-none n = sorted-zeros n [] ∙ rw sorted-none (append-none (replicate n 0))

pub free_ticks-push : (n : ℕ) (requests : List Served) (request : Served)
    → free_ticks n (requests ++ request ∷ []) ≡ drop 1 (insert_sorted request.finish (free_ticks n requests))
unfolding free_ticks
free_ticks-push n requests request =
    let long : length (requests ++ request ∷ []) ≡ suc (length requests) = omega (arith, length-append requests (request ∷ [])) in
    let more : replicate n 0 ++ finishes (requests ++ request ∷ []) ≡ (replicate n 0 ++ finishes requests) ++ request.finish ∷ [] =
    rw (finishes-push requests request) (sym (append_assoc (replicate n 0) (finishes requests) (request.finish ∷ []))) in
    rw (long, more, sorted_push (replicate n 0 ++ finishes requests) request.finish)
    (drop-insert 0 (length requests) request.finish (sorted (replicate n 0 ++ finishes requests))
    (ascending-sorted (replicate n 0 ++ finishes requests)))

-- the first server that is free is so no sooner than before
first-later : (lo x : ℕ) (xs : List ℕ) → IsAscending lo xs → first_free xs ≤ x → 1 ≤ length xs
    → first_free xs ≤ first_free (drop 1 (insert_sorted x xs))
unfolding IsAscending
first-later lo x [] up le some = absurd (omega arith)
first-later lo x (y ∷ []) up le some =
    elim (cases_lt y x) [
      | inl below ↦ rw (insert-past x y [] below, insert-none x) (omega arith)
      | inr above ↦ rw (insert-front x y [] above) (omega arith)
    ]
first-later lo x (y ∷ z ∷ ys) up le some =
    elim (cases_lt y x) [
      | inl below ↦ rw (insert-past x y (z ∷ ys) below)
          (elim (cases_lt z x) [
            | inl under ↦ rw (insert-past x z ys under) (omega (arith, up.1.0))
            | inr over ↦ rw (insert-front x z ys over) (omega arith)
          ])
      | inr above ↦ rw (insert-front x y (z ∷ ys) above) (omega arith)
    ]

ascending-drop : (lo m : ℕ) (xs : List ℕ) → IsAscending lo xs → IsAscending lo (drop m xs)
unfolding IsAscending
ascending-drop lo zero xs up = up
ascending-drop lo (suc m) [] up = tt
ascending-drop lo (suc m) (x ∷ xs) up = ascending-lower lo x (drop m xs) up.0 (ascending-drop x m xs up.1)

pub free_ticks-later : (n : ℕ) (free : List ℕ) (requests : List Served) (x : ℕ) → free ≡ free_ticks n requests → first_free free ≤ x
    → 1 ≤ length free → first_free free ≤ first_free (drop 1 (insert_sorted x free))
unfolding free_ticks
free_ticks-later n free requests x is le some =
    let up : IsAscending 0 free =
    rw is (ascending-drop 0 (length requests) (sorted (replicate n 0 ++ finishes requests))
    (ascending-sorted (replicate n 0 ++ finishes requests))) in
    first-later 0 x free up le some

pub length-free_ticks : (n : ℕ) (requests : List Served) → length (free_ticks n requests) ≡ n
unfolding free_ticks
length-free_ticks n requests =
    omega (
      arith,
      length-drop (length requests) (sorted (replicate n 0 ++ finishes requests)),
      length-sorted (replicate n 0 ++ finishes requests),
      length-append (replicate n 0) (finishes requests),
      length-replicate {A = ℕ} n 0,
      length-finishes requests,
    )

-- the n-th greatest finish is the first of them
first_at : (n : ℕ) (fs : List ℕ) (m : ℕ) → length fs ≡ m → 1 ≤ n
    → slice_index_or (reverse (sorted fs)) (n - 1) 0 ≡ slice_index_or (replicate n 0 ++ sorted fs) m 0
first_at n fs m long some =
    let many : length (sorted fs) ≡ m = length-sorted fs ∙ long in
    elim (cases_lt m n) [
      | inl few ↦
          let past : length (reverse (sorted fs)) ≤ n - 1 = omega (arith, length-reverse (sorted fs)) in
          let within : m < length (replicate n 0) = omega (arith, length-replicate {A = ℕ} n 0) in
          get_or_past (reverse (sorted fs)) (n - 1) 0 past
          ∙ sym (get_or_append_left (replicate n 0) (sorted fs) 0 m within ∙ get_or-replicate {A = ℕ} n m 0 0 few)
      | inr enough ↦
          let place : length (sorted fs) - 1 - (n - 1) ≡ m - n = omega arith in
          get_or-reverse (sorted fs) (n - 1) 0 (omega arith)
          ∙ ap (λ i. slice_index_or (sorted fs) i 0) place
          ∙ sym (get_or-append_right (replicate n 0) (sorted fs) n m 0 (length-replicate {A = ℕ} n 0) enough)
    ]

pub free_first : (n : ℕ) (requests : List Served) → 1 ≤ n → free_at n requests ≡ first_free (free_ticks n requests)
unfolding free_at free_ticks
free_first n requests some =
    let place : length requests + 0 ≡ length requests = omega arith in
    first_at n (finishes requests) (length requests) (length-finishes requests) some
    ∙ sym (get_or-drop (length requests) (sorted (replicate n 0 ++ finishes requests)) 0 0
    ∙ rw (place, sorted-zeros n (finishes requests)) refl)
