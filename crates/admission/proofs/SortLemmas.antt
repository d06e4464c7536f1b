-- Insertion into sorted samples, and taking one out.
use Rattle.std.proofs.Common.{◌≡◌, ℕ, ◌+◌, ◌<◌, ◌≤◌, List, [], ◌∷◌, ◌++◌, length, Bool, true, false, refl, sym, arith, nat_eq, inl, inr}
use Rattle.std.specs.Prelude.{◌||◌}
use Rattle.std.specs.List.{list_any}
use Rattle.std.proofs.lemmas.Bool.{le-leb, lt-leb, eq-eqb, ne_eqb, cases_lt, cases_order}
use Rattle.admission.specs.Reference.{insert_sorted, sorted}
use Rattle.admission.specs.Tally.{remove_one}

-- ---- one step

pub insert-front : (x y : ℕ) (ys : List ℕ) → x ≤ y → insert_sorted x (y ∷ ys) ≡ x ∷ y ∷ ys
unfolding insert_sorted
insert-front x y ys le = rw (le-leb x y le) refl

pub insert-past : (x y : ℕ) (ys : List ℕ) → y < x → insert_sorted x (y ∷ ys) ≡ y ∷ insert_sorted x ys
unfolding insert_sorted
insert-past x y ys lt = rw (lt-leb x y lt) refl

pub remove-none : (x : ℕ) → remove_one x [] ≡ []
unfolding remove_one
remove-none x = refl

pub remove-here : (x : ℕ) (ys : List ℕ) → remove_one x (x ∷ ys) ≡ ys
unfolding remove_one
remove-here x ys = rw (eq-eqb x x refl) refl

pub remove-past : (x y : ℕ) (ys : List ℕ) → (x ≡ y → ⊥) → remove_one x (y ∷ ys) ≡ y ∷ remove_one x ys
unfolding remove_one
remove-past x y ys apart = rw (ne_eqb x y apart) refl

pub insert-none : (x : ℕ) → insert_sorted x [] ≡ x ∷ []
unfolding insert_sorted
insert-none x = refl

-- ---- insertions

swap-lt : (x y : ℕ) (s : List ℕ) → x < y → insert_sorted x (insert_sorted y s) ≡ insert_sorted y (insert_sorted x s)
swap-lt x y [] lt =
    rw (insert-none y, insert-none x, insert-front x y [] (omega arith), insert-past y x [] lt, insert-none y) refl
swap-lt x y (z ∷ s) lt =
    elim (cases_lt z y) [
      | inl below_y ↦ elim (cases_lt z x) [
        | inl below_x ↦
            rw (
              insert-past y z s below_y,
              insert-past x z s below_x,
              insert-past x z (insert_sorted y s) below_x,
              insert-past y z (insert_sorted x s) below_y,
              swap-lt x y s lt,
            ) refl
        | inr above_x ↦
            rw (
              insert-past y z s below_y,
              insert-front x z s above_x,
              insert-front x z (insert_sorted y s) above_x,
              insert-past y x (z ∷ s) lt,
              insert-past y z s below_y,
            ) refl
      ]
      | inr above_y ↦
          let le : x ≤ y = omega arith in
          let above_x : x ≤ z = omega arith in
          rw (
            insert-front y z s above_y,
            insert-front x z s above_x,
            insert-front x y (z ∷ s) le,
            insert-past y x (z ∷ s) lt,
            insert-front y z s above_y,
          ) refl
    ]

-- two insertions may change places
pub insert-swap : (x y : ℕ) (s : List ℕ) → insert_sorted x (insert_sorted y s) ≡ insert_sorted y (insert_sorted x s)
insert-swap x y s =
    elim (cases_order x y) [
      | inl same ↦ rw same refl
      | inr apart ↦ elim apart [ inl lt ↦ swap-lt x y s lt | inr gt ↦ sym (swap-lt y x s gt) ]
    ]

-- one more sample at the end
pub sorted_push : (xs : List ℕ) (x : ℕ) → sorted (xs ++ x ∷ []) ≡ insert_sorted x (sorted xs)
unfolding sorted
sorted_push [] x = refl
sorted_push (y ∷ xs) x = rw (sorted_push xs x) (insert-swap y x (sorted xs))

-- what was inserted can be taken out
pub remove-insert : (x : ℕ) (s : List ℕ) → remove_one x (insert_sorted x s) ≡ s
remove-insert x [] = rw (insert-none x) (remove-here x [])
remove-insert x (y ∷ s) =
    elim (cases_lt y x) [
      | inl below ↦
          let apart : x ≡ y → ⊥ = omega arith in
          rw (insert-past x y s below, remove-past x y (insert_sorted x s) apart, remove-insert x s) refl
      | inr above ↦ rw (insert-front x y s above) (remove-here x (y ∷ s))
    ]

or_right : (a b : Bool) → b ≡ true → (a || b) ≡ true
or_right true b h = refl
or_right false b h = h

-- what was inserted is there
pub any-insert : (x : ℕ) (s : List ℕ) → list_any (λ y. nat_eq x y) (insert_sorted x s) ≡ true
any-insert x [] = rw (insert-none x, eq-eqb x x refl) refl
any-insert x (y ∷ s) =
    elim (cases_lt y x) [
      | inl below ↦ rw (insert-past x y s below) (or_right (nat_eq x y) _ (any-insert x s))
      | inr above ↦ rw (insert-front x y s above, eq-eqb x x refl) refl
    ]

pub length-insert : (x : ℕ) (s : List ℕ) → length (insert_sorted x s) ≡ length s + 1
length-insert x [] = rw (insert-none x) refl
length-insert x (y ∷ s) =
    elim (cases_lt y x) [
      | inl below ↦ rw (insert-past x y s below) (omega (arith, length-insert x s))
      | inr above ↦ rw (insert-front x y s above) (omega arith)
    ]

pub length-sorted : (xs : List ℕ) → length (sorted xs) ≡ length xs
unfolding sorted
length-sorted [] = refl
length-sorted (x ∷ xs) = rw (length-insert x (sorted xs), length-sorted xs) (omega arith)
