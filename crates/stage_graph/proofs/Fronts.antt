-- The first of a list of items, beside the first of a list of numbers.
use Rattle.std.proofs.Common.{◌≡◌, ℕ, false, List, [], ◌∷◌, slice_get, map, nat_eq, refl, sym, ap, ◌∙◌, Some, None}
use Rattle.stage_graph.specs.Floors.{is_at, first}
use Rattle.stage_graph.specs.After.{with_steps}

pub first_some : {A : Type 0} (f : A → ℕ × ℕ) (c : ℕ) (xs : List A) (ys : List ℕ) (m : ℕ) (x : A) → map f xs ≡ map (with_steps c) ys → slice_get xs 0 ≡ Some x → nat_eq (f x).0 m ≡ is_at (first ys) m
first_some f c [] ys m x h e = absurd (cc)
first_some f c (y ∷ xs) [] m x h e = absurd (cc)
first_some f c (y ∷ xs) (n ∷ ys) m x h e =
    let a : y ≡ x = cc in
    let b : f y ≡ (n, c) = cc in
    ap (λ z. nat_eq (f z).0 m) (sym a) ∙ ap (λ w. nat_eq w.0 m) b

pub first_none : {A : Type 0} (f : A → ℕ × ℕ) (c : ℕ) (xs : List A) (ys : List ℕ) (m : ℕ) → map f xs ≡ map (with_steps c) ys → slice_get xs 0 ≡ None → false ≡ is_at (first ys) m
first_none f c [] [] m h e = refl
first_none f c [] (n ∷ ys) m h e = absurd (cc)
first_none f c (y ∷ xs) ys m h e = absurd (cc)
