-- A list read by number.
use Rattle.std.proofs.Common.{◌≡◌, ℕ, zero, suc, ◌+◌, List, [], ◌∷◌, length, get_or, map, refl, ap, ◌∙◌, add-one}
use Rattle.std.specs.List.{range_with_len}

range_map : {V : Type 0} (f : ℕ → V) (a n : ℕ) → map f (range_with_len (a + 1) n) ≡ map (λ k. f (k + 1)) (range_with_len a n)
range_map f a zero = refl
range_map f a (suc n) = ap (λ vs. f (a + 1) ∷ vs) (range_map f (a + 1) n)

pub by_number : {A V : Type 0} (f : A → V) (xs : List A) (d : A) → map (λ k. f (get_or xs k d)) (range_with_len 0 (length xs)) ≡ map f xs
by_number f [] d = refl
by_number f (x ∷ xs) d =
    let step : map (λ k. f (get_or (x ∷ xs) (k + 1) d)) (range_with_len 0 (length xs)) ≡ map (λ k. f (get_or xs k d)) (range_with_len 0 (length xs)) = simp add-one in
    ap (λ vs. f x ∷ vs) (range_map (λ k. f (get_or (x ∷ xs) k d)) 0 (length xs) ∙ (step ∙ by_number f xs d))
