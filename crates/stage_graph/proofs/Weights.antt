-- Sums over a floor, of a weight for each place.
use Rattle.std.proofs.Common.{◌≡◌, ℕ, zero, suc, ◌+◌, ◌-◌, ◌*◌, ◌<◌, Bool, true, false, cond, List, [], ◌∷◌, get_or, refl, sym, ap, ◌∙◌, subst, arith, Option, Some, None, inl, inr}
use Rattle.std.specs.List.{sum_by}
use Rattle.std.proofs.lemmas.Bool.{eq-eqb}
use Rattle.std.proofs.lemmas.Bool.Decides.{eqb_tells}
use Rattle.std.proofs.lemmas.List.Sums.{sum_by-cons}
use Rattle.stage_graph.specs.Layouts.{Layout, stages, stage_at}
use Rattle.stage_graph.specs.Floors.{State}
use Rattle.stage_graph.specs.Counts.{one_at, times_in, times_in_worker_slot, places_of}

-- the sum of f over a list, with each place
abbrev pub sum_from : {A : Type 0} → (ℕ → A → ℕ) → ℕ → List A → ℕ
sum_from f k [] = 0
sum_from f k (x ∷ xs) = f k x + sum_from f (suc k) xs

-- What a number weighs at each place, and what a worker weighs that has not left, and a floor that is not stopped.
pub record Weights : Type 0 where
  pub backlog : ℕ → ℕ
  pub queue : ℕ → ℕ → ℕ
  pub worker_slot : ℕ → ℕ → ℕ
  pub done : ℕ → ℕ
  pub returned : ℕ → ℕ
  pub worker : ℕ
  pub running : ℕ

abbrev pub of_worker_slot : (ℕ → ℕ) → Option ℕ → ℕ
of_worker_slot f None = 0
of_worker_slot f (Some n) = f n

abbrev pub of_slot : ℕ → Bool → ℕ
of_slot n b = cond b n 0

abbrev pub of_flag : ℕ → Bool → ℕ
of_flag n b = cond b 0 n

unfoldable pub total : Weights → State → ℕ
total v s =
    sum_by v.backlog s.backlog + sum_from (λ k q. sum_by (v.queue k) q) 0 s.queues + sum_from (λ w h. of_worker_slot (v.worker_slot w) h) 0 s.worker_slots
    + sum_from (λ j b. of_slot (v.done j) b) 0 s.done + sum_by v.returned s.returned + sum_by (of_flag v.worker) s.left + of_flag v.running s.stopped

abbrev pub of_number : ℕ → Weights
of_number x = record { backlog = one_at x; queue = λ _. one_at x; worker_slot = λ _. one_at x; done = one_at x; returned = one_at x; worker = 0; running = 0 }

-- how many numbers there are
abbrev pub numbers : Weights
numbers = record { backlog = λ _. 1; queue = λ _ _. 1; worker_slot = λ _ _. 1; done = λ _. 1; returned = λ _. 1; worker = 0; running = 0 }

-- the events that may still come
abbrev pub to_come : Layout → Weights
to_come p = record {
  backlog = λ _. 1 + 2 * stages p;
  queue = λ k _. 2 * (stages p - k);
  worker_slot = λ w _. 2 * (stages p - stage_at p w) - 1;
  done = λ _. 0;
  returned = λ _. 0;
  worker = 1;
  running = 1;
}

-- a sum that doesn't look at the place
sum_from-plain : {A : Type 0} (f : A → ℕ) (k : ℕ) (xs : List A) → sum_from (λ _. f) k xs ≡ sum_by f xs
sum_from-plain f k [] = refl
sum_from-plain f k (x ∷ xs) = ap (λ m. f x + m) (sum_from-plain f (suc k) xs) ∙ sym (sum_by-cons f x xs)

worker_slots-plain : (x k : ℕ) (hs : List (Option ℕ)) → sum_from (λ _ h. of_worker_slot (one_at x) h) k hs ≡ sum_by (times_in_worker_slot x) hs
worker_slots-plain x k [] = refl
worker_slots-plain x k (None ∷ hs) = let t = worker_slots-plain x (suc k) hs in let u = sum_by-cons (times_in_worker_slot x) None hs in omega arith
worker_slots-plain x k (Some n ∷ hs) = ap (λ m. one_at x n + m) (worker_slots-plain x (suc k) hs) ∙ sym (sum_by-cons (times_in_worker_slot x) (Some n) hs)

no_weight : (b : Bool) → of_slot 0 b ≡ 0
no_weight true = refl
no_weight false = refl

no_flag : (b : Bool) → of_flag 0 b ≡ 0
no_flag true = refl
no_flag false = refl

-- places after x weigh nothing
done-after : (x k : ℕ) (bs : List Bool) → x < k → sum_from (λ j b. of_slot (one_at x j) b) k bs ≡ 0
done-after x k [] h = refl
done-after x k (b ∷ bs) h =
    let away : one_at x k ≡ 0 = elim (eqb_tells x k) [ inl at ↦ absurd (omega (arith, at.1, h)) | inr away ↦ rw (away.0) refl ] in
    let first : of_slot (one_at x k) b ≡ 0 = rw away (no_weight b) in
    omega (arith, first, done-after x (suc k) bs (omega arith))

done-here : (x k : ℕ) (b : Bool) (bs : List Bool) → one_at x k ≡ 1 → x < suc k → sum_from (λ j b. of_slot (one_at x j) b) k (b ∷ bs) ≡ cond b 1 0
done-here x k b bs one h =
    let first : of_slot (one_at x k) b ≡ cond b 1 0 = rw one refl in
    let rest = done-after x (suc k) bs h in
    omega arith

done-at : (k i : ℕ) (bs : List Bool) → sum_from (λ j b. of_slot (one_at (k + i) j) b) k bs ≡ cond (get_or bs i false) 1 0
done-at k i [] = refl
done-at k zero (b ∷ bs) = done-here (k + zero) k b bs (rw (eq-eqb (k + zero) k (omega arith)) refl) (omega arith)
done-at k (suc i) (b ∷ bs) =
    let away : one_at (k + suc i) k ≡ 0 = elim (eqb_tells (k + suc i) k) [ inl at ↦ absurd (omega (arith, at.1)) | inr away ↦ rw (away.0) refl ] in
    let first : of_slot (one_at (k + suc i) k) b ≡ 0 = rw away (no_weight b) in
    let e : k + suc i ≡ suc k + i = omega arith in
    let rest : sum_from (λ j b. of_slot (one_at (k + suc i) j) b) (suc k) bs ≡ cond (get_or bs i false) 1 0 = rw e (done-at (suc k) i bs) in
    omega arith

flags-none : (bs : List Bool) → sum_by (of_flag 0) bs ≡ 0
flags-none [] = refl
flags-none (b ∷ bs) = sum_by-cons (of_flag 0) b bs ∙ (let t = no_flag b in let u = flags-none bs in omega arith)

-- a number's weight is how many places it has
pub weight-places : (s : State) (x : ℕ) → total (of_number x) s ≡ places_of s x
unfolding total
weight-places s x =
    let q = sum_from-plain (times_in x) 0 s.queues in
    let h = worker_slots-plain x 0 s.worker_slots in
    let z : 0 + x ≡ x = omega arith in
    let d : sum_from (λ j b. of_slot (one_at x j) b) 0 s.done ≡ cond (get_or s.done x false) 1 0 = let P : ℕ → Type 0 = λ m. sum_from (λ j b. of_slot (one_at m j) b) 0 s.done ≡ cond (get_or s.done x false) 1 0 in subst P z (done-at 0 x s.done) in
    let l = flags-none s.left in
    let r = no_flag s.stopped in
    omega arith
