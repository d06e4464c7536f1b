-- How each event changes a total.
use Rattle.std.proofs.Common.{◌≡◌, ℕ, zero, suc, ◌+◌, ◌<◌, ◌≤◌, true, false, List, [], ◌∷◌, ◌++◌, length, get_or, set, drop, refl, ap, subst, arith, Option, Some, None, add-zero}
use Rattle.std.specs.List.{sum_by}
use Rattle.std.proofs.lemmas.Bool.{eqb-true}
use Rattle.std.proofs.lemmas.List.Sums.{sum_by-append, sum_by-set, sum_by-cons}
use Rattle.stage_graph.specs.Floors.{State, queue_at, worker_slot_at, has_left, is_at, first}
use Rattle.stage_graph.proofs.Weights.{sum_from, Weights, of_worker_slot, of_slot, of_flag, total}
use Rattle.stage_graph.proofs.Lists.{some_first}

pub sum_from-set : {A : Type 0} (f : ℕ → A → ℕ) (k : ℕ) (xs : List A) (i : ℕ) (y d : A) → i < length xs → sum_from f k (set xs i y) + f (k + i) (get_or xs i d) ≡ sum_from f k xs + f (k + i) y
sum_from-set f k [] i y d h = absurd (omega arith)
sum_from-set f k (x ∷ xs) zero y d h = rw (add-zero k) (omega arith)
sum_from-set f k (x ∷ xs) (suc i) y d h =
    let t = sum_from-set f (suc k) xs i y d (omega arith) in
    let e : k + suc i ≡ suc k + i = omega arith in
    rw e (omega arith)

-- the same for the sum over a whole list
pub sum_all-set : {A : Type 0} (f : ℕ → A → ℕ) (xs : List A) (i : ℕ) (y d : A) → i < length xs → sum_from f 0 (set xs i y) + f i (get_or xs i d) ≡ sum_from f 0 xs + f i y
sum_all-set f xs i y d h = let e : 0 + i ≡ i = omega arith in let P : ℕ → Type 0 = λ j. sum_from f 0 (set xs i y) + f j (get_or xs i d) ≡ sum_from f 0 xs + f j y in subst P e (sum_from-set f 0 xs i y d h)

pub get_or-le-sum_from : {A : Type 0} (f : ℕ → A → ℕ) (k : ℕ) (xs : List A) (i : ℕ) (d : A) → i < length xs → f (k + i) (get_or xs i d) ≤ sum_from f k xs
get_or-le-sum_from f k [] i d h = absurd (omega arith)
get_or-le-sum_from f k (x ∷ xs) zero d h = rw (add-zero k) (omega arith)
get_or-le-sum_from f k (x ∷ xs) (suc i) d h =
    let t = get_or-le-sum_from f (suc k) xs i d (omega arith) in
    let e : k + suc i ≡ suc k + i = omega arith in
    rw e (omega arith)

sum_by-first : (f : ℕ → ℕ) (xs : List ℕ) (n : ℕ) → is_at (first xs) n ≡ true → sum_by f (drop 1 xs) + f n ≡ sum_by f xs
sum_by-first f xs n h =
    let t = some_first xs n h in
    let e : sum_by f (drop 1 (n ∷ t.0)) + f n ≡ sum_by f (n ∷ t.0) = omega (arith, sum_by-cons f n t.0) in
    rw (t.1) e

pub held : (h : Option ℕ) (n : ℕ) → is_at h n ≡ true → h ≡ Some n
held None n e = absurd (cc)
held (Some m) n e = ap Some (eqb-true m n e)

module _ (v : Weights) (s : State) where
  pub total-feed : (n : ℕ) → 0 < length s.queues → is_at (first s.backlog) n ≡ true
      → total v (record s { backlog = drop 1 s.backlog; queues = set s.queues 0 (queue_at s 0 ++ n ∷ []) }) + v.backlog n ≡ total v s + v.queue 0 n
  unfolding total
  total-feed n some at =
      let a = sum_by-first v.backlog s.backlog n at in
      let b = sum_all-set (λ k q. sum_by (v.queue k) q) s.queues 0 (queue_at s 0 ++ n ∷ []) [] some in
      omega (arith, sum_by-append (v.queue 0) (queue_at s 0) (n ∷ []))

  pub total-take : (k w n : ℕ) → k < length s.queues → w < length s.worker_slots → worker_slot_at s w ≡ None → is_at (first (queue_at s k)) n ≡ true
      → total v (record s { queues = set s.queues k (drop 1 (queue_at s k)); worker_slots = set s.worker_slots w (Some n) }) + v.queue k n ≡ total v s + v.worker_slot w n
  unfolding total
  total-take k w n in-q in-h free at =
      let a = sum_by-first (v.queue k) (queue_at s k) n at in
      let b = sum_all-set (λ k q. sum_by (v.queue k) q) s.queues k (drop 1 (queue_at s k)) [] in-q in
      let c = sum_all-set (λ w h. of_worker_slot (v.worker_slot w) h) s.worker_slots w (Some n) None in-h in
      let d : of_worker_slot (v.worker_slot w) (worker_slot_at s w) ≡ 0 = rw free refl in
      omega arith

  pub total-give : (k w n : ℕ) → k < length s.queues → w < length s.worker_slots → worker_slot_at s w ≡ Some n
      → total v (record s { worker_slots = set s.worker_slots w None; queues = set s.queues k (queue_at s k ++ n ∷ []) }) + v.worker_slot w n ≡ total v s + v.queue k n
  unfolding total
  total-give k w n in-q in-h at =
      let b = sum_all-set (λ k q. sum_by (v.queue k) q) s.queues k (queue_at s k ++ n ∷ []) [] in-q in
      let c = sum_all-set (λ w h. of_worker_slot (v.worker_slot w) h) s.worker_slots w None None in-h in
      let d : of_worker_slot (v.worker_slot w) (worker_slot_at s w) ≡ v.worker_slot w n = rw at refl in
      omega (arith, sum_by-append (v.queue k) (queue_at s k) (n ∷ []))

  pub total-finish : (w n : ℕ) → w < length s.worker_slots → n < length s.done → worker_slot_at s w ≡ Some n → get_or s.done n false ≡ false
      → total v (record s { worker_slots = set s.worker_slots w None; done = set s.done n true }) + v.worker_slot w n ≡ total v s + v.done n
  unfolding total
  total-finish w n in-h in-d at free =
      let b = sum_all-set (λ j b. of_slot (v.done j) b) s.done n true false in-d in
      let c = sum_all-set (λ w h. of_worker_slot (v.worker_slot w) h) s.worker_slots w None None in-h in
      let d : of_worker_slot (v.worker_slot w) (worker_slot_at s w) ≡ v.worker_slot w n = rw at refl in
      let e : of_slot (v.done n) (get_or s.done n false) ≡ 0 = rw free refl in
      omega arith

  pub total-back : (w n : ℕ) → w < length s.worker_slots → worker_slot_at s w ≡ Some n
      → total v (record s { worker_slots = set s.worker_slots w None; returned = s.returned ++ n ∷ []; stopped = true }) + v.worker_slot w n + of_flag v.running s.stopped ≡ total v s + v.returned n
  unfolding total
  total-back w n in-h at =
      let c = sum_all-set (λ w h. of_worker_slot (v.worker_slot w) h) s.worker_slots w None None in-h in
      let d : of_worker_slot (v.worker_slot w) (worker_slot_at s w) ≡ v.worker_slot w n = rw at refl in
      omega (arith, sum_by-append v.returned s.returned (n ∷ []))

  pub total-leave : (w : ℕ) → w < length s.left → has_left s w ≡ false
      → total v (record s { left = set s.left w true }) + v.worker ≡ total v s
  unfolding total
  total-leave w in-l here =
      let c = sum_by-set (of_flag v.worker) s.left w true false in-l in
      let d : of_flag v.worker (has_left s w) ≡ v.worker = rw here refl in
      omega arith

  pub total-halt : s.stopped ≡ false → total v (record s { stopped = true }) + v.running ≡ total v s
  unfolding total
  total-halt runs = let d : of_flag v.running s.stopped ≡ v.running = rw runs refl in omega arith
