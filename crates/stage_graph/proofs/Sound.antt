-- What a legal history leaves.
use Rattle.std.proofs.Common.{◌≡◌, ◌≢◌, ℕ, zero, suc, ◌+◌, ◌-◌, ◌*◌, ◌<◌, ◌≤◌, Bool, true, false, cond, ◌&&◌, List, [], ◌∷◌, ◌++◌, length, get_or, set, refl, sym, ap, ◌∙◌, arith, Option, Some, None, nat_lt, replicate, inl, inr, zero-add, zero-mul}
use Rattle.std.specs.List.{sum_by, range_with_len}
use Rattle.std.proofs.lemmas.Bool.{ltb-true, ltb-false, lt-ltb, eq-eqb, eqb-false}
use Rattle.std.proofs.lemmas.Bool.Decides.{eqb_tells}
use Rattle.std.proofs.lemmas.List.Sums.{sum_by-cons}
use Rattle.std.proofs.lemmas.List.Folds.{sum_by-replicate}
use Rattle.stage_graph.specs.Layouts.{Layout, IsPlan, stages, workers, stage_at, cut_at, is_last}
use Rattle.stage_graph.specs.Floors.{State, queue_at, worker_slot_at, is_at, opening, give_cause, is_allowed, after, after_all, is_legal, standing, is_legal_from_opening, most_events}
use Rattle.stage_graph.specs.Counts.{one_at}
use Rattle.stage_graph.proofs.Weights.{sum_from, Weights, of_worker_slot, of_slot, of_flag, total, of_number, numbers, to_come}
use Rattle.stage_graph.specs.declared.event.Cause.{Cause}
use Rattle.stage_graph.specs.declared.event.Cause.TheVariants.{NotHeld}
use Rattle.std.proofs.lemmas.List.FromFn.{length-range_with_len}
use Rattle.stage_graph.specs.declared.event.Event.{Event}
use Rattle.stage_graph.specs.declared.event.Event.TheVariants.{Feed, Take, Give, Back, Leave, Halt}
use Rattle.stage_graph.proofs.Histories.{and_left, and_right}
use Rattle.stage_graph.proofs.Sizes.{IsSized, IsSized-after, IsSized-opening}
use Rattle.stage_graph.proofs.Causes.{none_is, at_is, may_take, may_back, may_leave, may_halt}
use Rattle.stage_graph.proofs.Weighing.{get_or-le-sum_from, total-feed, total-take, total-give, total-finish, total-back, total-leave, total-halt}

-- The numbers below n are each at one place.
pub record IsPlaced (p : Layout) (n : ℕ) (s : State) : Type 0 where
  pub sized : IsSized p n s
  pub places : (x : ℕ) → total (of_number x) s ≡ cond (nat_lt x n) 1 0

-- a held number weighs in the total as one that is held
held_weighs : (v : Weights) (s : State) (w m : ℕ) → w < length s.worker_slots → worker_slot_at s w ≡ Some m → v.worker_slot w m ≤ total v s
unfolding total
held_weighs v s w m inside at =
    let a = get_or-le-sum_from (λ w h. of_worker_slot (v.worker_slot w) h) 0 s.worker_slots w None inside in
    let e : of_worker_slot (v.worker_slot (0 + w)) (worker_slot_at s w) ≡ v.worker_slot w m = rw (at, zero-add w) refl in
    omega arith

one_at-same : (m : ℕ) → one_at m m ≡ 1
one_at-same m = rw (eq-eqb m m refl) refl

below_from_place : (p : Layout) (n : ℕ) (s : State) (w m : ℕ) → IsPlaced p n s → w < workers p → worker_slot_at s w ≡ Some m → nat_lt m n ≡ true
below_from_place p n s w m placed known at =
    let a = held_weighs (of_number m) s w m (omega (arith, placed.sized.worker_slots)) at in
    let b : 1 ≤ cond (nat_lt m n) 1 0 = omega (arith, a, one_at-same m, placed.places m) in
    positive (nat_lt m n) b
  where
    positive : (b : Bool) → 1 ≤ cond b 1 0 → b ≡ true
    positive true h = refl
    positive false h = absurd (omega arith)

-- a number that is held and done would weigh twice
free_from_place : (p : Layout) (n : ℕ) (s : State) (w m : ℕ) → IsPlaced p n s → w < workers p → m < n → worker_slot_at s w ≡ Some m → get_or s.done m false ≡ false
unfolding total
free_from_place p n s w m placed known below at =
    let v = of_number m in
    let a = get_or-le-sum_from (λ w h. of_worker_slot (v.worker_slot w) h) 0 s.worker_slots w None (omega (arith, placed.sized.worker_slots)) in
    let d = get_or-le-sum_from (λ j b. of_slot (v.done j) b) 0 s.done m false (omega (arith, placed.sized.done)) in
    let e : of_worker_slot (one_at m) (worker_slot_at s w) ≡ 1 = rw (at) (one_at-same m) in
    let f : of_slot (one_at m (0 + m)) (get_or s.done m false) ≡ of_slot 1 (get_or s.done m false) = rw (zero-add m, one_at-same m) refl in
    let t : cond (nat_lt m n) 1 0 ≡ 1 = ap (λ b. cond b 1 0) (lt-ltb m n below) in
    let q : total (of_number m) s ≡ 1 = placed.places m ∙ t in
    open_slot (get_or s.done m false) (omega arith)
  where
    open_slot : (b : Bool) → of_slot 1 b < 1 → b ≡ false
    open_slot true h = absurd (omega arith)
    open_slot false h = refl

unfoldable pub lost : Weights → Layout → State → Event → ℕ
lost v p s (Feed n) = v.backlog n
lost v p s (Take w n) = v.queue (stage_at p w) n
lost v p s (Give w n) = v.worker_slot w n
lost v p s (Back w n) = v.worker_slot w n + of_flag v.running s.stopped
lost v p s (Leave w) = v.worker
lost v p s Halt = v.running

unfoldable pub gained : Weights → Layout → Event → ℕ
gained v p (Feed n) = v.queue 0 n
gained v p (Take w n) = v.worker_slot w n
gained v p (Give w n) = cond (is_last p (stage_at p w)) (v.done n) (v.queue (stage_at p w + 1) n)
gained v p (Back w n) = v.returned n
gained v p (Leave w) = 0
gained v p Halt = 0

pub by_bool : (P : Bool → Type 0) (b : Bool) → (b ≡ true → P true) → (b ≡ false → P false) → P b
by_bool P true t f = t refl
by_bool P false t f = f refl

-- what an event changes in a total
pub total_after : (v : Weights) (p : Layout) (n : ℕ) (s : State) (e : Event) → IsPlan p → IsPlaced p n s → is_allowed p s e ≡ true → total v (after p s e) + lost v p s e ≡ total v s + gained v p e
unfolding lost gained
total_after v p n s (Feed x) plan placed ok = total-feed v s x (omega (arith, placed.sized.queues, plan.some)) (and_right _ _ ok)
total_after v p n s (Take w x) plan placed ok =
    let known = ltb-true w (workers p) (and_left _ _ ok) in
    let rest = and_right _ _ ok in
    let may = may_take p s w (none_is _ (and_left _ _ rest)) in
    total-take v s (stage_at p w) w x (omega (arith, placed.sized.queues, plan.posted w known)) (omega (arith, placed.sized.worker_slots)) may.free (and_right _ _ rest)
total_after v p n s (Give w x) plan placed ok =
    let known = ltb-true w (workers p) (and_left _ _ ok) in
    let none = none_is _ (and_right _ _ ok) in
    let at : worker_slot_at s w ≡ Some x = give_at s w x none in
    let below = ltb-true x n (below_from_place p n s w x placed known at) in
    by_bool (λ b. total v (cond b (record s { worker_slots = set s.worker_slots w None; done = set s.done x true }) (record s { worker_slots = set s.worker_slots w None; queues = set s.queues (stage_at p w + 1) (queue_at s (stage_at p w + 1) ++ x ∷ []) })) + v.worker_slot w x ≡ total v s + cond b (v.done x) (v.queue (stage_at p w + 1) x))
    (is_last p (stage_at p w))
    (λ last. total-finish v s w x (omega (arith, placed.sized.worker_slots)) (omega (arith, placed.sized.done)) at (free_from_place p n s w x placed known below at))
    (λ more. total-give v s (stage_at p w + 1) w x (omega (arith, placed.sized.queues, plan.posted w known, eqb-false (stage_at p w + 1) (stages p) more)) (omega (arith, placed.sized.worker_slots)) at)
  where
    give_at : (s : State) (w x : ℕ) → give_cause p s w x (cut_at p (stage_at p w)) ≡ None → worker_slot_at s w ≡ Some x
    give_at s w x none = at_is _ x (held_of _ _ _ none)
      where
        held_of : (a b : Bool) (o : Option Cause) → cond (a && b) o (Some NotHeld) ≡ None → a ≡ true
        held_of true b o h = refl
        held_of false b o h = absurd (cc)
total_after v p n s (Back w x) plan placed ok =
    let known = ltb-true w (workers p) (and_left _ _ ok) in
    let at = at_is _ x (may_back s w x (none_is _ (and_right _ _ ok))) in
    let t = total-back v s w x (omega (arith, placed.sized.worker_slots)) at in
    omega arith
total_after v p n s (Leave w) plan placed ok =
    let known = ltb-true w (workers p) (and_left _ _ ok) in
    let may = may_leave p s w (none_is _ (and_right _ _ ok)) in
    let t = total-leave v s w (omega (arith, placed.sized.left)) may.here in
    omega arith
total_after v p n s Halt plan placed ok = let t = total-halt v s (may_halt s (none_is _ ok)) in omega arith

flag : (b : Bool) → of_flag 0 b ≡ 0
flag true = refl
flag false = refl

balanced : (p : Layout) (s : State) (x : ℕ) (e : Event) → lost (of_number x) p s e ≡ gained (of_number x) p e
unfolding lost gained
balanced p s x (Feed y) = refl
balanced p s x (Take w y) = refl
balanced p s x (Give w y) = by_bool (λ b. one_at x y ≡ cond b (one_at x y) (one_at x y)) (is_last p (stage_at p w)) (λ _. refl) (λ _. refl)
balanced p s x (Back w y) = omega (arith, flag s.stopped)
balanced p s x (Leave w) = refl
balanced p s x Halt = refl

pub IsPlaced-after : (p : Layout) (n : ℕ) (s : State) (e : Event) → IsPlan p → IsPlaced p n s → is_allowed p s e ≡ true → IsPlaced p n (after p s e)
IsPlaced-after p n s e plan placed ok = record {
  sized = IsSized-after p n s e placed.sized;
  places = λ x. same x (total_after (of_number x) p n s e plan placed ok) ∙ placed.places x;
}
  where
    same : (x : ℕ) → total (of_number x) (after p s e) + lost (of_number x) p s e ≡ total (of_number x) s + gained (of_number x) p e → total (of_number x) (after p s e) ≡ total (of_number x) s
    same x t = omega (arith, balanced p s x e)

-- sums over a new floor
sum_by-none : {A : Type 0} (f : A → ℕ) (n : ℕ) (x : A) → f x ≡ 0 → sum_by f (replicate n x) ≡ 0
sum_by-none f zero x h = refl
sum_by-none f (suc n) x h = sum_by-cons f x (replicate n x) ∙ omega (arith, sum_by-none f n x h)

sum_from-none : {A : Type 0} (f : ℕ → A → ℕ) (k n : ℕ) (x : A) → ((j : ℕ) → f j x ≡ 0) → sum_from f k (replicate n x) ≡ 0
sum_from-none f k zero x h = refl
sum_from-none f k (suc n) x h = omega (arith, sum_from-none f (suc k) n x h, h k)

pub total-opening : (v : Weights) (p : Layout) (n : ℕ) → total v (opening p n) ≡ sum_by v.backlog (range_with_len 0 n) + workers p * v.worker + v.running
unfolding total opening
total-opening v p n =
    let a = sum_from-none (λ k q. sum_by (v.queue k) q) 0 (stages p) [] (λ _. refl) in
    let b = sum_from-none (λ w h. of_worker_slot (v.worker_slot w) h) 0 (workers p) None (λ _. refl) in
    let c = sum_from-none (λ j b. of_slot (v.done j) b) 0 n false (λ _. refl) in
    omega (arith, sum_by-replicate (of_flag v.worker) (workers p) false)

sum_by-const : {A : Type 0} (c : ℕ) (xs : List A) → sum_by (λ _. c) xs ≡ length xs * c
sum_by-const c [] = sym (zero-mul c)
sum_by-const c (x ∷ xs) = sum_by-cons (λ _. c) x xs ∙ (ap (λ m. c + m) (sum_by-const c xs) ∙ suc_mul (length xs) c)
  where
    suc_mul : (m c : ℕ) → c + m * c ≡ suc m * c
    suc_mul m c = grind arith

one_at-other : (x y : ℕ) → x ≢ y → one_at x y ≡ 0
one_at-other x y h = elim (eqb_tells x y) [ inl at ↦ absurd (h at.1) | inr away ↦ rw (away.0) refl ]

range_before : (a n x : ℕ) → x < a → sum_by (one_at x) (range_with_len a n) ≡ 0
range_before a zero x h = refl
range_before a (suc n) x h =
    let t = range_before (a + 1) n x (omega arith) in
    let e = one_at-other x a (λ i. omega arith) in
    sum_by-cons (one_at x) a (range_with_len (a + 1) n) ∙ omega arith

range_after : (a n x : ℕ) → a + n ≤ x → sum_by (one_at x) (range_with_len a n) ≡ 0
range_after a zero x h = refl
range_after a (suc n) x h =
    let t = range_after (a + 1) n x (omega arith) in
    let e = one_at-other x a (λ i. omega arith) in
    sum_by-cons (one_at x) a (range_with_len (a + 1) n) ∙ omega arith

pub range_within : (a n x : ℕ) → a ≤ x → x < a + n → sum_by (one_at x) (range_with_len a n) ≡ 1
range_within a zero x l h = absurd (omega arith)
range_within a (suc n) x l h =
    elim (eqb_tells x a) [
      | inl at ↦
          let t = range_before (a + 1) n x (omega (arith, at.1)) in
          let e : one_at x a ≡ 1 = rw (at.0) refl in
          sum_by-cons (one_at x) a (range_with_len (a + 1) n) ∙ omega arith
      | inr away ↦
          let t = range_within (a + 1) n x (omega (arith, away.1)) (omega arith) in
          let e = one_at-other x a (away.1) in
          sum_by-cons (one_at x) a (range_with_len (a + 1) n) ∙ omega arith
    ]

pub IsPlaced-opening : (p : Layout) (n : ℕ) → IsPlaced p n (opening p n)
IsPlaced-opening p n = record {
  sized = IsSized-opening p n;
  places = λ x. by_bool (λ b. total (of_number x) (opening p n) ≡ cond b 1 0) (nat_lt x n)
      (λ t. omega (arith, total-opening (of_number x) p n, range_within 0 n x (omega arith) (omega (arith, ltb-true x n t))))
      (λ f. omega (arith, total-opening (of_number x) p n, range_after 0 n x (omega (arith, ltb-false x n f))));
}

IsPlaced-after_all : (p : Layout) (n : ℕ) (s : State) (h : List Event) → IsPlan p → IsPlaced p n s → is_legal p s h ≡ true → IsPlaced p n (after_all p s h)
unfolding after_all is_legal
IsPlaced-after_all p n s [] plan placed legal = placed
IsPlaced-after_all p n s (e ∷ h) plan placed legal = IsPlaced-after_all p n (after p s e) h plan (IsPlaced-after p n s e plan placed (and_left _ _ legal)) (and_right _ _ legal)

-- each number below n is at one place, whatever the history
pub IsPlaced-standing : (p : Layout) (n : ℕ) (h : List Event) → IsPlan p → is_legal_from_opening p n h ≡ true → IsPlaced p n (standing p n h)
unfolding standing is_legal_from_opening
IsPlaced-standing p n h plan legal = IsPlaced-after_all p n (opening p n) h plan (IsPlaced-opening p n) legal

cond-same : (b : Bool) (m : ℕ) → m ≡ cond b m m
cond-same true m = refl
cond-same false m = refl

even : (p : Layout) (s : State) (e : Event) → lost numbers p s e ≡ gained numbers p e
unfolding lost gained
even p s (Feed y) = refl
even p s (Take w y) = refl
even p s (Give w y) = cond-same (is_last p (stage_at p w)) 1
even p s (Back w y) = omega (arith, flag s.stopped)
even p s (Leave w) = refl
even p s Halt = refl

-- the total of all numbers is n
counted_after : (p : Layout) (n : ℕ) (s : State) (h : List Event) → IsPlan p → IsPlaced p n s → is_legal p s h ≡ true → total numbers (after_all p s h) ≡ total numbers s
unfolding after_all is_legal
counted_after p n s [] plan placed legal = refl
counted_after p n s (e ∷ h) plan placed legal =
    let next = IsPlaced-after p n s e plan placed (and_left _ _ legal) in
    let t = total_after numbers p n s e plan placed (and_left _ _ legal) in
    let step : total numbers (after p s e) ≡ total numbers s = omega (arith, even p s e) in
    counted_after p n (after p s e) h plan next (and_right _ _ legal) ∙ step

costs : (p : Layout) (s : State) (e : Event) → IsPlan p → is_allowed p s e ≡ true → gained (to_come p) p e + 1 ≤ lost (to_come p) p s e
unfolding lost gained
costs p s (Feed y) plan ok = omega arith
costs p s (Take w y) plan ok = let k = plan.posted w (ltb-true w (workers p) (and_left _ _ ok)) in omega arith
costs p s (Give w y) plan ok =
    let k = plan.posted w (ltb-true w (workers p) (and_left _ _ ok)) in
    by_bool (λ b. cond b 0 (2 * (stages p - (stage_at p w + 1))) + 1 ≤ 2 * (stages p - stage_at p w) - 1) (is_last p (stage_at p w))
    (λ _. omega arith)
    (λ more. let m = eqb-false (stage_at p w + 1) (stages p) more in omega arith)
costs p s (Back w y) plan ok = let k = plan.posted w (ltb-true w (workers p) (and_left _ _ ok)) in omega arith
costs p s (Leave w) plan ok = omega arith
costs p s Halt plan ok = omega arith

-- each event takes one from the events that may still come
falls : (p : Layout) (n : ℕ) (s : State) (e : Event) → IsPlan p → IsPlaced p n s → is_allowed p s e ≡ true → total (to_come p) (after p s e) + 1 ≤ total (to_come p) s
falls p n s e plan placed ok = omega (arith, total_after (to_come p) p n s e plan placed ok, costs p s e plan ok)

-- a history and what may still come are no longer than the most events
coming_after : (p : Layout) (n : ℕ) (s : State) (h : List Event) → IsPlan p → IsPlaced p n s → is_legal p s h ≡ true → total (to_come p) (after_all p s h) + length h ≤ total (to_come p) s
unfolding after_all is_legal
coming_after p n s [] plan placed legal = omega arith
coming_after p n s (e ∷ h) plan placed legal =
    let next = IsPlaced-after p n s e plan placed (and_left _ _ legal) in
    let t = coming_after p n (after p s e) h plan next (and_right _ _ legal) in
    omega (arith, falls p n s e plan placed (and_left _ _ legal), t)

-- one more event fits into the most events
pub event_fits : (p : Layout) (n : ℕ) (h : List Event) (e : Event) → IsPlan p → is_legal_from_opening p n h ≡ true → is_allowed p (standing p n h) e ≡ true → length h < most_events p n
unfolding standing is_legal_from_opening
event_fits p n h e plan legal allowed =
    let a = coming_after p n (opening p n) h plan (IsPlaced-opening p n) legal in
    let b = falls p n (after_all p (opening p n) h) e plan (IsPlaced-after_all p n (opening p n) h plan (IsPlaced-opening p n) legal) allowed in
    let c = total-opening (to_come p) p n in
    let d : sum_by (to_come p).backlog (range_with_len 0 n) ≡ n * (1 + 2 * stages p) = sum_by-const (1 + 2 * stages p) (range_with_len 0 n) ∙ ap (λ m. m * (1 + 2 * stages p)) (length-range_with_len 0 n) in
    omega arith

-- a number in a slot is one of the floor's, and not done
pub held_below : (p : Layout) (n : ℕ) (h : List Event) (w m : ℕ) → IsPlan p → is_legal_from_opening p n h ≡ true → w < workers p → is_at (worker_slot_at (standing p n h) w) m ≡ true → m < n
held_below p n h w m plan legal known at =
    ltb-true m n (below_from_place p n (standing p n h) w m (IsPlaced-standing p n h plan legal) known (at_is _ m at))

pub held_not_done : (p : Layout) (n : ℕ) (h : List Event) (w m : ℕ) → IsPlan p → is_legal_from_opening p n h ≡ true → w < workers p → is_at (worker_slot_at (standing p n h) w) m ≡ true → get_or (standing p n h).done m false ≡ false
held_not_done p n h w m plan legal known at =
    free_from_place p n (standing p n h) w m (IsPlaced-standing p n h plan legal) known (held_below p n h w m plan legal known at) (at_is _ m at)

pub counted_standing : (p : Layout) (n : ℕ) (h : List Event) → IsPlan p → is_legal_from_opening p n h ≡ true → total numbers (standing p n h) ≡ n
unfolding standing is_legal_from_opening
counted_standing p n h plan legal =
    let a = counted_after p n (opening p n) h plan (IsPlaced-opening p n) legal in
    let c = total-opening numbers p n in
    let d : sum_by numbers.backlog (range_with_len 0 n) ≡ n * 1 = sum_by-const 1 (range_with_len 0 n) ∙ ap (λ m. m * 1) (length-range_with_len 0 n) in
    a ∙ c ∙ omega arith

-- where a slot is full, there are fewer than n returned
returned_below : (s : State) (w m : ℕ) → w < length s.worker_slots → worker_slot_at s w ≡ Some m → length s.returned < total numbers s
unfolding total
returned_below s w m inside at =
    let v = numbers in
    let a = get_or-le-sum_from (λ w h. of_worker_slot (v.worker_slot w) h) 0 s.worker_slots w None inside in
    let e : of_worker_slot (v.worker_slot (0 + w)) (worker_slot_at s w) ≡ 1 = rw at refl in
    let r : sum_by v.returned s.returned ≡ length s.returned * 1 = sum_by-const 1 s.returned in
    omega arith

pub returned_fits : (p : Layout) (n : ℕ) (h : List Event) (w m : ℕ) → IsPlan p → is_legal_from_opening p n h ≡ true → w < workers p → is_at (worker_slot_at (standing p n h) w) m ≡ true → length (standing p n h).returned < n
returned_fits p n h w m plan legal known at =
    let sized = (IsPlaced-standing p n h plan legal).sized in
    let a = returned_below (standing p n h) w m (omega (arith, sized.worker_slots)) (at_is _ m at) in
    omega (arith, counted_standing p n h plan legal, a)

-- no legal history is longer than the most events
pub short_enough : (p : Layout) (n : ℕ) (h : List Event) → IsPlan p → is_legal_from_opening p n h ≡ true → length h ≤ most_events p n
unfolding is_legal_from_opening
short_enough p n h plan legal =
    let a = coming_after p n (opening p n) h plan (IsPlaced-opening p n) legal in
    let c = total-opening (to_come p) p n in
    let d : sum_by (to_come p).backlog (range_with_len 0 n) ≡ n * (1 + 2 * stages p) = sum_by-const (1 + 2 * stages p) (range_with_len 0 n) ∙ ap (λ m. m * (1 + 2 * stages p)) (length-range_with_len 0 n) in
    omega arith
