-- No queue holds more than its capacity.
use Rattle.std.proofs.Common.{◌≡◌, ℕ, ◌+◌, ◌<◌, ◌≤◌, true, cond, List, [], ◌∷◌, ◌++◌, length, get_or, set, drop, nat_lt, sym, subst, arith, None, inl, inr, length-append, length-drop}
use Rattle.std.proofs.lemmas.Bool.{ltb-true, eqb-false, leb-false}
use Rattle.std.proofs.lemmas.Bool.Decides.{eqb_tells}
use Rattle.std.proofs.lemmas.List.{get_or-set_same, get_or-set_other, get_or-replicate}
use Rattle.stage_graph.specs.Layouts.{Layout, IsPlan, stages, workers, stage_at, cut_at, capacity_at, is_last}
use Rattle.stage_graph.specs.Floors.{State, queue_at, opening, is_allowed, after, after_all, is_legal, standing, is_legal_from_opening}
use Rattle.stage_graph.specs.declared.event.Event.{Event}
use Rattle.stage_graph.specs.declared.event.Event.TheVariants.{Feed, Take, Give, Back, Leave, Halt}
use Rattle.stage_graph.proofs.Histories.{and_left, and_right}
use Rattle.stage_graph.proofs.Sizes.{IsSized, IsSized-after, IsSized-opening}
use Rattle.stage_graph.proofs.Causes.{none_is, may_feed, may_give}
use Rattle.stage_graph.proofs.Sound.{by_bool}

IsWithinCapacity : Layout → State → Type 0
IsWithinCapacity p s = (k : ℕ) → k < stages p → length (queue_at s k) ≤ capacity_at p k

set_within_capacity : (p : Layout) (qs : List (List ℕ)) (j : ℕ) (q : List ℕ) → j < length qs → length q ≤ capacity_at p j → ((k : ℕ) → k < stages p → length (get_or qs k []) ≤ capacity_at p k)
    → (k : ℕ) → k < stages p → length (get_or (set qs j q) k []) ≤ capacity_at p k
set_within_capacity p qs j q inside fits all k below =
    elim (eqb_tells k j) [
      | inl at ↦ let P : ℕ → Type 0 = λ i. length (get_or (set qs j q) i []) ≤ capacity_at p i in subst P (sym at.1) (rw (get_or-set_same qs j q [] inside) fits)
      | inr away ↦ rw (get_or-set_other qs j k q [] away.1) (all k below)
    ]

IsWithinCapacity-after : (p : Layout) (n : ℕ) (s : State) (e : Event) → IsPlan p → IsSized p n s → IsWithinCapacity p s → is_allowed p s e ≡ true → IsWithinCapacity p (after p s e)
unfolding IsWithinCapacity
IsWithinCapacity-after p n s (Feed x) plan sized within ok =
    let may = may_feed p s (none_is _ (and_left _ _ ok)) in
    set_within_capacity p s.queues 0 (queue_at s 0 ++ x ∷ []) (omega (arith, sized.queues, plan.some)) (omega (arith, length-append (queue_at s 0) (x ∷ []), leb-false (capacity_at p 0) (length (queue_at s 0)) may.not_full)) within
IsWithinCapacity-after p n s (Take w x) plan sized within ok =
    let k = stage_at p w in
    let in-p : k < stages p = plan.posted w (ltb-true w (workers p) (and_left _ _ ok)) in
    set_within_capacity p s.queues k (drop 1 (queue_at s k)) (omega (arith, sized.queues)) (let r = within k in-p in omega (arith, r, length-drop 1 (queue_at s k))) within
IsWithinCapacity-after p n s (Give w x) plan sized within ok =
    let k = stage_at p w in
    let in-p : k < stages p = plan.posted w (ltb-true w (workers p) (and_left _ _ ok)) in
    let none = none_is _ (and_right (nat_lt w (workers p)) _ ok) in
    by_bool (λ b. (j : ℕ) → j < stages p → length (queue_at (cond b (record s { worker_slots = set s.worker_slots w None; done = set s.done x true }) (record s { worker_slots = set s.worker_slots w None; queues = set s.queues (k + 1) (queue_at s (k + 1) ++ x ∷ []) })) j) ≤ capacity_at p j)
    (is_last p k)
    (λ last. within)
    (λ more. set_within_capacity p s.queues (k + 1) (queue_at s (k + 1) ++ x ∷ []) (omega (arith, sized.queues, in-p, eqb-false (k + 1) (stages p) more))
    (omega (arith, length-append (queue_at s (k + 1)) (x ∷ []), leb-false (capacity_at p (k + 1)) (length (queue_at s (k + 1))) (may_give p s w x (cut_at p k) none more))) within)
IsWithinCapacity-after p n s (Back w x) plan sized within ok = within
IsWithinCapacity-after p n s (Leave w) plan sized within ok = within
IsWithinCapacity-after p n s Halt plan sized within ok = within

IsWithinCapacity-after_all : (p : Layout) (n : ℕ) (s : State) (h : List Event) → IsPlan p → IsSized p n s → IsWithinCapacity p s → is_legal p s h ≡ true → IsWithinCapacity p (after_all p s h)
unfolding after_all is_legal
IsWithinCapacity-after_all p n s [] plan sized within legal = within
IsWithinCapacity-after_all p n s (e ∷ h) plan sized within legal =
    IsWithinCapacity-after_all p n (after p s e) h plan (IsSized-after p n s e sized) (IsWithinCapacity-after p n s e plan sized within (and_left _ _ legal)) (and_right _ _ legal)

IsWithinCapacity-opening : (p : Layout) (n : ℕ) → IsWithinCapacity p (opening p n)
unfolding IsWithinCapacity opening
IsWithinCapacity-opening p n k below = rw (get_or-replicate {A = List ℕ} (stages p) k [] [] below) (omega arith)

pub capacities_hold : (p : Layout) (n : ℕ) (h : List Event) → IsPlan p → is_legal_from_opening p n h ≡ true → (k : ℕ) → k < stages p → length (queue_at (standing p n h) k) ≤ capacity_at p k
unfolding standing is_legal_from_opening IsWithinCapacity
capacities_hold p n h plan legal = IsWithinCapacity-after_all p n (opening p n) h plan (IsSized-opening p n) (IsWithinCapacity-opening p n) legal
