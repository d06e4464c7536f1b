-- What each event leaves on the floor.
use Rattle.std.proofs.Common.{◌≡◌, ℕ, ◌+◌, ◌-◌, ◌<◌, Bool, true, false, cond, ◌&&◌, List, [], ◌∷◌, ◌++◌, length, get_or, set, drop, map, nat_eq, nat_le, refl, sym, ap, ◌∙◌, subst, arith, Option, Some, None, length-set, add-one}
use Rattle.std.specs.Option.{option_map, is_none}
use Rattle.std.proofs.lemmas.List.{map-append, get_or_read}
use Rattle.std.proofs.Math.Dec.{eqb-suc-zero}
use Rattle.std.proofs.lemmas.Bool.{lt-ltb, eqb-true, eqb-false}
use Rattle.stage_graph.specs.Layouts.{Layout, IsPlan, stages, workers, stage_at, cut_at, cut_before, capacity_at, is_last}
use Rattle.stage_graph.specs.Floors.{State, queue_at, worker_slot_at, is_at, feed_cause, take_cause, give_cause, back_cause, leave_cause, halt_cause, is_allowed, standing}
use Rattle.stage_graph.specs.After.{with_steps, slot_mark, last_cut, Parts, items_at, FloorAfter}
use Rattle.stage_graph.specs.declared.event.Event.{Event}
use Rattle.stage_graph.specs.declared.event.Event.TheVariants.{Feed, Take, Give, Back, Leave, Halt}
use Rattle.stage_graph.specs.declared.event.Cause.{Cause}
use Rattle.stage_graph.specs.declared.event.Cause.TheVariants.{NotHeld}
use Rattle.stage_graph.proofs.Histories.{and_left, and_right, and_both, standing-snoc, legal-snoc}
use Rattle.stage_graph.proofs.Sizes.{IsSized-standing}
use Rattle.stage_graph.proofs.Lists.{length-maps, map-tails, by_place-set, first-maps}

pub cut_before-next : (p : Layout) (k : ℕ) → cut_before p (k + 1) ≡ cut_at p k
cut_before-next p k =
    let e : k + 1 - 1 ≡ k = omega arith in
    let z : nat_eq (k + 1) 0 ≡ false = rw add-one (eqb-suc-zero k) in
    rw (z, e) refl

pub next_in : (p : Layout) (w : ℕ) → IsPlan p → w < workers p → is_last p (stage_at p w) ≡ false → stage_at p w + 1 < stages p
next_in p w plan known more = let k = plan.posted w known in omega (arith, k, eqb-false (stage_at p w + 1) (stages p) more)

pub back_allowed : (p : Layout) (n : ℕ) (h : List Event) (w m : ℕ) → w < workers p → back_cause (standing p n h) w m ≡ None → is_allowed p (standing p n h) (Back w m) ≡ true
back_allowed p n h w m known none = and_both _ _ (lt-ltb w (workers p) known) (ap is_none none)

pub leave_allowed : (p : Layout) (n : ℕ) (h : List Event) (w : ℕ) → w < workers p → leave_cause p (standing p n h) w ≡ None → is_allowed p (standing p n h) (Leave w) ≡ true
leave_allowed p n h w known none = and_both _ _ (lt-ltb w (workers p) known) (ap is_none none)

-- a give that no cause refuses is of the held number, with the stage's steps done
pub give_known : (p : Layout) (s : State) (w number steps : ℕ) → give_cause p s w number steps ≡ None → (is_at (worker_slot_at s w) number ≡ true) × (steps ≡ cut_at p (stage_at p w))
give_known p s w number steps none =
    let b = is_at (worker_slot_at s w) number in
    let d = nat_eq steps (cut_at p (stage_at p w)) in
    let both : (b && d) ≡ true = of_cond (b && d) _ none in
    (and_left b d both, eqb-true steps (cut_at p (stage_at p w)) (and_right b d both))
  where
    of_cond : (b : Bool) (o : Option Cause) → cond b o (Some NotHeld) ≡ None → b ≡ true
    of_cond true o t = refl
    of_cond false o t = absurd (cc)

pub give_allowed : (p : Layout) (n : ℕ) (h : List Event) (w number steps : ℕ) → w < workers p → give_cause p (standing p n h) w number steps ≡ None → is_allowed p (standing p n h) (Give w number) ≡ true
give_allowed p n h w number steps known none =
    let none' : give_cause p (standing p n h) w number (cut_at p (stage_at p w)) ≡ None = subst (λ c. give_cause p (standing p n h) w number c ≡ None) (give_known p (standing p n h) w number steps none).1 none in
    and_both _ _ (lt-ltb w (workers p) known) (ap is_none none')

module _ {X : Type 0} (mark : X → ℕ × ℕ) (p : Layout) (n : ℕ) (h : List Event) where
  -- a number is put after the queue of a stage, as an item is
  joined_after : (f : Parts X) (s : State) (k : ℕ) (x : X) (v : List X × ℕ) (number : ℕ)
      → k < length f.queues → k < length s.queues → v ≡ get_or f.queues k ([], 0) → mark x ≡ (number, cut_before p k)
      → ((j : ℕ) → j < stages p → map mark (items_at f j) ≡ map (with_steps (cut_before p j)) (queue_at s j)) → k < stages p
      → (j : ℕ) → j < stages p → map mark (get_or (set f.queues k (v.0 ++ x ∷ [], v.1)) j ([], 0)).0 ≡ map (with_steps (cut_before p j)) (get_or (set s.queues k (queue_at s k ++ number ∷ [])) j [])
  joined_after f s k x v number in-f in-s at is all in-p =
      by_place-set (λ j a b. map mark a.0 ≡ map (with_steps (cut_before p j)) b) f.queues s.queues ([], 0) [] (stages p) k (v.0 ++ x ∷ [], v.1) (queue_at s k ++ number ∷ [])
      in-f in-s
      (map-append mark v.0 (x ∷ []) ∙ (rw at (rw (all k in-p, is) (sym (map-append (with_steps (cut_before p k)) (queue_at s k) (number ∷ []))))))
      all

  capacities_stay : (f : Parts X) (k : ℕ) (xs : List X) (v : List X × ℕ)
      → k < length f.queues → v ≡ get_or f.queues k ([], 0)
      → ((j : ℕ) → j < stages p → (get_or f.queues j ([], 0)).1 ≡ capacity_at p j) → k < stages p
      → (j : ℕ) → j < stages p → (get_or (set f.queues k (xs, v.1)) j ([], 0)).1 ≡ capacity_at p j
  capacities_stay f k xs v in-f at all in-p =
      by_place-set (λ j a b. a.1 ≡ capacity_at p j) f.queues f.queues ([], 0) ([], 0) (stages p) k (xs, v.1) v in-f in-f (ap (λ w. w.1) at ∙ all k in-p) all

  pub feed_allowed : (f : Parts X) (x : X) (rest : List X) → f.backlog ≡ x ∷ rest → feed_cause p (standing p n h) ≡ None → FloorAfter mark p n h f
      → is_allowed p (standing p n h) (Feed (mark x).0) ≡ true
  feed_allowed f x rest at none stands =
      and_both _ _ (ap is_none none) (first-maps mark 0 x rest (standing p n h).backlog (rw at at stands.backlog_is))

  pub feed_stands : (f : Parts X) (x : X) (rest : List X) (v : List X × ℕ) → f.backlog ≡ x ∷ rest → v ≡ get_or f.queues 0 ([], 0) → feed_cause p (standing p n h) ≡ None → FloorAfter mark p n h f
      → FloorAfter mark p n (h ++ Feed (mark x).0 ∷ []) (record f { backlog = rest; queues = set f.queues 0 (v.0 ++ x ∷ [], v.1) })
  feed_stands f x rest v at is none stands =
      let s = standing p n h in
      let e = standing-snoc p n h (Feed (mark x).0) in
      let sized = IsSized-standing p n h in
      let tops : map mark (x ∷ rest) ≡ map (with_steps 0) s.backlog = rw at at stands.backlog_is in
      let marked : mark x ≡ ((mark x).0, 0) = marked_first x rest s.backlog tops in
      let some : 0 < stages p = stands.plan.some in
      record {
        plan = stands.plan;
        legal = legal-snoc p n h (Feed (mark x).0) stands.legal (feed_allowed f x rest at none stands);
        backlog_is = rw e (map-tails mark (with_steps 0) x rest s.backlog tops);
        stages_are = simp length-set stands.stages_are;
        queues_are = rw e (joined_after f s 0 x v (mark x).0 (omega (arith, stands.stages_are)) (omega (arith, sized.queues)) is marked stands.queues_are some);
        capacities_are = capacities_stay f 0 (v.0 ++ x ∷ []) v (omega (arith, stands.stages_are)) is stands.capacities_are some;
        worker_slots_are = rw e stands.worker_slots_are;
        slots_are = rw e stands.slots_are;
        count_is = stands.count_is;
        returned_are = rw e stands.returned_are;
        worker_slots_count = stands.worker_slots_count;
        left_count = stands.left_count;
        stopped_is = rw e stands.stopped_is;
        left_are = rw e stands.left_are;
      }
    where
      marked_first : (x : X) (xs : List X) (ys : List ℕ) → map mark (x ∷ xs) ≡ map (with_steps 0) ys → mark x ≡ ((mark x).0, 0)
      marked_first x xs [] t = absurd (cc)
      marked_first x xs (y ∷ ys) t = let e : mark x ≡ (y, 0) = cc in rw e refl

  pub take_allowed : (f : Parts X) (w : ℕ) (x : X) (v : List X × ℕ) → w < workers p → v ≡ get_or f.queues (stage_at p w) ([], 0) → v.0 ≡ x ∷ drop 1 v.0 → take_cause p (standing p n h) w ≡ None → FloorAfter mark p n h f
      → is_allowed p (standing p n h) (Take w (mark x).0) ≡ true
  take_allowed f w x v known is at none stands =
      let k = stage_at p w in
      let tops : map mark (x ∷ drop 1 v.0) ≡ map (with_steps (cut_before p k)) (queue_at (standing p n h) k) = ap (map mark) (sym at) ∙ (ap (λ u. map mark u.0) is ∙ stands.queues_are k (stands.plan.posted w known)) in
      and_both _ _ (lt-ltb w (workers p) known) (and_both _ _ (ap is_none none) (first-maps mark (cut_before p k) x (drop 1 v.0) (queue_at (standing p n h) k) tops))

  pub take_steps : (f : Parts X) (w : ℕ) (x : X) (v : List X × ℕ) → w < workers p → v ≡ get_or f.queues (stage_at p w) ([], 0) → v.0 ≡ x ∷ drop 1 v.0 → FloorAfter mark p n h f
      → (mark x).1 ≡ cut_before p (stage_at p w)
  take_steps f w x v known is at stands =
      let k = stage_at p w in
      let tops : map mark (x ∷ drop 1 v.0) ≡ map (with_steps (cut_before p k)) (queue_at (standing p n h) k) = ap (map mark) (sym at) ∙ (ap (λ u. map mark u.0) is ∙ stands.queues_are k (stands.plan.posted w known)) in
      steps_first (cut_before p k) x (drop 1 v.0) (queue_at (standing p n h) k) tops
    where
      steps_first : (c : ℕ) (x : X) (xs : List X) (ys : List ℕ) → map mark (x ∷ xs) ≡ map (with_steps c) ys → (mark x).1 ≡ c
      steps_first c x xs [] t = absurd (cc)
      steps_first c x xs (y ∷ ys) t = let e : mark x ≡ (y, c) = cc in rw e refl

  pub take_stands : (f : Parts X) (w : ℕ) (x : X) (v : List X × ℕ) → w < workers p → v ≡ get_or f.queues (stage_at p w) ([], 0) → v.0 ≡ x ∷ drop 1 v.0 → take_cause p (standing p n h) w ≡ None → FloorAfter mark p n h f
      → FloorAfter mark p n (h ++ Take w (mark x).0 ∷ []) (record f { queues = set f.queues (stage_at p w) (drop 1 v.0, v.1); worker_slots = set f.worker_slots w (Some (mark x).0) })
  take_stands f w x v known is at none stands =
      let s = standing p n h in
      let k = stage_at p w in
      let e = standing-snoc p n h (Take w (mark x).0) in
      let sized = IsSized-standing p n h in
      let in-p : k < stages p = stands.plan.posted w known in
      let tops : map mark (x ∷ drop 1 v.0) ≡ map (with_steps (cut_before p k)) (queue_at s k) = ap (map mark) (sym at) ∙ (ap (λ u. map mark u.0) is ∙ stands.queues_are k in-p) in
      record {
        plan = stands.plan;
        legal = legal-snoc p n h (Take w (mark x).0) stands.legal (take_allowed f w x v known is at none stands);
        backlog_is = rw e stands.backlog_is;
        stages_are = simp length-set stands.stages_are;
        queues_are = rw e (by_place-set (λ j a b. map mark a.0 ≡ map (with_steps (cut_before p j)) b) f.queues s.queues ([], 0) [] (stages p) k (drop 1 v.0, v.1) (drop 1 (queue_at s k))
            (omega (arith, stands.stages_are)) (omega (arith, sized.queues)) (map-tails mark (with_steps (cut_before p k)) x (drop 1 v.0) (queue_at s k) tops) stands.queues_are);
        capacities_are = capacities_stay f k (drop 1 v.0) v (omega (arith, stands.stages_are)) is stands.capacities_are in-p;
        worker_slots_are = rw (e, stands.worker_slots_are) refl;
        slots_are = rw e stands.slots_are;
        count_is = stands.count_is;
        returned_are = rw e stands.returned_are;
        worker_slots_count = simp length-set stands.worker_slots_count;
        left_count = stands.left_count;
        stopped_is = rw e stands.stopped_is;
        left_are = rw e stands.left_are;
      }

  pub give_next_stands : (f : Parts X) (w : ℕ) (x : X) (v : List X × ℕ) → w < workers p → is_last p (stage_at p w) ≡ false → v ≡ get_or f.queues (stage_at p w + 1) ([], 0) → give_cause p (standing p n h) w (mark x).0 (mark x).1 ≡ None → FloorAfter mark p n h f
      → FloorAfter mark p n (h ++ Give w (mark x).0 ∷ []) (record f { queues = set f.queues (stage_at p w + 1) (v.0 ++ x ∷ [], v.1); worker_slots = set f.worker_slots w None })
  give_next_stands f w x v known more is none stands =
      let s = standing p n h in
      let k = stage_at p w in
      let ev = Give w (mark x).0 in
      let next : State = record s { worker_slots = set s.worker_slots w None; queues = set s.queues (k + 1) (queue_at s (k + 1) ++ (mark x).0 ∷ []) } in
      let e : standing p n (h ++ ev ∷ []) ≡ next = standing-snoc p n h ev ∙ rw more refl in
      let sized = IsSized-standing p n h in
      let in-p : k < stages p = stands.plan.posted w known in
      let in-p' : k + 1 < stages p = omega (arith, in-p, eqb-false (k + 1) (stages p) more) in
      let cut : (mark x).1 ≡ cut_before p (k + 1) = (give_known p s w (mark x).0 (mark x).1 none).1 ∙ sym (cut_before-next p k) in
      let steps : mark x ≡ ((mark x).0, cut_before p (k + 1)) = ap (λ c. ((mark x).0, c)) cut in
      record {
        plan = stands.plan;
        legal = legal-snoc p n h ev stands.legal (give_allowed p n h w (mark x).0 (mark x).1 known none);
        backlog_is = rw e stands.backlog_is;
        stages_are = simp length-set stands.stages_are;
        queues_are = rw e (joined_after f s (k + 1) x v (mark x).0 (omega (arith, stands.stages_are)) (omega (arith, sized.queues)) is steps stands.queues_are in-p');
        capacities_are = capacities_stay f (k + 1) (v.0 ++ x ∷ []) v (omega (arith, stands.stages_are)) is stands.capacities_are in-p';
        worker_slots_are = rw (e, stands.worker_slots_are) refl;
        slots_are = rw e stands.slots_are;
        count_is = stands.count_is;
        returned_are = rw e stands.returned_are;
        worker_slots_count = simp length-set stands.worker_slots_count;
        left_count = stands.left_count;
        stopped_is = rw e stands.stopped_is;
        left_are = rw e stands.left_are;
      }

  pub give_last_stands : (f : Parts X) (w : ℕ) (x : X) → w < workers p → is_last p (stage_at p w) ≡ true → (mark x).0 < n → give_cause p (standing p n h) w (mark x).0 (mark x).1 ≡ None → FloorAfter mark p n h f
      → FloorAfter mark p n (h ++ Give w (mark x).0 ∷ []) (record f { slots = set f.slots (mark x).0 (Some x); worker_slots = set f.worker_slots w None })
  give_last_stands f w x known last inside none stands =
      let s = standing p n h in
      let k = stage_at p w in
      let ev = Give w (mark x).0 in
      let next : State = record s { worker_slots = set s.worker_slots w None; done = set s.done (mark x).0 true } in
      let e : standing p n (h ++ ev ∷ []) ≡ next = standing-snoc p n h ev ∙ rw last refl in
      let sized = IsSized-standing p n h in
      let at-end : k ≡ stages p - 1 = omega (arith, eqb-true (k + 1) (stages p) last) in
      let cut : (mark x).1 ≡ last_cut p = (give_known p s w (mark x).0 (mark x).1 none).1 ∙ ap (cut_at p) at-end in
      let steps : mark x ≡ ((mark x).0, last_cut p) = ap (λ c. ((mark x).0, c)) cut in
      record {
        plan = stands.plan;
        legal = legal-snoc p n h ev stands.legal (give_allowed p n h w (mark x).0 (mark x).1 known none);
        backlog_is = rw e stands.backlog_is;
        stages_are = stands.stages_are;
        queues_are = rw e stands.queues_are;
        capacities_are = stands.capacities_are;
        worker_slots_are = rw (e, stands.worker_slots_are) refl;
        slots_are = rw e (by_place-set (λ j a b. option_map mark a ≡ slot_mark (last_cut p) b j) f.slots s.done None false n (mark x).0 (Some x) true
            (omega (arith, stands.count_is)) (omega (arith, sized.done)) (ap Some steps) stands.slots_are);
        count_is = simp length-set stands.count_is;
        returned_are = rw e stands.returned_are;
        worker_slots_count = simp length-set stands.worker_slots_count;
        left_count = stands.left_count;
        stopped_is = rw e stands.stopped_is;
        left_are = rw e stands.left_are;
      }

  pub back_stands : (f : Parts X) (w : ℕ) (x : X) → w < workers p → back_cause (standing p n h) w (mark x).0 ≡ None → FloorAfter mark p n h f
      → FloorAfter mark p n (h ++ Back w (mark x).0 ∷ []) (record f { worker_slots = set f.worker_slots w None; returned = f.returned ++ x ∷ []; stopped = true })
  back_stands f w x known none stands =
      let ev = Back w (mark x).0 in
      let e = standing-snoc p n h ev in
      record {
        plan = stands.plan;
        legal = legal-snoc p n h ev stands.legal (and_both _ _ (lt-ltb w (workers p) known) (ap is_none none));
        backlog_is = rw e stands.backlog_is;
        stages_are = stands.stages_are;
        queues_are = rw e stands.queues_are;
        capacities_are = stands.capacities_are;
        worker_slots_are = rw (e, stands.worker_slots_are) refl;
        slots_are = rw e stands.slots_are;
        count_is = stands.count_is;
        returned_are = rw e (map-append (λ y. (mark y).0) f.returned (x ∷ []) ∙ ap (λ r. r ++ (mark x).0 ∷ []) stands.returned_are);
        worker_slots_count = simp length-set stands.worker_slots_count;
        left_count = stands.left_count;
        stopped_is = rw e refl;
        left_are = rw e stands.left_are;
      }

  pub leave_stands : (f : Parts X) (w : ℕ) → w < workers p → leave_cause p (standing p n h) w ≡ None → FloorAfter mark p n h f
      → FloorAfter mark p n (h ++ Leave w ∷ []) (record f { left = set f.left w true })
  leave_stands f w known none stands =
      let e = standing-snoc p n h (Leave w) in
      record {
        plan = stands.plan;
        legal = legal-snoc p n h (Leave w) stands.legal (and_both _ _ (lt-ltb w (workers p) known) (ap is_none none));
        backlog_is = rw e stands.backlog_is;
        stages_are = stands.stages_are;
        queues_are = rw e stands.queues_are;
        capacities_are = stands.capacities_are;
        worker_slots_are = rw e stands.worker_slots_are;
        slots_are = rw e stands.slots_are;
        count_is = stands.count_is;
        returned_are = rw e stands.returned_are;
        worker_slots_count = stands.worker_slots_count;
        left_count = simp length-set stands.left_count;
        stopped_is = rw e stands.stopped_is;
        left_are = rw (e, stands.left_are) refl;
      }

  pub halt_stands : (f : Parts X) → halt_cause (standing p n h) ≡ None → FloorAfter mark p n h f → FloorAfter mark p n (h ++ Halt ∷ []) (record f { stopped = true })
  halt_stands f none stands =
      let e = standing-snoc p n h Halt in
      record {
        plan = stands.plan;
        legal = legal-snoc p n h Halt stands.legal (ap is_none none);
        backlog_is = rw e stands.backlog_is;
        stages_are = stands.stages_are;
        queues_are = rw e stands.queues_are;
        capacities_are = stands.capacities_are;
        worker_slots_are = rw e stands.worker_slots_are;
        slots_are = rw e stands.slots_are;
        count_is = stands.count_is;
        returned_are = rw e stands.returned_are;
        worker_slots_count = stands.worker_slots_count;
        left_count = stands.left_count;
        stopped_is = rw e refl;
        left_are = rw e stands.left_are;
      }

  -- the queue that code has at hand, of a stage that isn't full
  pub queue_not_full : (f : Parts X) (k : ℕ) (v : List X × ℕ) → k < stages p → v ≡ get_or f.queues k v → nat_le (capacity_at p k) (length (queue_at (standing p n h) k)) ≡ false → FloorAfter mark p n h f
      → (v ≡ get_or f.queues k ([], 0)) × (nat_le v.1 (length v.0) ≡ false)
  queue_not_full f k v in-p at not_full stands =
      let is : v ≡ get_or f.queues k ([], 0) = get_or_read f.queues k v (omega (arith, stands.stages_are)) at ([], 0) in
      let a : v.1 ≡ capacity_at p k = ap (λ u. u.1) is ∙ stands.capacities_are k in-p in
      let b : length v.0 ≡ length (queue_at (standing p n h) k) = ap (λ u. length u.0) is ∙ length-maps mark (with_steps (cut_before p k)) (items_at f k) (queue_at (standing p n h) k) (stands.queues_are k in-p) in
      (is, rw (a, b) not_full)

  -- a slot whose number is not done is empty
  pub empty_slot : (f : Parts X) (m : ℕ) → m < n → get_or (standing p n h).done m false ≡ false → FloorAfter mark p n h f → (m < length f.slots) × (get_or f.slots m None ≡ None)
  empty_slot f m below free stands =
      (omega (arith, stands.count_is), unmapped (get_or f.slots m None) (stands.slots_are m below ∙ ap (λ b. slot_mark (last_cut p) b m) free))
    where
      unmapped : (o : Option X) → option_map mark o ≡ None → o ≡ None
      unmapped None e = refl
      unmapped (Some x) e = absurd (cc)
