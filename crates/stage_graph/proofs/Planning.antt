-- A plan's lists.
use Rattle.std.proofs.Common.{◌≡◌, ℕ, zero, suc, ◌+◌, ◌-◌, ◌<◌, ◌≤◌, Bool, true, false, cond, ◌&&◌, List, [], ◌∷◌, ◌++◌, length, get_or, take, replicate, nat_lt, nat_le, nat_eq, refl, sym, ap, ◌∙◌, subst, arith, Option, Some, None, length-append, append_assoc}
use Rattle.std.proofs.lemmas.Bool.{ltb-true, ltb-false, eqb-true}
use Rattle.std.proofs.lemmas.List.{append-nil, take_more, get_or-replicate, length-replicate, length-take-le, get_or_append_left, get_or-append-add}
use Rattle.stage_graph.specs.Layouts.{Layout, IsPlan, HasCapacity, cut_at, cut_before, posts_of, layout_of, is_rising, are_within}
use Rattle.stage_graph.specs.Floors.{is_nil}
use Rattle.stage_graph.specs.PlanFaults.{plan_fault}
use Rattle.stage_graph.specs.declared.plan.PlanFault.{PlanFault}
use Rattle.stage_graph.specs.declared.plan.PlanFault.TheVariants.{Empty, Order, Workers, Capacity}
use Rattle.stage_graph.proofs.Histories.{and_left, and_right}
use Rattle.stage_graph.proofs.Sound.{by_bool}
use Rattle.stage_graph.proofs.Moves.{cut_before-next}

posts_of-snoc : (k : ℕ) (xs : List ℕ) (w : ℕ) → posts_of k (xs ++ w ∷ []) ≡ posts_of k xs ++ replicate w (k + length xs)
posts_of-snoc k [] w = append-nil (replicate w k) ∙ ap (replicate w) (omega arith)
posts_of-snoc k (x ∷ xs) w =
    let e : suc k + length xs ≡ k + suc (length xs) = omega arith in
    ap (λ s. replicate x k ++ s) (posts_of-snoc (suc k) xs w ∙ ap (λ j. posts_of (suc k) xs ++ replicate w j) e) ∙ sym (append_assoc (replicate x k) (posts_of (suc k) xs) (replicate w (k + suc (length xs))))

pub posts_more : (ws : List ℕ) (k : ℕ) → k < length ws → posts_of 0 (take (k + 1) ws) ≡ posts_of 0 (take k ws) ++ replicate (get_or ws k 0) k
posts_more ws k h =
    ap (posts_of 0) (take_more ws k 0 h) ∙ (posts_of-snoc 0 (take k ws) (get_or ws k 0)
    ∙ ap (λ j. posts_of 0 (take k ws) ++ replicate (get_or ws k 0) j) (let e : length (take k ws) ≡ k = length-take-le k ws (omega arith) in omega arith))

-- a worker's stage is one of those that have workers
slot_within : (a : ℕ) (ws : List ℕ) (w : ℕ) → w < length (posts_of a ws) → (a ≤ get_or (posts_of a ws) w 0) × (get_or (posts_of a ws) w 0 < a + length ws)
slot_within a [] w h = absurd (omega arith)
slot_within a (x ∷ xs) w h =
    by_bool (λ b. (a ≤ get_or (replicate x a ++ posts_of (suc a) xs) w 0) × (get_or (replicate x a ++ posts_of (suc a) xs) w 0 < a + suc (length xs))) (nat_lt w x)
    (λ t. let i : w < length (replicate x a) = omega (arith, ltb-true w x t, length-replicate x a) in
    let e : get_or (replicate x a ++ posts_of (suc a) xs) w 0 ≡ a = get_or_append_left (replicate x a) (posts_of (suc a) xs) 0 w i ∙ get_or-replicate x w a 0 (ltb-true w x t) in
    (omega arith, omega arith))
    (λ f. let j = w - x in
    let at : length (replicate x a) + j ≡ w = omega (arith, ltb-false w x f, length-replicate x a) in
    let in-rest : j < length (posts_of (suc a) xs) = omega (arith, at, length-append (replicate x a) (posts_of (suc a) xs), h) in
    let e : get_or (replicate x a ++ posts_of (suc a) xs) w 0 ≡ get_or (posts_of (suc a) xs) j 0 =
    ap (λ i. get_or (replicate x a ++ posts_of (suc a) xs) i 0) (sym at) ∙ get_or-append-add (replicate x a) (posts_of (suc a) xs) j 0 in
    let t = slot_within (suc a) xs j in-rest in
    (omega (arith, e, t.0), omega (arith, e, t.1)))

-- each stage with workers has one
slot_found : (a : ℕ) (ws : List ℕ) (j : ℕ) → are_within 16 ws ≡ true → j < length ws → (w : ℕ) × (w < length (posts_of a ws)) × (get_or (posts_of a ws) w 0 ≡ a + j)
slot_found a [] j all h = absurd (omega arith)
slot_found a (x ∷ xs) zero all h =
    let some : 0 < x = ltb-true 0 x (and_left (nat_lt 0 x) (nat_le x 16) (and_left (nat_lt 0 x && nat_le x 16) (are_within 16 xs) all)) in
    let i : 0 < length (replicate x a) = omega (arith, length-replicate x a) in
    (0, omega (arith, i, length-append (replicate x a) (posts_of (suc a) xs)), get_or_append_left (replicate x a) (posts_of (suc a) xs) 0 0 i ∙ (get_or-replicate x 0 a 0 some ∙ omega arith))
slot_found a (x ∷ xs) (suc j) all h =
    let t = slot_found (suc a) xs j (and_right (nat_lt 0 x && nat_le x 16) (are_within 16 xs) all) (omega arith) in
    let len = length-replicate x a in (
      length (replicate x a) + t.0,
      omega (arith, t.1, length-append (replicate x a) (posts_of (suc a) xs)),
      get_or-append-add (replicate x a) (posts_of (suc a) xs) t.0 0 ∙ (t.2 ∙ omega arith),
    )

rises : (a : ℕ) (cs : List ℕ) (k : ℕ) → is_rising a cs ≡ true → k + 1 < length cs → get_or cs k 0 < get_or cs (k + 1) 0
rises a [] k r h = absurd (omega arith)
rises a (c ∷ []) k r h = absurd (omega arith)
rises a (c ∷ d ∷ cs) zero r h = ltb-true c d (and_left (nat_lt c d) (is_rising d cs) (and_right (nat_lt a c) (is_rising c (d ∷ cs)) r))
rises a (c ∷ d ∷ cs) (suc k) r h =
    let t = rises c (d ∷ cs) k (and_right (nat_lt a c) (is_rising c (d ∷ cs)) r) (omega arith) in
    let e : suc k + 1 ≡ suc (k + 1) = omega arith in
    rw e t

rises_to : (cs : List ℕ) (k m : ℕ) → is_rising 0 cs ≡ true → k + m < length cs → get_or cs k 0 ≤ get_or cs (k + m) 0
rises_to cs k zero r h = let e : k + 0 ≡ k = omega arith in rw e (omega arith)
rises_to cs k (suc m) r h =
    let t = rises_to cs k m r (omega arith) in
    let u = rises 0 cs (k + m) r (omega arith) in
    let e : k + suc m ≡ k + m + 1 = omega arith in
    rw e (omega arith)

first_rises : (cs : List ℕ) → is_rising 0 cs ≡ true → 0 < length cs → 0 < get_or cs 0 0
first_rises [] r h = absurd (omega arith)
first_rises (c ∷ cs) r h = ltb-true 0 c (and_left (nat_lt 0 c) (is_rising c cs) r)

cond_only : (b : Bool) (o : Option PlanFault) (e : PlanFault) → cond b o (Some e) ≡ None → (b ≡ true) × (o ≡ None)
cond_only true o e h = (refl, h)
cond_only false o e h = absurd (cc)

cond_not : (b : Bool) (o : Option PlanFault) (e : PlanFault) → cond b (Some e) o ≡ None → (b ≡ false) × (o ≡ None)
cond_not true o e h = absurd (cc)
cond_not false o e h = (refl, h)

-- lists without a fault are a plan
pub plan_from : (cuts worker_counts capacities : List ℕ) → plan_fault cuts worker_counts capacities ≡ None → IsPlan (layout_of cuts worker_counts capacities)
plan_from cuts worker_counts capacities h =
    let a = cond_not _ _ _ h in
    let b = cond_only _ _ _ a.1 in
    let c = cond_only _ _ _ b.1 in
    let d = cond_only _ _ _ c.1 in
    let worker_count : length worker_counts ≡ length cuts = eqb-true (length worker_counts) (length cuts) (and_left _ _ c.0) in
    let p = layout_of cuts worker_counts capacities in
    record {
      some = not_nil cuts a.0;
      capacities = eqb-true (length capacities) (length cuts) (and_left _ _ d.0);
      posted = λ w i. let t = slot_within 0 worker_counts w i in omega (arith, t.1, worker_count);
      manned = λ k i. let t = slot_found 0 worker_counts k (and_right _ _ c.0) (omega (arith, worker_count)) in (t.0, t.1, t.2 ∙ omega arith);
      bounded = λ k i. let e : k + (length cuts - 1 - k) ≡ length cuts - 1 = omega arith in let u = rises_to cuts k (length cuts - 1 - k) b.0 (omega arith) in rw e at u;
      rising = λ k i. rising_at p b.0 (not_nil cuts a.0) k i;
    }
  where
    not_nil : (cs : List ℕ) → is_nil cs ≡ false → 0 < length cs
    not_nil [] e = absurd (cc)
    not_nil (x ∷ xs) e = omega arith

    rising_at : (p : Layout) → is_rising 0 p.cuts ≡ true → 0 < length p.cuts → (k : ℕ) → k < length p.cuts → cut_before p k < cut_at p k
    rising_at p r some zero i = first_rises p.cuts r some
    rising_at p r some (suc k) i =
        let e : suc k ≡ k + 1 = omega arith in
        let P : ℕ → Type 0 = λ j. cut_before p j < cut_at p j in
        subst P (sym e) (rw (cut_before-next p k) (rises 0 p.cuts k r (omega arith)))

-- and each of its queues has capacity
pub capacity_from : (cuts worker_counts capacities : List ℕ) → plan_fault cuts worker_counts capacities ≡ None → HasCapacity (layout_of cuts worker_counts capacities)
capacity_from cuts worker_counts capacities h =
    let a = cond_not (is_nil cuts) _ Empty h in
    let b = cond_only (is_rising 0 cuts) _ Order a.1 in
    let c = cond_only (nat_eq (length worker_counts) (length cuts) && are_within 16 worker_counts) _ Workers b.1 in
    let d = cond_only (nat_eq (length capacities) (length cuts) && are_within 4096 capacities) None Capacity c.1 in
    let long : length capacities ≡ length cuts = eqb-true (length capacities) (length cuts) (and_left (nat_eq (length capacities) (length cuts)) (are_within 4096 capacities) d.0) in
    let within = and_right (nat_eq (length capacities) (length cuts)) (are_within 4096 capacities) d.0 in
    λ k i. above_none capacities k within (omega (arith, long, i))
  where
    above_none : (xs : List ℕ) (k : ℕ) → are_within 4096 xs ≡ true → k < length xs → 0 < get_or xs k 0
    above_none [] k h i = absurd (omega arith)
    above_none (x ∷ xs) zero h i = ltb-true 0 x (and_left (nat_lt 0 x) (nat_le x 4096) (and_left (nat_lt 0 x && nat_le x 4096) (are_within 4096 xs) h))
    above_none (x ∷ xs) (suc k) h i = above_none xs k (and_right (nat_lt 0 x && nat_le x 4096) (are_within 4096 xs) h) (omega arith)
