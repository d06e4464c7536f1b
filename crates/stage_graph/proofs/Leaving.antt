-- A floor that all workers have left and that isn't stopped has every number done.
use Rattle.std.proofs.Common.{◌≡◌, ℕ, zero, suc, ◌+◌, ◌-◌, ◌<◌, ◌≤◌, Bool, true, false, cond, ◌&&◌, ◌||◌, List, [], ◌∷◌, length, get_or, set, take, refl, sym, ap, ◌∙◌, subst, arith, Option, Some, None, nat_lt, nat_le, replicate, zero-add, inl, inr, add-one}
use Rattle.std.specs.List.{sum_by, list_all}
use Rattle.std.specs.Option.{is_none}
use Rattle.std.proofs.lemmas.Bool.{ltb-true, ltb-false, lt-ltb, leb-true, leb-false}
use Rattle.std.proofs.lemmas.Bool.Decides.{eqb_tells}
use Rattle.std.proofs.lemmas.List.{get_or-set_same, get_or-set_other, get_or-replicate}
use Rattle.stage_graph.specs.Layouts.{Layout, IsPlan, stages, workers, stage_at, cut_at, is_last}
use Rattle.stage_graph.specs.Floors.{State, queue_at, worker_slot_at, has_left, is_nil, idle_before, is_drained, opening, is_allowed, after, after_all, is_legal, standing, is_legal_from_opening, all_true, all_left, all_done}
use Rattle.stage_graph.specs.Counts.{one_at}
use Rattle.stage_graph.proofs.Weights.{sum_from, of_worker_slot, of_slot, of_flag, total, of_number}
use Rattle.stage_graph.specs.declared.event.Event.{Event}
use Rattle.stage_graph.specs.declared.event.Event.TheVariants.{Feed, Take, Give, Back, Leave, Halt}
use Rattle.stage_graph.proofs.Histories.{and_left, and_right, and_both}
use Rattle.stage_graph.proofs.Causes.{none_is, at_is, may_feed, may_take, may_leave}
use Rattle.stage_graph.proofs.Moves.{give_known}
use Rattle.stage_graph.proofs.Sound.{IsPlaced, IsPlaced-after, IsPlaced-opening, IsPlaced-standing, by_bool}
use Rattle.std.proofs.lemmas.List.Sums.{sum_by-cons}

-- no number in the backlog, in a queue up to stage k, or in a slot of a stage before k
record IsDrained (p : Layout) (s : State) (k : ℕ) : Type 0 where
  backlog : s.backlog ≡ []
  queues : (j : ℕ) → j ≤ k → queue_at s j ≡ []
  worker_slots : (v : ℕ) → v < workers p → stage_at p v < k → worker_slot_at s v ≡ None

record IsSettled (p : Layout) (s : State) : Type 0 where
  idle : (w : ℕ) → w < workers p → has_left s w ≡ true → worker_slot_at s w ≡ None
  kept : s.stopped ≡ false → s.returned ≡ []
  drained : s.stopped ≡ false → (w : ℕ) → w < workers p → has_left s w ≡ true → IsDrained p s (stage_at p w)

nil_is : {A : Type 0} (xs : List A) → is_nil xs ≡ true → xs ≡ []
nil_is [] h = refl
nil_is (x ∷ xs) h = absurd (cc)

nil_not : {A : Type 0} (xs : List A) → xs ≡ [] → is_nil xs ≡ false → ⊥
nil_not xs e h = let t : is_nil xs ≡ true = rw e refl in cc

queues_nil : (qs : List (List ℕ)) (k j : ℕ) → list_all is_nil (take (k + 1) qs) ≡ true → j ≤ k → get_or qs j [] ≡ []
queues_nil [] k j h l = refl
queues_nil (q ∷ qs) k zero h l = nil_is q (and_left _ _ (of_take q qs k h))
  where
    of_take : (q : List ℕ) (qs : List (List ℕ)) (k : ℕ) → list_all is_nil (take (k + 1) (q ∷ qs)) ≡ true → (is_nil q && list_all is_nil (take k qs)) ≡ true
    of_take q qs k h = rw add-one at h
queues_nil (q ∷ qs) zero (suc j) h l = absurd (omega arith)
queues_nil (q ∷ qs) (suc k) (suc j) h l = queues_nil qs k j (of_rest q qs k h) (omega arith)
  where
    of_rest : (q : List ℕ) (qs : List (List ℕ)) (k : ℕ) → list_all is_nil (take (suc k + 1) (q ∷ qs)) ≡ true → list_all is_nil (take (k + 1) qs) ≡ true
    of_rest q qs k h =
        let t : (is_nil q && list_all is_nil (take (suc k) qs)) ≡ true = rw add-one at h in
        let u : list_all is_nil (take (suc k) qs) ≡ true = and_right (is_nil q) (list_all is_nil (take (suc k) qs)) t in
        let e : k + 1 ≡ suc k = omega arith in
        rw e u

worker_slots_idle : (k : ℕ) (ts : List ℕ) (hs : List (Option ℕ)) (v : ℕ) → idle_before k ts hs ≡ true → v < length ts → get_or ts v 0 < k → get_or hs v None ≡ None
worker_slots_idle k [] hs v h l b = absurd (omega arith)
worker_slots_idle k (t ∷ ts) [] v h l b = refl
worker_slots_idle k (t ∷ ts) (x ∷ hs) zero h l b = none_is x (second (nat_le k t) (is_none x) (and_left _ _ h) (λ e. omega (arith, leb-true k t e)))
  where
    second : (a c : Bool) → (a || c) ≡ true → (a ≡ true → ⊥) → c ≡ true
    second true c h n = absurd (n refl)
    second false c h n = h
worker_slots_idle k (t ∷ ts) (x ∷ hs) (suc v) h l b = worker_slots_idle k ts hs v (and_right _ _ h) (omega arith) b

IsDrained-from : (p : Layout) (s : State) (k : ℕ) → is_drained p s k ≡ true → IsDrained p s k
IsDrained-from p s k h =
    let a = is_nil s.backlog in
    let b = list_all is_nil (take (k + 1) s.queues) in
    let d = idle_before k p.posts s.worker_slots in
    let r : (b && d) ≡ true = and_right a (b && d) h in
    record {
      backlog = nil_is s.backlog (and_left a (b && d) h);
      queues = λ j l. queues_nil s.queues k j (and_left b d r) l;
      worker_slots = λ v l i. worker_slots_idle k p.posts s.worker_slots v (and_right b d r) l i;
    }

away_from : (w v : ℕ) (hs : List (Option ℕ)) → get_or hs v None ≡ None → w < length hs → get_or (set hs w None) v None ≡ None
away_from w v hs h i =
    elim (eqb_tells v w) [
      | inl at ↦ rw (at.1) (get_or-set_same hs w None None i)
      | inr away ↦ get_or-set_other hs w v None None (away.1) ∙ h
    ]

-- where a queue of a later stage changes, and a slot is emptied, what was drained stays so
drained_stays : (p : Layout) (s : State) (k j : ℕ) (q : List ℕ) → k < j → IsDrained p s k → (i : ℕ) → i ≤ k → get_or (set s.queues j q) i [] ≡ []
drained_stays p s k j q later d i l = get_or-set_other s.queues j i q [] (λ e. omega arith) ∙ d.queues i l

or_false : (a b : Bool) → (a || b) ≡ true → a ≡ false → b ≡ true
or_false true b h f = absurd (cc)
or_false false b h f = h

IsSettled-after : (p : Layout) (n : ℕ) (s : State) (e : Event) → IsPlan p → IsPlaced p n s → IsSettled p s → is_allowed p s e ≡ true → IsSettled p (after p s e)
IsSettled-after p n s (Feed x) plan placed settled ok =
    let may = may_feed p s (none_is _ (and_left _ _ ok)) in
    record {
      idle = settled.idle;
      kept = settled.kept;
      drained = λ runs w known left. absurd (nil_not s.backlog ((settled.drained runs w known left).backlog) may.some);
    }
IsSettled-after p n s (Take v x) plan placed settled ok =
    let rest = and_right (nat_lt v (workers p)) _ ok in
    let known-v = ltb-true v (workers p) (and_left _ _ ok) in
    let may = may_take p s v (none_is _ (and_left _ _ rest)) in
    record {
      idle = λ w known left. elim (eqb_tells w v) [
        | inl at ↦ absurd (let t : has_left s w ≡ false = rw (at.1) may.here in let u : true ≡ false = sym left ∙ t in cc)
        | inr away ↦ get_or-set_other s.worker_slots v w (Some x) None (away.1) ∙ settled.idle w known left
      ];
      kept = settled.kept;
      drained = λ runs w known left.
          let d = settled.drained runs w known left in
          let later : stage_at p w < stage_at p v = after_drained (stage_at p w) (stage_at p v) s d may.some in
          record {
            backlog = d.backlog;
            queues = drained_stays p s (stage_at p w) (stage_at p v) _ later d;
            worker_slots = λ u in-u early. get_or-set_other s.worker_slots v u (Some x) None (λ e. let f : stage_at p u ≡ stage_at p v = ap (stage_at p) e in omega arith) ∙ d.worker_slots u in-u early;
          };
    }
  where
    after_drained : (k j : ℕ) (s : State) → IsDrained p s k → is_nil (queue_at s j) ≡ false → k < j
    after_drained k j s d some = by_bool (λ b. k < j) (nat_le j k) (λ t. absurd (nil_not (queue_at s j) (d.queues j (leb-true j k t)) some)) (λ f. omega (arith, leb-false j k f))
IsSettled-after p n s (Give v x) plan placed settled ok =
    let none = none_is _ (and_right (nat_lt v (workers p)) _ ok) in
    let known-v = ltb-true v (workers p) (and_left _ _ ok) in
    let held : worker_slot_at s v ≡ Some x = at_is _ x ((give_known p s v x (cut_at p (stage_at p v)) none).0) in
    either_way (is_last p (stage_at p v)) _ _
    (record {
      idle = λ w known left. away_from v w s.worker_slots (settled.idle w known left) (omega (arith, placed.sized.worker_slots));
      kept = settled.kept;
      drained = λ runs w known left.
          let d = settled.drained runs w known left in
          record { backlog = d.backlog; queues = d.queues; worker_slots = λ u in-u early. away_from v u s.worker_slots (d.worker_slots u in-u early) (omega (arith, placed.sized.worker_slots)) };
    })
    (record {
      idle = λ w known left. away_from v w s.worker_slots (settled.idle w known left) (omega (arith, placed.sized.worker_slots));
      kept = settled.kept;
      drained = λ runs w known left.
          let d = settled.drained runs w known left in
          let later : stage_at p w < stage_at p v + 1 = after_worker_slot (stage_at p w) v x d known-v held in
          record {
            backlog = d.backlog;
            queues = drained_stays p s (stage_at p w) (stage_at p v + 1) _ later d;
            worker_slots = λ u in-u early. away_from v u s.worker_slots (d.worker_slots u in-u early) (omega (arith, placed.sized.worker_slots));
          };
    })
  where
    either_way : (b : Bool) (t u : State) → IsSettled p t → IsSettled p u → IsSettled p (cond b t u)
    either_way true t u h k = h
    either_way false t u h k = k

    after_worker_slot : (k v x : ℕ) → IsDrained p s k → v < workers p → worker_slot_at s v ≡ Some x → k < stage_at p v + 1
    after_worker_slot k v x d known held =
        by_bool (λ b. k < stage_at p v + 1) (nat_lt (stage_at p v) k) (λ t. absurd (let e : None ≡ Some x = sym (d.worker_slots v known (ltb-true (stage_at p v) k t)) ∙ held in cc)) (λ f. omega (arith, ltb-false (stage_at p v) k f))
IsSettled-after p n s (Back v x) plan placed settled ok =
    let known-v = ltb-true v (workers p) (and_left _ _ ok) in
    record {
      idle = λ w known left. away_from v w s.worker_slots (settled.idle w known left) (omega (arith, placed.sized.worker_slots));
      kept = λ runs. absurd (cc);
      drained = λ runs w known left. absurd (cc);
    }
IsSettled-after p n s (Leave v) plan placed settled ok =
    let may = may_leave p s v (none_is _ (and_right _ _ ok)) in
    record {
      idle = λ w known left. elim (eqb_tells w v) [
        | inl at ↦ rw (at.1) may.free
        | inr away ↦ settled.idle w known (sym (get_or-set_other s.left v w true false (away.1)) ∙ left)
      ];
      kept = settled.kept;
      drained = λ runs w known left. elim (eqb_tells w v) [
        | inl at ↦ let P : ℕ → Type 0 = λ u. IsDrained p (after p s (Leave v)) (stage_at p u) in subst P (sym at.1) (same (IsDrained-from p s (stage_at p v) (or_false _ _ may.drained runs)))
        | inr away ↦ same (settled.drained runs w known (sym (get_or-set_other s.left v w true false (away.1)) ∙ left))
      ];
    }
  where
    same : {k : ℕ} → IsDrained p s k → IsDrained p (after p s (Leave v)) k
    same d = record { backlog = d.backlog; queues = d.queues; worker_slots = d.worker_slots }
IsSettled-after p n s Halt plan placed settled ok =
    record { idle = settled.idle; kept = λ runs. absurd (cc); drained = λ runs w known left. absurd (cc) }

IsSettled-opening : (p : Layout) (n : ℕ) → IsSettled p (opening p n)
unfolding opening
IsSettled-opening p n = record {
  idle = λ w known left. absurd (none_there w known left);
  kept = λ _. refl;
  drained = λ _ w known left. absurd (none_there w known left);
}
  where
    none_there : (w : ℕ) → w < workers p → get_or (replicate (workers p) false) w false ≡ true → ⊥
    none_there w known left = let e : false ≡ true = sym (get_or-replicate (workers p) w false false known) ∙ left in cc

IsSettled-after_all : (p : Layout) (n : ℕ) (s : State) (h : List Event) → IsPlan p → IsPlaced p n s → IsSettled p s → is_legal p s h ≡ true → IsSettled p (after_all p s h)
unfolding after_all is_legal
IsSettled-after_all p n s [] plan placed settled legal = settled
IsSettled-after_all p n s (e ∷ h) plan placed settled legal =
    let ok = and_left (is_allowed p s e) (is_legal p (after p s e) h) legal in
    IsSettled-after_all p n (after p s e) h plan (IsPlaced-after p n s e plan placed ok) (IsSettled-after p n s e plan placed settled ok) (and_right (is_allowed p s e) (is_legal p (after p s e) h) legal)

IsSettled-standing : (p : Layout) (n : ℕ) (h : List Event) → IsPlan p → is_legal_from_opening p n h ≡ true → IsSettled p (standing p n h)
unfolding standing is_legal_from_opening
IsSettled-standing p n h plan legal = IsSettled-after_all p n (opening p n) h plan (IsPlaced-opening p n) (IsSettled-opening p n) legal

pub all_true-get : (bs : List Bool) (w : ℕ) → all_true bs ≡ true → w < length bs → get_or bs w false ≡ true
all_true-get [] w h i = absurd (omega arith)
all_true-get (b ∷ bs) zero h i = and_left b (all_true bs) h
all_true-get (b ∷ bs) (suc w) h i = all_true-get bs w (and_right b (all_true bs) h) (omega arith)

all_true-from : (bs : List Bool) → ((k : ℕ) → k < length bs → get_or bs k false ≡ true) → all_true bs ≡ true
all_true-from [] h = refl
all_true-from (b ∷ bs) h = and_both b (all_true bs) (h 0 (omega arith)) (all_true-from bs (λ k i. h (suc k) (omega arith)))

sum_from-zero : {A : Type 0} (f : ℕ → A → ℕ) (k : ℕ) (xs : List A) (d : A) → ((j : ℕ) → j < length xs → f (k + j) (get_or xs j d) ≡ 0) → sum_from f k xs ≡ 0
sum_from-zero f k [] d h = refl
sum_from-zero f k (x ∷ xs) d h =
    let e : k + 0 ≡ k = omega arith in
    let a : f k x ≡ 0 = rw e at (h 0 (omega arith)) in
    let t : sum_from f (suc k) xs ≡ 0 = sum_from-zero f (suc k) xs d (λ j i. let e : suc k + j ≡ k + suc j = omega arith in rw e (h (suc j) (omega arith))) in
    omega arith

flags_zero : (bs : List Bool) → sum_by (of_flag 0) bs ≡ 0
flags_zero [] = refl
flags_zero (true ∷ bs) = sum_by-cons (of_flag 0) true bs ∙ (let t = flags_zero bs in omega arith)
flags_zero (false ∷ bs) = sum_by-cons (of_flag 0) false bs ∙ (let t = flags_zero bs in omega arith)

flag_zero : (b : Bool) → of_flag 0 b ≡ 0
flag_zero true = refl
flag_zero false = refl

-- a number that is nowhere else is done
done_from_place : (s : State) (x : ℕ) → s.backlog ≡ [] → ((j : ℕ) → j < length s.queues → queue_at s j ≡ []) → ((v : ℕ) → v < length s.worker_slots → worker_slot_at s v ≡ None) → s.returned ≡ []
    → total (of_number x) s ≡ 1 → get_or s.done x false ≡ true
unfolding total
done_from_place s x backlog queues worker_slots returned one =
    let v = of_number x in
    let a : sum_by v.backlog s.backlog ≡ 0 = rw backlog refl in
    let b = sum_from-zero (λ k q. sum_by (v.queue k) q) 0 s.queues [] (λ j i. rw (queues j i) refl) in
    let c = sum_from-zero (λ w h. of_worker_slot (v.worker_slot w) h) 0 s.worker_slots None (λ j i. rw (worker_slots j i) refl) in
    let d : sum_by v.returned s.returned ≡ 0 = rw returned refl in
    let e : sum_by (of_flag v.worker) s.left ≡ 0 = flags_zero s.left in
    let f : of_flag v.running s.stopped ≡ 0 = flag_zero s.stopped in
    by_bool (λ b. get_or s.done x false ≡ b → b ≡ true) (get_or s.done x false)
    (λ t q. refl)
    (λ g q. absurd (let z = sum_from-zero (λ j b. of_slot (v.done j) b) 0 s.done false (slots g) in omega arith))
    refl
  where
    slots : get_or s.done x false ≡ false → (j : ℕ) → j < length s.done → of_slot (one_at x (0 + j)) (get_or s.done j false) ≡ 0
    slots g j i =
        elim (eqb_tells x j) [
          | inl at ↦ let h : get_or s.done j false ≡ false = rw (← at.1) g in rw h refl
          | inr away ↦ let z : one_at x (0 + j) ≡ 0 = rw (zero-add j, away.0) refl in rw z (slot_zero (get_or s.done j false))
        ]
      where
        slot_zero : (b : Bool) → of_slot 0 b ≡ 0
        slot_zero true = refl
        slot_zero false = refl

-- Where all workers have left a floor that isn't stopped, all numbers are done.
pub all_done_from_left : (p : Layout) (n : ℕ) (h : List Event) → IsPlan p → is_legal_from_opening p n h ≡ true → all_left (standing p n h) ≡ true → (standing p n h).stopped ≡ false → all_done (standing p n h) ≡ true
all_done_from_left p n h plan legal left runs =
    let s = standing p n h in
    let placed = IsPlaced-standing p n h plan legal in
    let settled = IsSettled-standing p n h plan legal in
    let gone : (w : ℕ) → w < workers p → has_left s w ≡ true = λ w known. all_true-get s.left w left (omega (arith, placed.sized.left)) in
    let last = plan.manned (stages p - 1) (omega (arith, plan.some)) in
    let d = settled.drained runs last.0 last.1 (gone last.0 last.1) in
    all_true-from s.done (λ x i.
    done_from_place s x d.backlog
    (λ j q. d.queues j (omega (arith, last.2, placed.sized.queues, plan.some)))
    (λ v q. let known : v < workers p = omega (arith, placed.sized.worker_slots) in settled.idle v known (gone v known))
    (settled.kept runs)
    (let below : x < n = omega (arith, placed.sized.done) in placed.places x ∙ ap (λ b. cond b 1 0) (lt-ltb x n below)))
