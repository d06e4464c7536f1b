-- What holds where no cause does.
use Rattle.std.proofs.Common.{◌≡◌, ℕ, ◌+◌, Bool, true, false, cond, ◌||◌, length, nat_le, refl, ap, Option, Some, None, is_some}
use Rattle.std.specs.Option.{is_none}
use Rattle.std.proofs.lemmas.Bool.{eqb-true}
use Rattle.stage_graph.specs.Layouts.{Layout, stage_at, capacity_at, is_last}
use Rattle.stage_graph.specs.Floors.{State, queue_at, worker_slot_at, has_left, is_nil, is_at, is_drained, feed_cause, take_cause, give_cause, back_cause, leave_cause, halt_cause}
use Rattle.stage_graph.specs.declared.event.Cause.{Cause}
use Rattle.stage_graph.specs.declared.event.Cause.TheVariants.{Full, NotHeld}

pub cond_none : (b : Bool) (c : Cause) (o : Option Cause) → cond b (Some c) o ≡ None → (b ≡ false) × (o ≡ None)
cond_none true c o h = absurd (cc)
cond_none false c o h = (refl, h)

pub none_cond : (b : Bool) (c : Cause) → cond b None (Some c) ≡ None → b ≡ true
none_cond true c h = refl
none_cond false c h = absurd (cc)

pub none_is : {A : Type 0} (o : Option A) → is_none o ≡ true → o ≡ None
none_is None h = refl
none_is (Some x) h = absurd (cc)

pub not_some : {A : Type 0} (o : Option A) → is_some o ≡ false → o ≡ None
not_some None h = refl
not_some (Some x) h = absurd (cc)

pub at_is : (h : Option ℕ) (n : ℕ) → is_at h n ≡ true → h ≡ Some n
at_is None n e = absurd (cc)
at_is (Some m) n e = ap Some (eqb-true m n e)

pub record MayFeed (p : Layout) (s : State) : Type 0 where
  pub running : s.stopped ≡ false
  pub some : is_nil s.backlog ≡ false
  pub not_full : nat_le (capacity_at p 0) (length (queue_at s 0)) ≡ false

pub may_feed : (p : Layout) (s : State) → feed_cause p s ≡ None → MayFeed p s
may_feed p s h =
    let a = cond_none _ _ _ h in
    let b = cond_none _ _ _ a.1 in
    let c = cond_none _ _ _ b.1 in
    record { running = a.0; some = b.0; not_full = c.0 }

pub record MayTake (p : Layout) (s : State) (w : ℕ) : Type 0 where
  pub here : has_left s w ≡ false
  pub free : worker_slot_at s w ≡ None
  pub running : s.stopped ≡ false
  pub some : is_nil (queue_at s (stage_at p w)) ≡ false

pub may_take : (p : Layout) (s : State) (w : ℕ) → take_cause p s w ≡ None → MayTake p s w
may_take p s w h =
    let a = cond_none _ _ _ h in
    let b = cond_none _ _ _ a.1 in
    let c = cond_none _ _ _ b.1 in
    let d = cond_none _ _ _ c.1 in
    record { here = a.0; free = not_some _ b.0; running = c.0; some = d.0 }

-- a give that goes to the next stage finds its queue not full
pub may_give : (p : Layout) (s : State) (w n steps : ℕ) → give_cause p s w n steps ≡ None → is_last p (stage_at p w) ≡ false
    → nat_le (capacity_at p (stage_at p w + 1)) (length (queue_at s (stage_at p w + 1))) ≡ false
may_give p s w n steps h more = (cond_none _ Full None (of_false _ _ _ more (of_true _ _ h))).0
  where
    of_true : (b : Bool) (o : Option Cause) → cond b o (Some NotHeld) ≡ None → o ≡ None
    of_true true o h = h
    of_true false o h = absurd (cc)

    of_false : (b : Bool) (a o : Option Cause) → b ≡ false → cond b a o ≡ None → o ≡ None
    of_false true a o e h = absurd (cc)
    of_false false a o e h = h

pub may_back : (s : State) (w n : ℕ) → back_cause s w n ≡ None → is_at (worker_slot_at s w) n ≡ true
may_back s w n h = none_cond _ _ h

pub record MayLeave (p : Layout) (s : State) (w : ℕ) : Type 0 where
  pub here : has_left s w ≡ false
  pub free : worker_slot_at s w ≡ None
  pub drained : (s.stopped || is_drained p s (stage_at p w)) ≡ true

pub may_leave : (p : Layout) (s : State) (w : ℕ) → leave_cause p s w ≡ None → MayLeave p s w
may_leave p s w h =
    let a = cond_none _ _ _ h in
    let b = cond_none _ _ _ a.1 in
    record { here = a.0; free = not_some _ b.0; drained = none_cond _ _ b.1 }

pub may_halt : (s : State) → halt_cause s ≡ None → s.stopped ≡ false
may_halt s h = (cond_none _ _ _ h).0
