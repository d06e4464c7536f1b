-- The floor as a machine of numbers: its state, what each event needs and does, and legal histories.
use Rattle.std.specs.Prelude.{ℕ, ◌+◌, ◌*◌, Bool, true, false, ◌&&◌, ◌||◌, List, [], ◌∷◌, ◌++◌, length, take, drop}
use Rattle.std.specs.Prelude.{replicate, slice_index_or, slice_set, nat_eq, nat_lt, nat_le, if◌then◌else◌, Option, Some}
use Rattle.std.specs.Prelude.{None, is_some, is_none, ◌≡◌, slice_get}
use Rattle.std.specs.List.{list_all, range_with_len}
use Rattle.stage_graph.specs.Layouts.{Layout, stages, workers, stage_at, cut_at, capacity_at, is_last}
use Rattle.stage_graph.specs.declared.event.Event.{Event}
use Rattle.stage_graph.specs.declared.event.Event.TheVariants.{Feed, Take, Give, Back, Leave, Halt}
use Rattle.stage_graph.specs.declared.event.Cause.{Cause}
use Rattle.stage_graph.specs.declared.event.Cause.TheVariants.{Stopped, Empty, Full, Gone, Busy, NotHeld, Early}
use Rattle.stage_graph.specs.declared.legality.Checked.{Checked}
use Rattle.stage_graph.specs.declared.legality.Checked.TheVariants.{Legal, Illegal}

-- A staged floor, by the numbers of its items.
--
-- | event     | what it does                                                       | causes of its refusal, in order |
-- |-----------|--------------------------------------------------------------------|---------------------------------|
-- | feed      | the first of the backlog goes into the first queue                 | Stopped, Empty, Full            |
-- | take      | the front of the queue of the worker's stage goes into its slot    | Gone, Busy, Stopped, Empty      |
-- | give      | from the slot into the next queue, or after the last stage to done | NotHeld, Full                   |
-- | back      | from the slot to the returned numbers; the floor is stopped        | NotHeld                         |
-- | leave     | the worker has left                                                | Gone, Busy, Early               |
-- | halt      | the floor is stopped                                               | Stopped                         |

-- Where the numbers are: waiting to be fed, in the queue of each stage, in the slot of each worker, done (by number),
-- and sent back; whether the floor is stopped; and which workers have left.
pub record State : Type 0 where
  pub backlog : List ℕ
  pub queues : List (List ℕ)
  pub worker_slots : List (Option ℕ)
  pub done : List Bool
  pub returned : List ℕ
  pub stopped : Bool
  pub left : List Bool

abbrev pub queue_at : State → ℕ → List ℕ
queue_at s k = slice_index_or s.queues k []

abbrev pub worker_slot_at : State → ℕ → Option ℕ
worker_slot_at s w = slice_index_or s.worker_slots w None

abbrev pub has_left : State → ℕ → Bool
has_left s w = slice_index_or s.left w false

abbrev pub is_nil : {A : Type 0} → List A → Bool
is_nil [] = true
is_nil (x ∷ xs) = false

-- whether it is this number
abbrev pub is_at : Option ℕ → ℕ → Bool
is_at None n = false
is_at (Some m) n = nat_eq m n

abbrev pub first : List ℕ → Option ℕ
first [] = None
first (x ∷ xs) = Some x

-- no worker of a stage before k holds a number
abbrev pub idle_before : ℕ → List ℕ → List (Option ℕ) → Bool
idle_before k [] worker_slots = true
idle_before k (t ∷ ts) [] = true
idle_before k (t ∷ ts) (h ∷ hs) = (nat_le k t || is_none h) && idle_before k ts hs

-- Nothing can come to a worker of stage k any more: no number is in the backlog, in the queues up to that of stage k,
-- or in a slot of an earlier stage.
abbrev pub is_drained : Layout → State → ℕ → Bool
is_drained p s k = is_nil s.backlog && (list_all is_nil (take (k + 1) s.queues) && idle_before k p.posts s.worker_slots)

-- the floor on which n numbers wait, from 0 on, and nothing else is
unfoldable pub opening : Layout → ℕ → State
opening p n = record {
  backlog = range_with_len 0 n;
  queues = replicate (stages p) [];
  worker_slots = replicate (workers p) None;
  done = replicate n false;
  returned = [];
  stopped = false;
  left = replicate (workers p) false;
}

-- The first cause for which each event is refused, if there is one.
abbrev pub feed_cause : Layout → State → Option Cause
feed_cause p s =
    if s.stopped then Some Stopped
    else (if is_nil s.backlog then Some Empty else
    (if nat_le (capacity_at p 0) (length (queue_at s 0)) then Some Full else None))

abbrev pub take_cause : Layout → State → ℕ → Option Cause
take_cause p s w =
    if has_left s w then Some Gone
    else (if is_some (worker_slot_at s w) then Some Busy else
    (if s.stopped then Some Stopped else (if is_nil (queue_at s (stage_at p w)) then Some Empty else None)))

-- `steps` are those done to the item: exactly those up to the end of the worker's stage are asked for
abbrev pub give_cause : Layout → State → ℕ → ℕ → ℕ → Option Cause
give_cause p s w n steps =
    if is_at (worker_slot_at s w) n && nat_eq steps (cut_at p (stage_at p w))
    then (if is_last p (stage_at p w) then None
    else (if nat_le (capacity_at p (stage_at p w + 1))
    (length (queue_at s (stage_at p w + 1))) then Some Full else None))
    else Some NotHeld

abbrev pub back_cause : State → ℕ → ℕ → Option Cause
back_cause s w n = if is_at (worker_slot_at s w) n then None else Some NotHeld

abbrev pub leave_cause : Layout → State → ℕ → Option Cause
leave_cause p s w =
    if has_left s w then Some Gone
    else (if is_some (worker_slot_at s w) then Some Busy else
    (if s.stopped || is_drained p s (stage_at p w) then None else Some Early))

abbrev pub halt_cause : State → Option Cause
halt_cause s = if s.stopped then Some Stopped else None

-- An event is allowed where none of its causes holds, its worker is one of the plan's, and its number is that of the
-- item that moves. Given by number alone, the item of a give counts as having its stage's steps done.
abbrev pub is_allowed : Layout → State → Event → Bool
is_allowed p s (Feed n) = is_none (feed_cause p s) && is_at (first s.backlog) n
is_allowed p s (Take w n) = nat_lt w (workers p) &&
    (is_none (take_cause p s w) && is_at (first (queue_at s (stage_at p w))) n)
is_allowed p s (Give w n) = nat_lt w (workers p) && is_none (give_cause p s w n (cut_at p (stage_at p w)))
is_allowed p s (Back w n) = nat_lt w (workers p) && is_none (back_cause s w n)
is_allowed p s (Leave w) = nat_lt w (workers p) && is_none (leave_cause p s w)
is_allowed p s Halt = is_none (halt_cause s)

-- the state after an event that is allowed
abbrev pub after : Layout → State → Event → State
after p s (Feed n) = record s { backlog = drop 1 s.backlog; queues = slice_set s.queues 0 (queue_at s 0 ++ n ∷ []) }
after p s (Take w n) = record s {
  queues = slice_set s.queues (stage_at p w)
      (drop 1 (queue_at s (stage_at p w)));
  worker_slots = slice_set s.worker_slots w (Some n);
}
after p s (Give w n) =
    if is_last p (stage_at p w) then record s {
      worker_slots = slice_set s.worker_slots w None;
      done = slice_set s.done n true;
    }
    else record s {
      worker_slots = slice_set s.worker_slots w None;
      queues = slice_set s.queues (stage_at p w + 1)
          (queue_at s (stage_at p w + 1) ++ n ∷ []);
    }
after p s (Back w n) = record s {
  worker_slots = slice_set s.worker_slots w None;
  returned = s.returned ++ n ∷ [];
  stopped = true;
}
after p s (Leave w) = record s { left = slice_set s.left w true }
after p s Halt = record s { stopped = true }

-- the state after all events
unfoldable pub after_all : Layout → State → List Event → State
after_all p s [] = s
after_all p s (e ∷ es) = after_all p (after p s e) es

-- each event is allowed in its place
unfoldable pub is_legal : Layout → State → List Event → Bool
is_legal p s [] = true
is_legal p s (e ∷ es) = is_allowed p s e && is_legal p (after p s e) es

-- the state to which a history leads from the opening floor of n numbers
unfoldable pub standing : Layout → ℕ → List Event → State
standing p n es = after_all p (opening p n) es

-- a history that is legal from the opening floor of n numbers
unfoldable pub is_legal_from_opening : Layout → ℕ → List Event → Bool
is_legal_from_opening p n es = is_legal p (opening p n) es

-- The greatest length of a legal history: each number has one feed, and a take and a give at each stage; each worker
-- leaves once; and the floor may be halted once.
abbrev pub most_events : Layout → ℕ → ℕ
most_events p n = n * (1 + 2 * stages p) + workers p + 1

abbrev pub all_true : List Bool → Bool
all_true bs = list_all (λ b. b) bs

-- all workers have left
abbrev pub all_left : State → Bool
all_left s = all_true s.left

-- all numbers are done
abbrev pub all_done : State → Bool
all_done s = all_true s.done

-- whether an event stops the floor: a back or the halt
abbrev pub is_stop : Event → Bool
is_stop (Feed n) = false
is_stop (Take w n) = false
is_stop (Give w n) = false
is_stop (Back w n) = true
is_stop (Leave w) = false
is_stop Halt = true

abbrev pub has_stop : List Event → Bool
has_stop [] = false
has_stop (e ∷ es) = is_stop e || has_stop es

-- Whether a history is legal, or the first place of it that is not.

-- The event at place k, from 0, isn't allowed in its place, and those before it are.
pub record IsFirstRefused (p : Layout) (n : ℕ) (h : List Event) (k : ℕ) : Type 0 where
  pub refused : Event
  pub there : slice_get h k ≡ Some refused
  pub before : is_legal_from_opening p n (take k h) ≡ true
  pub not_allowed : is_allowed p (standing p n (take k h)) refused ≡ false
  pub illegal : is_legal_from_opening p n h ≡ false

-- the answer to whether a history is legal from the opening floor of n numbers
abbrev pub IsVerdict : Layout → ℕ → List Event → Checked → Type 0
IsVerdict p n h Legal = is_legal_from_opening p n h ≡ true
IsVerdict p n h (Illegal k) = IsFirstRefused p n h k
