-- The lists of a state keep their lengths.
use Rattle.std.proofs.Common.{◌≡◌, ℕ, Bool, true, false, cond, List, [], ◌∷◌, length, length-set}
use Rattle.std.proofs.lemmas.List.{length-replicate}
use Rattle.stage_graph.specs.Layouts.{Layout, stages, workers, stage_at, is_last}
use Rattle.stage_graph.specs.Floors.{State, opening, after, after_all, standing}
use Rattle.stage_graph.specs.declared.event.Event.{Event}
use Rattle.stage_graph.specs.declared.event.Event.TheVariants.{Feed, Take, Give, Back, Leave, Halt}

pub record IsSized (p : Layout) (n : ℕ) (s : State) : Type 0 where
  pub queues : length s.queues ≡ stages p
  pub worker_slots : length s.worker_slots ≡ workers p
  pub done : length s.done ≡ n
  pub left : length s.left ≡ workers p

IsSized-cond : (p : Layout) (n : ℕ) (b : Bool) (s t : State) → IsSized p n s → IsSized p n t → IsSized p n (cond b s t)
IsSized-cond p n true s t h k = h
IsSized-cond p n false s t h k = k

pub IsSized-after : (p : Layout) (n : ℕ) (s : State) (e : Event) → IsSized p n s → IsSized p n (after p s e)
IsSized-after p n s (Feed x) h = record { queues = simp length-set h.queues; worker_slots = h.worker_slots; done = h.done; left = h.left }
IsSized-after p n s (Take w x) h = record { queues = simp length-set h.queues; worker_slots = simp length-set h.worker_slots; done = h.done; left = h.left }
IsSized-after p n s (Give w x) h =
    IsSized-cond p n (is_last p (stage_at p w)) _ _
    (record { queues = h.queues; worker_slots = simp length-set h.worker_slots; done = simp length-set h.done; left = h.left })
    (record { queues = simp length-set h.queues; worker_slots = simp length-set h.worker_slots; done = h.done; left = h.left })
IsSized-after p n s (Back w x) h = record { queues = h.queues; worker_slots = simp length-set h.worker_slots; done = h.done; left = h.left }
IsSized-after p n s (Leave w) h = record { queues = h.queues; worker_slots = h.worker_slots; done = h.done; left = simp length-set h.left }
IsSized-after p n s Halt h = record { queues = h.queues; worker_slots = h.worker_slots; done = h.done; left = h.left }

pub IsSized-after_all : (p : Layout) (n : ℕ) (s : State) (es : List Event) → IsSized p n s → IsSized p n (after_all p s es)
unfolding after_all
IsSized-after_all p n s [] h = h
IsSized-after_all p n s (e ∷ es) h = IsSized-after_all p n (after p s e) es (IsSized-after p n s e h)

pub IsSized-opening : (p : Layout) (n : ℕ) → IsSized p n (opening p n)
unfolding opening
IsSized-opening p n = record { queues = length-replicate (stages p) []; worker_slots = length-replicate (workers p) _; done = length-replicate n false; left = length-replicate (workers p) false }

pub IsSized-standing : (p : Layout) (n : ℕ) (es : List Event) → IsSized p n (standing p n es)
unfolding standing
IsSized-standing p n es = IsSized-after_all p n (opening p n) es (IsSized-opening p n)
