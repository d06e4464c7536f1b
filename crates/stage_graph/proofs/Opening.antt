-- The opening floor.
use Rattle.std.proofs.Common.{◌≡◌, ℕ, ◌<◌, Bool, true, false, List, [], length, get_or, map, replicate, refl, ap, ◌∙◌, arith, Option, None}
use Rattle.std.specs.List.{range_with_len}
use Rattle.std.proofs.lemmas.List.{length-map, get_or-map, get_or-replicate, length-replicate}
use Rattle.stage_graph.specs.Layouts.{Layout, IsPlan, stages, workers, capacity_at}
use Rattle.stage_graph.specs.Floors.{opening, after_all, is_legal, standing, is_legal_from_opening}
use Rattle.stage_graph.specs.After.{with_steps, empty_queue, FloorAfter}

pub standing_nil : (p : Layout) (n : ℕ) → standing p n [] ≡ opening p n
unfolding standing after_all
standing_nil p n = refl

pub legal_nil : (p : Layout) (n : ℕ) → is_legal_from_opening p n [] ≡ true
unfolding is_legal_from_opening is_legal
legal_nil p n = refl

pub opening_stands : {X : Type 0} (mark : X → ℕ × ℕ) (p : Layout) (n : ℕ) (backlog : List X) (queues : List (List X × ℕ)) (worker_slots : List (Option ℕ)) (slots : List (Option X)) (returned : List X) (left : List Bool) → IsPlan p
    → map mark backlog ≡ map (with_steps 0) (range_with_len 0 n) → queues ≡ map empty_queue p.capacities → worker_slots ≡ replicate (workers p) None → slots ≡ replicate n None → returned ≡ [] → left ≡ replicate (workers p) false
    → FloorAfter mark p n [] (record { backlog = backlog; queues = queues; worker_slots = worker_slots; slots = slots; returned = returned; stopped = false; left = left })
unfolding opening
opening_stands {X} mark p n backlog queues worker_slots slots returned left plan b q h s r l =
    let e = standing_nil p n in
    let at : (k : ℕ) → k < stages p → get_or queues k ([], 0) ≡ empty_queue (capacity_at p k) =
    λ k i. ap (λ u. get_or u k ([], 0)) q ∙ get_or-map empty_queue p.capacities k 0 ([], 0) (omega (arith, plan.capacities)) in
    record {
      plan = plan;
      legal = legal_nil p n;
      backlog_is = rw e b;
      stages_are = ap length q ∙ (length-map p.capacities empty_queue ∙ plan.capacities);
      queues_are = λ k i. rw (e, get_or-replicate {A = List ℕ} (stages p) k [] [] i) (ap (λ u. map mark u.0) (at k i));
      capacities_are = λ k i. ap (λ u. u.1) (at k i);
      worker_slots_are = rw e h;
      slots_are = λ k i. rw (e, s, get_or-replicate {A = Option X} n k None None i, get_or-replicate n k false false i) refl;
      count_is = ap length s ∙ length-replicate n None;
      returned_are = rw (e, r) refl;
      worker_slots_count = ap length h ∙ length-replicate (workers p) None;
      left_count = ap length l ∙ length-replicate (workers p) false;
      stopped_is = rw e refl;
      left_are = rw e l;
    }
