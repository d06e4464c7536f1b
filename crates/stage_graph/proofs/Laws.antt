-- What holds of each legal history.
use Rattle.std.proofs.Common.{◌≡◌, ℕ, ◌<◌, true, cond, List, sym, ap, ◌∙◌}
use Rattle.std.proofs.lemmas.Bool.{lt-ltb}
use Rattle.stage_graph.specs.Layouts.{Layout, IsPlan}
use Rattle.stage_graph.specs.Floors.{standing, is_legal_from_opening}
use Rattle.stage_graph.specs.Counts.{places_of}
use Rattle.stage_graph.specs.declared.event.Event.{Event}
use Rattle.stage_graph.proofs.Weights.{weight-places}
use Rattle.stage_graph.proofs.Sound.{IsPlaced-standing}

pub one_place : (p : Layout) (n : ℕ) (h : List Event) → IsPlan p → is_legal_from_opening p n h ≡ true → (x : ℕ) → x < n → places_of (standing p n h) x ≡ 1
one_place p n h plan legal x below = sym (weight-places (standing p n h) x) ∙ (IsPlaced-standing p n h plan legal).places x ∙ ap (λ b. cond b 1 0) (lt-ltb x n below)
