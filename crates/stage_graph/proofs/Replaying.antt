-- Replaying a history.
use Rattle.std.proofs.Common.{◌≡◌, ℕ, zero, suc, ◌<◌, Bool, true, false, ◌&&◌, List, [], ◌∷◌, length, take, get_or, refl, sym, ap, ◌∙◌, arith, Some}
use Rattle.std.proofs.lemmas.Option.{slice_get-get_or}
use Rattle.stage_graph.specs.Layouts.{Layout}
use Rattle.stage_graph.specs.Floors.{State, opening, after, after_all, is_allowed, is_legal, standing}
use Rattle.stage_graph.specs.Floors.{is_legal_from_opening, IsFirstRefused}
use Rattle.stage_graph.specs.declared.event.Event.{Event}

illegal_at : (p : Layout) (s : State) (h : List Event) (k : ℕ) (e : Event) → k < length h → is_allowed p (after_all p s (take k h)) (get_or h k e) ≡ false → is_legal p s h ≡ false
unfolding after_all is_legal
illegal_at p s [] k e i nope = absurd (omega arith)
illegal_at p s (x ∷ h) zero e i nope = rw nope refl
illegal_at p s (x ∷ h) (suc k) e i nope = rw (illegal_at p (after p s x) h k e (omega arith) nope) (and_false (is_allowed p s x))
  where
    and_false : (b : Bool) → (b && false) ≡ false
    and_false true = refl
    and_false false = refl

pub refused_at : (p : Layout) (n : ℕ) (h : List Event) (k : ℕ) (e : Event) → k < length h → e ≡ get_or h k e → is_legal_from_opening p n (take k h) ≡ true → is_allowed p (standing p n (take k h)) e ≡ false → IsFirstRefused p n h k
unfolding standing is_legal_from_opening
refused_at p n h k e i at before nope = record {
  refused = e;
  there = slice_get-get_or h k e i ∙ ap Some (sym at);
  before = before;
  not_allowed = nope;
  illegal = illegal_at p (opening p n) h k e i (rw (← at) nope);
}
