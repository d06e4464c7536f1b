-- A history that is one event longer.
use Rattle.std.proofs.Common.{◌≡◌, ℕ, zero, suc, take, Bool, true, false, ◌&&◌, List, [], ◌∷◌, ◌++◌, refl}
use Rattle.stage_graph.specs.Layouts.{Layout}
use Rattle.stage_graph.specs.Floors.{State, opening, is_allowed, after, after_all, is_legal, standing, is_legal_from_opening}
use Rattle.stage_graph.specs.declared.event.Event.{Event}

pub and_left : (a b : Bool) → (a && b) ≡ true → a ≡ true
and_left true b h = refl
and_left false b h = h

pub and_right : (a b : Bool) → (a && b) ≡ true → b ≡ true
and_right true b h = h
and_right false b h = cc

pub and_both : (a b : Bool) → a ≡ true → b ≡ true → (a && b) ≡ true
and_both a b h k = rw (h, k) refl

pub after_all-snoc : (p : Layout) (s : State) (h : List Event) (e : Event) → after_all p s (h ++ e ∷ []) ≡ after p (after_all p s h) e
unfolding after_all
after_all-snoc p s [] e = refl
after_all-snoc p s (x ∷ h) e = after_all-snoc p (after p s x) h e

pub is_legal-snoc : (p : Layout) (s : State) (h : List Event) (e : Event) → is_legal p s h ≡ true → is_allowed p (after_all p s h) e ≡ true → is_legal p s (h ++ e ∷ []) ≡ true
unfolding after_all is_legal
is_legal-snoc p s [] e l a = and_both _ true a refl
is_legal-snoc p s (x ∷ h) e l a = and_both _ _ (and_left _ _ l) (is_legal-snoc p (after p s x) h e (and_right _ _ l) a)

pub standing-snoc : (p : Layout) (n : ℕ) (h : List Event) (e : Event) → standing p n (h ++ e ∷ []) ≡ after p (standing p n h) e
unfolding standing
standing-snoc p n h e = after_all-snoc p (opening p n) h e

is_legal-take : (p : Layout) (s : State) (h : List Event) (m : ℕ) → is_legal p s h ≡ true → is_legal p s (take m h) ≡ true
unfolding is_legal
is_legal-take p s h zero l = refl
is_legal-take p s [] (suc m) l = refl
is_legal-take p s (e ∷ h) (suc m) l = and_both _ _ (and_left _ _ l) (is_legal-take p (after p s e) h m (and_right _ _ l))

-- the beginnings of a legal history are legal
pub legal-take : (p : Layout) (n : ℕ) (h : List Event) (m : ℕ) → is_legal_from_opening p n h ≡ true → is_legal_from_opening p n (take m h) ≡ true
unfolding is_legal_from_opening
legal-take p n h m l = is_legal-take p (opening p n) h m l

pub legal-snoc : (p : Layout) (n : ℕ) (h : List Event) (e : Event) → is_legal_from_opening p n h ≡ true → is_allowed p (standing p n h) e ≡ true → is_legal_from_opening p n (h ++ e ∷ []) ≡ true
unfolding standing is_legal_from_opening
legal-snoc p n h e l a = is_legal-snoc p (opening p n) h e l a
