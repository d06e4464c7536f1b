-- A floor at its end.
use Rattle.std.proofs.Common.{◌≡◌, ℕ, zero, suc, ◌+◌, ◌<◌, Bool, true, false, cond, ◌||◌, List, [], ◌∷◌, length, get_or, map, refl, sym, ap, ◌∙◌, arith, Option, Some, None, is_some}
use Rattle.std.specs.List.{list_all, range_with_len}
use Rattle.std.specs.Option.{option_map}
use Rattle.std.proofs.lemmas.List.{length-map}
use Rattle.stage_graph.specs.Layouts.{Layout, IsPlan, stage_at, is_last}
use Rattle.stage_graph.specs.Floors.{State, opening, after, after_all, standing, is_legal_from_opening, all_left, all_done, is_stop, has_stop}
use Rattle.stage_graph.specs.After.{with_steps, slot_mark, last_cut, Parts, FloorAfter}
use Rattle.stage_graph.specs.declared.event.Event.{Event}
use Rattle.stage_graph.specs.declared.event.Event.TheVariants.{Feed, Take, Give, Back, Leave, Halt}
use Rattle.stage_graph.proofs.Sizes.{IsSized-standing}
use Rattle.stage_graph.proofs.Sound.{by_bool}
use Rattle.stage_graph.proofs.Lists.{same_full, from_slots}
use Rattle.stage_graph.proofs.Leaving.{all_done_from_left}

module _ {X : Type 0} (mark : X → ℕ × ℕ) (p : Layout) (n : ℕ) (h : List Event) where
  -- the slots are full where all numbers are done
  pub full_is_done : (f : Parts X) → FloorAfter mark p n h f → list_all is_some f.slots ≡ all_done (standing p n h)
  full_is_done f stands =
      let sized = IsSized-standing p n h in
      same_full f.slots (standing p n h).done (omega (arith, stands.count_is, sized.done))
      (λ k i. flags (get_or f.slots k None) (get_or (standing p n h).done k false) k (stands.slots_are k (omega (arith, stands.count_is))))
    where
      flags : (o : Option X) (b : Bool) (k : ℕ) → option_map mark o ≡ slot_mark (last_cut p) b k → is_some o ≡ b
      flags None true k e = absurd (cc)
      flags None false k e = refl
      flags (Some x) true k e = refl
      flags (Some x) false k e = absurd (cc)

  -- the items of full slots
  pub closed_items : (f : Parts X) (xs : List X) → map Some xs ≡ f.slots → FloorAfter mark p n h f → map mark xs ≡ map (with_steps (last_cut p)) (range_with_len 0 n)
  closed_items f xs is stands =
      let len : length xs ≡ n = sym (length-map xs Some) ∙ (ap length is ∙ stands.count_is) in
      from_slots mark (last_cut p) xs 0
      (λ k i. full (get_or (map Some xs) k None) (get_or (standing p n h).done k false) k (some_at xs k i) (ap (λ os. option_map mark (get_or os k None)) is ∙ stands.slots_are k (omega (arith, len, i))))
      ∙ ap (λ m. map (with_steps (last_cut p)) (range_with_len 0 m)) len
    where
      some_at : (xs : List X) (k : ℕ) → k < length xs → is_some (get_or (map Some xs) k None) ≡ true
      some_at [] k i = absurd (omega arith)
      some_at (x ∷ xs) zero i = refl
      some_at (x ∷ xs) (suc k) i = some_at xs k (omega arith)

      full : (o : Option X) (b : Bool) (k : ℕ) → is_some o ≡ true → option_map mark o ≡ slot_mark (last_cut p) b k → option_map mark o ≡ Some (0 + k, last_cut p)
      full None b k s e = absurd (cc)
      full (Some x) true k s e = e ∙ ap (λ j. Some (j, last_cut p)) (omega arith)
      full (Some x) false k s e = absurd (cc)

or_no : (b : Bool) → b ≡ (b || false)
or_no true = refl
or_no false = refl

or_yes : (b : Bool) → true ≡ (b || true)
or_yes true = refl
or_yes false = refl

stop_after : (p : Layout) (s : State) (e : Event) → (after p s e).stopped ≡ (s.stopped || is_stop e)
stop_after p s (Feed x) = or_no s.stopped
stop_after p s (Take w x) = or_no s.stopped
stop_after p s (Give w x) = either_way (is_last p (stage_at p w)) _ _ s.stopped refl refl ∙ or_no s.stopped
  where
    either_way : (b : Bool) (t u : State) (c : Bool) → t.stopped ≡ c → u.stopped ≡ c → (cond b t u).stopped ≡ c
    either_way true t u c h k = h
    either_way false t u c h k = k
stop_after p s (Back w x) = or_yes s.stopped
stop_after p s (Leave w) = or_no s.stopped
stop_after p s Halt = or_yes s.stopped

-- a floor is stopped where its history has a stop
stops_all : (p : Layout) (s : State) (h : List Event) → (after_all p s h).stopped ≡ (s.stopped || has_stop h)
unfolding after_all
stops_all p s [] = or_no s.stopped
stops_all p s (e ∷ h) = stops_all p (after p s e) h ∙ (ap (λ b. b || has_stop h) (stop_after p s e) ∙ or_assoc s.stopped (is_stop e) (has_stop h))
  where
    or_assoc : (a b c : Bool) → ((a || b) || c) ≡ (a || (b || c))
    or_assoc true b c = refl
    or_assoc false b c = refl

pub stopped_by : (p : Layout) (n : ℕ) (h : List Event) → (standing p n h).stopped ≡ has_stop h
unfolding standing opening
stopped_by p n h = stops_all p (opening p n) h

pub stopped_is : (p : Layout) (n : ℕ) (h : List Event) → IsPlan p → is_legal_from_opening p n h ≡ true → all_left (standing p n h) ≡ true → all_done (standing p n h) ≡ false → has_stop h ≡ true
stopped_is p n h plan legal left undone =
    sym (stopped_by p n h)
    ∙ by_bool (λ b. (standing p n h).stopped ≡ b → b ≡ true) (standing p n h).stopped (λ t e. refl) (λ f e. absurd (let d = all_done_from_left p n h plan legal left f in let t : true ≡ false = sym d ∙ undone in cc)) refl
