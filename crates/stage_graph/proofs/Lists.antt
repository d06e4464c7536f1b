-- Lists of items beside lists of numbers.
use Rattle.std.proofs.Common.{◌≡◌, ℕ, ◌+◌, ◌<◌, Bool, true, false, cond, List, [], ◌∷◌, length, get_or, set, drop, map, nat_eq, refl, sym, ap, ◌∙◌, arith, Option, Some, None, is_some, not, Result, Ok, Err, OnOk, take, zero, suc, slice_get, add-one, drop-cons, ◌||◌, ◌&&◌, nat_le, subst, inl, inr}
use Rattle.std.proofs.lemmas.List.{get_or_read, get_or-set_same, get_or-set_other, length-map}
use Rattle.std.proofs.Math.Dec.{eqb-suc-zero}
use Rattle.std.specs.List.{list_all, range_with_len}
use Rattle.std.specs.Option.{option_map, is_none}
use Rattle.stage_queue.specs.Placed.{placing_fault, fault_of}
use Rattle.stage_queue.specs.declared.slots.Placing.{Placing}
use Rattle.std.proofs.lemmas.Bool.{eqb-true, eq-eqb, lt-ltb}
use Rattle.stage_graph.specs.After.{with_steps}
use Rattle.std.proofs.lemmas.Bool.Decides.{eqb_tells}
use Rattle.stage_graph.specs.Floors.{is_nil, is_at, first, idle_before, all_true}

pub is_nil-length : {A : Type 0} (xs : List A) → nat_eq (length xs) 0 ≡ is_nil xs
is_nil-length [] = refl
is_nil-length (x ∷ xs) = eqb-suc-zero (length xs)

pub is_nil-maps : {A B D : Type 0} (f : A → D) (g : B → D) (xs : List A) (ys : List B) → map f xs ≡ map g ys → is_nil xs ≡ is_nil ys
is_nil-maps f g [] [] h = refl
is_nil-maps f g [] (y ∷ ys) h = cc
is_nil-maps f g (x ∷ xs) [] h = cc
is_nil-maps f g (x ∷ xs) (y ∷ ys) h = refl

pub length-maps : {A B D : Type 0} (f : A → D) (g : B → D) (xs : List A) (ys : List B) → map f xs ≡ map g ys → length xs ≡ length ys
length-maps f g xs ys h = sym (length-map xs f) ∙ ap length h ∙ length-map ys g

pub map-tails : {A B D : Type 0} (f : A → D) (g : B → D) (x : A) (xs : List A) (ys : List B) → map f (x ∷ xs) ≡ map g ys → map f xs ≡ map g (drop 1 ys)
map-tails f g x xs [] h = cc
map-tails f g x xs (y ∷ ys) h = cc

-- what holds of each pair of two lists holds after a change of both at one place
pub by_place-set : {A B : Type 0} (P : ℕ → A → B → Type 0) (xs : List A) (ys : List B) (d : A) (e : B) (m i : ℕ) (x : A) (y : B)
    → i < length xs → i < length ys → P i x y
    → ((k : ℕ) → k < m → P k (get_or xs k d) (get_or ys k e))
    → (k : ℕ) → k < m → P k (get_or (set xs i x) k d) (get_or (set ys i y) k e)
by_place-set P xs ys d e m i x y in-xs in-ys here others k below =
    elim (eqb_tells k i) [
      | inl at ↦
          let Q : ℕ → Type 0 = λ j. P j (get_or (set xs i x) j d) (get_or (set ys i y) j e) in
          subst Q (sym at.1) (rw (get_or-set_same xs i x d in-xs, get_or-set_same ys i y e in-ys) here)
      | inr away ↦ rw (get_or-set_other xs i k x d away.1, get_or-set_other ys i k y e away.1) (others k below)
    ]

pub get_or-set_cond : {A : Type 0} (xs : List A) (d x : A) (i k : ℕ) → i < length xs → get_or (set xs i x) k d ≡ cond (nat_eq k i) x (get_or xs k d)
get_or-set_cond xs d x i k inside =
    elim (eqb_tells k i) [
      | inl at ↦ rw (at.0, at.1) (get_or-set_same xs i x d inside)
      | inr away ↦ rw (away.0) (get_or-set_other xs i k x d away.1)
    ]

pub some_first : (xs : List ℕ) (n : ℕ) → is_at (first xs) n ≡ true → (rest : List ℕ) × (xs ≡ n ∷ rest)
some_first [] n h = absurd (cc)
some_first (x ∷ xs) n h = (xs, ap (λ y. y ∷ xs) (eqb-true x n h))

pub first-maps : {A : Type 0} (f : A → ℕ × ℕ) (steps : ℕ) (x : A) (xs : List A) (ys : List ℕ) → map f (x ∷ xs) ≡ map (with_steps steps) ys → is_at (first ys) (f x).0 ≡ true
first-maps f steps x xs [] h = absurd (cc)
first-maps f steps x xs (y ∷ ys) h = let e : f x ≡ (y, steps) = cc in rw (ap (λ w. w.0) e) (eq-eqb y y refl)

-- what `pop` gives is the head
pub head_popped : {A : Type 0} (xs : List A) (x : A) → slice_get xs 0 ≡ Some x → xs ≡ x ∷ drop 1 xs
head_popped [] x h = absurd (cc)
head_popped (y ∷ xs) x h = let e : y ≡ x = cc in ap (λ z. z ∷ xs) e

pub length_same : {A : Type 0} (xs : List A) (ys : List ℕ) (f : A → ℕ) → map f xs ≡ ys → length xs ≡ length ys
length_same xs ys f h = sym (length-map xs f) ∙ ap length h

pub idle_before-drop : (k : ℕ) (ts : List ℕ) (hs : List (Option ℕ)) (w : ℕ) → w < length ts → w < length hs
    → idle_before k (drop w ts) (drop w hs) ≡ ((nat_le k (get_or ts w 0) || is_none (get_or hs w None)) && idle_before k (drop (w + 1) ts) (drop (w + 1) hs))
idle_before-drop k ts hs w a b = rw (drop_cons-read ts w 0 a, drop_cons-read hs w None b) refl
  where
    drop_cons-read : {A : Type 0} (xs : List A) (w : ℕ) (d : A) → w < length xs → drop w xs ≡ get_or xs w d ∷ drop (w + 1) xs
    drop_cons-read xs w d h = rw (add-one, drop-cons xs w d) refl

-- a value whose slot is there and empty is placed
pub placed : {T : Type 0} (slots : List (Option T)) (m : ℕ) (r : Result (Unit {0}) (Placing × T)) (P : Type 0) → placing_fault slots m ≡ fault_of r → m < length slots → get_or slots m None ≡ None → OnOk r P → P
placed slots m (Ok x) P f below free h = h
placed slots m (Err e) P f below free h = absurd (let none : placing_fault slots m ≡ None = rw (lt-ltb m (length slots) below, free) refl in let t : None ≡ Some e.0 = sym none ∙ f in cc)

-- an element that is not empty
pub not_all_nil : {A : Type 0} (xs : List (List A)) (k m : ℕ) → k < length xs → k < m → is_nil (get_or xs k []) ≡ false → list_all is_nil (take m xs) ≡ false
not_all_nil [] k m a b h = absurd (omega arith)
not_all_nil (x ∷ xs) k zero a b h = absurd (omega arith)
not_all_nil (x ∷ xs) zero (suc m) a b h = rw h refl
not_all_nil (x ∷ xs) (suc k) (suc m) a b h = rw (not_all_nil xs k m (omega arith) (omega arith) h) (and_false (is_nil x))
  where
    and_false : (b : Bool) → (b && false) ≡ false
    and_false true = refl
    and_false false = refl

pub idle_step : (k : ℕ) (ts : List ℕ) (hs : List (Option ℕ)) (w x : ℕ) (b y : Bool) → w < length ts → w < length hs → x ≡ get_or ts w x
    → is_some (get_or hs w None) ≡ not b → (nat_le k x || b) ≡ true → idle_before k (drop w ts) (drop w hs) ≡ y → idle_before k (drop (w + 1) ts) (drop (w + 1) hs) ≡ y
idle_step k ts hs w x b y in-t in-h at none idle before =
    let e : x ≡ get_or ts w 0 = get_or_read ts w x in-t at 0 in
    let f : is_none (get_or hs w None) ≡ b = flip (get_or hs w None) b none in
    let d = idle_before-drop k ts hs w in-t in-h in
    let i : (nat_le k (get_or ts w 0) || is_none (get_or hs w None)) ≡ true = rw (← e, f) idle in
    drop_true _ _ _ i (sym d ∙ before)
  where
    flip : (o : Option ℕ) (b : Bool) → is_some o ≡ not b → is_none o ≡ b
    flip None true h = refl
    flip None false h = absurd (cc)
    flip (Some z) true h = absurd (cc)
    flip (Some z) false h = refl

    drop_true : (a b c : Bool) → a ≡ true → (a && b) ≡ c → b ≡ c
    drop_true true b c h t = t
    drop_true false b c h t = absurd (cc)

-- items whose content goes by their number and steps, at known numbers and steps
pub values_by_law : {X V : Type 0} (number done : X → ℕ) (content : X → V) (value : ℕ → ℕ → V) → ((x : X) → content x ≡ value (done x) (number x))
    → (xs : List X) (c : ℕ) (ns : List ℕ) → map (λ x. (number x, done x)) xs ≡ map (with_steps c) ns → map content xs ≡ map (λ k. value c k) ns
values_by_law number done content value law [] c [] h = refl
values_by_law number done content value law [] c (n ∷ ns) h = absurd (cc)
values_by_law number done content value law (x ∷ xs) c [] h = absurd (cc)
values_by_law number done content value law (x ∷ xs) c (n ∷ ns) h =
    let both : ◌≡◌ {A = ℕ × ℕ} (number x, done x) (n, c) = cc in
    let e : number x ≡ n = ap (λ w. w.0) both in
    let f : done x ≡ c = ap (λ w. w.1) both in
    let g : content x ≡ value c n = law x ∙ rw (e, f) refl in
    let t : map content xs ≡ map (λ k. value c k) ns = values_by_law number done content value law xs c ns (cc) in
    cc

-- two lists, of slots and of flags, that say the same of each number
pub same_full : {A : Type 0} (slots : List (Option A)) (done : List Bool) → length slots ≡ length done → ((k : ℕ) → k < length slots → is_some (get_or slots k None) ≡ get_or done k false)
    → list_all is_some slots ≡ all_true done
same_full [] [] l h = refl
same_full [] (b ∷ bs) l h = absurd (omega arith)
same_full (o ∷ os) [] l h = absurd (omega arith)
same_full (o ∷ os) (b ∷ bs) l h =
    let a : is_some o ≡ b = h 0 (omega arith) in
    let t : list_all is_some os ≡ all_true bs = same_full os bs (omega arith) (λ k i. h (suc k) (omega arith)) in
    rw (a, t) refl

-- full slots, each with its own number
pub from_slots : {A : Type 0} (mark : A → ℕ × ℕ) (c : ℕ) (xs : List A) (a : ℕ) → ((k : ℕ) → k < length xs → option_map mark (get_or (map Some xs) k None) ≡ Some (a + k, c))
    → map mark xs ≡ map (with_steps c) (range_with_len a (length xs))
from_slots mark c [] a h = refl
from_slots mark c (x ∷ xs) a h =
    let top : option_map mark (Some x) ≡ Some (a + 0, c) = h 0 (omega arith) in
    let here : mark x ≡ (a + 0, c) = cc in
    let here' : mark x ≡ (a, c) = here ∙ ap (with_steps c) (omega arith) in
    let t : map mark xs ≡ map (with_steps c) (range_with_len (a + 1) (length xs)) =
    from_slots mark c xs (a + 1) (λ k i. h (suc k) (omega arith) ∙ ap (λ j. Some (j, c)) (omega arith)) in
    cc
