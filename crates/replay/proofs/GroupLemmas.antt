-- Groups of pending replies, one reply more at a time.
use Rattle.std.proofs.Common.{◌≡◌, ℕ, ◌+◌, ◌-◌, ◌<◌, ◌≤◌, List, [], ◌∷◌, ◌++◌, length, refl, sym, ap, ◌∙◌, arith, inl, inr, zero, suc, Bool, true, false, if◌then◌else◌}
use Rattle.std.specs.Prelude.{sum_by, filter, nat_lt}
use Rattle.std.proofs.lemmas.List.Elements.{filter-append}
use Rattle.std.proofs.lemmas.List.{append-nil}
use Rattle.std.proofs.lemmas.List.Sums.{sum_by-append}
use Rattle.std.proofs.lemmas.Bool.{ltb-true, ltb-false}
use Rattle.replay.specs.Groups.{Fits, AreGroups, Lays, first_len}

first_more : {A : Type 0} (len : A → ℕ) (group : List A) (x : A) → first_len len group ≤ first_len len (group ++ x ∷ [])
first_more len [] x = omega arith
first_more len (y ∷ group) x = omega arith

-- one more in the last group
pub more_in_group : {A : Type 0} (len : A → ℕ) (capacity : ℕ) (groups : List (List A)) (group : List A) (x : A)
    → AreGroups len capacity (groups ++ group ∷ []) → Fits len capacity (group ++ x ∷ [])
    → AreGroups len capacity (groups ++ (group ++ x ∷ []) ∷ [])
more_in_group len capacity [] group x are has = has
more_in_group len capacity (g ∷ []) group x are has = (are.0, (let l = first_more len group x in omega (arith, l, are.1)), has)
more_in_group len capacity (g ∷ h ∷ groups) group x are has = (are.0, are.1, more_in_group len capacity (h ∷ groups) group x are.2 has)

-- one more that begins a group, since it doesn't fit in the last one
pub begins_group : {A : Type 0} (len : A → ℕ) (capacity : ℕ) (groups : List (List A)) (group : List A) (x : A)
    → AreGroups len capacity (groups ++ group ∷ []) → capacity < sum_by len group + len x → Fits len capacity (x ∷ [])
    → AreGroups len capacity ((groups ++ group ∷ []) ++ (x ∷ []) ∷ [])
begins_group len capacity [] group x are over has = (are, over, has)
begins_group len capacity (g ∷ []) group x are over has = (are.0, are.1, (are.2, over, has))
begins_group len capacity (g ∷ h ∷ groups) group x are over has = (are.0, are.1, begins_group len capacity (h ∷ groups) group x are.2 over has)

last_fits : {A : Type 0} (len : A → ℕ) (capacity : ℕ) (groups : List (List A)) (group : List A)
    → AreGroups len capacity (groups ++ group ∷ []) → Fits len capacity group
last_fits len capacity [] group are = are
last_fits len capacity (g ∷ []) group are = are.2
last_fits len capacity (g ∷ h ∷ groups) group are = last_fits len capacity (h ∷ groups) group are.2

filter_more : {A : Type 0} (p : A → Bool) (group : List A) (x : A) → p x ≡ false → filter p (group ++ x ∷ []) ≡ filter p group
filter_more p group x fails = filter-append p group (x ∷ []) ∙ (let none : filter p (x ∷ []) ≡ [] = rw fails refl in rw none (append-nil (filter p group)))

sum_more : {A : Type 0} (len : A → ℕ) (group : List A) (x : A) → sum_by len (group ++ x ∷ []) ≡ sum_by len group + len x
sum_more len group x = let e = sum_by-append len group (x ∷ []) in e ∙ (let n : sum_by len (x ∷ []) ≡ len x = omega arith in ap (λ m. sum_by len group + m) n)

fits : {A : Type 0} (len : A → ℕ) (capacity : ℕ) (group : List A) (x : A) (n held less : ℕ) → len x ≡ n
    → nat_lt less n ≡ false → less ≡ capacity - held → held ≡ sum_by len group → Fits len capacity group
    → Fits len capacity (group ++ x ∷ [])
fits len capacity group x zero held less is small less-is has (inl h) = inl (let e = sum_more len group x in omega (arith, e, is, h))
fits len capacity group x zero held less is small less-is has (inr h) = inr (let none : nat_lt 0 (len x) ≡ false = rw is refl in rw (filter_more (λ y. nat_lt 0 (len y)) group x none) h)
fits len capacity group x (suc n) held less is small less-is has h = inl (let e = sum_more len group x in let l = ltb-false less (suc n) small in omega (arith, e, is, l, less-is, has))

capacity_more : {A : Type 0} (len : A → ℕ) (capacity : ℕ) (group : List A) (x : A) (held less : ℕ)
    → false ≡ nat_lt less (len x) → less ≡ capacity - held → held ≡ sum_by len group → Fits len capacity group
    → Fits len capacity (group ++ x ∷ [])
capacity_more len capacity group x held less is less-is has h = fits len capacity group x (len x) held less refl (sym is) less-is has h

one_at_most : {A : Type 0} (x : A) (b : Bool) → length (if b then x ∷ [] else []) ≤ 1
one_at_most x true = omega arith
one_at_most x false = omega arith

alone : {A : Type 0} (len : A → ℕ) (capacity : ℕ) (x : A) → Fits len capacity (x ∷ [])
alone len capacity x = inr (one_at_most x (nat_lt 0 (len x)))

-- one reply more, in the last group or after it
pub group_step : {A : Type 0} (len : A → ℕ) (capacity : ℕ) (full : Bool) (groups laid : List (List A)) (group left : List A)
    (x : A) (held before less : ℕ) → full ≡ nat_lt less (len x) → less ≡ capacity - held
    → Lays full groups group held laid left before → AreGroups len capacity (groups ++ group ∷ []) → held ≡ sum_by len group
    → AreGroups len capacity (laid ++ (left ++ x ∷ []) ∷ []) × (before + len x ≡ sum_by len (left ++ x ∷ []))
group_step len capacity true groups laid group left x held before less is less-is lays are has =
    let over : capacity < sum_by len group + len x = let l = ltb-true less (len x) (sym is) in omega (arith, l, less-is, has) in
    rw (lays.0, lays.1, lays.2) (begins_group len capacity groups group x are over (alone len capacity x), omega arith)
group_step len capacity false groups laid group left x held before less is less-is lays are has =
    rw (lays.0, lays.1, lays.2) (
      more_in_group len capacity groups group x are (capacity_more len capacity group x held less is less-is has (last_fits len capacity groups group are)),
      rw has (sym (sum_more len group x)),
    )
