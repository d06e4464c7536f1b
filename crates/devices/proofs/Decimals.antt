-- Reading a decimal digit by digit, in 64 bits.
use Rattle.std.proofs.Common.{◌≡◌, ℕ, ◌+◌, ◌-◌, ◌*◌, ◌^◌, ◌<◌, ◌≤◌, ◌==◌, ◌&&◌, not, cond, min, Bool, true, false, List, [], ◌∷◌, length, drop, get_or, Some, None, ◌⊎◌, inl, inr, refl, sym, ap, ◌∙◌, arith}
use Rattle.std.proofs.lemmas.Bool.{ne_eqb}
use Rattle.std.proofs.lemmas.Bool.Decides.{nat_tests}
use Rattle.std.proofs.lemmas.List.{drop_all}
use Rattle.std.proofs.lemmas.Grind.{common_steps}
use Rattle.std.specs.Char.{is_ascii_digit, digit_value}
use Rattle.std.specs.Str.{all_ascii_digits}
use Rattle.std.specs.Str.Parse.{digits_value_after}
use Rattle.devices.specs.Numbers.{number_of}

-- the number of the digits that follow those of n, kept within 64 bits at each step
abbrev pub capped : ℕ → List ℕ → ℕ
capped n [] = n
capped n (d ∷ ds) = capped (min (min (n * 10) (2 ^ 64 - 1) + (d - 48)) (2 ^ 64 - 1)) ds

digit_is : (d : ℕ) → is_ascii_digit d ≡ true → digit_value d ≡ d - 48
digit_is d h = grind (arith, nat_tests)

capped_step : (n d : ℕ) → min (min (min n (2 ^ 64 - 1) * 10) (2 ^ 64 - 1) + d) (2 ^ 64 - 1) ≡ min (n * 10 + d) (2 ^ 64 - 1)
capped_step n d = omega arith

capped_is : (n : ℕ) (ds : List ℕ) → all_ascii_digits ds ≡ true → capped (min n (2 ^ 64 - 1)) ds ≡ min (digits_value_after 10 n ds) (2 ^ 64 - 1)
capped_is n [] h = refl
capped_is n (d ∷ ds) h =
    let first : is_ascii_digit d ≡ true = grind (arith, common_steps) in
    let others : all_ascii_digits ds ≡ true = grind (arith, common_steps) in
    ap (λ v. capped v ds) (capped_step n (d - 48) ∙ ap (λ v. min (n * 10 + v) (2 ^ 64 - 1)) (sym (digit_is d first))) ∙ capped_is (n * 10 + digit_value d) ds others

pub number_some : (field : List ℕ) → 0 < length field → (get_or field 0 0 ≡ 48 → length field ≤ 1) → all_ascii_digits field ≡ true → number_of field ≡ Some (capped 0 field)
number_some [] some zero h = absurd (omega arith)
number_some (d ∷ []) some zero h = rw h (ap (λ v. Some v) (sym (capped_is 0 (d ∷ []) h)))
number_some (d ∷ e ∷ ds) some zero h =
    let other : (d == 48) ≡ false = ne_eqb d 48 (λ same. omega (arith, zero same)) in
    rw (other, h) (ap (λ v. Some v) (sym (capped_is 0 (d ∷ e ∷ ds) h)))

none_anyway : (b : Bool) (n : ℕ) → cond (b && false) (Some n) None ≡ None
none_anyway true n = refl
none_anyway false n = refl

pub number_none : (field : List ℕ) → all_ascii_digits field ≡ false → number_of field ≡ None
number_none [] h = refl
number_none (d ∷ []) h = rw h refl
number_none (d ∷ e ∷ ds) h = rw h (none_anyway (not (d == 48)) _)

pub number_leading : (field : List ℕ) → get_or field 0 0 ≡ 48 → 1 < length field → number_of field ≡ None
number_leading [] z h = refl
number_leading (d ∷ []) z h = absurd (omega arith)
number_leading (d ∷ e ∷ ds) z h = rw z refl

-- at the end of the digits
pub number_read : (field : List ℕ) (value i : ℕ) → (false ≡ (length field == 0)) → ((get_or field 0 0 ≡ 48) × (length field ≤ 1)) ⊎ (get_or field 0 0 ≡ 48 → ⊥) → length field ≤ i
    → all_ascii_digits (drop i field) ≡ all_ascii_digits field → capped value (drop i field) ≡ capped 0 field → Some value ≡ number_of field
number_read field value i some leading done digits same =
    let none : drop i field ≡ [] = drop_all i field done in
    let all : all_ascii_digits field ≡ true = sym digits ∙ ap all_ascii_digits none in
    let is : value ≡ capped 0 field = sym (ap (capped value) none) ∙ same in
    let more : 0 < length field = grind (arith, nat_tests) in
    ap (λ v. Some v) is ∙ sym (number_some field more (λ z. elim leading [ inl l ↦ l.1 | inr n ↦ absurd (n z) ]) all)
