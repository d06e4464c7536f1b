-- Sets of connections, one bit each.
use Rattle.std.proofs.Common.{◌≡◌, ℕ, ◌*◌, ◌/◌, ◌%◌, ◌^◌, ◌<◌, ◌==◌, ◌||◌, ◌&&◌, ◌⊎◌, Bool, true, false, List, length, replicate, get_or, set, refl, sym, ◌∙◌, ap, inl, inr, arith, get_or-set_same, get_or-set_other, eq-eqb, ne_eqb, w64}
use Rattle.std.proofs.lemmas.List.{length-replicate, get_or-replicate, get_or_past}
use Rattle.std.proofs.lemmas.Bool.{cases_eq, cases_lt}
use Rattle.std.proofs.lemmas.Nat.Bits.{bit_at_set_same, bit_at_set_other, bit_at_clear_same, bit_at_clear_other, bit_at-zero}
use Rattle.std.specs.Prelude.{bit_or, bit_and, not}
use Rattle.std.specs.Int.{bit_at, bit_not}

abbrev pub bit_in : List ℕ → ℕ → Bool
bit_in words c = bit_at (get_or words (c / 64) 0) (c % 64) == 1

pub none_in : (n c : ℕ) → bit_in (replicate n 0) c ≡ false
none_in n c = ap (λ w. bit_at w (c % 64) == 1) none ∙ ap (λ b. b == 1) (bit_at-zero (c % 64))
  where
    none : get_or {A = ℕ} (replicate n 0) (c / 64) 0 ≡ 0
    none = elim (cases_lt (c / 64) n) [
      | inl lt ↦ get_or-replicate n (c / 64) 0 0 lt
      | inr ge ↦ get_or_past (replicate n 0) (c / 64) 0 (omega (arith, length-replicate {A = ℕ} n 0))
    ]

or_false : (b : Bool) → (b || false) ≡ b
or_false true = refl
or_false false = refl

or_true : (b : Bool) → (b || true) ≡ true
or_true true = refl
or_true false = refl

-- one more in the set
pub one_in : (words : List ℕ) (conn c word : ℕ) → conn / 64 < length words → word ≡ get_or words (conn / 64) 0
    → bit_in (set words (conn / 64) (bit_or word (1 * 2 ^ (conn % 64) % 2 ^ 64))) c ≡ (bit_in words c || conn == c)
one_in words conn c word within read =
    let v : ℕ = bit_or word (1 * 2 ^ (conn % 64) % 2 ^ 64) in
    let low : conn % 64 < 64 = omega arith in
    elim (cases_eq conn c) as (λ _. bit_in (set words (conn / 64) v) c ≡ (bit_in words c || conn == c)) [
      | inl same ↦
          rw (← same)
          (ap (λ x. bit_at x (conn % 64) == 1) (get_or-set_same words (conn / 64) v 0 within)
          ∙ ap (λ x. x == 1) (bit_at_set_same w64 word (conn % 64) low)
          ∙ sym (ap (λ b. bit_in words conn || b) (eq-eqb conn conn refl) ∙ or_true (bit_in words conn)))
      | inr other ↦
          old c other (cases_eq (c / 64) (conn / 64))
          ∙ sym (ap (λ b. bit_in words c || b) (ne_eqb conn c other) ∙ or_false (bit_in words c))
    ]
  where
    old : (c : ℕ) → (conn ≡ c → ⊥) → (c / 64 ≡ conn / 64) ⊎ (c / 64 ≡ conn / 64 → ⊥) → bit_in (set words (conn / 64) (bit_or word (1 * 2 ^ (conn % 64) % 2 ^ 64))) c ≡ bit_in words c
    old c other (inl place) =
        let v : ℕ = bit_or word (1 * 2 ^ (conn % 64) % 2 ^ 64) in
        let low : conn % 64 < 64 = omega arith in
        ap (λ k. bit_at (get_or (set words (conn / 64) v) k 0) (c % 64) == 1) place
        ∙ ap (λ x. bit_at x (c % 64) == 1) (get_or-set_same words (conn / 64) v 0 within)
        ∙ ap (λ x. x == 1) (bit_at_set_other w64 word (conn % 64) low (c % 64) (λ e. other (omega arith)))
        ∙ ap (λ x. bit_at x (c % 64) == 1) (read ∙ ap (λ k. get_or words k 0) (sym place))
    old c other (inr apart) =
        ap (λ x. bit_at x (c % 64) == 1) (get_or-set_other words (conn / 64) (c / 64) (bit_or word (1 * 2 ^ (conn % 64) % 2 ^ 64)) 0 apart)

and_true : (b : Bool) → (b && true) ≡ b
and_true true = refl
and_true false = refl

and_false : (b : Bool) → (b && false) ≡ false
and_false true = refl
and_false false = refl

-- one less in the set
pub one_out : (words : List ℕ) (conn c word : ℕ) → conn / 64 < length words → word ≡ get_or words (conn / 64) 0
    → bit_in (set words (conn / 64) (bit_and word (bit_not w64 (1 * 2 ^ (conn % 64) % 2 ^ 64)))) c ≡ (bit_in words c && not (conn == c))
one_out words conn c word within read =
    let v : ℕ = bit_and word (bit_not w64 (1 * 2 ^ (conn % 64) % 2 ^ 64)) in
    let low : conn % 64 < 64 = omega arith in
    elim (cases_eq conn c) as (λ _. bit_in (set words (conn / 64) v) c ≡ (bit_in words c && not (conn == c))) [
      | inl same ↦
          rw (← same)
          (ap (λ x. bit_at x (conn % 64) == 1) (get_or-set_same words (conn / 64) v 0 within)
          ∙ ap (λ x. x == 1) (bit_at_clear_same w64 word (conn % 64) low)
          ∙ sym (ap (λ b. bit_in words conn && not b) (eq-eqb conn conn refl) ∙ and_false (bit_in words conn)))
      | inr other ↦
          old c other (cases_eq (c / 64) (conn / 64))
          ∙ sym (ap (λ b. bit_in words c && not b) (ne_eqb conn c other) ∙ and_true (bit_in words c))
    ]
  where
    old : (c : ℕ) → (conn ≡ c → ⊥) → (c / 64 ≡ conn / 64) ⊎ (c / 64 ≡ conn / 64 → ⊥) → bit_in (set words (conn / 64) (bit_and word (bit_not w64 (1 * 2 ^ (conn % 64) % 2 ^ 64)))) c ≡ bit_in words c
    old c other (inl place) =
        let v : ℕ = bit_and word (bit_not w64 (1 * 2 ^ (conn % 64) % 2 ^ 64)) in
        let low : conn % 64 < 64 = omega arith in
        let few : c % 64 < 64 = omega arith in
        ap (λ k. bit_at (get_or (set words (conn / 64) v) k 0) (c % 64) == 1) place
        ∙ ap (λ x. bit_at x (c % 64) == 1) (get_or-set_same words (conn / 64) v 0 within)
        ∙ ap (λ x. x == 1) (bit_at_clear_other w64 word (conn % 64) low (c % 64) few (λ e. other (omega arith)))
        ∙ ap (λ x. bit_at x (c % 64) == 1) (read ∙ ap (λ k. get_or words k 0) (sym place))
    old c other (inr apart) =
        ap (λ x. bit_at x (c % 64) == 1) (get_or-set_other words (conn / 64) (c / 64) (bit_and word (bit_not w64 (1 * 2 ^ (conn % 64) % 2 ^ 64))) 0 apart)
