use Rattle.std.proofs.Common.{◌≡◌, ℕ, ◌+◌, ◌-◌, ◌*◌, true, refl, sym, ◌∙◌, ap, arith}
use Rattle.std.specs.Prelude.{min, ◌&&◌}
use Rattle.std.specs.Char.{is_ascii_digit, digit_value}
use Rattle.std.proofs.lemmas.Bool.Decides.{nat_tests}
use Rattle.std.proofs.lemmas.List.Folds.{list_all_more}
use Rattle.std.proofs.lemmas.Int.Digits.{digits_value_more}
use Rattle.http_requests.proofs.heads.number.Goals as goal

both : (p q : _) → p ≡ true → q ≡ true → (p && q) ≡ true
both p q g h = rw (g, h) refl

digit_is : (c : ℕ) → is_ascii_digit c ≡ true → digit_value c ≡ c - 48
digit_is c h = grind (arith, nat_tests, h)

min_step : (n a d e : ℕ) → n ≡ min a 65_537 → d ≡ e → min (n * 10 + d) 65_537 ≡ min (a * 10 + e) 65_537
min_step n a d e h k = grind (arith, h, k)

pub loop-digit-preserved : goal.loop-digit-preserved
loop-digit-preserved c =
    let i = c.loop-digit.invariant in
    let digit = sym c.is_ascii_digit.ensures.value ∙ c.if-not-is_ascii_digit.false in
    record {
      digits = list_all_more is_ascii_digit c.args.value.now c.loop-digit.digit-index 0 c.loop-digit-test.true ∙ both _ _ i.digits digit;
      number_is = c.min-number.ensures ∙ min_step _ _ _ _ i.number_is (sym (digit_is _ digit))
          ∙ ap (λ n. min n 65_537) (sym (digits_value_more 10 c.args.value.now c.loop-digit.digit-index c.loop-digit-test.true));
    }
