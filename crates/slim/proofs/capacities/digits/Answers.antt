use Rattle.std.proofs.Common.{ℕ, ◌+◌, ◌/◌, ◌%◌, ◌^◌, ◌<◌, ◌≤◌, [], ◌∷◌, length, ap, arith, length-append, decimal}
use Rattle.std.proofs.lemmas.Fmt.{decimal_digit, decimal_step, length-decimal-le}
use Rattle.slim.proofs.capacities.digits.Goals as goal

at_most : (n : ℕ) → n < 2 ^ 64 → length (decimal n) ≤ 20
at_most n h = length-decimal-le 20 n (omega arith) (omega arith) h

pub overflow_add-count : goal.overflow_add-count
overflow_add-count c =
    let most = at_most c.args.number c.ranges.number.fits in
    let small : c.loop-left.count ≤ 21 = omega (arith, c.loop-left.invariant, most) in
    omega (arith, small)

pub loop-left-preserved : goal.loop-left-preserved
loop-left-preserved c =
    let left = c.loop-left.left in
    omega (arith, c.loop-left.invariant, ap length (decimal_step left (omega arith) (omega arith)), length-append (decimal (left / 10)) ((48 + left % 10) ∷ []))

pub returns-clause-value : goal.returns-clause-value
returns-clause-value c = omega (arith, c.loop-left.invariant, ap length (decimal_digit c.loop-left.left (omega arith)))

pub returns-clause-most : goal.returns-clause-most
returns-clause-most c = omega (arith, c.loop-left.invariant, ap length (decimal_digit c.loop-left.left (omega arith)), at_most c.args.number c.ranges.number.fits)
