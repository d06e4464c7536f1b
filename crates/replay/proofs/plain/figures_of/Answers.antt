use Rattle.std.proofs.Common.{refl, arith}
use Rattle.admission.specs.Standing.{station_of}
use Rattle.replay.proofs.Tallies.{taken_at, tallied}
use Rattle.replay.proofs.plain.figures_of.Goals as goal

pub returns-clause-tiers : goal.returns-clause-tiers
returns-clause-tiers c = λ offers fits.
    let is = c.into_parts-controls.ensures.controls offers fits in
    let four = c.way_told-1.given in
    let zero = taken_at (λ v. v.items) _ _ 0 c.zero-1.given.0 four (omega arith) c.zero-1.given.1 is in
    let one = taken_at (λ v. v.items) _ _ 1 c.one-1.given.0 four (omega arith) c.one-1.given.1 is in
    let two = taken_at (λ v. v.items) _ _ 2 c.two-1.given.0 four (omega arith) c.two-1.given.1 is in
    let three = taken_at (λ v. v.items) _ _ 3 c.three-1.given.0 four (omega arith) c.three-1.given.1 is in
    let counts-0 = c.counted-of_zero.ensures offers fits in
    let counts-1 = c.counted-of_one.ensures offers fits in
    let counts-2 = c.counted-of_two.ensures offers fits in
    let counts-3 = c.counted-of_three.ensures offers fits in
    let first = tallied (station_of c.args.controller) offers 0 _ _ _ _ c.tally.ensures counts-0.0 counts-0.1 zero in
    let second = tallied (station_of c.args.controller) offers 1 _ _ _ _ c.tally-2.ensures counts-1.0 counts-1.1 one in
    let third = tallied (station_of c.args.controller) offers 2 _ _ _ _ c.tally-3.ensures counts-2.0 counts-2.1 two in
    let fourth = tallied (station_of c.args.controller) offers 3 _ _ _ _ c.tally-4.ensures counts-3.0 counts-3.1 three in
    rw (first, second, third, fourth) refl
