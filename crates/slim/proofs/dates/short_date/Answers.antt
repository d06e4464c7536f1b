use Rattle.std.proofs.Common.{arith, ◌≤◌, refl}
use Rattle.slim.proofs.DateLemmas.{short_shown}
use Rattle.slim.proofs.dates.short_date.Goals as goal

pub returns-clause-some : goal.returns-clause-some
returns-clause-some c =
    let below = c.in-Ok.ensures.succeeds.0 refl in
    let most : c.args.second ≤ 253402300799 = omega (arith, below) in
    (short_shown c.in-Ok.date c.args.second c.to_bytes.result most c.in-Ok.ensures.value c.to_bytes.ensures, most)
