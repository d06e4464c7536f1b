use Rattle.std.proofs.Common.{rules, ◌+◌}
use Rattle.settings.proofs.Named.{from_place}
use Rattle.settings.proofs.pools.each_used.Goals as goal

pub returns-then-not-is_used : goal.returns-then-not-is_used
returns-then-not-is_used c =
    let here = from_place (c.loop-index.index + 1) c.loop-index.index c.args.pools.now c.args.routes.now c.loop-index-test.true in
    search (rules, here)

pub loop-index-preserved : goal.loop-index-preserved
loop-index-preserved c =
    let here = from_place (c.loop-index.index + 1) c.loop-index.index c.args.pools.now c.args.routes.now c.loop-index-test.true in
    search (rules, here)
