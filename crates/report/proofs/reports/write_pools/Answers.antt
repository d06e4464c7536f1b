use Rattle.std.proofs.Common.{rules, arith, ◌+◌}
use Rattle.report.specs.Reports.{pool_line}
use Rattle.report.proofs.Lines.{numbered-none, numbered-more}
use Rattle.report.proofs.reports.write_pools.Goals as goal

pub loop-pool-init : goal.loop-pool-init
loop-pool-init c = numbered-none pool_line 0 _

pub loop-pool-preserved : goal.loop-pool-preserved
loop-pool-preserved c =
    numbered-more pool_line 0 c.loop-pool.pool _ _ _ _ c.loop-pool.pool (record { admitted = 0; busy = 0; longest_queue = 0 })
    (search rules) (omega arith) c.loop-pool.invariant c.in_ok-write_pool.ensures
