use Rattle.paths.proofs.Locating.{joined_more}
use Rattle.paths.proofs.resolution.join.Goals as goal

pub loop-at-preserved : goal.loop-at-preserved
loop-at-preserved c = joined_more _ _ c.index-segments-at.result _ _ _ c.loop-at-test.true c.index-segments-at.is c.as_slice.ensures c.loop-at.invariant c.in_ok-append_segment.ensures
