use Rattle.paths.proofs.Locating.{location_more}
use Rattle.paths.proofs.resolution.location_of.Goals as goal

pub loop-segment-preserved : goal.loop-segment-preserved
loop-segment-preserved c = location_more _ _ c.segment-item.result _ _ _ c.loop-segment-test.true c.segment-item.is c.as_slice.ensures c.loop-segment.invariant c.in_ok-append_encoded.ensures
