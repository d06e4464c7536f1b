use Rattle.std.proofs.Common.{◌≡◌, ◌-◌, ◌<◌, length, slice_get}
use Rattle.admission.specs.Tally.{expanded}
use Rattle.admission.proofs.window.sample_below.Given as goal

abbrev pub invariant-loop-sample : goal.invariant-loop-sample
invariant-loop-sample l = record {
  here : l.above < length (expanded l.entries);
  same : slice_get (expanded l.fn.entries) (length (expanded l.fn.entries) - 1 - l.fn.above)
      ≡ slice_get (expanded l.entries) (length (expanded l.entries) - 1 - l.above);
}

abbrev pub decreases-loop-sample : goal.decreases-loop-sample
decreases-loop-sample l = length l.entries
