use Rattle.std.proofs.Common.{arith}
use Rattle.admission.proofs.WindowLemmas.{percentile-none, percentile-from_top, top-within}
use Rattle.admission.proofs.window.SampleWindow.percentile.Goals as goal

pub returns-then-len-eq0 : goal.returns-then-len-eq0
returns-then-len-eq0 c = rw (← c.self.view_is) (percentile-none c.self.inside.ring.items (omega arith))

pub sample_below-requires : goal.sample_below-requires
sample_below-requires c =
    rw (c.len-len.ensures.len, c.iter.ensures.rest)
    (top-within c.self.inside.counts.entries c.self.inside.ring.items c.self.invariant.agrees (omega arith))

pub returns : goal.returns
returns c =
    rw (c.sample_below.ensures, c.len-len.ensures.len, c.iter.ensures.rest, ← c.self.view_is)
    (percentile-from_top c.self.inside.counts.entries c.self.inside.ring.items c.self.invariant.agrees (omega arith))
