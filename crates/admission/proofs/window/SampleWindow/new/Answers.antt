use Rattle.admission.proofs.WindowLemmas.{tally_none}
use Rattle.admission.proofs.window.SampleWindow.new.Goals as goal

pub invariant_of-result : goal.invariant_of-result
invariant_of-result c =
    rw (c.new.ensures.empty, c.in_ok-with_capacity.ensures) (tally_none c.args.size c.requires.0 c.requires.1)
