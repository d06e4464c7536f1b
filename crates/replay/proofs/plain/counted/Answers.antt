use Rattle.reference.specs.Reference.{tally_of}
use Rattle.replay.proofs.plain.counted.Goals as goal

pub returns : goal.returns
unfolding tally_of
returns c = λ offers fits. (c.admitted.ensures offers fits, c.rejected.ensures offers fits)
