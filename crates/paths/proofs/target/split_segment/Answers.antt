use Rattle.std.proofs.Common.{◌==◌}
use Rattle.paths.specs.Reference.{slash}
use Rattle.paths.proofs.Segmenting.{split_some, split_none}
use Rattle.paths.proofs.target.split_segment.Goals as goal

pub returns-in-Some : goal.returns-in-Some
returns-in-Some c = split_some (λ b. b == slash) c.args.text.now c.in-Some.at c.in-Some.ensures

pub returns-in-None : goal.returns-in-None
returns-in-None c = split_none (λ b. b == slash) c.args.text.now c.in-None.ensures
