use Rattle.paths.proofs.PlainPaths.{plain_within}
use Rattle.paths.proofs.resolution.resolve.Goals as goal

pub returns-in-Some-clause-is : goal.returns-in-Some-clause-is
returns-in-Some-clause-is c = plain_within c.args.files.now c.args.method.now c.args.target.now c.in-Some.file c.in-Some.ensures.outcome
