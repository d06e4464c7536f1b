use Rattle.captures.proofs.Agree.{one_list}
use Rattle.captures.proofs.laws.one_capture.Goals as goal

pub returns : goal.returns
returns c = λ bytes v w s t rs ss a b. one_list bytes v w s t rs ss a b
