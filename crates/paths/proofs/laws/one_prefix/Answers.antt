use Rattle.std.proofs.Common.{◌∙◌, sym}
use Rattle.paths.proofs.OneList.{one_list}
use Rattle.paths.proofs.laws.one_prefix.Goals as goal

pub returns : goal.returns
returns c = λ bytes files others rest other a b. one_list files others rest other a.rules b.rules (sym a.text ∙ b.text)
