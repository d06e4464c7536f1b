use Rattle.std.proofs.Common.{refl, sym, ◌∙◌}
use Rattle.captures.proofs.Pasts.{same_past, none_used}
use Rattle.captures.proofs.so_far.SoFar.new.Goals as goal

pub returns : goal.returns
returns c = λ v. same_past _ _ refl refl c.new.ensures (λ d. c.new-2.ensures d ∙ sym (none_used d))
