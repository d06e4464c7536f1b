use Rattle.admission.proofs.TierLemmas.{all_share}
use Rattle.admission.proofs.PassLemmas.{passed_sound, passed_stands}
use Rattle.admission.proofs.controller.Controller.pass.Goals as goal

pub pass-requires-clause-share : goal.pass-requires-clause-share
pass-requires-clause-share c = all_share _ c.args.tick c.self.invariant (rw (← c.self.view_is) at c.requires.forward.0)

pub invariant_of-self : goal.invariant_of-self
invariant_of-self c =
    passed_sound _ c.pass.new.tiers c.args.tick c.self.invariant (rw (← c.self.view_is) at c.requires.forward.0) c.requires.forward.1
    c.pass.ensures.moves

pub returns-clause-same : goal.returns-clause-same
returns-clause-same c = rw (← c.self.view_is) (passed_stands _ c.pass.new.tiers c.args.tick c.pass.ensures.moves)
