use Rattle.admission.proofs.SoundLemmas.{sound_rejected}
use Rattle.admission.proofs.tier.Tier.reject.Goals as goal

pub invariant_of-self : goal.invariant_of-self
invariant_of-self c =
    sound_rejected _ c.args.bucket c.args.tick c.self.invariant (rw (← c.self.view_is) at c.requires.later) c.requires.clock
    (rw (← c.self.view_is) at c.requires.forward)
