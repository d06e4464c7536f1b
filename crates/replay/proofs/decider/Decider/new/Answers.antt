use Rattle.replay.proofs.Judging.{stands_none}
use Rattle.replay.proofs.decider.Decider.new.Goals as goal

pub returns-clause-none : goal.returns-clause-none
returns-clause-none c = λ files.
    stands_none files c.args.settings.now.served _ c.requires.0 c.requires.1 c.in_ok-controller_of.ensures.station c.in_ok-controller_of.ensures.fits c.in_ok-controller_of.ensures.clock c.new.ensures
