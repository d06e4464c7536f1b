use Rattle.std.proofs.Common.{refl}
use Rattle.replay.specs.Backs.{slip_of_pending}
use Rattle.replay.proofs.RowByRow.{row_is}
use Rattle.replay.proofs.rows.row_of.Goals as goal

pub returns : goal.returns
returns g c files terms start arrivals a from timed pooled costs finds slips =
    row_is _ files terms start arrivals a c.args.origin c.args.tick c.args.charge c.args.found (slip_of_pending c.args.pending.now) c.args.pools _ from timed pooled costs finds slips (rw (c.status_of.ensures, c.offered_of.ensures, c.turns_away-away.ensures) refl)
