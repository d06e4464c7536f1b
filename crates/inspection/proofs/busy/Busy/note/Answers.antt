use Rattle.std.proofs.Common.{◌+◌, ap}
use Rattle.inspection.proofs.Seconds.{busy_more}
use Rattle.inspection.proofs.busy.Busy.note.Goals as goal

pub returns-clause-busy : goal.returns-clause-busy
returns-clause-busy c = λ seconds busy le.
    busy_more seconds c.args.self.now _ c.args.number c.args.count busy le
    (ap (λ m. record { number = c.args.number; messages = m + c.args.count }) c.messages_in.ensures) c.busier-self.ensures
