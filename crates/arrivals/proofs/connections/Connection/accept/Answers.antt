use Rattle.std.proofs.Common.{rules, refl, arith}
use Rattle.arrivals.specs.Gathering.{StandsBetween}
use Rattle.arrivals.proofs.CutBatches.{reads_last}
use Rattle.arrivals.proofs.connections.Connection.accept.Goals as goal

pub returns-in-Between : goal.returns-in-Between
returns-in-Between c = record {
  gives = λ yes ms alone. c.pass.ensures c.args.piece.now ms refl (rw c.in-Between.is at alone);
  left = λ no. absurd (let z : ⊥ = grind (arith, no) in z);
}

pub returns-in-Closed : goal.returns-in-Closed
returns-in-Closed c =
    let between : StandsBetween c.args.self.now = search rules in
    record {
      gives = λ yes ms alone. reads_last c.args.self.now c.args.piece.now ms between (rw c.in-Closed.is at alone);
      left = λ no. absurd (let z : ⊥ = grind (arith, no) in z);
    }
