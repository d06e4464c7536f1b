use Rattle.std.proofs.Common.{refl, subst}
use Rattle.arrivals.specs.Connections.{connection_at}
use Rattle.arrivals.specs.Batches.{Reads}
use Rattle.arrivals.specs.Gathering.{read_of}
use Rattle.arrivals.specs.declared.connections.Connection.{Connection}
use Rattle.arrivals.proofs.Gathers.{brings_cut}
use Rattle.arrivals.proofs.taking.take_piece.Goals as goal

pub read_piece-requires-clause-capacity : goal.read_piece-requires-clause-capacity
read_piece-requires-clause-capacity c = rw (c.in_ok-accept.ensures.own.left c.if-branch.false) c.requires.capacity

pub returns-then-branch-clause-own : goal.returns-then-branch-clause-own
returns-then-branch-clause-own c =
    let before = connection_at c.args.connections.now c.args.conn in
    brings_cut (read_of before) before _ c.args.piece.now c.args.messages.items (c.in_ok-accept.ensures.own.gives c.if-branch.true c.args.messages.items c.requires.ahead)

pub returns-clause-own : goal.returns-clause-own
returns-clause-own c =
    let left = c.in_ok-accept.ensures.own.left c.if-branch.false in
    (c.read_piece.new.out.items, refl, subst (λ (k : Connection). Reads k c.args.piece.now c.read_piece.new.out.items (connection_at c.read_piece.new.self c.args.conn)) left c.in_ok-read_piece.ensures.own)
