use Rattle.std.proofs.Common.{◌≡◌, ap, sym, ◌∙◌, length, arith}
use Rattle.captures.specs.declared.record.Record.TheVariants.{Piece}
use Rattle.captures.specs.Captures.{size_of}
use Rattle.inspection.proofs.Holding.{has_room, tail_room, open_room, open_some, holds_end, holds_tier, holds_piece, took_by, on_ok, piece_number, end_number, tier_number}
use Rattle.inspection.proofs.Sharing.{room_of_one}
use Rattle.inspection.proofs.inspecting.take_record.Goals as goal

pub take_end-requires-clause-shares : goal.take_end-requires-clause-shares
take_end-requires-clause-shares c =
    let given = c.requires.capacity in
    let capacity = given.3 in
    room_of_one given.0 given.1 c.args.found.now c.in-End.conn (end_number _ _ _ c.in-End.is c.requires.number) given.2.found (omega (arith, capacity)) (omega (arith, capacity))

pub take_end-requires-clause-opened : goal.take_end-requires-clause-opened
take_end-requires-clause-opened c = λ some.
    let given = c.requires.capacity in
    open_some c.in-End.tick given.0 given.1 c.args.found.now c.in-End.conn (end_number _ _ _ c.in-End.is c.requires.number) given.2.found some

pub returns-in-End : goal.returns-in-End
returns-in-End c = λ records arrivals holds later.
    holds_end c.in-End.tick c.in-End.conn c.from.result records arrivals c.args.next.now c.args.connections.now c.«end».new.self c.args.found.now c.take_end.new.self c.in-End.is c.from.ensures
    (end_number _ _ _ c.in-End.is c.requires.number) c.«end».ensures.own c.«end».ensures.others c.take_end.ensures holds later

pub returns-in-Tier : goal.returns-in-Tier
returns-in-Tier c = λ records arrivals holds later.
    holds_tier c.in-Tier.conn c.in-Tier.tier records arrivals c.args.next.now c.args.connections.now c.args.found.now c.take_tier.new.self c.in-Tier.is (tier_number _ _ _ c.in-Tier.is c.requires.number) c.take_tier.ensures holds

pub read_piece-requires-clause-capacity : goal.read_piece-requires-clause-capacity
read_piece-requires-clause-capacity c =
    let given = c.requires.capacity in
    let size : size_of c.args.next.now ≡ length c.as_slice-bytes.result.now = ap size_of c.in-Piece.is ∙ ap length (sym c.as_slice-bytes.ensures) in
    let capacity = given.3 in
    has_room given.0 given.1 c.args.connections.now c.args.found.now c.from-in-Piece.result (length c.as_slice-bytes.result.now)
    (rw c.from-in-Piece.ensures (piece_number _ _ _ _ c.in-Piece.is c.requires.number)) given.2 (omega (arith, size, capacity))

pub take_piece-requires-clause-capacity : goal.take_piece-requires-clause-capacity
take_piece-requires-clause-capacity c =
    let given = c.requires.capacity in
    let size : size_of c.args.next.now ≡ length c.as_slice-bytes.result.now = ap size_of c.in-Piece.is ∙ ap length (sym c.as_slice-bytes.ensures) in
    let capacity = given.3 in
    tail_room given.0 given.1 c.args.found.now c.in-Piece.conn (length c.as_slice-bytes.result.now) (piece_number _ _ _ _ c.in-Piece.is c.requires.number) given.2.found (omega (arith, size, capacity))

pub take_piece-requires-clause-opened : goal.take_piece-requires-clause-opened
take_piece-requires-clause-opened c = let given = c.requires.capacity in open_room given.0 given.1 c.args.found.now given.2.found

pub returns-in_ok-read_piece-in-Piece : goal.returns-in_ok-read_piece-in-Piece
returns-in_ok-read_piece-in-Piece c = on_ok c.take_piece.result c.take_piece.ensures
    (λ took records arrivals holds later.
    holds_piece c.in-Piece.tick c.in-Piece.conn c.as_slice-bytes.result.now c.deref.result.now records arrivals c.args.next.now c.args.connections.now c.read_piece.new.self c.args.found.now c.take_piece.new.self
    (c.in-Piece.is ∙ ap (Piece c.in-Piece.tick c.in-Piece.conn) (sym c.as_slice-bytes.ensures)) (piece_number _ _ _ _ c.in-Piece.is c.requires.number)
    (took_by c.in-Piece.conn c.from-in-Piece.result _ _ _ c.deref.result.now c.read_piece.new.out.items c.from-in-Piece.ensures c.deref.ensures.value
    (record { own = c.in_ok-read_piece-in-Piece.ensures.own; others = c.in_ok-read_piece-in-Piece.ensures.others }))
    took holds later)
