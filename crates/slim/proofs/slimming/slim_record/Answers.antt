use Rattle.std.proofs.Common.{◌≡◌, ◌≤◌, ◌+◌, length, ap, sym, ◌∙◌, arith}
use Rattle.captures.specs.Captures.{size_of, sizes_of}
use Rattle.captures.specs.CaptureFaults.{longest_text}
use Rattle.arrivals.specs.Connections.{IsNumber}
use Rattle.slim.proofs.Standing.{took_by, has_room, number_of, piece_stands, more_end, more_tier}
use Rattle.slim.proofs.slimming.slim_record.Goals as goal
use Rattle.slim.proofs.slimming.slim_record.Goals.{in-Piece+in_ok-read_piece-in-Piece+in_ok-push_pieces-in-Piece, in-End+in_ok-push-in-End, in-Tier+in_ok-push-in-Tier}

pub read_piece-requires-clause-capacity : goal.read_piece-requires-clause-capacity
read_piece-requires-clause-capacity c =
    let given = c.requires.capacity in
    let size : size_of c.args.next.now ≡ length c.as_slice.result.now = ap size_of c.in-Piece.is ∙ ap length (sym c.as_slice.ensures) in
    let low : IsNumber c.in-Piece.conn = number_of _ _ c.in-Piece.is c.requires.number in
    let fits : sizes_of given.0 + length c.as_slice.result.now ≤ longest_text = (let h = given.3 in omega (arith, size, h)) in
    has_room c.args.queries given.0 given.1 c.args.connections.now c.from.result (length c.as_slice.result.now) (rw c.from.ensures low) given.2 fits

pub returns : goal.returns
returns c = λ records arrivals stands. elim c.match-next.branch [
  | in-Piece+in_ok-read_piece-in-Piece+in_ok-push_pieces-in-Piece w ↦
      let low : IsNumber w.in-Piece.conn = number_of _ _ w.in-Piece.is c.requires.number in
      let items = rw (w.deref.ensures.value, c.new-slim.ensures.items) at w.in_ok-push_pieces-in-Piece.ensures in
      rw (w.slim-is, w.connections-is, items)
      (piece_stands c.args.queries w.in-Piece.tick w.in-Piece.conn w.in-Piece.bytes w.read_piece.new.out.items records arrivals c.args.next.now c.args.connections.now w.read_piece.new.self w.in-Piece.is low
      (took_by w.from.result w.in-Piece.conn _ _ w.as_slice.result.now w.in-Piece.bytes _ w.from.ensures w.as_slice.ensures w.in_ok-read_piece-in-Piece.ensures.own w.in_ok-read_piece-in-Piece.ensures.others) stands)
  | in-End+in_ok-push-in-End w ↦
      let low : IsNumber w.in-End.conn = number_of _ _ w.in-End.is c.requires.number in
      let items = rw (c.new-slim.ensures.items, ← w.in-End.is) at w.in_ok-push-in-End.ensures.items in
      rw (w.slim-is, w.connections-is, items)
      (more_end c.args.queries w.in-End.tick w.in-End.conn w.from-in-End.result records arrivals c.args.next.now c.args.connections.now w.«end».new.self w.in-End.is w.from-in-End.ensures low w.«end».ensures.own w.«end».ensures.others stands)
  | in-Tier+in_ok-push-in-Tier w ↦
      let low : IsNumber w.in-Tier.conn = number_of _ _ w.in-Tier.is c.requires.number in
      let items = rw (c.new-slim.ensures.items, ← w.in-Tier.is) at w.in_ok-push-in-Tier.ensures.items in
      rw (w.slim-is, w.connections-is, items)
      (more_tier c.args.queries w.in-Tier.conn w.in-Tier.tier records arrivals c.args.next.now c.args.connections.now w.in-Tier.is low stands)
]
