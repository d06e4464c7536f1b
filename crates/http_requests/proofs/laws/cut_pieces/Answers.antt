use Rattle.std.proofs.Common.{[], take, map}
use Rattle.http_requests.proofs.MessageLemmas.{messages_unique}
use Rattle.http_requests.proofs.PieceLemmas.{piece_step, piece_room, fed_fits, all_taken}
use Rattle.http_requests.specs.Cutting.{joined}
use Rattle.http_requests.proofs.laws.cut_pieces.Goals as goal

pub feed-requires : goal.feed-requires
feed-requires c = piece_room c.args.pieces.now c.loop-piece.piece-index c.loop-piece.cutter.read _ c.loop-piece-test.true c.loop-piece.invariant.read c.requires

pub loop-piece-preserved : goal.loop-piece-preserved
loop-piece-preserved c = rw (piece_step c.args.pieces.now c.loop-piece.piece-index (record { ref_ptr = (0, 0); now = [] }) c.loop-piece-test.true)
    (fed_fits (joined (take c.loop-piece.piece-index (map (λ piece. piece.now) c.args.pieces.now))) _ c.feed.new.self c.loop-piece.out.items c.feed.new.out.items
    (c.in_ok-feed.ensures.ok (joined (take c.loop-piece.piece-index (map (λ piece. piece.now) c.args.pieces.now))) c.loop-piece.out.items c.loop-piece.invariant))

pub returns : goal.returns
returns c =
    let all = rw (all_taken c.args.pieces.now c.loop-piece.piece-index c.loop-piece-test.false) at c.loop-piece.invariant.messages in
    record { messages = all; only = λ ms h. messages_unique 0 _ _ ms all h }
