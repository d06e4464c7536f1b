use Rattle.std.proofs.Common.{take, map}
use Rattle.http_requests.specs.Cutting.{CutterAfter, joined}
use Rattle.http_requests.proofs.laws.cut_pieces.Given as goal

abbrev pub invariant-loop-piece : goal.invariant-loop-piece
invariant-loop-piece l = CutterAfter (joined (take l.piece-index (map (λ piece. piece.now) l.pieces))) l.out.items l.cutter
