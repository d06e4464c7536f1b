use Rattle.std.proofs.Common.{rules, append_assoc}
use Rattle.arrivals.proofs.Parted.{sized_more}
use Rattle.arrivals.proofs.parts.parts_of.Goals as goal

pub loop-piece-preserved : goal.loop-piece-preserved
loop-piece-preserved c =
    let inv = c.loop-piece.invariant in
    let steps = c.in-Some.ensures.steps.0 in (
      search (rules, append_assoc, inv.0, steps, c.in_ok-part-2.ensures.joined, c.in_ok-longer.ensures),
      sized_more c.args.pieces.items _ c.in-Some.piece c.loop-piece.parts.items _ c.loop-piece.part.items c.in_ok-longer.longer.items _ (rw steps at inv.1) c.in_ok-longer.ensures c.in_ok-part-2.ensures.lays,
    )
