use Rattle.std.proofs.Common.{◌≡◌, map, take}
use Rattle.cost_model.proofs.prefix.parts_of.Given as goal

abbrev pub invariant-loop-part : goal.invariant-loop-part
invariant-loop-part l = l.segments.items ≡ map (λ part. part.now) (take l.part-index l.part-items)
