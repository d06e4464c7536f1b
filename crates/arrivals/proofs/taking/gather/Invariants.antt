use Rattle.std.proofs.Common.{◌≡◌, List, ◌++◌}
use Rattle.std.specs.Vec.Iter.{into_iter_items}
use Rattle.captures.specs.declared.record.Record.{Record}
use Rattle.arrivals.specs.Reference.{Arrival}
use Rattle.arrivals.specs.Gathering.{MayGather, Gathers}
use Rattle.arrivals.proofs.taking.gather.Given as goal

-- the first of the records were taken
abbrev pub invariant-loop-cut : goal.invariant-loop-cut
invariant-loop-cut l = (taken : List Record) × (l.fn.cuts.items ≡ taken ++ into_iter_items l.cut-iterator)
    × ((records : List Record) (arrivals : List Arrival) → MayGather records l.fn.cuts.items arrivals l.fn.connections l.fn.tiers → Gathers records taken arrivals l.connections l.tiers l.pieces.items)
