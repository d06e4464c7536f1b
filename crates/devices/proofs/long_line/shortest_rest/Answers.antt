use Rattle.devices.proofs.Pieces.{owes_rest}
use Rattle.std.proofs.Common.{sym, ◌∙◌}
use Rattle.devices.proofs.long_line.shortest_rest.Goals as goal

pub returns-then-starts_with-clause-shortest_rest : goal.returns-then-starts_with-clause-shortest_rest
returns-then-starts_with-clause-shortest_rest c = owes_rest _ _ _ _ c.if-prefix-least.true (sym c.starts_with.ensures.value ∙ c.if-starts_with.true)
