use Rattle.std.proofs.Common.{sym, ◌∙◌}
use Rattle.arrivals.proofs.Reading.{read_last}
use Rattle.arrivals.proofs.connections.Connection.read.Goals as goal

pub returns-then-some_closes-clause-ok : goal.returns-then-some_closes-clause-ok
returns-then-some_closes-clause-ok c = λ text ms h. read_last _ text _ ms _ _ c.requires.empty (rw (← c.deref.ensures.value) (sym c.some_closes.ensures ∙ c.if-some_closes.true)) (c.in-Ok.ensures.ok text ms (let r = c.begin.ensures.reads text ms h in rw c.in-Open.is at r))
