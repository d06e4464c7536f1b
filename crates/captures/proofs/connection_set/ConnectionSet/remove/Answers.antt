use Rattle.std.proofs.Common.{get_or, refl, rules, ◌/◌}
use Rattle.captures.proofs.Sets.{one_out}
use Rattle.captures.proofs.connection_set.ConnectionSet.remove.Goals as goal

pub returns : goal.returns
returns c = λ other.
    let words = c.args.self.now.words in
    rw (← c.from-conn.ensures) (one_out words c.from-conn.result other (get_or words (c.from-conn.result / 64) 0) (search rules) refl)
