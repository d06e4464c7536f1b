use Rattle.std.proofs.Common.{◌<◌, arith}
use Rattle.admission.specs.Tally.{count_in}
use Rattle.admission.proofs.TallyLemmas.{expanded-lower, expanded-remove, counted-lower, counted-remove}
use Rattle.admission.proofs.window.uncount.Goals as goal

pub returns-then-not-lower-clause-removed : goal.returns-then-not-lower-clause-removed
returns-then-not-lower-clause-removed c =
    rw (c.remove.ensures.entries, c.lower.ensures.same c.if-not-lower.true)
    (expanded-remove c.args.sample c.args.counts.now.entries c.requires (c.lower.ensures.few c.if-not-lower.true))

pub returns-then-not-lower-clause-positive : goal.returns-then-not-lower-clause-positive
returns-then-not-lower-clause-positive c =
    rw (c.remove.ensures.entries, c.lower.ensures.same c.if-not-lower.true)
    (counted-remove c.args.sample c.args.counts.now.entries c.requires)

pub returns-else-not-lower-clause-removed : goal.returns-else-not-lower-clause-removed
returns-else-not-lower-clause-removed c =
    let several : 1 < count_in c.args.counts.now.entries c.args.sample = c.lower.ensures.several c.if-not-lower.false in
    rw (c.lower.ensures.lower c.if-not-lower.false)
    (expanded-lower c.args.sample _ c.args.counts.now.entries (omega arith) (omega arith))

pub returns-else-not-lower-clause-positive : goal.returns-else-not-lower-clause-positive
returns-else-not-lower-clause-positive c =
    let several : 1 < count_in c.args.counts.now.entries c.args.sample = c.lower.ensures.several c.if-not-lower.false in
    rw (c.lower.ensures.lower c.if-not-lower.false)
    (counted-lower c.args.sample _ c.args.counts.now.entries c.requires (omega arith))
