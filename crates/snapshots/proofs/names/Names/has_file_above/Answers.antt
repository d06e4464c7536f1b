use Rattle.std.proofs.Common.{take, sym, ap, ◌∙◌}
use Rattle.paths.specs.Reference.{lies_in}
use Rattle.snapshots.proofs.Prefixes.{none_more, none_at_all}
use Rattle.snapshots.proofs.names.Names.has_file_above.Goals as goal

pub loop-len-preserved : goal.loop-len-preserved
loop-len-preserved c =
    none_more (λ len. lies_in (take len c.args.self.now.last.items) c.args.name.now) _ _ c.loop-len-test.true c.loop-len.invariant
    (ap (λ v. lies_in v c.args.name.now) (sym c.prefix.ensures) ∙ (sym c.lies_in.ensures ∙ c.if-lies_in.false))

pub returns : goal.returns
returns c =
    none_at_all (λ len. lies_in (take len c.args.self.now.last.items) c.args.name.now) _ _ _ c.deref-len-items.ensures.value c.loop-len-test.false c.loop-len.invariant
