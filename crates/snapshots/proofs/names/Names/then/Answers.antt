use Rattle.std.proofs.Common.{take, ap, ◌∙◌, nat_eq}
use Rattle.std.specs.List.{starts_with}
use Rattle.snapshots.proofs.Prefixes.{picked_more, picked_all}
use Rattle.snapshots.proofs.names.Names.then.Goals as goal

pub loop-len-preserved : goal.loop-len-preserved
loop-len-preserved c =
    picked_more (λ len. starts_with nat_eq c.args.name.now (take len c.args.self.now.last.items)) _ _ _ _ c.starts_with.result c.loop-len-test.true c.loop-len.invariant
    (c.starts_with.ensures.value ∙ ap (starts_with nat_eq c.args.name.now) c.prefix.ensures) c.in_ok-push_if.ensures

pub returns-clause-lengths : goal.returns-clause-lengths
returns-clause-lengths c =
    picked_all (λ len. starts_with nat_eq c.args.name.now (take len c.args.self.now.last.items)) _ _ _ _ _ _ c.deref-len-items.ensures.value c.loop-len-test.false c.loop-len.invariant
    c.in_ok-push.ensures.items
