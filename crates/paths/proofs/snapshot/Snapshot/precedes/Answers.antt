use Rattle.std.proofs.Common.{◌-◌, is_lt, nat_cmp, arith, ap, ◌∙◌}
use Rattle.std.specs.Cmp.Lexicographic.{slice_cmp}
use Rattle.paths.specs.Reference.{file_of}
use Rattle.paths.proofs.Names.{order_by_last}
use Rattle.paths.proofs.snapshot.Snapshot.precedes.Goals as goal

pub returns-else-count-eq0 : goal.returns-else-count-eq0
returns-else-count-eq0 c =
    c.is_lt.ensures ∙ ap is_lt (c.cmp.ensures ∙ ap (λ v. slice_cmp nat_cmp v c.args.name.now) (c.name.ensures ∙ ap (λ n. (file_of c.args.self.now (n - 1)).name) c.len-count.ensures.count))
    ∙ order_by_last c.args.self.now c.len-count.ensures.rules.rising c.args.name.now (omega (arith, c.len-count.ensures.count))
