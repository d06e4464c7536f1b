use Rattle.std.proofs.Common.{ap, ◌∙◌}
use Rattle.paths.specs.declared.file.File.{File}
use Rattle.paths.specs.Reference.{no_file}
use Rattle.paths.proofs.Names.{above_shared}
use Rattle.paths.proofs.snapshot.Snapshot.shared_with_last.Goals as goal

pub returns-in-Some-clause-above : goal.returns-in-Some-clause-above
returns-in-Some-clause-above c =
    let found = c.in-Some.ensures.item.3 in
    let shared = c.shared_front.ensures in
    rw (← c.self.view_is, ← c.deref.ensures.value) (above_shared _ _ _ _ (rw c.deref.ensures.value c.self.invariant.apart) found.0
    (c.as_slice.ensures ∙ ap (λ (f : File). f.name) (found.1 no_file)) shared.same shared.in_one shared.in_other)
