use Rattle.std.proofs.Common.{sym}
use Rattle.paths.proofs.Names.{found_position, missing_position, named_position}
use Rattle.paths.proofs.snapshot.Snapshot.position.Goals as goal

pub returns-in-Some-clause-place : goal.returns-in-Some-clause-place
returns-in-Some-clause-place c =
    let there = c.in-Some.ensures in
    rw (← c.self.view_is, ← c.deref.ensures.value) (sym (named_position _ (rw c.deref.ensures.value c.self.invariant.rising) _ _ there.0 there.1))

pub returns-in-Ok-clause-place : goal.returns-in-Ok-clause-place
returns-in-Ok-clause-place c = sym (found_position _ _ _ c.in-Ok.ensures)

pub returns-in-Err-clause-place : goal.returns-in-Err-clause-place
returns-in-Err-clause-place c = sym (missing_position _ _ _ c.in-Err.ensures)
