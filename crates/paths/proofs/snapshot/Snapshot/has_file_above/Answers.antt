use Rattle.std.proofs.Common.{◌≡◌, ℕ, take, inl, inr, sym, subst, arith}
use Rattle.std.proofs.lemmas.Bool.{cases_lt}
use Rattle.paths.specs.Snapshots.{HasNoFile}
use Rattle.paths.proofs.Names.{above_found, above_none, no_file_at}
use Rattle.paths.proofs.snapshot.Snapshot.has_file_above.Goals as goal

pub returns-in-Ok : goal.returns-in-Ok
returns-in-Ok c = sym (above_found _ _ _ _ c.loop-at-test.true c.if-name-at-eq47.true c.in-Ok.ensures)

pub loop-at-preserved-in-Err : goal.loop-at-preserved-in-Err
loop-at-preserved-in-Err c = λ k lt is. elim (cases_lt k c.loop-at.at) [
  | inl below ↦ c.loop-at.invariant k below is
  | inr ge ↦ let same : c.loop-at.at ≡ k = omega arith in
      subst (λ (n : ℕ). HasNoFile c.args.self.now (take n c.args.name.now)) same (no_file_at _ _ _ c.in-Err.ensures)
]

pub returns : goal.returns
returns c = sym (above_none _ _ (λ k lt is. c.loop-at.invariant k (omega arith) is))
