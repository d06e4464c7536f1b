use Rattle.std.proofs.Common.{◌∙◌, ℕ, subst}
use Rattle.snapshots.specs.Writers.{Counts}
use Rattle.format_tests.proofs.Items.{took_item, all_text, all_rules}
use Rattle.format_tests.proofs.writing.write_files.Goals as goal

pub loop-file-preserved : goal.loop-file-preserved
loop-file-preserved g c = (
  took_item _ _ _ _ _ _ _ _ c.loop-file-test.true c.file-item.is c.as_slice.ensures c.as_slice-in-loop-file.ensures (c.in-Ok.ensures.taken _ _ c.loop-file.invariant.0),
  c.in-Ok.ensures.count ∙ c.loop-file.invariant.1,
)

pub returns-clause-text : goal.returns-clause-text
returns-clause-text g c = all_text _ _ _ _ _ c.loop-file-test.false (c.finish.ensures.text _ _ c.loop-file.invariant.0)

pub returns-clause-rules : goal.returns-clause-rules
returns-clause-rules g c = all_rules _ _ c.finish.result c.loop-file-test.false (c.finish.ensures.rules _ _ c.loop-file.invariant.0)

pub returns-clause-count : goal.returns-clause-count
returns-clause-count g c = subst (λ (n : ℕ). Counts n c.finish.new.output.failures c.finish.result) c.loop-file.invariant.1 c.finish.ensures.count
