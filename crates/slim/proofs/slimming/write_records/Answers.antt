use Rattle.std.proofs.Common.{◌≡◌, take, refl, arith, ◌∙◌}
use Rattle.std.proofs.lemmas.Grind.{common_steps}
use Rattle.devices.proofs.Appending.{appends_none}
use Rattle.captures.specs.Passes.{writer_failures}
use Rattle.slim.proofs.Standing.{err_prefix, err_count}
use Rattle.slim.proofs.Texts.{texts_more, texts_part}
use Rattle.slim.proofs.slimming.write_records.Goals as goal

pub loop-record-init : goal.loop-record-init
loop-record-init g c = (appends_none c.args.writer.now.bytes, refl)

pub write_record-requires : goal.write_record-requires
write_record-requires g c = rw c.loop-record.invariant.1 c.requires

pub returns-in_err-write_record-clause-prefix : goal.returns-in_err-write_record-clause-prefix
returns-in_err-write_record-clause-prefix g c =
    err_prefix _ _ _ _ c.from_residual.result c.from_residual.ensures.1
    (texts_part c.args.records.now c.loop-record.record-index c.record-item.result _ _ _ c.loop-record-test.true c.record-item.is c.loop-record.invariant.0 c.in_err-write_record.ensures.prefix)

pub returns-in_err-write_record-clause-count : goal.returns-in_err-write_record-clause-count
returns-in_err-write_record-clause-count g c =
    err_count writer_failures _ _ c.in_err-write_record.field-0.0 c.from_residual.result c.from_residual.ensures.1 (rw (← c.loop-record.invariant.1) c.in_err-write_record.ensures.count)

pub loop-record-preserved : goal.loop-record-preserved
loop-record-preserved g c = (
  texts_more c.args.records.now c.loop-record.record-index c.record-item.result _ _ _ c.loop-record-test.true c.record-item.is c.loop-record.invariant.0 c.in_ok-write_record.ensures.prefix,
  c.in_ok-write_record.ensures.count ∙ c.loop-record.invariant.1,
)

pub returns-clause-prefix : goal.returns-clause-prefix
returns-clause-prefix g c =
    let past = c.loop-record-test.false in
    let all : take c.loop-record.record-index c.args.records.now ≡ c.args.records.now = grind (arith, common_steps, past) in
    rw all at c.loop-record.invariant.0

pub returns-clause-count : goal.returns-clause-count
returns-clause-count g c = c.loop-record.invariant.1
