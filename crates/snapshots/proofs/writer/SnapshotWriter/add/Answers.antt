use Rattle.std.proofs.Common.{◌∙◌, sym, ap, length, arith}
use Rattle.std.proofs.lemmas.Result.{err_from_is_err_and}
use Rattle.devices.proofs.Appending.{proper_is_prefix}
use Rattle.snapshots.specs.Keeping.{a_file}
use Rattle.snapshots.proofs.Rulings.{rule_is}
use Rattle.snapshots.proofs.Taken.{took_more, part_more}
use Rattle.snapshots.proofs.writer.SnapshotWriter.add.Goals as goal

pub returns-in-Some-clause-rule : goal.returns-in-Some-clause-rule
returns-in-Some-clause-rule g c = rw (← c.self.view_is) (λ files before took.
    c.in-Some.ensures.own ∙ (c.in-Some.ensures.rule ∙ rule_is files (a_file c.args.name.now c.args.mtime c.args.bytes.now) c.self.inside.so_far took.rules took.kept))

pub returns-in_err-head-clause-rule : goal.returns-in_err-head-clause-rule
returns-in_err-head-clause-rule g c =
    let refused = err_from_is_err_and c.from_residual.result c.from_residual.ensures.1 in
    rw (refused.1, refused.2, ← c.self.view_is) (λ files before took.
    c.in-None.ensures.rule ∙ rule_is files (a_file c.args.name.now c.args.mtime c.args.bytes.now) c.self.inside.so_far took.rules took.kept)

pub returns-in_err-so_far-clause-rule : goal.returns-in_err-so_far-clause-rule
returns-in_err-so_far-clause-rule g c =
    let refused = err_from_is_err_and c.from_residual-in_err-so_far.result c.from_residual-in_err-so_far.ensures.1 in
    rw (refused.1, refused.2, ← c.self.view_is) (λ files before took.
    c.in-None.ensures.rule ∙ rule_is files (a_file c.args.name.now c.args.mtime c.args.bytes.now) c.self.inside.so_far took.rules took.kept)

pub returns-in_err-write_file-clause-rule : goal.returns-in_err-write_file-clause-rule
returns-in_err-write_file-clause-rule g c =
    let failed = err_from_is_err_and c.from_residual-in_err-write_file.result c.from_residual-in_err-write_file.ensures.1 in
    rw (failed.1, failed.2, ← c.self.view_is) (λ files before took.
    c.in-None.ensures.rule ∙ rule_is files (a_file c.args.name.now c.args.mtime c.args.bytes.now) c.self.inside.so_far took.rules took.kept)

pub returns-in_err-write_file-clause-part : goal.returns-in_err-write_file-clause-part
returns-in_err-write_file-clause-part g c =
    let failed = err_from_is_err_and c.from_residual-in_err-write_file.result c.from_residual-in_err-write_file.ensures.1 in
    rw (failed.1, ← c.self.view_is) (λ files before took _. part_more files (a_file c.args.name.now c.args.mtime c.args.bytes.now) _ _ _ _ _ took (c.deref.ensures.value ∙ c.in_ok-head.ensures) (proper_is_prefix _ _ _ c.in_err-write_file.ensures.prefix))

pub returns-clause-rule : goal.returns-clause-rule
returns-clause-rule g c = rw (← c.self.view_is) (λ files before took.
    c.in-None.ensures.rule ∙ rule_is files (a_file c.args.name.now c.args.mtime c.args.bytes.now) c.self.inside.so_far took.rules took.kept)

pub returns-clause-taken : goal.returns-clause-taken
returns-clause-taken g c = rw (← c.self.view_is) (λ files before took.
    took_more files (a_file c.args.name.now c.args.mtime c.args.bytes.now) _ _ _ _ _ _ _ took
    (sym (c.in-None.ensures.rule ∙ rule_is files (a_file c.args.name.now c.args.mtime c.args.bytes.now) c.self.inside.so_far took.rules took.kept))
    (c.deref.ensures.value ∙ c.in_ok-head.ensures) (omega (arith, c.len.ensures, c.saturating_add-text_len.ensures, ap length c.deref.ensures.value))
    c.in_ok-write_file.ensures.prefix c.in_ok-so_far.ensures)
