use Rattle.std.proofs.Common.{arith}
use Rattle.std.proofs.lemmas.Result.{err_from_is_err_and}
use Rattle.paths.proofs.PartLemmas.{body_lacks, file_fails, file_lacks}
use Rattle.paths.proofs.entry.read_file.Goals as goal

pub returns-in_err-bytes-clause-part : goal.returns-in_err-bytes-clause-part
returns-in_err-bytes-clause-part g c =
    let kind = err_from_is_err_and c.from_residual-in_err-bytes.result c.from_residual-in_err-bytes.ensures.1 in
    rw (kind.1, kind.2) (λ failed k.
    file_fails c.args.files.now c.args.line _ _ _ _ _ _ _ (omega (arith, c.if-line-gt-MAX_TIME.false)) (omega (arith, c.if-line-gt-MAX_FILE_BYTES.false))
    (omega (arith, c.if-len-ge-MAX_FILES.false, c.len.ensures.count)) (omega (arith, c.if-line-eq0.false)) (omega (arith, c.if-line-gt-MAX_NAME_BYTES.false))
    c.in_ok-name.ensures.name (c.in_err-bytes.ensures.part failed) k)

pub returns-in_err-name-clause-lacks : goal.returns-in_err-name-clause-lacks
returns-in_err-name-clause-lacks g c =
    let kind = err_from_is_err_and c.from_residual.result c.from_residual.ensures.1 in
    rw (kind.1, kind.2) (λ lacks k.
    file_lacks c.args.files.now c.args.line _ _ _ _ (omega (arith, c.if-line-gt-MAX_TIME.false)) (omega (arith, c.if-line-gt-MAX_FILE_BYTES.false))
    (omega (arith, c.if-len-ge-MAX_FILES.false, c.len.ensures.count)) (omega (arith, c.if-line-eq0.false)) (omega (arith, c.if-line-gt-MAX_NAME_BYTES.false))
    (c.in_err-name.ensures.lacks lacks k))

pub returns-in_err-bytes-clause-lacks : goal.returns-in_err-bytes-clause-lacks
returns-in_err-bytes-clause-lacks g c =
    let kind = err_from_is_err_and c.from_residual-in_err-bytes.result c.from_residual-in_err-bytes.ensures.1 in
    rw (kind.1, kind.2) (λ lacks k.
    file_fails c.args.files.now c.args.line _ _ _ _ _ _ _ (omega (arith, c.if-line-gt-MAX_TIME.false)) (omega (arith, c.if-line-gt-MAX_FILE_BYTES.false))
    (omega (arith, c.if-len-ge-MAX_FILES.false, c.len.ensures.count)) (omega (arith, c.if-line-eq0.false)) (omega (arith, c.if-line-gt-MAX_NAME_BYTES.false))
    c.in_ok-name.ensures.name (λ known. body_lacks c.args.line.len _ _ _ _ (c.in_err-bytes.ensures.lacks lacks known)) k)
