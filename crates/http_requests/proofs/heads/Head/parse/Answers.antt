use Rattle.std.proofs.Common.{[], ◌∙◌, arith}
use Rattle.http_requests.proofs.JudgeLemmas.{judge_head, judge_other, judge_none}
use Rattle.http_requests.proofs.heads.Head.parse.Goals as goal

pub returns-then-spans-block-clause-says : goal.returns-then-spans-block-clause-says
returns-then-spans-block-clause-says c = λ verdict says.
    let e = rw c.in-Ok-Complete.field-0-is at c.in-Ok-Complete.ensures in
    judge_head c.args.block.now c.parse_request.new.headers c.in-Ok-Complete.spans verdict e.within e.complete (grind (arith, c.if-spans-block.true))
    (c.parse_request.auto.headers ∙ c.told-headers) says

pub returns-else-spans-block-clause-none : goal.returns-else-spans-block-clause-none
returns-else-spans-block-clause-none c =
    let e = rw c.in-Ok-Complete.field-0-is at c.in-Ok-Complete.ensures in
    judge_other c.args.block.now c.parse_request.new.headers c.in-Ok-Complete.spans e.within e.complete (λ h. let n = c.if-spans-block.false in grind (arith, n, h))

pub returns-in-Ok-Partial-clause-none : goal.returns-in-Ok-Partial-clause-none
returns-in-Ok-Partial-clause-none c = judge_none c.args.block.now (λ h is. let e = rw c.in-Ok-Partial.field-0-is at c.in-Ok-Partial.ensures in e.found h [] is.0 (rw c.told-headers is.1))

pub returns-in-Err-clause-none : goal.returns-in-Err-clause-none
returns-in-Err-clause-none c = judge_none c.args.block.now (λ h is. c.in-Err.ensures.found h [] is.0 (rw c.told-headers is.1))
