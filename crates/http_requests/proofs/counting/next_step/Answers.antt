use Rattle.std.proofs.Common.{◌≡◌, ◌+◌, sym, ◌∙◌, refl, true, false, arith}
use Rattle.http_requests.proofs.EndLaws.{ends_within}
use Rattle.http_requests.proofs.FoundLemmas.{slice_says}
use Rattle.http_requests.specs.Reference.{closes}
use Rattle.http_requests.proofs.CountLemmas.{step_waits, step_over, step_short, step_whole}
use Rattle.http_requests.proofs.counting.next_step.Goals as goal

pub find-requires-clause-none : goal.find-requires-clause-none
find-requires-clause-none c = λ e below ends. let w = ends_within _ e ends in omega (arith, below, w.0)

pub returns-in-Wait : goal.returns-in-Wait
returns-in-Wait c = step_waits c.args.rest.now c.in-Wait.field-0 c.in-Wait.ensures

pub returns-in-Over : goal.returns-in-Over
returns-in-Over c = step_over c.args.rest.now c.in-Over.field-0 c.in-Over.ensures

pub returns-then-rest-start : goal.returns-then-rest-start
returns-then-rest-start c =
    let rest = c.args.rest.now in
    let says = c.measure_block-extent.ensures.says in
    step_short rest c.in-Whole.start c.in-Whole.len says.0 c.measure_block-extent.result c.in-Whole.ensures
    (slice_says c.in-Whole.start c.in-Whole.len rest rest says.0 refl says.1) says.2 (omega (arith, c.if-rest-start.true))

pub returns-then-extent : goal.returns-then-extent
returns-then-extent c =
    let rest = c.args.rest.now in
    let says = c.measure_block-extent.ensures.says in
    let closing : closes says.0.what ≡ true = sym says.2.0 ∙ (grind (arith, c.if-extent.true)) in (
      says.0.what,
      c.in-Whole.start + c.in-Whole.len + c.measure_block-extent.result.length,
      step_whole rest c.in-Whole.start c.in-Whole.len says.0 c.measure_block-extent.result c.in-Whole.ensures
          (slice_says c.in-Whole.start c.in-Whole.len rest rest says.0 refl says.1) says.2 (omega (arith, c.if-rest-start.false)),
      closing,
    )

pub returns-else-extent : goal.returns-else-extent
returns-else-extent c =
    let rest = c.args.rest.now in
    let says = c.measure_block-extent.ensures.says in
    let goes : closes says.0.what ≡ false = sym says.2.0 ∙ (grind (arith, c.if-extent.false)) in (
      says.0.what,
      step_whole rest c.in-Whole.start c.in-Whole.len says.0 c.measure_block-extent.result c.in-Whole.ensures
          (slice_says c.in-Whole.start c.in-Whole.len rest rest says.0 refl says.1) says.2 (omega (arith, c.if-rest-start.false)),
      goes,
    )
