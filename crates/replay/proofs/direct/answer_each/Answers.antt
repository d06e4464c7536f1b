use Rattle.std.proofs.Common.{◌∙◌, refl, rules}
use Rattle.arrivals.proofs.Laid.{none_left}
use Rattle.replay.specs.Backs.{is_back}
use Rattle.replay.specs.declared.back.BackState.TheVariants.{Pending}
use Rattle.replay.proofs.OneByOne.{each_none, each_more, each_part, each_all, each_ready}
use Rattle.replay.proofs.Judging.{on_err}
use Rattle.replay.proofs.direct.answer_each.Goals as goal

pub loop-pending-init : goal.loop-pending-init
loop-pending-init g c = (each_none _ _ _ _ (search rules), refl)

pub answer_pending-requires-clause-ready : goal.answer_pending-requires-clause-ready
answer_pending-requires-clause-ready g c =
    each_ready (λ t. is_back g.F.Tree.files (Pending t)) g.F.Tree.files _ c.in-Some.pending _ _ _ _ c.loop-pending.invariant.0 c.in-Some.ensures.steps.0 c.requires.ready

pub loop-pending-preserved : goal.loop-pending-preserved
loop-pending-preserved g c = (
  each_more _ _ c.in-Some.pending _ _ _ _ _ c.loop-pending.invariant.0 c.in-Some.ensures.steps.0 c.in_ok-answer_pending.ensures.written,
  c.in_ok-answer_pending.ensures.failures ∙ c.loop-pending.invariant.1,
)

pub returns-in_err-answer_pending-clause-part : goal.returns-in_err-answer_pending-clause-part
returns-in_err-answer_pending-clause-part g c =
    on_err _ _ (each_part _ _ c.in-Some.pending _ _ _ _ _ c.loop-pending.invariant.0 c.in-Some.ensures.steps.0 c.in_err-answer_pending.ensures.part)

pub returns-clause-written : goal.returns-clause-written
returns-clause-written g c =
    each_all _ _ _ _ _ c.loop-pending.invariant.0 (none_left c.loop-pending.pending-iterator c.in-None.ensures.steps.0)
