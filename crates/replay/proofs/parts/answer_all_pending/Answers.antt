use Rattle.std.proofs.Common.{◌∙◌, refl, rules}
use Rattle.replay.specs.Backs.{is_back}
use Rattle.replay.specs.declared.back.BackState.TheVariants.{Pending}
use Rattle.arrivals.proofs.Laid.{none_left}
use Rattle.replay.proofs.Grouping.{answered_none, answered_more, answered_part, answered_all, group_ready}
use Rattle.replay.proofs.Judging.{on_err}
use Rattle.replay.proofs.parts.answer_all_pending.Goals as goal

pub loop-group-init : goal.loop-group-init
loop-group-init g c = (answered_none _ _ _ _ (search rules), refl)

pub answer_group-requires-clause-ready : goal.answer_group-requires-clause-ready
answer_group-requires-clause-ready g c =
    rw c.into_vec.ensures (group_ready (λ t. is_back g.F.Tree.files (Pending t)) g.F.Tree.files _ c.in-Some.group _ _ _ _ c.loop-group.invariant.0 c.in-Some.ensures.steps.0 c.requires.ready)

pub loop-group-preserved : goal.loop-group-preserved
loop-group-preserved g c = (
  answered_more _ _ c.in-Some.group _ _ _ _ _ c.loop-group.invariant.0 c.in-Some.ensures.steps.0 (rw c.into_vec.ensures at c.in_ok-answer_group.ensures.written),
  c.in_ok-answer_group.ensures.faults.0 ∙ c.loop-group.invariant.1,
)

pub returns-in_err-answer_group-clause-part : goal.returns-in_err-answer_group-clause-part
returns-in_err-answer_group-clause-part g c =
    on_err _ _ (answered_part _ _ c.in-Some.group _ _ _ _ _ c.loop-group.invariant.0 c.in-Some.ensures.steps.0 (rw c.into_vec.ensures at c.in_err-answer_group.ensures.part))

pub returns-clause-written : goal.returns-clause-written
returns-clause-written g c =
    answered_all _ _ _ _ _ c.loop-group.invariant.0 (none_left c.loop-group.group-iterator c.in-None.ensures.steps.0)
