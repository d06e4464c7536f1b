use Rattle.std.proofs.Common.{◌∙◌, sym, refl}
use Rattle.replay.proofs.Upcoming.{none_stands, none_written, replies_are, err_ok, ok_all, ok_more, err_more, unwritten, no_messages}
use Rattle.replay.proofs.parts.serve_few.Goals as goal

pub returns-then-is_empty-clause-stands : goal.returns-then-is_empty-clause-stands
returns-then-is_empty-clause-stands g c = record {
  same = (refl, refl);
  stands = λ arrivals more up. none_stands _ _ arrivals more _ _ up (no_messages _ _ c.args.messages.ok.0 (sym c.is_empty.ensures ∙ c.if-is_empty.true));
}

pub returns-then-is_empty-clause-written : goal.returns-then-is_empty-clause-written
returns-then-is_empty-clause-written g c = (λ arrivals more up. none_written _ _ arrivals more _ _ _ up (no_messages _ _ c.args.messages.ok.0 (sym c.is_empty.ensures ∙ c.if-is_empty.true)), tt)

pub returns-in_err-pending_replies-clause-written : goal.returns-in_err-pending_replies-clause-written
returns-in_err-pending_replies-clause-written g c = (err_ok c.from_residual.result _ _ c.from_residual.ensures.1, unwritten _ _ _ _ _ c.args.writer.now.bytes)

pub returns-clause-stands : goal.returns-clause-stands
returns-clause-stands g c = ok_all c.answer_all_pending.result _ c.in_ok-pending_replies.ensures.stands

pub returns-clause-written : goal.returns-clause-written
returns-clause-written g c = (
  ok_more c.answer_all_pending.result _ _
      (λ written arrivals more up. rw (replies_are _ g.F.Tree.files c.args.floors.now.serving.now.server.served c.args.decider.now.start _ _ _ (c.in_ok-pending_replies.ensures.slips arrivals more up) refl) at written)
      c.answer_all_pending.ensures.written,
  err_more c.answer_all_pending.result _ _
      (λ part arrivals more up. rw (replies_are _ g.F.Tree.files c.args.floors.now.serving.now.server.served c.args.decider.now.start _ _ _ (c.in_ok-pending_replies.ensures.slips arrivals more up) refl) at part)
      c.answer_all_pending.ensures.part,
)
