use Rattle.std.proofs.Common.{◌∙◌}
use Rattle.devices.proofs.Appending.{proper_is_prefix}
use Rattle.replay.proofs.Upcoming.{reply_cut, reply_more}
use Rattle.replay.proofs.Judging.{on_err}
use Rattle.replay.proofs.parts.write_replies.Goals as goal

pub returns-in_err-write_reply-clause-part : goal.returns-in_err-write_reply-clause-part
returns-in_err-write_reply-clause-part g c =
    let part = c.in_err-write_reply.ensures.record in
    on_err _ _ (reply_cut _ _ _ c.args.replies.now c.loop-reply.reply-index c.reply-item.result c.loop-reply-test.true c.reply-item.is c.loop-reply.invariant.0 (proper_is_prefix _ _ _ part))

pub loop-reply-preserved : goal.loop-reply-preserved
loop-reply-preserved g c = (
  reply_more _ _ _ c.args.replies.now c.loop-reply.reply-index c.reply-item.result c.loop-reply-test.true c.reply-item.is c.loop-reply.invariant.0 c.in_ok-write_reply.ensures.record,
  c.in_ok-write_reply.ensures.count ∙ c.loop-reply.invariant.1,
)
