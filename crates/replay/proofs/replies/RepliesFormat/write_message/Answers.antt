use Rattle.std.proofs.Common.{subst, refl}
use Rattle.std.specs.Io.KnownBytes.{Appends}
use Rattle.devices.proofs.Appending.{prefix_none}
use Rattle.devices.specs.Devices.{AppendsPrefix}
use Rattle.replay.proofs.Judging.{reply_written, on_err}
use Rattle.replay.proofs.Upcoming.{ok_more, err_more}
use Rattle.replay.proofs.replies.RepliesFormat.write_message.Goals as goal

pub decide_next-requires-clause-origin : goal.decide_next-requires-clause-origin
decide_next-requires-clause-origin g c = (c.requires.next.0.tick, c.requires.next.0.tier)

pub decide_next-requires-clause-stands : goal.decide_next-requires-clause-stands
decide_next-requires-clause-stands g c =
    let may = c.requires.next.0 in
    (c.requires.next.1, may.arrivals, may.stands.counted, may.stands.clock c.args.origin.tick may.by)

pub returns-in_err-lookup-clause-part : goal.returns-in_err-lookup-clause-part
returns-in_err-lookup-clause-part g c =
    on_err c.from_residual.result _ (λ arrivals a stands from meaning. prefix_none c.args.writer.now.bytes _)

pub returns-in_err-pending-clause-part : goal.returns-in_err-pending-clause-part
returns-in_err-pending-clause-part g c =
    on_err c.from_residual-in_err-pending.result _ (λ arrivals a stands from meaning. prefix_none c.args.writer.now.bytes _)

pub returns-clause-written : goal.returns-clause-written
returns-clause-written g c = ok_more c.answer_pending.result _ _
    (λ written arrivals a stands from meaning.
    (let slips = c.in_ok-pending.ensures.slip arrivals a stands.counted from meaning in
    let all = reply_written _ g.F.Tree.files c.args.server.now.served c.args.decider.now.start arrivals a _ _ slips refl in
    subst (λ text. Appends c.args.writer.now.bytes c.answer_pending.new.writer.bytes text) all written))
    c.answer_pending.ensures.written

pub returns-clause-part : goal.returns-clause-part
returns-clause-part g c = err_more c.answer_pending.result _ _
    (λ part arrivals a stands from meaning.
    (let slips = c.in_ok-pending.ensures.slip arrivals a stands.counted from meaning in
    let all = reply_written _ g.F.Tree.files c.args.server.now.served c.args.decider.now.start arrivals a _ _ slips refl in
    subst (λ text. AppendsPrefix c.args.writer.now.bytes c.answer_pending.new.writer.bytes text) all part))
    c.answer_pending.ensures.part
