use Rattle.std.proofs.Common.{ap, arith, take, ◌≡◌}
use Rattle.std.proofs.lemmas.Grind.{common_steps}
use Rattle.inspection.proofs.Counted.{counted_more, few_at}
use Rattle.inspection.proofs.counts.MessageCounts.note_all.Goals as goal

pub note-requires : goal.note-requires
note-requires c =
    let given = c.requires in
    few_at given.0 c.args.messages.now c.loop-message.message-index c.loop-message.self c.loop-message-test.true given.2 (c.loop-message.invariant given.0 given.1)

pub loop-message-preserved : goal.loop-message-preserved
loop-message-preserved c = λ whats is.
    counted_more whats c.args.messages.now c.loop-message.message-index c.message-item.result c.loop-message.self c.note.new.self c.loop-message-test.true (ap (λ m. m.what) c.message-item.is) (c.loop-message.invariant whats is) c.note.ensures

pub returns : goal.returns
returns c = λ whats is.
    let past = c.loop-message-test.false in
    let all : take c.loop-message.message-index c.args.messages.now ≡ c.args.messages.now = grind (arith, common_steps, past) in
    rw all at (c.loop-message.invariant whats is)
