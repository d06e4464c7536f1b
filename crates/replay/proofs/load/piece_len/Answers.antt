use Rattle.std.proofs.Common.{◌≡◌, ap, sym, get_or, arith}
use Rattle.replay.specs.Loads.{target_len}
use Rattle.replay.proofs.Loads.{one_longer}
use Rattle.replay.proofs.load.piece_len.Goals as goal

pub loop-message-preserved : goal.loop-message-preserved
loop-message-preserved c =
    let messages = c.args.messages.now in
    let i = c.loop-message.message-index in
    let m = c.message-item.result in
    let more = one_longer (λ m. m.what) messages i m c.loop-message-test.true in
    let own : target_len (get_or messages i m).what ≡ target_len m.what = ap (λ m. target_len m.what) (sym c.message-item.is) in
    let read = c.target_len.ensures in
    omega (arith, more, own, read)
