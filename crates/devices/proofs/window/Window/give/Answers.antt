use Rattle.std.proofs.Common.{◌≡◌, ◌+◌, ◌-◌, take, drop, length, arith, sym, ap, ◌∙◌}
use Rattle.devices.proofs.Windows.{gives_front}
use Rattle.devices.proofs.window.Window.give.Goals as goal

pub returns : goal.returns
returns c =
    let window = c.self.inside in
    let same : window.start + c.args.count - window.start ≡ c.args.count = omega arith in
    sym c.self.view_is
    ∙ gives_front window.bytes c.args.buffer.now c.copy_from_slice.new.self window.start window.end c.args.count (omega (arith, ap length c.self.view_is))
    (c.copy_from_slice.ensures.after ∙ ap (λ n. take n (drop window.start window.bytes)) same)
