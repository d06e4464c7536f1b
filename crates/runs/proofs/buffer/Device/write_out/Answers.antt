use Rattle.std.proofs.Common.{◌∙◌, arith, length-drop}
use Rattle.std.proofs.lemmas.List.{take_rest}
use Rattle.devices.proofs.Appending.{appends_more}
use Rattle.runs.proofs.buffer.Device.write_out.Goals as goal

pub loop-written-preserved : goal.loop-written-preserved
loop-written-preserved g c =
    let bytes = c.args.bytes.now in
    let at = c.loop-written.written in
    let wrote = rw (take_rest bytes at) at c.in-Ok.ensures.bytes.0 in (
      omega (arith, c.in-Ok.ensures.bytes.1, length-drop at bytes, c.loop-written-test.true),
      appends_more _ _ _ bytes at _ c.loop-written.invariant.1 wrote,
      c.in-Ok.ensures.over.1.1 ∙ c.loop-written.invariant.2,
    )
