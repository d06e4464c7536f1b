use Rattle.std.proofs.Common.{rules, arith, length-drop, ◌∙◌}
use Rattle.std.proofs.lemmas.List.{take_rest}
use Rattle.devices.proofs.Appending.{appends_more}
use Rattle.devices.proofs.output.Output.write_all.Goals as goal

pub loop-written-preserved : goal.loop-written-preserved
loop-written-preserved g c =
    let bytes = c.args.bytes.now in
    let at = c.loop-written.written in
    let wrote = rw (take_rest bytes at) at c.in_ok-written.ensures.bytes in (
      appends_more _ _ _ bytes at _ c.loop-written.invariant.0 wrote.0,
      omega (arith, wrote.1, length-drop at bytes),
      c.in_ok-written.ensures.ok ∙ c.loop-written.invariant.2,
      (λ over. c.in_ok-written.ensures.over.1.0 (c.loop-written.invariant.4 ∙ over) ∙ c.loop-written.invariant.3 over),
      c.in_ok-written.ensures.over.1.1 ∙ c.loop-written.invariant.4,
    )

pub returns-in_err-written-clause-over : goal.returns-in_err-written-clause-over
returns-in_err-written-clause-over g c = (
  (λ over. c.in_err-written.ensures.over.1.0 (c.loop-written.invariant.4 ∙ over) ∙ c.loop-written.invariant.3 over),
  search (rules, c.in_err-written.ensures.over.1.1),
)

pub returns-clause-over : goal.returns-clause-over
returns-clause-over g c = (c.loop-written.invariant.3, c.loop-written.invariant.4)
