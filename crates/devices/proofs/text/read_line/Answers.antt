use Rattle.std.proofs.Common.{arith, ◌∙◌}
use Rattle.std.proofs.lemmas.Bool.{ne_eqb}
use Rattle.std.proofs.lemmas.List.{length_push}
use Rattle.devices.proofs.Taking.{takes_byte, takes_more, line_ok, line_err, line_more, line_too_long}
use Rattle.devices.proofs.text.read_line.Goals as goal
use Rattle.devices.proofs.PartLemmas.{line_fails}
use Rattle.devices.proofs.Limits.{took_all, took_more}

pub returns-in-Ok-eq10-clause-line : goal.returns-in-Ok-eq10-clause-line
returns-in-Ok-eq10-clause-line g c = line_ok _ _ _ _ _ _ _ _ c.loop.invariant.0 (omega arith) c.in-Ok-eq10.field-0-test c.in-Ok-eq10.ensures.byte

pub returns-in-Err-clause-line : goal.returns-in-Err-clause-line
returns-in-Err-clause-line g c = line_err _ _ _ _ _ _ c.loop.invariant.0 (omega arith) c.in-Err.ensures.byte

pub loop-preserved : goal.loop-preserved
loop-preserved g c = (
  rw c.push.ensures (line_more _ _ _ _ _ _ _ _ c.loop.invariant.0 (ne_eqb c.in-Ok.byte 10 c.in-Ok.byte-test.1) c.in-Ok.ensures.byte),
  rw (c.push.ensures, length_push c.loop.line c.in-Ok.byte) (omega arith),
  c.in-Ok.ensures.count ∙ c.loop.invariant.2,
)

pub returns-clause-line : goal.returns-clause-line
returns-clause-line g c = λ k _. line_too_long _ _ _ _ _ c.loop.invariant.0 (omega arith) k

pub returns-in-Err-clause-part : goal.returns-in-Err-clause-part
returns-in-Err-clause-part g c = λ failed k. line_fails _ _ _ _ _ _ _ c.loop.invariant.0 (omega arith) (c.in-Err.ensures.part failed) k

pub returns-in-Ok-eq10-clause-most : goal.returns-in-Ok-eq10-clause-most
returns-in-Ok-eq10-clause-most g c =
    took_all _ _ _ _ _ _ (takes_more _ _ _ _ _ _ _ _ c.loop.invariant.0.takes (takes_byte _ _ _ _ _ c.in-Ok-eq10.ensures.byte)) (λ left. omega (arith, left, length_push c.loop.line c.in-Ok-eq10.field-0))

pub returns-in-Err-clause-most : goal.returns-in-Err-clause-most
returns-in-Err-clause-most g c = took_more _ 1 _ _ _ _ _ _ c.loop.invariant.0.takes (λ left. omega (arith, left)) c.in-Err.ensures.most

pub returns-clause-most : goal.returns-clause-most
returns-clause-most g c = took_all _ _ _ _ _ _ c.loop.invariant.0.takes (λ left. omega (arith, left))
