use Rattle.std.proofs.Common.{◌∙◌, rules}
use Rattle.std.proofs.lemmas.List.{places}
use Rattle.devices.proofs.Taking.{takes_part}
use Rattle.devices.proofs.text.fill.Goals as goal
use Rattle.devices.proofs.Limits.{took_more}

pub loop-filled-preserved : goal.loop-filled-preserved
loop-filled-preserved g c =
    let some = c.in-Ok.ensures.some in (
      takes_part _ _ _ _ _ _ _ _ _ _ _ c.loop-filled.invariant.0 c.loop-filled.invariant.1 some.1 some.2 some.3,
      search (rules, places),
      c.in-Ok.ensures.count ∙ c.loop-filled.invariant.2,
    )

pub returns-in-Err-clause-most : goal.returns-in-Err-clause-most
returns-in-Err-clause-most g c = took_more _ 1 _ _ _ _ _ _ c.loop-filled.invariant.0 (λ left. search (rules, places)) c.in-Err.ensures.most
