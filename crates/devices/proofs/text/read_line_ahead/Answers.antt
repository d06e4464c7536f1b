use Rattle.std.proofs.Common.{ℕ, arith, ◌∙◌, ◌-◌, rules}
use Rattle.std.proofs.lemmas.List.{places, length-drop, length-take}
use Rattle.devices.proofs.Taking.{takes_part, goes_on, line_fed, line_unfed, line_err, line_too_long}
use Rattle.devices.proofs.Pieces.{piece_none}
use Rattle.devices.proofs.PartLemmas.{line_fails}
use Rattle.devices.proofs.text.read_line_ahead.Goals as goal
use Rattle.devices.proofs.Limits.{took_all, took_more, took_piece}

pub returns-then-bytes-len-eq10-clause-line : goal.returns-then-bytes-len-eq10-clause-line
returns-then-bytes-len-eq10-clause-line g c =
    let some = c.in-Ok.ensures.some in
    let line = c.loop-len.invariant.0 in
    let on = goes_on c.loop-len.len (65 - c.loop-len.len) c.in-Ok.count c.loop-len.bytes c.read_to_feed_of.new.buffer (omega arith) some.1 line.feeds c.in-Ok.ensures.feed in
    line_fed _ _ _ _ _ _ (takes_part _ _ _ _ _ _ _ _ _ _ _ line.takes (omega arith) some.1 some.2 some.3) on.0 (omega (arith, some.0)) on.1 (omega (arith, some.1, c.read_to_feed_of.auto.buffer, length-drop {A = ℕ})) c.if-bytes-len-eq10.true

pub loop-len-preserved : goal.loop-len-preserved
loop-len-preserved g c =
    let some = c.in-Ok.ensures.some in
    let line = c.loop-len.invariant.0 in
    let on = goes_on c.loop-len.len (65 - c.loop-len.len) c.in-Ok.count c.loop-len.bytes c.read_to_feed_of.new.buffer (omega arith) some.1 line.feeds c.in-Ok.ensures.feed in (
      line_unfed _ _ _ _ _ _ (takes_part _ _ _ _ _ _ _ _ _ _ _ line.takes (omega arith) some.1 some.2 some.3) on.0 (omega (arith, some.0)) on.1 c.if-bytes-len-eq10.false,
      omega (arith, some.1, c.read_to_feed_of.auto.buffer, length-drop {A = ℕ}),
      c.in-Ok.ensures.count ∙ c.loop-len.invariant.2,
      search (rules, places),
    )

pub returns-in-Err-clause-line : goal.returns-in-Err-clause-line
returns-in-Err-clause-line g c = line_err _ _ _ _ _ _ c.loop-len.invariant.0 (omega (arith, length-take c.loop-len.len c.loop-len.bytes))
    (λ known foreseen. let none = c.in-Err.ensures.some known foreseen in piece_none _ _ none.0 none.1)

pub returns-in-Err-clause-part : goal.returns-in-Err-clause-part
returns-in-Err-clause-part g c = λ failed k.
    line_fails _ _ _ _ _ _ _ c.loop-len.invariant.0 (omega (arith, length-take c.loop-len.len c.loop-len.bytes)) (c.in-Err.ensures.part failed) k

pub returns-clause-line : goal.returns-clause-line
returns-clause-line g c = λ k _. line_too_long _ _ _ _ _ c.loop-len.invariant.0 (omega (arith, length-take c.loop-len.len c.loop-len.bytes)) k

pub returns-then-bytes-len-eq10-clause-most : goal.returns-then-bytes-len-eq10-clause-most
returns-then-bytes-len-eq10-clause-most g c =
    let some = c.in-Ok.ensures.some in
    took_piece _ _ _ _ _ _ _ _ _ c.loop-len.invariant.0.takes some.1 some.3
    (λ left. omega (arith, left, some.1, some.2, c.read_to_feed_of.auto.buffer, length-drop {A = ℕ}, length-take c.loop-len.len c.loop-len.bytes))

pub returns-in-Err-clause-most : goal.returns-in-Err-clause-most
returns-in-Err-clause-most g c = took_more _ 1 _ _ _ _ _ _ c.loop-len.invariant.0.takes (λ left. omega (arith, left, length-take c.loop-len.len c.loop-len.bytes)) c.in-Err.ensures.most

pub returns-clause-most : goal.returns-clause-most
returns-clause-most g c = took_all _ _ _ _ _ _ c.loop-len.invariant.0.takes (λ left. omega (arith, left, length-take c.loop-len.len c.loop-len.bytes))
