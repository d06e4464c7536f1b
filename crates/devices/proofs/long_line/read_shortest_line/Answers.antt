use Rattle.std.proofs.Common.{arith, ap, ◌∙◌, length}
use Rattle.std.proofs.lemmas.List.{take-append-le}
use Rattle.devices.proofs.Taking.{line_err, line_too_long}
use Rattle.devices.proofs.Pieces.{no_more, piece_more, piece_ends, piece_none}
use Rattle.devices.proofs.long_line.read_shortest_line.Goals as goal
use Rattle.devices.proofs.PartLemmas.{line_fails}
use Rattle.devices.proofs.Limits.{took_more, took_piece}

pub returns-then-push_to_feed-clause-line : goal.returns-then-push_to_feed-clause-line
returns-then-push_to_feed-clause-line g c =
    let came = c.in-Ok.ensures.some in
    let owes = c.shortest_rest-shortest_rest.ensures in
    let within = no_more _ _ _ _ came.1 c.read_some_of.auto.buffer in
    let line_is = c.as_slice-in-loop-line.ensures in
    let buffer = owes.buffer (omega (arith, ap length line_is, ap length c.as_slice.ensures, c.loop-line-test.true)) in
    piece_ends _ _ _ _ _ _ _ _ _ _ _ _ _ _ _ _ c.loop-line.invariant.0 (take-append-le _ _ _ came.1) came.1 came.2 came.3 c.push_to_feed.ensures.line
    c.push_to_feed.ensures.feed c.if-push_to_feed.true
    (omega (arith, ap length line_is, buffer, within))
    within
    (rw line_is at owes.shortest_rest)

pub loop-line-preserved : goal.loop-line-preserved
loop-line-preserved g c =
    let came = c.in-Ok.ensures.some in
    let owes = c.shortest_rest-shortest_rest.ensures in
    let within = no_more _ _ _ _ came.1 c.read_some_of.auto.buffer in
    let line_is = c.as_slice-in-loop-line.ensures in
    let buffer = owes.buffer (omega (arith, ap length line_is, ap length c.as_slice.ensures, c.loop-line-test.true)) in
    let more = piece_more _ _ _ _ _ _ _ _ _ _ _ _ c.loop-line.invariant.0 (take-append-le _ _ _ came.1) came.1 came.2 came.3 c.push_to_feed.ensures.line
    c.push_to_feed.ensures.feed c.if-push_to_feed.false in (
      more.0,
      omega (arith, more.1, ap length line_is, buffer, within),
      c.in-Ok.ensures.count ∙ c.loop-line.invariant.2,
    )

pub returns-in-Err-clause-line : goal.returns-in-Err-clause-line
returns-in-Err-clause-line g c = line_err _ _ _ _ _ _ c.loop-line.invariant.0 (omega (arith, ap length c.as_slice.ensures, c.loop-line-test.true))
    (λ known foreseen. let none = c.in-Err.ensures.some known foreseen in piece_none _ _ none.0 none.1)

pub returns-clause-line : goal.returns-clause-line
returns-clause-line g c = λ k _. line_too_long _ _ _ _ _ c.loop-line.invariant.0 (omega (arith, ap length c.as_slice.ensures, c.loop-line-test.false, c.loop-line.invariant.1)) k

pub returns-in-Err-clause-part : goal.returns-in-Err-clause-part
returns-in-Err-clause-part g c = λ failed k.
    line_fails _ _ _ _ _ _ _ c.loop-line.invariant.0 (omega (arith, ap length c.as_slice.ensures, c.loop-line-test.true)) (c.in-Err.ensures.part failed) k

pub returns-then-push_to_feed-clause-most : goal.returns-then-push_to_feed-clause-most
returns-then-push_to_feed-clause-most g c =
    let came = c.in-Ok.ensures.some in
    let owes = c.shortest_rest-shortest_rest.ensures in
    let within = no_more _ _ _ _ came.1 c.read_some_of.auto.buffer in
    let line_is = c.as_slice-in-loop-line.ensures in
    let buffer = owes.buffer (omega (arith, ap length line_is, ap length c.as_slice.ensures, c.loop-line-test.true)) in
    took_piece _ _ _ _ _ _ _ _ _ c.loop-line.invariant.0.takes came.1 came.3 (λ left. omega (arith, left, came.2, ap length line_is, buffer, within))

pub returns-in-Err-clause-most : goal.returns-in-Err-clause-most
returns-in-Err-clause-most g c =
    took_more _ 1 _ _ _ _ _ _ c.loop-line.invariant.0.takes (λ left. omega (arith, left, ap length c.as_slice.ensures, c.loop-line-test.true)) c.in-Err.ensures.most
