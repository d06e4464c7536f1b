use Rattle.std.proofs.Common.{◌≡◌, ◌+◌, ◌-◌, length, sym, ◌∙◌, arith}
use Rattle.http_requests.proofs.FoundLemmas.{begins_whole, begins_over, waits_found, no_end_joined, short_held, slice_says}
use Rattle.http_requests.proofs.cutting.take_joined.Goals as goal

pub find-requires-clause-none : goal.find-requires-clause-none
find-requires-clause-none c =
    let e = c.len-had.ensures in
    let h : c.len-had.result ≡ length c.args.held.now.items = grind (arith, e) in
    rw h (no_end_joined c.args.held.now.items c.args.text.now c.deref.result.now c.min-most.result c.requires.unfinished (c.deref.ensures.value ∙ c.in_ok-extend_from_slice.ensures.items))

pub overflow_sub-result-in-Whole : goal.overflow_sub-result-in-Whole
overflow_sub-result-in-Whole c =
    let b = short_held c.args.held.now.items c.args.text.now c.deref.result.now c.min-most.result c.in-Whole.start c.in-Whole.len c.requires.unfinished
    (c.deref.ensures.value ∙ c.in_ok-extend_from_slice.ensures.items) c.in-Whole.ensures in
    let h = c.len-had.ensures in
    grind (arith, b, h)

pub returns-in-Wait-clause-waits : goal.returns-in-Wait-clause-waits
returns-in-Wait-clause-waits c =
    let lim = c.requires.unfinished.2 in
    let h = c.len-had.ensures in
    let m = c.min-most.ensures in
    let some = c.requires.some in
    waits_found c.args.held.now.items c.args.text.now c.deref.result.now _ c.min-most.result c.in-Wait.start
    (grind (arith, m, h)) (grind (arith, m, h, lim, some))
    (c.deref.ensures.value ∙ c.in_ok-extend_from_slice.ensures.items) c.in-Wait.ensures
    (rw (c.deref.ensures.value) c.drop_first.ensures)

pub returns-in-Over-clause-begins : goal.returns-in-Over-clause-begins
returns-in-Over-clause-begins c =
    let lim = c.requires.unfinished.2 in
    let h = c.len-had.ensures in
    let m = c.min-most.ensures in
    let i = c.in-Over.ensures.0 in
    rw c.bad.ensures (begins_over c.args.held.now.items c.args.text.now c.deref.result.now c.min-most.result c.in-Over.len (c.in-Over.len - c.len-had.result)
    (grind (arith, m, h))
    (c.deref.ensures.value ∙ c.in_ok-extend_from_slice.ensures.items) c.in-Over.ensures (grind (arith, h, lim, i)) (grind (arith, h, lim, i)))

pub returns-in_ok-verdict-in-Whole-clause-begins : goal.returns-in_ok-verdict-in-Whole-clause-begins
returns-in_ok-verdict-in-Whole-clause-begins c =
    let b = short_held c.args.held.now.items c.args.text.now c.deref.result.now c.min-most.result c.in-Whole.start c.in-Whole.len c.requires.unfinished
    (c.deref.ensures.value ∙ c.in_ok-extend_from_slice.ensures.items) c.in-Whole.ensures in
    let h = c.len-had.ensures in
    let m = c.min-most.ensures in
    begins_whole c.args.held.now.items c.args.text.now c.deref.result.now c.min-most.result c.in-Whole.start c.in-Whole.len (c.in-Whole.start + c.in-Whole.len - c.len-had.result)
    c.in_ok-verdict-in-Whole.verdict (grind (arith, m, h))
    (c.deref.ensures.value ∙ c.in_ok-extend_from_slice.ensures.items) c.in-Whole.ensures
    (slice_says c.in-Whole.start c.in-Whole.len c.deref.result.now c.deref-in-Whole.result.now _ (c.deref-in-Whole.ensures.value ∙ sym c.deref.ensures.value) c.in_ok-verdict-in-Whole.ensures.says)
    (grind (arith, h, b)) (grind (arith, h, b))
