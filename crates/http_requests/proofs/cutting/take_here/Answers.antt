use Rattle.std.proofs.Common.{◌≡◌, ◌+◌, ◌-◌, length, take, drop, refl, ◌∙◌, arith}
use Rattle.std.proofs.lemmas.Grind.{common_steps}
use Rattle.http_requests.proofs.EndLaws.{ends_within}
use Rattle.http_requests.proofs.FoundLemmas.{begins_whole, begins_over, waits_found, alone, empty_len, found_some, slice_says}
use Rattle.http_requests.proofs.cutting.take_here.Goals as goal

pub find-requires-clause-none : goal.find-requires-clause-none
find-requires-clause-none c = λ e below ends. let w = ends_within _ e ends in omega (arith, below, w.0)

pub returns-in_ok-extend_from_slice-in-Wait-clause-waits :
    goal.returns-in_ok-extend_from_slice-in-Wait-clause-waits
returns-in_ok-extend_from_slice-in-Wait-clause-waits c =
    let t = c.args.text.now in
    let same : take (length t - c.in-Wait.start) (drop c.in-Wait.start t) ≡ drop c.in-Wait.start t = grind (arith, common_steps) in
    waits_found c.args.held.now.items t t _ (length t) c.in-Wait.start (omega arith) c.requires.some
    (alone c.args.held.now.items t c.requires.empty) c.in-Wait.ensures
    (c.in_ok-extend_from_slice-in-Wait.ensures.items ∙ (rw (c.requires.empty, same) refl))

pub returns-in-Over-clause-begins : goal.returns-in-Over-clause-begins
returns-in-Over-clause-begins c =
    let t = c.args.text.now in
    rw c.bad.ensures (begins_over c.args.held.now.items t t (length t) c.in-Over.len c.in-Over.len (omega arith)
    (alone c.args.held.now.items t c.requires.empty) c.in-Over.ensures (empty_len _ _ c.requires.empty) (let i = c.in-Over.ensures.0 in omega (arith, i)))

pub returns-in_ok-verdict-in-Whole-clause-begins : goal.returns-in_ok-verdict-in-Whole-clause-begins
returns-in_ok-verdict-in-Whole-clause-begins c =
    let t = c.args.text.now in
    begins_whole c.args.held.now.items t t (length t) c.in-Whole.start c.in-Whole.len (c.in-Whole.start + c.in-Whole.len) c.in_ok-verdict-in-Whole.verdict
    (omega arith) (alone c.args.held.now.items t c.requires.empty) c.in-Whole.ensures
    (slice_says c.in-Whole.start c.in-Whole.len t t _ refl c.in_ok-verdict-in-Whole.ensures.says)
    (empty_len _ _ c.requires.empty) (found_some c.in-Whole.start c.in-Whole.len t c.in-Whole.ensures)
