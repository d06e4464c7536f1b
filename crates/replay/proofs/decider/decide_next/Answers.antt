use Rattle.std.proofs.Common.{arith, subst, ◌≤◌, ◌+◌, ◌∙◌, ap}
use Rattle.reference.specs.Reference.{offers_of}
use Rattle.replay.specs.Backs.{response_of}
use Rattle.reference.proofs.Offering.{offers_few}
use Rattle.replay.proofs.Judging.{answered_is, samples_are, counts_kept, stands_after}
use Rattle.replay.proofs.decider.decide_next.Goals as goal

pub decide-requires-clause-offers : goal.decide-requires-clause-offers
decide-requires-clause-offers g c =
    let files = g.F.Tree.files in let terms = c.args.server.now.served in
    let known = c.requires.stands in
    let below = known.0 in
    let is = answered_is files terms known.1 c.args.decider.now known.2 in
    let few = offers_few files terms known.1 in
    (offers_of files terms known.1, known.2.fits, omega (arith, below, is, few))

pub decide-requires-clause-origin : goal.decide-requires-clause-origin
decide-requires-clause-origin g c = (
  c.requires.origin.1,
  c.requires.origin.0,
  subst (λ t. c.args.decider.now.controller.clock ≤ t) c.tick.ensures.value (c.requires.stands.3 c.tick.result c.tick.ensures.rises),
)

pub record_reply-requires-clause-counts : goal.record_reply-requires-clause-counts
record_reply-requires-clause-counts g c =
    let files = g.F.Tree.files in let terms = c.args.server.now.served in
    let known = c.requires.stands in
    let judged = c.in_ok-answer.ensures.response_of (offers_of files terms known.1) known.2.fits (samples_are files terms known.1 c.args.decider.now known.2) in
    let few = known.2.few in
    let kept = counts_kept _ files terms known.1 c.args.origin c.args.what.now c.args.decider.now c.decide.new.self (response_of c.in_ok-answer.answer) 18446744073709551615 known.2 judged (omega (arith, few)) in
    kept.0

pub returns-clause-stands : goal.returns-clause-stands
returns-clause-stands g c =
    let files = g.F.Tree.files in let terms = c.args.server.now.served in
    let known = c.requires.stands in
    let judged = c.in_ok-answer.ensures.response_of (offers_of files terms known.1) known.2.fits (samples_are files terms known.1 c.args.decider.now known.2) in
    record {
      same = (judged.1.start, judged.1.most);
      number = ap (λ t. t.answered) c.record_reply.ensures ∙ ap (λ n. n + 1) (ap (λ t. t.answered) judged.1.totals);
      stands = λ arrivals a stands from meaning.
          (let judged = c.in_ok-answer.ensures.response_of (offers_of files terms arrivals) stands.fits (samples_are files terms arrivals c.args.decider.now stands) in
          stands_after _ files terms arrivals a c.args.origin c.args.what.now c.args.decider.now c.decide.new.self c.record_reply.new.self (response_of c.in_ok-answer.answer) stands (rw from known.3) from meaning known.0 judged c.record_reply.ensures);
    }
