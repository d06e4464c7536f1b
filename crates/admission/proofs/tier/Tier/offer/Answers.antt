use Rattle.std.proofs.Common.{◌≡◌, ◌+◌, ◌-◌, ◌≤◌, max, ◌∙◌, ap, arith}
use Rattle.token_bucket.specs.Reference.{TOKEN}
use Rattle.admission.specs.Standing.{Due, completions}
use Rattle.admission.proofs.HeapLemmas.{from-lower}
use Rattle.admission.proofs.OfferLemmas.{short_of, enough_of, decision_rejected, decision_admitted, moved_fits, rejected_fits, admitted_fits}
use Rattle.admission.proofs.SoundLemmas.{sound_admitted, share_admitted}
use Rattle.admission.proofs.tier.Tier.offer.Goals as goal

pub reject-requires-clause-later : goal.reject-requires-clause-later
reject-requires-clause-later c =
    from-lower c.args.tick (c.args.tick + 1) (completions c.args.self.now.flight.responses) (omega arith) c.requires.share.2.complete

pub returns-then-not-try_take-clause-decision : goal.returns-then-not-try_take-clause-decision
returns-then-not-try_take-clause-decision c past fits =
    let share = rw (← c.self.view_is) at c.requires.share.2 in
    let moved = moved_fits _ c.advance.new.self past c.args.tick c.self.invariant share.clock share.complete c.advance.ensures.fits
    (rw (← c.self.view_is) at fits) in
    rw (← c.self.view_is)
    (decision_rejected c.self.inside.policy past c.advance.new.self c.args.free c.args.tick c.args.service moved.bucket c.advance.ensures.tick
    (short_of _ _ (c.if-not-try_take.ensures.taken moved.bucket.past_calls moved.bucket.fits) moved.bucket.fits.credit))

pub returns-then-not-try_take-clause-fits : goal.returns-then-not-try_take-clause-fits
returns-then-not-try_take-clause-fits c past offer at late fits =
    let share = rw (← c.self.view_is) at c.requires.share.2 in
    rw (c.reject.ensures, ← c.self.view_is)
    (rejected_fits _ c.advance.new.self c.try_take.new.self past offer c.args.tick c.self.invariant share.clock share.complete
    c.advance.ensures.fits c.advance.ensures.tick c.if-not-try_take.ensures.fits at (rw (← c.self.view_is) at fits))

pub invariant_of-self-2 : goal.invariant_of-self-2
invariant_of-self-2 c =
    let share = rw (← c.self.view_is) at c.requires.share.2 in
    let due : Due = record {
      completion = c.max.result + c.args.service + c.args.delay;
      sample = c.max.result + c.args.service + c.args.delay - c.args.tick;
    } in
    rw c.in_ok-add.ensures.ok
    (sound_admitted _ c.try_take.new.self c.args.tick due c.self.invariant
    (from-lower c.args.tick (c.args.tick + 1) (completions c.self.inside.in_flight.responses) (omega arith) share.complete)
    (c.try_take.ensures.tick ∙ c.advance.ensures.tick) share.clock
    (let finish : c.max.result ≡ max c.args.free c.args.tick = c.max.ensures in omega (arith, finish)))

pub returns-clause-decision : goal.returns-clause-decision
returns-clause-decision c past fits =
    let share = rw (← c.self.view_is) at c.requires.share.2 in
    let moved = moved_fits _ c.advance.new.self past c.args.tick c.self.invariant share.clock share.complete c.advance.ensures.fits
    (rw (← c.self.view_is) at fits) in
    rw (← c.self.view_is)
    (decision_admitted c.self.inside.policy past c.advance.new.self c.args.free c.args.tick c.args.service (c.max.result + c.args.service)
    moved.bucket c.advance.ensures.tick
    (enough_of _ _ (c.if-not-try_take.ensures.taken moved.bucket.past_calls moved.bucket.fits) moved.bucket.fits.credit)
    (ap (λ n. n + c.args.service) c.max.ensures))

pub returns-clause-fits : goal.returns-clause-fits
returns-clause-fits c past offer at late fits =
    let share = rw (← c.self.view_is) at c.requires.share.2 in
    let moved = moved_fits _ c.advance.new.self past c.args.tick c.self.invariant share.clock share.complete c.advance.ensures.fits
    (rw (← c.self.view_is) at fits) in
    let finish : c.max.result + c.args.service ≡ max c.args.free c.args.tick + c.args.service =
    ap (λ n. n + c.args.service) c.max.ensures in
    let enough : TOKEN ≤ c.advance.new.self.credit =
    enough_of _ _ (c.if-not-try_take.ensures.taken moved.bucket.past_calls moved.bucket.fits) moved.bucket.fits.credit in
    rw c.in_ok-add.ensures.ok
    (admitted_fits _ c.advance.new.self c.try_take.new.self past offer c.args.tick c.args.delay (c.max.result + c.args.service)
    c.self.invariant share.clock share.complete c.advance.ensures.fits c.advance.ensures.tick c.if-not-try_take.ensures.fits at late
    (omega (arith, finish, c.requires.work.0)) enough (rw (← c.self.view_is) at fits))

pub returns-clause-share : goal.returns-clause-share
returns-clause-share c offers share =
    let due : Due = record {
      completion = c.max.result + c.args.service + c.args.delay;
      sample = c.max.result + c.args.service + c.args.delay - c.args.tick;
    } in
    let finish : c.max.result + c.args.service ≡ max c.args.free c.args.tick + c.args.service =
    ap (λ n. n + c.args.service) c.max.ensures in
    rw c.in_ok-add.ensures.ok
    (share_admitted offers c.args.tick _ c.try_take.new.self due (rw (← c.self.view_is) at share)
    (omega (arith, finish, c.requires.work.0)))
