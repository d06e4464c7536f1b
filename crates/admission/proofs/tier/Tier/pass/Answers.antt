use Rattle.std.proofs.Common.{◌≡◌, ◌+◌, length, drop, sym, ap, arith, Some, slice_get}
use Rattle.admission.specs.Standing.{Flight, completions}
use Rattle.admission.specs.InFlight.{due_of}
use Rattle.admission.proofs.HeapLemmas.{from-lower}
use Rattle.admission.proofs.SoundLemmas.{one-less, from-none, moves_none, moves_then}
use Rattle.admission.proofs.tier.Tier.pass.Goals as goal

pub loop-response-init : goal.loop-response-init
loop-response-init c = record { moves = moves_none c.args.self.now c.args.tick; few = c.requires.few }

pub take_in-requires-clause-few : goal.take_in-requires-clause-few
take_in-requires-clause-few c = c.loop-response.invariant.few

pub loop-response-smaller : goal.loop-response-smaller
loop-response-smaller c =
    let at : slice_get c.loop-response.self.flight.responses 0 ≡ Some (due_of c.in-Some.response) =
    rw (← c.self.view_is) (sym c.in-Some.ensures.next) in
    let left : length c.take_in.new.self.flight.responses ≡ length (drop 1 c.loop-response.self.flight.responses) =
    ap (λ (f : Flight). length f.responses) c.in_ok-take_in.ensures.fewer in
    omega (arith, left, one-less c.loop-response.self.flight.responses (due_of c.in-Some.response) at)

pub loop-response-preserved : goal.loop-response-preserved
loop-response-preserved c =
    let same : c.take_in.new.self.flight.admitted ≡ c.loop-response.self.flight.admitted =
    ap (λ (f : Flight). f.admitted) c.in_ok-take_in.ensures.fewer in
    record {
      moves = moves_then c.args.self.now c.loop-response.self c.take_in.new.self c.in-Some.response.completion c.args.tick
          c.loop-response.invariant.moves c.in_ok-take_in.ensures.moves c.if-response-tick.false;
      few = rw same c.loop-response.invariant.few;
    }

pub returns-in_err-take_in-clause-moves : goal.returns-in_err-take_in-clause-moves
returns-in_err-take_in-clause-moves c =
    moves_then c.args.self.now c.loop-response.self c.take_in.new.self c.in-Some.response.completion c.args.tick
    c.loop-response.invariant.moves c.take_in.ensures.moves c.if-response-tick.false

pub returns-then-response-tick-clause-moves : goal.returns-then-response-tick-clause-moves
returns-then-response-tick-clause-moves c = c.loop-response.invariant.moves

pub returns-then-response-tick-clause-complete : goal.returns-then-response-tick-clause-complete
returns-then-response-tick-clause-complete c =
    rw (← c.self.view_is)
    (from-lower (c.args.tick + 1) c.in-Some.response.completion (completions c.self.inside.in_flight.responses)
    (omega (arith, c.if-response-tick.true)) c.in-Some.ensures.least)

pub returns-in_default-clause-moves : goal.returns-in_default-clause-moves
returns-in_default-clause-moves c = c.loop-response.invariant.moves

pub returns-in_default-clause-complete : goal.returns-in_default-clause-complete
returns-in_default-clause-complete c =
    rw (← c.self.view_is) (from-none (c.args.tick + 1) c.self.inside.in_flight.responses c.in_default.ensures.next)
