use Rattle.std.proofs.Common.{◌++◌, [], ◌∷◌, List, ◌∙◌, ap}
use Rattle.std.specs.Prelude.{unwrap_or}
use Rattle.admission.specs.declared.control.Control.{Control}
use Rattle.admission.specs.Standing.{Window}
use Rattle.admission.specs.Running.{next_control}
use Rattle.admission.specs.InFlight.{due_of}
use Rattle.admission.proofs.SoundLemmas.{behind-first, not_due, is_due, sound_kept, sound_turned, moves_kept, moves_turned}
use Rattle.admission.proofs.tier.Tier.take_in.Goals as goal

pub invariant_of-self-then-not-is_due : goal.invariant_of-self-then-not-is_due
invariant_of-self-then-not-is_due c =
    sound_kept _ (due_of c.args.response) c.take.new.self c.grow.new.window c.grow.new.controls.items c.self.invariant
    (rw (← c.self.view_is) at c.requires.next) (rw (← c.self.view_is) at c.requires.least)
    (ap (λ (w : Window). w.size) c.in_ok-grow.ensures.window) c.take.ensures c.grow.ensures.controls

pub returns-then-not-is_due-clause-moves : goal.returns-then-not-is_due-clause-moves
returns-then-not-is_due-clause-moves c =
    rw (← c.self.view_is)
    (moves_kept _ (due_of c.args.response) c.take.new.self c.grow.new.window c.grow.new.controls.items c.self.invariant
    (rw (← c.self.view_is) at c.requires.next) (not_due _ c.if-not-is_due.ensures) c.take.ensures c.in_ok-grow.ensures.window c.grow.ensures.controls)

pub advance-requires-clause-forward : goal.advance-requires-clause-forward
advance-requires-clause-forward c =
    behind-first _ (due_of c.args.response) c.self.invariant (rw (← c.self.view_is) at c.requires.next)

pub invariant_of-self-2 : goal.invariant_of-self-2
invariant_of-self-2 c =
    sound_turned _ c.set_rate.new.self (due_of c.args.response) c.take.new.self c.grow.new.window c.push_reserved.new.self.items
    c.next_control-control.result c.self.invariant
    (rw (← c.self.view_is) at c.requires.next) (rw (← c.self.view_is) at c.requires.least)
    (c.set_rate.ensures.tick ∙ c.advance.ensures.tick) (ap (λ (w : Window). w.size) c.in_ok-grow.ensures.window) c.take.ensures
    (c.push_reserved.ensures.items ∙ ap (λ (cs : List Control). cs ++ c.next_control-control.result ∷ []) c.grow.ensures.controls)
    (ap (λ (control : Control). control.instant) c.next_control-control.ensures.control)
    c.next_control-control.ensures.range

pub returns-clause-moves : goal.returns-clause-moves
returns-clause-moves c =
    rw (← c.self.view_is)
    (moves_turned _ c.advance.new.self c.set_rate.new.self (due_of c.args.response) c.take.new.self c.grow.new.window
    c.push_reserved.new.self.items c.next_control-control.result c.self.invariant
    (rw (← c.self.view_is) at c.requires.next) (rw (← c.self.view_is) at c.requires.least) (is_due _ c.if-not-is_due.ensures)
    c.advance.ensures.fits c.set_rate.ensures.fits c.take.ensures c.in_ok-grow.ensures.window
    (c.push_reserved.ensures.items ∙ ap (λ (cs : List Control). cs ++ c.next_control-control.result ∷ []) c.grow.ensures.controls)
    (c.next_control-control.ensures.control
    ∙ ap (λ (cs : List Control). next_control c.self.inside.policy cs c.args.response.completion c.unwrap_or-percentile.result)
    (c.deref.ensures.value ∙ c.grow.ensures.controls)
    ∙ ap (λ n. next_control c.self.inside.policy c.self.inside.controls.items c.args.response.completion n)
    (c.unwrap_or-percentile.ensures ∙ ap (λ p. unwrap_or p 0) c.percentile.ensures)))
