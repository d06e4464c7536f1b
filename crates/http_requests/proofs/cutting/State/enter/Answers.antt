use Rattle.std.proofs.Common.{inl, inr, refl}
use Rattle.http_requests.proofs.CutLemmas.{sound_empty, enters_later}
use Rattle.http_requests.proofs.cutting.State.enter.Goals.{then-closes, else-closes}
use Rattle.http_requests.proofs.cutting.State.enter.Goals as goal

pub returns-then-left-gt0-clause-enters : goal.returns-then-left-gt0-clause-enters
returns-then-left-gt0-clause-enters c = enters_later c.args.what c.args.left _ c.args.out.now.items refl

pub returns-clause-sound : goal.returns-clause-sound
returns-clause-sound c = sound_empty _ c.requires.empty (elim c.if-closes.branch [ then-closes w ↦ inr w.stage-is | else-closes w ↦ inl w.stage-is ])
