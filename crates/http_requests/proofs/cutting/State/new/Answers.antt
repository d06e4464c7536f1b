use Rattle.std.proofs.Common.{inl, refl}
use Rattle.http_requests.proofs.CutLemmas.{sound_empty, fits_new}
use Rattle.http_requests.proofs.cutting.State.new.Goals as goal

pub returns-clause-sound : goal.returns-clause-sound
returns-clause-sound c = sound_empty _ c.new.ensures.items (inl refl)

pub returns-clause-fits : goal.returns-clause-fits
returns-clause-fits c = fits_new _ c.new.ensures.items refl refl
