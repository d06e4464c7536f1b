use Rattle.reference.proofs.AtSpeed.{by_speed}
use Rattle.reference.proofs.laws.speed_divides_ticks.Goals as goal

pub returns : goal.returns
returns c = by_speed
