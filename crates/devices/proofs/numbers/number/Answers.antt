use Rattle.devices.proofs.Decimals.{number_read}
use Rattle.devices.proofs.numbers.number.Goals as goal

pub returns : goal.returns
returns c = number_read _ _ _ c.if-is_empty.ensures c.if-field-gt1.either c.loop-digit-test.false c.loop-digit.invariant.0 c.loop-digit.invariant.1
