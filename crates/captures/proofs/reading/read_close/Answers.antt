use Rattle.devices.proofs.Limits.{took_byte}
use Rattle.captures.proofs.reading.read_close.Goals as goal

pub returns-in-Ok-Some-clause-most : goal.returns-in-Ok-Some-clause-most
returns-in-Ok-Some-clause-most g c = took_byte _ _ c.in-Ok-Some.field-0 c.in-Ok-Some.ensures.bytes
