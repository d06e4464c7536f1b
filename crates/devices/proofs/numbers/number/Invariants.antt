use Rattle.std.proofs.Common.{◌≡◌, drop}
use Rattle.std.specs.Str.{all_ascii_digits}
use Rattle.devices.proofs.Decimals.{capped}
use Rattle.devices.proofs.numbers.number.Given as goal

abbrev pub invariant-loop-digit : goal.invariant-loop-digit
invariant-loop-digit l = (all_ascii_digits (drop l.digit-index l.field) ≡ all_ascii_digits l.field)
    × (capped l.value (drop l.digit-index l.field) ≡ capped 0 l.field)
