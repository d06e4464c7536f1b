use Rattle.std.specs.Prelude.{◌≡◌, true, min, take}
use Rattle.std.specs.List.{list_all}
use Rattle.std.specs.Char.{is_ascii_digit}
use Rattle.std.specs.Str.Parse.{digits_value}
use Rattle.http_requests.proofs.heads.number.Given as goal

abbrev pub invariant-loop-digit : goal.invariant-loop-digit
invariant-loop-digit l = record {
  digits : list_all is_ascii_digit (take l.digit-index l.value) ≡ true;
  number_is : l.number ≡ min (digits_value 10 (take l.digit-index l.value)) 65_537;
}
