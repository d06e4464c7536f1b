use Rattle.std.proofs.Common.{◌≡◌, ◌+◌, ◌==◌, ◌++◌, take, drop}
use Rattle.std.specs.List.{position_or_len}
use Rattle.devices.proofs.text.Line.push_to_feed.Given as goal

abbrev pub invariant-loop-byte : goal.invariant-loop-byte
invariant-loop-byte l = (l.self ≡ l.fn.self ++ take l.byte-index l.bytes)
    × (position_or_len (λ b. b == 10) l.bytes ≡ l.byte-index + position_or_len (λ b. b == 10) (drop l.byte-index l.bytes))
