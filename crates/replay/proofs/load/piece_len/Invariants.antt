use Rattle.std.proofs.Common.{◌≡◌, map, min, take}
use Rattle.replay.specs.Loads.{targets_len}
use Rattle.replay.proofs.load.piece_len.Given as goal

-- the targets so far
abbrev pub invariant-loop-message : goal.invariant-loop-message
invariant-loop-message l = l.bytes ≡ min 18446744073709551615 (targets_len (map (λ m. m.what) (take l.message-index l.messages)))
