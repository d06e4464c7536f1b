use Rattle.std.proofs.Common.{◌≡◌, ◌∷◌, take, string_bytes}
use Rattle.std.specs.List.{flat_map}
use Rattle.paths.specs.Reference.{slash, location_byte}
use Rattle.paths.proofs.resolution.location_of.Given as goal

abbrev pub invariant-loop-segment : goal.invariant-loop-segment
invariant-loop-segment l = string_bytes l.to ≡ flat_map (λ s. slash ∷ flat_map location_byte s) (take l.segment-index l.segments)
