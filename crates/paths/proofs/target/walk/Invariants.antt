use Rattle.std.proofs.Common.{◌≡◌, true, [], length, map}
use Rattle.std.specs.Option.{option_map}
use Rattle.percent_encoding.specs.Percent.{percent_decode}
use Rattle.paths.specs.Reference.{walked, segments_of}
use Rattle.paths.specs.Resolution.{parts_of}
use Rattle.paths.proofs.target.walk.Given as goal

abbrev pub invariant-loop-ahead : goal.invariant-loop-ahead
invariant-loop-ahead l = walked l.kept l.folder (map percent_decode (parts_of (option_map (λ t. t.now) l.ahead))) ≡ walked [] true (segments_of l.path)

abbrev pub decreases-loop-ahead : goal.decreases-loop-ahead
decreases-loop-ahead l = length (parts_of (option_map (λ t. t.now) l.ahead))
