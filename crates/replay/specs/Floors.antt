-- How the floors of the staged engine are seen.
use Rattle.paths.specs.declared.snapshot.Tree.{Ghosts}
use Rattle.reference.specs.Reference.{Terms}
use Rattle.replay.specs.declared.floors.Floors.{Floors}
use Rattle.replay.specs.declared.serving.Pricing.{Ghosts as Prices}

-- the terms by which they serve
abbrev pub served_by : {X Y C Q G T : Type 0} {F : Ghosts X} {K : Prices Y} → Floors X Y C Q G T F K → Terms
served_by floors = floors.serving.now.server.served
