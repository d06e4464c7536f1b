-- Without routes a request is on none.
use Rattle.std.proofs.Common.{◌≡◌, List, [], None, refl}
use Rattle.paths.specs.declared.target.Asked.{Asked}
use Rattle.paths.specs.declared.target.Asked.TheVariants.{Path, Missing, BadTarget, NotAllowed, NotKnown}
use Rattle.cost_model.specs.Reference.{Route, route_of}

pub on_none : (routes : List Route) (asked : Asked) → routes ≡ [] → None ≡ route_of routes asked
on_none routes (Path segments folder) none = rw none refl
on_none routes Missing none = refl
on_none routes BadTarget none = refl
on_none routes NotAllowed none = refl
on_none routes NotKnown none = refl
