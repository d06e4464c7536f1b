-- How many items a list has.
use Rattle.std.proofs.Common.{◌≡◌, List, [], ◌∷◌, length, refl, arith}
use Rattle.toml.specs.declared.value.Value.{Value}
use Rattle.toml.specs.View.{items_view}
use Rattle.settings.specs.Pools.{count}

pub counted : (vs : List Value) → count (items_view vs) ≡ length vs
counted [] = refl
counted (v ∷ vs) = rw (counted vs) (omega arith)
