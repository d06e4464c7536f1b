-- A request is of a pool that is there.
use Rattle.std.proofs.Common.{◌≡◌, ◌≤◌, ℕ, Bool, true, false, List, [], ◌∷◌, Option, Some, None, All, length, arith, find}
use Rattle.std.proofs.Common.{refl, bytes_eq, if◌then◌else◌}
use Rattle.std.proofs.lemmas.List.Elements.{All-head, All-tail}
use Rattle.std.specs.List.{starts_with}
use Rattle.paths.specs.declared.target.Asked.{Asked}
use Rattle.paths.specs.declared.target.Asked.TheVariants.{Path, Missing, BadTarget, NotAllowed, NotKnown}
use Rattle.paths.specs.declared.resolution.Outcome.{Outcome}
use Rattle.cost_model.specs.Reference.{CostTable, Route, route_of, charge_on}
use Rattle.cost_model.specs.Services.{AreServed}

abbrev pool_of : Option Route → ℕ
pool_of None = 0
pool_of (Some route) = route.pool

first_or : (found : Bool) (route : Route) (other : Option Route) (n : ℕ) → route.pool ≤ n → pool_of other ≤ n
    → pool_of (if found then Some route else other) ≤ n
first_or true route other n own more = own
first_or false route other n own more = more

found_in : (p : Route → Bool) (routes : List Route) (n : ℕ) → All (λ route. route.pool ≤ n) routes → pool_of (find p routes) ≤ n
found_in p [] n each = omega arith
found_in p (route ∷ routes) n each =
    first_or (p route) route (find p routes) n (All-head (λ r. r.pool ≤ n) route routes each)
    (found_in p routes n (All-tail (λ r. r.pool ≤ n) route routes each))

route_in : (routes : List Route) (pools : List ℕ) (asked : Asked) → AreServed routes pools → pool_of (route_of routes asked) ≤ length pools
route_in routes pools (Path segments folder) each = found_in (λ route. starts_with bytes_eq segments route.prefix) routes (length pools) each
route_in routes pools Missing each = omega arith
route_in routes pools BadTarget each = omega arith
route_in routes pools NotAllowed each = omega arith
route_in routes pools NotKnown each = omega arith

charged : (costs : CostTable) (route : Option Route) (answer : Outcome) (head unmodified : Bool) (len : ℕ)
    → (charge_on costs route answer head unmodified len).pool ≡ pool_of route
charged costs None answer head unmodified len = refl
charged costs (Some route) answer head unmodified len = refl

pub pool_in : (costs : CostTable) (routes : List Route) (pools : List ℕ) (asked : Asked) (answer : Outcome) (head unmodified : Bool) (len : ℕ)
    → AreServed routes pools → (charge_on costs (route_of routes asked) answer head unmodified len).pool ≤ length pools
pool_in costs routes pools asked answer head unmodified len each =
    rw (charged costs (route_of routes asked) answer head unmodified len) (route_in routes pools asked each)
