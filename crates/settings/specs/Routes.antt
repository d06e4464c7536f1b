-- The routes of a settings document.
use Rattle.std.specs.Prelude.{ℕ, nat_le, List, [], ◌∷◌, Option, Some, None, Result, Ok, Err, if◌then◌else◌}
use Rattle.toml.specs.Data.{Data, string, array, Items, no_items, item, Members, get_member, as_table}
use Rattle.cost_model.specs.Reference.{Route}
use Rattle.cost_model.specs.Services.{MAX_ROUTES, prefix_of}
use Rattle.settings.specs.declared.keys.Key.TheVariants as keys
use Rattle.settings.specs.declared.config_fault.ConfigFault.{ConfigFault}
use Rattle.settings.specs.ConfigFaults.{shape, range}
use Rattle.settings.specs.Keys.{name_of}
use Rattle.settings.specs.Documents.{◌>>=◌, number_in}
use Rattle.settings.specs.Pools.{each_number, count, named_pool}

-- the segments that were read, if they may be a prefix
abbrev pub segments_or_fault : Option (List (List ℕ)) → Result (List (List ℕ)) ConfigFault
segments_or_fault None = Err (range keys.RoutePrefix)
segments_or_fault (Some segments) = Ok segments

-- the prefix of a route, which has to be there
abbrev pub prefix_in : Option Data → Result (List (List ℕ)) ConfigFault
prefix_in (Some (string text)) = segments_or_fault (prefix_of text)
prefix_in other = Err (shape keys.RoutePrefix)

-- The route of a table of this document, where that is one. Without `kib` its bytes cost nothing, without `delay` its
-- responses take what all do, and without `pool` the servers of `costs` work on it.
abbrev pub route_in : Members → Option Members → Result Route ConfigFault
route_in document None = Err (shape keys.Route)
route_in document (Some table) = do
  prefix ← prefix_in (get_member (name_of keys.RoutePrefix) table)
  cost ← each_number table keys.RouteCost None
  kib ← each_number table keys.RouteKib (Some 0)
  delay ← each_number table keys.RouteDelay (Some (number_in document keys.Delay))
  pool ← named_pool (get_member (name_of keys.Pool) document) (get_member (name_of keys.RoutePool) table)
  Ok (record { prefix = prefix; cost = cost; kib = kib; delay = delay; pool = pool })

-- the routes of these, or the first fault
abbrev pub each_route : Members → Items → Result (List Route) ConfigFault
each_route document no_items = Ok []
each_route document (item d ds) = do
  route ← route_in document (as_table d)
  more ← each_route document ds
  Ok (route ∷ more)

-- the routes of what stands there, if anything does
abbrev pub routes_at : Members → Option Data → Result (List Route) ConfigFault
routes_at document None = Ok []
routes_at document (Some (array ds)) =
    if nat_le (count ds) MAX_ROUTES then each_route document ds else Err (range keys.Route)
routes_at document (Some _) = Err (shape keys.Route)

-- the routes of a document, in their order
unfoldable pub routes_of : Members → Result (List Route) ConfigFault
routes_of document = routes_at document (get_member (name_of keys.Route) document)
