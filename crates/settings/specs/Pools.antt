-- The pools of a settings document.
use Rattle.std.specs.Prelude.{ℕ, ◌+◌, nat_eq, nat_le, Bool, false, bytes_eq, List, [], ◌∷◌, Option, Some, None}
use Rattle.std.specs.Prelude.{Result, Ok, Err, if◌then◌else◌}
use Rattle.std.specs.List.{list_any}
use Rattle.toml.specs.Data.{Data, string, array, Items, no_items, item, Members, get_member, as_table}
use Rattle.cost_model.specs.Reference.{Route}
use Rattle.cost_model.specs.Services.{MAX_POOLS}
use Rattle.settings.specs.declared.keys.Key.{Key}
use Rattle.settings.specs.declared.keys.Key.TheVariants as keys
use Rattle.settings.specs.declared.config_fault.ConfigFault.{ConfigFault}
use Rattle.settings.specs.ConfigFaults.{shape, range}
use Rattle.settings.specs.Keys.{KeyKind, Each, row_of, name_of}
use Rattle.settings.specs.Documents.{◌>>=◌, number_of}

-- the integer of a table of a list at a key; without a default it has to be there
abbrev pub each_number_as : Key → KeyKind → Option ℕ → Option Data → Result ℕ ConfigFault
each_number_as key (Each least greatest) default (Some d) = number_of key least greatest d
each_number_as key (Each least greatest) (Some default) None = Ok default
each_number_as key other default d = Err (shape key)

abbrev pub each_number : Members → Key → Option ℕ → Result ℕ ConfigFault
each_number table key default = each_number_as key (row_of key).kind default (get_member (name_of key) table)

abbrev pub count : Items → ℕ
count no_items = 0
count (item d ds) = count ds + 1

-- what stands there is this text
abbrev pub is_text : List ℕ → Option Data → Bool
is_text name (Some (string text)) = bytes_eq text name
is_text name other = false

-- a pool has this name
abbrev pub has_name : List ℕ → Option Members → Bool
has_name name None = false
has_name name (Some table) = is_text name (get_member (name_of keys.PoolName) table)

-- the number of the first of these pools that has this name, where the first of all has number n
abbrev pub pool_number : ℕ → Items → List ℕ → Option ℕ
pool_number n no_items name = None
pool_number n (item d ds) name = if has_name name (as_table d) then Some n else pool_number (n + 1) ds name

abbrev pub is_number : ℕ → Option ℕ → Bool
is_number n None = false
is_number n (Some m) = nat_eq m n

-- the name of pool n is there, and no pool before it has it
abbrev pub own_name : Items → ℕ → Option Data → Result Unit ConfigFault
own_name pools n (Some (string name)) =
    if is_number n (pool_number 1 pools name) then Ok tt else Err (range keys.PoolName)
own_name pools n other = Err (shape keys.PoolName)

-- the servers of pool n of these
abbrev pub pool_in : Items → ℕ → Option Members → Result ℕ ConfigFault
pool_in pools n None = Err (shape keys.Pool)
pool_in pools n (Some table) = do
  named ← own_name pools n (get_member (name_of keys.PoolName) table)
  each_number table keys.PoolServers None

-- the servers of each of the pools from number n on, or the first fault
abbrev pub each_pool : Items → ℕ → Items → Result (List ℕ) ConfigFault
each_pool pools n no_items = Ok []
each_pool pools n (item d ds) = do
  servers ← pool_in pools n (as_table d)
  more ← each_pool pools (n + 1) ds
  Ok (servers ∷ more)

abbrev pub pools_at : Option Data → Result (List ℕ) ConfigFault
pools_at None = Ok []
pools_at (Some (array ds)) = if nat_le (count ds) MAX_POOLS then each_pool ds 1 ds else Err (range keys.Pool)
pools_at (Some _) = Err (shape keys.Pool)

-- the servers of each pool of a document, in their order
unfoldable pub pools_of : Members → Result (List ℕ) ConfigFault
pools_of document = pools_at (get_member (name_of keys.Pool) document)

-- how many pools a document lists
abbrev pub count_at : Option Data → ℕ
count_at (Some (array ds)) = count ds
count_at other = 0

abbrev pub pool_count : Members → ℕ
pool_count document = count_at (get_member (name_of keys.Pool) document)

-- the pool that a route names, by its number: none where it names none, of those that stand there
abbrev pub pool_or_fault : Option ℕ → Result ℕ ConfigFault
pool_or_fault None = Err (range keys.RoutePool)
pool_or_fault (Some n) = Ok n

abbrev pub number_in_list : Option Data → List ℕ → Option ℕ
number_in_list (Some (array ds)) name = pool_number 1 ds name
number_in_list other name = None

abbrev pub named_pool : Option Data → Option Data → Result ℕ ConfigFault
named_pool pools None = Ok 0
named_pool pools (Some (string name)) = pool_or_fault (number_in_list pools name)
named_pool pools (Some _) = Err (shape keys.RoutePool)

-- each of the pools from number n on is named by a route
abbrev pub is_used : List Route → ℕ → Bool
is_used routes n = list_any (λ route. nat_eq route.pool n) routes

abbrev pub each_used : ℕ → List ℕ → List Route → Result Unit ConfigFault
each_used n [] routes = Ok tt
each_used n (servers ∷ pools) routes =
    if is_used routes n then each_used (n + 1) pools routes else Err (range keys.PoolName)
