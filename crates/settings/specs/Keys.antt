-- The table of a settings document (docs/FORMATS.md, "Settings"): each key with its table and its name, what may stand
-- there, and what is said of it.
use Rattle.std.specs.Prelude.{ℕ, ◌≤◌, ◌≡◌, Bool, true, false, ◌++◌, if◌then◌else◌, List, [], ◌∷◌, map, flat_map}
use Rattle.std.specs.Prelude.{Option, Some, None, codes, bytes_eq, find}
use Rattle.cost_model.specs.Reference.{CostTable}
use Rattle.admission.specs.declared.policy.PolicyNumbers.{PolicyNumbers}
use Rattle.settings.specs.declared.keys.Key.{Key}
use Rattle.settings.specs.declared.keys.Key.TheVariants as keys
use Rattle.settings.specs.declared.keys.PolicyTable.TheVariants as tables
use Rattle.settings.specs.declared.keys.PolicyKey.{PolicyKey}
use Rattle.settings.specs.declared.keys.PolicyKey.TheVariants as policy
use Rattle.settings.specs.declared.keys.Kind.{Kind}
use Rattle.settings.specs.declared.keys.Kind.TheVariants as kinds
use Rattle.settings.specs.declared.keys.Row.{Row}

-- what may stand at a key: a table of the document; an integer, with its default, the least and the greatest one; a
-- list of integers, with its default; or no value but the three lists of a floor, which are to fit together. Or a list
-- of tables, and in each of them a text, or an integer, with the least and the greatest one.
pub data KeyKind : Type 0 where
  Table : KeyKind
  Number : (default least greatest : ℕ) → KeyKind
  Numbers : (default : List ℕ) → KeyKind
  Lists : (cuts workers capacities : Key) → KeyKind
  Tables : KeyKind
  Text : KeyKind
  Each : (least greatest : ℕ) → KeyKind

-- a row of the table: the table that holds the key, which is its own where it is one; its name there; what may stand
-- at it; its unit, its range and what it is; and what its unit is in another one, where that helps
pub record KeyRow : Type 0 where
  pub table : Key
  pub name : List ℕ
  pub kind : KeyKind
  pub comment : List ℕ
  pub scale : List ℕ

abbrev row : Key → List ℕ → KeyKind → List ℕ → KeyRow
row table name kind comment = record { table = table; name = name; kind = kind; comment = comment; scale = [] }

-- the same of a rate
abbrev rate_row : Key → List ℕ → KeyKind → List ℕ → List ℕ → KeyRow
rate_row table name kind comment scale =
    record { table = table; name = name; kind = kind; comment = comment; scale = scale }

-- a key of a policy
abbrev pub policy_row : Key → PolicyKey → KeyRow
policy_row table policy.Window = row table (codes "window") (Number 100 1 4096)
    (codes "response times, 1 to 4096: of how many of the last ones the 90th percentile is taken")
policy_row table policy.Every = row table (codes "every") (Number 100 1 4096)
    (codes "admitted requests, 1 to 4096: after how many the controller looks again")
policy_row table policy.Smoothing = row table (codes "smoothing") (Number 700 0 999)
    (codes "thousandths, 0 to 999: how much of the former value stays (700 is a weight of 0.7 for the past)")
policy_row table policy.Rate = rate_row table (codes "rate") (Number 1000000 1 1000000000)
    (codes "thousandths of a token a second, rate_min to rate_max: how fast tokens come back at first")
    (codes "; 1000 is one request a second, and rate_min and rate_max count where they are left out too")
policy_row table policy.RateMin = rate_row table (codes "rate_min") (Number 50000 1 1000000000)
    (codes "thousandths of a token a second, 1 to rate_max: the rate never falls below it")
    (codes "; 1000 is one request a second")
policy_row table policy.RateMax = rate_row table (codes "rate_max") (Number 5000000 1 1000000000)
    (codes "thousandths of a token a second, rate_min to 1000000000: the rate never rises above it")
    (codes "; 1000 is one request a second")
policy_row table policy.Up = rate_row table (codes "up") (Number 2000 0 1000000000)
    (codes "thousandths of a token a second, 0 to 1000000000: by how much the rate rises at once")
    (codes "; 1000 is one request a second")
policy_row table policy.Down = row table (codes "down") (Number 120 101 10000)
    (codes "hundredths, 101 to 10000: what the rate is divided by where it falls (120 divides it by 1.2)")
policy_row table policy.Target = row table (codes "target") (Number 100000 1 1000000000000)
    (codes "microseconds, 1 to 1000000000000: above this response time the rate falls")
policy_row table policy.Low = row table (codes "low") (Number 90 0 100)
    (codes "percent of the target, 0 to 100: below this part of it the rate rises")
policy_row table policy.Depth = row table (codes "depth") (Number 100 1 1000000)
    (codes "tokens, 1 to 1000000: how many the bucket holds; it starts full")

-- any key; a table and the lists of a floor together have no value, and nothing is said of them
abbrev pub row_of : Key → KeyRow
row_of keys.Floor = row keys.Floor (codes "floor") Table []
row_of keys.FrontCuts = row keys.Floor (codes "front_cuts") (Numbers (1 ∷ 2 ∷ 3 ∷ []))
    (codes "steps, rising from at least 1, the last 3: how many of the front's are done where each stage ends")
row_of keys.FrontWorkers = row keys.Floor (codes "front_workers") (Numbers (2 ∷ 2 ∷ 2 ∷ []))
    (codes "workers, 1 to 16 for each stage: how many requests, or chunks of them, it works on at once")
row_of keys.FrontCapacities = row keys.Floor (codes "front_capacities") (Numbers (64 ∷ 64 ∷ 64 ∷ []))
    (codes "requests, 1 to 4096 for each stage: how many its queue holds")
row_of keys.BackCuts = row keys.Floor (codes "back_cuts") (Numbers (1 ∷ 2 ∷ []))
    (codes "steps, rising from at least 1, the last 2: how many of the back's are done where each stage ends")
row_of keys.BackWorkers = row keys.Floor (codes "back_workers") (Numbers (2 ∷ 2 ∷ []))
    (codes "workers, 1 to 16 for each stage: how many requests, or chunks of them, it works on at once")
row_of keys.BackCapacities = row keys.Floor (codes "back_capacities") (Numbers (64 ∷ 64 ∷ []))
    (codes "requests, 1 to 4096 for each stage: how many its queue holds")
row_of keys.Batch = row keys.Floor (codes "batch") (Number 1024 1 65536)
    (codes "pieces, 1 to 65536: how many are read at a time")
row_of keys.Cache = row keys.Floor (codes "cache") (Number 67108864 0 1073741824)
    (codes "bytes, 0 to 1073741824: how much the cache of pages holds")
row_of keys.Front =
    row keys.Floor (codes "front") (Lists keys.FrontCuts keys.FrontWorkers keys.FrontCapacities) []
row_of keys.Back = row keys.Floor (codes "back") (Lists keys.BackCuts keys.BackWorkers keys.BackCapacities) []
row_of keys.Costs = row keys.Costs (codes "costs") Table []
row_of keys.File = row keys.Costs (codes "file") (Number 200 1 1000000)
    (codes "microseconds, 1 to 1000000: how long the server works on a file")
row_of keys.Kib = row keys.Costs (codes "kib") (Number 10 0 1000000)
    (codes "microseconds, 0 to 1000000: how long it works besides on each 1024 bytes that are given")
row_of keys.Error = row keys.Costs (codes "error") (Number 50 1 1000000)
    (codes "microseconds, 1 to 1000000: how long it works on any other answer")
row_of keys.Servers = row keys.Costs (codes "servers") (Number 1 1 1024)
    (codes "servers, 1 to 1024: how many work side by side, each on one request at a time")
row_of keys.Delay = row keys.Costs (codes "delay") (Number 0 0 1000000000)
    (codes "microseconds, 0 to 1000000000: how long each response takes beside the server's work")
row_of (keys.Policy tables.Policy) = row (keys.Policy tables.Policy) (codes "policy") Table []
row_of (keys.Policy tables.Tier1) = row (keys.Policy tables.Tier1) (codes "tier1") Table []
row_of (keys.Policy tables.Tier2) = row (keys.Policy tables.Tier2) (codes "tier2") Table []
row_of (keys.Policy tables.Tier3) = row (keys.Policy tables.Tier3) (codes "tier3") Table []
row_of (keys.InPolicy table key) = policy_row (keys.Policy table) key
row_of keys.Page = row keys.Page (codes "page") Table []
row_of keys.RetryAfter = row keys.Page (codes "retry_after") (Number 1 0 86400)
    (codes "seconds, 0 to 86400: after how long a rejected request may be tried again (Retry-After)")
row_of keys.Pool = row keys.Pool (codes "pool") Tables
    (codes "at most 16 of them, each below a line [[pool]]")
row_of keys.PoolName = row keys.Pool (codes "name") Text
    (codes "what routes name it by, unlike any other; each pool is named by a route")
row_of keys.PoolServers = row keys.Pool (codes "servers") (Each 1 1024)
    (codes "servers, 1 to 1024: how many work side by side on the requests of its routes alone")
row_of keys.Route = row keys.Route (codes "route") Tables
    (codes "at most 64 of them, each below a line [[route]]")
row_of keys.RoutePrefix = row keys.Route (codes "prefix") Text
    (codes "a decoded path from its first slash on: what is at it and below it is on the route")
row_of keys.RouteCost = row keys.Route (codes "cost") (Each 1 1000000000)
    (codes "microseconds, 1 to 1000000000: how long the server works on a request, whatever its answer")
row_of keys.RouteKib = row keys.Route (codes "kib") (Each 0 1000000)
    (codes "microseconds, 0 to 1000000: how long it works besides on each 1024 bytes that are given")
row_of keys.RouteDelay = row keys.Route (codes "delay") (Each 0 1000000000)
    (codes "microseconds, 0 to 1000000000: how long each response takes beside the server's work")
row_of keys.RoutePool = row keys.Route (codes "pool") Text
    (codes "the name of a pool: its servers work on these requests, and those of costs on all others")

-- the keys that the table of a policy may have
abbrev pub policy_keys : List PolicyKey
policy_keys =
    policy.Window ∷ policy.Every ∷ policy.Smoothing ∷ policy.Rate ∷ policy.RateMin ∷ policy.RateMax ∷ policy.Up
    ∷ policy.Down ∷ policy.Target ∷ policy.Low ∷ policy.Depth ∷ []

-- the keys that a table may have; without a table, the tables that a document may have
abbrev pub keys_in : Option Key → List Key
keys_in None =
    keys.Floor ∷ keys.Costs ∷ keys.Policy tables.Policy ∷ keys.Page
    ∷ keys.Policy tables.Tier1 ∷ keys.Policy tables.Tier2 ∷ keys.Policy tables.Tier3
    ∷ keys.Pool ∷ keys.Route ∷ []
keys_in (Some keys.Floor) =
    keys.FrontCuts ∷ keys.FrontWorkers ∷ keys.FrontCapacities ∷ keys.BackCuts ∷ keys.BackWorkers ∷ keys.BackCapacities
    ∷ keys.Batch ∷ keys.Cache ∷ []
keys_in (Some keys.Costs) = keys.File ∷ keys.Kib ∷ keys.Error ∷ keys.Servers ∷ keys.Delay ∷ []
keys_in (Some keys.Page) = keys.RetryAfter ∷ []
keys_in (Some keys.Pool) = keys.PoolName ∷ keys.PoolServers ∷ []
keys_in (Some keys.Route) =
    keys.RoutePrefix ∷ keys.RouteCost ∷ keys.RouteKib ∷ keys.RouteDelay ∷ keys.RoutePool ∷ []
keys_in (Some (keys.Policy table)) = map (keys.InPolicy table) policy_keys
keys_in (Some _) = []

-- a table and the keys that it may have
abbrev pub with_keys : Key → List Key
with_keys table = table ∷ keys_in (Some table)

-- all tables and keys that a document may have, in their order
unfoldable pub all_keys : List Key
all_keys = flat_map with_keys (keys_in None)

-- ---- what the rows say

-- the name of a key in its table
abbrev pub name_of : Key → List ℕ
name_of key = (row_of key).name

-- the table that holds it; a table is its own
abbrev pub table_of : Key → Key
table_of key = (row_of key).table

abbrev pub is_table_kind : KeyKind → Bool
is_table_kind Table = true
is_table_kind Tables = true
is_table_kind other = false

-- whether the key is a table, or a list of tables
abbrev pub is_table : Key → Bool
is_table key = is_table_kind (row_of key).kind

-- where it stands in a document, as `costs.file`
abbrev pub path_of : Key → List ℕ
path_of key = if is_table key then name_of key else name_of (table_of key) ++ codes "." ++ name_of key

-- the key of this name in a table, if it may stand there
abbrev pub key_at : Option Key → List ℕ → Option Key
key_at table name = find (λ key. bytes_eq (name_of key) name) (keys_in table)

abbrev pub default_number : KeyKind → ℕ
default_number (Number default least greatest) = default
default_number other = 0

abbrev pub default_numbers : KeyKind → List ℕ
default_numbers (Numbers default) = default
default_numbers other = []

-- the integer of a key that a document says nothing of, nought where none may stand; and its list of integers
abbrev pub default_of : Key → ℕ
default_of key = default_number (row_of key).kind

abbrev pub defaults_of : Key → List ℕ
defaults_of key = default_numbers (row_of key).kind

-- an integer is within the range of what may stand there
abbrev pub IsWithin : KeyKind → ℕ → Type 0
IsWithin (Number default least greatest) n = (least ≤ n) × (n ≤ greatest)
IsWithin other n = Unit

-- an integer is within the range of what may stand there in each table of a list
abbrev pub IsOfEach : KeyKind → ℕ → Type 0
IsOfEach (Each least greatest) n = (least ≤ n) × (n ≤ greatest)
IsOfEach other n = Unit

-- its default is
abbrev pub HasDefault : KeyKind → Type 0
HasDefault kind = IsWithin kind (default_number kind)

-- ---- what the integers of the keys make

-- the service times
abbrev pub costs_with : (Key → ℕ) → CostTable
costs_with at = record {
  file = at keys.File;
  kib = at keys.Kib;
  error = at keys.Error;
  servers = at keys.Servers;
  delay = at keys.Delay;
}

-- the policy of these
abbrev pub policy_with : (PolicyKey → ℕ) → PolicyNumbers
policy_with at = record {
  window = at policy.Window;
  every = at policy.Every;
  smoothing = at policy.Smoothing;
  rate = at policy.Rate;
  rate_min = at policy.RateMin;
  rate_max = at policy.RateMax;
  up = at policy.Up;
  down = at policy.Down;
  target = at policy.Target;
  low = at policy.Low;
  depth = at policy.Depth;
}

-- ---- the rows of the code

abbrev pub IsKind : Kind → KeyKind → Type 0
IsKind kinds.Table kind = kind ≡ Table
IsKind (kinds.Number default least greatest) kind = kind ≡ Number default least greatest
IsKind (kinds.Numbers default) kind = kind ≡ Numbers default.now
IsKind (kinds.Lists cuts workers capacities) kind = kind ≡ Lists cuts workers capacities
IsKind kinds.Tables kind = kind ≡ Tables
IsKind kinds.Text kind = kind ≡ Text
IsKind (kinds.Each least greatest) kind = kind ≡ Each least greatest

-- a row of the code says the same, but for the table
abbrev pub IsRow : Row → KeyRow → Type 0
IsRow r row =
    (r.name.now ≡ row.name) × IsKind r.kind row.kind × (r.comment.now ≡ row.comment) × (r.scale.now ≡ row.scale)
