-- How long the virtual server works on a request, in ticks of one microsecond.
use Rattle.std.specs.Prelude.{ℕ, ◌≤◌, ◌&&◌, Bool, nat_le, ◌-◌, ◌==◌, List, [], ◌∷◌, Option, Some, None, codes, length}
use Rattle.std.specs.Prelude.{nat_eq, take, All, if◌then◌else◌}
use Rattle.cost_model.specs.Reference.{CostTable, Route}
use Rattle.std.specs.List.{ends_with, list_all, slice_split}
use Rattle.paths.specs.Reference.{slash}
use Rattle.paths.specs.Snapshots.{is_part}

-- the greatest of the three costs, the most servers, the longest delay, the greatest cost of a route, the most routes,
-- and the most pools besides pool 0; the code has constants of these names
abbrev pub MAX_COST : ℕ
MAX_COST = 1000000

abbrev pub MAX_SERVERS : ℕ
MAX_SERVERS = 1024

abbrev pub MAX_DELAY : ℕ
MAX_DELAY = 1000000000

abbrev pub MAX_ROUTE_COST : ℕ
MAX_ROUTE_COST = 1000000000

abbrev pub MAX_ROUTES : ℕ
MAX_ROUTES = 64

abbrev pub MAX_POOLS : ℕ
MAX_POOLS = 16

abbrev pub is_in_range : CostTable → Bool
is_in_range costs =
    nat_le 1 costs.file && nat_le costs.file MAX_COST
    && nat_le costs.kib MAX_COST
    && nat_le 1 costs.error && nat_le costs.error MAX_COST
    && nat_le 1 costs.servers && nat_le costs.servers MAX_SERVERS
    && nat_le costs.delay MAX_DELAY

-- the numbers of a route are in their ranges
pub record IsRoute (cost kib delay pool : ℕ) : Type 0 where
  pub costs : (1 ≤ cost) × (cost ≤ MAX_ROUTE_COST)
  pub kibs : kib ≤ MAX_COST
  pub delays : delay ≤ MAX_DELAY
  pub pools : pool ≤ MAX_POOLS

-- the pools from 1 on: at most 16, each of 1 to 1,024 servers
pub record ArePools (pools : List ℕ) : Type 0 where
  pub few : length pools ≤ MAX_POOLS
  pub each : All (λ servers. (1 ≤ servers) × (servers ≤ MAX_SERVERS)) pools

-- each route names a pool that is there
abbrev pub AreServed : List Route → List ℕ → Type 0
AreServed routes pools = All (λ route. route.pool ≤ length pools) routes

-- The most ticks that a service takes: on a route at most 1,000,000,000 and 16,384 KiB at 1,000,000 each, and less on
-- none.
abbrev pub longest_service : ℕ
longest_service = 20000000000

-- The text of a route's prefix.

-- a text without the slash that it may end with
abbrev pub without_slash : List ℕ → List ℕ
without_slash text = if ends_with nat_eq text (codes "/") then take (length text - 1) text else text

-- what stands between slashes
abbrev pub parts_of : List ℕ → List (List ℕ)
parts_of text = slice_split (λ b. b == slash) text

-- segments that a path may have: none is empty, `.` or `..`
abbrev pub whole : List (List ℕ) → Option (List (List ℕ))
whole segments = if list_all is_part segments then Some segments else None

-- the segments after the first slash; one more slash at the end says nothing
abbrev pub segments_after : List ℕ → Option (List (List ℕ))
segments_after [] = Some []
segments_after (b ∷ text) = whole (parts_of (without_slash (b ∷ text)))

-- the segments of a prefix, which begins with a slash
abbrev pub prefix_of : List ℕ → Option (List (List ℕ))
prefix_of [] = None
prefix_of (b ∷ text) = if b == slash then segments_after text else None
