-- What a reader has to believe: the definitions of this crate that the headline stands on, in reading order.
use Rattle.std.specs.Prelude.{ℕ, ◌+◌, ◌*◌, ◌/◌, ◌||◌, Bool, List, Option, Some, None, codes, bytes_eq, find}
use Rattle.std.specs.Prelude.{if◌then◌else◌}
use Rattle.std.specs.List.{starts_with}
use Rattle.paths.specs.declared.resolution.Outcome.{Outcome}
use Rattle.paths.specs.declared.resolution.Outcome.TheVariants.{File}
use Rattle.paths.specs.declared.target.Asked.{Asked}
use Rattle.paths.specs.declared.target.Asked.TheVariants.{Path}
use Rattle.paths.specs.Reference.{asked}

-- How long a virtual server works on a request, in ticks of one microsecond.

-- what a file costs, what each 1,024 bytes of it that are sent cost besides, and what every other answer costs; how
-- many servers work side by side on what no pool works on; and how long each response takes beside their work
pub record CostTable : Type 0 where
  pub file : ℕ
  pub kib : ℕ
  pub error : ℕ
  pub servers : ℕ
  pub delay : ℕ

-- bytes at this cost of each 1,024, rounded up to whole ticks
abbrev pub bytes_cost : ℕ → ℕ → ℕ
bytes_cost kib len = (len * kib + 1023) / 1024

-- A file whose bytes are sent costs its length besides; the answer to a HEAD of it, and that it was not modified, do
-- not.
abbrev pub service : CostTable → Outcome → Bool → Bool → ℕ → ℕ
service costs (File file) head unmodified len =
    if head || unmodified then costs.file
    else costs.file + bytes_cost costs.kib len
service costs _ head unmodified len = costs.error

-- Some requests cost something else, by their paths.

-- the requests whose path begins with these segments: what each costs, what each 1,024 bytes of a file that are sent
-- cost besides, how long its response takes beside the servers' work, and the pool of servers that works on it: pool 0
-- has the servers of the table
pub record Route : Type 0 where
  pub prefix : List (List ℕ)
  pub cost : ℕ
  pub kib : ℕ
  pub delay : ℕ
  pub pool : ℕ

-- what requests cost: by the first route that they are on, or else by the table; and how many servers each of the
-- pools from 1 on has
pub record Tariff : Type 0 where
  pub costs : CostTable
  pub routes : List Route
  pub pools : List ℕ

-- the first route whose prefix a path has, segment by segment; a target that isn't a path is on none
abbrev pub route_of : List Route → Asked → Option Route
route_of routes (Path segments folder) = find (λ route. starts_with bytes_eq segments route.prefix) routes
route_of routes other = None

-- how many of a file's bytes are sent
abbrev pub bytes_sent : Outcome → Bool → Bool → ℕ → ℕ
bytes_sent (File file) head unmodified len = if head || unmodified then 0 else len
bytes_sent _ head unmodified len = 0

-- what a request comes to: how long a server works on it, how long its response takes besides, and of which pool that
-- server is
pub record Charge : Type 0 where
  pub service : ℕ
  pub delay : ℕ
  pub pool : ℕ

-- on a route a request costs what the route says, whatever it is answered with
abbrev pub charge_on : CostTable → Option Route → Outcome → Bool → Bool → ℕ → Charge
charge_on costs (Some route) answer head unmodified len = record {
  service = route.cost + bytes_cost route.kib (bytes_sent answer head unmodified len);
  delay = route.delay;
  pool = route.pool;
}
charge_on costs None answer head unmodified len = record {
  service = service costs answer head unmodified len;
  delay = costs.delay;
  pool = 0;
}

-- A request with this target: its path is what the target asks for with GET, whatever the request's own method.
abbrev pub charge : Tariff → List ℕ → Outcome → Bool → Bool → ℕ → Charge
charge tariff target = charge_on tariff.costs (route_of tariff.routes (asked (codes "GET") target))
