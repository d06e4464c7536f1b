-- What an operator sets.
use Rattle.std.specs.Prelude.{◌≡◌, ℕ, ◌≤◌, ◌&&◌, nat_eq, nat_le, Option, Some, None, if◌then◌else◌}
use Rattle.stage_graph.specs.After.{last_cut}
use Rattle.reference.specs.declared.settings.SettingsFault.{SettingsFault}
use Rattle.reference.specs.declared.settings.SettingsFault.TheVariants.{Front, Back, Batch, Cache, Retry}
use Rattle.std.specs.Prelude.{List, []}
use Rattle.stage_graph.specs.Layouts.{Layout}
use Rattle.cost_model.specs.Reference.{Tariff, CostTable, Route}
use Rattle.admission.specs.declared.policy.PolicyNumbers.{PolicyNumbers}
use Rattle.reference.specs.Reference.{Choice, Terms}

-- how many steps a request takes on the front floor and on the back floor, the most records of a batch, the most bytes
-- of the cache, the longest wait of a rejected request, in seconds, and the least and the greatest speed, in percent
abbrev pub front_steps : ℕ
front_steps = 3

abbrev pub back_steps : ℕ
back_steps = 2

abbrev pub max_batch : ℕ
max_batch = 65536

abbrev pub max_cache : ℕ
max_cache = 1073741824

abbrev pub max_retry_after : ℕ
max_retry_after = 86400

abbrev pub min_speed : ℕ
min_speed = 100

abbrev pub max_speed : ℕ
max_speed = 10000

-- the choice of these values, without routes and pools, of traffic that comes as it was recorded
abbrev pub choice_of : Layout → Layout → (batch cache : ℕ) → CostTable → List PolicyNumbers → ℕ → Choice
choice_of front back batch cache costs policies retry_after = record {
  floors = record { front = front; back = back; batch = batch; cache = cache };
  served = record {
    tariff = record { costs = costs; routes = []; pools = [] };
    policies = policies;
    retry_after = retry_after;
    speed = 100;
  };
}

-- terms with another tariff: other costs, or other routes
abbrev pub with_tariff : Tariff → Terms → Terms
with_tariff tariff terms = record {
  tariff = tariff;
  policies = terms.policies;
  retry_after = terms.retry_after;
  speed = terms.speed;
}

-- terms with these routes and pools
abbrev pub with_routes : List Route → List ℕ → Terms → Terms
with_routes routes pools terms =
    with_tariff (record { costs = terms.tariff.costs; routes = routes; pools = pools }) terms

-- terms with other policies
abbrev pub with_policies : List PolicyNumbers → Terms → Terms
with_policies policies terms = record {
  tariff = terms.tariff;
  policies = policies;
  retry_after = terms.retry_after;
  speed = terms.speed;
}

-- these terms where traffic comes at so many percent of the speed at which it was recorded
abbrev pub at_speed : ℕ → Terms → Terms
at_speed speed terms = record {
  tariff = terms.tariff;
  policies = terms.policies;
  retry_after = terms.retry_after;
  speed = speed;
}

-- the first of the faults in their order
abbrev pub settings_fault : Choice → Option SettingsFault
settings_fault c =
    if nat_eq (last_cut c.floors.front) front_steps then (
    if nat_eq (last_cut c.floors.back) back_steps then (
    if nat_le 1 c.floors.batch && nat_le c.floors.batch max_batch then (
    if nat_le c.floors.cache max_cache then (
    if nat_le c.served.retry_after max_retry_after then None
    else Some Retry)
    else Some Cache)
    else Some Batch)
    else Some Back)
    else Some Front

-- the ranges that all settings keep
pub record IsChoice (c : Choice) : Type 0 where
  pub front : last_cut c.floors.front ≡ front_steps
  pub back : last_cut c.floors.back ≡ back_steps
  pub batch : (1 ≤ c.floors.batch) × (c.floors.batch ≤ max_batch)
  pub cache : c.floors.cache ≤ max_cache
  pub retry_after : c.served.retry_after ≤ max_retry_after
  pub speed : (min_speed ≤ c.served.speed) × (c.served.speed ≤ max_speed)
