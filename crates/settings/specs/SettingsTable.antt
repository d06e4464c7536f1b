-- The settings of a document: the values of its keys, and what must hold between them.
use Rattle.admission.specs.declared.policy.PolicyNumbers.{PolicyNumbers}
use Rattle.std.specs.Prelude.{ℕ, ◌&&◌, List, [], ◌∷◌, length, Option, Some, None, Result, Ok, Err, nat_eq, nat_le}
use Rattle.std.specs.Prelude.{is_none, if◌then◌else◌}
use Rattle.std.specs.Str.{is_utf8}
use Rattle.toml.specs.Data.{Members}
use Rattle.toml.specs.Parse.{parse_document}
use Rattle.stage_graph.specs.Layouts.{Layout, layout_of}
use Rattle.stage_graph.specs.PlanFaults.{plan_fault}
use Rattle.stage_graph.specs.After.{last_cut}
use Rattle.cost_model.specs.Reference.{Route}
use Rattle.reference.specs.Reference.{Choice}
use Rattle.settings.specs.declared.keys.Key.{Key}
use Rattle.settings.specs.declared.keys.Key.TheVariants as keys
use Rattle.settings.specs.declared.keys.PolicyTable.{PolicyTable}
use Rattle.settings.specs.declared.keys.PolicyTable.TheVariants as tables
use Rattle.settings.specs.declared.keys.PolicyKey.TheVariants as policy
use Rattle.settings.specs.declared.config_fault.ConfigFault.{ConfigFault}
use Rattle.settings.specs.ConfigFaults.{no_text, not_known, range}
use Rattle.settings.specs.Keys.{KeyKind, Lists, row_of, all_keys, default_of, defaults_of, costs_with, policy_with}
use Rattle.settings.specs.Documents.{◌>>=◌, misplaced_in, values_fit, number_in, numbers_in}
use Rattle.settings.specs.Pools.{pools_of, each_used}
use Rattle.settings.specs.Routes.{routes_of}

-- the lists as the plan of a floor, whose last stage ends with this step
abbrev pub plan_with : Key → ℕ → List ℕ → List ℕ → List ℕ → Result Layout ConfigFault
plan_with floor steps cuts workers capacities =
    let plan = layout_of cuts workers capacities in
    if is_none (plan_fault cuts workers capacities) && nat_eq (last_cut plan) steps then Ok plan
    else Err (range floor)

abbrev pub plan_as : Members → Key → ℕ → KeyKind → Result Layout ConfigFault
plan_as document floor steps (Lists cuts workers capacities) =
    plan_with floor steps (numbers_in document cuts) (numbers_in document workers) (numbers_in document capacities)
plan_as document floor steps other = Err (range floor)

abbrev pub plan_of : Members → Key → ℕ → Result Layout ConfigFault
plan_of document floor steps = plan_as document floor steps (row_of floor).kind

-- the policy of a table, where the rate lies between its two ends
abbrev pub in_order : PolicyTable → PolicyNumbers → Result PolicyNumbers ConfigFault
in_order table p =
    if nat_le p.rate_min p.rate && nat_le p.rate p.rate_max then Ok p
    else Err (range (keys.InPolicy table policy.Rate))

unfoldable pub policy_of : Members → PolicyTable → Result PolicyNumbers ConfigFault
policy_of document table = in_order table (policy_with (λ key. number_in document (keys.InPolicy table key)))

-- the policies of the tiers 0 to 3, each in turn
unfoldable pub policies_of : Members → Result (List PolicyNumbers) ConfigFault
policies_of document = do
  policy ← policy_of document tables.Policy
  tier1 ← policy_of document tables.Tier1
  tier2 ← policy_of document tables.Tier2
  tier3 ← policy_of document tables.Tier3
  Ok (policy ∷ tier1 ∷ tier2 ∷ tier3 ∷ [])

-- the pools and then the routes, where each pool is named by a route
unfoldable pub services_of : Members → Result (List ℕ × List Route) ConfigFault
services_of document = do
  pools ← pools_of document
  routes ← routes_of document
  used ← each_used 1 pools routes
  Ok (pools, routes)

-- what is said fits together: the floors, then the policies, then the pools, and then the routes
abbrev pub chosen : Members → Result Choice ConfigFault
chosen document = do
  front ← plan_of document keys.Front 3
  back ← plan_of document keys.Back 2
  policies ← policies_of document
  services ← services_of document
  Ok (record {
    floors = record {
      front = front;
      back = back;
      batch = number_in document keys.Batch;
      cache = number_in document keys.Cache;
    };
    served = record {
      tariff = record { costs = costs_with (number_in document); routes = services.1; pools = services.0 };
      policies = policies;
      retry_after = number_in document keys.RetryAfter;
      speed = 100;
    };
  })

-- the settings of a document, or its first fault: a key that may not stand there, then the values of the keys in their
-- order, and then how they fit together
abbrev pub settings_of : Members → Result Choice ConfigFault
settings_of document =
    if is_none (misplaced_in document None) then (values_fit document all_keys >>= (λ _. chosen document))
    else Err not_known

-- the settings of a document without keys
abbrev pub default_policy : PolicyNumbers
default_policy = policy_with (λ key. default_of (keys.InPolicy tables.Policy key))

abbrev pub default_choice : Choice
default_choice = record {
  floors = record {
    front = layout_of (defaults_of keys.FrontCuts) (defaults_of keys.FrontWorkers) (defaults_of keys.FrontCapacities);
    back = layout_of (defaults_of keys.BackCuts) (defaults_of keys.BackWorkers) (defaults_of keys.BackCapacities);
    batch = default_of keys.Batch;
    cache = default_of keys.Cache;
  };
  served = record {
    tariff = record { costs = costs_with default_of; routes = []; pools = [] };
    policies = default_policy ∷ default_policy ∷ default_policy ∷ default_policy ∷ [];
    retry_after = default_of keys.RetryAfter;
    speed = 100;
  };
}

-- the document that a text of at most 65,536 bytes writes
abbrev pub document_of : List ℕ → Option Members
document_of bytes = if nat_le (length bytes) 65536 && is_utf8 bytes then parse_document bytes else None

abbrev pub settings_or_no_text : Option Members → Result Choice ConfigFault
settings_or_no_text None = Err no_text
settings_or_no_text (Some document) = settings_of document

-- the settings of a text, or its first fault
abbrev pub settings_read : List ℕ → Result Choice ConfigFault
settings_read bytes = settings_or_no_text (document_of bytes)
