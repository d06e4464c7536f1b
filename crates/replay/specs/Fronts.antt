-- The steps that a message takes before it is decided on.
use Rattle.std.specs.Prelude.{ℕ, List, nat_lt, if◌then◌else◌}
use Rattle.std.specs.Coded.{Unit-prop, le_prop, coded_bool}
use denote.Struct.Props.{≡_prop}
use Rattle.stage_graph.specs.Steps.{value_of}
use Rattle.paths.specs.Reference.{asked, outcome}
use Rattle.paths.specs.Resolution.{IsOutcome}
use Rattle.paths.specs.declared.file.File.{File}
use Rattle.paths.specs.declared.resolution.Outcome.{Outcome}
use Rattle.paths.specs.declared.resolution.Outcome.TheVariants as outcomes
use Rattle.http_requests.specs.declared.messages.Meaning.{Meaning}
use Rattle.http_requests.specs.declared.messages.Meaning.TheVariants.{Request, Bad}
use Rattle.cost_model.specs.Reference.{Tariff, charge}
use Rattle.reference.specs.Reference.{is_head, is_unmodified_file, length_found}
use Rattle.replay.specs.declared.lookup.Lookup.{Lookup}
use Rattle.replay.specs.declared.lookup.Lookup.TheVariants.{Unseen, Asked, Found, Priced}
use Rattle.arrivals.specs.declared.incoming.Incoming.{Incoming}
use Rattle.replay.specs.declared.lookup.LookedUp.{LookedUp}

-- what is known of a message after one more step; one that breaks a rule passes unchanged
abbrev pub lookup_after : List File → Tariff → Meaning → Lookup → Lookup
lookup_after files tariff (Bad fault) lookup = lookup
lookup_after files tariff (Request method target version closing since) Unseen = Asked (asked method target)
lookup_after files tariff (Request method target version closing since) (Asked a) = Found (outcome files a)
lookup_after files tariff (Request method target version closing since) (Found o) = Priced o
    (charge tariff target o (is_head method) (is_unmodified_file files since o) (length_found files o))
lookup_after files tariff (Request method target version closing since) (Priced o cost) = Priced o cost

abbrev pub front_step : List File → Tariff → ℕ → LookedUp → LookedUp
front_step files tariff k v = record { message = v.message; lookup = lookup_after files tariff v.message.what v.lookup }

-- a message that wasn't looked up yet
abbrev pub unseen : Incoming → LookedUp
unseen message = record { message = message; lookup = Unseen }

-- an outcome that was found is one of these files'
abbrev pub IsLookup : List File → Lookup → Type 0
IsLookup files (Found o) = IsOutcome files o
IsLookup files (Priced o cost) = IsOutcome files o
IsLookup files lookup = Unit {0}

outcome_prop : (files : List File) (o : Outcome) → IsProp (IsOutcome files o)
outcome_prop files (outcomes.File file) = le_prop
outcome_prop files (outcomes.Move to) = ≡_prop coded_bool _ _
outcome_prop files outcomes.Missing = Unit-prop
outcome_prop files outcomes.BadTarget = Unit-prop
outcome_prop files outcomes.NotAllowed = Unit-prop
outcome_prop files outcomes.NotKnown = Unit-prop

pub lookup_prop : (files : List File) (lookup : Lookup) → IsProp (IsLookup files lookup)
lookup_prop files Unseen = Unit-prop
lookup_prop files (Asked a) = Unit-prop
lookup_prop files (Found o) = outcome_prop files o
lookup_prop files (Priced o cost) = outcome_prop files o

-- what is known of a message before it is decided on: what it asks for, what that is, and what it costs
abbrev pub front_value : List File → Tariff → Incoming → LookedUp
front_value files tariff message = value_of (front_step files tariff) 3 (unseen message)

-- the same of the message alone, wherever it came from
abbrev pub lookup_of : List File → Tariff → Meaning → Lookup
lookup_of files tariff what = lookup_after files tariff what
    (lookup_after files tariff what (lookup_after files tariff what Unseen))

-- A target that was read is worth what it is found to ask for: one that names a file literally is looked up where it is
-- read.
abbrev pub seen_as : List File → Lookup → Lookup
seen_as files (Asked a) = Found (outcome files a)
seen_as files Unseen = Unseen
seen_as files (Found o) = Found o
seen_as files (Priced o cost) = Priced o cost

-- what is known of a message after step k of the front floor: steps 0 and 1 find what it asks for, step 2 what that
-- costs
abbrev pub floor_lookup : List File → Tariff → ℕ → Meaning → Lookup → Lookup
floor_lookup files tariff k (Bad fault) lookup = lookup
floor_lookup files tariff k (Request method target version closing since) Unseen =
    Found (outcome files (asked method target))
floor_lookup files tariff k (Request method target version closing since) (Asked a) = Found (outcome files a)
floor_lookup files tariff k (Request method target version closing since) (Found o) =
    if nat_lt k 2 then Found o
    else Priced o (charge tariff target o (is_head method) (is_unmodified_file files since o) (length_found files o))
floor_lookup files tariff k (Request method target version closing since) (Priced o cost) = Priced o cost

abbrev pub floor_step : List File → Tariff → ℕ → LookedUp → LookedUp
floor_step files tariff k v =
    record { message = v.message; lookup = floor_lookup files tariff k v.message.what v.lookup }
