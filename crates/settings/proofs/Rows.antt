-- What the definitions say of worked rows, computed.
use Rattle.admission.specs.declared.policy.PolicyNumbers.{PolicyNumbers}
use Rattle.std.proofs.Common.{◌≡◌, [], ◌∷◌, codes, pos, Ok, Err, refl}
use Rattle.toml.specs.Data.{Members, no_members, member, integer, table, array, no_items, item}
use Rattle.settings.specs.declared.keys.Key.TheVariants as keys
use Rattle.settings.specs.declared.keys.PolicyTable.TheVariants as tables
use Rattle.settings.specs.declared.keys.PolicyKey.TheVariants as policy
use Rattle.settings.specs.ConfigFaults.{shape, range, not_known}
use Rattle.settings.specs.Keys.{all_keys}
use Rattle.settings.specs.Documents.{fits, number_in, numbers_in}
use Rattle.settings.specs.Pools.{pools_of}
use Rattle.settings.specs.Routes.{routes_of}
use Rattle.settings.specs.SettingsTable.{settings_of, default_choice, default_policy, policies_of, policy_of, services_of}

depth : settings_of (member (codes "policy") (table (member (codes "depth") (integer (pos 0)) no_members)) no_members) ≡ Err (range (keys.InPolicy tables.Policy policy.Depth))
unfolding all_keys fits number_in numbers_in policy_of policies_of pools_of routes_of services_of
depth = refl

unknown : settings_of (member (codes "colour") (integer (pos 0)) no_members) ≡ Err not_known
unfolding all_keys fits number_in numbers_in policy_of policies_of pools_of routes_of services_of
unknown = refl

deep : settings_of (member (codes "policy") (table (member (codes "depth") (table (member (codes "x") (integer (pos 1)) no_members)) no_members)) no_members) ≡ Err not_known
unfolding all_keys fits number_in numbers_in policy_of policies_of pools_of routes_of services_of
deep = refl

empty_table : settings_of (member (codes "policy") (table (member (codes "depth") (table no_members) no_members)) no_members) ≡ Err (shape (keys.InPolicy tables.Policy policy.Depth))
unfolding all_keys fits number_in numbers_in policy_of policies_of pools_of routes_of services_of
empty_table = refl

tables_in_list : settings_of (member (codes "policy") (array (item (table (member (codes "depth") (integer (pos 1)) no_members)) no_items)) no_members) ≡ Err (shape (keys.Policy tables.Policy))
unfolding all_keys fits number_in numbers_in policy_of policies_of pools_of routes_of services_of
tables_in_list = refl

pub defaults : settings_of no_members ≡ Ok default_choice
unfolding all_keys fits number_in numbers_in policy_of policies_of pools_of routes_of services_of
defaults = refl

-- a tight bucket in all tiers, and in tier 1 with room for one more
abbrev tight : PolicyNumbers
tight = record default_policy { rate = 1000; rate_min = 1000; rate_max = 1000; depth = 1 }

abbrev tight_document : Members
tight_document =
    member (codes "policy") (table (member (codes "depth") (integer (pos 1)) (member (codes "rate") (integer (pos 1000))
    (member (codes "rate_min") (integer (pos 1000)) (member (codes "rate_max") (integer (pos 1000)) no_members)))))
    (member (codes "tier1") (table (member (codes "depth") (integer (pos 2)) no_members)) no_members)

tiers : settings_of tight_document ≡ Ok (record default_choice {
  served = record default_choice.served { policies = tight ∷ record tight { depth = 2 } ∷ tight ∷ tight ∷ [] };
})
unfolding all_keys fits number_in numbers_in policy_of policies_of pools_of routes_of services_of
tiers = refl
