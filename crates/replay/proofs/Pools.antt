-- The pools of a controller, and those of requests.
use Rattle.std.proofs.Common.{◌≡◌, ◌≤◌, ℕ, List, ◌∷◌, length, codes, arith, ap, subst, ◌∙◌}
use Rattle.std.proofs.lemmas.List.Elements.{All-cons}
use Rattle.admission.specs.Standing.{ArePools}
use Rattle.admission.specs.Limits.{MAX_SERVERS}
use Rattle.cost_model.specs.Reference.{Tariff}
use Rattle.cost_model.specs.Services.{AreServed, ArePools as AreNamed}
use Rattle.cost_model.proofs.OnPools.{pool_in}
use Rattle.http_requests.specs.declared.messages.Meaning.{Meaning}
use Rattle.http_requests.specs.declared.messages.Meaning.TheVariants.{Request, Bad}
use Rattle.paths.specs.declared.file.File.{File}
use Rattle.paths.specs.Reference.{asked, outcome}
use Rattle.reference.specs.Reference.{Choice, is_head, is_unmodified_file, length_found}
use Rattle.replay.specs.Fronts.{lookup_of}
use Rattle.replay.specs.Rowing.{charge_in, pool_of}

-- those of the settings, before which stands pool 0
pub pools_are : (first : ℕ) (pools : List ℕ) → (1 ≤ first) × (first ≤ MAX_SERVERS) → AreNamed pools → ArePools (first ∷ pools)
pools_are first pools range are = record {
  default = omega arith;
  most = omega (arith, are.few);
  each = All-cons (λ n. (1 ≤ n) × (n ≤ MAX_SERVERS)) first pools range are.each;
}

-- the pool of what comes to this is there
pub place_is : (files : List File) (tariff : Tariff) (what : Meaning) → AreServed tariff.routes tariff.pools
    → pool_of (charge_in (lookup_of files tariff what)) ≤ length tariff.pools
place_is files tariff (Request method target version closing since) served =
    let o = outcome files (asked method target) in
    pool_in tariff.costs tariff.routes tariff.pools (asked (codes "GET") target) o (is_head method) (is_unmodified_file files since o) (length_found files o) served
place_is files tariff (Bad fault) served = omega arith

-- the routes of a server's settings are served
pub served_of : (tariff : Tariff) (settings server : Choice) → tariff ≡ settings.served.tariff → settings ≡ server → AreServed tariff.routes tariff.pools
    → AreServed server.served.tariff.routes server.served.tariff.pools
served_of tariff settings server is own served =
    subst (λ (t : Tariff). AreServed t.routes t.pools) (is ∙ ap (λ (s : Choice). s.served.tariff) own) served
