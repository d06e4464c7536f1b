use Rattle.std.proofs.Common.{false, refl, arith, codes}
use Rattle.cost_model.proofs.OnPools.{pool_in}
use Rattle.paths.specs.Reference.{asked}
use Rattle.paths.proofs.Locations.{outcome_is}
use Rattle.reference.specs.Reference.{is_unmodified_file, length_found}
use Rattle.replay.proofs.Lookups.{priced}
use Rattle.replay.proofs.Judging.{decides_none}
use Rattle.replay.proofs.Pools.{served_of}
use Rattle.replay.proofs.decider.Decider.decide.Goals as goal

pub outcome_answer-requires-clause-is : goal.outcome_answer-requires-clause-is
outcome_answer-requires-clause-is g c =
    let p = priced g.F.Tree.files c.args.server.now.served.tariff c.args.what.now c.in-Request.method c.in-Request.target _ _ _ _ c.args.lookup _ _ c.in-Request.is c.answers_head-head.ensures c.requires.lookup c.in-Priced.is in
    rw p.0 (outcome_is g.F.Tree.files (asked c.in-Request.method c.in-Request.target))

pub returns-in-Bad-clause-response_of : goal.returns-in-Bad-clause-response_of
returns-in-Bad-clause-response_of g c = λ offers fits samples.
    (false, rw c.in-Bad.is (decides_none offers c.args.self.now fits samples), rw (c.in-Bad.is, c.fault_status.ensures) refl)

pub offer-requires-clause-pool : goal.offer-requires-clause-pool
offer-requires-clause-pool g c =
    let tariff = c.args.server.now.served.tariff in
    let p = priced g.F.Tree.files tariff c.args.what.now c.in-Request.method c.in-Request.target _ _ _ _ c.args.lookup _ _ c.in-Request.is c.answers_head-head.ensures c.requires.lookup c.in-Priced.is in
    let served = served_of c.tariff.result.now c.server.inside.settings.now c.args.server.now c.tariff.ensures c.server.view_is c.pools-pools.ensures.served in
    let o = c.in-Priced.outcome in
    let there = pool_in tariff.costs tariff.routes tariff.pools (asked (codes "GET") c.in-Request.target) o c.answers_head-head.result
    (is_unmodified_file g.F.Tree.files c.in-Request.modified_since o) (length_found g.F.Tree.files o) served in
    rw (c.requires.station, p.1) (omega (arith, there))
