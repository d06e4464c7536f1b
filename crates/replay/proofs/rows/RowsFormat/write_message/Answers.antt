use Rattle.std.proofs.Common.{subst, sym, ap, ◌∙◌, ◌≤◌, arith}
use Rattle.std.specs.Io.KnownBytes.{Appends}
use Rattle.devices.specs.Devices.{AppendsPrefix}
use Rattle.devices.proofs.Appending.{prefix_none, proper_is_prefix}
use Rattle.reference.specs.Reference.{Choice}
use Rattle.reference.specs.Explaining.{has_pools}
use Rattle.replay.proofs.Judging.{on_err}
use Rattle.replay.proofs.Pools.{place_is, served_of}
use Rattle.replay.proofs.RowByRow.{costs_known, foreseen, stands_still, row_written}
use Rattle.replay.proofs.rows.RowsFormat.write_message.Goals as goal

pub outlook-requires-clause-forward : goal.outlook-requires-clause-forward
outlook-requires-clause-forward g c =
    let may = c.requires.next.0 in
    let late = may.stands.clock c.args.origin.tick may.by c.tick-tick.result c.tick-tick.ensures.rises in
    let most = may.tick in
    let range = c.tick-tick.ensures.range in
    (late, omega (arith, most, range))

pub outlook-requires-clause-place : goal.outlook-requires-clause-place
outlook-requires-clause-place g c =
    let served = served_of c.tariff.result.now c.server.inside.settings.now c.args.server.now c.tariff.ensures c.server.view_is c.pools-pools.ensures.served in
    let there = place_is g.F.Tree.files c.args.server.now.served.tariff c.args.what.now served in
    (rw (c.requires.next.0.stands.counted.station, c.pool_in-pool.ensures, c.in_ok-lookup.ensures) (omega (arith, there)), c.requires.next.0.tier)

pub decide_next-requires-clause-origin : goal.decide_next-requires-clause-origin
decide_next-requires-clause-origin g c = (c.requires.next.0.tick, c.requires.next.0.tier)

pub decide_next-requires-clause-stands : goal.decide_next-requires-clause-stands
decide_next-requires-clause-stands g c =
    let may = c.requires.next.0 in (
      c.requires.next.1,
      may.arrivals,
      stands_still g.F.Tree.files c.args.server.now.served may.arrivals c.args.decider.now c.outlook.new.self c.outlook.ensures.same may.stands.counted,
      λ counted counts. subst (λ t. t ≤ counted) (sym c.tick-tick.ensures.value ∙ sym c.outlook.ensures.clock) (counts c.args.origin.tick (omega arith)),
    )

pub returns-in_err-lookup-clause-part : goal.returns-in_err-lookup-clause-part
returns-in_err-lookup-clause-part g c =
    on_err c.from_residual.result _ (λ arrivals a stands from meaning. prefix_none c.args.writer.now.bytes _)

pub returns-in_err-found-clause-part : goal.returns-in_err-found-clause-part
returns-in_err-found-clause-part g c =
    on_err c.from_residual-in_err-found.result _ (λ arrivals a stands from meaning. prefix_none c.args.writer.now.bytes _)

pub returns-in_err-pending-clause-part : goal.returns-in_err-pending-clause-part
returns-in_err-pending-clause-part g c =
    on_err c.from_residual-in_err-pending.result _ (λ arrivals a stands from meaning. prefix_none c.args.writer.now.bytes _)

pub returns-clause-stands : goal.returns-clause-stands
returns-clause-stands g c =
    let decides = c.in_ok-pending.ensures.stands in
    record {
      same = decides.same;
      number = decides.number;
      stands = λ arrivals a stands from meaning.
          decides.stands arrivals a (stands_still g.F.Tree.files c.args.server.now.served arrivals c.args.decider.now c.outlook.new.self c.outlook.ensures.same stands) from meaning;
    }

pub returns-in_err-write_row-clause-part : goal.returns-in_err-write_row-clause-part
returns-in_err-write_row-clause-part g c =
    let files = g.F.Tree.files in let terms = c.args.server.now.served in
    on_err c.from_residual-in_err-write_row.result _
    (λ arrivals a stands from meaning.
    (let still = stands_still files terms arrivals c.args.decider.now c.outlook.new.self c.outlook.ensures.same stands.counted in
    let finds = foreseen files terms arrivals c.args.decider.now c.in_ok-found.found c.pool_in-pool.result c.args.origin.tier c.tick-tick.result stands.counted c.in_ok-found.ensures.finds in
    let costs = costs_known g.F.Tree.files c.args.server.now.served.tariff c.args.what.now a.message.what _ _ c.charge_in-charge.ensures c.in_ok-lookup.ensures meaning in
    let row = c.row_of-row.ensures files terms c.args.decider.now.start arrivals a from c.tick-tick.ensures.value (c.has_pools.ensures ∙ ap (λ (s : Choice). has_pools s.served) c.server.view_is) costs (rw (c.pool_in-pool.ensures, ← c.charge_in-charge.ensures) at finds) (c.in_ok-pending.ensures.slip arrivals a still from meaning) in
    let text = row_written files terms arrivals a c.row_of-row.result c.args.what.now c.method_of.result.now c.target_of.result.now row meaning c.method_of.ensures c.target_of.ensures in
    let part = proper_is_prefix _ _ _ c.in_err-write_row.ensures.prefix in
    subst (λ v. AppendsPrefix c.args.writer.now.bytes c.write_row.new.output.bytes v) text part))

pub returns-clause-written : goal.returns-clause-written
returns-clause-written g c = λ arrivals a stands from meaning.
    let files = g.F.Tree.files in let terms = c.args.server.now.served in
    let still = stands_still files terms arrivals c.args.decider.now c.outlook.new.self c.outlook.ensures.same stands.counted in
    let finds = foreseen files terms arrivals c.args.decider.now c.in_ok-found.found c.pool_in-pool.result c.args.origin.tier c.tick-tick.result stands.counted c.in_ok-found.ensures.finds in
    let costs = costs_known g.F.Tree.files c.args.server.now.served.tariff c.args.what.now a.message.what _ _ c.charge_in-charge.ensures c.in_ok-lookup.ensures meaning in
    let row = c.row_of-row.ensures files terms c.args.decider.now.start arrivals a from c.tick-tick.ensures.value (c.has_pools.ensures ∙ ap (λ (s : Choice). has_pools s.served) c.server.view_is) costs (rw (c.pool_in-pool.ensures, ← c.charge_in-charge.ensures) at finds) (c.in_ok-pending.ensures.slip arrivals a still from meaning) in
    let text = row_written files terms arrivals a c.row_of-row.result c.args.what.now c.method_of.result.now c.target_of.result.now row meaning c.method_of.ensures c.target_of.ensures in
    subst (λ v. Appends c.args.writer.now.bytes c.write_row.new.output.bytes v) text c.in_ok-write_row.ensures.prefix
