use Rattle.std.proofs.Common.{◌≡◌, [], ◌∙◌, sym, subst, List}
use Rattle.std.proofs.lemmas.List.Elements.{All-head}
use Rattle.captures.specs.declared.record.Record.TheVariants.{Piece, End, Tier}
use Rattle.http_requests.specs.declared.messages.Message.{Message}
use Rattle.arrivals.specs.Ahead.{IsAllowed}
use Rattle.arrivals.specs.Connections.{connection_at}
use Rattle.arrivals.specs.Gathering.{Brings}
use Rattle.arrivals.specs.declared.incoming.Origin.{Origin}
use Rattle.arrivals.proofs.Gathers.{has_capacity, origin_is, takes_end, takes_piece, takes_tier}
use Rattle.arrivals.proofs.Tiered.{number_in, on_ok}
use Rattle.arrivals.proofs.taking.take_record.Goals as goal

pub take_piece-requires-clause-capacity : goal.take_piece-requires-clause-capacity
take_piece-requires-clause-capacity c =
    let given = c.requires in
    let is : c.args.cut ≡ Piece c.in-Piece.tick c.in-Piece.conn c.in-Piece.bytes = sym c.cut.view_is ∙ c.in-Piece.is in
    let low = number_in _ _ _ is (All-head IsAllowed c.args.cut [] given.2.allowed).rules in
    has_capacity _ c.in-Piece.conn c.from-in-Piece.result c.in-Piece.bytes c.as_slice.result.now c.args.cut given.0 given.1 c.args.connections.now c.args.tiers.now is c.from-in-Piece.ensures c.as_slice.ensures low given.2

pub returns-in-End : goal.returns-in-End
returns-in-End c = λ records arrivals may.
    let is : c.args.cut ≡ End c.in-End.tick c.in-End.conn = sym c.cut.view_is ∙ c.in-End.is in
    takes_end c.in-End.tick c.in-End.conn c.from.result c.args.cut records arrivals c.args.connections.now c.«end».new.self c.args.tiers.now c.end-in-End.new.self c.args.pieces.now.items
    is c.from.ensures (number_in _ _ _ is (All-head IsAllowed c.args.cut [] may.allowed).rules) c.«end».ensures.own c.«end».ensures.others c.end-in-End.ensures may

pub returns-in-Tier : goal.returns-in-Tier
returns-in-Tier c = on_ok c.give.result
    (λ given records arrivals may.
    (let is : c.args.cut ≡ Tier c.in-Tier.conn c.in-Tier.tier = sym c.cut.view_is ∙ c.in-Tier.is in
    takes_tier c.in-Tier.conn c.in-Tier.tier c.args.cut records arrivals c.args.connections.now c.args.tiers.now c.give.new.self c.args.pieces.now.items is
    (number_in _ _ _ is (All-head IsAllowed c.args.cut [] may.allowed).rules) given may))
    c.give.ensures.ok

pub returns-in_ok-push-in-Piece : goal.returns-in_ok-push-in-Piece
returns-in_ok-push-in-Piece c = λ records arrivals may.
    let conn = c.in-Piece.conn in
    let n = c.from-in-Piece.result in
    let o : Origin = record { conn = conn; tick = c.in-Piece.tick; tier = c.of-tier.result } in
    let is : c.args.cut ≡ Piece c.in-Piece.tick conn c.in-Piece.bytes = sym c.cut.view_is ∙ c.in-Piece.is in
    let brings = subst (λ (ms : List Message). Brings (connection_at c.args.connections.now n) c.as_slice.result.now ms (connection_at c.take_piece.new.connections n)) (sym c.from_vec.ensures) c.in_ok-own-in-Piece.ensures.own in
    takes_piece c.in-Piece.tick conn n o c.in-Piece.bytes c.as_slice.result.now c.from_vec.result c.args.cut records arrivals c.args.connections.now c.take_piece.new.connections c.args.tiers.now
    c.args.pieces.now.items c.push.new.self.items is c.from-in-Piece.ensures c.as_slice.ensures (number_in _ _ _ is (All-head IsAllowed c.args.cut [] may.allowed).rules)
    (origin_is conn c.in-Piece.tick _ _ c.of-tier.ensures.tier) brings c.in_ok-own-in-Piece.ensures.others c.in_ok-push-in-Piece.ensures.items may
