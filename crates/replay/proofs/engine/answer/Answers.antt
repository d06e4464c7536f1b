use Rattle.std.proofs.Common.{ℕ, ◌≡◌, ◌∙◌, ap, sym, length, arith, ◌≤◌, ◌+◌, inr, refl}
use Rattle.captures.specs.Captures.{size_of, sizes_of}
use Rattle.replay.proofs.ByRecord.{has_room, serves_end, serves_tier, serves_piece, serves_full, serves_part, brought, err_many, err_cut}
use Rattle.replay.proofs.Upcoming.{ok_more}
use Rattle.arrivals.proofs.Tiered.{number_in, tiers_piece, tiers_end, tiers_tier}
use Rattle.arrivals.specs.declared.incoming.Origin.{Origin}
use Rattle.captures.specs.Reference.{connection_now}
use Rattle.replay.proofs.engine.answer.Goals as goal

from_own : {conn tick tier own : ℕ} → tier ≡ own → ◌≡◌ {A = Origin} (record { conn = conn; tick = tick; tier = tier }) (record { conn = conn; tick = tick; tier = own })
from_own {conn} {tick} e = ap (λ t. record { conn = conn; tick = tick; tier = t }) e

pub read_piece-requires-clause-capacity : goal.read_piece-requires-clause-capacity
read_piece-requires-clause-capacity g c =
    let may = c.requires.next in
    let size : size_of c.args.next.now ≡ length c.as_slice.result.now = ap size_of c.in-Piece.is ∙ ap length (sym c.as_slice.ensures) in
    let fits : sizes_of may.records + length c.as_slice.result.now ≤ 1125899906842624 = (let h = may.small in omega (arith, size, h)) in
    has_room g.F.Tree.files c.args.server.now.served may.records may.arrivals c.args.engine.now.connections c.args.engine.now.decider c.from-in-Piece.result (length c.as_slice.result.now) (rw c.from-in-Piece.ensures (number_in _ _ _ c.in-Piece.is may.rules)) may.serves fits

pub answer_all-requires-clause-next : goal.answer_all-requires-clause-next
answer_all-requires-clause-next g c =
    let may = c.requires.next in (
      record {
        tick = (rw c.in-Piece.is at may.rules).0;
        tier = c.of.ensures.range;
        arrivals = may.arrivals;
        stands = may.serves.stands;
        by = rw c.in-Piece.is at may.later;
      },
      may.within,
    )

pub returns-in-End-clause-ok : goal.returns-in-End-clause-ok
returns-in-End-clause-ok g c =
    let may = c.requires.next in
    record {
      same = (refl, refl);
      within = may.within;
      tiers_are = λ records are. tiers_end _ _ _ records _ _ c.in-End.is (number_in _ _ _ c.in-End.is may.rules) c.end-in-End.ensures are;
      serves = λ records arrivals tiers serves.
          serves_end (g.T.Format.texts g.F.Tree.files c.args.server.now.served) g.F.Tree.files c.args.server.now.served _ c.in-End.conn c.from.result records arrivals c.args.next.now c.args.engine.now.connections c.«end».new.self _ c.args.engine.now.decider c.args.writer.now.bytes may.laws c.in-End.is c.from.ensures (number_in _ _ _ c.in-End.is may.rules) c.«end».ensures.own c.«end».ensures.others tiers serves;
    }

pub returns-in_ok-give-in-Tier-clause-ok : goal.returns-in_ok-give-in-Tier-clause-ok
returns-in_ok-give-in-Tier-clause-ok g c =
    let may = c.requires.next in
    record {
      same = (refl, refl);
      within = may.within;
      tiers_are = λ records are. tiers_tier _ _ _ records _ _ c.in-Tier.is (number_in _ _ _ c.in-Tier.is may.rules) c.in_ok-give-in-Tier.ensures.ok are;
      serves = λ records arrivals tiers serves.
          serves_tier (g.T.Format.texts g.F.Tree.files c.args.server.now.served) g.F.Tree.files c.args.server.now.served c.in-Tier.conn c.in-Tier.tier records arrivals c.args.next.now c.args.engine.now.connections c.args.engine.now.decider c.args.writer.now.bytes may.laws c.in-Tier.is serves;
    }

pub returns-in_ok-read_piece-in-Piece-clause-ok : goal.returns-in_ok-read_piece-in-Piece-clause-ok
returns-in_ok-read_piece-in-Piece-clause-ok g c =
    let files = g.F.Tree.files in let terms = c.args.server.now.served in
    let o : Origin = record { conn = c.in-Piece.conn; tick = c.in-Piece.tick; tier = c.of.result } in
    let low = number_in _ _ _ c.in-Piece.is c.requires.next.rules in
    ok_more c.answer_all.result _ _
    (λ both. record {
      same = both.0.same;
      within = both.0.within;
      tiers_are = λ records are. tiers_piece _ _ _ _ records _ c.in-Piece.is low are;
      serves = λ records arrivals tiers serves.
          (let brings = brought files terms c.in-Piece.tick c.in-Piece.conn c.from-in-Piece.result o c.in-Piece.bytes c.as_slice.result.now c.deref.result.now c.read_piece.new.out.items records arrivals c.args.next.now c.args.engine.now.connections c.read_piece.new.self c.args.engine.now.decider
          (from_own (c.of.ensures.tier ∙ tiers.each c.in-Piece.conn low)) low c.in-Piece.is c.from-in-Piece.ensures c.as_slice.ensures c.deref.ensures.value (record { own = c.in_ok-read_piece-in-Piece.ensures.own; others = c.in_ok-read_piece-in-Piece.ensures.others }) serves in
          serves_piece (g.T.Format.texts files terms) files terms (connection_now c.in-Piece.conn records) o c.deref.result.now records arrivals c.args.next.now c.read_piece.new.self c.args.engine.now.decider c.answer_all.new.decider c.args.writer.now.bytes c.answer_all.new.writer.bytes
          brings both.0.same.0 (both.0.stands arrivals (length records) (connection_now c.in-Piece.conn records) serves.stands) (both.1 arrivals (length records) (connection_now c.in-Piece.conn records) serves.stands));
    })
    c.answer_all.ensures.ok

pub returns-in_ok-read_piece-in-Piece-clause-stops : goal.returns-in_ok-read_piece-in-Piece-clause-stops
returns-in_ok-read_piece-in-Piece-clause-stops g c =
    let files = g.F.Tree.files in let terms = c.args.server.now.served in
    let o : Origin = record { conn = c.in-Piece.conn; tick = c.in-Piece.tick; tier = c.of.result } in
    let low = number_in _ _ _ c.in-Piece.is c.requires.next.rules in (
      err_many c.answer_all.result _ _
          (λ n full. (
            full.0,
            λ records arrivals tiers serves.
                (let brings = brought files terms c.in-Piece.tick c.in-Piece.conn c.from-in-Piece.result o c.in-Piece.bytes c.as_slice.result.now c.deref.result.now c.read_piece.new.out.items records arrivals c.args.next.now c.args.engine.now.connections c.read_piece.new.self c.args.engine.now.decider
                (from_own (c.of.ensures.tier ∙ tiers.each c.in-Piece.conn low)) low c.in-Piece.is c.from-in-Piece.ensures c.as_slice.ensures c.deref.ensures.value (record { own = c.in_ok-read_piece-in-Piece.ensures.own; others = c.in_ok-read_piece-in-Piece.ensures.others }) serves in
                serves_full (g.T.Format.texts files terms) files terms c.args.engine.now.decider.most (connection_now c.in-Piece.conn records) o full.1 c.deref.result.now records arrivals c.args.next.now c.read_piece.new.self c.args.engine.now.connections c.args.engine.now.decider c.args.writer.now.bytes c.answer_all.new.writer.bytes
                brings serves full.2 full.3 (full.4 arrivals (length records) (connection_now c.in-Piece.conn records) serves.stands)),
          ))
          c.answer_all.ensures.stops.0,
      err_cut c.answer_all.result _ _
          (λ short. inr (λ records arrivals tiers serves.
          (let brings = brought files terms c.in-Piece.tick c.in-Piece.conn c.from-in-Piece.result o c.in-Piece.bytes c.as_slice.result.now c.deref.result.now c.read_piece.new.out.items records arrivals c.args.next.now c.args.engine.now.connections c.read_piece.new.self c.args.engine.now.decider
          (from_own (c.of.ensures.tier ∙ tiers.each c.in-Piece.conn low)) low c.in-Piece.is c.from-in-Piece.ensures c.as_slice.ensures c.deref.ensures.value (record { own = c.in_ok-read_piece-in-Piece.ensures.own; others = c.in_ok-read_piece-in-Piece.ensures.others }) serves in
          serves_part (g.T.Format.texts files terms) files terms c.args.engine.now.decider.most (connection_now c.in-Piece.conn records) o short.0 c.deref.result.now records arrivals c.args.next.now c.read_piece.new.self c.args.engine.now.connections c.args.engine.now.decider c.args.writer.now.bytes c.answer_all.new.writer.bytes
          brings serves short.2 (short.3 arrivals (length records) (connection_now c.in-Piece.conn records) serves.stands))))
          c.answer_all.ensures.stops.1,
    )
