use Rattle.std.proofs.Common.{[], ◌∷◌, inl, inr, rules}
use Rattle.arrivals.proofs.Gathering.{gave_some}
use Rattle.replay.specs.States.{state_of}
use Rattle.replay.proofs.Judging.{passed_on, on_many, on_cut}
use Rattle.replay.proofs.ByRecord.{sizes_left, is_later}
use Rattle.replay.proofs.Stepping.{between_more, ended, fault_leaves, own_step_leaves}
use Rattle.replay.proofs.engine.answer_next.Goals as goal

pub returns-in-Ok-None-clause-on : goal.returns-in-Ok-None-clause-on
returns-in-Ok-None-clause-on g c = (
  search rules,
  λ version text begun b.
      ended _ _ _ version text begun b.records b.arrivals _ _ _ _ _ _ _ b.answered b.read c.in-Ok-None.field-0-is (c.in-Ok-None.ensures.next _ _ _ _ b.read).0,
)

pub returns-in-Err-clause-fault : goal.returns-in-Err-clause-fault
returns-in-Err-clause-fault g c = λ version text begun b.
    fault_leaves (g.T.Format.texts g.F.Tree.files c.args.server.now.served) g.F.Tree.files c.args.server.now.served version text begun b.records b.arrivals _ _ c.next_record.new.self.input.now.bytes _ (state_of c.args.engine.now) _ c.in-Err.fault c.from.result b.answered b.read c.from.ensures
    (c.in-Err.ensures.next _ _ _ _ b.read).0 (c.in-Err.ensures.next _ _ _ _ b.read).1 (search rules)

pub answer-requires-clause-next : goal.answer-requires-clause-next
answer-requires-clause-next g c =
    let known = c.requires.between in
    let b = known.3 in
    let fits = gave_some known.0 _ _ _ b.records _ _ _ c.in-Ok-Some.field-0-is (c.in-Ok-Some.ensures.next _ _ _ _ b.read).0 in
    let given = rw c.in-Ok-Some.field-0-is at c.in-Ok-Some.ensures.given in
    record {
      laws = b.answered.laws;
      version = c.args.capture.now.progress.version;
      rules = given.limits;
      records = b.records;
      arrivals = b.arrivals;
      serves = b.answered.serves;
      small = sizes_left known.0 _ _ _ _ b.records _ _ b.read given.capacity;
      later = is_later known.0 _ b.records b.arrivals c.in-Ok-Some.next fits.rules b.answered.serves.arrived;
      within = b.answered.within;
    }

pub returns-in_err-answer-clause-fault : goal.returns-in_err-answer-clause-fault
returns-in_err-answer-clause-fault g c =
    passed_on c.from_residual.result _ _
    (λ f same. rw same (λ version text begun b.
    (let fits = gave_some version _ _ _ b.records _ _ _ c.in-Ok-Some.field-0-is (c.in-Ok-Some.ensures.next _ _ _ _ b.read).0 in
    let fault = c.in_err-answer.field-0.0 in
    let says = c.in_err-answer.ensures in
    own_step_leaves (g.T.Format.texts g.F.Tree.files c.args.server.now.served) g.F.Tree.files c.args.server.now.served version text begun _ _ _ _ _ (state_of c.args.engine.now) _ _ fault b (c.in-Ok-Some.next ∷ []) fits says.faults.1
    (on_many fault _ _ (λ n full. (full.0, full.1 b.records b.arrivals b.tiers_are b.answered.serves)) says.stops.0)
    (on_cut fault _ _
    (λ short. elim short [
      | inl none ↦ inl none
      | inr part ↦ inr (part b.records b.arrivals b.tiers_are b.answered.serves)
    ])
    says.stops.1))))
    c.from_residual.ensures.1

pub returns-clause-on : goal.returns-clause-on
returns-clause-on g c = (
  search rules,
  λ version text begun b.
      (let fits = gave_some version _ _ _ b.records _ _ _ c.in-Ok-Some.field-0-is (c.in-Ok-Some.ensures.next _ _ _ _ b.read).0 in
      let one = c.in_ok-answer.ensures.ok in
      between_more (g.T.Format.texts g.F.Tree.files c.args.server.now.served) g.F.Tree.files c.args.server.now.served version text begun _ _ _ _ (state_of c.args.engine.now) _ _ _ b (c.in-Ok-Some.next ∷ []) fits (one.tiers_are b.records b.tiers_are)
      (one.serves b.records b.arrivals b.tiers_are b.answered.serves) one.same one.within),
)
