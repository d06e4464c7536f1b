use Rattle.std.proofs.Common.{◌++◌, refl, inl, inr, None, rules}
use Rattle.reference.specs.Texts.{reply_texts}
use Rattle.replay.specs.States.{state_of}
use Rattle.replay.proofs.Judging.{passed_on, on_many, on_cut}
use Rattle.replay.proofs.ByBatch.{come_next}
use Rattle.replay.proofs.Stepping.{answered_more, between_more, ended, fault_leaves, none_leaves, own_step_leaves}
use Rattle.replay.proofs.advance.serve_next_batch.Goals as goal

pub returns-in_err-batch-clause-fault : goal.returns-in_err-batch-clause-fault
returns-in_err-batch-clause-fault g c =
    passed_on c.from_residual.result _ _
    (λ f same. rw same (λ version text begun b. none_leaves (reply_texts g.F.Tree.files c.args.floors.now.serving.now.server.served) g.F.Tree.files c.args.floors.now.serving.now.server.served version text begun _ _ (state_of c.args.engine.now) _ b))
    c.from_residual.ensures.1

pub serve_batch-requires-clause-next : goal.serve_batch-requires-clause-next
serve_batch-requires-clause-next g c = λ κs within.
    let known = c.requires.between in
    let b = known.3 in
    let on = c.in_ok-batch.ensures.batch.0 known.0 _ _ b.records b.read in
    (b.answered.within, b.records, b.arrivals, come_next g.F.Tree.files c.args.floors.now.serving.now.server.served _ _ _ b.records _ b.arrivals (state_of c.args.engine.now) _ known.0 b.answered.serves b.tiers_are on.fits refl)

pub returns-in_err-serve_batch-clause-fault : goal.returns-in_err-serve_batch-clause-fault
returns-in_err-serve_batch-clause-fault g c =
    passed_on c.from_residual-in_err-serve_batch.result _ _
    (λ f same. rw same (λ version text begun b.
    (let on = c.in_ok-batch.ensures.batch.0 version _ _ b.records b.read in
    let next = come_next g.F.Tree.files c.args.floors.now.serving.now.server.served _ _ _ b.records _ b.arrivals (state_of c.args.engine.now) _ version b.answered.serves b.tiers_are on.fits refl in
    let fault = c.in_err-serve_batch.field-0.0 in
    let says = c.in_err-serve_batch.ensures in
    own_step_leaves (reply_texts g.F.Tree.files c.args.floors.now.serving.now.server.served) g.F.Tree.files c.args.floors.now.serving.now.server.served version text begun _ _ _ _ _ (state_of c.args.engine.now) _ _ fault b _ on.fits says.faults.1
    (on_many fault _ _ (λ n full. (full.0, full.1 b.records b.arrivals next)) says.stops.0)
    (on_cut fault _ _
    (λ short. elim short [
      | inl none ↦ inl none
      | inr part ↦ inr (part b.records b.arrivals next)
    ])
    says.stops.1))))
    c.from_residual-in_err-serve_batch.ensures.1

pub returns-in-More-clause-on : goal.returns-in-More-clause-on
returns-in-More-clause-on g c = (
  search rules,
  λ version text begun b.
      (let on = c.in_ok-batch.ensures.batch.0 version _ _ b.records b.read in
      let next = come_next g.F.Tree.files c.args.floors.now.serving.now.server.served _ _ _ b.records _ b.arrivals (state_of c.args.engine.now) _ version b.answered.serves b.tiers_are on.fits refl in
      let one = c.in_ok-serve_batch.ensures.ok in
      between_more (reply_texts g.F.Tree.files c.args.floors.now.serving.now.server.served) g.F.Tree.files c.args.floors.now.serving.now.server.served version text begun _ _ _ _ (state_of c.args.engine.now) _ _ _ b _ (rw c.in-More.is at on.ends) (one.tiers_are b.records b.arrivals next) (one.serves b.records b.arrivals next) one.same one.within),
)

pub returns-in-End-clause-on : goal.returns-in-End-clause-on
returns-in-End-clause-on g c = (
  search rules,
  λ version text begun b.
      (let on = c.in_ok-batch.ensures.batch.0 version _ _ b.records b.read in
      let rs = c.in_ok-batch.batch.records.items in
      let next = come_next g.F.Tree.files c.args.floors.now.serving.now.server.served _ _ _ b.records _ b.arrivals (state_of c.args.engine.now) _ version b.answered.serves b.tiers_are on.fits refl in
      let one = c.in_ok-serve_batch.ensures.ok in
      let more = one.serves b.records b.arrivals next in
      ended (reply_texts g.F.Tree.files c.args.floors.now.serving.now.server.served) g.F.Tree.files c.args.floors.now.serving.now.server.served version text begun (b.records ++ rs) (b.arrivals ++ more.more) on.progress c.read_batch.new.capture.progress on.ahead c.read_batch.new.capture.input.now.bytes _ _ None
      (answered_more (reply_texts g.F.Tree.files c.args.floors.now.serving.now.server.served) g.F.Tree.files c.args.floors.now.serving.now.server.served version b.records rs b.arrivals (state_of c.args.engine.now) _ _ _ _ b.answered more one.same one.within) (rw one.same.0 on.fits) refl (rw one.same.0 (rw c.in-End.is at on.ends))),
)

pub returns-in-Fault-clause-fault : goal.returns-in-Fault-clause-fault
returns-in-Fault-clause-fault g c = λ version text begun b.
    (let on = c.in_ok-batch.ensures.batch.0 version _ _ b.records b.read in
    let rs = c.in_ok-batch.batch.records.items in
    let next = come_next g.F.Tree.files c.args.floors.now.serving.now.server.served _ _ _ b.records _ b.arrivals (state_of c.args.engine.now) _ version b.answered.serves b.tiers_are on.fits refl in
    let one = c.in_ok-serve_batch.ensures.ok in
    let more = one.serves b.records b.arrivals next in
    let ends = rw c.in-Fault.is at on.ends in
    fault_leaves (reply_texts g.F.Tree.files c.args.floors.now.serving.now.server.served) g.F.Tree.files c.args.floors.now.serving.now.server.served version text begun (b.records ++ rs) (b.arrivals ++ more.more) on.progress on.ahead c.read_batch.new.capture.input.now.bytes c.read_batch.new.capture.input.now.bytes (state_of c.serve_batch.new.engine) c.serve_batch.new.writer.bytes c.in-Fault.fault c.from.result
    (answered_more (reply_texts g.F.Tree.files c.args.floors.now.serving.now.server.served) g.F.Tree.files c.args.floors.now.serving.now.server.served version b.records rs b.arrivals (state_of c.args.engine.now) _ _ _ _ b.answered more one.same one.within) (rw one.same.0 on.fits) c.from.ensures (rw one.same.0 ends.0) (rw one.same.0 ends.1) refl)
