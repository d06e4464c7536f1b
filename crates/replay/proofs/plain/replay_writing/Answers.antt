use Rattle.std.proofs.Common.{◌∙◌, [], refl, sym, arith, inl, rules}
use Rattle.devices.proofs.Appending.{prefix_all}
use Rattle.arrivals.proofs.Tiered.{tiers_none}
use Rattle.replay.specs.States.{state_of}
use Rattle.replay.proofs.Texts.{text_begun}
use Rattle.replay.proofs.Judging.{passed_on}
use Rattle.replay.proofs.ByRecord.{serves_none, all_written, ends_short, leaves_reported, left_first, short_leaves, halts_first}
use Rattle.replay.proofs.Stepping.{is_over, within_format}
use Rattle.replay.proofs.plain.replay_writing.Goals as goal

pub returns-in_err-begin-clause-fault : goal.returns-in_err-begin-clause-fault
returns-in_err-begin-clause-fault g c =
    passed_on c.from_residual.result _ _
    (λ f same. rw same (short_leaves (g.T.Format.texts g.F.Tree.files c.args.settings.now.served) c.args.reader.now.bytes _ _ _ c.in_err-begin.field-0.0 c.in_err-begin.ensures.own (inl (c.in_err-begin.ensures.part g.F.Tree.files))))
    c.from_residual.ensures.1

pub returns-in-Err-clause-fault : goal.returns-in-Err-clause-fault
returns-in-Err-clause-fault g c =
    let written = c.in_ok-begin.ensures.written g.F.Tree.files in
    rw c.from.ensures
    (leaves_reported (g.T.Format.texts g.F.Tree.files c.args.settings.now.served) c.args.reader.now.bytes _ c.args.writer.now.bytes c.begin.new.writer.bytes c.in-Err.fault
    (halts_first (g.T.Format.texts g.F.Tree.files c.args.settings.now.served) c.args.reader.now.bytes _ c.args.writer.now.bytes c.begin.new.writer.bytes _ written c.in-Err.ensures.fault.at c.in-Err.ensures.fault.foreseen (rw c.in-Err.is at c.open.follows.holds-at-none).1)
    (inl (prefix_all c.args.writer.now.bytes c.begin.new.writer.bytes _ written)))

pub returns-in_err-decider-clause-fault : goal.returns-in_err-decider-clause-fault
returns-in_err-decider-clause-fault g c =
    passed_on c.from_residual-in_err-decider.result _ _
    (λ f same. rw same (inl (prefix_all c.args.writer.now.bytes c.begin.new.writer.bytes _ (c.in_ok-begin.ensures.written g.F.Tree.files))))
    c.from_residual-in_err-decider.ensures.1

pub loop-engine-init : goal.loop-engine-init
loop-engine-init g c =
    let files = g.F.Tree.files in let terms = c.args.settings.now.served in
    let of = c.in_ok-decider.ensures.of in (
      record {
        records = [];
        arrivals = [];
        read = rw (of.0, c.start.ensures, c.version-version.ensures) c.in-Ok.ensures.ok.after;
        tiers_are = tiers_none c.new-tiers.result c.new-tiers.ensures;
        answered = record {
          laws = c.in_ok-begin.ensures.texts files terms;
          serves = serves_none files terms c.new-connections.result _ c.new-connections.ensures (c.in_ok-decider.ensures.none files);
          written = text_begun (g.T.Format.texts g.F.Tree.files c.args.settings.now.served) _ c.args.writer.now.bytes c.begin.new.writer.bytes (c.in_ok-begin.ensures.texts files terms) (c.in_ok-begin.ensures.written files);
          limit = of.1 ∙ c.max_messages.ensures;
          within = (let none = of.2 in omega (arith, none));
        };
      },
      refl,
      c.in-Ok.ensures.ok.count,
      c.in_ok-begin.ensures.failures,
    )

pub returns-in_err-answer_next-clause-fault : goal.returns-in_err-answer_next-clause-fault
returns-in_err-answer_next-clause-fault g c =
    passed_on c.from_residual-in_err-answer_next.result _ _
    (λ f same. rw same (left_first (g.T.Format.texts g.F.Tree.files c.args.settings.now.served) _ _ c.answer_next.new.capture.input.now.bytes _ _ _ (search rules)
    (λ left. rw left (c.in_err-answer_next.ensures.fault _ _ _ c.loop-engine.invariant.0))))
    c.from_residual-in_err-answer_next.ensures.1

pub returns-in_err-finish-clause-fault : goal.returns-in_err-finish-clause-fault
returns-in_err-finish-clause-fault g c =
    let e = is_over _ (g.T.Format.texts g.F.Tree.files c.args.settings.now.served) g.F.Tree.files c.args.settings.now.served _ _ _ _ _ (state_of c.answer_next.new.engine) _ (sym c.is_some.ensures ∙ c.if-is_some.false) (c.in_ok-answer_next.ensures.on.1 _ _ _ c.loop-engine.invariant.0) in
    passed_on c.from_residual-in_err-finish.result _ _
    (λ f same. rw same (short_leaves (g.T.Format.texts g.F.Tree.files c.args.settings.now.served) _ _ _ _ c.in_err-finish.field-0.0 c.in_err-finish.ensures.own
    (ends_short (g.T.Format.texts g.F.Tree.files c.args.settings.now.served) g.F.Tree.files c.args.settings.now.served _ _ _ e.records e.arrivals _ _ _ _ _ _ e.answered.laws e.rules e.whole e.answered.serves e.answered.written (c.in_err-finish.ensures.part g.F.Tree.files c.args.settings.now.served) refl (within_format (g.T.Format.texts g.F.Tree.files c.args.settings.now.served) g.F.Tree.files c.args.settings.now.served _ _ _ _ _ _ e.answered))))
    c.from_residual-in_err-finish.ensures.1

pub returns-clause-ok : goal.returns-clause-ok
returns-clause-ok g c =
    let files = g.F.Tree.files in let terms = c.args.settings.now.served in
    let e = is_over _ (g.T.Format.texts g.F.Tree.files c.args.settings.now.served) g.F.Tree.files c.args.settings.now.served _ _ _ _ _ (state_of c.answer_next.new.engine) _ (sym c.is_some.ensures ∙ c.if-is_some.false) (c.in_ok-answer_next.ensures.on.1 _ _ _ c.loop-engine.invariant.0) in
    all_written (g.T.Format.texts g.F.Tree.files c.args.settings.now.served) g.F.Tree.files c.args.settings.now.served _ _ c.answer_next.new.engine.decider.totals.answered e.records e.arrivals c.answer_next.new.engine.connections c.answer_next.new.engine.decider _ _ _ _ _ e.answered.laws e.rules e.whole e.answered.serves e.answered.written
    (c.in_ok-finish.ensures.written files terms) refl (within_format (g.T.Format.texts g.F.Tree.files c.args.settings.now.served) g.F.Tree.files c.args.settings.now.served _ _ _ _ _ _ e.answered) c.outcome_of-outcome.ensures.version
    c.outcome_of-outcome.ensures.rejected (c.outcome_of-outcome.ensures.summary files terms e.arrivals e.answered.serves.stands)
