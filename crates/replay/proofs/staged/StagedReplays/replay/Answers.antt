use Rattle.std.proofs.Common.{[], refl, ◌∙◌, arith, inl, rules}
use Rattle.devices.proofs.Appending.{prefix_all}
use Rattle.reference.specs.Texts.{reply_texts}
use Rattle.arrivals.proofs.Tiered.{tiers_none}
use Rattle.replay.specs.States.{state_of}
use Rattle.replay.proofs.Judging.{passed_on}
use Rattle.replay.proofs.Writing.{replies_laws}
use Rattle.replay.proofs.ByRecord.{serves_none, has_answered, all_written, ends_short, leaves_reported, left_first, short_leaves, halts_first}
use Rattle.replay.proofs.Stepping.{is_over, within_format}
use Rattle.replay.proofs.Texts.{text_begun}
use Rattle.replay.proofs.staged.StagedReplays.replay.Goals as goal

pub returns-in_err-write_first_line-clause-fault : goal.returns-in_err-write_first_line-clause-fault
returns-in_err-write_first_line-clause-fault g c =
    passed_on c.from_residual.result _ _
    (λ f same. rw same (record { leaves = short_leaves (reply_texts g.F.Tree.files c.args.self.now.serving.now.server.served) c.args.reader.now.bytes _ _ _ c.in_err-write_first_line.field-0.0 c.in_err-write_first_line.ensures.own (inl c.in_err-write_first_line.ensures.part) }))
    c.from_residual.ensures.1

pub returns-in-Err-clause-fault : goal.returns-in-Err-clause-fault
returns-in-Err-clause-fault g c = rw c.from.ensures
    (record {
      leaves = leaves_reported (reply_texts g.F.Tree.files c.args.self.now.serving.now.server.served) c.args.reader.now.bytes _ c.args.writer.now.bytes c.write_first_line.new.writer.bytes c.in-Err.fault
          (halts_first (reply_texts g.F.Tree.files c.args.self.now.serving.now.server.served) c.args.reader.now.bytes _ c.args.writer.now.bytes c.write_first_line.new.writer.bytes _ c.in_ok-write_first_line.ensures.written c.in-Err.ensures.fault.at c.in-Err.ensures.fault.foreseen (rw c.in-Err.is at c.open.follows.holds-at-none).1)
          (inl (prefix_all c.args.writer.now.bytes c.write_first_line.new.writer.bytes _ c.in_ok-write_first_line.ensures.written));
    })

pub returns-in_err-decider-clause-fault : goal.returns-in_err-decider-clause-fault
returns-in_err-decider-clause-fault g c = passed_on c.from_residual-in_err-decider.result _ _ (λ f same. rw same (record { leaves = inl (prefix_all c.args.writer.now.bytes c.write_first_line.new.writer.bytes _ c.in_ok-write_first_line.ensures.written) })) c.from_residual-in_err-decider.ensures.1

pub loop-engine-init : goal.loop-engine-init
loop-engine-init g c =
    let files = g.F.Tree.files in let terms = c.args.self.now.serving.now.server.served in
    let of = c.in_ok-decider.ensures.of in (
      record {
        records = [];
        arrivals = [];
        read = rw (of.0, c.start.ensures, c.version-version.ensures) c.in-Ok.ensures.ok.after;
        tiers_are = tiers_none c.new-tiers.result c.new-tiers.ensures;
        answered = record {
          laws = replies_laws files terms;
          serves = serves_none files terms _ _ c.new-connections.ensures (rw c.server.view_is at (c.in_ok-decider.ensures.none files));
          written = text_begun (reply_texts g.F.Tree.files c.args.self.now.serving.now.server.served) _ c.args.writer.now.bytes c.write_first_line.new.writer.bytes (replies_laws files terms) c.in_ok-write_first_line.ensures.written;
          limit = of.1 ∙ c.max_messages.ensures;
          within = (let none = of.2 in omega (arith, none));
        };
      },
      refl,
      c.in-Ok.ensures.ok.count,
      c.in_ok-write_first_line.ensures.failures,
    )

pub returns-in_err-serve_next-clause-fault : goal.returns-in_err-serve_next-clause-fault
returns-in_err-serve_next-clause-fault g c =
    passed_on c.from_residual-in_err-serve_next.result _ _
    (λ f same. rw same (record {
      leaves = left_first (reply_texts g.F.Tree.files c.args.self.now.serving.now.server.served) _ _ c.serve_next.new.capture.input.now.bytes _ _ _ (search rules)
          (λ left. rw left (c.in_err-serve_next.ensures.fault _ _ _ c.loop-engine.invariant.0));
    }))
    c.from_residual-in_err-serve_next.ensures.1

pub returns-in_err-write_last_line-clause-fault : goal.returns-in_err-write_last_line-clause-fault
returns-in_err-write_last_line-clause-fault g c =
    let e = is_over _ (reply_texts g.F.Tree.files c.args.self.now.serving.now.server.served) g.F.Tree.files c.args.self.now.serving.now.server.served _ _ _ _ _ (state_of c.serve_next.new.engine) _ c.if-branch.false (c.in_ok-serve_next.ensures.on.1 _ _ _ c.loop-engine.invariant.0) in
    passed_on c.from_residual-in_err-write_last_line.result _ _
    (λ f same. rw same (record {
      leaves = short_leaves (reply_texts g.F.Tree.files c.args.self.now.serving.now.server.served) _ _ _ _ c.in_err-write_last_line.field-0.0 c.in_err-write_last_line.ensures.own
          (ends_short (reply_texts g.F.Tree.files c.args.self.now.serving.now.server.served) g.F.Tree.files c.args.self.now.serving.now.server.served c.version-version.result _ _ e.records e.arrivals _ _ _ _ _ _ e.answered.laws e.rules e.whole e.answered.serves e.answered.written c.in_err-write_last_line.ensures.part refl (within_format (reply_texts g.F.Tree.files c.args.self.now.serving.now.server.served) g.F.Tree.files c.args.self.now.serving.now.server.served _ _ _ _ _ _ e.answered));
    }))
    c.from_residual-in_err-write_last_line.ensures.1

pub returns-clause-ok : goal.returns-clause-ok
returns-clause-ok g c =
    let files = g.F.Tree.files in let terms = c.args.self.now.serving.now.server.served in
    let e = is_over _ (reply_texts g.F.Tree.files c.args.self.now.serving.now.server.served) g.F.Tree.files c.args.self.now.serving.now.server.served _ _ _ _ _ (state_of c.serve_next.new.engine) _ c.if-branch.false (c.in_ok-serve_next.ensures.on.1 _ _ _ c.loop-engine.invariant.0) in
    has_answered files terms _ _ _ _
    (all_written (reply_texts g.F.Tree.files c.args.self.now.serving.now.server.served) g.F.Tree.files c.args.self.now.serving.now.server.served c.version-version.result _ c.serve_next.new.engine.decider.totals.answered e.records e.arrivals _ c.serve_next.new.engine.decider _ _ _ _ _ e.answered.laws e.rules e.whole e.answered.serves e.answered.written c.in_ok-write_last_line.ensures.written refl
    (within_format (reply_texts g.F.Tree.files c.args.self.now.serving.now.server.served) g.F.Tree.files c.args.self.now.serving.now.server.served _ _ _ _ _ _ e.answered) c.outcome_of-outcome.ensures.version c.outcome_of-outcome.ensures.rejected (c.outcome_of-outcome.ensures.summary files terms e.arrivals e.answered.serves.stands))

pub serve_next-requires-sync-T : goal.serve_next-requires-sync-T
serve_next-requires-sync-T g c = λ κs lives. c.requires.shares.0
