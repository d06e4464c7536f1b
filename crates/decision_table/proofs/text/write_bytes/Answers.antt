use Rattle.std.proofs.Common.{◌∙◌, ◌++◌, [], sym, ap, refl, arith, append_assoc, append-nil}
use Rattle.std.proofs.lemmas.Result.{err_from_is_err_and}
use Rattle.devices.proofs.Appending.{appends_none, appends_then, stopped_in}
use Rattle.percent_encoding.specs.Iter.{encoded_text}
use Rattle.decision_table.specs.Rows.{text_bytes}
use Rattle.decision_table.proofs.Escapes.{escaped}
use Rattle.decision_table.proofs.text.write_bytes.Goals as goal

pub loop-piece-init : goal.loop-piece-init
loop-piece-init g c = (
  ([], appends_none c.args.output.now.bytes, rw c.into_iter-piece-iterator.ensures.into_iter_gives (sym (c.percent_encode-piece-items.ensures.text ∙ escaped c.args.bytes.now (λ i. (let h = c.type_inv.bytes i in omega (arith, h)))))),
  refl,
)

pub loop-piece-preserved : goal.loop-piece-preserved
loop-piece-preserved g c =
    let inv = c.loop-piece.invariant in
    let piece = c.as_bytes.result.now in (
      (
        inv.0.0 ++ piece,
        appends_then _ _ _ inv.0.0 piece inv.0.1 c.in_ok-write_all.ensures.prefix,
        inv.0.2 ∙ ap (λ v. inv.0.0 ++ v) (c.in-Some.ensures.steps ∙ ap (λ v. v ++ encoded_text c.next.new.self) (sym c.as_bytes.ensures.value)) ∙ sym (append_assoc inv.0.0 piece _),
      ),
      c.in_ok-write_all.ensures.count ∙ inv.1,
    )

pub returns-in_err-write_all-clause-prefix : goal.returns-in_err-write_all-clause-prefix
returns-in_err-write_all-clause-prefix g c =
    let inv = c.loop-piece.invariant in
    let stop = err_from_is_err_and c.from_residual.result c.from_residual.ensures.1 in
    rw stop.1 (stopped_in _ _ _ inv.0.0 c.as_bytes.result.now _ (text_bytes c.args.bytes.now) (inv.0.2 ∙ ap (λ v. inv.0.0 ++ v) (c.in-Some.ensures.steps ∙ ap (λ v. v ++ encoded_text c.next.new.self) (sym c.as_bytes.ensures.value))) inv.0.1 c.in_err-write_all.ensures.prefix)

pub returns-clause-prefix : goal.returns-clause-prefix
returns-clause-prefix g c =
    let inv = c.loop-piece.invariant in
    rw (inv.0.2 ∙ ap (λ v. inv.0.0 ++ v) c.in-None.ensures.steps ∙ append-nil inv.0.0) inv.0.1
