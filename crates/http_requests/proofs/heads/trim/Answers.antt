use Rattle.std.proofs.Common.{◌≡◌, ℕ, List, length, reverse, slice_range, sym, ap, ◌∙◌, arith}
use Rattle.std.proofs.lemmas.List.{reverse-reverse}
use Rattle.httparse.specs.Grammar.{skip_ows, trim_ows}
use Rattle.httparse.proofs.TrimLemmas.{skip_ows_yes, skip_ows_no, slice_first, slice_last, slice_empty}
use Rattle.http_requests.proofs.heads.trim.Goals.{then-loop-start-test+else-is_space, else-loop-start-test, then-loop-end-test+else-is_space-2, else-loop-end-test}
use Rattle.http_requests.proofs.heads.trim.Goals as goal

pub loop-end-init : goal.loop-end-init
unfolding trim_ows
loop-end-init c =
    let text = c.args.text.now in
    let here = slice_range text c.loop-start.start (length text) in
    let order = c.loop-start.invariant.ordered in
    let stays : skip_ows here ≡ here =
    elim c.loop-start-test.branch [
      | then-loop-start-test+else-is_space w ↦
          skip_ows_no (slice_first text c.loop-start.start (length text) w.loop-start-test.true (omega arith)) w.if-is_space.ensures
      | else-loop-start-test w ↦
          let empty = slice_empty text c.loop-start.start (length text) (let t = w.loop-start-test.false in omega (arith, t, order)) (omega arith) in
          ap skip_ows empty ∙ sym empty
    ] in
    record {
      ordered = order;
      within = omega arith;
      same = ap (λ (t : List ℕ). reverse (skip_ows (reverse t))) (c.loop-start.invariant.same ∙ stays);
    }

pub loop-end-preserved : goal.loop-end-preserved
loop-end-preserved c =
    let i = c.loop-end.invariant in
    let t = c.loop-end-test.true in
    let w = i.within in
    let last = slice_last c.args.text.now c.loop-start.start c.loop-end.end t w in
    record {
      ordered = omega (arith, t);
      within = omega (arith, w);
      same = i.same ∙ ap reverse (skip_ows_yes last c.if-is_space-2.ensures);
    }

pub returns : goal.returns
returns c =
    let text = c.args.text.now in
    let i = c.loop-end.invariant in
    let w = i.within in
    let o = i.ordered in
    let here = slice_range text c.loop-start.start c.loop-end.end in
    let stays : skip_ows (reverse here) ≡ reverse here =
    elim c.loop-end-test.branch [
      | then-loop-end-test+else-is_space-2 v ↦
          skip_ows_no (slice_last text c.loop-start.start c.loop-end.end v.loop-end-test.true w) v.if-is_space-2.ensures
      | else-loop-end-test v ↦
          let empty = slice_empty text c.loop-start.start c.loop-end.end (let t = v.loop-end-test.false in omega (arith, t, o)) w in
          ap (λ (t : List ℕ). skip_ows (reverse t)) empty ∙ sym (ap reverse empty)
    ] in
    sym (i.same ∙ ap reverse stays ∙ reverse-reverse here)
