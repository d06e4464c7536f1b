-- From what the parser answers to the verdict of a block.
use Rattle.std.proofs.Common.{◌≡◌, ℕ, ◌-◌, inl, inr, List, [], length, take, drop, map, refl, sym, ◌∙◌, ap, arith, length-drop}
use Rattle.std.proofs.lemmas.Grind.{common_steps}
use Rattle.std.proofs.Math.ListN.{drop_of_length-le}
use Rattle.httparse.specs.Grammar.{RequestHead}
use Rattle.httparse.specs.declared.spans.HeaderSpan.{HeaderSpan}
use Rattle.httparse.specs.declared.spans.RequestSpans.{RequestSpans}
use Rattle.httparse.specs.Spans.{IsRequestWithin, IsRequestAt, IsRequestOf, header_bytes, name_and_value, span_bytes}
use Rattle.httparse.proofs.GrammarLemmas.{request_unique}
use Rattle.http_requests.specs.declared.messages.MessageFault.TheVariants.{Block}
use Rattle.http_requests.specs.declared.heads.Verdict.{Verdict}
use Rattle.http_requests.specs.Reference.{IsVerdict, IsHead, PartsSay, bad}
use Rattle.http_requests.specs.Lines.{HeadSays}
use Rattle.http_requests.proofs.HeadLemmas.{lines_from}

field_count : (block : List ℕ) (headers : List HeaderSpan) (r : RequestSpans) (h : RequestHead) → IsRequestWithin block headers r → IsRequestAt block headers r h → r.headers ≡ length h.fields
field_count block headers r h w a =
    let e = ap length a.fields in
    let l : length (map (header_bytes block) (take r.headers headers)) ≡ length (take r.headers headers) = grind (arith, common_steps) in
    let m : length (map name_and_value h.fields) ≡ length h.fields = grind (arith, common_steps) in
    let f = w.section.count_fits in
    let t : length (take r.headers headers) ≡ r.headers = grind (arith, common_steps, f) in
    sym t ∙ sym l ∙ e ∙ m

-- the parts of the head that was read say what the head says
parts_head : (block : List ℕ) (headers : List HeaderSpan) (r : RequestSpans) (h : RequestHead) (v : Verdict) → IsRequestAt block headers r h
    → PartsSay (span_bytes block r.method) (span_bytes block r.path) r.version (lines_from block (take r.headers headers)) v → HeadSays h v
parts_head block headers r h v a says = rw (← a.method, ← a.path, ← a.version, ← a.fields) says

pub judge_head : (block : List ℕ) (headers : List HeaderSpan) (r : RequestSpans) (v : Verdict) → IsRequestWithin block headers r → IsRequestOf block headers r
    → r.len ≡ length block → length headers ≡ 64
    → PartsSay (span_bytes block r.method) (span_bytes block r.path) r.version (lines_from block (take r.headers headers)) v → IsVerdict block v
unfolding IsVerdict
judge_head block headers r v w of whole capacity says =
    let h = of.0 in
    let a = of.1 in
    let n = field_count block headers r h w a in
    let f = w.section.count_fits in
    let none : drop r.len block ≡ [] = drop_of_length-le block {i = r.len} (omega (arith, whole)) in
    inl (h, (rw none at a.reads, omega (arith, n, f, capacity)), parts_head block headers r h v a says)

pub judge_other : (block : List ℕ) (headers : List HeaderSpan) (r : RequestSpans) → IsRequestWithin block headers r → IsRequestOf block headers r
    → (r.len ≡ length block → ⊥) → IsVerdict block (bad Block)
unfolding IsVerdict
judge_other block headers r w of part =
    inr (
      (λ k is. let u = request_unique block of.0 k (drop r.len block) [] of.1.reads is.0 in
          let l : length block - r.len ≡ 0 = rw (← length-drop r.len block, u.1) refl in
          let f = w.section.len_fits in
          part (omega (arith, l, f))),
      refl,
    )

pub judge_none : (block : List ℕ) → ((h : RequestHead) → IsHead block h → ⊥) → IsVerdict block (bad Block)
unfolding IsVerdict
judge_none block h = inr (h, refl)
