use Rattle.std.proofs.Common.{◌≡◌, ◌++◌, ap, cond, subst, List, ℕ, sym, ◌∙◌}
use Rattle.percent_encoding.specs.Percent.{percent_encode_byte}
use Rattle.devices.specs.Devices.{WritesProperPrefix}
use Rattle.devices.proofs.Appending.{writes_proper_then}
use Rattle.decision_table.specs.Rows.{text_byte, text_bytes, text_field}
use Rattle.decision_table.proofs.text.write_text.Goals as goal

pub returns-clause-prefix : goal.returns-clause-prefix
returns-clause-prefix g c =
    let first = c.in-Some.first.now in
    let others = text_bytes c.in-Some.others.now in
    let escape = c.as_bytes.result.now in
    let whole : text_field c.args.bytes.now ≡ escape ++ others =
    ap text_field c.in-Some.ensures.cases.0
    ∙ ap (λ t. cond t (percent_encode_byte first) (text_byte first) ++ others) (sym c.begins_formula.ensures ∙ c.if-not-begins_formula.false)
    ∙ ap (λ v. v ++ others) (sym (c.as_bytes.ensures.value ∙ c.percent_encode_byte.ensures)) in
    subst (λ (text : List ℕ). WritesProperPrefix c.args.output.now.bytes c.write_bytes-2.new.output.bytes c.write_bytes-2.result text) (sym whole)
    (writes_proper_then _ _ _ escape others _ c.in_ok-write_all.ensures.prefix c.write_bytes-2.ensures.prefix)
