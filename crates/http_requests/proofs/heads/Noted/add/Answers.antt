use Rattle.std.proofs.Common.{◌≡◌, ℕ, List, length, refl, arith, ap, ◌∙◌}
use Rattle.std.specs.Prelude.{codes}
use Rattle.httparse.specs.declared.spans.Span.{Span}
use Rattle.http_requests.specs.declared.heads.Lines.{Lines}
use Rattle.http_requests.specs.Reference.{same_text}
use Rattle.http_requests.specs.Lines.{and_if}
use Rattle.http_requests.proofs.HeadLemmas.{kept_line}
use Rattle.http_requests.proofs.heads.Noted.add.Goals as goal

-- no line is added to those of a name of another length
kept : (lines : Lines) (name text : List ℕ) (value : Span) (n : ℕ) → length name ≡ n → (length text ≡ n → ⊥)
    → lines ≡ and_if lines (same_text text name) value
kept lines name text value n len other = kept_line lines name text value (λ same. other (same ∙ len))

pub returns-then-len-eq10 : goal.returns-then-len-eq10
returns-then-len-eq10 c =
    let self = c.args.self.now in
    let text = c.args.name.now in
    let value = c.args.value in
    let f0 = c.if-len-eq10.true in
    record {
      coding = kept self.coding (codes "transfer-encoding") text value 17 refl (λ h. omega (arith, h, f0));
      length = kept self.length (codes "content-length") text value 14 refl (λ h. omega (arith, h, f0));
      connection = c.add_if.ensures ∙ ap (λ b. and_if self.connection b value) c.same_text.ensures;
      none_match = kept self.none_match (codes "if-none-match") text value 13 refl (λ h. omega (arith, h, f0));
      since = kept self.since (codes "if-modified-since") text value 17 refl (λ h. omega (arith, h, f0));
    }

pub returns-then-len-eq13 : goal.returns-then-len-eq13
returns-then-len-eq13 c =
    let self = c.args.self.now in
    let text = c.args.name.now in
    let value = c.args.value in
    let f0 = c.if-len-eq13.true in
    record {
      coding = kept self.coding (codes "transfer-encoding") text value 17 refl (λ h. omega (arith, h, f0));
      length = kept self.length (codes "content-length") text value 14 refl (λ h. omega (arith, h, f0));
      connection = kept self.connection (codes "connection") text value 10 refl (λ h. omega (arith, h, f0));
      none_match = c.add_if-then-len-eq13.ensures ∙ ap (λ b. and_if self.none_match b value) c.same_text-then-len-eq13.ensures;
      since = kept self.since (codes "if-modified-since") text value 17 refl (λ h. omega (arith, h, f0));
    }

pub returns-then-len-eq14 : goal.returns-then-len-eq14
returns-then-len-eq14 c =
    let self = c.args.self.now in
    let text = c.args.name.now in
    let value = c.args.value in
    let f0 = c.if-len-eq14.true in
    record {
      coding = kept self.coding (codes "transfer-encoding") text value 17 refl (λ h. omega (arith, h, f0));
      length = c.add_if-then-len-eq14.ensures ∙ ap (λ b. and_if self.length b value) c.same_text-then-len-eq14.ensures;
      connection = kept self.connection (codes "connection") text value 10 refl (λ h. omega (arith, h, f0));
      none_match = kept self.none_match (codes "if-none-match") text value 13 refl (λ h. omega (arith, h, f0));
      since = kept self.since (codes "if-modified-since") text value 17 refl (λ h. omega (arith, h, f0));
    }

pub returns-then-len-eq17 : goal.returns-then-len-eq17
returns-then-len-eq17 c =
    let self = c.args.self.now in
    let text = c.args.name.now in
    let value = c.args.value in
    let f0 = c.if-len-eq17.true in
    record {
      coding = c.add_if-then-len-eq17.ensures ∙ ap (λ b. and_if self.coding b value) c.same_text-then-len-eq17.ensures;
      length = kept self.length (codes "content-length") text value 14 refl (λ h. omega (arith, h, f0));
      connection = kept self.connection (codes "connection") text value 10 refl (λ h. omega (arith, h, f0));
      none_match = kept self.none_match (codes "if-none-match") text value 13 refl (λ h. omega (arith, h, f0));
      since = c.add_if-then-len-eq17-2.ensures ∙ ap (λ b. and_if self.since b value) c.same_text-then-len-eq17-2.ensures;
    }

pub returns-else-len-eq17 : goal.returns-else-len-eq17
returns-else-len-eq17 c =
    let self = c.args.self.now in
    let text = c.args.name.now in
    let value = c.args.value in
    let f0 = c.if-len-eq10.false in
    let f1 = c.if-len-eq13.false in
    let f2 = c.if-len-eq14.false in
    let f3 = c.if-len-eq17.false in
    record {
      coding = kept self.coding (codes "transfer-encoding") text value 17 refl (λ h. omega (arith, h, f0, f1, f2, f3));
      length = kept self.length (codes "content-length") text value 14 refl (λ h. omega (arith, h, f0, f1, f2, f3));
      connection = kept self.connection (codes "connection") text value 10 refl (λ h. omega (arith, h, f0, f1, f2, f3));
      none_match = kept self.none_match (codes "if-none-match") text value 13 refl (λ h. omega (arith, h, f0, f1, f2, f3));
      since = kept self.since (codes "if-modified-since") text value 17 refl (λ h. omega (arith, h, f0, f1, f2, f3));
    }
