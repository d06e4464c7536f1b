use Rattle.std.proofs.Common.{◌≡◌, ℕ, List, ◌≤◌, ◌⊎◌, inl, inr, length, arith}
use Rattle.std.specs.Prelude.{min, Option, Some, None, IfNone}
use Rattle.std.proofs.lemmas.Bool.{cases_lt}
use Rattle.http_requests.specs.Reference.{NoBlock}
use Rattle.http_requests.specs.Scanning.{NoEndIn}
use Rattle.http_requests.proofs.EndLemmas.{no_end_first, none_left}
use Rattle.http_requests.proofs.scanning.block_end.Goals as goal

is_min : (n last : ℕ) → last ≡ min n 8192 → (n ≤ last) ⊎ (8192 ≤ last)
is_min n last h = elim (cases_lt n 8192) [ inl lt ↦ inl (grind (arith, h, lt)) | inr ge ↦ inr (grind (arith, h, ge)) ]

none_found : (s : List ℕ) (last : ℕ) (found : Option ℕ) → (length s ≤ last) ⊎ (8192 ≤ last) → IfNone found (NoEndIn last s) → IfNone found (NoBlock s)
none_found s last None all none = none_left s last last none (omega arith) all
none_found s last (Some e) all none = none

pub loop-at-init : goal.loop-at-init
loop-at-init c =
    let f = c.if-at-last.false in
    record {
      two = (let e = c.max-at.ensures in omega (arith, e));
      within = omega (arith, f);
      none = no_end_first c.args.s.now c.args.seen c.max-at.result c.requires.begins c.requires.none c.max-at.ensures;
    }

pub returns-then-at-last-clause-none : goal.returns-then-at-last-clause-none
returns-then-at-last-clause-none c =
    none_left c.args.s.now c.max-at.result c.min-last.result
    (no_end_first c.args.s.now c.args.seen c.max-at.result c.requires.begins c.requires.none c.max-at.ensures) c.if-at-last.true (is_min _ _ c.min-last.ensures)

pub returns-clause-none : goal.returns-clause-none
returns-clause-none c =
    none_found c.args.s.now c.min-last.result c.end_up_to.result (is_min _ _ c.min-last.ensures) c.end_up_to.ensures.none
