use Rattle.std.proofs.Common.{◌≡◌, ℕ, ◌+◌, ◌-◌, ◌≤◌, List, length, take, drop, ap, arith, length-drop}
use Rattle.std.proofs.lemmas.Grind.{common_steps}
use Rattle.http_requests.specs.Reference.{EndsAt, blank_len}
use Rattle.http_requests.proofs.EndLaws.{ends_within}
use Rattle.http_requests.proofs.FrontLemmas.{blank_fixed}
use Rattle.http_requests.proofs.scanning.find.Goals.{then-start-eq0, else-start-eq0}
use Rattle.http_requests.proofs.scanning.find.Goals as goal

same_rest : (r : List ℕ) (q : ℕ) → take (length r - q) (drop q r) ≡ drop q r
same_rest r q = grind (arith, common_steps)

ends_whole : (r : List ℕ) (q e : ℕ) → q ≡ 0 → EndsAt (take (length r - q) (drop q r)) e → EndsAt r e
ends_whole r q e h ends = rw (same_rest r q, h) at ends

begins_none : (r : List ℕ) (q : ℕ) → q ≡ blank_len r → blank_len (take (length r - q) (drop q r)) ≡ 0
begins_none r q is = rw (same_rest r q, is) (blank_fixed r)

pub block_end-requires-clause-begins : goal.block_end-requires-clause-begins
block_end-requires-clause-begins c = begins_none c.args.r.now c.blanks-start.result c.blanks-start.ensures.is

pub block_end-requires-clause-none : goal.block_end-requires-clause-none
block_end-requires-clause-none c = λ e below ends. elim c.if-start-eq0.branch [
  | then-start-eq0 w ↦ c.requires.none e (rw w.seen-is at below) (ends_whole c.args.r.now c.blanks-start.result e w.if-start-eq0.true ends)
  | else-start-eq0 w ↦ (let n = rw w.seen-is at below in let two = ends_within _ e ends in omega (arith, n, two.0))
]

pub returns-in-Some : goal.returns-in-Some
returns-in-Some c =
    let block = rw (same_rest c.args.r.now c.blanks-start.result) at c.in-Some.ensures.some in
    let e = ends_within _ _ block.ends in
    let n : c.in-Some.len ≤ length c.args.r.now - c.blanks-start.result = rw (← length-drop c.blanks-start.result c.args.r.now) e.1 in
    (c.blanks-start.ensures.is, (let w = c.blanks-start.ensures.within in omega (arith, n, w)), block)

pub returns-then-r-start-ge-MAX_BLOCK_BYTES : goal.returns-then-r-start-ge-MAX_BLOCK_BYTES
returns-then-r-start-ge-MAX_BLOCK_BYTES c =
    let none = rw (same_rest c.args.r.now c.blanks-start.result) at c.in-None.ensures.none in
    let is = c.blanks-start.ensures.is in
    (ap (λ n. n + 8192) is, rw (← is) none, (let t = c.if-r-start-ge-MAX_BLOCK_BYTES.true in let w = c.blanks-start.ensures.within in omega (arith, t, w)))

pub returns-else-r-start-ge-MAX_BLOCK_BYTES : goal.returns-else-r-start-ge-MAX_BLOCK_BYTES
returns-else-r-start-ge-MAX_BLOCK_BYTES c =
    let none = rw (same_rest c.args.r.now c.blanks-start.result) at c.in-None.ensures.none in
    (c.blanks-start.ensures.is, c.blanks-start.ensures.within, none, (let t = c.if-r-start-ge-MAX_BLOCK_BYTES.false in omega (arith, t)))
