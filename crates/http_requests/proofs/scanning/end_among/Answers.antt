use Rattle.std.proofs.Common.{◌≡◌, ℕ, ◌+◌, ◌<◌, ◌⊎◌, inl, inr, false, List, slice_index, sym, ◌∙◌, ap, arith}
use Rattle.std.specs.Int.{bit_at}
use Rattle.std.proofs.lemmas.Bool.{cases_eq}
use Rattle.std.proofs.lemmas.Nat.Bits.{bit_at-zero}
use Rattle.http_requests.specs.Scanning.{ends_at}
use Rattle.http_requests.specs.Scanning.{NoEndIn}
use Rattle.http_requests.proofs.EndLemmas.{none_behind, first_end}
use Rattle.http_requests.proofs.scanning.end_among.Goals as goal

-- no block ends up to some bytes of which none is marked
none_unmarked : (s : List ℕ) (at n marks : ℕ) → NoEndIn at s
    → ((k : ℕ) → k < n → slice_index s (at + k) ≡ 10 → (bit_at marks k ≡ 1) ⊎ (ends_at s (at + k + 1) ≡ false))
    → ((k : ℕ) → k < n → bit_at marks k ≡ 0) → NoEndIn (at + n) s
none_unmarked s at n marks none each clear = none_behind s at n none (λ k below feed. elim (each k below feed) [
  | inl set ↦ absurd (let e = clear k below in omega (arith, e, set))
  | inr isnt ↦ isnt
])

pub loop-left-init : goal.loop-left-init
loop-left-init c = record { feeds = λ k below. (c.requires.feeds k below).0; each = λ k below feed. inl ((c.requires.feeds k below).1 feed) }

pub ends_with-requires-clause-feed : goal.ends_with-requires-clause-feed
ends_with-requires-clause-feed c = c.loop-left.invariant.feeds c.lowest-feed.result c.lowest-feed.ensures.bound c.lowest-feed.ensures.set

pub returns-then-ends_with-clause-some : goal.returns-then-ends_with-clause-some
returns-then-ends_with-clause-some c =
    let n = c.lowest-feed.result in
    let below = c.lowest-feed.ensures.bound in
    let l = c.requires.limit in
    first_end c.args.s.now (c.args.at + n)
    (none_unmarked c.args.s.now c.args.at n c.loop-left.left c.requires.none (λ k before feed. c.loop-left.invariant.each k (omega (arith, before, below)) feed) c.lowest-feed.ensures.below)
    (sym c.if-ends_with.ensures) (omega (arith, below, l))

pub loop-left-preserved : goal.loop-left-preserved
loop-left-preserved c =
    let n = c.lowest-feed.result in
    let s = c.args.s.now in
    record {
      feeds = λ k below set. c.loop-left.invariant.feeds k below (c.without-left.ensures.no_more k set);
      each = λ k below feed. elim (cases_eq k n) [
        | inl here ↦ inr (ap (λ j. ends_at s (c.args.at + j + 1)) here ∙ sym c.if-ends_with.ensures)
        | inr other ↦ elim (c.loop-left.invariant.each k below feed) [
          | inl set ↦ inl (c.without-left.ensures.kept k below other ∙ set)
          | inr isnt ↦ inr isnt
        ]
      ];
    }

pub returns-clause-none : goal.returns-clause-none
returns-clause-none c =
    none_unmarked c.args.s.now c.args.at 64 c.loop-left.left c.requires.none c.loop-left.invariant.each
    (λ k below. ap (λ m. bit_at m k) c.loop-left-test.false ∙ bit_at-zero k)
