use Rattle.std.proofs.Common.{◌≡◌, ℕ, ◌+◌, ◌<◌, List, ◌∷◌, refl, ◌++◌, [], length, slice_index, inl, inr, sym, ◌∙◌, ap, arith, rules, subst}
use Rattle.std.proofs.lemmas.Bool.{cases_lt}
use Rattle.std.proofs.lemmas.List.{get_or_append_left}
use Rattle.std.proofs.Math.Seq.{get_or-append_seam}
use Rattle.stage_graph.specs.Layouts.{Layout, IsChunkSize}
use Rattle.stage_graph.proofs.Chunking.{FitIn, chunk_fits, laid_in_chunks}
use Rattle.stage_graph.proofs.plan.Plan.in_chunks.Goals as goal

-- one more queue, in chunks
one_more : (size capacity chunks n : ℕ) (capacities sofar : List ℕ) → length sofar ≡ n → capacity ≡ slice_index capacities n
    → ((k : ℕ) → k < n → FitIn size (slice_index capacities k) (slice_index sofar k)) → FitIn size capacity chunks
    → (k : ℕ) → k < n + 1 → FitIn size (slice_index capacities k) (slice_index (sofar ++ chunks ∷ []) k)
one_more size capacity chunks n capacities sofar long own before fits k below = elim (cases_lt k n) [
  | inl lt ↦ rw (get_or_append_left sofar (chunks ∷ []) 0 k (omega (arith, long, lt))) (before k lt)
  | inr ge ↦ (let here : k ≡ length sofar = omega (arith, below, ge, long) in
      let there : k ≡ n = omega (arith, below, ge) in
      let last : slice_index (sofar ++ chunks ∷ []) k ≡ chunks = ap (slice_index (sofar ++ chunks ∷ [])) here ∙ get_or-append_seam sofar chunks [] 0 in
      let same : slice_index capacities k ≡ capacity = ap (slice_index capacities) there ∙ sym own in
      rw (last, same) fits)
]

pub chunks_within-requires : goal.chunks_within-requires
chunks_within-requires c =
    let p : Layout = record { cuts = c.self.inside.cuts.items; posts = c.self.inside.posts.items; capacities = c.self.inside.capacities.items } in
    let fit : IsChunkSize p c.args.size = let P : Layout → Type 0 = λ q. IsChunkSize q c.args.size in subst P (sym c.self.view_is) c.requires in
    chunk_fits p c.args.size c.loop-capacity.capacity-index c.deref-capacity-items.result.now c.deref-capacity-items.ensures.value c.self.invariant.0 fit c.loop-capacity-test.true

pub loop-capacity-preserved : goal.loop-capacity-preserved
loop-capacity-preserved c =
    let i = c.loop-capacity.invariant in
    let counted = i.0 in
    let n = c.loop-capacity.capacity-index in
    let long : length c.loop-capacity.capacities.items ≡ n = search (rules, counted) in (
      search (rules, counted),
      search (rules, i.1),
      rw c.push_reserved.ensures.items (one_more c.args.size _ c.chunks_within.result n c.deref-capacity-items.result.now c.loop-capacity.capacities.items long refl i.2 (record { some = c.chunks_within.ensures.some; fits = c.chunks_within.ensures.fits })),
    )

pub invariant_of-result : goal.invariant_of-result
invariant_of-result c =
    let p : Layout = record { cuts = c.self.inside.cuts.items; posts = c.self.inside.posts.items; capacities = c.self.inside.capacities.items } in
    let i = c.loop-capacity.invariant in
    let counted = i.0 in
    let ended = c.loop-capacity-test.false in
    let bound = c.loop-capacity.auto.capacity-index-end in
    let long : length c.loop-capacity.capacities.items ≡ length c.deref-capacity-items.result.now = grind (arith, counted, ended, bound) in
    let laid = laid_in_chunks p c.args.size c.deref-capacity-items.result.now c.loop-capacity.capacities.items c.deref-capacity-items.ensures.value c.self.invariant.0 c.requires.some long (λ k below. i.2 k (omega (arith, below, ended))) in
    rw (c.in_ok-cuts.ensures.items, c.deref.ensures.value, c.in_ok-posts.ensures.items, c.deref-2.ensures.value) laid.0

pub returns : goal.returns
returns c =
    let p : Layout = record { cuts = c.self.inside.cuts.items; posts = c.self.inside.posts.items; capacities = c.self.inside.capacities.items } in
    let i = c.loop-capacity.invariant in
    let counted = i.0 in
    let ended = c.loop-capacity-test.false in
    let bound = c.loop-capacity.auto.capacity-index-end in
    let long : length c.loop-capacity.capacities.items ≡ length c.deref-capacity-items.result.now = grind (arith, counted, ended, bound) in
    let laid = laid_in_chunks p c.args.size c.deref-capacity-items.result.now c.loop-capacity.capacities.items c.deref-capacity-items.ensures.value c.self.invariant.0 c.requires.some long (λ k below. i.2 k (omega (arith, below, ended))) in
    rw (← c.self.view_is, c.in_ok-cuts.ensures.items, c.deref.ensures.value, c.in_ok-posts.ensures.items, c.deref-2.ensures.value) laid.1
