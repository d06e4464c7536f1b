-- Chunks that helpers take through a floor.
use Rattle.std.proofs.Common.{◌≡◌, ℕ, zero, suc, ◌+◌, ◌<◌, ◌≤◌, List, [], ◌∷◌, ◌++◌, Option, Some, length, map, take, slice_get, refl, sym, ap, ◌∙◌, arith, subst, append_assoc}
use Rattle.std.specs.Prelude.{flat_map, slice_index, ◌-◌}
use Rattle.std.specs.List.{range_with_len, sum_by, AllByRecursion}
use Rattle.std.proofs.lemmas.List.{map-append, length-append, length-map, take_all}
use Rattle.std.proofs.lemmas.List.Elements.{recursion_from_All, All-from_recursion}
use Rattle.std.proofs.lemmas.List.FromFn.{length-range_with_len, length-map-range_with_len, map-range_with_len_more}
use Rattle.std.proofs.lemmas.List.Sums.{sum_by-cons}
use Rattle.stage_graph.specs.After.{FloorAfter, Parts, last_cut, with_steps}
use Rattle.stage_graph.specs.Helpers.{AreSized}
use Rattle.stage_graph.specs.Layouts.{Layout, IsChunk}
use Rattle.stage_graph.specs.Through.{AreChunksOf, IsFloorInChunks}
use Rattle.stage_graph.specs.declared.event.Event.{Event}

-- what is on a floor of this plan is on one of a plan that is the same
pub renamed : {X : Type 0} (mark : X → ℕ × ℕ) (p q : Layout) (n m : ℕ) (h : List Event) (f : Parts X) → p ≡ q → n ≡ m → FloorAfter mark p n h f → FloorAfter mark q m h f
renamed mark p q n m h f a b is =
    let P : Layout → Type 0 = λ l. FloorAfter mark l m h f in
    let Q : ℕ → Type 0 = λ k. FloorAfter mark p k h f in
    subst P a (subst Q b is)

-- a chunk with no step done is as it was noted
pub set_out_so : {L V : Type 0} (content : L → V) (chunk : L) (note : Option L) → note ≡ Some chunk
    → (x y : L) → Some chunk ≡ Some x → note ≡ Some y → content x ≡ content y
set_out_so content chunk mark is x y a b = let same : x ≡ y = cc (a, b, is) in ap content same

-- the noted chunk of a place
noted_at : {L : Type 0} (chunks : List L) (k : ℕ) (n : Option L) → slice_get (map Some chunks) k ≡ Some n
    → (x : L) × ((n ≡ Some x) × (take (suc k) chunks ≡ take k chunks ++ x ∷ []))
noted_at [] k n h = absurd (let z : ⊥ = cc (h) in z)
noted_at (x ∷ chunks) zero n h = let same : n ≡ Some x = cc (h) in (x, (same, refl))
noted_at (x ∷ chunks) (suc k) n h = let r = noted_at chunks k n h in (r.0, (r.1.0, ap (λ ys. x ∷ ys) r.1.1))

-- each chunk so far has the value of the noted one, and so has the next
pub next_arrived : {L V : Type 0} (content before : L → V) (notes : List (Option L)) (chunks : List L) (chunk : L) (n : Option L)
    → slice_get notes (length chunks) ≡ Some n → ((y : L) → n ≡ Some y → content chunk ≡ before y)
    → ((noted : List L) → notes ≡ map Some noted → map content chunks ≡ map before (take (length chunks) noted))
    → (noted : List L) → notes ≡ map Some noted
    → map content (chunks ++ chunk ∷ []) ≡ map before (take (length (chunks ++ chunk ∷ [])) noted)
next_arrived content before notes chunks chunk n at is so_far noted all =
    let here = noted_at noted (length chunks) n (rw (← all) at) in
    let one : content chunk ≡ before here.0 = is here.0 here.1.0 in
    let more : length (chunks ++ chunk ∷ []) ≡ suc (length chunks) = omega (arith, length-append chunks (chunk ∷ [])) in
    map-append content chunks (chunk ∷ [])
    ∙ (ap (λ vs. vs ++ content chunk ∷ []) (so_far noted all)
    ∙ (ap (λ v. map before (take (length chunks) noted) ++ v ∷ []) one
    ∙ (sym (map-append before (take (length chunks) noted) (here.0 ∷ []))
    ∙ ap (map before) (sym (rw more here.1.1)))))

-- where as many chunks came as were noted, each has the value of the noted one
pub all_arrived : {L V : Type 0} (content before : L → V) (notes : List (Option L)) (chunks noted : List L) → length chunks ≡ length notes
    → notes ≡ map Some noted → map content chunks ≡ map before (take (length chunks) noted) → map content chunks ≡ map before noted
all_arrived content before notes chunks noted long all is =
    let same = ap length all ∙ length-map noted Some in
    let most : length noted ≤ length chunks = omega (arith, long, same) in
    is ∙ ap (map before) (take_all (length chunks) noted most)

-- the numbers of the items in chunks of these sizes, numbered through from a on
abbrev pub numbered_chunks : {L : Type 0} → (L → ℕ) → ℕ → List L → List (List ℕ)
numbered_chunks count a [] = []
numbered_chunks count a (l ∷ chunks) = range_with_len a (count l) ∷ numbered_chunks count (a + count l) chunks

range_joined : (a k m : ℕ) → range_with_len a k ++ range_with_len (a + k) m ≡ range_with_len a (k + m)
range_joined a zero m =
    let start : a + 0 ≡ a = omega arith in
    let count : 0 + m ≡ m = omega arith in
    rw (start, count) refl
range_joined a (suc k) m =
    let start : a + suc k ≡ a + 1 + k = omega arith in
    let count : suc k + m ≡ suc (k + m) = omega arith in
    rw (start, count) (ap (λ ns. a ∷ ns) (range_joined (a + 1) k m))

in_order : {L : Type 0} (count : L → ℕ) (a : ℕ) (chunks : List L) → flat_map (λ ns. ns) (numbered_chunks count a chunks) ≡ range_with_len a (sum_by count chunks)
in_order count a [] = refl
in_order count a (l ∷ chunks) =
    rw (sum_by-cons count l chunks) (ap (λ ns. range_with_len a (count l) ++ ns) (in_order count (a + count l) chunks)
    ∙ range_joined a (count l) (sum_by count chunks))

sized : {L : Type 0} (count : L → ℕ) (size a : ℕ) (chunks : List L) → AllByRecursion (λ l. (0 < count l) × (count l ≤ size)) chunks
    → AllByRecursion (λ ns. IsChunk size ns) (numbered_chunks count a chunks)
sized count size a [] is = tt
sized count size a (l ∷ chunks) is =
    let long = length-range_with_len a (count l) in
    ((omega (arith, long, is.0.0), omega (arith, long, is.0.1)), sized count size (a + count l) chunks is.1)

-- chunks of these sizes are chunks of all their items
pub chunks_by_count : {L : Type 0} (count : L → ℕ) (size : ℕ) (chunks : List L) → AreSized count size chunks
    → AreChunksOf size (sum_by count chunks) (numbered_chunks count 0 chunks)
chunks_by_count count size chunks is = record {
  in_order = in_order count 0 chunks;
  small = All-from_recursion _ _ (sized count size 0 chunks (recursion_from_All _ _ is));
}

pub length-numbered : {L : Type 0} (count : L → ℕ) (a : ℕ) (chunks : List L) → length chunks ≡ length (numbered_chunks count a chunks)
length-numbered count a [] = refl
length-numbered count a (l ∷ chunks) = ap suc (length-numbered count (a + count l) chunks)

-- there are as many items as numbers
pub as_many : {X : Type 0} (number done : X → ℕ) (xs : List X) (n : ℕ)
    → map {B = ℕ × ℕ} (λ x. (number x, done x)) xs ≡ map (with_steps 0) (range_with_len 0 n) → length xs ≡ n
as_many number done xs n fresh =
    sym (length-map xs (λ x. (number x, done x))) ∙ (ap length fresh ∙ length-map-range_with_len (with_steps 0) 0 n)

-- one more item with no step done
pub fresh_more : {X : Type 0} (number done : X → ℕ) (xs : List X) (x : X) (k : ℕ)
    → map {B = ℕ × ℕ} (λ x. (number x, done x)) xs ≡ map (with_steps 0) (range_with_len 0 k) → number x ≡ k → done x ≡ 0
    → map {B = ℕ × ℕ} (λ x. (number x, done x)) (xs ++ x ∷ []) ≡ map (with_steps 0) (range_with_len 0 (k + 1))
fresh_more number done xs x k fresh is none =
    let new : ◌≡◌ {A = ℕ × ℕ} (number x, done x) (k, 0) = cc in
    map-append (λ x. (number x, done x)) xs (x ∷ []) ∙ rw (fresh, new) (sym (map-range_with_len_more (with_steps 0) 0 k k (omega arith)))

-- a chunk that was noted goes from those that are left to the notes
pub notes_more : {L : Type 0} (notes : List (Option L)) (old new : List L) (x : L) (n : Option L) (all : List (Option L))
    → old ≡ x ∷ new → n ≡ Some x → notes ++ map Some old ≡ all → (notes ++ n ∷ []) ++ map Some new ≡ all
notes_more notes old new x n all steps same h =
    append_assoc notes (n ∷ []) (map Some new)
    ∙ (ap (λ m. notes ++ (m ∷ map Some new)) same ∙ (ap (λ xs. notes ++ map Some xs) (sym steps) ∙ h))

-- the floor in chunks ends where the plan does
pub same_cut : (plan floor : Layout) (size : ℕ) → IsFloorInChunks plan size floor → last_cut floor ≡ last_cut plan
same_cut plan floor size laid = ap (λ cuts. slice_index cuts (length cuts - 1)) laid.cuts
