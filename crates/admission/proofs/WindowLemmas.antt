-- One more sample in a window.
use Rattle.std.proofs.Common.{◌≡◌, ℕ, suc, ◌+◌, ◌-◌, ◌<◌, ◌≤◌, List, [], ◌∷◌, ◌++◌, length, refl, sym, ◌∙◌, ap, arith, Some, None, slice_get, length-append, nat_lt, if◌then◌else◌, inl, inr}
use Rattle.std.specs.Prelude.{replicate}
use Rattle.std.specs.List.Sorted.{IsStrictlySortedBy}
use Rattle.std.specs.Ordering.{nat_cmp}
use Rattle.std.specs.Map.{keys_of}
use Rattle.std.specs.BTreeMap.{insert_entry}
use Rattle.std.proofs.lemmas.Bool.{lt-ltb, le-ltb, cases_lt, cases_eq}
use Rattle.std.proofs.lemmas.List.{length-replicate}
use Rattle.std.proofs.lemmas.Option.{slice_get_past}
use Rattle.circular_buffer.specs.Buffer.{keep_last}
use Rattle.admission.specs.Limits.{MAX_WINDOW}
use Rattle.admission.specs.Reference.{insert_sorted, sorted, rank, percentile}
use Rattle.admission.specs.Tally.{expanded, AllCounted, count_in, remove_one, IsTally}
use Rattle.admission.proofs.SortLemmas.{sorted_push, remove-insert, length-sorted}
use Rattle.admission.proofs.TallyLemmas.{expanded-insert, counted-insert, count-none, count-here, count-off, expanded-cons}
use Rattle.admission.proofs.WalkLemmas.{from_top, rank-within}

-- an empty map counts no samples
pub tally_none : (size : ℕ) → 1 ≤ size → size ≤ MAX_WINDOW → IsTally [] [] size
unfolding expanded sorted AllCounted
tally_none size some most = record { agrees = refl; counted = tt; held = omega arith; some = some; most = most }

-- ---- the percentile

pub percentile-none : (samples : List ℕ) → length samples ≡ 0 → None ≡ percentile samples
percentile-none samples none =
    sym (slice_get_past (sorted samples) (rank (length samples) - 1) (omega (arith, length-sorted samples)))

pub percentile-from_top : (entries : List (ℕ × ℕ)) (samples : List ℕ) → expanded entries ≡ sorted samples → 0 < length samples
    → from_top entries (length samples - rank (length samples)) ≡ percentile samples
percentile-from_top entries samples agrees some =
    let long : length (sorted samples) ≡ length samples = length-sorted samples in
    let ranks : (rank (length samples) ≤ length samples) × (1 ≤ rank (length samples)) = rank-within (length samples) some in
    let place : length samples - 1 - (length samples - rank (length samples)) ≡ rank (length samples) - 1 =
    omega (arith, ranks.0, ranks.1) in
    rw (agrees, long, place) refl

pub top-within : (entries : List (ℕ × ℕ)) (samples : List ℕ) → expanded entries ≡ sorted samples → 0 < length samples
    → length samples - rank (length samples) < length (expanded entries)
top-within entries samples agrees some =
    let long : length (sorted samples) ≡ length samples = length-sorted samples in
    let ranks : (rank (length samples) ≤ length samples) × (1 ≤ rank (length samples)) = rank-within (length samples) some in
    rw (agrees, long) (omega (arith, ranks.0, ranks.1))

-- ---- adding

-- a sample is counted at most as often as there are samples
count_in-le : (entries : List (ℕ × ℕ)) (x : ℕ) → count_in entries x ≤ length (expanded entries)
count_in-le [] x = rw (count-none x) (omega arith)
count_in-le ((k, c) ∷ entries) x =
    let long : length (expanded ((k, c) ∷ entries)) ≡ c + length (expanded entries) =
    rw (expanded-cons k c entries, length-append (replicate c k) (expanded entries), length-replicate c k) refl in
    elim (cases_eq x k) [
      | inl same ↦ omega (arith, long, count-here x k c entries same)
      | inr apart ↦ omega (arith, long, count-off x k c entries apart, count_in-le entries x)
    ]

pub count-small : (entries : List (ℕ × ℕ)) (samples : List ℕ) (size x : ℕ) → IsTally entries samples size
    → count_in entries x ≤ MAX_WINDOW
count-small entries samples size x tally =
    omega (arith, count_in-le entries x, ap length tally.agrees, length-sorted samples, tally.held, tally.most)

-- the map with a sample more
expanded_more : (entries : List (ℕ × ℕ)) (samples : List ℕ) (size x : ℕ) → IsStrictlySortedBy nat_cmp (keys_of entries)
    → IsTally entries samples size
    → expanded (insert_entry nat_cmp entries x (count_in entries x + 1)) ≡ sorted (samples ++ x ∷ [])
expanded_more entries samples size x ordered tally =
    expanded-insert x entries ordered tally.counted ∙ ap (insert_sorted x) tally.agrees ∙ sym (sorted_push samples x)

keep_last-all : (size : ℕ) (xs : List ℕ) → length xs ≤ size → keep_last size xs ≡ xs
keep_last-all size xs short = let none : length xs - size ≡ 0 = omega arith in rw none refl

-- a window with room keeps all samples
tally_kept : (more : List (ℕ × ℕ)) (samples : List ℕ) (size x : ℕ) → length samples < size → size ≤ MAX_WINDOW
    → expanded more ≡ sorted (samples ++ x ∷ []) → AllCounted more → IsTally more (keep_last size (samples ++ x ∷ [])) size
tally_kept more samples size x room most agrees counted =
    let long : length (samples ++ x ∷ []) ≤ size = omega (arith, length-append samples (x ∷ [])) in
    rw (keep_last-all size (samples ++ x ∷ []) long)
    (record { agrees = agrees; counted = counted; held = long; some = omega arith; most = most })

-- a ring that gives up nothing has room
has_room : (samples : List ℕ) (size x : ℕ) → 1 ≤ size
    → None ≡ (if nat_lt (length samples) size then None else slice_get (samples ++ x ∷ []) 0) → length samples < size
has_room [] size x some room = omega arith
has_room (y ∷ samples) size x some room =
    elim (cases_lt (length (y ∷ samples)) size) [
      | inl lt ↦ lt
      | inr ge ↦ absurd (let full : None ≡ Some y = rw (le-ltb (length (y ∷ samples)) size ge) at room in cc)
    ]

pub tally_room : (entries more : List (ℕ × ℕ)) (samples : List ℕ) (size x : ℕ)
    → IsStrictlySortedBy nat_cmp (keys_of entries) → IsTally entries samples size
    → more ≡ insert_entry nat_cmp entries x (count_in entries x + 1)
    → None ≡ (if nat_lt (length samples) size then None else slice_get (samples ++ x ∷ []) 0)
    → IsTally more (keep_last size (samples ++ x ∷ [])) size
tally_room entries more samples size x ordered tally is room =
    rw is (tally_kept (insert_entry nat_cmp entries x (count_in entries x + 1)) samples size x (has_room samples size x tally.some room) tally.most
    (expanded_more entries samples size x ordered tally)
    (counted-insert x (count_in entries x + 1) entries tally.counted (omega arith)))

-- a full window gives up its oldest sample
tally_turned : (more fewer : List (ℕ × ℕ)) (samples : List ℕ) (size x y oldest : ℕ)
    → expanded more ≡ sorted ((y ∷ samples) ++ x ∷ []) → size ≤ MAX_WINDOW → size ≡ suc (length samples) → oldest ≡ y
    → expanded fewer ≡ remove_one oldest (expanded more) → AllCounted fewer
    → IsTally fewer (keep_last size ((y ∷ samples) ++ x ∷ [])) size
unfolding sorted
tally_turned more fewer samples size x y oldest agrees most full is removed counted =
    let long : length (samples ++ x ∷ []) ≡ length samples + 1 = length-append samples (x ∷ []) in
    let one : suc (length (samples ++ x ∷ [])) - size ≡ 1 = omega arith in
    rw one (record {
      agrees = removed ∙ (rw (is, agrees) (remove-insert y (sorted (samples ++ x ∷ []))));
      counted = counted;
      held = omega arith;
      some = omega arith;
      most = most;
    })

pub tally_full : (entries more fewer : List (ℕ × ℕ)) (samples : List ℕ) (size x oldest : ℕ)
    → IsStrictlySortedBy nat_cmp (keys_of entries) → IsTally entries samples size
    → more ≡ insert_entry nat_cmp entries x (count_in entries x + 1)
    → Some oldest ≡ (if nat_lt (length samples) size then None else slice_get (samples ++ x ∷ []) 0)
    → expanded fewer ≡ remove_one oldest (expanded more) → AllCounted fewer
    → IsTally fewer (keep_last size (samples ++ x ∷ [])) size
tally_full entries more fewer [] size x oldest ordered tally is full removed counted =
    absurd (let room : Some oldest ≡ None = rw (lt-ltb 0 size (omega arith)) at full in cc)
tally_full entries more fewer (y ∷ samples) size x oldest ordered tally is full removed counted =
    elim (cases_lt (length (y ∷ samples)) size) [
      | inl lt ↦ absurd (let room : Some oldest ≡ None = rw (lt-ltb (length (y ∷ samples)) size lt) at full in cc)
      | inr ge ↦
          let first : Some oldest ≡ Some y = rw (le-ltb (length (y ∷ samples)) size ge) at full in
          tally_turned more fewer samples size x y oldest
          (rw is (expanded_more entries (y ∷ samples) size x ordered tally)) tally.most (omega (arith, tally.held)) (cc) removed counted
    ]
