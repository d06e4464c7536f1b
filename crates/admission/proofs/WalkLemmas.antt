-- The walk down the counted samples.
use Rattle.std.proofs.Common.{◌≡◌, ℕ, zero, suc, ◌+◌, ◌-◌, ◌<◌, ◌≤◌, List, [], ◌∷◌, ◌++◌, length, refl, sym, ◌∙◌, ap, arith, append_assoc, append-nil, Option, Some, slice_get, length-append}
use Rattle.std.specs.Prelude.{replicate}
use Rattle.std.proofs.lemmas.List.{length-replicate}
use Rattle.circular_buffer.proofs.Places.{slice_get-append_left, slice_get-append_right}
use Rattle.admission.specs.Reference.{rank}
use Rattle.admission.specs.Tally.{expanded}

pub expanded-push : (entries : List (ℕ × ℕ)) (entry : ℕ × ℕ)
    → expanded (entries ++ entry ∷ []) ≡ expanded entries ++ replicate entry.1 entry.0
unfolding expanded
expanded-push [] entry = append-nil (replicate entry.1 entry.0)
expanded-push (first ∷ entries) entry =
    rw (expanded-push entries entry) (sym (append_assoc (replicate first.1 first.0) (expanded entries) (replicate entry.1 entry.0)))

slice_get-replicate : (n i x : ℕ) → i < n → slice_get (replicate n x) i ≡ Some x
slice_get-replicate zero i x below = absurd (omega arith)
slice_get-replicate (suc n) zero x below = refl
slice_get-replicate (suc n) (suc i) x below = slice_get-replicate n i x (omega arith)

-- the sample that stands below `above` others is one of the last run
pub top-here : (xs : List ℕ) (sample count above : ℕ) → above < count
    → slice_get (xs ++ replicate count sample) (length (xs ++ replicate count sample) - 1 - above) ≡ Some sample
top-here xs sample count above here =
    let long : length (xs ++ replicate count sample) ≡ length xs + count =
    length-append xs (replicate count sample) ∙ ap (λ n. length xs + n) (length-replicate count sample) in
    rw (long, slice_get-append_right xs (replicate count sample) (length xs + count - 1 - above) (count - 1 - above) (omega arith))
    (slice_get-replicate count (count - 1 - above) sample (omega arith))

-- or it stands before that run
pub top-before : (xs : List ℕ) (sample count above : ℕ) → count ≤ above → above < length (xs ++ replicate count sample)
    → slice_get (xs ++ replicate count sample) (length (xs ++ replicate count sample) - 1 - above)
    ≡ slice_get xs (length xs - 1 - (above - count))
top-before xs sample count above past within =
    let long : length (xs ++ replicate count sample) ≡ length xs + count =
    length-append xs (replicate count sample) ∙ ap (λ n. length xs + n) (length-replicate count sample) in
    let within_sum : above < length xs + count = rw long at within in
    let place : length xs + count - 1 - above ≡ length xs - 1 - (above - count) = omega arith in
    rw (long, place) (slice_get-append_left xs (replicate count sample) (length xs - 1 - (above - count)) (omega arith))

pub top-fewer : (xs : List ℕ) (sample count above : ℕ) → count ≤ above → above < length (xs ++ replicate count sample)
    → above - count < length xs
top-fewer xs sample count above past within =
    let long : length (xs ++ replicate count sample) ≡ length xs + count =
    length-append xs (replicate count sample) ∙ ap (λ n. length xs + n) (length-replicate count sample) in
    omega arith

-- the rank is one of the ranks
pub rank-within : (m : ℕ) → 0 < m → (rank m ≤ m) × (1 ≤ rank m)
rank-within m some = (omega arith, omega arith)

-- what the walk still has, after a step down the entries
abbrev pub from_top : List (ℕ × ℕ) → ℕ → Option ℕ
from_top entries above = slice_get (expanded entries) (length (expanded entries) - 1 - above)

pub walk_here : (entries rest : List (ℕ × ℕ)) (sample count above : ℕ)
    → entries ≡ rest ++ (sample, count) ∷ [] → above < count → Some sample ≡ from_top entries above
walk_here entries rest sample count above split here =
    rw (split, expanded-push rest (sample, count)) (sym (top-here (expanded rest) sample count above here))

pub walk_past : (entries rest : List (ℕ × ℕ)) (sample count above : ℕ)
    → entries ≡ rest ++ (sample, count) ∷ [] → count ≤ above → above < length (expanded entries)
    → (above - count < length (expanded rest)) × (from_top entries above ≡ from_top rest (above - count))
walk_past entries rest sample count above split past within =
    let whole : expanded entries ≡ expanded rest ++ replicate count sample = ap expanded split ∙ expanded-push rest (sample, count) in
    let below : above < length (expanded rest ++ replicate count sample) = rw whole at within in (
      top-fewer (expanded rest) sample count above past below,
      rw whole (top-before (expanded rest) sample count above past below),
    )

pub expanded-none : expanded [] ≡ []
unfolding expanded
expanded-none = refl
