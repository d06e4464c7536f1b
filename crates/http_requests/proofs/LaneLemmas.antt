-- What the mask of a look at 64 bytes together says of them.
use Rattle.std.proofs.Common.{◌≡◌, ◌↔◌, ℕ, inl, inr, ◌+◌, ◌%◌, ◌^◌, ◌<◌, ◌≤◌, false, cond, eqb, List, map, length, get_or, slice_index, replicate, sym, ◌∙◌, ap, arith}
use Rattle.std.specs.Int.{bit_at}
use Rattle.std.proofs.lemmas.Bool.{cases_Bool, eqb-true, eqb-false}
use Rattle.std.proofs.lemmas.Simd.{mask_l-mod, bit_mask_l, length-chunk, get_or-chunk, length-zip2, get_or-zip2, length-replicate, get_or-replicate}
use Rattle.std.proofs.lemmas.List.{length-map, get_or-map}
use lib.Lanes.{chunk, zip2, mask_l, top}
use Rattle.http_requests.specs.Scanning.{MarksFeeds}

-- the lanes of a comparison with a line feed
abbrev pub compared : List ℕ → List ℕ
compared v = zip2 (λ a b. cond (eqb a b) 255 0) v (replicate 64 10)

long_compared : (v : List ℕ) → length v ≡ 64 → length (compared v) ≡ 64
long_compared v long = length-zip2 (λ a b. cond (eqb a b) 255 0) v (replicate 64 10) (long ∙ sym (length-replicate {A = ℕ} 64 10)) ∙ long

lane_compared : (v : List ℕ) (k : ℕ) → length v ≡ 64 → k < 64 → get_or (compared v) k 0 ≡ cond (eqb (get_or v k 0) 10) 255 0
lane_compared v k long below =
    get_or-zip2 (λ a b. cond (eqb a b) 255 0) v (replicate 64 10) k 0 0 0 (omega (arith, long, below)) (omega (arith, length-replicate {A = ℕ} 64 10, below))
    ∙ ap (λ b. cond (eqb (get_or v k 0) b) 255 0) (get_or-replicate 64 k 10 0 below)

marks_byte : (byte bit : ℕ) → bit ≡ cond (top 7 (cond (eqb byte 10) 255 0)) 1 0 → (bit ≡ 1) ↔ (byte ≡ 10)
marks_byte byte bit is = elim (cases_Bool (eqb byte 10)) [
  | inl same ↦ (let one : bit ≡ 1 = is ∙ ap (λ b. cond (top 7 (cond b 255 0)) 1 0) same in (λ _. eqb-true byte 10 same, λ _. one))
  | inr other ↦ (let none : bit ≡ 0 = is ∙ ap (λ b. cond (top 7 (cond b 255 0)) 1 0) other in
      (λ set. absurd (omega (arith, none, set)), λ same. absurd (eqb-false byte 10 other same)))
]

-- the marks of the line feeds
pub marks_feeds : (s : List ℕ) (at : ℕ) → at + 64 ≤ length s → MarksFeeds s at (mask_l (map (top 7) (compared (chunk at 64 s))) % 2 ^ 64)
marks_feeds s at capacity =
    let v = chunk at 64 s in
    let long : length v ≡ 64 = length-chunk at 64 s capacity in
    let wide : length (compared v) ≡ 64 = long_compared v long in
    let tops = map (top 7) (compared v) in
    let count : length tops ≡ 64 = length-map (compared v) (top 7) ∙ wide in
    let plain : mask_l tops % 2 ^ 64 ≡ mask_l tops = mask_l-mod tops 64 (omega (arith, count)) in
    λ i below.
    let byte = slice_index s (at + i) in
    let lane : get_or (compared v) i 0 ≡ cond (eqb byte 10) 255 0 = lane_compared v i long below ∙ ap (λ x. cond (eqb x 10) 255 0) (get_or-chunk at 64 s i 0 below) in
    let set : get_or tops i false ≡ top 7 (cond (eqb byte 10) 255 0) = get_or-map (top 7) (compared v) i 0 false (omega (arith, wide, below)) ∙ ap (top 7) lane in
    marks_byte byte (bit_at (mask_l tops % 2 ^ 64) i) (ap (λ m. bit_at m i) plain ∙ bit_mask_l tops i ∙ ap (λ b. cond b 1 0) set)
