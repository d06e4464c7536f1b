-- A slim text is not much longer than the text that it was made of.
use Rattle.std.proofs.Common.{◌≡◌, ℕ, ◌+◌, ◌*◌, ◌^◌, ◌<◌, ◌≤◌, inl, inr, List, [], ◌∷◌, ◌++◌, length, flat_map, codes, decimal, refl, ap, arith, All}
use Rattle.std.proofs.lemmas.Fmt.{length-decimal-le}
use Rattle.std.proofs.lemmas.Grind.{common_steps}
use Rattle.std.proofs.lemmas.List.{length-append}
use Rattle.std.proofs.lemmas.List.Elements.{All-head, All-tail}
use Rattle.std.proofs.lemmas.List.Sums.{sum_by-cons}
use Rattle.captures.specs.declared.record.Record.{Record}
use Rattle.captures.specs.declared.record.Record.TheVariants.{Piece, End, Tier}
use Rattle.captures.specs.declared.version.Version.{Version}
use Rattle.captures.specs.declared.version.Version.TheVariants.{One, Two, Traffic}
use Rattle.captures.specs.Reference.{IsRecord, capture_text, first_line, last_line, text_before_stop, format_of, max_start, record_text}
use Rattle.captures.specs.Captures.{size_of, sizes_of}
use Rattle.captures.specs.Upgrades.{later}
use Rattle.captures.proofs.Lines.{few_connections}
use Rattle.slim.specs.Slims.{most_growth}
use Rattle.slim.specs.Laws.{SlimFits}

-- ---- one record

pub piece_length : (t c l bytes : List ℕ) → length ((codes "piece " ++ t ++ codes " " ++ c ++ codes " " ++ l) ++ 10 ∷ (bytes ++ 10 ∷ [])) ≡ length t + length c + length l + length bytes + 10
piece_length t c l bytes = grind (arith, common_steps)

pub end_length : (t c : List ℕ) → length ((codes "end " ++ t ++ codes " " ++ c) ++ 10 ∷ []) ≡ length t + length c + 6
end_length t c = grind (arith, common_steps)

pub tier_length : (c n : List ℕ) → length ((codes "tier " ++ c ++ codes " " ++ n) ++ 10 ∷ []) ≡ length c + length n + 7
tier_length c n = grind (arith, common_steps)

-- a record whose piece is no longer than a block may be
abbrev pub IsSmall : Record → Type 0
IsSmall r = size_of r ≤ 8192

record_most : (v : Version) (r : Record) → IsRecord v r → IsSmall r → length (record_text r) ≤ 8227
record_most v (Piece tick conn bytes) is small =
    let few = few_connections v in
    let low = is.0 in
    let number = is.1 in
    let all = piece_length (decimal tick) (decimal conn) (decimal (length bytes)) bytes in
    let t = length-decimal-le 16 tick (omega arith) (omega (arith, low)) (omega (arith, low)) in
    let c = length-decimal-le 5 conn (omega arith) (omega (arith, number, few)) (omega (arith, number, few)) in
    let l = length-decimal-le 4 (length bytes) (omega arith) (omega (arith, small)) (omega (arith, small)) in
    omega (arith, all, t, c, l, small)
record_most v (End tick conn) is small =
    let few = few_connections v in
    let low = is.0 in
    let number = is.1 in
    let all = end_length (decimal tick) (decimal conn) in
    let t = length-decimal-le 16 tick (omega arith) (omega (arith, low)) (omega (arith, low)) in
    let c = length-decimal-le 5 conn (omega arith) (omega (arith, number, few)) (omega (arith, number, few)) in
    omega (arith, all, t, c)
record_most v (Tier conn tier) is small =
    let few = few_connections v in
    let number = is.1 in
    let low = is.2 in
    let all = tier_length (decimal conn) (decimal tier) in
    let c = length-decimal-le 5 conn (omega arith) (omega (arith, number, few)) (omega (arith, number, few)) in
    let n = length-decimal-le 1 tier (omega arith) (omega (arith, low)) (omega (arith, low)) in
    omega (arith, all, c, n)

record_least : (r : Record) → size_of r + 1 ≤ length (record_text r)
record_least (Piece tick conn bytes) = let all = piece_length (decimal tick) (decimal conn) (decimal (length bytes)) bytes in omega (arith, all)
record_least (End tick conn) = let all = end_length (decimal tick) (decimal conn) in omega (arith, all)
record_least (Tier conn tier) = let all = tier_length (decimal conn) (decimal tier) in omega (arith, all)

-- ---- many

records_most : (v : Version) (S : List Record) → All (IsRecord v) S → All IsSmall S → length (flat_map record_text S) ≤ 8227 * length S
records_most v [] each small = omega arith
records_most v (r ∷ S) each small =
    let own = record_most v r (All-head (IsRecord v) r S each) (All-head IsSmall r S small) in
    let rest = records_most v S (All-tail (IsRecord v) r S each) (All-tail IsSmall r S small) in
    let len = length-append (record_text r) (flat_map record_text S) in
    omega (arith, own, rest, len)

records_least : (R : List Record) → sizes_of R + length R ≤ length (flat_map record_text R)
records_least [] = omega arith
records_least (r ∷ R) =
    let own = record_least r in
    let rest = records_least R in
    let len = length-append (record_text r) (flat_map record_text R) in
    let sum = sum_by-cons size_of r R in
    omega (arith, own, rest, len, sum)

-- ---- texts

before_length : (v : Version) (start : ℕ) (R : List Record) → length (text_before_stop v start R) ≡ length (first_line v start) + 1 + length (flat_map record_text R)
before_length v start R =
    let a = length-append (first_line v start ++ 10 ∷ []) (flat_map record_text R) in
    let b = length-append (first_line v start) (10 ∷ []) in
    omega (arith, a, b)

whole_length : (v : Version) (start : ℕ) (R : List Record) → length (capture_text v start R) ≡ length (text_before_stop v start R) + length (last_line R) + 1
whole_length v start R =
    let c = length-append (text_before_stop v start R) (last_line R ++ 10 ∷ []) in
    let d = length-append (last_line R) (10 ∷ []) in
    omega (arith, c, d)

first_most : (v : Version) (start : ℕ) → start ≤ max_start → length (first_line v start) ≤ 37
first_most One start low = let d = length-decimal-le 20 start (omega arith) (omega (arith, low)) (omega (arith, low)) in let l = length-append (format_of One).opening (decimal start) in omega (arith, d, l)
first_most Two start low = let d = length-decimal-le 20 start (omega arith) (omega (arith, low)) (omega (arith, low)) in let l = length-append (format_of Two).opening (decimal start) in omega (arith, d, l)
first_most Traffic start low = let d = length-decimal-le 20 start (omega arith) (omega (arith, low)) (omega (arith, low)) in let l = length-append (format_of Traffic).opening (decimal start) in omega (arith, d, l)

last_most : (S : List Record) → length S < 2 ^ 64 → length (last_line S) ≤ 25
last_most S few =
    let d = length-decimal-le 20 (length S) (omega arith) (omega (arith, few)) few in
    let l = length-append (codes "stop ") (decimal (length S)) in
    omega (arith, d, l)

-- the texts of no more records than others have records and bytes: up to the last line, and whole
pub grows_before : (v w : Version) (start : ℕ) (R S : List Record) → start ≤ max_start → All (IsRecord w) S → All IsSmall S → length S ≤ sizes_of R + length R
    → length (text_before_stop w start S) + 30 ≤ most_growth * length (text_before_stop v start R)
grows_before v w start R S low each small few =
    let a = before_length w start S in
    let b = before_length v start R in
    let c = records_most w S each small in
    let d = records_least R in
    let e = first_most w start low in
    omega (arith, a, b, c, d, e, few)

pub grows : (v w : Version) (start : ℕ) (R S : List Record) → start ≤ max_start → All (IsRecord w) S → All IsSmall S → length S ≤ sizes_of R + length R → length S < 2 ^ 64
    → length (capture_text w start S) ≤ most_growth * length (capture_text v start R)
grows v w start R S low each small few most =
    let a = whole_length w start S in
    let b = whole_length v start R in
    let c = grows_before v w start R S low each small few in
    let f = last_most S most in
    omega (arith, a, b, c, f)

-- ---- what is too large for a traffic text

pub fits : SlimFits
fits queries to text old new f t traffic =
    let most : (format_of (later to t.read.version)).max_text_bytes ≡ 1125899906842624 = ap (λ v. (format_of v).max_text_bytes) traffic in
    elim t.over [
      | inl h ↦
          let begins = h.1.begins refl in
          let all = ap length begins.1 in
          let len = length-append (text_before_stop t.read.version t.read.start (t.read.records ++ h.0 ∷ [])) begins.0 in
          let size = h.1.size in
          let over = h.1.over in
          omega (arith, most, all, len, size, over)
      | inr e ↦
          let all = ap length (e.whole refl).text in
          let size = e.size in
          let over = e.over in
          omega (arith, most, all, size, over)
    ]
