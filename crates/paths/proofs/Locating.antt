-- Names and locations, segment by segment.
use Rattle.std.proofs.Common.{◌≡◌, ℕ, suc, ◌+◌, ◌<◌, ◌==◌, ◌&&◌, ◌||◌, not, Bool, true, false, List, [], ◌∷◌, ◌++◌, length, take, get_or, refl, sym, ap, ◌∙◌, arith, cond}
use mathlib.Core.Bool.{true≢false}
use Rattle.std.specs.List.{flat_map, list_all, range_with_len, AllByRecursion}
use Rattle.std.proofs.lemmas.List.{append_assoc, take_more, length-take, flat_map_more}
use Rattle.std.proofs.lemmas.Bool.{ne_eqb}
use Rattle.std.proofs.lemmas.List.FromFn.{get_or-range_with_len, length-range_with_len}
use Rattle.std.proofs.lemmas.List.Sums.{AllPass-from_list_all}
use Rattle.percent_encoding.specs.AsciiSet.{should_percent_encode}
use Rattle.percent_encoding.specs.Percent.{percent_encode, encode_byte, percent_encode_byte}
use Rattle.paths.specs.declared.resolution.TheConstants.{RESERVED}
use Rattle.paths.specs.Reference.{slash, is_unreserved, location_byte, joined}
use Rattle.paths.specs.Resolution.{slash_before}

-- one more segment after others
joined_after : (x : List ℕ) (xs : List (List ℕ)) (y : List ℕ) → joined ((x ∷ xs) ++ y ∷ []) ≡ joined (x ∷ xs) ++ (slash ∷ y)
joined_after x [] y = refl
joined_after x (z ∷ xs) y = ap (λ v. x ++ (slash ∷ v)) (joined_after z xs y) ∙ sym (append_assoc x (slash ∷ joined (z ∷ xs)) (slash ∷ y))

pub joined_push : (xs : List (List ℕ)) (first : Bool) (y : List ℕ) → first ≡ (length xs == 0) → joined (xs ++ y ∷ []) ≡ joined xs ++ (slash_before first ++ y)
joined_push [] first y h = ap (λ b. slash_before b ++ y) (sym h)
joined_push (x ∷ xs) first y h =
    let no : (length (x ∷ xs) == 0) ≡ false = ne_eqb (length (x ∷ xs)) 0 (λ e. omega arith) in
    joined_after x xs y ∙ ap (λ b. joined (x ∷ xs) ++ (slash_before b ++ y)) (sym no ∙ sym h)

pub joined_more : (segments : List (List ℕ)) (at : ℕ) (item segment name new : List ℕ) → at < length segments → item ≡ get_or segments at item → segment ≡ item
    → name ≡ joined (take at segments) → new ≡ name ++ (slash_before (at == 0) ++ segment) → new ≡ joined (take (at + 1) segments)
joined_more segments at item segment name new lt read same_item before is =
    let size : at ≡ length (take at segments) = omega (arith, length-take at segments) in
    is ∙ ap (λ v. v ++ (slash_before (at == 0) ++ segment)) before
    ∙ sym (joined_push (take at segments) (at == 0) segment (ap (λ n. n == 0) size))
    ∙ ap joined (ap (λ v. take at segments ++ v ∷ []) (same_item ∙ read) ∙ sym (take_more segments at item lt))

same : Bool → Bool → Bool
same a b = (a && b) || (not a && not b)

from_same : (a b : Bool) → same a b ≡ true → a ≡ b
unfolding same
from_same true true h = refl
from_same true false h = absurd (true≢false (sym h))
from_same false true h = absurd (true≢false (sym h))
from_same false false h = refl

-- the set that is escaped, byte by byte
table : list_all (λ b. same (should_percent_encode RESERVED b) (not (is_unreserved b))) (range_with_len 0 256) ≡ true
unfolding same should_percent_encode
table = refl

escape_byte : (b : ℕ) → b < 256 → encode_byte RESERVED b ≡ location_byte b
escape_byte b lt =
    let at = AllPass-from_list_all (λ c. same (should_percent_encode RESERVED c) (not (is_unreserved c))) (range_with_len 0 256) table b 0 (omega (arith, length-range_with_len 0 256)) in
    let is : get_or (range_with_len 0 256) b 0 ≡ b = get_or-range_with_len 0 256 b 0 lt ∙ omega arith in
    let tells : should_percent_encode RESERVED b ≡ not (is_unreserved b) = from_same _ _ (ap (λ c. same (should_percent_encode RESERVED c) (not (is_unreserved c))) (sym is) ∙ at) in
    ap (λ t. cond t (percent_encode_byte b) (b ∷ [])) tells ∙ turned (is_unreserved b) (percent_encode_byte b) (b ∷ [])
  where
    turned : (t : Bool) (x y : List ℕ) → cond (not t) x y ≡ cond t y x
    turned true x y = refl
    turned false x y = refl

escape_all : (bytes : List ℕ) → AllByRecursion (λ b. b < 256) bytes → flat_map (encode_byte RESERVED) bytes ≡ flat_map location_byte bytes
escape_all [] all = refl
escape_all (b ∷ bytes) all = ap (λ v. v ++ flat_map (encode_byte RESERVED) bytes) (escape_byte b all.0) ∙ ap (λ v. location_byte b ++ v) (escape_all bytes all.1)

pub encoded : (bytes : List ℕ) → AllByRecursion (λ b. b < 256) bytes → percent_encode RESERVED bytes ≡ flat_map location_byte bytes
unfolding percent_encode
encoded bytes all = escape_all bytes all

pub location_more : (segments : List (List ℕ)) (at : ℕ) (item segment old new : List ℕ) → at < length segments → item ≡ get_or segments at item → segment ≡ item
    → old ≡ flat_map (λ s. slash ∷ flat_map location_byte s) (take at segments) → new ≡ old ++ (slash ∷ flat_map location_byte segment)
    → new ≡ flat_map (λ s. slash ∷ flat_map location_byte s) (take (at + 1) segments)
location_more segments at item segment old new lt read same_item before is =
    is ∙ ap (λ v. v ++ (slash ∷ flat_map location_byte segment)) before
    ∙ flat_map_more (λ s. slash ∷ flat_map location_byte s) [] (take at segments) segment
    ∙ ap (flat_map (λ s. slash ∷ flat_map location_byte s)) (ap (λ v. take at segments ++ v ∷ []) (same_item ∙ read) ∙ sym (take_more segments at item lt))

pub encoded_after : (old mid new segment : List ℕ) → ((i : ℕ) → get_or segment i 0 < 256) → mid ≡ old ++ slash ∷ [] → new ≡ mid ++ percent_encode RESERVED segment
    → new ≡ old ++ (slash ∷ flat_map location_byte segment)
encoded_after old mid new segment small pushed is =
    is ∙ ap (λ v. v ++ percent_encode RESERVED segment) pushed ∙ append_assoc old (slash ∷ []) (percent_encode RESERVED segment)
    ∙ ap (λ v. old ++ (slash ∷ v)) (encoded segment (all_small segment small))
  where
    all_small : (bytes : List ℕ) → ((i : ℕ) → get_or bytes i 0 < 256) → AllByRecursion (λ b. b < 256) bytes
    all_small [] h = tt
    all_small (b ∷ bytes) h = (h 0, all_small bytes (λ i. h (suc i)))
