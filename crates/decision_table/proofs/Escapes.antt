-- The bytes of a field.
use Rattle.std.proofs.Common.{◌≡◌, ℕ, suc, ◌<◌, ◌&&◌, ◌||◌, not, Bool, true, false, List, [], ◌∷◌, ◌++◌, get_or, refl, sym, ap, ◌∙◌, arith, cond}
use mathlib.Core.Bool.{true≢false}
use Rattle.std.specs.List.{flat_map, list_all, range_with_len}
use Rattle.std.proofs.lemmas.List.FromFn.{get_or-range_with_len, length-range_with_len}
use Rattle.std.proofs.lemmas.List.Sums.{AllPass-from_list_all}
use Rattle.percent_encoding.specs.AsciiSet.{should_percent_encode}
use Rattle.percent_encoding.specs.Percent.{percent_encode, encode_byte, percent_encode_byte}
use Rattle.decision_table.specs.declared.text.TheConstants.{ESCAPED}
use Rattle.decision_table.specs.Rows.{stands_as_it_is, text_byte, text_bytes}

same : Bool → Bool → Bool
same a b = (a && b) || (not a && not b)

from_same : (a b : Bool) → same a b ≡ true → a ≡ b
unfolding same
from_same true true h = refl
from_same true false h = absurd (true≢false (sym h))
from_same false true h = absurd (true≢false (sym h))
from_same false false h = refl

-- the set that is escaped, byte by byte
table : list_all (λ b. same (should_percent_encode ESCAPED b) (not (stands_as_it_is b))) (range_with_len 0 256) ≡ true
unfolding same should_percent_encode
table = refl

escape_byte : (b : ℕ) → b < 256 → encode_byte ESCAPED b ≡ text_byte b
escape_byte b lt =
    let at = AllPass-from_list_all (λ c. same (should_percent_encode ESCAPED c) (not (stands_as_it_is c))) (range_with_len 0 256) table b 0 (omega (arith, length-range_with_len 0 256)) in
    let is : get_or (range_with_len 0 256) b 0 ≡ b = get_or-range_with_len 0 256 b 0 lt ∙ omega arith in
    let tells : should_percent_encode ESCAPED b ≡ not (stands_as_it_is b) = from_same _ _ (ap (λ c. same (should_percent_encode ESCAPED c) (not (stands_as_it_is c))) (sym is) ∙ at) in
    ap (λ t. cond t (percent_encode_byte b) (b ∷ [])) tells ∙ turned (stands_as_it_is b) (percent_encode_byte b) (b ∷ [])
  where
    turned : (t : Bool) (x y : List ℕ) → cond (not t) x y ≡ cond t y x
    turned true x y = refl
    turned false x y = refl

escape_all : (bytes : List ℕ) → ((i : ℕ) → get_or bytes i 0 < 256) → flat_map (encode_byte ESCAPED) bytes ≡ flat_map text_byte bytes
escape_all [] all = refl
escape_all (b ∷ bytes) all = ap (λ v. v ++ flat_map (encode_byte ESCAPED) bytes) (escape_byte b (all 0)) ∙ ap (λ v. text_byte b ++ v) (escape_all bytes (λ i. all (suc i)))

pub escaped : (bytes : List ℕ) → ((i : ℕ) → get_or bytes i 0 < 256) → percent_encode ESCAPED bytes ≡ text_bytes bytes
unfolding percent_encode
escaped bytes all = escape_all bytes all
