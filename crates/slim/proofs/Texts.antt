-- The texts of records, one after another.
use Rattle.std.proofs.Common.{◌≡◌, ℕ, suc, ◌+◌, ◌<◌, ◌≤◌, List, [], ◌∷◌, ◌++◌, length, take, drop, get_or, flat_map, Option, sym, ap, ◌∙◌, subst, arith, append-nil}
use Rattle.std.specs.Io.KnownBytes.{Appends}
use Rattle.std.proofs.lemmas.List.{length-append, take-append-drop}
use Rattle.std.proofs.lemmas.Grind.{flat_map-append}
use Rattle.std.proofs.Math.Seq.{take-suc}
use Rattle.devices.specs.Devices.{AppendsPrefix}
use Rattle.devices.proofs.Appending.{appends_then, prefix_then, prefix_first}
use Rattle.captures.specs.declared.record.Record.{Record}
use Rattle.captures.specs.Reference.{record_text}

-- one more of a list
one_more : {A : Type 0} (xs : List A) (i : ℕ) (x : A) → i < length xs → x ≡ get_or xs i x → take (i + 1) xs ≡ take i xs ++ x ∷ []
one_more xs i x lt is =
    let e : i + 1 ≡ suc i = omega arith in
    ap (λ n. take n xs) e ∙ take-suc xs i x lt ∙ ap (λ y. take i xs ++ y ∷ []) (sym is)

-- ---- texts

texts_next : (rs : List Record) (i : ℕ) (r : Record) → i < length rs → r ≡ get_or rs i r → flat_map record_text (take (i + 1) rs) ≡ flat_map record_text (take i rs) ++ record_text r
texts_next rs i r lt is =
    ap (flat_map record_text) (one_more rs i r lt is) ∙ flat_map-append record_text (take i rs) (r ∷ [])
    ∙ ap (λ t. flat_map record_text (take i rs) ++ t) (append-nil (record_text r))

texts_split : (rs : List Record) (i : ℕ) → flat_map record_text (take i rs) ++ flat_map record_text (drop i rs) ≡ flat_map record_text rs
texts_split rs i = sym (flat_map-append record_text (take i rs) (drop i rs)) ∙ ap (flat_map record_text) (take-append-drop i rs)

pub texts_more : (rs : List Record) (i : ℕ) (r : Record) (old mid new : Option (List ℕ)) → i < length rs → r ≡ get_or rs i r → Appends old mid (flat_map record_text (take i rs))
    → Appends mid new (record_text r) → Appends old new (flat_map record_text (take (i + 1) rs))
texts_more rs i r old mid new lt is before one =
    subst (λ (t : List ℕ). Appends old new t) (sym (texts_next rs i r lt is)) (appends_then old mid new _ _ before one)

pub texts_part : (rs : List Record) (i : ℕ) (r : Record) (old mid new : Option (List ℕ)) → i < length rs → r ≡ get_or rs i r → Appends old mid (flat_map record_text (take i rs))
    → AppendsPrefix mid new (record_text r) → AppendsPrefix old new (flat_map record_text rs)
texts_part rs i r old mid new lt is before one =
    let first : AppendsPrefix old new (flat_map record_text (take (i + 1) rs)) =
    subst (λ (t : List ℕ). AppendsPrefix old new t) (sym (texts_next rs i r lt is)) (prefix_then old mid new _ _ before one) in
    subst (λ (t : List ℕ). AppendsPrefix old new t) (texts_split rs (i + 1))
    (prefix_first old new (flat_map record_text (take (i + 1) rs)) (flat_map record_text (drop (i + 1) rs)) first)

-- how long they are
pub length_next : (rs : List Record) (i : ℕ) (r : Record) → i < length rs → r ≡ get_or rs i r → length (flat_map record_text (take (i + 1) rs)) ≡ length (flat_map record_text (take i rs)) + length (record_text r)
length_next rs i r lt is = ap length (texts_next rs i r lt is) ∙ length-append (flat_map record_text (take i rs)) (record_text r)

pub length_part : (rs : List Record) (i : ℕ) → length (flat_map record_text (take i rs)) ≤ length (flat_map record_text rs)
length_part rs i =
    let all = ap length (texts_split rs i) in
    let len = length-append (flat_map record_text (take i rs)) (flat_map record_text (drop i rs)) in
    omega (arith, all, len)
