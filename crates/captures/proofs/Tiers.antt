-- The tier of a connection, record by record.
use Rattle.std.proofs.Common.{◌≡◌, ℕ, ◌-◌, ◌≤◌, ◌==◌, cond, Bool, true, false, List, [], ◌∷◌, ◌++◌, length, All, refl, ap, ◌∙◌, arith, flat_map}
use Rattle.std.proofs.lemmas.List.{append-nil, length_push, get_or_push}
use Rattle.std.proofs.lemmas.List.Elements.{All-head, All-tail, All-nil, All-cons, All-append}
use Rattle.std.proofs.lemmas.Grind.{flat_map-append}
use Rattle.captures.specs.Reference.{last_of, tier_set, tier_of, IsRecord}
use Rattle.captures.specs.declared.version.Version.{Version}
use Rattle.captures.specs.declared.version.Version.TheVariants.{One}
use Rattle.captures.specs.declared.record.Record.{Record}
use Rattle.captures.specs.declared.record.Record.TheVariants.{Piece, End, Tier}

-- without records
pub tier_of_none : (c : ℕ) → tier_of c [] ≡ 0
tier_of_none c = refl

-- one record more that gives this connection no tier
gives_none : (c : ℕ) (records : List Record) (r : Record) → tier_set c r ≡ [] → tier_of c (records ++ r ∷ []) ≡ tier_of c records
gives_none c records r h =
    ap last_of (flat_map-append (tier_set c) records (r ∷ []) ∙ (ap (λ w. flat_map (tier_set c) records ++ (w ++ [])) h ∙ append-nil (flat_map (tier_set c) records)))

pub tier_of_piece : (c : ℕ) (records : List Record) (tick conn : ℕ) (bytes : List ℕ) → tier_of c (records ++ Piece tick conn bytes ∷ []) ≡ tier_of c records
tier_of_piece c records tick conn bytes = gives_none c records (Piece tick conn bytes) refl

pub tier_of_end : (c : ℕ) (records : List Record) (tick conn : ℕ) → tier_of c (records ++ End tick conn ∷ []) ≡ tier_of c records
tier_of_end c records tick conn = gives_none c records (End tick conn) refl

-- the last of a list and one more
last_push : (xs : List ℕ) (x : ℕ) → last_of (xs ++ x ∷ []) ≡ x
last_push xs x = get_or_push xs x 0 (length (xs ++ x ∷ []) - 1) (omega (arith, length_push xs x))

-- one tier more: that of this connection, or of another
pub tier_of_tier : (c : ℕ) (records : List Record) (conn tier : ℕ) → tier_of c (records ++ Tier conn tier ∷ []) ≡ cond (conn == c) tier (tier_of c records)
tier_of_tier c records conn tier = go (conn == c) refl
  where
    go : (b : Bool) → (conn == c) ≡ b → tier_of c (records ++ Tier conn tier ∷ []) ≡ cond b tier (tier_of c records)
    go true h =
        let gives : tier_set c (Tier conn tier) ≡ tier ∷ [] = ap (λ (b : Bool). cond b (tier ∷ []) []) h in
        ap last_of (flat_map-append (tier_set c) records (Tier conn tier ∷ []) ∙ ap (λ w. flat_map (tier_set c) records ++ (w ++ [])) gives)
        ∙ last_push (flat_map (tier_set c) records) tier
    go false h = gives_none c records (Tier conn tier) (ap (λ (b : Bool). cond b (tier ∷ []) []) h)

-- ---- within the limits

last_in : (P : ℕ → Type 0) (xs : List ℕ) → P 0 → All P xs → P (last_of xs)
last_in P [] none all = none
last_in P (x ∷ xs) none all = all (length (x ∷ xs) - 1) 0 (omega arith)

given_low : (v : Version) (c : ℕ) (r : Record) → IsRecord v r → All (λ t. t ≤ 3) (tier_set c r)
given_low v c (Piece tick conn bytes) h = All-nil (λ t. t ≤ 3)
given_low v c (End tick conn) h = All-nil (λ t. t ≤ 3)
given_low v c (Tier conn tier) h = go (conn == c)
  where
    go : (b : Bool) → All (λ t. t ≤ 3) (cond b (tier ∷ []) [])
    go true = All-cons (λ t. t ≤ 3) tier [] (omega (arith, h.2)) (All-nil (λ t. t ≤ 3))
    go false = All-nil (λ t. t ≤ 3)

given_all : (v : Version) (c : ℕ) (records : List Record) → All (IsRecord v) records → All (λ t. t ≤ 3) (flat_map (tier_set c) records)
given_all v c [] h = All-nil (λ t. t ≤ 3)
given_all v c (r ∷ records) h =
    All-append (λ t. t ≤ 3) (tier_set c r) (flat_map (tier_set c) records) (given_low v c r (All-head (IsRecord v) r records h)) (given_all v c records (All-tail (IsRecord v) r records h))

-- a tier is one of four
pub tier_in_range : (v : Version) (c : ℕ) (records : List Record) → All (IsRecord v) records → tier_of c records ≤ 3
tier_in_range v c records h = last_in (λ t. t ≤ 3) (flat_map (tier_set c) records) (omega arith) (given_all v c records h)

none_given : (c : ℕ) (r : Record) → IsRecord One r → tier_set c r ≡ []
none_given c (Piece tick conn bytes) h = refl
none_given c (End tick conn) h = refl
none_given c (Tier conn tier) h = absurd (let bad : false ≡ true = h.0 in cc)

-- in version 1 each connection is of tier 0
pub tiers_of_version_one : (c : ℕ) (records : List Record) → All (IsRecord One) records → tier_of c records ≡ 0
tiers_of_version_one c records h = ap last_of (none records h)
  where
    none : (rs : List Record) → All (IsRecord One) rs → flat_map (tier_set c) rs ≡ []
    none [] all = refl
    none (r ∷ rs) all = (λ i. none_given c r (All-head (IsRecord One) r rs all) i ++ none rs (All-tail (IsRecord One) r rs all) i)
