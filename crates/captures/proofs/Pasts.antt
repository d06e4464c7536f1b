-- What a reader keeps of the records so far.
use Rattle.std.proofs.Common.{◌≡◌, ℕ, ◌+◌, ◌*◌, ◌-◌, ◌<◌, ◌==◌, ◌||◌, ◌&&◌, inl, inr, Bool, true, false, nat_lt, List, [], ◌∷◌, ◌++◌, length, All, refl, sym, ap, ◌∙◌, arith}
use Rattle.std.specs.Prelude.{not}
use Rattle.std.proofs.lemmas.Bool.Decides.{nat_tests, eqb_tells}
use Rattle.std.specs.List.{list_any}
use Rattle.std.proofs.lemmas.List.{append-nil, length_push, get_or_push}
use Rattle.std.proofs.lemmas.List.Folds.{list_any-append}
use Rattle.std.proofs.lemmas.Grind.{flat_map-append}
use Rattle.captures.specs.Reference.{last_of, ticks_of, tick_of, ends_for_good, is_end_of, is_use_of, connection_of, connection_now, of_connection, used_once}
use Rattle.captures.specs.Captures.{Past, past_of}
use Rattle.captures.specs.declared.record.Record.{Record}
use Rattle.captures.specs.declared.record.Record.TheVariants.{Piece, End, Tier}
use Rattle.captures.specs.Readers.{after, ended_with}
use Rattle.captures.specs.declared.version.Version.{Version}
use Rattle.captures.specs.declared.version.Version.TheVariants.{One, Two, Traffic}
use Rattle.captures.proofs.Lives.{IsLow, same_connection, next_connection, apart, once_push, unused as next_unused, ends_of}

-- two pasts of the same parts
pub same_past : (p q : Past) → p.count ≡ q.count → p.tick ≡ q.tick → ((c : ℕ) → p.ended c ≡ q.ended c) → ((c : ℕ) → p.used c ≡ q.used c) → p ≡ q
same_past p q a b e u = λ i. record { count = a i; tick = b i; ended = λ c. e c i; used = λ c. u c i }

or_false : (b : Bool) → (b || false) ≡ b
or_false true = refl
or_false false = refl

one_more : (records : List Record) (r : Record) (t : ℕ) → tick_of r ≡ t ∷ [] → last_of (ticks_of (records ++ r ∷ [])) ≡ t
one_more records r t is =
    let more : ticks_of (records ++ r ∷ []) ≡ ticks_of records ++ t ∷ [] = flat_map-append tick_of records (r ∷ []) ∙ ap (λ v. ticks_of records ++ v) (ap (λ v. v ++ []) is) in
    rw more (get_or_push (ticks_of records) t 0 (length (ticks_of records ++ t ∷ []) - 1) (omega (arith, length_push (ticks_of records) t)))

-- one more record tells nothing, or something, of a connection
tells_none : (p : Record → Bool) (records : List Record) (r : Record) → p r ≡ false → list_any p (records ++ r ∷ []) ≡ list_any p records
tells_none p records r h = list_any-append p records (r ∷ []) ∙ (ap (λ b. list_any p records || (b || false)) h ∙ or_false (list_any p records))

tells : (p : Record → Bool) (records : List Record) (r : Record) (b : Bool) → p r ≡ b → list_any p (records ++ r ∷ []) ≡ (list_any p records || b)
tells p records r b h = list_any-append p records (r ∷ []) ∙ ap (λ c. list_any p records || c) (or_false (p r) ∙ h)

-- ---- which numbers have ended for good

ended_same : (v : Version) (c : ℕ) (records : List Record) (r : Record) → ends_for_good v c r ≡ false → list_any (ends_for_good v c) (records ++ r ∷ []) ≡ list_any (ends_for_good v c) records
ended_same v c records r h = tells_none (ends_for_good v c) records r h

-- neither a piece nor a tier ends a number
piece_goes_on : (v : Version) (c tick conn : ℕ) (bytes : List ℕ) → ends_for_good v c (Piece tick conn bytes) ≡ false
piece_goes_on One c tick conn bytes = refl
piece_goes_on Two c tick conn bytes = refl
piece_goes_on Traffic c tick conn bytes = refl

tier_goes_on : (v : Version) (c conn tier : ℕ) → ends_for_good v c (Tier conn tier) ≡ false
tier_goes_on One c conn tier = refl
tier_goes_on Two c conn tier = refl
tier_goes_on Traffic c conn tier = refl

ended_more : (v : Version) (c tick conn : ℕ) (records : List Record) → list_any (ends_for_good v c) (records ++ End tick conn ∷ []) ≡ ended_with v (λ d. list_any (ends_for_good v d) records) conn c
ended_more One c tick conn records = tells (is_end_of c) records (End tick conn) (conn == c) refl
ended_more Two c tick conn records = tells (is_end_of c) records (End tick conn) (conn == c) refl
ended_more Traffic c tick conn records = tells_none (ends_for_good Traffic c) records (End tick conn) refl

-- ---- which numbers name a connection that was used

abbrev used_in : List Record → ℕ → Bool
used_in records c = list_any (is_use_of (connection_now c records)) (used_once records)

abbrev used_by : List Record → ℕ → Bool
used_by records c = nat_lt c 65536 && used_in records c

and_or : (a b c : Bool) → (a && (b || c)) ≡ ((a && b) || (a && c))
and_or true b c = refl
and_or false b c = refl

-- two connections are the same where their numbers are
same_numbers : (c conn : ℕ) (records : List Record) → conn < 65536 → (nat_lt c 65536 && (connection_now conn records == connection_now c records)) ≡ (conn == c)
same_numbers c conn records low = elim (eqb_tells conn c) [
  | inl same ↦ (let yes : nat_lt c 65536 ≡ true = (let s = same.1 in grind (arith, nat_tests)) in elim (eqb_tells (connection_now conn records) (connection_now c records)) [
    | inl k ↦ rw (same.0, yes, k.0) refl
    | inr k ↦ absurd (k.1 (ap (λ d. connection_now d records) same.1))
  ])
  | inr other ↦ go other.0 other.1 (nat_lt c 65536) refl
]
  where
    go : (conn == c) ≡ false → (conn ≡ c → ⊥) → (b : Bool) → nat_lt c 65536 ≡ b → (b && (connection_now conn records == connection_now c records)) ≡ (conn == c)
    go no_match differs false e = sym no_match
    go no_match differs true e = elim (eqb_tells (connection_now conn records) (connection_now c records)) [
      | inl k ↦ absurd (differs (apart conn c _ _ low (let t = e in grind (arith, nat_tests)) k.1))
      | inr k ↦ rw (no_match, k.0) refl
    ]

-- one more use of a connection
used_more : (c conn : ℕ) (records : List Record) (r : Record) → conn < 65536 → ((d : ℕ) → is_end_of d r ≡ false) → connection_of r ≡ conn
    → ((d e : ℕ) → is_use_of d (of_connection e r) ≡ (e == d)) → used_by (records ++ r ∷ []) c ≡ (used_by records c || conn == c)
used_more c conn records r low no_end own names =
    let id = connection_now conn records in
    let now : connection_now c (records ++ r ∷ []) ≡ connection_now c records = same_connection c records r (no_end c) in
    let list : used_once (records ++ r ∷ []) ≡ used_once records ++ of_connection id r ∷ [] = rw own at (once_push records r) in
    let one : used_in (records ++ r ∷ []) c ≡ (used_in records c || (id == connection_now c records)) =
    ap (λ d. list_any (is_use_of d) (used_once (records ++ r ∷ []))) now ∙ ap (list_any (is_use_of (connection_now c records))) list
    ∙ tells (is_use_of (connection_now c records)) (used_once records) (of_connection id r) (id == connection_now c records) (names (connection_now c records) id) in
    ap (λ b. nat_lt c 65536 && b) one ∙ and_or (nat_lt c 65536) (used_in records c) (id == connection_now c records)
    ∙ ap (λ b. used_by records c || b) (same_numbers c conn records low)

and_true : (a : Bool) → (a && true) ≡ a
and_true true = refl
and_true false = refl

and_false : (a : Bool) → (a && false) ≡ false
and_false true = refl
and_false false = refl

-- a number that has ended names a connection that wasn't used yet
used_end : (c tick conn : ℕ) (records : List Record) → All IsLow records → used_by (records ++ End tick conn ∷ []) c ≡ (used_by records c && not (conn == c))
used_end c tick conn records low = elim (eqb_tells conn c) [
  | inl same ↦ rw same.0 (go same.1 (nat_lt c 65536) refl ∙ sym (and_false (used_by records c)))
  | inr other ↦
      (let now : connection_now c (records ++ End tick conn ∷ []) ≡ connection_now c records = same_connection c records (End tick conn) other.0 in
      rw other.0 (ap (λ b. nat_lt c 65536 && b) (ap (λ d. list_any (is_use_of d) (used_once (records ++ End tick conn ∷ []))) now ∙ list (connection_now c records)) ∙ sym (and_true (used_by records c))))
]
  where
    list : (d : ℕ) → list_any (is_use_of d) (used_once (records ++ End tick conn ∷ [])) ≡ list_any (is_use_of d) (used_once records)
    list d = ap (list_any (is_use_of d)) (once_push records (End tick conn)) ∙ tells_none (is_use_of d) (used_once records) (End tick (connection_now conn records)) refl

    go : conn ≡ c → (b : Bool) → nat_lt c 65536 ≡ b → (b && used_in (records ++ End tick conn ∷ []) c) ≡ false
    go is false e = refl
    go is true e =
        let named : connection_now c (records ++ End tick c ∷ []) ≡ c + 65536 * (ends_of c records + 1) = next_connection c tick records in
        let here : used_in (records ++ End tick conn ∷ []) c ≡ list_any (is_use_of (connection_now c (records ++ End tick conn ∷ []))) (used_once records) = list (connection_now c (records ++ End tick conn ∷ [])) in
        here ∙ ap (λ d. list_any (is_use_of (connection_now c (records ++ End tick d ∷ []))) (used_once records)) is
        ∙ ap (λ d. list_any (is_use_of d) (used_once records)) named
        ∙ next_unused c records (let t = e in grind (arith, nat_tests)) low

-- the past of one more record
pub past_more : (v : Version) (records : List Record) (r : Record) → All IsLow records → IsLow r → past_of v (records ++ r ∷ []) ≡ after v (past_of v records) r
past_more v records (Piece tick conn bytes) all low = same_past _ _
    (length_push records (Piece tick conn bytes))
    (one_more records (Piece tick conn bytes) tick refl)
    (λ c. ended_same v c records (Piece tick conn bytes) (piece_goes_on v c tick conn bytes))
    (λ c. used_more c conn records (Piece tick conn bytes) low (λ d. refl) refl (λ d e. refl))
past_more v records (End tick conn) all low = same_past _ _
    (length_push records (End tick conn))
    (one_more records (End tick conn) tick refl)
    (λ c. ended_more v c tick conn records)
    (λ c. used_end c tick conn records all)
past_more v records (Tier conn tier) all low = same_past _ _
    (length_push records (Tier conn tier))
    (ap last_of (flat_map-append tick_of records (Tier conn tier ∷ []) ∙ append-nil (ticks_of records)))
    (λ c. ended_same v c records (Tier conn tier) (tier_goes_on v c conn tier))
    (λ c. used_more c conn records (Tier conn tier) low (λ d. refl) refl (λ d e. refl))

-- nothing was used before the first record
pub none_used : (c : ℕ) → used_by [] c ≡ false
none_used c = and_false (nat_lt c 65536)
