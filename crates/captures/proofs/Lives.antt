-- Records read as records of connections whose numbers are used once.
use Rattle.std.proofs.Common.{◌≡◌, ◌≢◌, ℕ, suc, zero, ◌+◌, ◌*◌, ◌<◌, ◌≤◌, inl, inr, cond, false, List, [], ◌∷◌, ◌++◌, length, All, refl, sym, ap, ◌∙◌, subst, arith, get_or, Some}
use Rattle.std.specs.Prelude.{count_by, slice_get}
use Rattle.std.proofs.lemmas.Option.{none-some, same_Some}
use Rattle.std.specs.List.{AllPairs, list_any}
use Rattle.std.proofs.Math.Seq.{get_or-append_seam}
use Rattle.std.proofs.lemmas.Bool.Decides.{eqb_tells}
use Rattle.std.proofs.lemmas.List.{append_assoc, append-nil, length-append, get_or_append_left}
use Rattle.std.proofs.lemmas.List.Elements.{All-head, All-tail, All-nil, All-cons, All-weaker}
use Rattle.std.proofs.lemmas.List.Folds.{list_any_none}
use Rattle.std.proofs.lemmas.List.Sums.{sum_by-append, sum_by-cons}
use Rattle.captures.specs.Reference.{connection_of, is_end_of, is_use_of, connection_now, of_connection, used_once_after, used_once, IsRecord}
use Rattle.captures.specs.declared.version.Version.{Version}
use Rattle.captures.specs.declared.record.Record.{Record}
use Rattle.captures.specs.declared.record.Record.TheVariants.{Piece, End, Tier}
use Rattle.captures.proofs.Lines.{few_connections}

-- ---- numbers

-- a record names a number of 16 bits
abbrev pub IsLow : Record → Type 0
IsLow r = connection_of r < 65536

pub is_low : (v : Version) (r : Record) → IsRecord v r → IsLow r
is_low v (Piece tick conn bytes) h = omega (arith, h.1, few_connections v)
is_low v (End tick conn) h = omega (arith, h.1, few_connections v)
is_low v (Tier conn tier) h = omega (arith, h.1, few_connections v)

pub all_low : (v : Version) (records : List Record) → All (IsRecord v) records → All IsLow records
all_low v records h = All-weaker (IsRecord v) IsLow (λ r own. is_low v r own) records h

-- how often a number has ended
abbrev pub ends_of : ℕ → List Record → ℕ
ends_of c records = count_by (is_end_of c) records

abbrev ends_in : ℕ → Record → ℕ
ends_in c r = cond (is_end_of c r) 1 0

ends_append : (c : ℕ) (rs ss : List Record) → ends_of c (rs ++ ss) ≡ ends_of c rs + ends_of c ss
ends_append c rs ss = sum_by-append (ends_in c) rs ss

ends_push : (c : ℕ) (rs : List Record) (r : Record) → ends_of c (rs ++ r ∷ []) ≡ ends_of c rs + ends_in c r
ends_push c rs r = omega (arith, ends_append c rs (r ∷ []), sum_by-cons (ends_in c) r [])

-- a number names the same connection after a record that doesn't end it
pub same_connection : (c : ℕ) (records : List Record) (r : Record) → is_end_of c r ≡ false → connection_now c (records ++ r ∷ []) ≡ connection_now c records
same_connection c records r goes_on = let e = ends_push c records r in let none : ends_in c r ≡ 0 = ap (λ b. cond b 1 0) goes_on in omega (arith, e, none)

-- and a further one after its end
pub next_connection : (c tick : ℕ) (records : List Record) → connection_now c (records ++ End tick c ∷ []) ≡ c + 65536 * (ends_of c records + 1)
next_connection c tick records = elim (eqb_tells c c) [
  | inl same ↦ (let e = ends_push c records (End tick c) in let one : ends_in c (End tick c) ≡ 1 = ap (λ b. cond b 1 0) same.0 in omega (arith, e, one))
  | inr other ↦ absurd (other.1 refl)
]

-- two numbers never name the same connection
pub apart : (c d m n : ℕ) → c < 65536 → d < 65536 → c + 65536 * m ≡ d + 65536 * n → c ≡ d
apart c d m n lc ld e = omega (arith, lc, ld, e)

-- ---- one more record

once_append_after : (earlier rs ss : List Record) → used_once_after earlier (rs ++ ss) ≡ used_once_after earlier rs ++ used_once_after (earlier ++ rs) ss
once_append_after earlier [] ss = ap (λ w. used_once_after w ss) (sym (append-nil earlier))
once_append_after earlier (r ∷ rs) ss =
    ap (λ w. of_connection (connection_now (connection_of r) earlier) r ∷ w)
    (once_append_after (earlier ++ r ∷ []) rs ss ∙ ap (λ w. used_once_after (earlier ++ r ∷ []) rs ++ used_once_after w ss) (append_assoc earlier (r ∷ []) rs))

pub once_append : (rs ss : List Record) → used_once (rs ++ ss) ≡ used_once rs ++ used_once_after rs ss
once_append rs ss = once_append_after [] rs ss

pub once_push : (records : List Record) (r : Record) → used_once (records ++ r ∷ []) ≡ used_once records ++ of_connection (connection_now (connection_of r) records) r ∷ []
once_push records r = once_append records (r ∷ [])

once_length_after : (earlier records : List Record) → length (used_once_after earlier records) ≡ length records
once_length_after earlier [] = refl
once_length_after earlier (r ∷ records) = ap suc (once_length_after (earlier ++ r ∷ []) records)

pub once_length : (records : List Record) → length (used_once records) ≡ length records
once_length records = once_length_after [] records

-- ---- a connection that was not named yet

of_own : (c : ℕ) (r : Record) → connection_of (of_connection c r) ≡ c
of_own c (Piece tick conn bytes) = refl
of_own c (End tick conn) = refl
of_own c (Tier conn tier) = refl

-- of the connections of a number no later one was named than that which it names now
abbrev pub IsKnown : ℕ → ℕ → Record → Type 0
IsKnown c ends r = (m : ℕ) → connection_of r ≡ c + 65536 * m → m ≤ ends

known_after : (c : ℕ) (earlier records : List Record) → c < 65536 → All IsLow records → All (IsKnown c (ends_of c (earlier ++ records))) (used_once_after earlier records)
known_after c earlier [] low all = All-nil (IsKnown c (ends_of c (earlier ++ [])))
known_after c earlier (r ∷ records) low all =
    let ends = ends_of c (earlier ++ r ∷ records) in
    let id = connection_now (connection_of r) earlier in
    let own_low : connection_of r < 65536 = All-head IsLow r records all in
    let first : IsKnown c ends (of_connection id r) = λ m is. (
    let whole : connection_of r + 65536 * ends_of (connection_of r) earlier ≡ c + 65536 * m = sym (of_own id r) ∙ is in
    let same : connection_of r ≡ c = apart (connection_of r) c (ends_of (connection_of r) earlier) m own_low low whole in
    let count : ends_of (connection_of r) earlier ≡ ends_of c earlier = ap (λ d. ends_of d earlier) same in
    let more = ends_append c earlier (r ∷ records) in
    omega (arith, whole, same, count, more)) in
    let rest : All (IsKnown c (ends_of c ((earlier ++ r ∷ []) ++ records))) (used_once_after (earlier ++ r ∷ []) records) = known_after c (earlier ++ r ∷ []) records low (All-tail IsLow r records all) in
    All-cons (IsKnown c ends) (of_connection id r) (used_once_after (earlier ++ r ∷ []) records) first (rw (append_assoc earlier (r ∷ []) records) at rest)

pub known : (c : ℕ) (records : List Record) → c < 65536 → All IsLow records → All (IsKnown c (ends_of c records)) (used_once records)
known c records low all = known_after c [] records low all

-- no record names the connection after it
pub unnamed : (c : ℕ) (records : List Record) → c < 65536 → All IsLow records → All (λ r. connection_of r ≢ c + 65536 * (ends_of c records + 1)) (used_once records)
unnamed c records low all =
    All-weaker (IsKnown c (ends_of c records)) (λ r. connection_of r ≢ c + 65536 * (ends_of c records + 1)) (λ r own is. (let le = own (ends_of c records + 1) is in absurd (omega (arith, le)))) (used_once records) (known c records low all)

is_no_use : (c : ℕ) (r : Record) → connection_of r ≢ c → is_use_of c r ≡ false
is_no_use c (Piece tick conn bytes) other = elim (eqb_tells conn c) [ inl same ↦ absurd (other same.1) | inr differs ↦ differs.0 ]
is_no_use c (End tick conn) other = refl
is_no_use c (Tier conn tier) other = elim (eqb_tells conn c) [ inl same ↦ absurd (other same.1) | inr differs ↦ differs.0 ]

-- so it was not used
pub unused : (c : ℕ) (records : List Record) → c < 65536 → All IsLow records → list_any (is_use_of (c + 65536 * (ends_of c records + 1))) (used_once records) ≡ false
unused c records low all =
    let next = c + 65536 * (ends_of c records + 1) in
    list_any_none (is_use_of next) (used_once records) (All-weaker (λ r. connection_of r ≢ next) (λ r. is_use_of next r ≡ false) (λ r other. is_no_use next r other) (used_once records) (unnamed c records low all))

-- ---- captures

no_ends : (c : ℕ) (records : List Record) → All (λ r. is_end_of c r ≡ false) records → ends_of c records ≡ 0
no_ends c [] all = refl
no_ends c (r ∷ records) all =
    let none : ends_in c r ≡ 0 = ap (λ b. cond b 1 0) (All-head (λ q. is_end_of c q ≡ false) r records all) in
    let rest = no_ends c records (All-tail (λ q. is_end_of c q ≡ false) r records all) in
    omega (arith, sum_by-cons (ends_in c) r records, none, rest)

of_itself : (r : Record) (m : ℕ) → m ≡ 0 → of_connection (connection_of r + 65536 * m) r ≡ r
of_itself (Piece tick conn bytes) m none = ap (λ c. Piece tick c bytes) (omega (arith, none))
of_itself (End tick conn) m none = ap (λ c. End tick c) (omega (arith, none))
of_itself (Tier conn tier) m none = ap (λ c. Tier c tier) (omega (arith, none))

abbrev EndsLast : List Record → Type 0
EndsLast records = AllPairs (λ r s. is_end_of (connection_of s) r ≡ false) records

not_ended : (earlier records : List Record) (r : Record) → EndsLast (earlier ++ r ∷ records) → All (λ q. is_end_of (connection_of r) q ≡ false) earlier
not_ended earlier records r last = λ i d lt.
    let all = earlier ++ r ∷ records in
    let pair = last i (length earlier) d lt (omega (arith, length-append earlier (r ∷ records))) in
    let left : get_or all i d ≡ get_or earlier i d = get_or_append_left earlier (r ∷ records) d i lt in
    let right : get_or all (length earlier) d ≡ r = get_or-append_seam earlier r records d in
    rw (left, right) at pair

same_after : (earlier records : List Record) → EndsLast (earlier ++ records) → used_once_after earlier records ≡ records
same_after earlier [] last = refl
same_after earlier (r ∷ records) last =
    let none = no_ends (connection_of r) earlier (not_ended earlier records r last) in
    let rest = same_after (earlier ++ r ∷ []) records (rw (append_assoc earlier (r ∷ []) records) last) in
    λ i. of_itself r (ends_of (connection_of r) earlier) none i ∷ rest i

-- where nothing of a number follows its end, the records are read as they are
pub once_same : (records : List Record) → EndsLast records → used_once records ≡ records
once_same records last = same_after [] records last

-- a piece of such records is on a number of 16 bits
pub piece_low : (records : List Record) (i tick c : ℕ) (bytes : List ℕ) → All IsLow records → slice_get records i ≡ Some (Piece tick c bytes) → c < 65536
piece_low [] i tick c bytes low h = absurd (none-some _ h)
piece_low (r ∷ records) zero tick c bytes low h = subst IsLow (same_Some _ _ h) (All-head IsLow r records low)
piece_low (r ∷ records) (suc i) tick c bytes low h = piece_low records i tick c bytes (All-tail IsLow r records low) h
