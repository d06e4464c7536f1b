-- How many connections are open, and the most that were, after one more record.
use Rattle.std.proofs.Common.{◌≡◌, ℕ, ◌+◌, ◌<◌, ◌≤◌, inl, inr, cond, List, [], ◌∷◌, ◌++◌, length, take, refl, sym, ap, ◌∙◌, arith, nat_lt}
use Rattle.std.specs.Prelude.{sum_by}
use Rattle.std.proofs.lemmas.Bool.{lt-ltb, le-ltb, cases_lt}
use Rattle.std.proofs.lemmas.List.{take_all, take-append-le, length_push, length-append}
use Rattle.std.proofs.lemmas.List.Sums.{sum_by-cons, count_by-le-length}
use Rattle.captures.specs.declared.record.Record.{Record}
use Rattle.captures.specs.declared.record.Record.TheVariants.{Piece, End, Tier}
use Rattle.arrivals.specs.Connections.{HaveNumbers, IsNumber, text_now}
use Rattle.inspection.specs.declared.opened.OpenCount.{OpenCount}
use Rattle.inspection.specs.declared.tails.Tail.{Tail}
use Rattle.inspection.specs.Figures.{every_number, is_open, open_count, IsMostOpen}
use Rattle.inspection.specs.Running.{IsOpenCount, with_opened, with_ended, opened_after_piece, opened_after_end}
use Rattle.inspection.proofs.Everyone.{same_numbers, one_number, no_more_numbers}
use Rattle.inspection.proofs.Named.{text_piece_own, text_piece_other, text_end_own, text_end_other, text_tier}

-- ---- how many are open

-- 1 where the connection that a number names is open
abbrev open_in : List Record → ℕ → ℕ
open_in records c = cond (is_open c records) 1 0

-- where it has n bytes
abbrev one_of : ℕ → ℕ
one_of n = cond (nat_lt 0 n) 1 0

open_of : (n : ℕ) → 0 < n → one_of n ≡ 1
open_of n some = ap (λ b. cond b 1 0) (lt-ltb 0 n some)

silent_of : (n : ℕ) → n ≤ 0 → one_of n ≡ 0
silent_of n none = ap (λ b. cond b 1 0) (le-ltb 0 n none)

pub few_open : (records : List Record) → open_count records ≤ 65536
few_open records = let all = count_by-le-length (λ c. is_open c records) every_number in let n = no_more_numbers in omega (arith, all, n)

-- one number's connection changes
count_piece : (tick conn : ℕ) (bytes : List ℕ) (records : List Record) → IsNumber conn
    → open_count (records ++ Piece tick conn bytes ∷ []) + open_in records conn ≡ open_count records + open_in (records ++ Piece tick conn bytes ∷ []) conn
count_piece tick conn bytes records number =
    one_number (open_in records) (open_in (records ++ Piece tick conn bytes ∷ [])) conn number (λ c low apart. ap (λ t. one_of (length t)) (text_piece_other c tick conn bytes records low number apart))

count_end : (tick conn : ℕ) (records : List Record) → IsNumber conn → HaveNumbers records
    → open_count (records ++ End tick conn ∷ []) + open_in records conn ≡ open_count records
count_end tick conn records number numbers =
    let one = one_number (open_in records) (open_in (records ++ End tick conn ∷ [])) conn number (λ c low apart. ap (λ t. one_of (length t)) (text_end_other c tick conn records apart)) in
    let none : open_in (records ++ End tick conn ∷ []) conn ≡ 0 = ap (λ t. one_of (length t)) (text_end_own tick conn records number numbers) in
    omega (arith, one, none)

count_tier : (conn tier : ℕ) (records : List Record) → open_count (records ++ Tier conn tier ∷ []) ≡ open_count records
count_tier conn tier records = same_numbers (open_in (records ++ Tier conn tier ∷ [])) (open_in records) (λ c low. ap (λ t. one_of (length t)) (text_tier c conn tier records))

-- an open connection is counted
pub open_counted : (tick conn n : ℕ) (records : List Record) → IsNumber conn → HaveNumbers records → n ≡ length (text_now conn records) → 0 < n → 0 < open_count records
open_counted tick conn n records number numbers is some =
    let one = count_end tick conn records number numbers in
    let own : open_in records conn ≡ 1 = ap one_of (sym is) ∙ open_of n some in
    omega (arith, one, own)

-- ---- the most

all_taken : (records : List Record) (r : Record) (k : ℕ) → length records < k → take k (records ++ r ∷ []) ≡ records ++ r ∷ []
all_taken records r k lt = take_all k (records ++ r ∷ []) (let len = length_push records r in omega (arith, len, lt))

earlier_taken : (records : List Record) (r : Record) (k : ℕ) → k ≤ length records → open_count (take k (records ++ r ∷ [])) ≡ open_count (take k records)
earlier_taken records r k le = ap open_count (take-append-le k records (r ∷ []) le)

most_stays : (records : List Record) (r : Record) (n : ℕ) → IsMostOpen records n → open_count (records ++ r ∷ []) ≤ n → IsMostOpen (records ++ r ∷ []) n
most_stays records r n h few = record {
  is = (h.is.0, (let le = h.is.1 in let len = length_push records r in omega (arith, le, len)), h.is.2 ∙ sym (earlier_taken records r h.is.0 h.is.1));
  most = λ k le. elim (cases_lt (length records) k) [
    | inl lt ↦ (let e : open_count (take k (records ++ r ∷ [])) ≡ open_count (records ++ r ∷ []) = ap open_count (all_taken records r k lt) in omega (arith, e, few))
    | inr ge ↦ (let e = earlier_taken records r k ge in let m = h.most k ge in omega (arith, e, m))
  ];
}

most_grows : (records : List Record) (r : Record) (n m : ℕ) → IsMostOpen records n → m ≡ open_count (records ++ r ∷ []) → n < m → IsMostOpen (records ++ r ∷ []) m
most_grows records r n m h is more =
    let len = length_push records r in
    record {
      is = (length records + 1, (omega (arith, len)), is ∙ sym (ap open_count (all_taken records r (length records + 1) (omega arith))));
      most = λ k le. elim (cases_lt (length records) k) [
        | inl lt ↦ (let e : open_count (take k (records ++ r ∷ [])) ≡ open_count (records ++ r ∷ []) = ap open_count (all_taken records r k lt) in omega (arith, e, is))
        | inr ge ↦ (let e = earlier_taken records r k ge in let b = h.most k ge in omega (arith, e, b, more))
      ];
    }

-- no more are open now than were at most
now_within : (records : List Record) (n : ℕ) → IsMostOpen records n → open_count records ≤ n
now_within records n h =
    let e : open_count (take (length records) records) ≡ open_count records = ap open_count (take_all (length records) records (omega arith)) in
    let m = h.most (length records) (omega arith) in
    omega (arith, e, m)

-- nothing is open before the first record
pub none_open : open_count [] ≡ 0
none_open = go every_number
  where
    go : (xs : List ℕ) → sum_by (open_in []) xs ≡ 0
    go [] = refl
    go (x ∷ xs) = let rest = go xs in let first = sum_by-cons (open_in []) x xs in omega (arith, rest, first)

pub open_none : IsOpenCount [] (record { now = 0; most = 0 })
open_none = record {
  now = sym none_open;
  most = record {
    is = (0, omega arith, sym none_open);
    most = λ k le. (let e : take k [] ≡ [] = take_all k [] (omega arith) in let o : open_count (take k []) ≡ open_count [] = ap open_count e in let n = none_open in omega (arith, o, n));
  };
}

-- ---- both

stays : (records : List Record) (r : Record) (o : OpenCount) → IsOpenCount records o → open_count (records ++ r ∷ []) ≡ open_count records → IsOpenCount (records ++ r ∷ []) o
stays records r o h same = record {
  now = h.now ∙ sym same;
  most = most_stays records r o.most h.most (let w = now_within records o.most h.most in omega (arith, w, same));
}

grows : (records : List Record) (r : Record) (o : OpenCount) → IsOpenCount records o → open_count (records ++ r ∷ []) ≡ open_count records + 1 → IsOpenCount (records ++ r ∷ []) (with_opened o)
grows records r o h more =
    let is : o.now + 1 ≡ open_count (records ++ r ∷ []) = (let n = h.now in omega (arith, n, more)) in
    record {
      now = is;
      most = elim (cases_lt o.most (o.now + 1)) [
        | inl lt ↦ rw (lt-ltb o.most (o.now + 1) lt) (most_grows records r o.most (o.now + 1) h.most is lt)
        | inr ge ↦ rw (le-ltb o.most (o.now + 1) ge) (most_stays records r o.most h.most (omega (arith, is, ge)))
      ];
    }

falls : (records : List Record) (r : Record) (o : OpenCount) → IsOpenCount records o → open_count (records ++ r ∷ []) + 1 ≡ open_count records → IsOpenCount (records ++ r ∷ []) (with_ended o)
falls records r o h fewer = record {
  now = (let n = h.now in omega (arith, n, fewer));
  most = most_stays records r o.most h.most (let w = now_within records o.most h.most in omega (arith, w, fewer));
}

pub open_tier : (conn tier : ℕ) (records : List Record) (o : OpenCount) → IsOpenCount records o → IsOpenCount (records ++ Tier conn tier ∷ []) o
open_tier conn tier records o h = stays records (Tier conn tier) o h (count_tier conn tier records)

pub open_piece : (tick conn : ℕ) (bytes : List ℕ) (records : List Record) (tail : Tail) (old new : OpenCount) → IsNumber conn → tail.bytes ≡ length (text_now conn records)
    → new ≡ opened_after_piece tail (length bytes) old → IsOpenCount records old → IsOpenCount (records ++ Piece tick conn bytes ∷ []) new
open_piece tick conn bytes records tail old new number kept is h =
    let r = Piece tick conn bytes in
    let count = count_piece tick conn bytes records number in
    let own : length (text_now conn (records ++ r ∷ [])) ≡ tail.bytes + length bytes = ap length (text_piece_own tick conn bytes records) ∙ (let l = length-append (text_now conn records) bytes in omega (arith, l, kept)) in
    let before : open_in records conn ≡ one_of tail.bytes = ap one_of (sym kept) in
    let after : open_in (records ++ r ∷ []) conn ≡ one_of (tail.bytes + length bytes) = ap one_of own in
    elim (cases_lt 0 tail.bytes) [
      | inl some ↦ (
          let same : new ≡ old = is ∙ ap (λ b. cond b old (cond (nat_lt 0 (length bytes)) (with_opened old) old)) (lt-ltb 0 tail.bytes some) in
          let was = open_of tail.bytes some in
          let stays_so = open_of (tail.bytes + length bytes) (omega (arith, some)) in
          rw same (stays records r old h (omega (arith, count, before, after, was, stays_so))))
      | inr none ↦ (
          let was = silent_of tail.bytes none in
          let either : new ≡ cond (nat_lt 0 (length bytes)) (with_opened old) old = is ∙ ap (λ b. cond b old (cond (nat_lt 0 (length bytes)) (with_opened old) old)) (le-ltb 0 tail.bytes none) in
          elim (cases_lt 0 (length bytes)) [
            | inl some ↦ (
                let more : new ≡ with_opened old = either ∙ ap (λ b. cond b (with_opened old) old) (lt-ltb 0 (length bytes) some) in
                let opens = open_of (tail.bytes + length bytes) (omega (arith, some)) in
                rw more (grows records r old h (omega (arith, count, before, after, was, opens))))
            | inr nothing ↦ (
                let same : new ≡ old = either ∙ ap (λ b. cond b (with_opened old) old) (le-ltb 0 (length bytes) nothing) in
                let silent = silent_of (tail.bytes + length bytes) (omega (arith, none, nothing)) in
                rw same (stays records r old h (omega (arith, count, before, after, was, silent))))
          ])
    ]

pub open_end : (tick conn : ℕ) (records : List Record) (tail : Tail) (old new : OpenCount) → IsNumber conn → HaveNumbers records → tail.bytes ≡ length (text_now conn records)
    → new ≡ opened_after_end tail old → IsOpenCount records old → IsOpenCount (records ++ End tick conn ∷ []) new
open_end tick conn records tail old new number numbers kept is h =
    let r = End tick conn in
    let count = count_end tick conn records number numbers in
    let before : open_in records conn ≡ one_of tail.bytes = ap one_of (sym kept) in
    elim (cases_lt 0 tail.bytes) [
      | inl some ↦ (
          let fewer : new ≡ with_ended old = is ∙ ap (λ b. cond b (with_ended old) old) (lt-ltb 0 tail.bytes some) in
          let was = open_of tail.bytes some in
          rw fewer (falls records r old h (omega (arith, count, before, was))))
      | inr none ↦ (
          let same : new ≡ old = is ∙ ap (λ b. cond b (with_ended old) old) (le-ltb 0 tail.bytes none) in
          let was = silent_of tail.bytes none in
          rw same (stays records r old h (omega (arith, count, before, was))))
    ]
