-- The first end of a block, found by the line feeds.
use Rattle.std.proofs.Common.{◌≡◌, ℕ, zero, suc, ◌+◌, ◌-◌, ◌<◌, ◌≤◌, ◌⊎◌, inl, inr, Bool, true, false, ◌==◌, List, [], ◌∷◌, length, take, drop, slice_index, sym, ◌∙◌, ap, arith, IsTrue}
use Rattle.std.proofs.lemmas.Grind.{common_steps}
use Rattle.std.proofs.lemmas.Bool.{cases_lt, cases_Bool, cond-true, cond-false, both_ways, eqb-true}
use Rattle.memchr.specs.Find.{Nowhere, Passes, is_byte, places_from}
use Rattle.http_requests.specs.Scanning.{ends_at}
use Rattle.http_requests.specs.Reference.{EndsAt, IsBlock, NoBlock, blank_len}
use Rattle.http_requests.specs.Scanning.{NoEndIn}
use Rattle.http_requests.proofs.EndLaws.{ends_within, ends_by_test, test_holds}
use Rattle.http_requests.proofs.FrontLemmas.{blank_at}
use Rattle.std.proofs.lemmas.Bool.Decides.{nat_tests}
use Rattle.std.specs.Prelude.{max}

-- an end stands after a line feed
end_lf : (s : List ℕ) (e : ℕ) → IsTrue (ends_at s e) → (slice_index s (e - 1) == 10) ≡ true
unfolding ends_at
end_lf s e h = grind arith

slice_read : (s : List ℕ) (from to k : ℕ) → from + k < to → to ≤ length s → slice_index (take (to - from) (drop from s)) k ≡ slice_index s (from + k)
slice_read s from to k h w = grind (arith, common_steps)

-- no end stands between two places among which no line feed is
pub no_end_before : (s : List ℕ) (from to k n : ℕ) → from + n ≤ to → to ≤ length s → NoEndIn (from + k) s
    → Nowhere (Passes (is_byte 10) (take (to - from) (drop from s))) k n → NoEndIn (from + n) s
no_end_before s from to k n a b before nowhere e le ends =
    elim (cases_lt (from + k) e) [
      | inl lt ↦ (let w = ends_within s e ends in
          let place : from + (e - 1 - from) ≡ e - 1 = omega (arith, lt) in
          let read : slice_index (take (to - from) (drop from s)) (e - 1 - from) ≡ slice_index s (e - 1) = slice_read s from to (e - 1 - from) (omega (arith, lt, le, a)) b ∙ ap (slice_index s) place in
          nowhere (e - 1 - from) (omega (arith, lt)) (omega (arith, lt, le)) (ap (λ x. x == 10) read ∙ end_lf s e (test_holds s e ends)))
      | inr ge ↦ before e ge ends
    ]

-- no end stands after some bytes, if none does behind a line feed among them
pub none_behind : (s : List ℕ) (at n : ℕ) → NoEndIn at s → ((k : ℕ) → k < n → slice_index s (at + k) ≡ 10 → ends_at s (at + k + 1) ≡ false) → NoEndIn (at + n) s
none_behind s at n before each e le ends =
    elim (cases_lt at e) [
      | inl lt ↦ (
          let w = ends_within s e ends in
          let place : e - 1 ≡ at + (e - 1 - at) = omega (arith, lt) in
          let end : at + (e - 1 - at) + 1 ≡ e = omega (arith, lt) in
          let feed : slice_index s (e - 1) ≡ 10 = eqb-true (slice_index s (e - 1)) 10 (end_lf s e (test_holds s e ends)) in
          let none = each (e - 1 - at) (omega (arith, lt, le)) (rw place at feed) in
          let here = rw end at none in
          let test = test_holds s e ends in
          grind (arith, here, test))
      | inr ge ↦ before e ge ends
    ]

pub slice_len : (s : List ℕ) (from to : ℕ) → from ≤ to → to ≤ length s → length (take (to - from) (drop from s)) ≡ to - from
slice_len s from to a b = grind (arith, common_steps)

first_feed : (s : List ℕ) → blank_len s ≡ 0 → EndsAt s 2 → ⊥
unfolding ends_at
first_feed s begins ends =
    let w = ends_within s 2 ends in
    let test = test_holds s 2 ends in
    let feed : (slice_index s 0 == 10) ≡ true = grind (arith, nat_tests, test) in
    let b = blank_at s 0 (omega (arith, w.1)) in
    let c = rw feed at b in
    absurd (omega (arith, begins, c))

-- no end stands up to place 2, where the text doesn't begin with an empty line
pub no_end_first : (s : List ℕ) (seen at : ℕ) → blank_len s ≡ 0 → NoEndIn seen s → at ≡ max seen 2 → NoEndIn at s
no_end_first s seen at begins before is e le ends = elim (cases_lt seen e) [
  | inl after ↦ (let w = ends_within s e ends in
      let two : e ≡ 2 = omega (arith, after, is, le, w.0) in
      let here = rw two at ends in
      first_feed s begins here)
  | inr ge ↦ before e ge ends
]

pub one_more : (s : List ℕ) (n : ℕ) → NoEndIn n s → ends_at s (n + 1) ≡ false → NoEndIn (n + 1) s
one_more s n before is_none e le ends = elim (cases_lt n e) [
  | inl lt ↦ (let is : e ≡ n + 1 = omega (arith, lt, le) in let here : IsTrue (ends_at s (n + 1)) = test_holds s (n + 1) (rw (← is) ends) in grind (arith, here, is_none))
  | inr ge ↦ before e ge ends
]

pub first_end : (s : List ℕ) (n : ℕ) → NoEndIn n s → ends_at s (n + 1) ≡ true → n + 1 ≤ 8192 → IsBlock s (n + 1)
first_end s n before is_end short = record {
  ends = ends_by_test s (n + 1) (grind (arith, is_end));
  first = λ k below ends. before k (omega (arith, below)) ends;
  short = short;
}

-- no end up to the limit or the end of the text
pub none_left : (s : List ℕ) (n last : ℕ) → NoEndIn n s → last ≤ n → (length s ≤ last) ⊎ (8192 ≤ last) → NoBlock s
none_left s n last before le (inl all) = λ e short ends. let w = ends_within s e ends in before e (omega (arith, w.1, all, le)) ends
none_left s n last before le (inr all) = λ e short ends. before e (omega (arith, short, all, le)) ends

-- the first of some places, and those after it
pub record Leads (test : ℕ → Bool) (hay : List ℕ) (i j x : ℕ) (rest : List ℕ) : Type 0 where
  pub low : i ≤ x
  pub high : x < j
  pub before : Nowhere (Passes test hay) i x
  pub passes : Passes test hay x
  pub after : rest ≡ places_from test hay (x + 1) (j - (x + 1))

leads : (test : ℕ → Bool) (hay : List ℕ) (i n x : ℕ) (rest : List ℕ) → places_from test hay i n ≡ x ∷ rest → Leads test hay i (i + n) x rest
unfolding places_from
leads test hay i zero x rest h = absurd (let z : ⊥ = cc in z)
leads test hay i (suc n) x rest h = elim (cases_Bool (test (slice_index hay i))) [
  | inl is ↦ (
      let all : i ∷ places_from test hay (i + 1) n ≡ x ∷ rest = sym (cond-true _ _ _ is) ∙ h in
      let here : i ≡ x = cc in
      let more : places_from test hay (i + 1) n ≡ rest = cc in
      let count : n ≡ i + suc n - (i + 1) = omega arith in
      record {
        low = omega (arith, here);
        high = omega (arith, here);
        before = λ k low high. absurd (omega (arith, here, low, high));
        passes = rw here at is;
        after = sym more ∙ (ap (places_from test hay (i + 1)) count ∙ ap (λ k. places_from test hay (k + 1) (i + suc n - (k + 1))) here);
      })
  | inr isnt ↦ (
      let rest_is : places_from test hay (i + 1) n ≡ x ∷ rest = sym (cond-false _ _ _ isnt) ∙ h in
      let later = leads test hay (i + 1) n x rest rest_is in
      let low = later.low in
      let high = later.high in
      let end : i + 1 + n ≡ i + suc n = omega arith in
      record {
        low = omega (arith, low);
        high = omega (arith, high);
        before = λ k l h. elim (cases_lt i k) [
          | inl above ↦ later.before k (omega (arith, above)) h
          | inr at ↦ (let same : k ≡ i = omega (arith, l, at) in λ passes. both_ways (test (slice_index hay i)) isnt (rw same at passes))
        ];
        passes = later.passes;
        after = later.after ∙ ap (λ j. places_from test hay (x + 1) (j - (x + 1))) end;
      })
]

nowhere : (test : ℕ → Bool) (hay : List ℕ) (i n : ℕ) → places_from test hay i n ≡ [] → Nowhere (Passes test hay) i (i + n)
unfolding places_from
nowhere test hay i zero h k low high passes = absurd (omega (arith, low, high))
nowhere test hay i (suc n) h k low high passes = elim (cases_Bool (test (slice_index hay i))) [
  | inl is ↦ (let all : i ∷ places_from test hay (i + 1) n ≡ [] = sym (cond-true _ _ _ is) ∙ h in absurd (let z : ⊥ = cc in z))
  | inr isnt ↦ (
      let rest_is : places_from test hay (i + 1) n ≡ [] = sym (cond-false _ _ _ isnt) ∙ h in
      elim (cases_lt i k) [
        | inl above ↦ nowhere test hay (i + 1) n rest_is k (omega (arith, above)) (omega (arith, high)) passes
        | inr at ↦ (let same : k ≡ i = omega (arith, low, at) in both_ways (test (slice_index hay i)) isnt (rw same at passes))
      ])
]

-- the line feeds that are left of those between two places, where no block ends up to the others
pub record Sought (s : List ℕ) (from to : ℕ) (feeds : List ℕ) : Type 0 where
  pub k : ℕ
  pub within : from + k ≤ to
  pub none : NoEndIn (from + k) s
  pub are : feeds ≡ places_from (is_byte 10) (take (to - from) (drop from s)) k (to - (from + k))

pub sought_all : (s : List ℕ) (from to : ℕ) → from ≤ to → to ≤ length s → NoEndIn from s
    → Sought s from to (places_from (is_byte 10) (take (to - from) (drop from s)) 0 (length (take (to - from) (drop from s)) - 0))
sought_all s from to a b none =
    let zero_more : from + 0 ≡ from = omega arith in
    let count : length (take (to - from) (drop from s)) - 0 ≡ to - (from + 0) = omega (arith, slice_len s from to a b) in
    record {
      k = 0;
      within = omega (arith, a);
      none = rw zero_more none;
      are = ap (places_from (is_byte 10) (take (to - from) (drop from s)) 0) count;
    }

-- no block ends up to the next of them
pub sought_next : (s : List ℕ) (from to x : ℕ) (feeds rest : List ℕ) → to ≤ length s → Sought s from to feeds → feeds ≡ x ∷ rest
    → (from + x < to) × (slice_index s (from + x) ≡ 10) × NoEndIn (from + x) s × (rest ≡ places_from (is_byte 10) (take (to - from) (drop from s)) (x + 1) (to - (from + (x + 1))))
sought_next s from to x feeds rest b sought steps =
    let slice = take (to - from) (drop from s) in
    let within = sought.within in
    let first = leads (is_byte 10) slice sought.k (to - (from + sought.k)) x rest (sym sought.are ∙ steps) in
    let low = first.low in
    let high = first.high in
    let below : from + x < to = omega (arith, high, within) in
    let count : sought.k + (to - (from + sought.k)) - (x + 1) ≡ to - (from + (x + 1)) = omega (arith, within, high) in
    let feed : slice_index slice x ≡ 10 = eqb-true (slice_index slice x) 10 first.passes in
    (below, sym (slice_read s from to x below b) ∙ feed, no_end_before s from to sought.k x (omega (arith, below)) b sought.none first.before, first.after ∙ ap (places_from (is_byte 10) slice (x + 1)) count)

-- nor up to the end, where none is left
pub sought_none : (s : List ℕ) (from to : ℕ) (feeds : List ℕ) → from ≤ to → to ≤ length s → Sought s from to feeds → feeds ≡ [] → NoEndIn to s
sought_none s from to feeds a b sought none =
    let slice = take (to - from) (drop from s) in
    let within = sought.within in
    let empty = nowhere (is_byte 10) slice sought.k (to - (from + sought.k)) (sym sought.are ∙ none) in
    let end : from + (to - from) ≡ to = omega (arith, a) in
    rw end at (no_end_before s from to sought.k (to - from) (omega (arith, a)) b sought.none (λ k l h. empty k l (omega (arith, h, within))))

pub sought_more : (s : List ℕ) (from to x : ℕ) (rest : List ℕ) → from + x < to
    → rest ≡ places_from (is_byte 10) (take (to - from) (drop from s)) (x + 1) (to - (from + (x + 1)))
    → NoEndIn (from + x + 1) s → Sought s from to rest
sought_more s from to x rest below are none =
    let one : from + x + 1 ≡ from + (x + 1) = omega arith in
    record { k = x + 1; within = omega (arith, below); none = rw (sym one) none; are = are }
