-- The scan's test of a block's end, and what it means.
use Rattle.std.proofs.Common.{◌≡◌, ℕ, suc, ◌+◌, ◌-◌, ◌<◌, ◌≤◌, ◌⊎◌, inl, inr, Bool, true, false, ◌&&◌, ◌||◌, ◌==◌, nat_le, IsTrue, List, ◌∷◌, ◌++◌, length, take, drop, slice_index, codes, refl, sym, ◌∙◌, ap, arith, length-append}
use Rattle.std.proofs.lemmas.List.{take-append-drop, get_or-append-add}
use Rattle.std.proofs.Math.Seq.{drop-cons}
use Rattle.std.proofs.lemmas.Grind.{common_steps}
use Rattle.std.proofs.lemmas.Bool.{cases_lt}
use Rattle.http_requests.specs.Reference.{IsBlockEnd, EndsAt, IsBlock}
use Rattle.http_requests.specs.Scanning.{ends_at, IsShortestBlock}

-- the test holds within the text alone, and looks at no byte after the place
test_within : (s : List ℕ) (e : ℕ) → IsTrue (ends_at s e) → (2 ≤ e) × (e ≤ length s)
unfolding ends_at
test_within s e h = (grind arith, grind arith)

test_append : (s y : List ℕ) (e : ℕ) → e ≤ length s → ends_at (s ++ y) e ≡ ends_at s e
unfolding ends_at
test_append s y e h = grind (arith, common_steps)

-- the bytes that the test looks at
abbrev Test : List ℕ → ℕ → Type 0
Test s e = ((slice_index s (e - 1) ≡ 10) × (slice_index s (e - 2) ≡ 10))
    ⊎ ((3 ≤ e) × (slice_index s (e - 1) ≡ 10) × (slice_index s (e - 2) ≡ 13) × (slice_index s (e - 3) ≡ 10))

two_ways : (a b c d f : Bool) → IsTrue (a && (b || (c && (d && f)))) → (IsTrue a × IsTrue b) ⊎ (IsTrue a × IsTrue c × IsTrue d × IsTrue f)
two_ways true true c d f h = inl (h, h)
two_ways true false true true true h = inr (h, h, h, h)
two_ways true false true true false h = absurd (let x : ⊥ = grind (arith, h) in x)
two_ways true false true false f h = absurd (let x : ⊥ = grind (arith, h) in x)
two_ways true false false d f h = absurd (let x : ⊥ = grind (arith, h) in x)
two_ways false b c d f h = absurd (let x : ⊥ = grind (arith, h) in x)

after_and : (a b : Bool) → IsTrue (a && b) → IsTrue b
after_and true b h = h
after_and false b h = absurd (let x : ⊥ = grind (arith, h) in x)

is_byte : (x c : ℕ) → IsTrue (x == c) → x ≡ c
is_byte x c h = grind arith

at_least : (n e : ℕ) → IsTrue (nat_le n e) → n ≤ e
at_least n e h = grind arith

tested : (s : List ℕ) (e : ℕ) → IsTrue (ends_at s e) → Test s e
unfolding ends_at
tested s e h =
    let rest = after_and (nat_le e (length s)) _ (after_and (nat_le 2 e) _ h) in
    elim (two_ways (slice_index s (e - 1) == 10) (slice_index s (e - 2) == 10) (nat_le 3 e) (slice_index s (e - 2) == 13) (slice_index s (e - 3) == 10) rest) [
      | inl w ↦ inl (is_byte _ 10 w.0, is_byte _ 10 w.1)
      | inr w ↦ inr (at_least 3 e w.1, is_byte _ 10 w.0, is_byte _ 13 w.2, is_byte _ 10 w.3)
    ]

-- one byte off the rest
next : (s : List ℕ) (k b : ℕ) → k < length s → slice_index s k ≡ b → drop k s ≡ b ∷ drop (k + 1) s
next s k b lt is = drop-cons s k 0 lt ∙ (let e : suc k ≡ k + 1 = omega arith in rw (is, e) refl)

split : (s : List ℕ) (n : ℕ) (end after : List ℕ) → drop n s ≡ end ++ after → s ≡ take n s ++ (end ++ after)
split s n end after h = sym (take-append-drop n s) ∙ ap (λ w. take n s ++ w) h

taken : (s : List ℕ) (n : ℕ) → n ≤ length s → length (take n s) ≡ n
taken s n le = grind (arith, common_steps)

pub ends_by_test : (s : List ℕ) (e : ℕ) → IsTrue (ends_at s e) → EndsAt s e
ends_by_test s e h =
    let w = test_within s e h in
    elim (tested s e h) [
      | inl t ↦ (let a : drop (e - 2) s ≡ 10 ∷ drop (e - 1) s = (let k : e - 2 + 1 ≡ e - 1 = omega (arith, w.0) in rw (next s (e - 2) 10 (omega (arith, w.0, w.1)) t.1, k) refl) in
          let b : drop (e - 1) s ≡ 10 ∷ drop e s = (let k : e - 1 + 1 ≡ e = omega (arith, w.0) in rw (next s (e - 1) 10 (omega (arith, w.0, w.1)) t.0, k) refl) in
          record {
            before = take (e - 2) s;
            end = codes "\n\n";
            after = drop e s;
            is = inl refl;
            text = split s (e - 2) (codes "\n\n") (drop e s) (a ∙ ap (λ l. 10 ∷ l) b);
            place = let l = taken s (e - 2) (omega (arith, w.0, w.1)) in omega (arith, w.0, l);
          })
      | inr t ↦ (let a : drop (e - 3) s ≡ 10 ∷ drop (e - 2) s = (let k : e - 3 + 1 ≡ e - 2 = omega (arith, t.0) in rw (next s (e - 3) 10 (omega (arith, t.0, w.1)) t.3, k) refl) in
          let b : drop (e - 2) s ≡ 13 ∷ drop (e - 1) s = (let k : e - 2 + 1 ≡ e - 1 = omega (arith, w.0) in rw (next s (e - 2) 13 (omega (arith, w.0, w.1)) t.2, k) refl) in
          let c : drop (e - 1) s ≡ 10 ∷ drop e s = (let k : e - 1 + 1 ≡ e = omega (arith, w.0) in rw (next s (e - 1) 10 (omega (arith, w.0, w.1)) t.1, k) refl) in
          record {
            before = take (e - 3) s;
            end = codes "\n\r\n";
            after = drop e s;
            is = inr refl;
            text = split s (e - 3) (codes "\n\r\n") (drop e s) (a ∙ ap (λ l. 10 ∷ l) (b ∙ ap (λ l. 13 ∷ l) c));
            place = let l = taken s (e - 3) (omega (arith, t.0, w.1)) in omega (arith, t.0, l);
          })
    ]

-- a byte of the end
byte_of : (before tail : List ℕ) (n k : ℕ) → k ≡ length before + n → slice_index (before ++ tail) k ≡ slice_index tail n
byte_of before tail n k is = rw is (get_or-append-add before tail n 0)

short_end : (before after : List ℕ) (e : ℕ) → e ≡ length before + 2 → IsTrue (ends_at (before ++ (10 ∷ 10 ∷ after)) e)
unfolding ends_at
short_end before after e is =
    let tail = 10 ∷ 10 ∷ after in
    let last = byte_of before tail 1 (e - 1) (omega (arith, is)) in
    let first = byte_of before tail 0 (e - 2) (omega (arith, is)) in
    let len = length-append before tail in
    grind (arith, last, first, len, is)

long_end : (before after : List ℕ) (e : ℕ) → e ≡ length before + 3 → IsTrue (ends_at (before ++ (10 ∷ 13 ∷ 10 ∷ after)) e)
unfolding ends_at
long_end before after e is =
    let tail = 10 ∷ 13 ∷ 10 ∷ after in
    let last = byte_of before tail 2 (e - 1) (omega (arith, is)) in
    let middle = byte_of before tail 1 (e - 2) (omega (arith, is)) in
    let first = byte_of before tail 0 (e - 3) (omega (arith, is)) in
    let len = length-append before tail in
    grind (arith, last, middle, first, len, is)

after_end : (s before end after : List ℕ) (e : ℕ) → IsBlockEnd end → s ≡ before ++ (end ++ after) → e ≡ length before + length end → IsTrue (ends_at s e)
after_end s before end after e (inl is) text place =
    rw (text, is) (short_end before after e (place ∙ ap (λ (w : List ℕ). length before + length w) is))
after_end s before end after e (inr is) text place =
    rw (text, is) (long_end before after e (place ∙ ap (λ (w : List ℕ). length before + length w) is))

pub test_holds : (s : List ℕ) (e : ℕ) → EndsAt s e → IsTrue (ends_at s e)
test_holds s e h = after_end s h.before h.end h.after e h.is h.text h.place

pub ends_within : (s : List ℕ) (e : ℕ) → EndsAt s e → (2 ≤ e) × (e ≤ length s)
ends_within s e h = test_within s e (test_holds s e h)

-- what follows a text makes no end in it, and takes none away
pub ends_longer : (s y : List ℕ) (e : ℕ) → e ≤ length s → EndsAt s e → EndsAt (s ++ y) e
ends_longer s y e le h = ends_by_test (s ++ y) e (rw (test_append s y e le) (test_holds s e h))

pub ends_shorter : (s y : List ℕ) (e : ℕ) → e ≤ length s → EndsAt (s ++ y) e → EndsAt s e
ends_shorter s y e le h = ends_by_test s e (rw (← test_append s y e le) (test_holds (s ++ y) e h))

pub shortest : (s : List ℕ) (e : ℕ) → IsBlock s e → IsShortestBlock s e
shortest s e h = record {
  ends = h.ends;
  shortest = λ k ends. elim (cases_lt k e) [ inl lt ↦ absurd (h.first k lt ends) | inr ge ↦ ge ];
  limit = h.short;
}

pub in_front : (s : List ℕ) (e : ℕ) → IsShortestBlock s e → IsBlock s e
in_front s e h = record {
  ends = h.ends;
  first = λ k lt ends. let le = h.shortest k ends in omega (arith, le, lt);
  short = h.limit;
}
