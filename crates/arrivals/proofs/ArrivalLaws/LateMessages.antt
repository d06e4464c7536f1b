-- The first message that a text lacks of those of a longer one ends after the text.
use Rattle.std.proofs.Common.{◌≡◌, ℕ, suc, ◌+◌, ◌<◌, ◌≤◌, ◌⊎◌, inl, inr, Bool, true, false, List, [], ◌∷◌, ◌++◌, length, drop, refl, ap, ◌∙◌, arith, length-drop}
use Rattle.std.specs.Prelude.{MatchBool}
use Rattle.std.proofs.lemmas.Bool.{cases_lt}
use Rattle.std.proofs.lemmas.List.{length-append, take-append-le, drop-append-le}
use Rattle.http_requests.specs.declared.messages.Message.{Message}
use Rattle.http_requests.specs.declared.messages.Meaning.{Meaning}
use Rattle.http_requests.specs.Reference.{blank_len, IsWhole, IsOver, IsNext, Messages, closes}
use Rattle.http_requests.proofs.FrontLemmas.{blank_append, blank_kept, front_kept, next_within}
use Rattle.http_requests.proofs.EndLaws.{ends_within, ends_longer, ends_shorter}

-- a message takes two bytes at least
front_two : (s : List ℕ) (w : Meaning) (k : ℕ) → (IsWhole s w k ⊎ IsOver s w k) → 2 ≤ k
front_two s w k (inl h) = let e = ends_within s h.e h.block.ends in let a = h.k_is in omega (arith, e.0, a)
front_two s w k (inr h) = let a = h.k_is in omega (arith, a)

-- the message at the front of a text stands there without the bytes after it
front_shorter : (s y : List ℕ) (w : Meaning) (k : ℕ) → k ≤ length s → (IsWhole (s ++ y) w k ⊎ IsOver (s ++ y) w k) → (IsWhole s w k ⊎ IsOver s w k)
front_shorter s y w k le (inl h) =
    let is = h.k_is in
    let e : h.e ≤ length s = omega (arith, is, le) in
    inl (record {
      e = h.e;
      verdict = h.verdict;
      block = record {
        ends = ends_shorter s y h.e e h.block.ends;
        first = λ i below ends. h.block.first i below (ends_longer s y i (omega (arith, below, e)) ends);
        short = h.block.short;
      };
      says = rw (← take-append-le h.e s y e) h.says;
      what_is = h.what_is;
      k_is = h.k_is;
      within = le;
    })
front_shorter s y w k le (inr h) =
    let is = h.k_is in
    inr (record {
      none = λ e short ends. h.none e short (ends_longer s y e (omega (arith, is, le, short)) ends);
      what_is = h.what_is;
      k_is = h.k_is;
      within = omega (arith, is, le);
    })

-- nor does the message after the empty lines need them
pub next_shorter : (r y : List ℕ) (w : Meaning) (k : ℕ) → k ≤ length r → IsNext (r ++ y) w k → IsNext r w k
next_shorter r y w k le h =
    let is = h.k_is in
    let two = front_two _ w h.j h.front in
    let more = blank_append r y in
    let same : blank_len (r ++ y) ≡ blank_len r = blank_kept r y (omega (arith, is, two, more, le)) in
    let rest : h.j ≤ length (drop (blank_len r) r) = rw (length-drop (blank_len r) r) (omega (arith, is, same, le)) in
    record {
      j = h.j;
      k_is = is ∙ ap (λ n. n + h.j) same;
      front = front_shorter (drop (blank_len r) r) y w h.j rest (rw (← front_kept r y, ← same) h.front);
    }

-- the first of these messages ends after the place n
abbrev pub IsLate : ℕ → List Message → Type 0
IsLate n [] = Unit {0}
IsLate n (m ∷ ms) = n < m.end

-- the step after a first message, which closes or doesn't
late_after : (b : Bool) (p k l : ℕ) (r s y : List ℕ) (ms more : List Message) → k ≡ l → k ≤ length r → s ≡ r ++ y
    → (Messages (p + k) (drop k r) ms → Messages (p + k) (drop k r ++ y) (ms ++ more) → IsLate (p + k + length (drop k r)) more)
    → MatchBool b (ms ≡ []) (Messages (p + k) (drop k r) ms) → MatchBool b (ms ++ more ≡ []) (Messages (p + l) (drop l s) (ms ++ more)) → IsLate (p + length r) more
late_after b p k l r s y ms [] kl le sy u g h = tt
late_after true p k l r s y ms (n ∷ more) kl le sy u g h =
    let e : suc (length ms + length more) ≡ 0 = omega (arith, length-append ms (n ∷ more), ap (λ l. length l) h) in absurd (omega (arith, e))
late_after false p k l r s y ms (n ∷ more) kl le sy u g h =
    let t : drop k (r ++ y) ≡ drop k r ++ y = drop-append-le k r y le in
    let late = u g (rw (← t, ← sy, kl) h) in
    let d = length-drop k r in
    omega (arith, late, d, le)

-- the messages that a text lacks begin with one that ends after it
pub messages_late : (p : ℕ) (r y : List ℕ) (ms more : List Message) → Messages p r ms → Messages p (r ++ y) (ms ++ more) → IsLate (p + length r) more
messages_late p r y [] [] g h = tt
messages_late p r y [] (n ∷ more) g h = elim (cases_lt (length r) h.0) [
  | inl lt ↦ (let e = h.2 in omega (arith, e, lt))
  | inr le ↦ absurd (g n.what h.0 (next_shorter r y n.what h.0 le h.1))
]
messages_late p r y (m ∷ ms) more g h =
    let a = g.2 in
    let b = h.2 in
    let u = next_within r m.what g.0 g.1 in
    late_after (closes m.what) p g.0 h.0 r (r ++ y) y ms more (omega (arith, a, b)) u.1 refl (messages_late (p + g.0) (drop g.0 r) y ms more) g.3 h.3
