use Rattle.std.proofs.Common.{◌≡◌, ℕ, zero, suc, ◌+◌, ◌-◌, ◌<◌, ◌≤◌, ◌⊎◌, inl, inr, Bool, true, false, nat_lt, ◌&&◌, ◌||◌, if◌then◌else◌, ◌==◌, IsTrue, List, [], ◌∷◌, ◌++◌, length, take, drop, slice_index, refl, sym, ◌∙◌, ap, arith, length-append, length-drop, drop-cons, add-one, zero-add, add-zero}
use Rattle.std.proofs.lemmas.List.{take-append-le, drop-append-le}
use Rattle.std.proofs.lemmas.Grind.{common_steps}
use Rattle.std.proofs.lemmas.Bool.{cases_lt}
use Rattle.http_requests.specs.declared.messages.Meaning.{Meaning}
use Rattle.http_requests.specs.Reference.{begins_lf, is_blank, blank_len, NoBlock, IsBlock, IsWhole, IsOver, IsNext}
use Rattle.http_requests.proofs.VerdictLemmas.{verdict_unique}
use Rattle.http_requests.proofs.EndLaws.{ends_within, ends_longer, ends_shorter}

pub begins_append : (b : ℕ) (r y : List ℕ) → IsTrue (is_blank b r) → IsTrue (is_blank b (r ++ y))
begins_append b [] y h = grind arith
begins_append b (c ∷ r) y h = h

pub blank_le : (r : List ℕ) → blank_len r ≤ length r
blank_le [] = omega arith
blank_le (b ∷ r) = elim (is_blank b r) as (λ t. (if t then suc (blank_len r) else 0) ≤ suc (length r)) [ true ↦ let h = blank_le r in omega arith | false ↦ omega arith ]

pub begins_at : (s : List ℕ) (j : ℕ) → begins_lf (drop j s) ≡ (nat_lt j (length s) && (slice_index s j == 10))
begins_at [] j = grind (arith, common_steps)
begins_at (b ∷ s) zero = grind (arith, common_steps)
begins_at (b ∷ s) (suc j) = grind (arith, common_steps, begins_at s j)

pub blank_at : (s : List ℕ) (i : ℕ) → i < length s
    → blank_len (drop i s) ≡ (if slice_index s i == 10 || (slice_index s i == 13 && (nat_lt (i + 1) (length s) && slice_index s (i + 1) == 10)) then suc (blank_len (drop (i + 1) s)) else 0)
blank_at s i h = rw (add-one i, drop-cons s i 0 h, begins_at s (suc i)) refl

pub bool_cases : (b : Bool) → (b ≡ true) ⊎ (b ≡ false)
bool_cases true = inl refl
bool_cases false = inr refl

blank_cons : (b : ℕ) (r : List ℕ) → is_blank b r ≡ true → blank_len (b ∷ r) ≡ suc (blank_len r)
blank_cons b r h = rw h refl

blank_none : (b : ℕ) (r : List ℕ) → is_blank b r ≡ false → blank_len (b ∷ r) ≡ 0
blank_none b r h = rw h refl

pub blank_fixed : (r : List ℕ) → blank_len (drop (blank_len r) r) ≡ 0
blank_fixed [] = refl
blank_fixed (b ∷ r) = elim (bool_cases (is_blank b r)) [ inl h ↦ rw (blank_cons b r h) (blank_fixed r) | inr h ↦ rw (blank_none b r h) (blank_none b r h) ]

-- the empty lines of a longer text: those of the text, and those of what is left of it and the rest
pub blank_append : (r y : List ℕ) → blank_len (r ++ y) ≡ blank_len r + blank_len (drop (blank_len r) r ++ y)
blank_append [] y = sym (zero-add (blank_len y))
blank_append (b ∷ r) y = elim (bool_cases (is_blank b r)) [
  | inl h ↦ (let t : IsTrue (is_blank b (r ++ y)) = begins_append b r y (grind (arith, h)) in
      let t2 : is_blank b (r ++ y) ≡ true = grind (arith, t) in
      rw (blank_cons b r h, blank_cons b (r ++ y) t2, blank_append r y) (omega arith))
  | inr h ↦ rw (blank_none b r h) (sym (zero-add _))
]

pub blank_two : (s y : List ℕ) → 2 ≤ length s → blank_len s ≡ 0 → blank_len (s ++ y) ≡ 0
blank_two [] y h k = absurd (omega arith)
blank_two (a ∷ []) y h k = absurd (omega arith)
blank_two (a ∷ b ∷ s) y h k = elim (bool_cases (is_blank a (b ∷ s))) [ inl t ↦ (let e = sym (blank_cons a (b ∷ s) t) ∙ k in absurd (omega arith)) | inr t ↦ blank_none a (b ∷ s ++ y) t ]

-- what begins no empty line begins none without the bytes at its end either, where two are left
pub blank_front : (s y : List ℕ) → 2 ≤ length s → blank_len (s ++ y) ≡ 0 → blank_len s ≡ 0
blank_front [] y h k = absurd (omega arith)
blank_front (a ∷ []) y h k = absurd (omega arith)
blank_front (a ∷ b ∷ s) y h k = elim (bool_cases (is_blank a (b ∷ s))) [
  | inl t ↦ (let e = sym (blank_cons a (b ∷ s ++ y) t) ∙ k in absurd (omega arith))
  | inr t ↦ blank_none a (b ∷ s) t
]

-- where two more bytes follow the empty lines, nothing that follows lengthens them
pub blank_kept : (r y : List ℕ) → blank_len r + 2 ≤ length r → blank_len (r ++ y) ≡ blank_len r
blank_kept r y h =
    let two : 2 ≤ length (drop (blank_len r) r) = rw (length-drop (blank_len r) r) (omega arith) in
    blank_append r y ∙ ap (λ n. blank_len r + n) (blank_two _ y two (blank_fixed r)) ∙ add-zero (blank_len r)

pub front_kept : (r y : List ℕ) → drop (blank_len r) (r ++ y) ≡ drop (blank_len r) r ++ y
front_kept r y = drop-append-le (blank_len r) r y (blank_le r)

pub block_append : (s y : List ℕ) (e : ℕ) → IsBlock s e → IsBlock (s ++ y) e
block_append s y e h =
    let w = ends_within s e h.ends in
    record {
      ends = ends_longer s y e w.1 h.ends;
      first = λ k below ends. h.first k below (ends_shorter s y k (omega arith) ends);
      short = h.short;
    }

pub noblock_append : (s y : List ℕ) → 8192 ≤ length s → NoBlock s → NoBlock (s ++ y)
noblock_append s y h none = λ e short ends. none e short (ends_shorter s y e (omega arith) ends)

pub block_unique : (s : List ℕ) (e f : ℕ) → IsBlock s e → IsBlock s f → e ≡ f
block_unique s e f g h = elim (cases_lt e f) [ inl lt ↦ absurd (h.first e lt g.ends) | inr ge ↦ elim (cases_lt f e) [ inl gt ↦ absurd (g.first f gt h.ends) | inr le ↦ omega arith ] ]

pub whole_unique : (s : List ℕ) (v w : Meaning) (k j : ℕ) → IsWhole s v k → IsWhole s w j → (v ≡ w) × (k ≡ j)
whole_unique s v w k j g h =
    let e = block_unique s g.e h.e g.block h.block in
    let same : g.verdict ≡ h.verdict = verdict_unique (take h.e s) g.verdict h.verdict (rw (← e) g.says) h.says in
    (g.what_is ∙ ap (λ x. x.what) same ∙ sym h.what_is, g.k_is ∙ (let n = ap (λ x. x.length) same in omega arith))

pub front_unique : (s : List ℕ) (v w : Meaning) (k j : ℕ) → (IsWhole s v k ⊎ IsOver s v k) → (IsWhole s w j ⊎ IsOver s w j) → (v ≡ w) × (k ≡ j)
front_unique s v w k j (inl g) (inl h) = whole_unique s v w k j g h
front_unique s v w k j (inl g) (inr h) = absurd (h.none g.e g.block.short g.block.ends)
front_unique s v w k j (inr g) (inl h) = absurd (g.none h.e h.block.short h.block.ends)
front_unique s v w k j (inr g) (inr h) = (g.what_is ∙ sym h.what_is, g.k_is ∙ sym h.k_is)

pub next_unique : (r : List ℕ) (v w : Meaning) (k j : ℕ) → IsNext r v k → IsNext r w j → (v ≡ w) × (k ≡ j)
next_unique r v w k j g h =
    let u = front_unique _ v w g.j h.j g.front h.front in
    (u.0, g.k_is ∙ ap (λ n. blank_len r + n) u.1 ∙ sym h.k_is)

front_within : (s : List ℕ) (w : Meaning) (k : ℕ) → (IsWhole s w k ⊎ IsOver s w k) → (2 ≤ k) × (k ≤ length s)
front_within s w k (inl h) = let e = ends_within s h.e h.block.ends in (let a = h.k_is in omega (arith, e.0, a), h.within)
front_within s w k (inr h) = let a = h.k_is in let b = h.within in (omega (arith, a), omega (arith, a, b))

front_append : (s y : List ℕ) (w : Meaning) (k : ℕ) → (IsWhole s w k ⊎ IsOver s w k) → (IsWhole (s ++ y) w k ⊎ IsOver (s ++ y) w k)
front_append s y w k (inl h) =
    let e = ends_within s h.e h.block.ends in
    inl (record {
      e = h.e;
      verdict = h.verdict;
      block = block_append s y h.e h.block;
      says = rw (take-append-le h.e s y e.1) h.says;
      what_is = h.what_is;
      k_is = h.k_is;
      within = (let a = h.within in rw (length-append s y) (omega (arith, a)));
    })
front_append s y w k (inr h) = inr (record {
  none = noblock_append s y h.within h.none;
  what_is = h.what_is;
  k_is = h.k_is;
  within = (let a = h.within in rw (length-append s y) (omega (arith, a)));
})

pub next_within : (r : List ℕ) (w : Meaning) (k : ℕ) → IsNext r w k → (0 < k) × (k ≤ length r) × (blank_len r + 2 ≤ length r)
next_within r w k h =
    let f = front_within _ w h.j h.front in
    let l = blank_le r in
    let m : h.j ≤ length r - blank_len r = rw (← length-drop (blank_len r) r) f.1 in
    let i = h.k_is in
    (omega (arith, i, f.0), omega (arith, i, m, l), omega (arith, f.0, m, l))

pub next_append : (r y : List ℕ) (w : Meaning) (k : ℕ) → IsNext r w k → IsNext (r ++ y) w k
next_append r y w k h =
    let i = next_within r w k h in
    record {
      j = h.j;
      k_is = rw (blank_kept r y i.2) h.k_is;
      front = rw (blank_kept r y i.2, front_kept r y) (front_append _ y w h.j h.front);
    }
