-- What a piece does to the empty lines after the last message of a text.
use Rattle.std.proofs.Common.{◌≡◌, ℕ, zero, suc, ◌+◌, ◌-◌, ◌<◌, ◌≤◌, inl, inr, Bool, true, false, ◌&&◌, ◌||◌, if◌then◌else◌, ◌==◌, List, [], ◌∷◌, ◌++◌, length, map, drop, get_or, refl, sym, ◌∙◌, ap, arith, length-drop, length-append, add-zero, append-nil}
use Rattle.std.proofs.lemmas.Bool.{cases_lt, cases_eq, cases_Bool, lt-ltb, le-ltb, eq-eqb, ne_eqb}
use Rattle.std.proofs.lemmas.List.{drop-drop, drop_all, drop_more, length-map, map-append, get_or-append-add}
use Rattle.captures.specs.Reference.{last_of}
use Rattle.http_requests.specs.declared.messages.Message.{Message}
use Rattle.http_requests.specs.Reference.{blank_len, begins_lf}
use Rattle.http_requests.specs.Cutting.{EndBetween}
use Rattle.http_requests.proofs.FrontLemmas.{blank_le, blank_append, blank_fixed, blank_two}
use Rattle.arrivals.specs.Connections.{some_closes}
use Rattle.inspection.specs.declared.tails.Tail.{Tail}
use Rattle.inspection.specs.Figures.{end_of, bytes_begun, bytes_unfinished}
use Rattle.inspection.specs.Running.{tail_of, next_of, after_blanks, blanks_from, rest_unfinished}

-- ---- the empty lines behind a place

-- the place after them
abbrev past : ℕ → List ℕ → ℕ
past e t = e + blank_len (drop e t)

drop_both : (e : ℕ) (t p : List ℕ) → drop e (t ++ p) ≡ drop e t ++ drop (e - length t) p
drop_both zero t p = let none : 0 - length t ≡ 0 = omega arith in ap (λ n. t ++ drop n p) (sym none)
drop_both (suc e) [] p = let all : suc e - 0 ≡ suc e = omega arith in ap (λ n. drop n p) (sym all)
drop_both (suc e) (x ∷ t) p = let same : suc e - suc (length t) ≡ e - length t = omega arith in drop_both e t p ∙ ap (λ n. drop e t ++ drop n p) (sym same)

past_more : (e : ℕ) (t p : List ℕ) → past e (t ++ p) ≡ past e t + blank_len (drop (past e t) t ++ drop (e - length t) p)
past_more e t p =
    let r = drop e t in
    let f = drop (e - length t) p in
    let more : blank_len (drop e (t ++ p)) ≡ blank_len r + blank_len (drop (past e t) t ++ f) =
    ap blank_len (drop_both e t p) ∙ blank_append r f ∙ ap (λ d. blank_len r + blank_len (d ++ f)) (drop-drop (blank_len r) e t) in
    omega (arith, more)

-- no empty line begins there
none_past : (e : ℕ) (t : List ℕ) → blank_len (drop (past e t) t) ≡ 0
none_past e t = ap blank_len (sym (drop-drop (blank_len (drop e t)) e t)) ∙ blank_fixed (drop e t)

-- ---- a piece, where no message ends in it

-- the empty lines go to the end of the text
past_all : (e : ℕ) (t p : List ℕ) → length t ≤ past e t → past e (t ++ p) ≡ past e t + blank_len (drop (past e t - length t) p)
past_all e t p le =
    let none : drop (past e t) t ≡ [] = drop_all (past e t) t le in
    let same : e - length t ≡ past e t - length t = (let b = blank_le (drop e t) in let l = length-drop e t in omega (arith, b, l, le)) in
    past_more e t p ∙ (λ i. past e t + blank_len (none i ++ drop (same i) p))

-- bytes come after them
past_some : (e : ℕ) (t p : List ℕ) → past e t < length t → past e (t ++ p) ≡ past e t + blank_len (drop (past e t) t ++ p)
past_some e t p lt =
    let none : e - length t ≡ 0 = omega (arith, lt) in
    past_more e t p ∙ ap (λ n. past e t + blank_len (drop (past e t) t ++ drop n p)) none

-- one byte, the last one
last_there : (n : ℕ) (t : List ℕ) → n + 1 ≡ length t → drop n t ≡ last_of t ∷ []
last_there n t is =
    let place : n ≡ length t - 1 = omega (arith, is) in
    let none : drop (n + 1) t ≡ [] = drop_all (n + 1) t (omega (arith, is)) in
    drop_more t n 0 (omega (arith, is)) ∙ (λ i. get_or t (place i) 0 ∷ none i)

one_more : (b : ℕ) (p : List ℕ) → blank_len (b ∷ []) ≡ 0 → blank_len (b ∷ p) ≡ (if b == 13 && begins_lf p then suc (blank_len p) else 0)
one_more b p none = elim (cases_Bool (b == 10)) [
  | inl lf ↦ (let one : blank_len (b ∷ []) ≡ 1 = ap (λ x. if x || (b == 13 && begins_lf []) then suc (blank_len []) else 0) lf in absurd (omega (arith, one, none)))
  | inr other ↦ ap (λ x. if x || (b == 13 && begins_lf p) then suc (blank_len p) else 0) other
]

past_one : (e : ℕ) (t p : List ℕ) → past e t + 1 ≡ length t → past e (t ++ p) ≡ past e t + (if last_of t == 13 && begins_lf p then suc (blank_len p) else 0)
past_one e t p is =
    let one : drop (past e t) t ≡ last_of t ∷ [] = last_there (past e t) t is in
    past_some e t p (omega (arith, is)) ∙ ap (λ d. past e t + blank_len (d ++ p)) one
    ∙ ap (λ n. past e t + n) (one_more (last_of t) p (ap blank_len (sym one) ∙ none_past e t))

-- two bytes or more
past_two : (e : ℕ) (t p : List ℕ) → past e t + 2 ≤ length t → past e (t ++ p) ≡ past e t
past_two e t p le =
    let two : 2 ≤ length (drop (past e t) t) = rw (length-drop (past e t) t) (omega (arith, le)) in
    past_some e t p (omega (arith, le)) ∙ ap (λ n. past e t + n) (blank_two (drop (past e t) t) p two (none_past e t)) ∙ add-zero (past e t)

-- the place after the empty lines, from where they can go on
abbrev went_on : ℕ → List ℕ → List ℕ → ℕ
went_on e t p = after_blanks (length t) (if length t - past e t == 1 && (last_of t == 13 && begins_lf p) then length t else past e t) p

not_one : (e : ℕ) (t p : List ℕ) → (length t - past e t == 1) ≡ false → went_on e t p ≡ after_blanks (length t) (past e t) p
not_one e t p none = ap (λ x. after_blanks (length t) (if x && (last_of t == 13 && begins_lf p) then length t else past e t) p) none

from_there : (bytes from : ℕ) (p : List ℕ) → bytes ≤ from → after_blanks bytes from p ≡ from + blank_len (drop (from - bytes) p)
from_there bytes from p le = ap (λ x. if x then from else from + blank_len (drop (from - bytes) p)) (le-ltb from bytes le)

none_there : (bytes from : ℕ) (p : List ℕ) → from < bytes → after_blanks bytes from p ≡ from
none_there bytes from p lt = ap (λ x. if x then from else from + blank_len (drop (from - bytes) p)) (lt-ltb from bytes lt)

went_on_one : (e : ℕ) (t p : List ℕ) → past e t + 1 ≡ length t → past e (t ++ p) ≡ went_on e t p
went_on_one e t p is =
    let one : (length t - past e t == 1) ≡ true = eq-eqb (length t - past e t) 1 (omega (arith, is)) in
    past_one e t p is ∙ go (last_of t == 13 && begins_lf p) ∙ sym (ap (λ b. after_blanks (length t) (if b && (last_of t == 13 && begins_lf p) then length t else past e t) p) one)
  where
    go : (b : Bool) → past e t + (if b then suc (blank_len p) else 0) ≡ after_blanks (length t) (if b then length t else past e t) p
    go true =
        let none : length t - length t ≡ 0 = omega arith in
        let there : after_blanks (length t) (length t) p ≡ length t + blank_len p = from_there (length t) (length t) p (omega arith) ∙ ap (λ n. length t + blank_len (drop n p)) none in
        let more : length t + blank_len p ≡ past e t + suc (blank_len p) = omega (arith, is) in
        sym (there ∙ more)
    go false = add-zero (past e t) ∙ sym (none_there (length t) (past e t) p (omega (arith, is)))

went_on_so : (e : ℕ) (t p : List ℕ) → past e (t ++ p) ≡ went_on e t p
went_on_so e t p = elim (cases_eq (past e t + 1) (length t)) [
  | inl is ↦ went_on_one e t p is
  | inr other ↦ (let no : (length t - past e t == 1) ≡ false = ne_eqb (length t - past e t) 1 (λ is. other (omega (arith, is))) in
      elim (cases_lt (past e t) (length t)) [
        | inl lt ↦ (let two = unequal (past e t + 1) (length t) (omega (arith, lt)) other in past_two e t p (omega (arith, two))) ∙ sym (not_one e t p no ∙ none_there (length t) (past e t) p lt)
        | inr ge ↦ past_all e t p ge ∙ sym (not_one e t p no ∙ from_there (length t) (past e t) p ge)
      ])
]
  where
    unequal : (a b : ℕ) → a ≤ b → (a ≡ b → ⊥) → a + 1 ≤ b
    unequal a b le other = elim (cases_lt a b) [ inl lt ↦ omega (arith, lt) | inr ge ↦ absurd (other (omega (arith, le, ge))) ]

-- where the next message begins once a piece came
pub next_same : (t p : List ℕ) (ms : List Message) → next_of (t ++ p) ms ≡ after_blanks (length t) (blanks_from (tail_of t ms) p) p
next_same t p ms = went_on_so (end_of ms) t p

-- ---- a piece in which messages end

pub next_ended : (t p : List ℕ) (ms : List Message) → length t ≤ end_of ms → next_of (t ++ p) ms ≡ after_blanks (length t) (end_of ms) p
next_ended t p ms le =
    let none : drop (end_of ms) t ≡ [] = drop_all (end_of ms) t le in
    ap (λ d. end_of ms + blank_len d) (drop_both (end_of ms) t p ∙ ap (λ d. d ++ drop (end_of ms - length t) p) none)
    ∙ sym (from_there (length t) (end_of ms) p le)

each_late : (from to : ℕ) (ms : List Message) (k : ℕ) → EndBetween from to ms → k < length ms → from < get_or (map (λ m. m.end) ms) k 0
each_late from to [] k ends lt = absurd (omega (arith, lt))
each_late from to (m ∷ ms) zero ends lt = ends.0
each_late from to (m ∷ ms) (suc k) ends lt =
    let first = ends.0 in
    let later = each_late m.end to ms k ends.2 (omega (arith, lt)) in
    let both : from < get_or (map (λ m. m.end) ms) k 0 = omega (arith, first, later) in
    both

-- the last message of all ends in the piece
pub ends_late : (from to : ℕ) (ms more : List Message) → EndBetween from to more → 0 < length more → from ≤ end_of (ms ++ more)
ends_late from to ms more ends some =
    let F : Message → ℕ = λ m. m.end in
    let parts : map F (ms ++ more) ≡ map F ms ++ map F more = map-append F ms more in
    let a = length-map ms F in
    let b = length-map more F in
    let all = length-append (map F ms) (map F more) in
    let k = length more - 1 in
    let place : length (map F ms ++ map F more) - 1 ≡ length (map F ms) + k = omega (arith, all, b, some) in
    let late = each_late from to more k ends (omega (arith, some)) in
    let last : end_of (ms ++ more) ≡ get_or (map F more) k 0 =
    ap last_of parts ∙ ap (λ n. get_or (map F ms ++ map F more) n 0) place ∙ get_or-append-add (map F ms) (map F more) k 0 in
    omega (arith, late, last)

-- ---- what is kept of a connection

-- tells where the next message begins once a piece came, where no message ends in it
pub next_at_rest : (self : Tail) (text piece : List ℕ) (ms more : List Message) (next from : ℕ) → next ≡ after_blanks self.bytes from piece → from ≡ blanks_from self piece → length more ≡ 0
    → self ≡ tail_of text ms → next ≡ next_of (text ++ piece) (ms ++ more)
next_at_rest self text piece ms [] next from is begins none kept =
    let bytes = ap (λ t. t.bytes) kept in
    let there = begins ∙ ap (λ t. blanks_from t piece) kept in
    is ∙ (λ i. after_blanks (bytes i) (there i) piece) ∙ sym (next_same text piece ms) ∙ ap (next_of (text ++ piece)) (sym (append-nil ms))
next_at_rest self text piece ms (m ∷ more) next from is begins none kept = absurd (let no : ⊥ = omega (arith, none) in no)

-- and where messages end in it
pub next_at_end : (self : Tail) (text piece : List ℕ) (ms more : List Message) (next from : ℕ) → next ≡ after_blanks self.bytes from piece → from ≡ end_of (ms ++ more) → 0 < length more
    → self ≡ tail_of text ms → EndBetween (length text) (length text + length piece) more → next ≡ next_of (text ++ piece) (ms ++ more)
next_at_end self text piece ms more next from is begins some kept ends =
    let bytes = ap (λ t. t.bytes) kept in
    is ∙ (λ i. after_blanks (bytes i) (begins i) piece) ∙ sym (next_ended text piece (ms ++ more) (ends_late (length text) (length text + length piece) ms more ends some))

-- tells how many of its bytes are unfinished
pub unfinished_kept : (text : List ℕ) (ms : List Message) → bytes_unfinished text ms ≡ rest_unfinished (tail_of text ms)
unfinished_kept text ms = go (some_closes ms)
  where
    go : (b : Bool) → (if b then 0 else bytes_begun (drop (end_of ms) text)) ≡ (if b then 0 else length text - next_of text ms)
    go true = refl
    go false = let l = length-drop (end_of ms) text in omega (arith, l)
