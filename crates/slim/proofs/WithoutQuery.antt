-- A target without its query asks for the same, is still a target, and is no longer.
use Rattle.std.proofs.Common.{◌≡◌, ℕ, suc, ◌+◌, ◌<◌, ◌≤◌, ◌==◌, ◌&&◌, ◌||◌, not, inl, inr, Bool, true, false, cond, List, [], ◌∷◌, length, take, drop, map, get_or, codes, bytes_eq, nat_eq, IsUtf8, Some, None, refl, sym, ap, ◌∙◌, arith}
use Rattle.std.specs.Option.{option_map}
use Rattle.std.specs.Char.{to_ascii_lowercase}
use Rattle.std.specs.List.{list_any, list_all, before_first, position_or_len, starts_with}
use Rattle.std.proofs.lemmas.Bool.{cases_Bool}
use Rattle.std.proofs.lemmas.Bool.Decides.{eqb_tells, leb_tells}
use Rattle.std.proofs.lemmas.List.Sums.{passes_at_first, prefix_len-le-length}
use Rattle.std.proofs.lemmas.List.Elements.{All-head, All-tail, All-cons, All-nil}
use Rattle.std.proofs.lemmas.Str.{IsUtf8-take, IsCharBoundary-before_ascii, IsCharBoundary-end}
use Rattle.httparse.specs.Grammar.{AllPass, is_uri_byte}
use Rattle.paths.specs.Reference.{after_authority, asked, asked_by, is_authority_end, is_known, is_served, path_of}
use Rattle.paths.specs.declared.target.Asked.TheVariants.{NotAllowed, NotKnown}
use Rattle.slim.specs.Targets.{without_query}
use Rattle.slim.proofs.Values.{both, passes}

-- ---- what stands before the query, by recursion

abbrev front : List ℕ → List ℕ
front [] = []
front (b ∷ xs) = cond (b == 63) [] (b ∷ front xs)

front_is : (xs : List ℕ) → before_first (λ b. b == 63) xs ≡ front xs
front_is [] = refl
front_is (b ∷ xs) = elim (cases_Bool (b == 63)) [
  | inl is ↦ rw is refl
  | inr isnt ↦ (let n = position_or_len (λ b. b == 63) xs in let e : 1 + n ≡ suc n = omega arith in
      rw isnt (ap (λ k. take k (b ∷ xs)) e ∙ ap (λ l. b ∷ l) (front_is xs)))
]

front_twice : (xs : List ℕ) → front (front xs) ≡ front xs
front_twice [] = refl
front_twice (b ∷ xs) = elim (cases_Bool (b == 63)) [
  | inl is ↦ rw is refl
  | inr isnt ↦ rw (isnt, isnt) (ap (λ l. b ∷ l) (front_twice xs))
]

other_first : (b c : Bool) → (b || c) ≡ false → (b ≡ false) × (c ≡ false)
other_first true c h = absurd cc
other_first false c h = (refl, h)

front_no_hash : (xs : List ℕ) → list_any (λ b. b == 35) xs ≡ false → list_any (λ b. b == 35) (front xs) ≡ false
front_no_hash [] h = refl
front_no_hash (b ∷ xs) h =
    let parts = other_first (b == 35) (list_any (λ b. b == 35) xs) h in
    elim (cases_Bool (b == 63)) [
      | inl is ↦ rw is refl
      | inr isnt ↦ rw (isnt, parts.0) (front_no_hash xs parts.1)
    ]

-- ---- the scheme

abbrev begins : List ℕ → List ℕ → Bool
begins xs word = bytes_eq (map to_ascii_lowercase (take (length word) xs)) word

-- a word without a question mark
abbrev no_mark : List ℕ → Bool
no_mark word = list_all (λ b. not (b == 63)) word

equal : (a b : ℕ) → (a == b) ≡ true → a ≡ b
equal a b is = elim (eqb_tells a b) [
  | inl same ↦ same.1
  | inr other ↦ absurd (let z = sym is ∙ other.0 in let w : ⊥ = cc in w)
]

lower_mark : (b : ℕ) → (b == 63) ≡ true → to_ascii_lowercase b ≡ 63
lower_mark b is = let e : b ≡ 63 = (equal b 63 is) in rw e refl

front_begins : (word xs : List ℕ) → no_mark word ≡ true → begins (front xs) word ≡ begins xs word
front_begins [] xs h = refl
front_begins (c ∷ word) [] h = refl
front_begins (c ∷ word) (b ∷ xs) h =
    let parts = both (not (c == 63)) (no_mark word) h in
    elim (cases_Bool (b == 63)) [
      | inl is ↦ (let mark : b ≡ 63 = equal b 63 is in rw mark (sym (apart c parts.0 (bytes_eq (map to_ascii_lowercase (take (length word) xs)) word))))
      | inr isnt ↦ rw isnt (ap (λ r. nat_eq (to_ascii_lowercase b) c && r) (front_begins word xs parts.1))
    ]
  where
    apart : (c : ℕ) → not (c == 63) ≡ true → (r : Bool) → nat_eq 63 c && r ≡ false
    apart c h r = elim (eqb_tells 63 c) [
      | inl same ↦ absurd (let z = rw (← same.1) at h in let w : ⊥ = cc in w)
      | inr other ↦ ap (λ e. e && r) other.0
    ]

front_drop : (word xs : List ℕ) → no_mark word ≡ true → begins xs word ≡ true → drop (length word) (front xs) ≡ front (drop (length word) xs)
front_drop [] xs h is = refl
front_drop (c ∷ word) [] h is = absurd cc
front_drop (c ∷ word) (b ∷ xs) h is =
    let parts = both (not (c == 63)) (no_mark word) h in
    let same = both (nat_eq (to_ascii_lowercase b) c) (begins xs word) is in
    elim (cases_Bool (b == 63)) [
      | inl mark ↦ (let low : to_ascii_lowercase b ≡ 63 = lower_mark b mark in
          let c_is : c ≡ 63 = sym (equal (to_ascii_lowercase b) c same.0) ∙ low in
          absurd (let z = rw c_is at parts.0 in let w : ⊥ = cc in w))
      | inr isnt ↦ rw isnt (front_drop word xs parts.1 same.1)
    ]

-- ---- the authority

end_front : (xs : List ℕ) → position_or_len is_authority_end (front xs) ≡ position_or_len is_authority_end xs
end_front [] = refl
end_front (b ∷ xs) = elim (cases_Bool (b == 63)) [
  | inl is ↦ (let mark : b ≡ 63 = equal b 63 is in rw mark refl)
  | inr isnt ↦ rw (isnt, isnt) (ap (λ n. cond (not (b == 47 || false)) (1 + n) 0) (end_front xs))
]

front_after : (xs : List ℕ) → front (drop (position_or_len is_authority_end xs) (front xs)) ≡ front (drop (position_or_len is_authority_end xs) xs)
front_after [] = refl
front_after (b ∷ xs) = elim (cases_Bool (b == 63)) [
  | inl is ↦ (let mark : b ≡ 63 = equal b 63 is in rw mark refl)
  | inr isnt ↦ elim (cases_Bool (b == 47)) [
    | inl slash ↦ (let mark : b ≡ 47 = equal b 47 slash in rw mark (front_twice (47 ∷ xs)))
    | inr other ↦ (let n = position_or_len is_authority_end xs in let e : 1 + n ≡ suc n = omega arith in
        rw (isnt, other) (rw e (front_after xs)))
  ]
]

-- ---- the path

first_other : (b : ℕ) (xs : List ℕ) → starts_with nat_eq (b ∷ xs) (codes "?") ≡ false → (b == 63) ≡ false
first_other b xs k = elim (eqb_tells b 63) [
  | inl same ↦ absurd (let z = rw same.1 at k in let w : ⊥ = cc in w)
  | inr other ↦ other.0
]

first_mark : (b : ℕ) (xs : List ℕ) → starts_with nat_eq (b ∷ xs) (codes "?") ≡ true → b ≡ 63
first_mark b xs k = elim (eqb_tells 63 b) [
  | inl same ↦ sym same.1
  | inr other ↦ absurd (let z = rw other.0 at k in let w : ⊥ = cc in w)
]

-- no target
abbrev is_none : List ℕ → Bool
is_none t = list_any (λ b. b == 35) t || starts_with nat_eq t (codes "?")

none_is : (t : List ℕ) → is_none t ≡ true → without_query t ≡ codes "#"
none_is t h = rw h refl

some_is : (t : List ℕ) → is_none t ≡ false → without_query t ≡ front t
some_is t h = rw h (front_is t)

path_none : (t : List ℕ) → is_none t ≡ true → path_of t ≡ None
path_none t h = elim (cases_Bool (list_any (λ b. b == 35) t)) [
  | inl hash ↦ rw hash refl
  | inr none ↦ rw none (marked t (rw none at h))
]
  where
    marked : (t : List ℕ) → starts_with nat_eq t (codes "?") ≡ true
        → cond (starts_with nat_eq t (codes "/")) (Some (before_first (λ b. b == 63) t))
        (cond (begins t (codes "http://")) (option_map (before_first (λ b. b == 63)) (after_authority (drop 7 t))) None) ≡ None
    marked [] mark = absurd cc
    marked (b ∷ xs) mark = let is : b ≡ 63 = first_mark b xs mark in rw is refl

-- the path of an absolute form
authority_front : (r : List ℕ) → option_map (before_first (λ b. b == 63)) (after_authority (front r)) ≡ option_map (before_first (λ b. b == 63)) (after_authority r)
authority_front r = elim (cases_Bool (position_or_len is_authority_end r == 0)) [
  | inl none ↦ rw (end_front r, none) refl
  | inr some ↦ rw (end_front r, some)
      (ap Some (front_is (drop (position_or_len is_authority_end r) (front r)) ∙ front_after r ∙ sym (front_is (drop (position_or_len is_authority_end r) r))))
]

path_front : (t : List ℕ) → list_any (λ b. b == 35) t ≡ false → starts_with nat_eq t (codes "?") ≡ false → path_of (front t) ≡ path_of t
path_front [] h k = refl
path_front (b ∷ xs) h k =
    let isnt : (b == 63) ≡ false = first_other b xs k in
    let hashless : list_any (λ b. b == 35) (front (b ∷ xs)) ≡ false = front_no_hash (b ∷ xs) h in
    let whole : front (b ∷ xs) ≡ b ∷ front xs = rw isnt refl in
    let own : list_any (λ b. b == 35) (b ∷ front xs) ≡ false = rw whole at hashless in
    let scheme : begins (b ∷ front xs) (codes "http://") ≡ begins (b ∷ xs) (codes "http://") = rw whole at (front_begins (codes "http://") (b ∷ xs) refl) in
    ap path_of whole ∙ go (nat_eq 47 b) (begins (b ∷ xs) (codes "http://")) refl refl own scheme whole
  where
    go : (slash absolute : Bool) → nat_eq 47 b ≡ slash → begins (b ∷ xs) (codes "http://") ≡ absolute → list_any (λ b. b == 35) (b ∷ front xs) ≡ false
        → begins (b ∷ front xs) (codes "http://") ≡ begins (b ∷ xs) (codes "http://") → front (b ∷ xs) ≡ b ∷ front xs → path_of (b ∷ front xs) ≡ path_of (b ∷ xs)
    go true absolute e f own scheme whole = rw (own, h, e) (ap Some (ap (before_first (λ b. b == 63)) (sym whole) ∙ front_is (front (b ∷ xs)) ∙ front_twice (b ∷ xs) ∙ sym (front_is (b ∷ xs))))
    go false true e f own scheme whole =
        let dropped : drop 7 (b ∷ front xs) ≡ front (drop 7 (b ∷ xs)) = rw whole at (front_drop (codes "http://") (b ∷ xs) refl f) in
        rw (own, h, e, scheme, f) (ap (λ r. option_map (before_first (λ b. b == 63)) (after_authority r)) dropped ∙ authority_front (drop 7 (b ∷ xs)))
    go false false e f own scheme whole = rw (own, h, e, scheme, f) refl

pub path_same : (t : List ℕ) → path_of (without_query t) ≡ path_of t
path_same t = elim (cases_Bool (is_none t)) [
  | inl none ↦ ap path_of (none_is t none) ∙ sym (path_none t none)
  | inr some ↦ (let parts = other_first (list_any (λ b. b == 35) t) (starts_with nat_eq t (codes "?")) some in ap path_of (some_is t some) ∙ path_front t parts.0 parts.1)
]

pub asks_the_same : (method target : List ℕ) → asked method (without_query target) ≡ asked method target
asks_the_same method target = ap (λ p. cond (is_served method) (asked_by p) (cond (is_known method) NotAllowed NotKnown)) (path_same target)

-- ---- it is a target

hash_target : AllPass is_uri_byte (codes "#")
hash_target = passes is_uri_byte (codes "#") refl

hash_text : IsUtf8 (codes "#")
unfolding lib.Utf8.encode
hash_text = (35 ∷ [], (refl, refl))

pub still_a_target : (t : List ℕ) → 0 < length t → AllPass is_uri_byte t → IsUtf8 t
    → ((0 < length (without_query t)) × AllPass is_uri_byte (without_query t)) × IsUtf8 (without_query t)
still_a_target t some all text = elim (cases_Bool (is_none t)) [
  | inl none ↦ rw (none_is t none) ((omega arith, hash_target), hash_text)
  | inr good ↦ rw (some_is t good) ((first t some good, front_all t all), rw (← front_is t) (cut_text t text))
]
  where
    first : (t : List ℕ) → 0 < length t → is_none t ≡ false → 0 < length (front t)
    first [] some good = some
    first (b ∷ xs) some good =
        let parts = other_first (list_any (λ b. b == 35) (b ∷ xs)) (starts_with nat_eq (b ∷ xs) (codes "?")) good in
        rw (first_other b xs parts.1) (omega arith)

    cut_text : (t : List ℕ) → IsUtf8 t → IsUtf8 (before_first (λ b. b == 63) t)
    cut_text t text =
        let n = position_or_len (λ b. b == 63) t in
        let le = prefix_len-le-length (λ b. not (b == 63)) t in
        elim (leb_tells (length t) n) [
          | inr lt ↦ (let mark : get_or t n 0 ≡ 63 = equal (get_or t n 0) 63 (passes_at_first (λ b. b == 63) t 0 lt.1) in
              IsUtf8-take t n text (IsCharBoundary-before_ascii t n lt.1 (rw mark (omega arith))))
          | inl past ↦ (let end : n ≡ length t = (let p = past.1 in omega (arith, le, p)) in
              rw end (IsUtf8-take t (length t) text (IsCharBoundary-end t)))
        ]

    front_all : (t : List ℕ) → AllPass is_uri_byte t → AllPass is_uri_byte (front t)
    front_all [] all = all
    front_all (b ∷ xs) all = elim (cases_Bool (b == 63)) [
      | inl is ↦ rw is (All-nil (λ b. is_uri_byte b ≡ true))
      | inr isnt ↦ rw isnt (All-cons (λ b. is_uri_byte b ≡ true) b (front xs) (All-head (λ b. is_uri_byte b ≡ true) b xs all) (front_all xs (All-tail (λ b. is_uri_byte b ≡ true) b xs all)))
    ]

pub no_longer : (t : List ℕ) → length (without_query t) ≤ length t
no_longer [] = omega arith
no_longer (b ∷ xs) = elim (cases_Bool (is_none (b ∷ xs))) [
  | inl none ↦ rw (none_is (b ∷ xs) none) (omega arith)
  | inr good ↦ rw (some_is (b ∷ xs) good) (shorter (b ∷ xs))
]
  where
    shorter : (xs : List ℕ) → length (front xs) ≤ length xs
    shorter [] = omega arith
    shorter (b ∷ xs) = let rest = shorter xs in elim (cases_Bool (b == 63)) [
      | inl is ↦ rw is (omega arith)
      | inr isnt ↦ rw isnt (omega (arith, rest))
    ]

-- ---- it has no query

pub without_twice : (t : List ℕ) → without_query (without_query t) ≡ without_query t
without_twice t = elim (cases_Bool (is_none t)) [
  | inl none ↦ ap without_query (none_is t none) ∙ sym (none_is t none)
  | inr good ↦ ap without_query (some_is t good) ∙ some_is (front t) (still_some t good) ∙ front_twice t ∙ sym (some_is t good)
]
  where
    still_some : (t : List ℕ) → is_none t ≡ false → is_none (front t) ≡ false
    still_some [] good = refl
    still_some (b ∷ xs) good =
        let parts = other_first (list_any (λ b. b == 35) (b ∷ xs)) (starts_with nat_eq (b ∷ xs) (codes "?")) good in
        let hashless : list_any (λ b. b == 35) (front (b ∷ xs)) ≡ false = front_no_hash (b ∷ xs) parts.0 in
        let whole : front (b ∷ xs) ≡ b ∷ front xs = rw (first_other b xs parts.1) refl in
        rw hashless (ap (λ (f : List ℕ). starts_with nat_eq f (codes "?")) whole ∙ parts.1)

front_no_mark : (xs : List ℕ) → list_any (λ b. b == 63) (front xs) ≡ false
front_no_mark [] = refl
front_no_mark (b ∷ xs) = elim (cases_Bool (b == 63)) [
  | inl is ↦ rw is refl
  | inr isnt ↦ rw (isnt, isnt) (front_no_mark xs)
]

pub gone : (t : List ℕ) → list_any (λ b. b == 63) (without_query t) ≡ false
gone t = elim (cases_Bool (is_none t)) [
  | inl none ↦ ap (list_any (λ b. b == 63)) (none_is t none)
  | inr good ↦ ap (list_any (λ b. b == 63)) (some_is t good) ∙ front_no_mark t
]
