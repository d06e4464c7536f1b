-- A look and a promotion, on the list of files.
use Rattle.std.proofs.Common.{◌≡◌, ℕ, ◌+◌, ◌-◌, ◌<◌, ◌≤◌, true, false, List, [], ◌∷◌, Contains, length, take, nat_eq, zero, suc, refl, sym, ap, ◌∙◌, arith, Option, Some, None, IfSome, inl, inr, ◌⊎◌, if◌then◌else◌}
use Rattle.std.specs.List.{IsDistinct, AllByRecursion}
use Rattle.std.specs.Option.{option_map, is_some}
use Rattle.std.specs.Map.{keys_of, lookup, lookup_entry, remove_entry}
use Rattle.std.proofs.lemmas.Bool.Decides.{eqb_tells}
use Rattle.std.proofs.lemmas.List.Sums.{sum_by-cons}
use Rattle.std.proofs.lemmas.Map.Entries.{length-keys_of}
use Rattle.std.proofs.lemmas.Map.Steps.{length-le_from_distinct_below}
use Rattle.lru.specs.LruCache.{LruCache, lru_cache, promoted, put_entries}
use Rattle.lru.proofs.CallerLemmas.{Contains-lookup, Contains-promoted}
use Rattle.paths.specs.declared.file.File.{File}
use Rattle.page_cache.specs.Pages.{page_size}
use Rattle.page_cache.specs.CacheLists.{has, without, to_front, found, sizes}
use Rattle.page_cache.specs.CacheLists.{IsCache}

pub keys-without : {X : Type 0} (k : ℕ) (es : List (ℕ × X)) → keys_of (remove_entry (nat_eq k) es) ≡ without k (keys_of es)
unfolding without
keys-without k [] = refl
keys-without k (e ∷ es) = elim (eqb_tells k e.0) [
  | inl at ↦ rw at.0 refl
  | inr away ↦ rw away.0 (ap (λ xs. e.0 ∷ xs) (keys-without k es))
]

-- either there is no entry at k, or there is one and its key is k
pub by_entry : {X : Type 0} (k : ℕ) (es : List (ℕ × X))
    → ((lookup_entry (nat_eq k) es ≡ None) × (lookup (nat_eq k) es ≡ None) × (has k (keys_of es) ≡ false))
    ⊎ ((v : X) × (lookup_entry (nat_eq k) es ≡ Some (k, v)) × (lookup (nat_eq k) es ≡ Some v) × (has k (keys_of es) ≡ true))
by_entry k [] = inl (refl, refl, refl)
by_entry k (e ∷ es) = elim (eqb_tells k e.0) [
  | inl at ↦ inr (e.1, rw (at.0, at.1) refl, rw at.0 refl, rw at.0 refl)
  | inr away ↦ rw away.0 (by_entry k es)
]

pub keys-promoted : {X : Type 0} (k : ℕ) (es : List (ℕ × X)) → keys_of (promoted (nat_eq k) es) ≡ to_front k (keys_of es)
keys-promoted k es = elim (by_entry k es) [
  | inl none ↦ rw (none.0, none.2) refl
  | inr one ↦ rw (one.1, one.3) (ap (λ xs. k ∷ xs) (keys-without k es))
]

pub sizes-without : (files : List File) (k : ℕ) (xs : List ℕ) → has k xs ≡ true → page_size files k + sizes files (without k xs) ≡ sizes files xs
unfolding without
sizes-without files k [] h = cc
sizes-without files k (x ∷ xs) h = elim (eqb_tells k x) [
  | inl at ↦ rw (at.0, at.1) (sym (sum_by-cons (page_size files) x xs))
  | inr away ↦ let there : has k xs ≡ true = rw away.0 at h in rw away.0 (omega (arith, sizes-without files k xs there, sum_by-cons (page_size files) x xs, sum_by-cons (page_size files) x (without k xs)))
]

pub sizes-to_front : (files : List File) (k : ℕ) (xs : List ℕ) → sizes files (to_front k xs) ≡ sizes files xs
sizes-to_front files k xs = (elim (has k xs) as (λ y. has k xs ≡ y → sizes files (if y then k ∷ without k xs else xs) ≡ sizes files xs) [
  | true ↦ λ t. sum_by-cons (page_size files) k (without k xs) ∙ sizes-without files k xs t
  | false ↦ λ t. refl
]) refl

-- what a look-up gives is the page of that file
pub found_is : {X : Type 0} (f : X → ℕ) (k : ℕ) (es : List (ℕ × X)) → ((e : ℕ × X) → Contains es e → f e.1 ≡ e.0) → option_map f (lookup (nat_eq k) es) ≡ found k (keys_of es)
found_is f k es keyed = elim (by_entry k es) [
  | inl none ↦ rw (none.1, none.2) refl
  | inr one ↦ let c = Contains-lookup (nat_eq k) es one.0 one.2 in rw (one.2, one.3) (ap Some (keyed (c.0, one.0) c.1 ∙ sym (elim (eqb_tells k c.0) [
    | inl at ↦ at.1
    | inr away ↦ cc
  ])))
]

-- a file that a look-up finds is there
pub there_is : {X : Type 0} (k : ℕ) (es : List (ℕ × X)) (v : X) → lookup (nat_eq k) es ≡ Some v → has k (keys_of es) ≡ true
there_is k es v found = elim (by_entry k es) [
  | inl none ↦ cc
  | inr one ↦ one.3
]

-- a look-up finds one just where the file is there
pub found_there : {X : Type 0} (k : ℕ) (es : List (ℕ × X)) → is_some (lookup (nat_eq k) es) ≡ has k (keys_of es)
found_there k es = elim (by_entry k es) [
  | inl none ↦ rw (none.1, none.2) refl
  | inr one ↦ rw (one.2, one.3) refl
]

-- and of no other, whatever is there
pub found_own : {X : Type 0} (f : X → ℕ) (k : ℕ) (list : List ℕ) (page : Option X) → option_map f page ≡ found k list → IfSome page (λ p. f p ≡ k)
found_own f k list None is = tt
found_own f k list (Some p) is = (elim (has k list) as (λ y. Some (f p) ≡ (if y then Some k else None) → f p ≡ k) [
  | true ↦ λ same. cc
  | false ↦ λ same. cc
]) is

-- a promotion keeps what a cache keeps
pub IsCache-promoted : {X : Type 0} (files : List File) (f : X → ℕ) (m : LruCache ℕ X) (bytes limit k : ℕ) → IsCache files f m bytes limit → IsCache files f (lru_cache (promoted (nat_eq k) m.entries) m.cap) bytes limit
IsCache-promoted files f m bytes limit k is = record {
  keyed = λ e c. is.keyed e (Contains-promoted (nat_eq k) m.entries e c);
  there = λ e c. is.there e (Contains-promoted (nat_eq k) m.entries e c);
  sum = is.sum ∙ sym (ap (sizes files) (keys-promoted k m.entries) ∙ sizes-to_front files k (keys_of m.entries));
  within = is.within;
  capacity = is.capacity;
}

-- where a file isn't there, a promotion changes nothing
pub promoted_none : {X : Type 0} (k : ℕ) (es : List (ℕ × X)) → has k (keys_of es) ≡ false → promoted (nat_eq k) es ≡ es
promoted_none k es h = elim (by_entry k es) [
  | inl none ↦ rw none.0 refl
  | inr one ↦ absurd (cc)
]

take_all : {X : Type 0} (n : ℕ) (xs : List X) → length xs ≤ n → take n xs ≡ xs
take_all zero [] h = refl
take_all zero (x ∷ xs) h = absurd (omega (arith, h))
take_all (suc n) [] h = refl
take_all (suc n) (x ∷ xs) h = ap (λ ys. x ∷ ys) (take_all n xs (omega (arith, h)))

-- a new page in a list that isn't full goes before all that were there
pub put_new : {X : Type 0} (k : ℕ) (v : X) (m : LruCache ℕ X) → has k (keys_of m.entries) ≡ false → length m.entries < m.cap → put_entries nat_eq m k v ≡ (k, v) ∷ m.entries
put_new k v m new capacity = elim (by_entry k m.entries) [
  | inl none ↦ rw none.0 (ap (λ es. (k, v) ∷ es) (take_all (m.cap - 1) m.entries (omega (arith, capacity))))
  | inr one ↦ absurd (cc)
]

apart : (k : ℕ) (xs : List ℕ) → has k xs ≡ false → AllByRecursion (λ y. nat_eq k y ≡ false) xs
apart k [] h = tt
apart k (x ∷ xs) h = elim (eqb_tells k x) [
  | inl at ↦ absurd (let same = rw at.0 at h in cc)
  | inr away ↦ (away.0, apart k xs (rw away.0 at h))
]

-- a file that isn't there leaves room for its page
pub room_for_new : {X : Type 0} (k n : ℕ) (es : List (ℕ × X)) → IsDistinct nat_eq (keys_of es) → ((e : ℕ × X) → Contains es e → e.0 < n) → has k (keys_of es) ≡ false → k < n → length es < n
unfolding IsDistinct
room_for_new k n es distinct there new below =
    let all = length-le_from_distinct_below (k ∷ keys_of es) n (apart k (keys_of es) new, distinct) (λ q h. elim (eqb_tells q k) [
      | inl at ↦ rw at.1 below
      | inr away ↦ below_of q (rw away.0 at h)
    ]) in omega (arith, all, length-keys_of es)
  where
    below_of : (q : ℕ) → has q (keys_of es) ≡ true → q < n
    below_of q h = elim (by_entry q es) [
      | inl none ↦ absurd (cc)
      | inr one ↦ let c = Contains-lookup (nat_eq q) es one.0 one.2 in elim (eqb_tells q c.0) [
        | inl at ↦ rw at.1 (there (c.0, one.0) c.1)
        | inr away ↦ absurd (cc)
      ]
    ]
