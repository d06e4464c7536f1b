-- A map that counts samples.
use Rattle.std.proofs.Common.{◌≡◌, ℕ, zero, suc, ◌+◌, ◌<◌, ◌≤◌, List, [], ◌∷◌, ◌++◌, true, false, refl, sym, ◌∙◌, ap, arith, inl, inr, Some, add-one, Less, Equal, Greater}
use Rattle.std.specs.Prelude.{replicate}
use Rattle.std.specs.List.Sorted.{IsStrictlySortedBy}
use Rattle.std.specs.Ordering.{nat_cmp}
use Rattle.std.specs.Map.{keys_of, lookup, remove_entry, set_value}
use Rattle.std.specs.BTreeMap.{insert_entry, is_at}
use Rattle.std.proofs.lemmas.Bool.{cases_order, cases_eq}
use Rattle.std.specs.Cmp.{nat_cmp_is}
use Rattle.std.proofs.lemmas.Cmp.{nat_cmp_total}
use Rattle.std.proofs.lemmas.Map.{lookup-none}
use Rattle.std.proofs.lemmas.Map.Entries.{none_below_head}
use Rattle.std.proofs.lemmas.Map.Keys.{sorted_tail}
use Rattle.admission.specs.Reference.{insert_sorted}
use Rattle.admission.specs.Tally.{remove_one, expanded, AllCounted, count_in}
use Rattle.admission.proofs.SortLemmas.{insert-none, insert-front, insert-past, remove-none, remove-here, remove-past}

-- ---- past a run of smaller samples

insert-replicate : (x k c : ℕ) (ys : List ℕ) → k < x → insert_sorted x (replicate c k ++ ys) ≡ replicate c k ++ insert_sorted x ys
insert-replicate x k zero ys below = refl
insert-replicate x k (suc c) ys below =
    insert-past x k (replicate c k ++ ys) below ∙ ap (λ (s : List ℕ). k ∷ s) (insert-replicate x k c ys below)

remove-replicate : (x k c : ℕ) (ys : List ℕ) → (x ≡ k → ⊥) → remove_one x (replicate c k ++ ys) ≡ replicate c k ++ remove_one x ys
remove-replicate x k zero ys apart = refl
remove-replicate x k (suc c) ys apart =
    remove-past x k (replicate c k ++ ys) apart ∙ ap (λ (s : List ℕ). k ∷ s) (remove-replicate x k c ys apart)

-- ---- the order of the keys

less : (x k : ℕ) → x < k → nat_cmp x k ≡ Less
less x k lt = sym (nat_cmp_is x k Less lt)

equal : (x k : ℕ) → x ≡ k → nat_cmp x k ≡ Equal
equal x k same = sym (nat_cmp_is x k Equal same)

greater : (x k : ℕ) → k < x → nat_cmp x k ≡ Greater
greater x k gt = sym (nat_cmp_is x k Greater gt)

lookup-here : (x k c : ℕ) (entries : List (ℕ × ℕ)) → x ≡ k → lookup (is_at (nat_cmp x)) ((k, c) ∷ entries) ≡ Some c
lookup-here x k c entries same = rw (equal x k same) refl

lookup-above : (x k c : ℕ) (entries : List (ℕ × ℕ)) → k < x
    → lookup (is_at (nat_cmp x)) ((k, c) ∷ entries) ≡ lookup (is_at (nat_cmp x)) entries
lookup-above x k c entries gt = rw (greater x k gt) refl

lookup-below : (x k c : ℕ) (entries : List (ℕ × ℕ)) → x < k
    → lookup (is_at (nat_cmp x)) ((k, c) ∷ entries) ≡ lookup (is_at (nat_cmp x)) entries
lookup-below x k c entries lt = rw (less x k lt) refl

insert_entry-here : (x k c n : ℕ) (entries : List (ℕ × ℕ)) → x ≡ k
    → insert_entry nat_cmp ((k, c) ∷ entries) x n ≡ (k, n) ∷ entries
insert_entry-here x k c n entries same = rw (equal x k same) refl

insert_entry-above : (x k c n : ℕ) (entries : List (ℕ × ℕ)) → k < x
    → insert_entry nat_cmp ((k, c) ∷ entries) x n ≡ (k, c) ∷ insert_entry nat_cmp entries x n
insert_entry-above x k c n entries gt = rw (greater x k gt) refl

insert_entry-below : (x k c n : ℕ) (entries : List (ℕ × ℕ)) → x < k
    → insert_entry nat_cmp ((k, c) ∷ entries) x n ≡ (x, n) ∷ (k, c) ∷ entries
insert_entry-below x k c n entries lt = rw (less x k lt) refl

-- a sample below the first key is not counted
count-below : (x k c : ℕ) (entries : List (ℕ × ℕ)) → IsStrictlySortedBy nat_cmp (keys_of ((k, c) ∷ entries))
    → x < k → count_in ((k, c) ∷ entries) x ≡ 0
unfolding count_in
count-below x k c entries ordered below =
    rw (lookup-none (is_at (nat_cmp x)) ((k, c) ∷ entries) (none_below_head nat_cmp_total x (k, c) entries ordered (less x k below))) refl

pub count-here : (x k c : ℕ) (entries : List (ℕ × ℕ)) → x ≡ k → count_in ((k, c) ∷ entries) x ≡ c
unfolding count_in
count-here x k c entries same = rw (lookup-here x k c entries same) refl

count-above : (x k c : ℕ) (entries : List (ℕ × ℕ)) → k < x → count_in ((k, c) ∷ entries) x ≡ count_in entries x
unfolding count_in
count-above x k c entries gt = rw (lookup-above x k c entries gt) refl

-- ---- one more

pub expanded-cons : (k c : ℕ) (entries : List (ℕ × ℕ)) → expanded ((k, c) ∷ entries) ≡ replicate c k ++ expanded entries
unfolding expanded
expanded-cons k c entries = refl

expanded-none : expanded [] ≡ []
unfolding expanded
expanded-none = refl

pub count-none : (x : ℕ) → count_in [] x ≡ 0
unfolding count_in
count-none x = refl

-- one more of the least sample
insert-least : (x c : ℕ) (ys : List ℕ) → 0 < c → insert_sorted x (replicate c x ++ ys) ≡ x ∷ (replicate c x ++ ys)
insert-least x zero ys some = absurd (omega arith)
insert-least x (suc c) ys some = insert-front x x (replicate c x ++ ys) (omega arith)

insert-lower : (x k c : ℕ) (ys : List ℕ) → x < k → 0 < c → insert_sorted x (replicate c k ++ ys) ≡ x ∷ (replicate c k ++ ys)
insert-lower x k zero ys below some = absurd (omega arith)
insert-lower x k (suc c) ys below some = insert-front x k (replicate c k ++ ys) (omega arith)

replicate-more : (c x : ℕ) → replicate (c + 1) x ≡ x ∷ replicate c x
replicate-more c x = rw add-one refl

-- counting a sample once more inserts it
pub expanded-insert : (x : ℕ) (entries : List (ℕ × ℕ)) → IsStrictlySortedBy nat_cmp (keys_of entries) → AllCounted entries
    → expanded (insert_entry nat_cmp entries x (count_in entries x + 1)) ≡ insert_sorted x (expanded entries)
unfolding AllCounted
expanded-insert x [] ordered counted = rw (count-none x, expanded-cons x 1 [], expanded-none, insert-none x) refl
expanded-insert x ((k, c) ∷ entries) ordered counted =
    elim (cases_order x k) [
      | inl same ↦
          rw (
            count-here x k c entries same,
            insert_entry-here x k c (c + 1) entries same,
            expanded-cons k (c + 1) entries,
            expanded-cons k c entries,
            same,
            insert-least k c (expanded entries) counted.0,
            replicate-more c k,
          ) refl
      | inr apart ↦ elim apart [
        | inl lt ↦
            rw (
              count-below x k c entries ordered lt,
              insert_entry-below x k c 1 entries lt,
              expanded-cons x 1 ((k, c) ∷ entries),
              expanded-cons k c entries,
              insert-lower x k c (expanded entries) lt counted.0,
            ) refl
        | inr gt ↦
            rw (
              count-above x k c entries gt,
              insert_entry-above x k c (count_in entries x + 1) entries gt,
              expanded-cons k c (insert_entry nat_cmp entries x (count_in entries x + 1)),
              expanded-cons k c entries,
              expanded-insert x entries (sorted_tail nat_cmp k (keys_of entries) ordered) counted.1,
              insert-replicate x k c (expanded entries) gt,
            ) refl
      ]
    ]

pub counted-insert : (x c : ℕ) (entries : List (ℕ × ℕ)) → AllCounted entries → 0 < c → AllCounted (insert_entry nat_cmp entries x c)
unfolding AllCounted
counted-insert x c [] counted some = (some, tt)
counted-insert x c ((k, n) ∷ entries) counted some =
    elim (cases_order x k) [
      | inl same ↦ rw (insert_entry-here x k n c entries same) (some, counted.1)
      | inr apart ↦ elim apart [
        | inl lt ↦ rw (insert_entry-below x k n c entries lt) (some, counted)
        | inr gt ↦ rw (insert_entry-above x k n c entries gt) (counted.0, counted-insert x c entries counted.1 some)
      ]
    ]

-- ---- one less

-- at a key of its own or not: what a look-up, a write and a removal do at the first entry
at_key : (x k : ℕ) → x ≡ k → is_at (nat_cmp x) k ≡ true
at_key x k same = rw (equal x k same) refl

off_key : (x k : ℕ) → (x ≡ k → ⊥) → is_at (nat_cmp x) k ≡ false
off_key x k apart =
    elim (cases_order x k) [
      | inl same ↦ absurd (apart same)
      | inr sides ↦ elim sides [ inl lt ↦ rw (less x k lt) refl | inr gt ↦ rw (greater x k gt) refl ]
    ]

pub count-off : (x k c : ℕ) (entries : List (ℕ × ℕ)) → (x ≡ k → ⊥) → count_in ((k, c) ∷ entries) x ≡ count_in entries x
unfolding count_in
count-off x k c entries apart = rw (off_key x k apart) refl

remove-run : (x c : ℕ) (ys : List ℕ) → remove_one x (replicate (suc c) x ++ ys) ≡ replicate c x ++ ys
remove-run x c ys = remove-here x (replicate c x ++ ys)

-- counting a sample once less takes it out
pub expanded-lower : (x c : ℕ) (entries : List (ℕ × ℕ)) → count_in entries x ≡ suc c → 0 < c
    → expanded (set_value (is_at (nat_cmp x)) entries c) ≡ remove_one x (expanded entries)
expanded-lower x c [] is some = absurd (let none : 0 ≡ suc c = sym (count-none x) ∙ is in omega arith)
expanded-lower x c ((k, n) ∷ entries) is some =
    elim (cases_eq x k) [
      | inl same ↦
          let all : n ≡ suc c = sym (count-here x k n entries same) ∙ is in
          rw (at_key x k same, expanded-cons k c entries, expanded-cons k n entries, all, same, remove-run k c (expanded entries)) refl
      | inr apart ↦
          rw (
            off_key x k apart,
            expanded-cons k n (set_value (is_at (nat_cmp x)) entries c),
            expanded-cons k n entries,
            remove-replicate x k n (expanded entries) apart,
            expanded-lower x c entries (sym (count-off x k n entries apart) ∙ is) some,
          ) refl
    ]

-- so does taking its entry away, where it is counted once
pub expanded-remove : (x : ℕ) (entries : List (ℕ × ℕ)) → AllCounted entries → count_in entries x ≤ 1
    → expanded (remove_entry (is_at (nat_cmp x)) entries) ≡ remove_one x (expanded entries)
unfolding AllCounted
expanded-remove x [] counted few = rw (expanded-none, remove-none x) refl
expanded-remove x ((k, n) ∷ entries) counted few =
    elim (cases_eq x k) [
      | inl same ↦
          let once : n ≡ 1 = omega (arith, counted.0, count-here x k n entries same) in
          rw (at_key x k same, expanded-cons k n entries, once, same, remove-here k (expanded entries)) refl
      | inr apart ↦
          rw (
            off_key x k apart,
            expanded-cons k n (remove_entry (is_at (nat_cmp x)) entries),
            expanded-cons k n entries,
            remove-replicate x k n (expanded entries) apart,
            expanded-remove x entries counted.1 (omega (arith, count-off x k n entries apart)),
          ) refl
    ]

pub counted-lower : (x c : ℕ) (entries : List (ℕ × ℕ)) → AllCounted entries → 0 < c → AllCounted (set_value (is_at (nat_cmp x)) entries c)
unfolding AllCounted
counted-lower x c [] counted some = tt
counted-lower x c ((k, n) ∷ entries) counted some =
    elim (cases_eq x k) [
      | inl same ↦ rw (at_key x k same) (some, counted.1)
      | inr apart ↦ rw (off_key x k apart) (counted.0, counted-lower x c entries counted.1 some)
    ]

pub counted-remove : (x : ℕ) (entries : List (ℕ × ℕ)) → AllCounted entries → AllCounted (remove_entry (is_at (nat_cmp x)) entries)
unfolding AllCounted
counted-remove x [] counted = tt
counted-remove x ((k, n) ∷ entries) counted =
    elim (cases_eq x k) [
      | inl same ↦ rw (at_key x k same) counted.1
      | inr apart ↦ rw (off_key x k apart) (counted.0, counted-remove x entries counted.1)
    ]
