-- The least recently used pages go until the others fit.
use Rattle.std.proofs.Common.{◌≡◌, ℕ, ◌-◌, ◌<◌, ◌≤◌, nat_le, true, false, List, [], ◌∷◌, ◌++◌, length, take, slice_get, refl, sym, ap, ◌∙◌, subst, arith, rules, Option, Some, None, if◌then◌else◌}
use Rattle.std.specs.Map.{keys_of}
use Rattle.std.proofs.lemmas.List.Sums.{sum_by-cons, sum_by_push}
use Rattle.std.proofs.lemmas.List.{map-append}
use Rattle.lru.specs.LruCache.{last_entry}
use Rattle.lru.proofs.Pairs.{last_of_push}
use Rattle.lru.proofs.Splits.{cut_last, last_from, cons_head, cons_tail}
use Rattle.paths.specs.declared.file.File.{File}
use Rattle.page_cache.specs.Pages.{page_size}
use Rattle.page_cache.specs.CacheLists.{sizes, fitting}

abbrev last_of : {X : Type 0} → List X → Option X
last_of xs = slice_get xs (length xs - 1)

abbrev without_last : {X : Type 0} → List X → List X
without_last xs = take (length xs - 1) xs

-- where all fit, all stay
pub fitting_all : (files : List File) (capacity : ℕ) (xs : List ℕ) → sizes files xs ≤ capacity → fitting files capacity xs ≡ xs
unfolding fitting
fitting_all files capacity [] h = refl
fitting_all files capacity (x ∷ xs) h =
    let split = sum_by-cons (page_size files) x xs in
    let here : nat_le (page_size files x) capacity ≡ true = search (rules, split) in
    rw here (ap (λ ys. x ∷ ys) (fitting_all files (capacity - page_size files x) xs (omega (arith, h, split))))

-- where all don't fit, the last doesn't stay
pub fitting_push : (files : List File) (capacity : ℕ) (xs : List ℕ) (x : ℕ) → capacity < sizes files (xs ++ x ∷ []) → fitting files capacity (xs ++ x ∷ []) ≡ fitting files capacity xs
unfolding fitting
fitting_push files capacity [] x h =
    let here : nat_le (page_size files x) capacity ≡ false = search rules in
    rw here refl
fitting_push files capacity (y ∷ ys) x h = (elim (nat_le (page_size files y) capacity) as (λ b. nat_le (page_size files y) capacity ≡ b → (if b then y ∷ fitting files (capacity - page_size files y) (ys ++ x ∷ []) else []) ≡ (if b then y ∷ fitting files (capacity - page_size files y) ys else [])) [
  | true ↦ λ t. let inside : page_size files y ≤ capacity = search rules in ap (λ zs. y ∷ zs) (fitting_push files (capacity - page_size files y) ys x (omega (arith, h, inside, sum_by-cons (page_size files) y (ys ++ x ∷ []))))
  | false ↦ λ t. refl
]) refl

-- The new page stands in front; the others have n bytes, and what of them will fit is what of the old ones did.
pub record Evicts {X : Type 0} (files : List File) (file capacity : ℕ) (old : List ℕ) (es : List (ℕ × X)) (bytes : ℕ) : Type 0 where
  pub others : List ℕ
  pub shape : keys_of es ≡ file ∷ others
  pub sum : bytes ≡ sizes files others
  pub same : fitting files capacity others ≡ fitting files capacity old

-- a list that isn't empty is what stands before its last element, and that element
ending : {X : Type 0} (x : X) (xs : List X) → (before : List X) × (last : X) × (x ∷ xs ≡ before ++ last ∷ []) × (last_of (x ∷ xs) ≡ Some last) × (without_last (x ∷ xs) ≡ before)
ending x xs =
    let on = cut_last x xs in
    let last = last_from x xs in
    let read = subst (λ ys. (last_of ys ≡ Some last) × (without_last ys ≡ on.0)) (sym on.1) (last_of_push on.0 last) in
    (on.0, last, on.1, read.0, read.1)

-- a list whose last element is read, parted there
parted : {X : Type 0} (es : List X) (e : X) → last_of es ≡ Some e → (before : List X) × (es ≡ before ++ e ∷ []) × (without_last es ≡ before)
parted [] e h = cc
parted (x ∷ xs) e h =
    let at = ending x xs in
    let same : at.1 ≡ e = cc in
    (at.0, subst (λ z. x ∷ xs ≡ at.0 ++ z ∷ []) same at.2, at.4)

-- a step: the last page goes, which isn't the new one
abbrev Steps : {X : Type 0} (files : List File) (file capacity : ℕ) (old : List ℕ) (es : List (ℕ × X)) (bytes gone : ℕ) → Type 0
Steps files file capacity old es bytes gone = (page_size files gone ≤ bytes) × Evicts files file capacity old es (bytes - page_size files gone)

evict_push : {X : Type 0} (files : List File) (file capacity : ℕ) (old : List ℕ) (es : List (ℕ × X)) (e : ℕ × X) (bytes : ℕ) → Evicts files file capacity old (es ++ e ∷ []) bytes → capacity < bytes → Steps files file capacity old es bytes e.0
evict_push files file capacity old [] e bytes is full =
    let none : is.others ≡ [] = sym (cons_tail _ _ _ _ is.shape) in
    let nothing : bytes ≡ 0 = is.sum ∙ ap (sizes files) none in
    absurd (omega (arith, nothing, full))
evict_push files file capacity old (d ∷ ds) e bytes is full =
    let first : d.0 ≡ file = cons_head _ _ _ _ is.shape in
    let others : is.others ≡ keys_of ds ++ e.0 ∷ [] = sym (cons_tail _ _ _ _ is.shape) ∙ map-append (λ (x : ℕ × _). x.0) ds (e ∷ []) in
    let sum : bytes ≡ sizes files (keys_of ds ++ e.0 ∷ []) = is.sum ∙ ap (sizes files) others in
    let parts = sum_by_push (page_size files) (keys_of ds) e.0 in (
      omega (arith, sum, parts),
      record {
        others = keys_of ds;
        shape = ap (λ k. k ∷ keys_of ds) first;
        sum = omega (arith, sum, parts);
        same = sym (fitting_push files capacity (keys_of ds) e.0 (omega (arith, sum, full))) ∙ sym (ap (fitting files capacity) others) ∙ is.same;
      },
    )

pub evict : {X : Type 0} (files : List File) (file capacity : ℕ) (old : List ℕ) (es : List (ℕ × X)) (e : ℕ × X) (bytes : ℕ) → Evicts files file capacity old es bytes → capacity < bytes → last_entry es ≡ Some e
    → (page_size files e.0 ≤ bytes) × Evicts files file capacity old (take (length es - 1) es) (bytes - page_size files e.0)
evict files file capacity old es e bytes is full last =
    let cut = parted es e last in
    rw cut.2 (evict_push files file capacity old cut.0 e bytes (subst (λ xs. Evicts files file capacity old xs bytes) cut.1 is) full)

-- the new page is there to the end
pub evict_none : {X : Type 0} (files : List File) (file capacity : ℕ) (old : List ℕ) (es : List (ℕ × X)) (bytes : ℕ) → Evicts files file capacity old es bytes → last_entry es ≡ None → ⊥
evict_none files file capacity old [] bytes is last = cc
evict_none files file capacity old (x ∷ xs) bytes is last = let at = ending x xs in cc
