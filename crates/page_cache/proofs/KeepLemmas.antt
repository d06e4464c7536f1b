-- A keep, step by step: a new page is put in front, pages go from the end, and the rest is what the list keeps.
use Rattle.std.proofs.Common.{◌≡◌, ℕ, ◌+◌, ◌-◌, ◌<◌, ◌≤◌, Bool, false, List, ◌∷◌, Contains, length, take, nat_eq, refl, sym, ap, ◌∙◌, subst, arith, Some, inl, inr}
use Rattle.std.specs.Option.{is_some}
use Rattle.std.specs.Map.{keys_of, lookup}
use Rattle.std.proofs.lemmas.List.Sums.{sum_by-cons}
use Rattle.std.proofs.lemmas.Map.Made.{is_some-lookup}
use Rattle.std.proofs.lemmas.Option.{slice_get_within, get_or_from_slice_get}
use Rattle.lru.specs.LruCache.{LruCache, lru_cache, promoted, put_entries, last_entry}
use Rattle.lru.proofs.CallerLemmas.{Contains-take}
use Rattle.lru.proofs.Splits.{Contains-cons}
use Rattle.paths.specs.declared.file.File.{File}
use Rattle.page_cache.specs.Pages.{page_size}
use Rattle.page_cache.specs.CacheLists.{CacheList, has, sizes, fitting, kept}
use Rattle.page_cache.specs.CacheLists.{IsCache}
use Rattle.page_cache.proofs.CacheLemmas.{promoted_none, put_new}
use Rattle.page_cache.proofs.EvictLemmas.{Evicts, evict, fitting_all}

-- the list, the limit and the table's capacity that the fields stand for
abbrev pub listed : {X : Type 0} → LruCache ℕ X → ℕ → CacheList
listed pages limit = record { pages = keys_of pages.entries; limit = limit; table = pages.cap }

-- what a promotion answers
pub has_from_promote : {X : Type 0} (k : ℕ) (pages : LruCache ℕ X) (r answer : Bool) → r ≡ is_some (lookup (nat_eq k) pages.entries) → r ≡ answer → has k (keys_of pages.entries) ≡ answer
has_from_promote k pages r answer value is = sym (is_some-lookup (nat_eq k) pages.entries) ∙ sym value ∙ is

-- where the page isn't there, it changes nothing
pub unpromoted : {X : Type 0} (k : ℕ) (pages new : LruCache ℕ X) (r : Bool) → r ≡ is_some (lookup (nat_eq k) pages.entries) → r ≡ false → new ≡ lru_cache (promoted (nat_eq k) pages.entries) pages.cap → new ≡ pages
unpromoted k pages new r value none entries =
    entries ∙ ap (λ es. lru_cache es pages.cap) (promoted_none k pages.entries (has_from_promote k pages r false value none))

-- While pages go, each page stands under its file's number, the new one in front.
pub record Keeps {X : Type 0} (files : List File) (file_in : X → ℕ) (old : CacheList) (file size : ℕ) (pages : LruCache ℕ X) (bytes limit : ℕ) : Type 0 where
  pub keyed : (e : ℕ × X) → Contains pages.entries e → file_in e.1 ≡ e.0
  pub there : (e : ℕ × X) → Contains pages.entries e → e.0 < length files
  pub list : Evicts files file (old.limit - size) old.pages pages.entries bytes
  pub capacity : length files ≤ pages.cap
  pub same : limit ≡ old.limit
  pub table : pages.cap ≡ old.table

-- the new page is put in front
pub put_keeps : {X : Type 0} (files : List File) (f : X → ℕ) (k size : ℕ) (v : X) (pages new : LruCache ℕ X) (bytes limit : ℕ)
    → IsCache files f pages bytes limit → f v ≡ k → k < length files → has k (keys_of pages.entries) ≡ false → length pages.entries < pages.cap
    → new ≡ lru_cache (put_entries nat_eq pages k v) pages.cap → Keeps files f (listed pages limit) k size new bytes limit
put_keeps files f k size v pages new bytes limit is key below none capacity put =
    let front : new ≡ lru_cache ((k, v) ∷ pages.entries) pages.cap = put ∙ ap (λ es. lru_cache es pages.cap) (put_new k v pages none capacity) in
    subst (λ m. Keeps files f (listed pages limit) k size m bytes limit) (sym front) (record {
      keyed = λ e c. elim (Contains-cons (k, v) pages.entries e c) [
        | inl same ↦ sym (ap (λ p. f p.1) same) ∙ key ∙ ap (λ p. p.0) same
        | inr old ↦ is.keyed e old
      ];
      there = λ e c. elim (Contains-cons (k, v) pages.entries e c) [
        | inl same ↦ subst (λ p. p.0 < length files) same below
        | inr old ↦ is.there e old
      ];
      list = record { others = keys_of pages.entries; shape = refl; sum = is.sum; same = refl };
      capacity = is.capacity;
      same = refl;
      table = refl;
    })

-- the last page goes, which stands under its file's number
pub pop_keeps : {X : Type 0} (files : List File) (f : X → ℕ) (old : CacheList) (k size : ℕ) (pages new : LruCache ℕ X) (bytes limit : ℕ) (e : ℕ × X)
    → Keeps files f old k size pages bytes limit → old.limit - size < bytes → last_entry pages.entries ≡ Some e → new ≡ lru_cache (take (length pages.entries - 1) pages.entries) pages.cap
    → (f e.1 ≡ e.0) × (page_size files e.0 ≤ bytes) × Keeps files f old k size new (bytes - page_size files e.0) limit
pop_keeps files f old k size pages new bytes limit e is full last popped =
    let step = evict files k (old.limit - size) old.pages pages.entries e bytes is.list full last in
    let at : Contains pages.entries e = (length pages.entries - 1, slice_get_within pages.entries (length pages.entries - 1) e last, get_or_from_slice_get pages.entries (length pages.entries - 1) e e last) in (
      is.keyed e at,
      step.0,
      subst (λ m. Keeps files f old k size m (bytes - page_size files e.0) limit) (sym popped) (record {
        keyed = λ d c. is.keyed d (Contains-take (length pages.entries - 1) pages.entries d c);
        there = λ d c. is.there d (Contains-take (length pages.entries - 1) pages.entries d c);
        list = step.1;
        capacity = is.capacity;
        same = is.same;
        table = is.table;
      }),
    )

-- at the end the others fit, and so all do
pub keeps_all : {X : Type 0} (files : List File) (f : X → ℕ) (old : CacheList) (k size : ℕ) (pages : LruCache ℕ X) (bytes limit : ℕ)
    → Keeps files f old k size pages bytes limit → bytes ≤ old.limit - size → size ≡ page_size files k → size ≤ old.limit → IsCache files f pages (bytes + size) limit
keeps_all files f old k size pages bytes limit is fit own small = record {
  keyed = is.keyed;
  there = is.there;
  sum =
      let split : sizes files (k ∷ is.list.others) ≡ page_size files k + sizes files is.list.others = sum_by-cons (page_size files) k is.list.others in
      let all : sizes files (keys_of pages.entries) ≡ sizes files (k ∷ is.list.others) = ap (sizes files) is.list.shape in
      omega (arith, all, split, own, is.list.sum);
  within = omega (arith, is.same, fit, small);
  capacity = is.capacity;
}

pub keeps_list : {X : Type 0} (files : List File) (f : X → ℕ) (old : CacheList) (k size : ℕ) (pages : LruCache ℕ X) (bytes limit : ℕ)
    → Keeps files f old k size pages bytes limit → bytes ≤ old.limit - size → size ≡ page_size files k → has k old.pages ≡ false → listed pages limit ≡ kept files k old
keeps_list files f old k size pages bytes limit is fit own none =
    let all = fitting_all files (old.limit - size) is.list.others (omega (arith, fit, is.list.sum)) in
    let rest : is.list.others ≡ fitting files (old.limit - page_size files k) old.pages = sym all ∙ is.list.same ∙ ap (λ n. fitting files (old.limit - n) old.pages) own in
    rw (is.list.shape, rest, is.same, is.table, none) refl
