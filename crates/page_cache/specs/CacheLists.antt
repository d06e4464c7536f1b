-- The pages of a cache as a list, what each call does to it, what a cache keeps at all times, and what the definitions
-- mean.
use Rattle.std.specs.Prelude.{◌≡◌, ℕ, ◌-◌, ◌<◌, ◌≤◌, Bool, List, [], ◌∷◌, Option, Some, None, nat_eq, nat_le}
use Rattle.std.specs.Prelude.{if◌then◌else◌, false, length, Contains, take}
use Rattle.std.specs.List.{list_any, sum_by}
use Rattle.paths.specs.declared.file.File.{File}
use Rattle.page_cache.specs.Pages.{page_size}
use Rattle.page_cache.specs.declared.cache.Keeping.{Keeping}
use Rattle.page_cache.specs.declared.cache.Keeping.TheVariants.{TooBig, Kept, NoMemory}
use Rattle.std.specs.Map.{keys_of}
use Rattle.lru.specs.LruCache.{LruCache}

-- the pages that are there, by the numbers of their files and the most recently used first, how many bytes they may
-- have together, and for how many of them the table has room
pub record CacheList : Type 0 where
  pub pages : List ℕ
  pub limit : ℕ
  pub table : ℕ

-- whether the page of a file is there
abbrev pub has : ℕ → List ℕ → Bool
has file list = list_any (nat_eq file) list

-- the list without a file, which stands in it once
unfoldable pub without : ℕ → List ℕ → List ℕ
without file [] = []
without file (x ∷ list) = if nat_eq file x then list else x ∷ without file list

-- a file that is there, brought to the front
abbrev pub to_front : ℕ → List ℕ → List ℕ
to_front file list = if has file list then file ∷ without file list else list

-- how many bytes the pages of a list have together
abbrev pub sizes : List File → List ℕ → ℕ
sizes files list = sum_by (page_size files) list

-- the longest prefix of a list whose pages fit into the room
unfoldable pub fitting : List File → ℕ → List ℕ → List ℕ
fitting files capacity [] = []
fitting files capacity (x ∷ list) = if nat_le (page_size files x) capacity then x
    ∷ fitting files (capacity - page_size files x) list else []

-- what a look finds, and what it leaves
abbrev pub found : ℕ → List ℕ → Option ℕ
found file list = if has file list then Some file else None

abbrev pub looked : ℕ → CacheList → CacheList
looked file old = record { pages = to_front file old.pages; limit = old.limit; table = old.table }

-- A page that is there becomes the first. A new one is put first, and of the others stays the longest prefix that fits
-- beside it: the least recently used go.
abbrev pub kept : List File → ℕ → CacheList → CacheList
kept files file old = record {
  pages = if has file old.pages then to_front file old.pages else file
      ∷ fitting files (old.limit - page_size files file) old.pages;
  limit = old.limit;
  table = old.table;
}

-- what a keep answers, and what it leaves
abbrev pub KeptAs : List File → ℕ → CacheList → CacheList → Keeping → Type 0
KeptAs files file old new TooBig = (old.limit < page_size files file) × (new ≡ old)
KeptAs files file old new Kept = (page_size files file ≤ old.limit) × (new ≡ kept files file old)
KeptAs files file old new NoMemory = (page_size files file ≤ old.limit) × (has file old.pages ≡ false) × (new ≡ old)

-- Of each page, what `file_in` says is its file: it stands under its file's number. The bytes are the sum of the sizes,
-- and within the limit; there is room for a page of each file.
pub record IsCache {Page : Type 0} (files : List File) (file_in : Page → ℕ) (pages : LruCache ℕ Page)
    (bytes limit : ℕ) : Type 0 where
  pub keyed : (e : ℕ × Page) → Contains pages.entries e → file_in e.1 ≡ e.0
  pub there : (e : ℕ × Page) → Contains pages.entries e → e.0 < length files
  pub sum : bytes ≡ sizes files (keys_of pages.entries)
  pub within : bytes ≤ limit
  pub capacity : length files ≤ pages.cap

-- it is a prefix of the list, its pages fit, and those of no longer prefix do
pub record IsLongest (files : List File) (capacity : ℕ) (list kept : List ℕ) : Type 0 where
  pub begins : kept ≡ take (length kept) list
  pub fits : sizes files kept ≤ capacity
  pub longest : (n : ℕ) → n ≤ length list → sizes files (take n list) ≤ capacity → n ≤ length kept

abbrev pub FittingIsLongest : Type 0
FittingIsLongest = (files : List File) (capacity : ℕ) (list : List ℕ)
    → IsLongest files capacity list (fitting files capacity list)
