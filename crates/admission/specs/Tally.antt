-- How a map counts the samples of a window.
use Rattle.std.specs.Prelude.{◌≡◌, ℕ, ◌<◌, ◌≤◌, List, [], ◌∷◌, ◌++◌, length, replicate, nat_eq, if◌then◌else◌}
use Rattle.std.specs.Prelude.{unwrap_or}
use Rattle.std.specs.Ordering.{nat_cmp}
use Rattle.std.specs.Map.{lookup}
use Rattle.std.specs.BTreeMap.{is_at}
use Rattle.admission.specs.Limits.{MAX_WINDOW}
use Rattle.admission.specs.Reference.{sorted}

-- each key as often as its count says, in the order of the keys
unfoldable pub expanded : List (ℕ × ℕ) → List ℕ
expanded [] = []
expanded (entry ∷ entries) = replicate entry.1 entry.0 ++ expanded entries

unfoldable pub AllCounted : List (ℕ × ℕ) → Type 0
AllCounted [] = Unit {0}
AllCounted (entry ∷ entries) = (0 < entry.1) × AllCounted entries

-- how often the map counts a sample
unfoldable pub count_in : List (ℕ × ℕ) → ℕ → ℕ
count_in entries sample = unwrap_or (lookup (is_at (nat_cmp sample)) entries) 0

-- the map counts how often the ring holds each sample and has no other key, and the ring has room for a window
pub record IsTally (entries : List (ℕ × ℕ)) (samples : List ℕ) (size : ℕ) : Type 0 where
  pub agrees : expanded entries ≡ sorted samples
  pub counted : AllCounted entries
  pub held : length samples ≤ size
  pub some : 1 ≤ size
  pub most : size ≤ MAX_WINDOW

-- the list without the first x
unfoldable pub remove_one : ℕ → List ℕ → List ℕ
remove_one x [] = []
remove_one x (y ∷ ys) = if nat_eq x y then ys else (y ∷ remove_one x ys)
