-- What a reader has to believe: the definitions of this crate that the headline stands on, in reading order.
use Rattle.std.specs.Prelude.{ℕ, ◌≡◌, true, List, [], Option, is_some, unwrap_or}

abbrev pub line_feed : ℕ
line_feed = 10

-- what holds of the bytes, where they are known
abbrev pub WhereKnown : Option (List ℕ) → (List ℕ → Type 0) → Type 0
WhereKnown known P = is_some known ≡ true → P (unwrap_or known [])
