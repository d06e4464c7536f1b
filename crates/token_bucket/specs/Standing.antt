-- What a contract sees of a `Bucket`.
use Rattle.std.specs.Prelude.{ℕ, ◌*◌, ◌≤◌}
use Rattle.token_bucket.specs.Reference.{TOKEN}

-- The limits of a bucket, by their numbers; the code has constants of the same names.

-- the greatest depth, in tokens
abbrev pub MAX_DEPTH : ℕ
MAX_DEPTH = 1000000

-- the greatest rate, in units a tick
abbrev pub MAX_RATE : ℕ
MAX_RATE = 1000000000

-- the greatest tick
abbrev pub MAX_TICK : ℕ
MAX_TICK = 1000000000000000

-- its depth in tokens, the rate in force, the tick that its clock stands at, and its credit in units
pub record Standing : Type 0 where
  pub depth : ℕ
  pub rate : ℕ
  pub tick : ℕ
  pub credit : ℕ

-- The ranges that each `Bucket` keeps.

pub record IsInRange (b : Standing) : Type 0 where
  pub depth : b.depth ≤ MAX_DEPTH
  pub rate : b.rate ≤ MAX_RATE
  pub tick : b.tick ≤ MAX_TICK
  pub credit : b.credit ≤ b.depth * TOKEN
