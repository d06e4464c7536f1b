-- What a reader has to believe: the definitions of this crate that the headline stands on, in reading order.
use Rattle.std.specs.Prelude.{ℕ, ◌-◌, List, sum_by}
use Rattle.std.specs.List.{range_with_len}

-- The limits of a bucket, by their numbers; the code has constants of the same names.

-- how many units make a token
abbrev pub TOKEN : ℕ
TOKEN = 1000000000

-- What a bucket gains while time passes.

-- the ticks s, s + 1, .. below t
abbrev pub ticks : ℕ → ℕ → List ℕ
ticks s t = range_with_len s (t - s)

-- the sum of the rates of the ticks from s on below t
unfoldable pub accrual : (ℕ → ℕ) → ℕ → ℕ → ℕ
accrual rate s t = sum_by rate (ticks s t)
