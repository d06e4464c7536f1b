-- What a bucket keeps of the calls on it.
use Rattle.std.specs.Prelude.{◌≡◌, ℕ, ◌+◌, ◌*◌, ◌≤◌, List, [], ◌∷◌, count_by}
use Rattle.token_bucket.specs.Reference.{TOKEN, accrual}
use Rattle.token_bucket.specs.Calls.{Call, Past, tick_after, rate_after, takes_token, clock, accrued, credit_of}
use Rattle.token_bucket.specs.Standing.{Standing}

-- What a bucket gains while time passes.

-- the ticks from s to t and those from t to u are the ticks from s to u
abbrev pub AccrualSplits : Type 0
AccrualSplits = (rate : ℕ → ℕ) (s t u : ℕ) → s ≤ t → t ≤ u → accrual rate s u ≡ accrual rate s t + accrual rate t u

-- the rate after the calls
unfoldable pub last_rate : ℕ → List Call → ℕ
last_rate rate [] = rate
last_rate rate (call ∷ calls) = last_rate (rate_after rate call) calls

-- the clock never goes back
unfoldable pub IsForward : ℕ → List Call → Type 0
IsForward tick [] = Unit {0}
IsForward tick (call ∷ calls) = (tick ≤ tick_after tick call) × IsForward (tick_after tick call) calls

-- no balance of the calls from any one of them on goes below zero
unfoldable pub IsCovered : ℕ → ℕ → ℕ → List Call → Type 0
IsCovered full rate tick [] = Unit {0}
IsCovered full rate tick (call ∷ calls) =
    (TOKEN * count_by takes_token (call ∷ calls) ≤ full + accrued rate tick (call ∷ calls))
    × IsCovered full (rate_after rate call) (tick_after tick call) calls

-- a bucket that stands so after these calls: its clock and rate are the last ones, its credit is theirs
pub record BucketAfter (past : Past) (b : Standing) : Type 0 where
  pub depth : b.depth ≡ past.depth
  pub rate : b.rate ≡ last_rate past.rate past.calls
  pub tick : b.tick ≡ clock 0 past.calls
  pub credit : b.credit ≡ credit_of past
  pub forward : IsForward 0 past.calls
  pub covered : IsCovered (past.depth * TOKEN) past.rate 0 past.calls
