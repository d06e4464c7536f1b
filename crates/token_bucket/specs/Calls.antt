-- The calls on a bucket, and the credit that they leave.
use Rattle.std.specs.Prelude.{ℕ, ◌+◌, ◌-◌, ◌*◌, ◌≤◌, min, Bool, false, List, [], ◌∷◌, ◌++◌, nat_lt, if◌then◌else◌}
use Rattle.std.specs.Prelude.{count_by}
use Rattle.token_bucket.specs.Reference.{TOKEN, accrual}

-- a call that may change a bucket, `try_take` with its answer: whether it took a token
pub data Call : Type 0 where
  Advance : (to : ℕ) → Call
  SetRate : (rate : ℕ) → Call
  TryTake : (taken : Bool) → Call

-- the calls on a bucket so far: `new` with its depth and rate, then the others in order
pub record Past : Type 0 where
  pub depth : ℕ
  pub rate : ℕ
  pub calls : List Call

abbrev pub made : ℕ → ℕ → Past
made depth rate = record { depth = depth; rate = rate; calls = [] }

abbrev pub and_then : Past → Call → Past
and_then past call = record past { calls = past.calls ++ call ∷ [] }

-- where the clock stands after a call that found it at this tick
abbrev pub tick_after : ℕ → Call → ℕ
tick_after tick (Advance to) = to
tick_after tick (SetRate rate) = tick
tick_after tick (TryTake taken) = tick

-- the rate after a call that found this one
abbrev pub rate_after : ℕ → Call → ℕ
rate_after rate (Advance to) = rate
rate_after rate (SetRate new_rate) = new_rate
rate_after rate (TryTake taken) = rate

abbrev pub takes_token : Call → Bool
takes_token (Advance to) = false
takes_token (SetRate rate) = false
takes_token (TryTake taken) = taken

-- where the clock stands after the calls, from this tick on
unfoldable pub clock : ℕ → List Call → ℕ
clock tick [] = tick
clock tick (call ∷ calls) = clock (tick_after tick call) calls

-- the rate in force at tick u: the one that stood when the clock passed u
unfoldable pub rate_at : ℕ → ℕ → List Call → ℕ → ℕ
rate_at rate tick [] u = rate
rate_at rate tick (call ∷ calls) u =
    if nat_lt u (tick_after tick call) then rate
    else (rate_at (rate_after rate call) (tick_after tick call) calls u)

-- what the ticks of the calls accrued
unfoldable pub accrued : ℕ → ℕ → List Call → ℕ
accrued rate tick calls = accrual (rate_at rate tick calls) tick (clock tick calls)

-- a full bucket's units, with what the ticks of the calls accrued, without the tokens that they took
abbrev pub balance : ℕ → ℕ → ℕ → List Call → ℕ
balance full rate tick calls = full + accrued rate tick calls - TOKEN * count_by takes_token calls

-- the least balance of the calls from any one of them on, of all of them and of none
unfoldable pub least_balance : ℕ → ℕ → ℕ → List Call → ℕ
least_balance full rate tick [] = balance full rate tick []
least_balance full rate tick (call ∷ calls) =
    min (balance full rate tick (call ∷ calls)) (least_balance full (rate_after rate call) (tick_after tick call) calls)

-- the credit in units: the least, over each call so far, of the balance of the calls since
abbrev pub credit_of : Past → ℕ
credit_of past = least_balance (past.depth * TOKEN) past.rate 0 past.calls

-- a whole token is there
abbrev pub HasToken : Past → Type 0
HasToken past = TOKEN ≤ credit_of past
