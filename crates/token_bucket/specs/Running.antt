-- The running credit: what one more call makes of the credit before it.
use Rattle.std.specs.Prelude.{◌≡◌, ℕ, ◌+◌, ◌-◌, ◌*◌, ◌≤◌, min, if◌then◌else◌}
use Rattle.token_bucket.specs.Reference.{TOKEN}
use Rattle.token_bucket.specs.Calls.{Call, Past, and_then, tick_after, rate_after, takes_token, credit_of}
use Rattle.token_bucket.specs.Standing.{Standing}
use Rattle.token_bucket.specs.After.{BucketAfter}

-- the units that a call takes
abbrev pub units_taken : Call → ℕ
units_taken call = if takes_token call then TOKEN else 0

-- the credit before the call with what its ticks accrue at the rate in force, without what it takes, up to the depth
abbrev pub running_credit : Standing → Call → ℕ
running_credit b call =
    min (b.depth * TOKEN) (b.credit + b.rate * (tick_after b.tick call - b.tick) - units_taken call)

-- how a bucket stands after a call
abbrev pub after : Standing → Call → Standing
after b call = record {
  depth = b.depth;
  rate = rate_after b.rate call;
  tick = tick_after b.tick call;
  credit = running_credit b call;
}

-- the least balance over all calls so far is the running credit
abbrev pub CreditRuns : Type 0
CreditRuns = (past : Past) (b : Standing) (call : Call)
    → BucketAfter past b → b.tick ≤ tick_after b.tick call → units_taken call ≤ b.credit
    → credit_of (and_then past call) ≡ running_credit b call

-- so a bucket that fits the calls and then one more stands as that call left it
abbrev pub StandingRuns : Type 0
StandingRuns = (past : Past) (b next : Standing) (call : Call)
    → BucketAfter past b → b.tick ≤ tick_after b.tick call → units_taken call ≤ b.credit
    → BucketAfter (and_then past call) next → next ≡ after b call
