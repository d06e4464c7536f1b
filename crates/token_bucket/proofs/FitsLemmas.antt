-- A bucket that fits the calls before one more call, and the bucket after it.
use Rattle.std.proofs.Common.{◌≡◌, ℕ, ◌+◌, ◌-◌, ◌*◌, ◌≤◌, min, Bool, true, false, cond, refl, sym, ◌∙◌, arith}
use Rattle.token_bucket.specs.Reference.{TOKEN}
use Rattle.token_bucket.specs.Calls.{Call, Past, made, and_then, tick_after, rate_after, takes_token, clock, credit_of}
use Rattle.token_bucket.specs.After.{last_rate, IsForward, IsCovered, BucketAfter}
use Rattle.token_bucket.specs.Standing.{Standing}
use Rattle.token_bucket.specs.Running.{units_taken, running_credit, after, CreditRuns, StandingRuns}
use Rattle.token_bucket.proofs.CallLemmas.{tokens_of, clock-then, last_rate-then, forward-then, least_balance-then, covered-then, least_balance-none}

units-tokens : (b : Bool) → TOKEN * cond b 1 0 ≡ cond b TOKEN 0
units-tokens true = refl
units-tokens false = refl

-- the least balance is the running credit
pub credit_runs : CreditRuns
credit_runs past b call fits now enough =
    let passes : clock 0 past.calls ≤ tick_after (clock 0 past.calls) call = rw fits.tick at now in
    rw (fits.depth, fits.rate, fits.tick, fits.credit, ← units-tokens (takes_token call))
    (least_balance-then (past.depth * TOKEN) past.rate 0 past.calls call fits.forward passes fits.covered)

-- the bucket after the call fits the longer list
pub fits_then : (past : Past) (b : Standing) (call : Call) (credit : ℕ)
    → BucketAfter past b → b.tick ≤ tick_after b.tick call → units_taken call ≤ b.credit → credit ≡ running_credit b call
    → BucketAfter (and_then past call) (record { depth = b.depth; rate = rate_after b.rate call; tick = tick_after b.tick call; credit = credit })
fits_then past b call credit fits now enough is =
    let passes : clock 0 past.calls ≤ tick_after (clock 0 past.calls) call = rw fits.tick at now in
    let holds : TOKEN * tokens_of call ≤ credit_of past = rw (units-tokens (takes_token call), ← fits.credit) enough in
    record {
      depth = fits.depth;
      rate = rw (last_rate-then past.rate past.calls call, fits.rate) refl;
      tick = rw (clock-then 0 past.calls call, fits.tick) refl;
      credit = is ∙ sym (credit_runs past b call fits now enough);
      forward = forward-then 0 past.calls call fits.forward passes;
      covered = covered-then (past.depth * TOKEN) past.rate 0 past.calls call fits.forward passes fits.covered holds;
    }

-- the new bucket fits the call that made it
pub fits_made : (depth rate : ℕ) → BucketAfter (made depth rate) (record { depth = depth; rate = rate; tick = 0; credit = depth * TOKEN })
unfolding IsForward IsCovered clock last_rate
fits_made depth rate = record {
  depth = refl;
  rate = refl;
  tick = refl;
  credit = sym (least_balance-none (depth * TOKEN) rate 0);
  forward = tt;
  covered = tt;
}

-- where no time passes, the running credit loses what is taken
pub still_credit : (full credit rate tick taken : ℕ) → credit ≤ full
    → credit - taken ≡ min full (credit + rate * (tick - tick) - taken)
still_credit full credit rate tick taken within =
    let none : tick - tick ≡ 0 = omega arith in
    rw none (omega arith)

pub still_credit_untaken : (full credit rate tick : ℕ) → credit ≤ full → credit ≡ min full (credit + rate * (tick - tick) - 0)
still_credit_untaken full credit rate tick within =
    let none : tick - tick ≡ 0 = omega arith in
    rw none (omega arith)

-- where nothing is taken, it is the filled credit
pub filled_credit : (full credit rate ticks : ℕ) → min full (credit + rate * ticks) ≡ min full (credit + rate * ticks - 0)
filled_credit full credit rate ticks = omega arith

same_standing : (b c : Standing) → b.depth ≡ c.depth → b.rate ≡ c.rate → b.tick ≡ c.tick → b.credit ≡ c.credit → b ≡ c
same_standing b c depth rate tick credit =
    let parts : ℕ → ℕ → ℕ → ℕ → Standing = λ d r t u. record { depth = d; rate = r; tick = t; credit = u } in
    let by_parts : parts b.depth b.rate b.tick b.credit ≡ parts c.depth c.rate c.tick c.credit = cc in
    by_parts

-- the bucket after a call
pub standing_runs : StandingRuns
standing_runs past b next call fits now enough then_fits =
    same_standing next (after b call)
    (then_fits.depth ∙ sym fits.depth)
    (then_fits.rate ∙ (rw (last_rate-then past.rate past.calls call, fits.rate) refl))
    (then_fits.tick ∙ (rw (clock-then 0 past.calls call, fits.tick) refl))
    (then_fits.credit ∙ credit_runs past b call fits now enough)
