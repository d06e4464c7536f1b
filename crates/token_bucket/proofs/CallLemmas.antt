-- What one more call does to the credit of the calls before it.
use Rattle.std.proofs.Common.{◌≡◌, ℕ, ◌+◌, ◌-◌, ◌*◌, ◌<◌, ◌≤◌, min, List, [], ◌∷◌, ◌++◌, Bool, true, false, cond, refl, arith}
use Rattle.std.specs.Prelude.{count_by, nat_lt, if◌then◌else◌}
use Rattle.std.proofs.lemmas.List.Sums.{sum_by_push}
use Rattle.std.proofs.lemmas.Bool.{lt-ltb, le-ltb, ltb-false}
use Rattle.token_bucket.specs.Reference.{TOKEN}
use Rattle.token_bucket.specs.Calls.{Call, tick_after, rate_after, takes_token, clock, rate_at, accrued, balance, least_balance}
use Rattle.token_bucket.specs.After.{last_rate, IsForward, IsCovered}
use Rattle.token_bucket.proofs.AccrualLemmas.{accrual-split, accrual-agree, accrual-constant, accrual-none}

-- ---- one more call

pub clock-then : (tick : ℕ) (calls : List Call) (call : Call) → clock tick (calls ++ call ∷ []) ≡ tick_after (clock tick calls) call
unfolding clock
clock-then tick [] call = refl
clock-then tick (first ∷ calls) call = clock-then (tick_after tick first) calls call

pub last_rate-then : (rate : ℕ) (calls : List Call) (call : Call) → last_rate rate (calls ++ call ∷ []) ≡ rate_after (last_rate rate calls) call
unfolding last_rate
last_rate-then rate [] call = refl
last_rate-then rate (first ∷ calls) call = last_rate-then (rate_after rate first) calls call

pub forward-then : (tick : ℕ) (calls : List Call) (call : Call)
    → IsForward tick calls → clock tick calls ≤ tick_after (clock tick calls) call → IsForward tick (calls ++ call ∷ [])
unfolding IsForward clock
forward-then tick [] call before now = (now, tt)
forward-then tick (first ∷ calls) call before now = (before.0, forward-then (tick_after tick first) calls call before.1 now)

clock-le : (tick : ℕ) (calls : List Call) → IsForward tick calls → tick ≤ clock tick calls
unfolding IsForward clock
clock-le tick [] before = omega arith
clock-le tick (call ∷ calls) before = omega (arith, before.0, clock-le (tick_after tick call) calls before.1)

-- ---- the rate in force

else_same : (b : Bool) (x y z : ℕ) → (b ≡ false → y ≡ z) → (if b then x else y) ≡ (if b then x else z)
else_same true x y z same = refl
else_same false x y z same = same refl

-- at a tick that the clock has passed, a later call does not change it
rate_at-before : (rate tick : ℕ) (calls : List Call) (call : Call) (u : ℕ)
    → tick ≤ u → u < clock tick calls → rate_at rate tick (calls ++ call ∷ []) u ≡ rate_at rate tick calls u
unfolding rate_at clock
rate_at-before rate tick [] call u above below = absurd (omega arith)
rate_at-before rate tick (first ∷ calls) call u above below =
    else_same (nat_lt u (tick_after tick first)) rate _ _
    (λ passed. rate_at-before (rate_after rate first) (tick_after tick first) calls call u
    (ltb-false u (tick_after tick first) passed) below)

-- from where the clock stands up to where the next call puts it, it is the last one set
rate_at-now : (rate tick : ℕ) (calls : List Call) (call : Call) (u : ℕ)
    → IsForward tick calls → clock tick calls ≤ u → u < tick_after (clock tick calls) call
    → rate_at rate tick (calls ++ call ∷ []) u ≡ last_rate rate calls
unfolding rate_at clock last_rate IsForward
rate_at-now rate tick [] call u before above below = rw (lt-ltb u (tick_after tick call) below) refl
rate_at-now rate tick (first ∷ calls) call u before above below =
    let passed : tick_after tick first ≤ u = omega (arith, clock-le (tick_after tick first) calls before.1) in
    rw (le-ltb u (tick_after tick first) passed)
    (rate_at-now (rate_after rate first) (tick_after tick first) calls call u before.1 above below)

-- ---- what the ticks accrue, and the balances

accrued-then : (rate tick : ℕ) (calls : List Call) (call : Call)
    → IsForward tick calls → clock tick calls ≤ tick_after (clock tick calls) call
    → accrued rate tick (calls ++ call ∷ [])
    ≡ accrued rate tick calls + last_rate rate calls * (tick_after (clock tick calls) call - clock tick calls)
unfolding accrued
accrued-then rate tick calls call before now =
    let start : tick ≤ clock tick calls = clock-le tick calls before in
    let ends : clock tick (calls ++ call ∷ []) ≡ tick_after (clock tick calls) call = clock-then tick calls call in
    rw (
      ends,
      accrual-split (rate_at rate tick (calls ++ call ∷ [])) tick (clock tick calls) (tick_after (clock tick calls) call) start now,
      accrual-agree (rate_at rate tick (calls ++ call ∷ [])) (rate_at rate tick calls) tick (clock tick calls)
          (λ u above below. rate_at-before rate tick calls call u above below),
      accrual-constant (rate_at rate tick (calls ++ call ∷ [])) (last_rate rate calls) (clock tick calls) (tick_after (clock tick calls) call)
          (λ u above below. rate_at-now rate tick calls call u before above below),
    ) refl

-- how many tokens a call took
abbrev pub tokens_of : Call → ℕ
tokens_of call = cond (takes_token call) 1 0

-- a smaller balance by what is taken, a greater one by what is gained
balance_moved : (full a x n k : ℕ) → TOKEN * n ≤ full + a → full + (a + x) - TOKEN * (n + k) ≡ (full + a - TOKEN * n) + x - TOKEN * k
balance_moved full a x n k covered = omega arith

least_moved : (full b l x k : ℕ) → min (b + x - k) (min full (l + x - k)) ≡ min full (min b l + x - k)
least_moved full b l x k = omega arith

accrued-none : (rate tick : ℕ) → accrued rate tick [] ≡ 0
unfolding accrued clock
accrued-none rate tick = accrual-none (rate_at rate tick []) tick

balance-none : (full rate tick : ℕ) → balance full rate tick [] ≡ full
balance-none full rate tick = rw (accrued-none rate tick) (omega arith)

balance-then : (full rate tick : ℕ) (calls : List Call) (call : Call)
    → IsForward tick calls → clock tick calls ≤ tick_after (clock tick calls) call
    → TOKEN * count_by takes_token calls ≤ full + accrued rate tick calls
    → balance full rate tick (calls ++ call ∷ [])
    ≡ balance full rate tick calls + last_rate rate calls * (tick_after (clock tick calls) call - clock tick calls)
    - TOKEN * tokens_of call
balance-then full rate tick calls call before now covered =
    rw (accrued-then rate tick calls call before now, sum_by_push (λ (c : Call). tokens_of c) calls call)
    (balance_moved full (accrued rate tick calls) (last_rate rate calls * (tick_after (clock tick calls) call - clock tick calls))
    (count_by takes_token calls) (tokens_of call) covered)

-- the balance of all of the calls
covered_here : (full rate tick : ℕ) (calls : List Call) → IsCovered full rate tick calls
    → TOKEN * count_by takes_token calls ≤ full + accrued rate tick calls
unfolding IsCovered
covered_here full rate tick [] covered = omega arith
covered_here full rate tick (call ∷ calls) covered = covered.0

-- the running credit: one more call adds what its ticks accrue, up to the depth, and takes its tokens
pub least_balance-then : (full rate tick : ℕ) (calls : List Call) (call : Call)
    → IsForward tick calls → clock tick calls ≤ tick_after (clock tick calls) call → IsCovered full rate tick calls
    → least_balance full rate tick (calls ++ call ∷ [])
    ≡ min full (least_balance full rate tick calls + last_rate rate calls * (tick_after (clock tick calls) call - clock tick calls)
    - TOKEN * tokens_of call)
unfolding least_balance clock last_rate IsForward IsCovered
least_balance-then full rate tick [] call before now covered =
    rw (
      balance-then full rate tick [] call tt now (covered_here full rate tick [] tt),
      balance-none full rate tick,
      balance-none full (rate_after rate call) (tick_after tick call),
    ) (omega arith)
least_balance-then full rate tick (first ∷ calls) call before now covered =
    rw (
      balance-then full rate tick (first ∷ calls) call before now covered.0,
      least_balance-then full (rate_after rate first) (tick_after tick first) calls call before.1 now covered.1,
    )
    (least_moved full (balance full rate tick (first ∷ calls))
    (least_balance full (rate_after rate first) (tick_after tick first) calls)
    (last_rate rate (first ∷ calls) * (tick_after (clock tick (first ∷ calls)) call - clock tick (first ∷ calls)))
    (TOKEN * tokens_of call))

le_first : (k a b : ℕ) → k ≤ min a b → k ≤ a
le_first k a b h = omega arith

le_second : (k a b : ℕ) → k ≤ min a b → k ≤ b
le_second k a b h = omega arith

covered_balance : (full a x n k : ℕ) → TOKEN * n ≤ full + a → TOKEN * k ≤ full + a - TOKEN * n → TOKEN * (n + k) ≤ full + (a + x)
covered_balance full a x n k covered enough = omega arith

covered_here-then : (full rate tick : ℕ) (calls : List Call) (call : Call)
    → IsForward tick calls → clock tick calls ≤ tick_after (clock tick calls) call
    → TOKEN * count_by takes_token calls ≤ full + accrued rate tick calls
    → TOKEN * tokens_of call ≤ balance full rate tick calls
    → TOKEN * count_by takes_token (calls ++ call ∷ []) ≤ full + accrued rate tick (calls ++ call ∷ [])
covered_here-then full rate tick calls call before now covered enough =
    rw (accrued-then rate tick calls call before now, sum_by_push (λ (c : Call). tokens_of c) calls call)
    (covered_balance full (accrued rate tick calls)
    (last_rate rate calls * (tick_after (clock tick calls) call - clock tick calls))
    (count_by takes_token calls) (tokens_of call) covered enough)

-- the calls stay covered where a token is taken only out of a credit that holds one
pub covered-then : (full rate tick : ℕ) (calls : List Call) (call : Call)
    → IsForward tick calls → clock tick calls ≤ tick_after (clock tick calls) call → IsCovered full rate tick calls
    → TOKEN * tokens_of call ≤ least_balance full rate tick calls
    → IsCovered full rate tick (calls ++ call ∷ [])
unfolding least_balance clock last_rate IsForward IsCovered
covered-then full rate tick [] call before now covered enough =
    (covered_here-then full rate tick [] call tt now (covered_here full rate tick [] tt) enough, tt)
covered-then full rate tick (first ∷ calls) call before now covered enough =
    let rest : ℕ = least_balance full (rate_after rate first) (tick_after tick first) calls in
    let here : TOKEN * tokens_of call ≤ balance full rate tick (first ∷ calls) =
    le_first (TOKEN * tokens_of call) (balance full rate tick (first ∷ calls)) rest enough in
    let later : TOKEN * tokens_of call ≤ rest =
    le_second (TOKEN * tokens_of call) (balance full rate tick (first ∷ calls)) rest enough in (
      covered_here-then full rate tick (first ∷ calls) call before now covered.0 here,
      covered-then full (rate_after rate first) (tick_after tick first) calls call before.1 now covered.1 later,
    )

-- the credit is never above the depth
pub least_balance-le : (full rate tick : ℕ) (calls : List Call) → least_balance full rate tick calls ≤ full
unfolding least_balance
least_balance-le full rate tick [] = rw (balance-none full rate tick) (omega arith)
least_balance-le full rate tick (call ∷ calls) =
    omega (arith, least_balance-le full (rate_after rate call) (tick_after tick call) calls)

pub least_balance-none : (full rate tick : ℕ) → least_balance full rate tick [] ≡ full
unfolding least_balance
least_balance-none full rate tick = balance-none full rate tick
