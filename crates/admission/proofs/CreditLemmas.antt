-- The running credit: what later ticks and one more request make of it.
use Rattle.std.proofs.Common.{◌≡◌, ℕ, ◌+◌, ◌-◌, ◌*◌, ◌<◌, ◌≤◌, min, List, [], ◌∷◌, ◌++◌, cond, refl, sym, arith}
use Rattle.std.specs.Prelude.{count_by}
use Rattle.std.proofs.lemmas.List.Sums.{sum_by_push}
use Rattle.token_bucket.specs.Reference.{TOKEN, accrual}
use Rattle.token_bucket.proofs.AccrualLemmas.{accrual-split, accrual-agree, accrual-none}
use Rattle.admission.specs.Reference.{Decided, is_admitted, balance, least_balance}
use Rattle.admission.specs.After.{AllCovered}

-- how many tokens a request took, and how many requests took
abbrev pub token_of : Decided → ℕ
token_of request = cond (is_admitted request.decision) 1 0

abbrev pub tokens_of : List Decided → ℕ
tokens_of requests = count_by (λ r. is_admitted r.decision) requests

pub least_balance-none : (rate : ℕ → ℕ) (full tick : ℕ) → least_balance rate full tick [] ≡ full
unfolding least_balance
least_balance-none rate full tick = refl

pub least_balance-le : (rate : ℕ → ℕ) (full tick : ℕ) (past : List Decided) → least_balance rate full tick past ≤ full
unfolding least_balance
least_balance-le rate full tick [] = omega arith
least_balance-le rate full tick (request ∷ past) = omega (arith, least_balance-le rate full tick past)

-- ---- later ticks

balance_later : (full a x n : ℕ) → TOKEN * n ≤ full + a → full + (a + x) - TOKEN * n ≡ (full + a - TOKEN * n) + x
balance_later full a x n covered = omega arith

least_later : (full b l x : ℕ) → min (b + x) (min full (l + x)) ≡ min full (min b l + x)
least_later full b l x = omega arith

pub least_balance-later : (rate : ℕ → ℕ) (full t u : ℕ) (past : List Decided) → AllCovered rate full t past → t ≤ u
    → least_balance rate full u past ≡ min full (least_balance rate full t past + accrual rate t u)
unfolding least_balance AllCovered
least_balance-later rate full t u [] covered later = omega arith
least_balance-later rate full t u (request ∷ past) covered later =
    rw (
      least_balance-later rate full t u past covered.2 later,
      accrual-split rate request.offer.tick t u covered.0 later,
      balance_later full (accrual rate request.offer.tick t) (accrual rate t u) (tokens_of (request ∷ past)) covered.1,
    )
    (least_later full (balance rate full t request past) (least_balance rate full t past) (accrual rate t u))

pub covered-later : (rate : ℕ → ℕ) (full t u : ℕ) (past : List Decided) → AllCovered rate full t past → t ≤ u
    → AllCovered rate full u past
unfolding AllCovered
covered-later rate full t u [] covered later = tt
covered-later rate full t u (request ∷ past) covered later = (
  omega (arith, covered.0),
  rw (accrual-split rate request.offer.tick t u covered.0 later) (omega (arith, covered.1)),
  covered-later rate full t u past covered.2 later,
)

-- ---- one more request at this tick

balance_push : (full a n k : ℕ) → full + a - TOKEN * (n + k) ≡ full + a - TOKEN * n - TOKEN * k
balance_push full a n k = omega arith

least_push : (b l x : ℕ) → min (b - x) (l - x) ≡ min b l - x
least_push b l x = omega arith

-- where the rates below the tick stay the same
pub least_balance-push : (f g : ℕ → ℕ) (full tick : ℕ) (past : List Decided) (request : Decided)
    → AllCovered f full tick past → request.offer.tick ≡ tick → ((u : ℕ) → u < tick → f u ≡ g u)
    → least_balance g full tick (past ++ request ∷ []) ≡ least_balance f full tick past - TOKEN * token_of request
unfolding least_balance AllCovered
least_balance-push f g full tick [] request covered at same =
    rw (at, accrual-none g tick) (omega arith)
least_balance-push f g full tick (first ∷ past) request covered at same =
    rw (
      sym (accrual-agree f g first.offer.tick tick (λ u above below. same u below)),
      sum_by_push (λ (r : Decided). token_of r) (first ∷ past) request,
      balance_push full (accrual f first.offer.tick tick) (tokens_of (first ∷ past)) (token_of request),
      least_balance-push f g full tick past request covered.2 at same,
    )
    (least_push (balance f full tick first past) (least_balance f full tick past) (TOKEN * token_of request))

-- the balances stay covered where a token is taken only out of a credit that holds one
covered_push : (full a n k : ℕ) → TOKEN * n ≤ full + a → TOKEN * k ≤ full + a - TOKEN * n → TOKEN * (n + k) ≤ full + a
covered_push full a n k covered enough = omega arith

le_first : (k a b : ℕ) → k ≤ min a b → k ≤ a
le_first k a b h = omega arith

le_second : (k a b : ℕ) → k ≤ min a b → k ≤ b
le_second k a b h = omega arith

pub covered-push : (f g : ℕ → ℕ) (full tick : ℕ) (past : List Decided) (request : Decided)
    → AllCovered f full tick past → request.offer.tick ≡ tick → ((u : ℕ) → u < tick → f u ≡ g u)
    → TOKEN * token_of request ≤ least_balance f full tick past
    → AllCovered g full tick (past ++ request ∷ [])
unfolding least_balance AllCovered
covered-push f g full tick [] request covered at same enough =
    (omega arith, rw (at, accrual-none g tick) (omega arith), tt)
covered-push f g full tick (first ∷ past) request covered at same enough = (
  covered.0,
  rw (
    sym (accrual-agree f g first.offer.tick tick (λ u above below. same u below)),
    sum_by_push (λ (r : Decided). token_of r) (first ∷ past) request,
  )
      (covered_push full (accrual f first.offer.tick tick) (tokens_of (first ∷ past)) (token_of request) covered.1
      (le_first (TOKEN * token_of request) (balance f full tick first past) (least_balance f full tick past) enough)),
  covered-push f g full tick past request covered.2 at same
      (le_second (TOKEN * token_of request) (balance f full tick first past) (least_balance f full tick past) enough),
)
