-- The busiest second, with more messages.
use Rattle.std.proofs.Common.{◌≡◌, ◌≢◌, ℕ, ◌+◌, ◌*◌, ◌<◌, ◌≤◌, ◌==◌, inl, inr, cond, List, ◌++◌, refl, sym, ap, ◌∙◌, arith, nat_lt, replicate}
use Rattle.std.specs.Prelude.{if◌then◌else◌}
use Rattle.std.proofs.lemmas.Bool.{lt-ltb, le-ltb, cases_lt}
use Rattle.std.proofs.lemmas.Bool.Decides.{eqb_tells}
use Rattle.std.proofs.lemmas.List.Sums.{sum_by-append}
use Rattle.std.proofs.lemmas.List.Folds.{sum_by-replicate}
use Rattle.inspection.specs.declared.inspection.Second.{Second}
use Rattle.inspection.specs.declared.busy.Busy.{Busy}
use Rattle.inspection.specs.Figures.{count_in, IsBusiest}
use Rattle.inspection.specs.Running.{IsBusy}

-- ---- counts of one second

abbrev more_of : ℕ → ℕ → ℕ → List ℕ → List ℕ
more_of k n x seconds = seconds ++ replicate k n

in_more : (seconds : List ℕ) (k n x : ℕ) → count_in x (seconds ++ replicate k n) ≡ count_in x seconds + k * cond (n == x) 1 0
in_more seconds k n x =
    sum_by-append (λ s. cond (s == x) 1 0) seconds (replicate k n) ∙ ap (λ m. count_in x seconds + m) (sum_by-replicate (λ s. cond (s == x) 1 0) k n)

pub in_own : (seconds : List ℕ) (k n : ℕ) → count_in n (seconds ++ replicate k n) ≡ count_in n seconds + k
in_own seconds k n =
    let e = in_more seconds k n n in
    elim (eqb_tells n n) [
      | inl same ↦ (let f = rw same.0 at e in omega (arith, f))
      | inr other ↦ absurd (other.1 refl)
    ]

pub in_other : (seconds : List ℕ) (k n x : ℕ) → n ≢ x → count_in x (seconds ++ replicate k n) ≡ count_in x seconds
in_other seconds k n x apart =
    let e = in_more seconds k n x in
    elim (eqb_tells n x) [
      | inl same ↦ absurd (apart same.1)
      | inr other ↦ (let f = rw other.0 at e in omega (arith, f))
    ]

-- ---- one more second

-- the last second, with the messages that arrive in it
record IsNow (seconds : List ℕ) (now : Second) : Type 0 where
  is : now.messages ≡ count_in now.number seconds
  later : (second : ℕ) → now.number < second → count_in second seconds ≡ 0

now_more : (seconds : List ℕ) (old : Second) (number count : ℕ) → IsNow seconds old → old.number ≤ number
    → IsNow (seconds ++ replicate count number) (record { number = number; messages = (if old.number == number then old.messages else 0) + count })
now_more seconds old number count h le =
    let own = in_own seconds count number in
    record {
      is = elim (eqb_tells old.number number) [
        | inl same ↦ rw same.0 (let is = h.is in let e : count_in old.number seconds ≡ count_in number seconds = ap (λ x. count_in x seconds) same.1 in omega (arith, own, is, e))
        | inr other ↦ rw other.0 (let none = h.later number (let ne = other.1 in omega (arith, le, ne)) in omega (arith, own, none))
      ];
      later = λ second lt. in_other seconds count number second (λ e. omega (arith, lt, e)) ∙ h.later second (omega (arith, le, lt));
    }

-- the busiest one, where the last one has more messages now, and where it hasn't
busiest_now : (seconds : List ℕ) (busiest now : Second) (count : ℕ) → IsBusiest seconds busiest
    → now.messages ≡ count_in now.number (seconds ++ replicate count now.number) → busiest.messages < now.messages
    → IsBusiest (seconds ++ replicate count now.number) now
busiest_now seconds busiest now count h is lt = record {
  is = is;
  most = λ second. elim (eqb_tells now.number second) [
    | inl same ↦ (let e : count_in now.number (seconds ++ replicate count now.number) ≡ count_in second (seconds ++ replicate count now.number) = ap (λ x. count_in x (seconds ++ replicate count now.number)) same.1 in omega (arith, is, e))
    | inr other ↦ (let e = in_other seconds count now.number second other.1 in let m = h.most second in omega (arith, e, m, lt))
  ];
  first = λ second e. elim (eqb_tells now.number second) [
    | inl same ↦ (let s = same.1 in omega (arith, s))
    | inr other ↦ absurd (let f = in_other seconds count now.number second other.1 in let m = h.most second in omega (arith, e, f, m, lt))
  ];
}

busiest_stays : (seconds : List ℕ) (busiest old now : Second) (count : ℕ) → IsBusiest seconds busiest → IsNow seconds old → old.number ≤ now.number
    → now.messages ≡ count_in now.number (seconds ++ replicate count now.number) → now.messages ≤ busiest.messages
    → IsBusiest (seconds ++ replicate count now.number) busiest
busiest_stays seconds busiest old now count h last le is few = record {
  is = elim (eqb_tells now.number busiest.number) [
    | inl same ↦ (let e : count_in now.number (seconds ++ replicate count now.number) ≡ count_in busiest.number (seconds ++ replicate count now.number) = ap (λ x. count_in x (seconds ++ replicate count now.number)) same.1 in
        let own = in_own seconds count now.number in let e2 : count_in now.number seconds ≡ count_in busiest.number seconds = ap (λ x. count_in x seconds) same.1 in let b = h.is in omega (arith, is, e, own, e2, b, few))
    | inr other ↦ h.is ∙ sym (in_other seconds count now.number busiest.number other.1)
  ];
  most = λ second. elim (eqb_tells now.number second) [
    | inl same ↦ (let e : count_in now.number (seconds ++ replicate count now.number) ≡ count_in second (seconds ++ replicate count now.number) = ap (λ x. count_in x (seconds ++ replicate count now.number)) same.1 in omega (arith, is, e, few))
    | inr other ↦ (let e = in_other seconds count now.number second other.1 in let m = h.most second in omega (arith, e, m))
  ];
  first = λ second e. elim (eqb_tells now.number second) [
    | inl same ↦ (let s = same.1 in elim (cases_lt now.number busiest.number) [
      | inl lt ↦ (let none = last.later busiest.number (omega (arith, le, lt)) in let b = h.is in
          h.first second (let m = h.most second in omega (arith, none, b, m)))
      | inr ge ↦ omega (arith, ge, s)
    ])
    | inr other ↦ h.first second (sym (in_other seconds count now.number second other.1) ∙ e)
  ];
}

pub busy_more : (seconds : List ℕ) (old new : Busy) (number count : ℕ) → IsBusy seconds old → old.now.number ≤ number
    → new.now ≡ record { number = number; messages = (if old.now.number == number then old.now.messages else 0) + count }
    → new.busiest ≡ (if nat_lt old.busiest.messages new.now.messages then new.now else old.busiest)
    → IsBusy (seconds ++ replicate count number) new
busy_more seconds old new number count h le now busiest =
    let last : IsNow seconds old.now = record { is = h.now; later = h.later } in
    let more : IsNow (seconds ++ replicate count number) new.now = rw now (now_more seconds old.now number count last le) in
    let named : new.now.number ≡ number = ap (λ s. s.number) now in
    let is : new.now.messages ≡ count_in new.now.number (seconds ++ replicate count new.now.number) = more.is ∙ ap (λ n. count_in new.now.number (seconds ++ replicate count n)) (sym named) in
    let found : IsBusiest (seconds ++ replicate count new.now.number) new.busiest = elim (cases_lt old.busiest.messages new.now.messages) [
      | inl lt ↦ rw (busiest, lt-ltb old.busiest.messages new.now.messages lt) (busiest_now seconds old.busiest new.now count h.busiest is lt)
      | inr ge ↦ rw (busiest, le-ltb old.busiest.messages new.now.messages ge) (busiest_stays seconds old.busiest old.now new.now count h.busiest last (omega (arith, le, named)) is ge)
    ] in
    record { now = more.is; later = more.later; busiest = rw named at found }
