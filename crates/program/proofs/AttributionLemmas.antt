-- From what a run with a buffer came to, to what is reported of it: that a device is reported only where it failed.
use Rattle.std.proofs.Common.{◌≡◌, ◌⊎◌, ◌∙◌, inl, inr, refl, ap, sym, subst, ℕ, ◌+◌, add-zero, Bool, true, false, not, is_ok, List, Option, Result, Ok, Err, OnOk}
use Rattle.captures.specs.Passes.{AttributesReads}
use Rattle.faults.specs.declared.fault.Fault.{Fault}
use Rattle.faults.specs.declared.fault.Fault.TheVariants.{Write, Memory}
use Rattle.faults.specs.declared.fault.Place.{Place}
use Rattle.faults.specs.declared.fault.Place.TheVariants.{Replies, Report}
use Rattle.runs.specs.Ports.{Finishes, Whole, Incomplete, CutShort, Reports, IsReported, Same, Lacks, reports_write, is_due}

-- what is reported is what a run came to, or else of P it is said that it lacks memory
pub run_reported : (place : Place) (failed : Bool) (ran reported : Result Unit Fault) (P : Result Unit Fault → Type 0) → IsReported place failed ran reported → P ran → Reports place P reported
run_reported place failed ran reported P (Same is attributed) says = inl (subst P (sym is) says)
run_reported place failed ran reported P (Lacks is attributed healthy) says = inr (ran, says, attributed, is)

-- a reader that is reported at most once, and whose failure may go unreported at a failed write of this place and where
-- memory runs out
module _ (attributed : Fault → ℕ) (unreported : Fault → Bool) (at left : ℕ) where
  -- it failed once at most
  pub failed_once : (ran : Result Unit Fault) → ((f : Fault) → (attributed f ≡ 0) ⊎ (attributed f ≡ 1)) → AttributesReads attributed unreported at left ran → (left ≡ at) ⊎ (left ≡ at + 1)
  failed_once (Ok done) once counts = inl counts
  failed_once (Err f) once (inl is) = elim (once f) [ inl e ↦ inl (is ∙ ap (λ n. at + n) e ∙ add-zero at) | inr e ↦ inr (is ∙ ap (λ n. at + n) e) ]
  failed_once (Err f) once (inr is) = inr is.1

  -- and so much may go unreported
  pub cut_off : (f : Fault) → attributed f ≡ 0 → unreported f ≡ true → (left ≡ at) ⊎ (left ≡ at + 1) → AttributesReads {X = Unit {0}} attributed unreported at left (Err f)
  cut_off f none is (inl same) = inl (same ∙ sym (ap (λ n. at + n) none ∙ add-zero at))
  cut_off f none is (inr once) = inr (is, once)

  pub reader_settled : (due : Bool) (place : Place) (old whole new : Option (List ℕ)) (ran reported : Result Unit Fault) → ((f : Fault) → (attributed f ≡ 0) ⊎ (attributed f ≡ 1)) → attributed (Write place) ≡ 0 → unreported (Write place) ≡ true
      → AttributesReads attributed unreported at left ran → Finishes due place old whole new ran reported → AttributesReads attributed unreported at left reported
  reader_settled due place old whole new ran reported once none is counts (Whole was same keeps) = rw same counts
  reader_settled due place old whole new ran reported once none is counts (Incomplete was same part) = rw same counts
  reader_settled due place old whole new ran reported once none is counts (CutShort was unwritten part) = rw unwritten (cut_off (Write place) none is (failed_once ran once counts))

  pub reader_reported : (place : Place) (failed : Bool) (ran reported : Result Unit Fault) → ((f : Fault) → (attributed f ≡ 0) ⊎ (attributed f ≡ 1)) → attributed Memory ≡ 0 → unreported Memory ≡ true
      → AttributesReads attributed unreported at left ran → IsReported place failed ran reported → AttributesReads attributed unreported at left reported
  reader_reported place failed ran reported once none is counts (Same same said) = rw same counts
  reader_reported place failed ran reported once none is counts (Lacks lacks said healthy) = rw lacks (cut_off Memory none is (failed_once ran once counts))

-- of two outputs: a failed write of the replies is reported whatever becomes of the report
pub replies_reported : (due : Bool) (old whole new : Option (List ℕ)) (ran rest : Result Unit Fault) (failed : Bool) → due ≡ is_due Replies ran → Finishes due Replies old whole new ran rest
    → (due ≡ true → failed ≡ true → rest ≡ Err (Write Replies)) → failed ≡ true → reports_write Replies rest ≡ true
replies_reported due old whole new ran rest failed is (Whole was same keeps) attributed has = rw (attributed was has) refl
replies_reported due old whole new ran rest failed is (Incomplete was same part) attributed has = rw same (not_false (reports_write Replies ran) (sym is ∙ was))
  where
    not_false : (b : Bool) → not b ≡ false → b ≡ true
    not_false true e = refl
    not_false false e = cc
replies_reported due old whole new ran rest failed is (CutShort was unwritten part) attributed has = rw unwritten refl

pub still_reported : (due : Bool) (old whole new : Option (List ℕ)) (rest reported : Result Unit Fault) → due ≡ is_ok rest → Finishes due Report old whole new rest reported → reports_write Replies rest ≡ true → reports_write Replies reported ≡ true
still_reported due old whole new (Ok done) reported is stands attributed = absurd (let never : false ≡ true = attributed in cc)
still_reported due old whole new (Err f) reported is (Whole was same keeps) attributed = rw same attributed
still_reported due old whole new (Err f) reported is (Incomplete was same part) attributed = rw same attributed
still_reported due old whole new (Err f) reported is (CutShort was unwritten part) attributed = absurd (let never : true ≡ false = sym was ∙ is in cc)

-- at Ok the writer of the report hasn't failed
pub report_healthy : (due : Bool) (old whole new : Option (List ℕ)) (rest reported : Result Unit Fault) (failed : Bool) → due ≡ is_ok rest → Finishes due Report old whole new rest reported
    → (due ≡ true → failed ≡ true → reported ≡ Err (Write Report)) → OnOk reported (failed ≡ false)
report_healthy due old whole new rest (Err f) failed is stands attributed = tt
report_healthy due old whole new rest (Ok done) false is stands attributed = refl
report_healthy due old whole new rest (Ok done) true is stands attributed = absurd (let never : Ok done ≡ Err (Write Report) = attributed (is ∙ due_at stands) refl in cc)
  where
    due_at : Finishes due Report old whole new rest (Ok done) → is_ok rest ≡ true
    due_at (Whole was same keeps) = ap is_ok (sym same)
    due_at (Incomplete was same part) = ap is_ok (sym same)
    due_at (CutShort was unwritten part) = absurd (let never : Ok done ≡ Err (Write Report) = unwritten in cc)
