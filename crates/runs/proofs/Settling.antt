-- From what a run says of its devices, and what the buffers before them leave, to what the program says.
use Rattle.std.proofs.Common.{inl, inr, List, ℕ, Option, Bool, Result, Ok, Err, OnOk, IfErr}
use Rattle.faults.specs.declared.fault.Fault.{Fault}
use Rattle.faults.specs.declared.fault.Fault.TheVariants.{Write, Memory}
use Rattle.faults.specs.declared.fault.Place.{Place}
use Rattle.faults.specs.declared.fault.Place.TheVariants.{Replies, Report}
use Rattle.runs.specs.Ports.{Port, Finishes, Whole, Incomplete, CutShort, AtDevices, Runs}

-- what is weaker of an end, and of a fault
pub ok_weaker : (P Q : Type 0) (ran : Result Unit Fault) → (P → Q) → OnOk ran P → OnOk ran Q
ok_weaker P Q (Ok done) weaker says = weaker says
ok_weaker P Q (Err f) weaker says = tt

pub fault_weaker : (P Q : Fault → Type 0) (ran : Result Unit Fault) → ((f : Fault) → P f → Q f) → IfErr ran P → IfErr ran Q
fault_weaker P Q (Ok done) weaker says = tt
fault_weaker P Q (Err f) weaker says = weaker f says

-- a buffer leaves what the run came to, or that the rest of an output can't be written
ok_settled : (Q : Type 0) (due : Bool) (place : Place) (old whole new : Option (List ℕ)) (ran reported : Result Unit Fault) → OnOk ran Q → Finishes due place old whole new ran reported → OnOk reported Q
ok_settled Q due place old whole new ran reported says (Whole is same keeps) = rw same says
ok_settled Q due place old whole new ran reported says (Incomplete is same part) = rw same says
ok_settled Q due place old whole new ran reported says (CutShort is unwritten part) = rw unwritten tt

fault_settled : (Q : Fault → Type 0) (due : Bool) (place : Place) (old whole new : Option (List ℕ)) (ran reported : Result Unit Fault) → Q (Write place) → IfErr ran Q → Finishes due place old whole new ran reported → IfErr reported Q
fault_settled Q due place old whole new ran reported write says (Whole is same keeps) = rw same says
fault_settled Q due place old whole new ran reported write says (Incomplete is same part) = rw same says
fault_settled Q due place old whole new ran reported write says (CutShort is unwritten part) = rw unwritten write

-- a run over one output
pub ok_of_runs : (place : Place) (P : Port → Result Unit Fault → Type 0) (Q : Type 0) (old new : Option (List ℕ)) (reported : Result Unit Fault)
    → ((output : Port) (ran : Result Unit Fault) → P output ran → OnOk ran Q) → Runs place P old new reported → OnOk reported Q
ok_of_runs place P Q old new reported weaker (inl refused) = rw refused.0 tt
ok_of_runs place P Q old new reported weaker (inr at) = ok_settled Q _ place old _ new at.ran reported (weaker _ at.ran at.says) at.stands

pub fault_of_runs : (place : Place) (P : Port → Result Unit Fault → Type 0) (Q : Fault → Type 0) (old new : Option (List ℕ)) (reported : Result Unit Fault)
    → Q Memory → Q (Write place) → ((output : Port) (ran : Result Unit Fault) → P output ran → IfErr ran Q) → Runs place P old new reported → IfErr reported Q
fault_of_runs place P Q old new reported memory write weaker (inl refused) = rw refused.0 memory
fault_of_runs place P Q old new reported memory write weaker (inr at) = fault_settled Q _ place old _ new at.ran reported write (weaker _ at.ran at.says) at.stands

-- a run over the devices of the replies and of the report
module _ (P : Port → Port → Result Unit Fault → Type 0) (old new out_old out_new : Option (List ℕ)) (reported : Result Unit Fault) where
  pub ok_at_devices : (Q : Type 0) → ((written report : Port) (ran : Result Unit Fault) → P written report ran → OnOk ran Q) → AtDevices P old new out_old out_new reported → OnOk reported Q
  ok_at_devices Q weaker at = ok_settled Q _ Report out_old _ out_new at.rest reported (ok_settled Q _ Replies old _ new at.ran at.rest (weaker _ _ at.ran at.says) at.replies) at.report

  pub fault_at_devices : (Q : Fault → Type 0) → Q (Write Replies) → Q (Write Report) → ((written report : Port) (ran : Result Unit Fault) → P written report ran → IfErr ran Q)
      → AtDevices P old new out_old out_new reported → IfErr reported Q
  fault_at_devices Q replies report weaker at = fault_settled Q _ Report out_old _ out_new at.rest reported report (fault_settled Q _ Replies old _ new at.ran at.rest replies (weaker _ _ at.ran at.says) at.replies) at.report
