-- From what a run with a buffer before each output says to what the program says of its files.
use Rattle.std.proofs.Common.{◌≡◌, inl, inr, ap, subst, sym, List, ℕ, Option, Result, OnOk, IfErr}
use Rattle.devices.specs.Devices.{Device, fresh}
use Rattle.reference.specs.Reference.{Choice}
use Rattle.faults.specs.declared.fault.Fault.{Fault}
use Rattle.faults.specs.declared.fault.Fault.TheVariants.{Write, Memory}
use Rattle.faults.specs.declared.fault.Place.TheVariants.{Replies, Report}
use Rattle.program.specs.declared.wanted.Wanted.{Wanted}
use Rattle.runs.specs.Ports.{Port, RunsAtBoth, port}
use Rattle.program.specs.Replays.{FilesSays, ReplaySays}
use Rattle.runs.proofs.Settling.{fault_at_devices, ok_at_devices}

-- of fresh inputs of these bytes
pub said_of_files : (wanted : Wanted) (choice : Choice) (snapshot capture : Option (List ℕ)) (s s' c c' : Device) (written report : Port) (ran : Result Unit Fault) → s ≡ fresh snapshot → c ≡ fresh capture
    → ReplaySays wanted choice (port s s') (port c c') written report ran → FilesSays wanted choice snapshot capture written report ran
said_of_files wanted choice snapshot capture s s' c c' written report ran is other_is says = (
  s',
  c',
  subst (λ (d : Device). ReplaySays wanted choice (port d s') (port (fresh capture) c') written report ran) is
      (subst (λ (d : Device). ReplaySays wanted choice (port s s') (port d c') written report ran) other_is says),
)

-- what is weaker of a run over two outputs
module _ (P Q : Port → Port → Result Unit Fault → Type 0) (old new out_old out_new : Option (List ℕ)) (reported : Result Unit Fault) where
  pub both_weaker : ((written report : Port) (ran : Result Unit Fault) → P written report ran → Q written report ran) → RunsAtBoth P old new out_old out_new reported → RunsAtBoth Q old new out_old out_new reported
  both_weaker weaker (inl refused) = inl refused
  both_weaker weaker (inr at) = inr (record {
    ran = at.ran;
    whole = at.whole;
    out_whole = at.out_whole;
    rest = at.rest;
    says = weaker _ _ at.ran at.says;
    replies = at.replies;
    report = at.report;
  })

module _ (P : Port → Port → Result Unit Fault → Type 0) (old new out_old out_new : Option (List ℕ)) (reported : Result Unit Fault) where
  pub both_ok : (Q : Type 0) → ((written report : Port) (ran : Result Unit Fault) → P written report ran → OnOk ran Q) → RunsAtBoth P old new out_old out_new reported → OnOk reported Q
  both_ok Q weaker (inl refused) = rw refused.0.0 tt
  both_ok Q weaker (inr at) = ok_at_devices P old new out_old out_new reported Q weaker at

  pub both_fault : (Q : Fault → Type 0) → Q Memory → Q (Write Replies) → Q (Write Report) → ((written report : Port) (ran : Result Unit Fault) → P written report ran → IfErr ran Q)
      → RunsAtBoth P old new out_old out_new reported → IfErr reported Q
  both_fault Q memory replies report weaker (inl refused) = rw refused.0.0 memory
  both_fault Q memory replies report weaker (inr at) = fault_at_devices P old new out_old out_new reported Q replies report weaker at

-- a run over fresh devices is one over files
pub run_of_files : (wanted : Wanted) (choice : Choice) (snapshot capture : Option (List ℕ)) (s s' c c' w w' r r' : Device) (old new out_old out_new : Option (List ℕ)) (reported : Result Unit Fault) → s ≡ fresh snapshot → c ≡ fresh capture
    → w ≡ fresh old → new ≡ w'.bytes → r ≡ fresh out_old → out_new ≡ r'.bytes → RunsAtBoth (ReplaySays wanted choice (port s s') (port c c')) w.bytes w'.bytes r.bytes r'.bytes reported
    → RunsAtBoth (FilesSays wanted choice snapshot capture) old new out_old out_new reported
run_of_files wanted choice snapshot capture s s' c c' w w' r r' old new out_old out_new reported s_is c_is w_is new_is r_is out_is runs =
    let Says : Port → Port → Result Unit Fault → Type 0 = FilesSays wanted choice snapshot capture in
    let at : RunsAtBoth Says w.bytes w'.bytes r.bytes r'.bytes reported =
    both_weaker (ReplaySays wanted choice (port s s') (port c c')) Says w.bytes w'.bytes r.bytes r'.bytes reported (λ written report ran says. said_of_files wanted choice snapshot capture s s' c c' written report ran s_is c_is says) runs in
    subst (λ (x : Option (List ℕ)). RunsAtBoth Says x new out_old out_new reported) (ap (λ (d : Device). d.bytes) w_is)
    (subst (λ (x : Option (List ℕ)). RunsAtBoth Says w.bytes x out_old out_new reported) (sym new_is)
    (subst (λ (x : Option (List ℕ)). RunsAtBoth Says w.bytes w'.bytes x out_new reported) (ap (λ (d : Device). d.bytes) r_is)
    (subst (λ (x : Option (List ℕ)). RunsAtBoth Says w.bytes w'.bytes r.bytes x reported) (sym out_is) at)))
