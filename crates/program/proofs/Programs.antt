-- From what a run says to what the program says.
use Rattle.devices.specs.Devices.{fresh}
use Rattle.std.proofs.Common.{◌≡◌, ℕ, List, Option, false, Result, OnOk, IfErr}
use Rattle.paths.specs.declared.file.File.{File}
use Rattle.captures.specs.CaptureFaults.{is_unforeseen_kind, IsFirstFault}
use Rattle.captures.specs.declared.pass_fault.PassFault.{PassFault}
use Rattle.captures.specs.declared.pass_fault.PassFault.TheVariants as replays
use Rattle.devices.specs.Reference.{WhereKnown}
use Rattle.reference.specs.Outcomes.{IfCapture, Leaves}
use Rattle.captures.proofs.PassLemmas.{first_of_stop}
use Rattle.reference.specs.Texts.{Texts, reply_texts}
use Rattle.faults.specs.declared.fault.Fault.{Fault}
use Rattle.faults.specs.declared.fault.Fault.TheVariants.{Snapshot, Replay, Memory}
use Rattle.settings.specs.SettingsTable.{default_choice}
use Rattle.program.specs.Bundles.{AfterSnapshot, BundleSays, HoldsCapture, IsBundleFault, IsProgramFault, WritesAnswer}
use Rattle.runs.specs.Ports.{Port, Reads, port}
use Rattle.runs.proofs.Settling.{ok_weaker, fault_weaker}

-- where a replay stops, the capture's fault is the first of its text
pub first_of_replay : (t : Texts) (input ahead old new : Option (List ℕ)) (f : PassFault) → Leaves t input ahead old new f
    → IfCapture f (λ g. is_unforeseen_kind g.kind ≡ false → WhereKnown input (λ bytes. IsFirstFault bytes g))
first_of_replay t input ahead old new (replays.Capture f) leaves = (leaves.0, first_of_stop input ahead _ _ f leaves.1)
first_of_replay t input ahead old new (replays.TooMany number) leaves = tt
first_of_replay t input ahead old new replays.Write leaves = tt
first_of_replay t input ahead old new replays.Memory leaves = tt

-- a weaker fact of the rest
pub after_weaker : (input : Option (List ℕ)) (P Q : List File → Option (List ℕ) → Type 0) → ((files : List File) (rest : Option (List ℕ)) → P files rest → Q files rest)
    → AfterSnapshot input P → AfterSnapshot input Q
after_weaker input P Q weaker b = record {
  files = b.files;
  rest = b.rest;
  rules = b.rules;
  text = b.text;
  known = b.known;
  after = weaker b.files b.rest b.after;
}

-- a fault of the run is one of the program
reported_of_run : (input output : Port) (f : Fault) → IsBundleFault input output f → IsProgramFault input.old.bytes f
reported_of_run input output (Snapshot f) says = says.0
reported_of_run input output (Replay f) says =
    after_weaker input.old.bytes _ _ (λ files rest leaves. first_of_replay (reply_texts files default_choice.served) rest input.new.bytes output.old.bytes output.new.bytes f leaves) says
reported_of_run input output Memory says = tt
reported_of_run input output other says = absurd says

-- what the run says is what the program says
pub program_fault : (input : Option (List ℕ)) (output : Port) (ran : Result Unit Fault) → Reads BundleSays input output ran → IfErr ran (IsProgramFault input)
program_fault input output ran says = fault_weaker _ _ ran (reported_of_run (port (fresh input) says.0) output) says.1.1

-- where it came to its end, the capture that it answered is a capture's text
pub program_ok : (input : Option (List ℕ)) (output : Port) (ran : Result Unit Fault) → Reads BundleSays input output ran → OnOk ran (AfterSnapshot input HoldsCapture)
program_ok input output ran says =
    ok_weaker _ _ ran (after_weaker input (WritesAnswer output.old.bytes output.new.bytes) HoldsCapture (λ files rest answer known. (let c = answer.1.read.capture in (c.version, c.start, c.records, c.text known)))) says.1.0
