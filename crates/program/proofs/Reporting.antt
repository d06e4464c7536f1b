-- From what the parts of a run with a report say to what the run says, and to what the program says.
use Rattle.devices.specs.Devices.{CountsBy, fresh}
use Rattle.captures.specs.Passes.{AttributesReads, leaves_reads_unreported}
use Rattle.command_line.specs.declared.words.Engine.{Engine}
use Rattle.command_line.specs.declared.words.Engine.TheVariants as engines
use Rattle.std.proofs.Common.{◌≡◌, ◌∙◌, ℕ, Bool, List, Option, Result, Ok, Err, ap, inl, subst, sym, OnOk, IfErr}
use Rattle.paths.specs.declared.file.File.{File}
use Rattle.paths.specs.SnapshotFaults.{ReadsWhole}
use Rattle.paths.specs.Snapshots.{IsSnapshot}
use Rattle.reference.specs.declared.summary.Outcome.{Outcome}
use Rattle.captures.specs.declared.pass_fault.PassFault.{PassFault}
use Rattle.reference.specs.Reference.{Choice, Terms}
use Rattle.reference.specs.Outcomes.{Leaves}
use Rattle.faults.specs.declared.fault.Fault.{Fault}
use Rattle.faults.specs.declared.fault.Fault.TheVariants.{Snapshot, Replay, Write, Memory}
use Rattle.faults.specs.declared.fault.Place.TheVariants as places
use Rattle.program.specs.Bundles.{HoldsCapture}
use Rattle.program.specs.declared.wanted.Wanted.{Wanted}
use Rattle.program.specs.declared.wanted.Wanted.TheVariants as wants
use Rattle.runs.specs.Ports.{Port}
use Rattle.program.specs.Replays.{OfSnapshot, Ports, ports, HasWritten, IsReplayFault, IsFilesFault, FilesSays, unreported_by, wanted_of}
use Rattle.program.proofs.Programs.{first_of_replay}
use Rattle.runs.proofs.Settling.{ok_weaker, fault_weaker}

-- a replay after a whole snapshot came to no end
pub stops_after : (wanted : Wanted) (choice : Choice) (snapshot read capture ahead : Option (List ℕ)) (files : List File) (old new : Option (List ℕ)) (f : PassFault) → ReadsWhole snapshot read files → IsSnapshot files
    → Leaves (wanted_of wanted files choice.served) capture ahead old new f
    → OfSnapshot snapshot (λ its. Leaves (wanted_of wanted its choice.served) capture ahead old new f)
stops_after wanted choice snapshot read capture ahead files old new f whole rules leaves = record {
  files = files;
  rules = rules;
  text = whole.text;
  holds = leaves;
}

-- a weaker fact of the files
files_weaker : (snapshot : Option (List ℕ)) (P Q : List File → Type 0) → ((files : List File) → P files → Q files) → OfSnapshot snapshot P → OfSnapshot snapshot Q
files_weaker snapshot P Q weaker its = record {
  files = its.files;
  rules = its.rules;
  text = its.text;
  holds = weaker its.files its.holds;
}

-- a fault of the run is one of the program
reported_of_replay : (wanted : Wanted) (choice : Choice) (at : Ports) (f : Fault) → IsReplayFault wanted choice at f → IsFilesFault at.snapshot.old.bytes at.capture.old.bytes f
reported_of_replay wanted choice at (Snapshot f) says = says.0
reported_of_replay wanted choice at (Replay f) says =
    files_weaker at.snapshot.old.bytes _ _ (λ files leaves. first_of_replay (wanted_of wanted files choice.served) at.capture.old.bytes at.capture.new.bytes at.written.old.bytes at.written.new.bytes f leaves) says.0
reported_of_replay wanted choice at (Write places.Report) says = tt
reported_of_replay wanted choice at Memory says = tt
reported_of_replay wanted choice at other says = absurd says

-- what the run says is what the program says
pub files_fault : (wanted : Wanted) (choice : Choice) (snapshot capture : Option (List ℕ)) (written report : Port) (ran : Result Unit Fault) → FilesSays wanted choice snapshot capture written report ran
    → IfErr ran (IsFilesFault snapshot capture)
files_fault wanted choice snapshot capture written report ran says =
    fault_weaker _ _ ran (reported_of_replay wanted choice (ports (fresh snapshot) says.0 (fresh capture) says.1 written.old written.new report.old report.new)) says.2.1

-- where it came to its end, the capture that it answered is a capture's text
is_text : (wanted : Wanted) (files : List File) (terms : Terms) (capture : Option (List ℕ)) (written : Port) (outcome : Outcome) → HasWritten wanted files terms capture written outcome → HoldsCapture files capture
is_text (wants.Replies engine) files terms capture written outcome h known = (let c = h.read.capture in (c.version, c.start, c.records, c.text known))
is_text wants.Rows files terms capture written outcome h known = (let c = h.read.capture in (c.version, c.start, c.records, c.text known))

pub files_ok : (wanted : Wanted) (choice : Choice) (snapshot capture : Option (List ℕ)) (written report : Port) (ran : Result Unit Fault) → FilesSays wanted choice snapshot capture written report ran
    → OnOk ran (OfSnapshot snapshot (λ files. HoldsCapture files capture))
files_ok wanted choice snapshot capture written report ran says =
    ok_weaker _ _ ran (files_weaker snapshot _ (λ files. HoldsCapture files capture) (λ files answer known. is_text wanted files choice.served capture written answer.outcome answer.answer known)) says.2.0

-- a device that is reported exactly is so, whatever may go unreported
pub exactly : {X E : Type 0} (r : Result X E) (attributed : E → ℕ) (unreported : E → Bool) (old new : ℕ) → CountsBy attributed old new r → AttributesReads attributed unreported old new r
exactly (Ok x) attributed unreported old new h = h
exactly (Err e) attributed unreported old new h = inl h

pub staged_unreported : {X : Type 0} (w : Wanted) (e : Engine) (r : Result X PassFault) (attributed : PassFault → ℕ) (old new : ℕ) → w ≡ wants.Replies e → e ≡ engines.Staged
    → AttributesReads attributed leaves_reads_unreported old new r → AttributesReads attributed (unreported_by w) old new r
staged_unreported w e r attributed old new is staged h =
    subst (λ (x : Wanted). AttributesReads attributed (unreported_by x) old new r) (sym (is ∙ ap wants.Replies staged)) h
