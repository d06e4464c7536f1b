-- The state of an engine between two steps: each takes the next record, or the next batch, and answers the messages
-- that arrive with it.
use Rattle.std.specs.Prelude.{◌≡◌, ℕ, ◌≤◌, Bool, true, false, List, Option}
use Rattle.std.specs.Io.KnownBytes.{Appends}
use Rattle.devices.specs.Reference.{WhereKnown}
use Rattle.captures.specs.declared.record.Record.{Record}
use Rattle.captures.specs.declared.version.Version.{Version}
use Rattle.captures.specs.declared.progress.Progress.{Progress}
use Rattle.captures.specs.Reference.{format_of, IsCapture, IsCaptureText}
use Rattle.captures.specs.Readers.{ReaderAfter, progress_of, device_of}
use Rattle.captures.specs.declared.reader.CaptureReader.{CaptureReader}
use Rattle.captures.specs.declared.pass_fault.PassFault.{PassFault}
use Rattle.arrivals.specs.Reference.{Arrival}
use Rattle.arrivals.specs.Connections.{AreTiers}
use Rattle.reference.specs.Reference.{Terms}
use Rattle.reference.specs.Texts.{Texts, AreTexts}
use Rattle.reference.specs.Outcomes.{Leaves}
use Rattle.replay.specs.Serving.{Serves}
use Rattle.replay.specs.States.{EngineState, state_of}
use Rattle.replay.specs.declared.engine.Engine.{Engine}
use Rattle.paths.specs.declared.file.File.{File}

-- These records were read, and the text of the messages that arrived with them, so many at most, was written after what
-- was there before the replay.
pub record HasAnswered (t : Texts) (files : List File) (terms : Terms) (version : Version) (records : List Record)
    (arrivals : List Arrival) (state : EngineState) (begun new : Option (List ℕ)) : Type 0 where
  pub laws : AreTexts t
  pub serves : Serves files terms records arrivals state.connections state.decider
  pub written : Appends begun new (t.so_far state.decider.start arrivals)
  pub limit : state.decider.most ≡ (format_of version).max_messages
  pub within : state.decider.totals.answered ≤ state.decider.most

-- Some records were read of the capture, and answered. When the replay began, `text` was ahead to be read, and `begun`
-- was written.
pub record Between (t : Texts) (files : List File) (terms : Terms) (version : Version) (text begun : Option (List ℕ))
    (progress : Progress) (ahead : Option (List ℕ)) (state : EngineState) (written : Option (List ℕ)) : Type 0 where
  pub records : List Record
  pub arrivals : List Arrival
  pub read : ReaderAfter version text state.decider.start records progress ahead
  pub tiers_are : AreTiers records state.tiers
  pub answered : HasAnswered t files terms version records arrivals state begun written

-- all records of the capture were read, and answered
pub record AtEnd (t : Texts) (files : List File) (terms : Terms) (version : Version) (text begun : Option (List ℕ))
    (state : EngineState) (written : Option (List ℕ)) : Type 0 where
  pub records : List Record
  pub arrivals : List Arrival
  pub rules : IsCapture version state.decider.start records
  pub whole : WhereKnown text (λ bytes. IsCaptureText version bytes state.decider.start records)
  pub answered : HasAnswered t files terms version records arrivals state begun written

-- a step was taken, after which there may be more records or not
abbrev pub Stepped : Bool → Texts → List File → Terms → Version → (text begun : Option (List ℕ)) → Progress
    → Option (List ℕ) → EngineState → Option (List ℕ) → Type 0
Stepped true t files terms version text begun progress ahead state written =
    Between t files terms version text begun progress ahead state written
Stepped false t files terms version text begun progress ahead state written =
    AtEnd t files terms version text begun state written

-- How far the capture was read, and what is ahead there; what the engine has come to, and what is written.
pub record Place : Type 0 where
  pub progress : Progress
  pub ahead : Option (List ℕ)
  pub state : EngineState
  pub written : Option (List ℕ)

abbrev pub place_of : {R S : Type 0} → CaptureReader R → Engine S → Option (List ℕ) → Place
place_of capture engine written = record {
  progress = progress_of capture;
  ahead = (device_of capture).bytes;
  state = state_of engine;
  written = written;
}

-- this is a place between two steps
abbrev pub IsBetween : Texts → List File → Terms → Place → Type 0
IsBetween t files terms place = (version : Version) × (text : Option (List ℕ)) × (begun : Option (List ℕ))
    × Between t files terms version text begun place.progress place.ahead place.state place.written

-- a step leads from one to another, or to the end
abbrev pub GoesOn : Texts → List File → Terms → Place → Bool → Place → Type 0
GoesOn t files terms before more after = (version : Version) (text begun : Option (List ℕ))
    → Between t files terms version text begun before.progress before.ahead before.state before.written
    → Stepped more t files terms version text begun after.progress after.ahead after.state after.written

-- a step from there has stopped at this fault
abbrev pub StopsFrom : Texts → List File → Terms → Place → Place → PassFault → Type 0
StopsFrom t files terms before after f = (version : Version) (text begun : Option (List ℕ))
    → Between t files terms version text begun before.progress before.ahead before.state before.written
    → Leaves t text after.ahead begun after.written f
