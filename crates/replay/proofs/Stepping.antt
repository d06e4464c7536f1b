-- How an engine comes from one step to the next, and where it stops.
use Rattle.std.proofs.Common.{◌≡◌, ℕ, ◌+◌, ◌≤◌, ◌⊎◌, inl, inr, Bool, true, false, List, ◌++◌, length, Option, None, Ok, Err, ◌∙◌, sym, subst, arith}
use Rattle.captures.specs.declared.record.Record.{Record}
use Rattle.captures.specs.declared.version.Version.{Version}
use Rattle.captures.specs.declared.progress.Progress.{Progress}
use Rattle.captures.specs.declared.capture_fault.CaptureFault.{CaptureFault}
use Rattle.captures.specs.declared.pass_fault.PassFault.{PassFault}
use Rattle.captures.specs.CaptureFaults.{IsForeseen, IsFaultAfter}
use Rattle.captures.specs.Reference.{format_of}
use Rattle.captures.specs.Readers.{ReaderAfter, Gave, FailsNext}
use Rattle.captures.specs.Passes.{pass_fault}
use Rattle.arrivals.specs.Reference.{Arrival}
use Rattle.arrivals.specs.Connections.{AreTiers}
use Rattle.reference.specs.Reference.{Terms}
use Rattle.reference.specs.Outcomes.{IfTooMany, IfCutShort, IsCutOff, IsOwn, Leaves}
use Rattle.reference.specs.Texts.{Texts}
use Rattle.replay.specs.Between.{HasAnswered, Between, AtEnd, Stepped}
use Rattle.replay.specs.Replayed.{Stopped}
use Rattle.replay.specs.States.{EngineState}
use Rattle.std.specs.Prelude.{Result, IfErr}
use Rattle.replay.specs.Serving.{SameCapture, WritesMore, WritesFull, WritesInPart}
use Rattle.replay.proofs.Judging.{on_many, on_cut}
use Rattle.replay.proofs.ByRecord.{gave_end, own_leaves, cut_among, cut_part, halts_full, halts_written}
use Rattle.replay.proofs.Texts.{text_wrote}
use Rattle.paths.specs.declared.file.File.{File}

-- more records were read and answered
pub answered_more : (t : Texts) (files : List File) (terms : Terms) (version : Version) (records rs : List Record) (arrivals : List Arrival) (before after : EngineState) (begun mid new : Option (List ℕ))
    → HasAnswered t files terms version records arrivals before begun mid → (step : WritesMore t files terms records arrivals rs after.connections after.decider mid new) → SameCapture before.decider after.decider → after.decider.totals.answered ≤ after.decider.most
    → HasAnswered t files terms version (records ++ rs) (arrivals ++ step.more) after begun new
answered_more t files terms version records rs arrivals before after begun mid new a step same within = record {
  laws = a.laws;
  serves = step.serves;
  written = rw same.0 (text_wrote t before.decider.start arrivals step.more begun mid new a.laws a.written (rw same.0 at step.written));
  limit = same.1 ∙ a.limit;
  within = within;
}

pub between_more : (t : Texts) (files : List File) (terms : Terms) (version : Version) (text begun : Option (List ℕ)) (p p-after : Progress) (ahead ahead-after : Option (List ℕ)) (before after : EngineState) (mid new : Option (List ℕ))
    → (b : Between t files terms version text begun p ahead before mid) (rs : List Record)
    → ReaderAfter version text before.decider.start (b.records ++ rs) p-after ahead-after → AreTiers (b.records ++ rs) after.tiers
    → WritesMore t files terms b.records b.arrivals rs after.connections after.decider mid new → SameCapture before.decider after.decider → after.decider.totals.answered ≤ after.decider.most
    → Between t files terms version text begun p-after ahead-after after new
between_more t files terms version text begun p p-after ahead ahead-after before after mid new b rs read are step same within = record {
  records = b.records ++ rs;
  arrivals = b.arrivals ++ step.more;
  read = rw same.0 read;
  tiers_are = are;
  answered = answered_more t files terms version b.records rs b.arrivals before after begun mid new b.answered step same within;
}

-- the capture has ended
pub ended : (t : Texts) (files : List File) (terms : Terms) (version : Version) (text begun : Option (List ℕ)) (records : List Record) (arrivals : List Arrival) (p p-after : Progress) (ahead ahead-after : Option (List ℕ)) (state : EngineState) (written : Option (List ℕ)) (x : Option Record)
    → HasAnswered t files terms version records arrivals state begun written → ReaderAfter version text state.decider.start records p ahead → x ≡ None
    → Gave version text state.decider.start records (Ok x) p-after ahead-after → AtEnd t files terms version text begun state written
ended t files terms version text begun records arrivals p p-after ahead ahead-after state written x answered read none gave = record {
  records = records;
  arrivals = arrivals;
  rules = read.rules;
  whole = gave_end version text ahead-after state.decider.start records p-after x none gave;
  answered = answered;
}

-- so many messages at most
pub within_format : (t : Texts) (files : List File) (terms : Terms) (version : Version) (records : List Record) (arrivals : List Arrival) (state : EngineState) (begun written : Option (List ℕ))
    → HasAnswered t files terms version records arrivals state begun written → state.decider.totals.answered ≤ (format_of version).max_messages
within_format t files terms version records arrivals state begun written a = let limit = a.limit in let within = a.within in omega (arith, limit, within)

-- the capture has a fault there
pub fault_leaves : (t : Texts) (files : List File) (terms : Terms) (version : Version) (text begun : Option (List ℕ)) (records : List Record) (arrivals : List Arrival) (p : Progress) (ahead left now : Option (List ℕ)) (state : EngineState) (written : Option (List ℕ))
    (f : CaptureFault) (r : PassFault) → HasAnswered t files terms version records arrivals state begun written → ReaderAfter version text state.decider.start records p ahead → r ≡ pass_fault f
    → (f.at ≡ length records + 1) × IsForeseen (λ bytes. IsFaultAfter version bytes state.decider.start records) text f → FailsNext version text state.decider.start records (Err f) left → now ≡ left
    → Leaves t text now begun written r
fault_leaves t files terms version text begun records arrivals p ahead left now state written f r a read is fault failed same =
    halts_written t files terms version text ahead now left begun written state.decider.start records arrivals p state.connections state.decider f r is read a.serves a.written fault failed same
    (within_format t files terms version records arrivals state begun written a)

-- nothing more was written
pub none_leaves : (t : Texts) (files : List File) (terms : Terms) (version : Version) (text begun : Option (List ℕ)) (p : Progress) (ahead : Option (List ℕ)) (state : EngineState) (mid : Option (List ℕ))
    → Between t files terms version text begun p ahead state mid → IsCutOff t text begun mid
none_leaves t files terms version text begun p ahead state mid b =
    cut_among t files terms version text ahead begun mid state.decider.start b.records b.arrivals p state.connections state.decider b.read b.answered.serves b.answered.written
    (within_format t files terms version b.records b.arrivals state begun mid b.answered)

-- the step itself has a fault
pub own_step_leaves : (t : Texts) (files : List File) (terms : Terms) (version : Version) (text begun : Option (List ℕ)) (p p-after : Progress) (ahead ahead-after now : Option (List ℕ)) (state : EngineState) (mid new : Option (List ℕ)) (f : PassFault)
    → (b : Between t files terms version text begun p ahead state mid) (rs : List Record) → ReaderAfter version text state.decider.start (b.records ++ rs) p-after ahead-after → IsOwn f
    → IfTooMany f (λ n. (n ≡ state.decider.most) × WritesFull t state.decider.most state.decider.start b.records b.arrivals rs mid new)
    → IfCutShort f ((new ≡ mid) ⊎ WritesInPart t state.decider.most state.decider.start b.records b.arrivals rs mid new)
    → Leaves t text now begun new f
own_step_leaves t files terms version text begun p p-after ahead ahead-after now state mid new f b rs read own many cut =
    own_leaves t text now begun new f own
    (on_many f _ _ (λ n full. halts_full t version text ahead-after begun mid new state.decider.start n state.decider.most b.records b.arrivals rs p-after b.answered.laws read b.answered.written full.0 b.answered.limit full.1) many)
    (on_cut f _ _
    (λ short. elim short [
      | inl none ↦ subst (λ (w : Option (List ℕ)). IsCutOff t text begun w) (sym none) (none_leaves t files terms version text begun p ahead state mid b)
      | inr part ↦ cut_part t version text ahead-after begun mid new state.decider.start state.decider.most b.records b.arrivals rs p-after b.answered.laws read b.answered.written b.answered.limit part
    ])
    cut)

-- what is written after a step, by what it answers
pub goes_on : (more : Bool) (t : Texts) (files : List File) (terms : Terms) (version : Version) (text begun : Option (List ℕ)) (p : Progress) (ahead : Option (List ℕ)) (state : EngineState) (written : Option (List ℕ))
    → more ≡ true → Stepped more t files terms version text begun p ahead state written → Between t files terms version text begun p ahead state written
goes_on more t files terms version text begun p ahead state written is h = rw is at h

pub is_over : (more : Bool) (t : Texts) (files : List File) (terms : Terms) (version : Version) (text begun : Option (List ℕ)) (p : Progress) (ahead : Option (List ℕ)) (state : EngineState) (written : Option (List ℕ))
    → more ≡ false → Stepped more t files terms version text begun p ahead state written → AtEnd t files terms version text begun state written
is_over more t files terms version text begun p ahead state written is h = rw is at h

-- what is written where a replay stopped, out of its record
pub left_so : {T : Type 0} (r : Result T PassFault) (t : Texts) (input ahead old new : Option (List ℕ)) → IfErr r (Stopped t input ahead old new) → IfErr r (Leaves t input ahead old new)
left_so (Ok x) t input ahead old new h = tt
left_so (Err f) t input ahead old new h = h.leaves
