-- What is written after a replay by the staged engine.
use Rattle.std.specs.Prelude.{ℕ, List, Option, Result, IfOk, IfErr}
use Rattle.devices.specs.Devices.{CountsBy}
use Rattle.captures.specs.declared.pass_fault.PassFault.{PassFault}
use Rattle.captures.specs.Passes.{AttributesReads, leaves_reads_unreported, reader_failures, writer_failures}
use Rattle.reference.specs.declared.summary.Outcome.{Outcome}
use Rattle.reference.specs.Reference.{Terms, Answers}
use Rattle.reference.specs.Texts.{Texts, reply_texts}
use Rattle.reference.specs.Outcomes.{Leaves}
use Rattle.paths.specs.declared.file.File.{File}

-- what is written where it stopped, as a record
pub record Stopped (t : Texts) (input ahead old new : Option (List ℕ)) (f : PassFault) : Type 0 where
  pub leaves : Leaves t input ahead old new f

-- All that is known of a replay: what is written at a fault, which device is reported, and what is written at its end.
-- `input` was ahead before it, `ahead` is after it, and each device had failed so often before it and after it.
pub record Replayed (files : List File) (terms : Terms) (input ahead old new : Option (List ℕ))
    (unread unread_after unwritten unwritten_after : ℕ) (result : Result Outcome PassFault) : Type 0 where
  pub fault : IfErr result (Leaves (reply_texts files terms) input ahead old new)
  pub reads : AttributesReads reader_failures leaves_reads_unreported unread unread_after result
  pub writes : CountsBy writer_failures unwritten unwritten_after result
  pub ok : IfOk result (Answers files terms input old new)
