-- From what the parts of a run say to what the run says.
use Rattle.std.proofs.Common.{◌≡◌, ℕ, List, Option, subst}
use Rattle.paths.specs.declared.file.File.{File}
use Rattle.paths.specs.Snapshots.{IsSnapshot}
use Rattle.paths.specs.SnapshotFaults.{ReadsFront}
use Rattle.captures.specs.declared.pass_fault.PassFault.{PassFault}
use Rattle.reference.specs.declared.summary.Outcome.{Outcome}
use Rattle.reference.specs.Reference.{Choice, Answers}
use Rattle.reference.specs.Outcomes.{Leaves}
use Rattle.reference.specs.Texts.{reply_texts}
use Rattle.settings.specs.SettingsTable.{default_choice}
use Rattle.program.specs.Bundles.{AfterSnapshot, WritesAnswer}

-- a snapshot was read from the input, as a prefix, and P holds of the rest
following : (old new : Option (List ℕ)) (files : List File) (P : List File → Option (List ℕ) → Type 0) → ReadsFront old new files → IsSnapshot files
    → P files new → AfterSnapshot old P
following old new files P reads rules holds = record {
  files = files;
  rest = new;
  rules = rules;
  text = λ known. record { text = reads.text known; rules = rules; size = reads.size known };
  known = reads.known;
  after = holds;
}

-- the capture after a snapshot was answered
pub answers_after : (files : List File) (choice : Choice) (input rest old new : Option (List ℕ)) (outcome : Outcome) → choice ≡ default_choice
    → ReadsFront input rest files → IsSnapshot files → Answers files choice.served rest old new outcome
    → AfterSnapshot input (WritesAnswer old new)
answers_after files choice input rest old new outcome is reads rules answers =
    following input rest files (WritesAnswer old new) reads rules
    (outcome, subst (λ (c : Choice). Answers files c.served rest old new outcome) is answers)

-- or it came to no end
pub stops_after_snapshot : (files : List File) (choice : Choice) (input rest ahead old new : Option (List ℕ)) (f : PassFault) → choice ≡ default_choice
    → ReadsFront input rest files → IsSnapshot files
    → Leaves (reply_texts files choice.served) rest ahead old new f
    → AfterSnapshot input (λ its capture. Leaves (reply_texts its default_choice.served) capture ahead old new f)
stops_after_snapshot files choice input rest ahead old new f is reads rules leaves =
    following input rest files _ reads rules (subst (λ (c : Choice). Leaves (reply_texts files c.served) rest ahead old new f) is leaves)
