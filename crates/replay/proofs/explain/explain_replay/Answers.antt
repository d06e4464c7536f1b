use Rattle.std.proofs.Common.{ℕ, List, Option}
use Rattle.reference.specs.Reference.{Terms}
use Rattle.replay.specs.Serving.{WritesWhole}
use Rattle.reference.specs.Explaining.{Explains, row_texts}
use Rattle.reference.specs.declared.summary.Outcome.{Outcome}
use Rattle.replay.proofs.Judging.{if_ok}
use Rattle.replay.proofs.explain.explain_replay.Goals as goal
use Rattle.paths.specs.declared.file.File.{File}

-- what was reported is the table
explains_written : (files : List File) (terms : Terms) (input old new : Option (List ℕ)) (outcome : Outcome)
    → WritesWhole (row_texts files terms) files terms input old new outcome → Explains files terms input old new outcome
explains_written files terms input old new outcome h = record { read = h.read; written = h.written; outcome_is = h.outcome_is }

pub returns-clause-ok : goal.returns-clause-ok
returns-clause-ok g c =
    if_ok c.replay_writing.result _ _ (explains_written g.F.Tree.files c.args.settings.now.served _ _ _)
    c.replay_writing.ensures.ok
