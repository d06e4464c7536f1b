use Rattle.std.proofs.Common.{◌≡◌, ◌∙◌, sym, ap, true, map}
use Rattle.clap.specs.Words.{App, fault_of, is_simple, is_simple_and_free, kind_of, subcommand_of, takes}
use Rattle.clap.specs.declared.error.ErrorKind.TheVariants.{OutOfMemory}
use Rattle.command_line.specs.CommandLine.{command_line}
use Rattle.command_line.proofs.Clap.{free, refused, simple}
use Rattle.command_line.proofs.words.matches_of.Goals as goal

pub returns-in-Ok-clause-ok : goal.returns-in-Ok-clause-ok
returns-in-Ok-clause-ok g c =
    let words = map g.S.AsStr.text c.args.words.now in
    (c.in-Ok.ensures.matches (ap is_simple c.in_ok-command.ensures ∙ simple)).1
    ∙ ap (λ (a : App). subcommand_of a words) c.in_ok-command.ensures

pub returns-in-Ok-clause-taken : goal.returns-in-Ok-clause-taken
returns-in-Ok-clause-taken g c =
    let words = map g.S.AsStr.text c.args.words.now in
    sym (ap (λ (a : App). fault_of a words) c.in_ok-command.ensures)
    ∙ c.in-Ok.ensures.kinds (ap is_simple_and_free c.in_ok-command.ensures ∙ free)

pub returns-in-Err-clause-fault : goal.returns-in-Err-clause-fault
returns-in-Err-clause-fault g c =
    let words = map g.S.AsStr.text c.args.words.now in
    let passes : takes command_line words ≡ true → kind_of c.in-Err.error ≡ OutOfMemory =
    λ taken. c.in-Err.ensures.passes (ap (λ (a : App). takes a words) c.in_ok-command.ensures ∙ taken) in
    refused words _ c.in-Err.error c.refusal.result (ap (λ (a : App). fault_of a words) c.in_ok-command.ensures) passes
    (c.in-Err.ensures.kinds (ap is_simple_and_free c.in_ok-command.ensures ∙ free)) c.refusal.ensures
