use Rattle.std.proofs.Common.{codes}
use Rattle.std.proofs.lemmas.Result.{IfOk-weaker}
use Rattle.clap.specs.Words.{AddsArg, new_app}
use Rattle.clap.specs.declared.builder.Command.{Command}
use Rattle.command_line.specs.CommandLine.{inspect_command}
use Rattle.command_line.proofs.Clap.{HasRules, added}
use Rattle.command_line.proofs.commands.inspect_command.Goals as goal

pub returns : goal.returns
unfolding inspect_command
returns c =
    let start : HasRules c.after_help.result (new_app (codes "inspect")) = record {
      app_is = rw (c.after_help.ensures, c.about.ensures) c.new.ensures.app;
      local = rw (c.after_help.ensures, c.about.ensures) c.new.ensures.local;
    } in
    let whole : (command : Command) → AddsArg c.after_help.result c.required_file.result command → HasRules command inspect_command =
    λ command adds. added c.after_help.result command c.required_file.result _ _ start adds c.required_file.ensures.rule c.required_file.ensures.local in
    record {
      app = IfOk-weaker c.arg.result _ _ (λ command adds. (whole command adds).app_is) c.arg.ensures;
      local = IfOk-weaker c.arg.result _ _ (λ command adds. (whole command adds).local) c.arg.ensures;
    }
