use Rattle.std.proofs.Common.{codes}
use Rattle.std.proofs.lemmas.Result.{IfOk-weaker}
use Rattle.clap.specs.Words.{AddsArg, new_app}
use Rattle.clap.specs.declared.builder.Command.{Command}
use Rattle.command_line.specs.CommandLine.{settings_command}
use Rattle.command_line.proofs.Clap.{HasRules, added}
use Rattle.command_line.proofs.commands.settings_command.Goals as goal

pub returns : goal.returns
unfolding settings_command
returns c =
    let start : HasRules c.after_help.result (new_app (codes "settings")) = record {
      app_is = rw (c.after_help.ensures, c.about.ensures) c.new.ensures.app;
      local = rw (c.after_help.ensures, c.about.ensures) c.new.ensures.local;
    } in
    let whole : (command : Command) → AddsArg c.after_help.result c.settings_option.result command → HasRules command settings_command =
    λ command adds. added c.after_help.result command c.settings_option.result _ _ start adds c.settings_option.ensures.rule c.settings_option.ensures.local in
    record {
      app = IfOk-weaker c.arg.result _ _ (λ command adds. (whole command adds).app_is) c.arg.ensures;
      local = IfOk-weaker c.arg.result _ _ (λ command adds. (whole command adds).local) c.arg.ensures;
    }
