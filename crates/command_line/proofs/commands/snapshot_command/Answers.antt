use Rattle.std.proofs.Common.{codes}
use Rattle.std.proofs.lemmas.Result.{IfOk-weaker}
use Rattle.clap.specs.Words.{AddsArg, new_app}
use Rattle.clap.specs.declared.builder.Command.{Command}
use Rattle.command_line.specs.CommandLine.{snapshot_command}
use Rattle.command_line.proofs.Clap.{HasRules, added}
use Rattle.command_line.proofs.commands.snapshot_command.Goals as goal

pub returns : goal.returns
unfolding snapshot_command
returns c =
    let start : HasRules c.after_help.result (new_app (codes "snapshot")) = record {
      app_is = rw (c.after_help.ensures, c.about.ensures) c.new.ensures.app;
      local = rw (c.after_help.ensures, c.about.ensures) c.new.ensures.local;
    } in
    let one = added c.after_help.result c.in_ok-arg.field-0 c.folder_option.result _ _ start c.in_ok-arg.ensures c.folder_option.ensures.rule c.folder_option.ensures.local in
    let two = added c.in_ok-arg.field-0 c.in_ok-arg-2.field-0 c.required_file.result _ _ one c.in_ok-arg-2.ensures c.required_file.ensures.rule c.required_file.ensures.local in
    let whole : (command : Command) → AddsArg c.in_ok-arg-2.field-0 c.flag.result command → HasRules command snapshot_command =
    λ command adds. added c.in_ok-arg-2.field-0 command c.flag.result _ _ two adds c.flag.ensures.rule c.flag.ensures.local in
    record {
      app = IfOk-weaker c.arg-3.result _ _ (λ command adds. (whole command adds).app_is) c.arg-3.ensures;
      local = IfOk-weaker c.arg-3.result _ _ (λ command adds. (whole command adds).local) c.arg-3.ensures;
    }
