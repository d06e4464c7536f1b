use Rattle.std.proofs.Common.{codes}
use Rattle.std.proofs.lemmas.Result.{IfOk-weaker}
use Rattle.clap.specs.Words.{AddsArg, new_app}
use Rattle.clap.specs.declared.builder.Command.{Command}
use Rattle.command_line.specs.CommandLine.{slim_command}
use Rattle.command_line.proofs.Clap.{HasRules, added}
use Rattle.command_line.proofs.commands.slim_command.Goals as goal

pub returns : goal.returns
unfolding slim_command
returns c =
    let start : HasRules c.after_help.result (new_app (codes "slim")) = record {
      app_is = rw (c.after_help.ensures, c.about.ensures) c.new.ensures.app;
      local = rw (c.after_help.ensures, c.about.ensures) c.new.ensures.local;
    } in
    let one = added c.after_help.result c.in_ok-arg.field-0 c.required_file.result _ _ start c.in_ok-arg.ensures c.required_file.ensures.rule c.required_file.ensures.local in
    let two = added c.in_ok-arg.field-0 c.in_ok-arg-2.field-0 c.required_file-2.result _ _ one c.in_ok-arg-2.ensures c.required_file-2.ensures.rule c.required_file-2.ensures.local in
    let three = added c.in_ok-arg-2.field-0 c.in_ok-arg-3.field-0 c.format_option.result _ _ two c.in_ok-arg-3.ensures c.format_option.ensures.rule c.format_option.ensures.local in
    let whole : (command : Command) → AddsArg c.in_ok-arg-3.field-0 c.flag.result command → HasRules command slim_command =
    λ command adds. added c.in_ok-arg-3.field-0 command c.flag.result _ _ three adds c.flag.ensures.rule c.flag.ensures.local in
    record {
      app = IfOk-weaker c.arg-4.result _ _ (λ command adds. (whole command adds).app_is) c.arg-4.ensures;
      local = IfOk-weaker c.arg-4.result _ _ (λ command adds. (whole command adds).local) c.arg-4.ensures;
    }
