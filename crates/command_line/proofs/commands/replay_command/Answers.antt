use Rattle.std.proofs.Common.{codes}
use Rattle.std.proofs.lemmas.Result.{IfOk-weaker}
use Rattle.clap.specs.Words.{AddsArg, new_app}
use Rattle.clap.specs.declared.builder.Command.{Command}
use Rattle.command_line.specs.CommandLine.{replay_command}
use Rattle.command_line.proofs.Clap.{HasRules, added}
use Rattle.command_line.proofs.commands.replay_command.Goals as goal

pub returns : goal.returns
unfolding replay_command
returns c =
    let start : HasRules c.after_help.result (new_app (codes "replay")) = record {
      app_is = rw (c.after_help.ensures, c.about.ensures) c.new.ensures.app;
      local = rw (c.after_help.ensures, c.about.ensures) c.new.ensures.local;
    } in
    let one = added c.after_help.result c.in_ok-arg.field-0 c.required_file.result _ _ start c.in_ok-arg.ensures c.required_file.ensures.rule c.required_file.ensures.local in
    let two = added c.in_ok-arg.field-0 c.in_ok-arg-2.field-0 c.required_file-2.result _ _ one c.in_ok-arg-2.ensures c.required_file-2.ensures.rule c.required_file-2.ensures.local in
    let three = added c.in_ok-arg-2.field-0 c.in_ok-arg-3.field-0 c.required_file-3.result _ _ two c.in_ok-arg-3.ensures c.required_file-3.ensures.rule c.required_file-3.ensures.local in
    let four = added c.in_ok-arg-3.field-0 c.in_ok-arg-4.field-0 c.settings_option.result _ _ three c.in_ok-arg-4.ensures c.settings_option.ensures.rule c.settings_option.ensures.local in
    let five = added c.in_ok-arg-4.field-0 c.in_ok-arg-5.field-0 c.engine_option.result _ _ four c.in_ok-arg-5.ensures c.engine_option.ensures.rule c.engine_option.ensures.local in
    let whole : (command : Command) → AddsArg c.in_ok-arg-5.field-0 c.speed_option.result command → HasRules command replay_command =
    λ command adds. added c.in_ok-arg-5.field-0 command c.speed_option.result _ _ five adds c.speed_option.ensures.rule c.speed_option.ensures.local in
    record {
      app = IfOk-weaker c.arg-6.result _ _ (λ command adds. (whole command adds).app_is) c.arg-6.ensures;
      local = IfOk-weaker c.arg-6.result _ _ (λ command adds. (whole command adds).local) c.arg-6.ensures;
    }
