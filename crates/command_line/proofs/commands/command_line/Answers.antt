use Rattle.std.proofs.lemmas.Result.{IfOk-weaker}
use Rattle.command_line.specs.CommandLine.{command_line}
use Rattle.command_line.proofs.Clap.{with_one_more}
use Rattle.command_line.proofs.commands.command_line.Goals as goal

pub returns : goal.returns
unfolding command_line
returns c =
    let one = with_one_more c.in_ok-command.command c.in_ok-command-2.command c.replay_command.result _ _ c.in_ok-command.ensures c.replay_command.ensures.app c.replay_command.ensures.local c.in_ok-command-2.ensures in
    let two = with_one_more c.in_ok-command-2.command c.in_ok-command-3.command c.upgrade_command.result _ _ one c.upgrade_command.ensures.app c.upgrade_command.ensures.local c.in_ok-command-3.ensures in
    let three = with_one_more c.in_ok-command-3.command c.in_ok-command-4.command c.slim_command.result _ _ two c.slim_command.ensures.app c.slim_command.ensures.local c.in_ok-command-4.ensures in
    let four = with_one_more c.in_ok-command-4.command c.in_ok-command-5.command c.snapshot_command.result _ _ three c.snapshot_command.ensures.app c.snapshot_command.ensures.local c.in_ok-command-5.ensures in
    let five = with_one_more c.in_ok-command-5.command c.in_ok-command-6.command c.inspect_command.result _ _ four c.inspect_command.ensures.app c.inspect_command.ensures.local c.in_ok-command-6.ensures in
    let six = with_one_more c.in_ok-command-6.command c.in_ok-command-7.command c.explain_command.result _ _ five c.explain_command.ensures.app c.explain_command.ensures.local c.in_ok-command-7.ensures in
    IfOk-weaker c.with_subcommand-7.result _ _ (λ whole adds. with_one_more c.in_ok-command-7.command whole c.settings_command.result _ _ six c.settings_command.ensures.app c.settings_command.ensures.local adds) c.with_subcommand-7.ensures
