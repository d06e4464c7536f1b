use Rattle.std.proofs.Common.{◌≡◌, codes, ap}
use Rattle.std.proofs.lemmas.Result.{IfOk-weaker}
use Rattle.clap.specs.Words.{app_of, new_app}
use Rattle.command_line.specs.CommandLine.{program_of}
use Rattle.command_line.proofs.commands.program.Goals as goal

pub returns : goal.returns
returns c =
    let start : app_of c.after_help.result ≡ program_of (new_app (codes "haboob")) =
    rw (c.after_help.ensures, c.about.ensures, c.version.ensures, c.subcommand_required.ensures, c.no_binary_name.ensures) (ap program_of c.new.ensures.app) in
    IfOk-weaker c.bin_name.result _ _ (λ named is. rw is.0 start) c.bin_name.ensures
