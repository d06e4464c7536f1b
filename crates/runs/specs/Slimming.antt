-- The run that writes the slim text of records, and what it shares with an upgrade.
use Rattle.std.specs.Prelude.{Result, OnOk, IfErr}
use Rattle.captures.specs.declared.version.Version.{Version}
use Rattle.slim.specs.declared.queries.Queries.{Queries}
use Rattle.slim.specs.Slims.{Leaves, Slims}
use Rattle.faults.specs.declared.fault.Fault.{Fault}
use Rattle.faults.specs.declared.fault.Fault.TheVariants.{Slim}
use Rattle.runs.specs.declared.rewriting.Pass.{Pass}
use Rattle.runs.specs.declared.rewriting.Pass.TheVariants as rewrites
use Rattle.runs.specs.Ports.{Port}
use Rattle.runs.specs.Upgrading.{UpgradeSays}

-- What a fault of the slim text says of the input and of the output. No other fault comes.
abbrev pub IsSlimFault : Queries → Version → Port → Port → Fault → Type 0
IsSlimFault queries to input output (Slim f) =
    Leaves queries to input.old.bytes input.new.bytes output.old.bytes output.new.bytes f
IsSlimFault queries to input output other = ⊥

-- what the slim text says
abbrev pub SlimSays : Queries → Version → Port → Port → Result Unit Fault → Type 0
SlimSays queries to input output ran = OnOk ran (Slims queries to input.old.bytes output.old.bytes output.new.bytes)
    × IfErr ran (IsSlimFault queries to input output)

-- what a pass says that writes a capture anew
abbrev pub PassSays : Pass → Version → Port → Port → Result Unit Fault → Type 0
PassSays rewrites.Upgrade to = UpgradeSays to
PassSays (rewrites.Slim queries) to = SlimSays queries to
