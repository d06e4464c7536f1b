-- The run that writes a text of records in a later format.
use Rattle.std.specs.Prelude.{ℕ, List, Result, OnOk, IfErr}
use Rattle.captures.specs.declared.record.Record.{Record}
use Rattle.captures.specs.declared.version.Version.{Version}
use Rattle.captures.specs.Reference.{IsCaptureText}
use Rattle.captures.specs.Upgrades.{Leaves, Upgrades}
use Rattle.faults.specs.declared.fault.Fault.{Fault}
use Rattle.faults.specs.declared.fault.Fault.TheVariants.{Upgrade}
use Rattle.runs.specs.Ports.{Port}

-- the bytes are the text of a capture, or of traffic
abbrev pub IsTextOfSomeFormat : List ℕ → Type 0
IsTextOfSomeFormat bytes =
    (version : Version) × (start : ℕ) × (records : List Record) × IsCaptureText version bytes start records

-- What a fault of the upgrade says of the input and of the output. No other fault comes.
abbrev pub IsUpgradeFault : Version → Port → Port → Fault → Type 0
IsUpgradeFault to input output (Upgrade f) =
    Leaves to input.old.bytes input.new.bytes output.old.bytes output.new.bytes f
IsUpgradeFault to input output other = ⊥

-- what the upgrade says
abbrev pub UpgradeSays : Version → Port → Port → Result Unit Fault → Type 0
UpgradeSays to input output ran = OnOk ran (Upgrades to input.old.bytes output.old.bytes output.new.bytes)
    × IfErr ran (IsUpgradeFault to input output)
