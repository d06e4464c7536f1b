-- The run that writes out the settings that are in force.
use Rattle.devices.specs.Devices.{AppendsProperPrefix}
use Rattle.std.specs.Prelude.{◌≡◌, ℕ, false, List, Result, Ok, Err, OnOk, IfErr}
use Rattle.std.specs.Io.KnownBytes.{Appends}
use Rattle.settings.specs.ConfigFaults.{is_memory}
use Rattle.settings.specs.SettingsTable.{settings_read}
use Rattle.settings.specs.WrittenOut.{settings_text}
use Rattle.faults.specs.declared.fault.Fault.{Fault}
use Rattle.faults.specs.declared.fault.Fault.TheVariants.{Settings, Write}
use Rattle.faults.specs.declared.fault.Place.TheVariants.{Report}
use Rattle.runs.specs.Ports.{Port}

-- the settings of a document were written out
abbrev pub WritesSettings : List ℕ → Port → Type 0
WritesSettings document output = (text : List ℕ) × (settings_text document ≡ Ok text)
    × Appends output.old.bytes output.new.bytes text

-- the fault that a replay with this document has; out of memory comes where it happens
abbrev pub IsOfSettings : List ℕ → Fault → Type 0
IsOfSettings document (Settings f) = is_memory f ≡ false → settings_read document ≡ Err f
IsOfSettings document other = ⊥

-- What a fault of the run says of the output. One of the settings is that of a replay, and nothing was written; else a
-- write failed, and a prefix of the text stands. None else comes.
abbrev pub IsSettingsFault : List ℕ → Port → Fault → Type 0
IsSettingsFault document output (Settings f) = IsOfSettings document (Settings f) × (output.new ≡ output.old)
IsSettingsFault document output (Write Report) = (text : List ℕ) × (settings_text document ≡ Ok text)
    × AppendsProperPrefix output.old.bytes output.new.bytes text
IsSettingsFault document output other = ⊥

-- what the run says
abbrev pub SettingsSays : List ℕ → Port → Result Unit Fault → Type 0
SettingsSays document output ran = OnOk ran (WritesSettings document output)
    × IfErr ran (IsSettingsFault document output)
