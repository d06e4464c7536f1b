-- What the words of the command line ask for.
use Rattle.std.specs.Option.{option_map_or}
use Rattle.std.specs.Prelude.{ℕ, nat_le, ◌&&◌, ◌≡◌, ◌≢◌, Bool, true, false, List, [], ◌∷◌, Option, Some, None}
use Rattle.std.specs.Prelude.{option_map, option_and_then, unwrap_or, codes, bytes_eq, if◌then◌else◌}
use Rattle.clap.specs.Words.{App, Row, Rule, Text, fault_of, first_of, new_app, new_rule, subcommand_of, takes}
use Rattle.clap.specs.Words.{with_rule, with_subcommand}
use Rattle.clap.specs.declared.builder.action.ArgAction.TheVariants.{SetTrue}
use Rattle.clap.specs.declared.error.ErrorKind.{ErrorKind}
use Rattle.clap.specs.declared.error.ErrorKind.TheVariants.{OutOfMemory}
use Rattle.devices.specs.Numbers.{number_of}
use Rattle.command_line.specs.declared.words.Engine.{Engine}
use Rattle.command_line.specs.declared.words.Engine.TheVariants.{Plain, Staged}
use Rattle.command_line.specs.declared.words.Target.{Target}
use Rattle.command_line.specs.declared.words.Target.TheVariants.{Two, Traffic}
use Rattle.command_line.specs.declared.words.Subcommand.{Subcommand}
use Rattle.command_line.specs.declared.words.Subcommand.TheVariants as subcommands
use Rattle.command_line.specs.declared.words.Job.{Job}
use Rattle.command_line.specs.declared.words.Job.TheVariants as jobs
use Rattle.command_line.specs.declared.words.WordFault.{WordFault}
use Rattle.command_line.specs.declared.words.WordFault.TheVariants as faults

-- an option with one value, as `--capture FILE`
abbrev pub option_of : Text → Rule
option_of name = record (new_rule name) { long = Some name; value_names = 1 }

abbrev pub required_of : Text → Rule
required_of name = record (option_of name) { required = true }

-- a flag, as `--skip`
abbrev pub flag_of : Text → Rule
flag_of name = record (new_rule name) { long = Some name; action = Some SetTrue }

-- the option that names the engine, the staged one where none is named
abbrev pub engine_option : Rule
engine_option = record (option_of (codes "engine")) { defaults = codes "staged" ∷ [] }

-- an option that names the speed of the traffic, as it was recorded where none is named
abbrev pub speed_option : Rule
speed_option = record (option_of (codes "speed")) { defaults = codes "100" ∷ [] }

-- `replay`, with three options that are required, one that isn't, and two with a default
unfoldable pub replay_command : App
replay_command =
    with_rule (with_rule (with_rule (with_rule (with_rule (with_rule (new_app (codes "replay"))
    (required_of (codes "snapshot")))
    (required_of (codes "capture")))
    (required_of (codes "replies")))
    (option_of (codes "settings")))
    engine_option)
    speed_option

-- an option that names the format of a new capture, with a default
abbrev pub format_option : Text → Text → Rule
format_option name default = record (option_of name) { defaults = default ∷ [] }

-- `upgrade`, with two options that are required, to version 2 where nothing else is asked for
unfoldable pub upgrade_command : App
upgrade_command =
    with_rule (with_rule (with_rule (new_app (codes "upgrade"))
    (required_of (codes "capture")))
    (required_of (codes "output")))
    (format_option (codes "to") (codes "2"))

-- `slim`, with two options that are required and a flag, as traffic where nothing else is asked for
unfoldable pub slim_command : App
slim_command =
    with_rule (with_rule (with_rule (with_rule (new_app (codes "slim"))
    (required_of (codes "capture")))
    (required_of (codes "output")))
    (format_option (codes "format") (codes "traffic")))
    (flag_of (codes "drop-queries"))

-- `snapshot`, with two options that are required, and a flag
unfoldable pub snapshot_command : App
snapshot_command =
    with_rule (with_rule (with_rule (new_app (codes "snapshot"))
    (required_of (codes "folder")))
    (required_of (codes "output")))
    (flag_of (codes "skip"))

-- `inspect`, with one option that is required
unfoldable pub inspect_command : App
inspect_command =
    with_rule (new_app (codes "inspect"))
    (required_of (codes "capture"))

-- `explain`, with three options that are required, one that isn't, and one with a default
unfoldable pub explain_command : App
explain_command =
    with_rule (with_rule (with_rule (with_rule (with_rule (new_app (codes "explain"))
    (required_of (codes "snapshot")))
    (required_of (codes "capture")))
    (required_of (codes "messages")))
    (option_of (codes "settings")))
    speed_option

-- `settings`, with one option that isn't required
unfoldable pub settings_command : App
settings_command =
    with_rule (new_app (codes "settings"))
    (option_of (codes "settings"))

-- the program, which wants one of its subcommands or tells its version; the words are those after its name
abbrev pub program_of : App → App
program_of a = record a { top = record a.top { no_binary_name = true; subcommand_required = true; has_version = true } }

unfoldable pub command_line : App
command_line =
    with_subcommand (with_subcommand (with_subcommand (with_subcommand (with_subcommand (with_subcommand
    (with_subcommand
    (program_of (new_app (codes "haboob")))
    replay_command.top)
    upgrade_command.top)
    slim_command.top)
    snapshot_command.top)
    inspect_command.top)
    explain_command.top)
    settings_command.top

-- ---- what a subcommand asks for: its name, and the values of its options

abbrev pub Found : Type 0
Found = Option (Text × List Row)

-- the value of an option
abbrev pub value_of : Found → Text → Option Text
value_of found name = option_and_then (λ p. first_of name p.1) found

-- A file's name as the words give it. (The command takes no words without those that are required.)
abbrev pub file_of : Found → Text → Text
file_of found name = unwrap_or (value_of found name) []

abbrev pub is_given : Found → Text → Bool
is_given found name = bytes_eq (file_of found name) (codes "true")

abbrev pub engine_named : Text → Option Engine
engine_named name =
    if bytes_eq name (codes "plain") then Some Plain
    else if bytes_eq name (codes "staged") then Some Staged
    else None

abbrev pub engine_of : Found → Option Engine
engine_of found = engine_named (file_of found (codes "engine"))

abbrev pub target_named : Text → Option Target
target_named name =
    if bytes_eq name (codes "2") then Some Two
    else if bytes_eq name (codes "traffic") then Some Traffic
    else None

-- the format that the option of this name has as its value
abbrev pub target_of : Found → Text → Option Target
target_of found option = target_named (file_of found option)

-- the speed that a word names, in percent of that at which traffic was recorded: a decimal from 100 to 10,000
abbrev pub as_speed : ℕ → Option ℕ
as_speed percent = if nat_le 100 percent && nat_le percent 10000 then Some percent else None

abbrev pub speed_named : Text → Option ℕ
speed_named name = option_and_then as_speed (number_of name)

abbrev pub speed_of : Found → Option ℕ
speed_of found = speed_named (file_of found (codes "speed"))

-- The subcommand of a name. (The command takes no words that name another.)
abbrev pub subcommand_named : Text → Subcommand
subcommand_named name =
    if bytes_eq name (codes "upgrade") then subcommands.Upgrade
    else if bytes_eq name (codes "slim") then subcommands.Slim
    else if bytes_eq name (codes "snapshot") then subcommands.Snapshot
    else if bytes_eq name (codes "inspect") then subcommands.Inspect
    else if bytes_eq name (codes "explain") then subcommands.Explain
    else if bytes_eq name (codes "settings") then subcommands.Settings
    else subcommands.Replay

abbrev pub subcommand_of_rows : Found → Subcommand
subcommand_of_rows found = option_map_or (λ p. subcommand_named p.0) found subcommands.Replay

-- a subcommand asks for this job
abbrev pub AsksBy : Found → Job → Type 0
AsksBy found jobs.Bundle = ⊥
AsksBy found (jobs.Replay snapshot capture replies settings chosen speed) =
    (subcommand_of_rows found ≡ subcommands.Replay)
    × (snapshot.now ≡ file_of found (codes "snapshot"))
    × (capture.now ≡ file_of found (codes "capture"))
    × (replies.now ≡ file_of found (codes "replies"))
    × (option_map (λ s. s.now) settings ≡ value_of found (codes "settings"))
    × (engine_of found ≡ Some chosen)
    × (speed_of found ≡ Some speed)
AsksBy found (jobs.Upgrade capture output to) =
    (subcommand_of_rows found ≡ subcommands.Upgrade)
    × (capture.now ≡ file_of found (codes "capture"))
    × (output.now ≡ file_of found (codes "output"))
    × (target_of found (codes "to") ≡ Some to)
AsksBy found (jobs.Slim capture output to drop_queries) =
    (subcommand_of_rows found ≡ subcommands.Slim)
    × (capture.now ≡ file_of found (codes "capture"))
    × (output.now ≡ file_of found (codes "output"))
    × (target_of found (codes "format") ≡ Some to)
    × (drop_queries ≡ is_given found (codes "drop-queries"))
AsksBy found (jobs.Snapshot folder output skip) =
    (subcommand_of_rows found ≡ subcommands.Snapshot)
    × (folder.now ≡ file_of found (codes "folder"))
    × (output.now ≡ file_of found (codes "output"))
    × (skip ≡ is_given found (codes "skip"))
AsksBy found (jobs.Inspect capture) =
    (subcommand_of_rows found ≡ subcommands.Inspect)
    × (capture.now ≡ file_of found (codes "capture"))
AsksBy found (jobs.Explain snapshot capture messages settings speed) =
    (subcommand_of_rows found ≡ subcommands.Explain)
    × (snapshot.now ≡ file_of found (codes "snapshot"))
    × (capture.now ≡ file_of found (codes "capture"))
    × (messages.now ≡ file_of found (codes "messages"))
    × (option_map (λ s. s.now) settings ≡ value_of found (codes "settings"))
    × (speed_of found ≡ Some speed)
AsksBy found (jobs.Settings settings) =
    (subcommand_of_rows found ≡ subcommands.Settings)
    × (option_map (λ s. s.now) settings ≡ value_of found (codes "settings"))

-- another format is asked for
abbrev pub IsNoTarget : Found → Text → WordFault → Type 0
IsNoTarget found option f = (f ≡ faults.Format) × (target_of found option ≡ None)

-- an upgrade is asked for in another format, or a slim text
abbrev pub AsksNoTarget : Subcommand → Found → Type 0
AsksNoTarget subcommands.Upgrade found = target_of found (codes "to") ≡ None
AsksNoTarget subcommands.Slim found = target_of found (codes "format") ≡ None
AsksNoTarget other found = ⊥

-- another speed is asked for
abbrev pub IsNoSpeed : Found → WordFault → Type 0
IsNoSpeed found f = (f ≡ faults.Speed) × (speed_of found ≡ None)

-- a replay by one of the engines is asked for at another speed, or a table
abbrev pub AsksNoSpeed : Subcommand → Found → Type 0
AsksNoSpeed subcommands.Replay found = (engine_of found ≢ None) × (speed_of found ≡ None)
AsksNoSpeed subcommands.Explain found = speed_of found ≡ None
AsksNoSpeed other found = ⊥

-- A subcommand asks for a replay by another engine, for an upgrade or a slim text in another format, or for a replay or
-- a table at another speed. No other fault comes.
abbrev pub IsValueFault : Found → WordFault → Type 0
IsValueFault found (faults.Words text) = ⊥
IsValueFault found faults.Engine = (subcommand_of_rows found ≡ subcommands.Replay) × (engine_of found ≡ None)
IsValueFault found faults.Format = AsksNoTarget (subcommand_of_rows found) found
IsValueFault found faults.Speed = AsksNoSpeed (subcommand_of_rows found) found
IsValueFault found faults.Memory = ⊥

-- ---- what the words ask for

-- the command takes the words, and P holds of what their subcommand asks for
abbrev pub Taken : List Text → (Found → Type 0) → Type 0
Taken words P = (words ≢ []) × (fault_of command_line words ≡ []) × P (subcommand_of command_line words)

-- the words ask for this job
abbrev pub Asks : List Text → Job → Type 0
Asks words jobs.Bundle = words ≡ []
Asks words job = Taken words (λ found. AsksBy found job)

-- the command doesn't take the words
abbrev pub AreNotTaken : List Text → Type 0
AreNotTaken words = (takes command_line words ≡ false) × (fault_of command_line words ≢ [])

-- The words are refused for this. Words that the command takes have no fault but another engine, format or speed.
abbrev pub Refuses : List Text → WordFault → Type 0
Refuses words (faults.Words text) = (words ≢ []) × AreNotTaken words
Refuses words faults.Engine = Taken words (λ found. IsValueFault found faults.Engine)
Refuses words faults.Format = Taken words (λ found. IsValueFault found faults.Format)
Refuses words faults.Speed = Taken words (λ found. IsValueFault found faults.Speed)
Refuses words faults.Memory = words ≢ []

-- what the command alone refuses
abbrev pub IsRefusal : List Text → WordFault → Type 0
IsRefusal words (faults.Words text) = AreNotTaken words
IsRefusal words faults.Engine = ⊥
IsRefusal words faults.Format = ⊥
IsRefusal words faults.Speed = ⊥
IsRefusal words faults.Memory = Unit {0}

-- what an error of this kind becomes
abbrev pub Becomes : ErrorKind → WordFault → Type 0
Becomes kind (faults.Words text) = kind ≢ OutOfMemory
Becomes kind faults.Engine = ⊥
Becomes kind faults.Format = ⊥
Becomes kind faults.Speed = ⊥
Becomes kind faults.Memory = Unit {0}
