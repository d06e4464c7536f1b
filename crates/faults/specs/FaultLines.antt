-- How a fault is reported: the status that the program ends with, and the line on standard error.
use Rattle.std.specs.Prelude.{ℕ, Bool, true, false, List, [], ◌∷◌, ◌++◌, Option, Some, None, unwrap_or, codes, decimal}
use Rattle.std.specs.Prelude.{map, string_bytes, chars, encode_utf8_all, if◌then◌else◌}
use Rattle.ucd_category.specs.GeneralCategory.{general_category}
use Rattle.ucd_category.specs.declared.GeneralCategory.{GeneralCategory}
use Rattle.ucd_category.specs.declared.GeneralCategory.TheVariants.{Control, LineSeparator, ParagraphSeparator}
use Rattle.ucd_category.specs.declared.GeneralCategory.TheVariants as categories
use Rattle.paths.specs.Reference.{question_mark}
use Rattle.paths.specs.declared.snapshot_fault.SnapshotFault.{SnapshotFault}
use Rattle.paths.specs.declared.snapshot_fault.SnapshotFaultKind.{SnapshotFaultKind}
use Rattle.paths.specs.declared.snapshot_fault.SnapshotFaultKind.TheVariants as entries
use Rattle.paths.specs.SnapshotFaults.{kind_name as entry_kind}
use Rattle.captures.specs.CaptureFaults.{kind_name as record_kind}
use Rattle.captures.specs.declared.capture_fault.CaptureFault.{CaptureFault}
use Rattle.captures.specs.declared.capture_fault.CaptureFaultKind.{CaptureFaultKind}
use Rattle.captures.specs.declared.capture_fault.CaptureFaultKind.TheVariants as records
use Rattle.captures.specs.declared.pass_fault.PassFault.{PassFault}
use Rattle.captures.specs.declared.pass_fault.PassFault.TheVariants as passes
use Rattle.command_line.specs.declared.words.WordFault.{WordFault}
use Rattle.command_line.specs.declared.words.WordFault.TheVariants as words
use Rattle.settings.specs.declared.config_fault.ConfigFault.{ConfigFault}
use Rattle.settings.specs.declared.config_fault.ConfigFaultKind.{ConfigFaultKind}
use Rattle.settings.specs.declared.config_fault.ConfigFaultKind.TheVariants as settings
use Rattle.settings.specs.ConfigFaults.{fault_text}
use Rattle.settings.specs.FaultWords.{fault_words}
use Rattle.faults.specs.declared.fault.Place.{Place}
use Rattle.faults.specs.declared.fault.Place.TheVariants as places
use Rattle.faults.specs.declared.fault.Fault.{Fault}
use Rattle.faults.specs.declared.fault.Fault.TheVariants as faults
use Rattle.faults.specs.declared.folder_fault.FileFault.{FileFault}
use Rattle.faults.specs.declared.folder_fault.FileFault.TheVariants as files
use Rattle.faults.specs.declared.fault.Reported.{Reported}
use Rattle.faults.specs.declared.fault.Reported.TheVariants.{Usage, Engine, Format, Speed, Settings, Entry, Open, Read}
use Rattle.faults.specs.declared.fault.Reported.TheVariants.{Record, TooMany, File}
use Rattle.faults.specs.declared.fault.Reported.TheVariants.{Write, Memory}

-- a failed read or write and out of memory are reported alike, whatever fault they stand in
abbrev pub reported_entry : SnapshotFaultKind → SnapshotFault → Reported
reported_entry entries.Read f = Read places.Snapshot
reported_entry entries.Memory f = Memory
reported_entry other f = Entry f

abbrev pub reported_record : CaptureFaultKind → CaptureFault → Reported
reported_record records.Read f = Read places.Capture
reported_record records.Memory f = Memory
reported_record other f = Record f

-- that of a pass which writes there
abbrev pub reported_pass : Place → PassFault → Reported
reported_pass place (passes.Capture f) = reported_record f.kind f
reported_pass place (passes.TooMany number) = TooMany number
reported_pass place passes.Write = Write place
reported_pass place passes.Memory = Memory

abbrev pub reported_file : FileFault → Reported
reported_file files.Read = Read places.Folder
reported_file other = File other

-- the fault of a run that writes rows, of one that writes replies
abbrev pub of_rows : Fault → Fault
of_rows (faults.Replay passes.Write) = faults.Write places.Messages
of_rows (faults.Write places.Replies) = faults.Write places.Messages
of_rows f = f

abbrev pub reported_words : WordFault → Reported
reported_words (words.Words text) = Usage
reported_words words.Engine = Engine
reported_words words.Format = Format
reported_words words.Speed = Speed
reported_words words.Memory = Memory

abbrev pub reported_settings : ConfigFaultKind → ConfigFault → Reported
reported_settings settings.Memory f = Memory
reported_settings other f = Settings f

abbrev pub reported : Fault → Reported
reported (faults.Words f) = reported_words f
reported (faults.Settings f) = reported_settings f.kind f
reported (faults.Snapshot f) = reported_entry f.kind f
reported (faults.Replay f) = reported_pass places.Replies f
reported (faults.Upgrade f) = reported_pass places.Output f
reported (faults.Slim f) = reported_pass places.Output f
reported (faults.Folder f) = reported_file f.fault
reported (faults.Open place) = Open place
reported (faults.Read place) = Read place
reported (faults.Write place) = Write place
reported faults.Memory = Memory

-- the status that the program ends with
abbrev pub status_of : Reported → ℕ
status_of Usage = 2
status_of Engine = 2
status_of Format = 2
status_of Speed = 2
status_of (Settings f) = 3
status_of (Entry f) = 4
status_of (Record f) = 5
status_of (TooMany number) = 5
status_of (File fault) = 4
status_of (Open place) = 6
status_of (Read place) = 6
status_of (Write place) = 6
status_of Memory = 7

-- the names of the files and of what can be wrong in them
abbrev pub place_name : Place → List ℕ
place_name places.Settings = codes "settings"
place_name places.Snapshot = codes "snapshot"
place_name places.Capture = codes "capture"
place_name places.Replies = codes "replies"
place_name places.Messages = codes "messages"
place_name places.Report = codes "report"
place_name places.Output = codes "output"
place_name places.Folder = codes "folder"

abbrev pub file_fault_name : FileFault → List ℕ
file_fault_name files.Time = codes "Time"
file_fault_name files.Size = codes "Size"
file_fault_name files.Count = codes "Count"
file_fault_name files.Name = codes "Name"
file_fault_name files.Order = codes "Order"
file_fault_name files.Conflict = codes "Conflict"
file_fault_name files.Text = codes "Text"
file_fault_name files.Link = codes "Link"
file_fault_name files.Special = codes "Special"
file_fault_name files.Changed = codes "Changed"
file_fault_name files.Read = codes "Read"

-- the line on standard error
abbrev pub text_of : Reported → List ℕ
text_of Usage = codes "usage"
text_of Engine = codes "engine"
text_of Format = codes "format"
text_of Speed = codes "speed"
text_of (Settings f) = codes "settings: " ++ fault_text f
text_of (Entry f) = codes "snapshot: entry " ++ decimal f.entry ++ codes ": " ++ entry_kind f.kind
text_of (Record f) = codes "capture: record " ++ decimal f.at ++ codes ": " ++ record_kind f.kind
text_of (TooMany number) = codes "capture: message " ++ decimal number ++ codes ": TooMany"
text_of (File fault) = codes "folder: " ++ file_fault_name fault
text_of (Open place) = codes "open: " ++ place_name place
text_of (Read place) = codes "read: " ++ place_name place
text_of (Write place) = codes "write: " ++ place_name place
text_of Memory = codes "memory"

abbrev pub line_of : Reported → List ℕ
line_of t = codes "haboob: " ++ text_of t ++ codes "\n"

-- the same with the name concerned
abbrev pub named_line_of : Reported → List ℕ → List ℕ
named_line_of t name = codes "haboob: " ++ text_of t ++ codes " " ++ name ++ codes "\n"

-- a control, a format character, or the end of a line or a paragraph (Cc, Cf, Zl, Zp)
abbrev pub is_hidden_in : GeneralCategory → Bool
is_hidden_in Control = true
is_hidden_in categories.Format = true
is_hidden_in LineSeparator = true
is_hidden_in ParagraphSeparator = true
is_hidden_in other = false

-- a control or a format character, or one that ends a line or a paragraph (Unicode 18, 4.5)
abbrev pub is_hidden : ℕ → Bool
is_hidden c = is_hidden_in (general_category c)

abbrev pub shown_char : ℕ → ℕ
shown_char c = if is_hidden c then question_mark else c

-- how a name stands in a line: with a question mark for each such character
abbrev pub shown_name : List ℕ → List ℕ
shown_name name = encode_utf8_all (map shown_char (chars name))

-- what the command line says of words that it doesn't take
abbrev pub usage_in : WordFault → Option (List ℕ)
usage_in (words.Words text) = Some (string_bytes text)
usage_in words.Engine = None
usage_in words.Format = None
usage_in words.Speed = None
usage_in words.Memory = None

abbrev pub usage_of : Fault → Option (List ℕ)
usage_of (faults.Words f) = usage_in f
usage_of other = None

-- the line of what is reported with its name
abbrev pub named_line : Fault → Option (List ℕ)
named_line (faults.Folder f) = Some (named_line_of (reported_file f.fault) f.name.items)
named_line other = None

-- what is written of a fault: one of these, or its line
abbrev pub text_reported : Fault → List ℕ
text_reported f = unwrap_or (usage_of f) (unwrap_or (named_line f) (line_of (reported f)))

-- what is written of the number of those that were left out
abbrev pub skipped_line : ℕ → List ℕ
skipped_line count = codes "haboob: skipped " ++ decimal count ++ codes "\n"

-- the line of words, where there are some
abbrev pub words_shown : List ℕ → List ℕ
words_shown [] = []
words_shown (c ∷ more) = codes "haboob: " ++ shown_name (c ∷ more) ++ codes "\n"

-- what stands after the line of a fault of this document: what is wrong, in words
abbrev pub words_line : List ℕ → ConfigFault → List ℕ
words_line document fault = words_shown (fault_words document fault)
