-- The text of an inspection (docs/FORMATS.md, "Inspection").
use Rattle.std.specs.Prelude.{ℕ, List, [], ◌++◌, Option, Some, None, codes, decimal}
use Rattle.captures.specs.declared.version.Version.{Version}
use Rattle.captures.specs.declared.version.Version.TheVariants.{One, Two, Traffic}
use Rattle.inspection.specs.declared.counts.RecordCounts.{RecordCounts}
use Rattle.inspection.specs.declared.counts.MethodCounts.{MethodCounts}
use Rattle.inspection.specs.declared.counts.VersionCounts.{VersionCounts}
use Rattle.inspection.specs.declared.counts.FaultCounts.{FaultCounts}
use Rattle.inspection.specs.declared.inspection.Share.{Share}
use Rattle.inspection.specs.declared.inspection.Inspection.{Inspection}

-- a line of a name and a number, and one of a name and two
abbrev pub line : List ℕ → ℕ → List ℕ
line name number = name ++ codes " " ++ decimal number ++ codes "\n"

abbrev pub line_of_two : List ℕ → ℕ → ℕ → List ℕ
line_of_two name first second = name ++ codes " " ++ decimal first ++ codes " " ++ decimal second ++ codes "\n"

-- what a format is called: the number of a capture's version, or the word for traffic
abbrev pub version_name : Version → List ℕ
version_name One = codes "1"
version_name Two = codes "2"
version_name Traffic = codes "traffic"

abbrev pub capture_lines : Version → ℕ → List ℕ
capture_lines version start =
    (codes "version " ++ version_name version ++ codes "\n")
    ++ line (codes "start") start

abbrev pub record_lines : RecordCounts → List ℕ
record_lines counts =
    line (codes "records") counts.all
    ++ line (codes "pieces") counts.pieces
    ++ line (codes "ends") counts.ends
    ++ line (codes "tiers") counts.tiers

-- a tick, or a hyphen where there is none
abbrev pub tick_line : List ℕ → Option ℕ → List ℕ
tick_line name (Some tick) = line name tick
tick_line name None = name ++ codes " -\n"

-- the most connections that were open at once, of traffic alone, where a number names one after the other
abbrev pub open_line : Version → ℕ → List ℕ
open_line One most = []
open_line Two most = []
open_line Traffic most = line (codes "open") most

abbrev pub received_lines : Version → Share → ℕ → List ℕ
received_lines version share most_open =
    line (codes "connections") share.connections
    ++ open_line version most_open
    ++ line (codes "bytes") share.bytes

abbrev pub method_lines : MethodCounts → List ℕ
method_lines counts =
    line (codes "method GET") counts.get
    ++ line (codes "method HEAD") counts.head
    ++ line (codes "method other") counts.other

abbrev pub version_lines : VersionCounts → List ℕ
version_lines counts =
    line (codes "protocol HTTP/1.0") counts.http10
    ++ line (codes "protocol HTTP/1.1") counts.http11

abbrev pub fault_lines : FaultCounts → List ℕ
fault_lines counts =
    line (codes "fault TooLong") counts.too_long
    ++ line (codes "fault Block") counts.block
    ++ line (codes "fault Host") counts.host
    ++ line (codes "fault Coding") counts.coding
    ++ line (codes "fault Length") counts.length
    ++ line (codes "fault BodySize") counts.body_size

-- the text of what recorded traffic holds
unfoldable pub inspection_text : Inspection → List ℕ
inspection_text i =
    codes "haboob-inspection 1\n"
    ++ capture_lines i.version i.start
    ++ record_lines i.records
    ++ tick_line (codes "first") i.first_tick
    ++ tick_line (codes "last") i.last_tick
    ++ received_lines i.version i.received i.most_open
    ++ line (codes "messages") i.messages.all
    ++ line (codes "requests") i.messages.requests
    ++ method_lines i.messages.methods
    ++ version_lines i.messages.versions
    ++ fault_lines i.messages.faults
    ++ line_of_two (codes "after-close") i.after_close.bytes i.after_close.connections
    ++ line_of_two (codes "unfinished") i.unfinished.bytes i.unfinished.connections
    ++ line_of_two (codes "busiest") i.busiest.number i.busiest.messages
    ++ codes "end\n"
