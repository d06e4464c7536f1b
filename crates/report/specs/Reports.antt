-- The text of a report (docs/FORMATS.md, "Report").
use Rattle.std.specs.Prelude.{ℕ, ◌+◌, ◌-◌, ◌*◌, ◌/◌, List, [], ◌∷◌, ◌++◌, length, Option, Some, None, codes, decimal}
use Rattle.std.specs.Prelude.{flat_map, drop, slice_get, zip, Bool, nat_lt, if◌then◌else◌, ◌≡◌}
use Rattle.captures.specs.declared.version.Version.{Version}
use Rattle.captures.specs.Reference.{format_of}
use Rattle.admission.specs.Reference.{sorted}
use Rattle.admission.specs.declared.control.Control.{Control}
use Rattle.admission.specs.declared.control.PoolFigures.{PoolFigures}
use Rattle.responses.specs.Reference.{statuses}
use Rattle.reference.specs.declared.summary.Outcome.{Outcome}
use Rattle.reference.specs.declared.summary.Counts.{Counts}
use Rattle.reference.specs.declared.summary.Tally.{Tally}
use Rattle.devices.specs.Devices.{Device, AppendsProperPrefix}
use Rattle.report.specs.declared.writing.ReportFault.{ReportFault}
use Rattle.report.specs.declared.writing.ReportFault.TheVariants.{Write, Memory}

-- a line of a name and a number
abbrev pub line : List ℕ → ℕ → List ℕ
line name number = name ++ codes " " ++ decimal number ++ codes "\n"

-- how many messages there were: admitted, rejected and bypassed ones
abbrev pub messages : Outcome → ℕ
messages outcome = length outcome.summary.samples + length outcome.rejected + outcome.summary.bypassed

abbrev pub total_lines : Outcome → List ℕ
total_lines outcome =
    line (codes "messages") (messages outcome)
    ++ line (codes "bypassed") outcome.summary.bypassed
    ++ line (codes "admitted") (length outcome.summary.samples)
    ++ line (codes "rejected") (length outcome.rejected)

-- the statuses, and how many messages were answered with each
abbrev pub by_status : Counts → List (ℕ × ℕ)
by_status counts = zip statuses counts.by_status

abbrev pub status_line : ℕ → ℕ → List ℕ
status_line status count = codes "status " ++ decimal status ++ codes " " ++ decimal count ++ codes "\n"

abbrev pub status_lines : Counts → List ℕ
status_lines counts = flat_map (λ entry. status_line entry.0 entry.1) (by_status counts)

-- the rank of a percentile of m samples, counted from 1: n hundredths of m, rounded up
abbrev pub rank : ℕ → ℕ → ℕ
rank percent m = (percent * m + 99) / 100

-- the sample at that rank of sorted samples, none of no samples
abbrev pub percentile : ℕ → List ℕ → Option ℕ
percentile percent ordered = slice_get ordered (rank percent (length ordered) - 1)

-- a number, or a hyphen where there is none
abbrev pub shown : Option ℕ → List ℕ
shown None = codes "-"
shown (Some number) = decimal number

abbrev pub percentile_line : ℕ → List ℕ → List ℕ
percentile_line percent ordered = codes "p" ++ decimal percent ++ codes " " ++ shown (percentile percent ordered)
    ++ codes "\n"

-- the percentiles of the samples, which are sorted for it
abbrev pub percentile_lines : List ℕ → List ℕ
percentile_lines samples = percentile_line 50 (sorted samples) ++ percentile_line 90 (sorted samples)
    ++ percentile_line 99 (sorted samples)

-- the line of the control number k
abbrev pub control_line : ℕ → Control → List ℕ
control_line k control =
    codes "control " ++ decimal k
    ++ codes " " ++ decimal control.instant
    ++ codes " " ++ decimal control.percentile
    ++ codes " " ++ decimal control.smoothed
    ++ codes " " ++ decimal control.rate
    ++ codes "\n"

-- values that are numbered from k
unfoldable pub numbered_from : {X : Type 0} → ℕ → List X → List (ℕ × X)
numbered_from k [] = []
numbered_from k (x ∷ xs) = (k, x) ∷ numbered_from (k + 1) xs

-- the lines of a numbered value
abbrev pub numbered_lines : {X : Type 0} → (ℕ → X → List ℕ) → ℕ × X → List ℕ
numbered_lines lines_of entry = lines_of entry.0 entry.1

-- the last n of these, or all where there are fewer
abbrev pub keep_last : {X : Type 0} → ℕ → List X → List X
keep_last n xs = drop (length xs - n) xs

-- The controls of a tier that a report lists, each with its number, counted from 1: all of a capture's, and the last
-- thousand of a text of traffic, which may have millions.
abbrev pub listed : Version → List Control → List (ℕ × Control)
listed version controls =
    if (format_of version).used_again then keep_last 1000 (numbered_from 1 controls)
    else numbered_from 1 controls

-- how many of n controls stand before those
abbrev pub left_out : Version → ℕ → ℕ
left_out version n = if (format_of version).used_again then n - 1000 else 0

-- a line for each control that is listed
abbrev pub control_lines : Version → List Control → List ℕ
control_lines version controls = flat_map (numbered_lines control_line) (listed version controls)

-- a tier's number, how many of its requests were admitted and rejected, and how many controls it has
abbrev pub tier_line : ℕ → Tally → List ℕ
tier_line tier tally =
    codes "tier " ++ decimal tier
    ++ codes " " ++ decimal tally.admitted
    ++ codes " " ++ decimal tally.rejected
    ++ codes " " ++ decimal (length tally.controls)
    ++ codes "\n"

-- a request of the tier was offered: it was admitted or rejected
abbrev pub was_offered : Tally → Bool
was_offered tally = nat_lt 0 (tally.admitted + tally.rejected)

-- the lines of a tier above 0: none where no request of it was offered
abbrev pub tier_lines : Version → ℕ → Tally → List ℕ
tier_lines version tier tally =
    if was_offered tally then tier_line tier tally ++ control_lines version tally.controls else []

-- the lines of the tiers above 0, of which the first is tier 1
abbrev pub tiers_above_lines : Version → List Tally → List ℕ
tiers_above_lines version tallies = flat_map (numbered_lines (tier_lines version)) (numbered_from 1 tallies)

-- how many controls tier 0 has, and their lines; and then those of the tiers above it
abbrev pub all_tier_lines : Version → List Tally → List ℕ
all_tier_lines version [] = []
all_tier_lines version (zero ∷ above) =
    line (codes "controls") (length zero.controls) ++ control_lines version zero.controls
    ++ tiers_above_lines version above

-- a pool's number, how many of its requests were admitted, how long its servers work on them in all, and how many
-- waited at most
abbrev pub pool_line : ℕ → PoolFigures → List ℕ
pool_line pool figures =
    codes "pool " ++ decimal pool
    ++ codes " " ++ decimal figures.admitted
    ++ codes " " ++ decimal figures.busy
    ++ codes " " ++ decimal figures.longest_queue
    ++ codes "\n"

-- the lines of the pools, of which the first is pool 0
abbrev pub pool_lines : List PoolFigures → List ℕ
pool_lines pools = flat_map (numbered_lines pool_line) (numbered_from 0 pools)

-- a line for each request that was turned away
abbrev pub reject_line : ℕ → List ℕ
reject_line number = line (codes "reject") number

abbrev pub reject_lines : List ℕ → List ℕ
reject_lines rejected = flat_map reject_line rejected

-- the lines of a report that stand before those of the rejected requests
unfoldable pub lines_before_rejects : Outcome → List ℕ
lines_before_rejects outcome =
    codes "haboob-report 1\n"
    ++ total_lines outcome
    ++ status_lines outcome.summary.counts
    ++ percentile_lines outcome.summary.samples
    ++ all_tier_lines outcome.version outcome.summary.tiers
    ++ pool_lines outcome.summary.pools

-- the report of what a replay has come to
abbrev pub report_text : Outcome → List ℕ
report_text outcome = lines_before_rejects outcome ++ reject_lines outcome.rejected ++ codes "end\n"

-- What a report that isn't written whole leaves at its device.

-- a prefix of its text, where the device failed; nothing, where there was no memory
abbrev pub IsReportFault : List ℕ → Device → Device → ReportFault → Type 0
IsReportFault text old new Write = AppendsProperPrefix old.bytes new.bytes text
IsReportFault text old new Memory = new ≡ old

-- how often the device failed
abbrev pub writer_failures : ReportFault → ℕ
writer_failures Write = 1
writer_failures Memory = 0
