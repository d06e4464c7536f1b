-- What the engines count of the messages that they answered.
use Rattle.std.specs.Prelude.{ℕ, ◌+◌, Bool, List, length, map, if◌then◌else◌, ◌<◌, ◌==◌, All, zip, ◌≡◌, [], ◌∷◌, ◌++◌}
use Rattle.responses.specs.Reference.{statuses}
use Rattle.reference.specs.Reference.{Terms, station_for, offers_of, handled, counts_of, bypassed_of, rejected_of}
use Rattle.reference.specs.Reference.{samples_of, rejects}
use Rattle.arrivals.specs.Reference.{Arrival}
use Rattle.reference.specs.declared.summary.Counts.{Counts}
use Rattle.replay.specs.declared.totals.Totals.{Totals}
use Rattle.std.specs.List.{list_any}
use Rattle.admission.specs.Reference.{Offer, tick_from}
use Rattle.admission.specs.After.{ControllerAfter}
use Rattle.cost_model.specs.Reference.{Charge}
use Rattle.admission.specs.Standing.{station_of}
use Rattle.replay.specs.declared.decider.Decider.{Decider}
use Rattle.paths.specs.declared.file.File.{File}

-- How many messages there were of each kind, and how long the admitted requests took.

-- one more where it is this status
abbrev pub one_if : ℕ → ℕ → ℕ
one_if status wanted = if status == wanted then 1 else 0

-- the counts with one more reply of this status
abbrev pub with_status : Counts → ℕ → Counts
with_status c status =
    record { by_status = map (λ entry. entry.1 + one_if status entry.0) (zip statuses c.by_status) }

-- each count is below n
abbrev pub AreBelow : ℕ → Counts → Type 0
AreBelow n c = All (λ count. count < n) c.by_status

abbrev pub no_counts : Counts
no_counts = record { by_status = map (λ status. 0) statuses }

-- what became of these arrivals
abbrev pub totals_of : List File → Terms → List Arrival → Totals
totals_of files terms arrivals = record {
  answered = length arrivals;
  counts = counts_of files terms (handled files terms arrivals);
  bypassed = bypassed_of arrivals;
  rejected = rejected_of (handled files terms arrivals);
  samples = samples_of (station_for terms) (offers_of files terms arrivals);
}

-- the totals with one more message, of this status
abbrev pub with_reply : Totals → ℕ → Bool → Totals
with_reply t status breaks = record {
  answered = t.answered + 1;
  counts = with_status t.counts status;
  bypassed = t.bypassed + (if breaks then 1 else 0);
  rejected = t.rejected;
  samples = t.samples;
}

-- What an offer changes of the decider.

-- the totals once these samples are taken, and its next message was turned away or not
abbrev pub decided_totals : Totals → List ℕ → Bool → Totals
decided_totals t samples away = record {
  answered = t.answered;
  counts = t.counts;
  bypassed = t.bypassed;
  rejected = t.rejected ++ (if away then t.answered ∷ [] else []);
  samples = samples;
}

-- the offer of a tier at a tick that comes to this
abbrev pub offer_with : ℕ → ℕ → Charge → Offer
offer_with tier tick cost =
    record { pool = cost.pool; tier = tier; tick = tick; service = cost.service; delay = cost.delay }

-- after these offers the next (one, or none) was decided on: whether it was turned away
pub record Decides (offers next : List Offer) (old new : Decider) (away : Bool) : Type 0 where
  pub station : station_of new.controller ≡ station_of old.controller
  pub fits : ControllerAfter (offers ++ next) new.controller
  pub is_away : away ≡ list_any (rejects (station_of old.controller) offers) next
  pub totals : new.totals ≡ decided_totals old.totals (samples_of (station_of old.controller) (offers ++ next)) away
  pub start : new.start ≡ old.start
  pub most : new.most ≡ old.most
  pub clock : new.controller.clock ≡ tick_from old.controller.clock next
