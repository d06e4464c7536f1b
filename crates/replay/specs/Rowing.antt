-- How a row is made of a message that was decided on.
use Rattle.std.specs.Prelude.{ℕ, ◌+◌, max, Bool, true, false, List, Option, Some, None, if◌then◌else◌}
use Rattle.admission.specs.After.{outlook}
use Rattle.admission.specs.Reference.{decided}
use Rattle.arrivals.specs.Reference.{Arrival}
use Rattle.cost_model.specs.Reference.{Charge}
use Rattle.paths.specs.declared.file.File.{File}
use Rattle.reference.specs.Reference.{Terms, station_for, offers_of}
use Rattle.admission.specs.declared.control.Outlook.{Outlook}
use Rattle.admission.specs.declared.control.Decision.TheVariants.{Admitted, Rejected}
use Rattle.responses.specs.declared.slip.Status.{Status}
use Rattle.responses.specs.declared.slip.Status.TheVariants.{ServiceUnavailable}
use Rattle.responses.specs.declared.slip.ResponseKind.{ResponseKind}
use Rattle.responses.specs.declared.slip.ResponseKind.TheVariants.{Plain}
use Rattle.decision_table.specs.declared.row.Offered.{Offered}
use Rattle.replay.specs.declared.lookup.Lookup.{Lookup}
use Rattle.replay.specs.declared.lookup.Lookup.TheVariants.{Priced}

-- what a message that was looked up comes to; nothing where it is no request
abbrev pub charge_in : Lookup → Option Charge
charge_in (Priced o cost) = Some cost
charge_in lookup = None

-- the pool whose servers work on what comes to this, pool 0 where it is no request
abbrev pub pool_of : Option Charge → ℕ
pool_of (Some cost) = cost.pool
pool_of None = 0

-- what a request of a pool and a tier finds that comes at a tick after these messages
abbrev pub outlook_after : List File → Terms → List Arrival → ℕ → ℕ → ℕ → Outlook
outlook_after files terms arrivals =
    outlook (station_for terms) (decided (station_for terms) (offers_of files terms arrivals))

-- whether a status, and the answer to a message, turns it away
abbrev pub is_unavailable : Status → Bool
is_unavailable (ServiceUnavailable seconds) = true
is_unavailable status = false

abbrev pub turns_away : {X : Type 0} → ResponseKind X → Bool
turns_away (Plain status) = is_unavailable status
turns_away what = false

-- a request that comes to this, found this, and was turned away or not: where it was not, its service begins once a
-- server of its pool is free
abbrev pub offered_with : Outlook → ℕ → Charge → Bool → Offered
offered_with found tick cost away = record {
  service = cost.service;
  pool = cost.pool;
  found = found;
  decision = if away then Rejected else (Admitted (max found.free tick + cost.service));
}
