-- Where a value with a number is placed, or why it is not.
use Rattle.std.specs.Prelude.{ℕ, List, Option, Some, None, Result, Ok, Err, length, nat_lt, slice_index_or, is_some}
use Rattle.std.specs.Prelude.{if◌then◌else◌}
use Rattle.stage_queue.specs.declared.slots.Placing.{Placing}
use Rattle.stage_queue.specs.declared.slots.Placing.TheVariants.{Stranger, Double}

-- why a value with this number is not placed, if it is not
abbrev pub placing_fault : {T : Type 0} → List (Option T) → ℕ → Option Placing
placing_fault slots number =
    if nat_lt number (length slots) then
    (if is_some (slice_index_or slots number None) then Some Double else None) else Some Stranger

-- the fault that an answer names
abbrev pub fault_of : {T : Type 0} → Result (Unit {0}) (Placing × T) → Option Placing
fault_of (Ok _) = None
fault_of (Err e) = Some (e.0)
