-- What follows from the definition of the arrivals.
use Rattle.std.specs.Prelude.{◌≡◌, ℕ, List, ◌++◌}
use Rattle.captures.specs.declared.record.Record.{Record}
use Rattle.http_requests.specs.declared.messages.Message.{Message}
use Rattle.http_requests.specs.Reference.{MessagesOf}
use Rattle.arrivals.specs.Reference.{Arrival, AreArrivals, text_of}

-- the text of each connection has a list of messages
abbrev pub HasMessages : List Record → Type 0
HasMessages records = (c : ℕ) → (ms : List Message) × MessagesOf (text_of c records) ms

-- such records have a list of arrivals
abbrev pub ArrivalsOfMessages : Type 0
ArrivalsOfMessages = (records : List Record) → HasMessages records
    → (arrivals : List Arrival) × AreArrivals records arrivals

-- two lists of the arrivals of the same records are one
abbrev pub OneListOfArrivals : Type 0
OneListOfArrivals = (records : List Record) (xs ys : List Arrival)
    → AreArrivals records xs → AreArrivals records ys → xs ≡ ys

-- more records add arrivals at the end
abbrev pub ArrivalsBegin : Type 0
ArrivalsBegin = (records more : List Record) (xs ys : List Arrival)
    → AreArrivals records xs → AreArrivals (records ++ more) ys
    → (rest : List Arrival) × (ys ≡ xs ++ rest)
