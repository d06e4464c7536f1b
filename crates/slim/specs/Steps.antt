-- What one more record does to the slim text.
use Rattle.std.specs.Prelude.{◌≡◌, ℕ, ◌+◌, ◌<◌, ◌≤◌, All, List, [], ◌∷◌, ◌++◌, map, flat_map, length, count_by}
use Rattle.captures.specs.declared.record.Record.{Record}
use Rattle.captures.specs.Reference.{used_once, is_end_of}
use Rattle.captures.specs.Captures.{size_of}
use Rattle.http_requests.specs.declared.messages.Message.{Message}
use Rattle.http_requests.specs.declared.messages.Meaning.{Meaning}
use Rattle.arrivals.specs.Reference.{Arrival, AreArrivals, text_of, messages_of}
use Rattle.arrivals.specs.Connections.{HaveRead, HaveNumbers, IsNumber, tier_now}
use Rattle.arrivals.specs.declared.connections.Connection.{Connection}
use Rattle.slim.specs.Blocks.{block_of}
use Rattle.slim.specs.Slims.{seen, slim_records, slimmed}
use Rattle.slim.specs.Targets.{kept_arrivals, kept_what}
use Rattle.slim.specs.declared.queries.Queries.{Queries}

-- the meanings of messages
abbrev pub whats_of : List Message → List Meaning
whats_of messages = map (λ m. m.what) messages

-- the same with what stays of their targets
abbrev pub whats_kept : Queries → List Message → List Meaning
whats_kept queries messages = map (kept_what queries) (whats_of messages)

-- the text of canonical blocks, one after another, and their messages, where the first begins at a place
abbrev pub text_of_blocks : List Meaning → List ℕ
text_of_blocks whats = flat_map block_of whats

abbrev pub laid : ℕ → List Meaning → List Message
laid p [] = []
laid p (what ∷ whats) = record { end = p + length (block_of what); what = what }
    ∷ laid (p + length (block_of what)) whats

-- the meanings of a connection's messages
abbrev pub whats_on : ℕ → List Arrival → List Meaning
whats_on c arrivals = whats_of (messages_of c arrivals)

-- its canonical block is a piece within the limits, and no longer than a block may be
abbrev pub IsShort : Meaning → Type 0
IsShort what = (0 < length (block_of what)) × (length (block_of what) ≤ 8192)

-- The slim records of these records have arrivals that are the same: the text of each connection is the blocks of its
-- messages.
pub record Kept (slim records : List Record) (arrivals : List Arrival) : Type 0 where
  pub slims : List Arrival
  pub arrived : AreArrivals (used_once slim) slims
  pub same : map seen slims ≡ map seen arrivals
  pub numbers : HaveNumbers slim
  pub ends : (c : ℕ) → count_by (is_end_of c) slim ≡ count_by (is_end_of c) records
  pub tiers : (c : ℕ) → IsNumber c → tier_now c slim ≡ tier_now c records
  pub text : (c : ℕ) → text_of c (used_once slim) ≡ text_of_blocks (whats_on c arrivals)
  pub messages : (c : ℕ) → messages_of c slims ≡ laid 0 (whats_on c arrivals)
  pub again : slim_records slim slims ≡ slim
  pub short : All (λ a. IsShort a.message.what) arrivals

-- the connections have read the texts of these records, whose messages arrive so
pub record Stands (queries : Queries) (records : List Record) (arrivals : List Arrival)
    (connections : List Connection) : Type 0 where
  pub numbers : HaveNumbers records
  pub reads : HaveRead records arrivals connections
  pub arrived : AreArrivals (used_once records) arrivals
  pub kept : Kept (slimmed queries records arrivals) records (kept_arrivals queries arrivals)

-- One more record came, whose slim records are these, no more than it has bytes, and one besides: the connections stand
-- so after it.
pub record StandsMore (queries : Queries) (records : List Record) (arrivals : List Arrival) (r : Record)
    (more : List Record) (connections : List Connection) : Type 0 where
  pub came : List Arrival
  pub stands : Stands queries (records ++ r ∷ []) (arrivals ++ came) connections
  pub more_is : slimmed queries (records ++ r ∷ []) (arrivals ++ came) ≡ slimmed queries records arrivals ++ more
  pub few : length more ≤ size_of r + 1
