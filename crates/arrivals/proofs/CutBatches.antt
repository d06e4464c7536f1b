-- What a connection reads of a piece that was cut by itself.
use Rattle.std.proofs.Common.{◌≡◌, ℕ, ◌+◌, ◌≤◌, List, ◌++◌, length, sym, ap, arith}
use Rattle.http_requests.specs.Cutting.{max_text_bytes}
use Rattle.http_requests.specs.Alone.{IsLast, shifted}
use Rattle.http_requests.specs.declared.messages.Message.{Message}
use Rattle.http_requests.proofs.AloneLemmas.{between_moved, lasts}
use Rattle.arrivals.specs.Connections.{HasRead, HasCapacity}
use Rattle.arrivals.specs.Batches.{Reads}
use Rattle.arrivals.specs.Gathering.{StandsBetween, read_of}
use Rattle.arrivals.specs.declared.connections.Connection.{Connection}
use Rattle.arrivals.specs.declared.connections.Connection.TheVariants.{Silent, Open, Closed}

pub room_of : (k : Connection) (text : List ℕ) (ms : List Message) (n : ℕ) → HasRead k text ms → length text + n ≤ max_text_bytes → HasCapacity k n
room_of Silent text ms n h le = omega (arith, le)
room_of (Open cutter) text ms n h le = let e = h.read in omega (arith, e, le)
room_of Closed text ms n h le = tt

-- how much a connection between two messages has read
pub read_is : (k : Connection) (text : List ℕ) (ms : List Message) → StandsBetween k → HasRead k text ms → read_of k ≡ length text
read_is Silent text ms between h = sym (ap length h.0)
read_is (Open cutter) text ms between h = h.read
read_is Closed text ms between h = absurd between

closes_now : (k : Connection) (piece : List ℕ) (ms : List Message) → StandsBetween k → IsLast piece ms → (text : List ℕ) (sofar : List Message) → HasRead k text sofar
    → HasRead Closed (text ++ piece) (sofar ++ shifted (read_of k) ms)
closes_now Silent piece ms between all text sofar h = λ more. rw (h.0, h.1) (all.closes 0 more)
closes_now (Open cutter) piece ms between all text sofar h = lasts cutter piece ms between all text sofar h
closes_now Closed piece ms between all text sofar h = absurd between

-- a piece closes a connection between two messages
pub reads_last : (k : Connection) (piece : List ℕ) (ms : List Message) → StandsBetween k → IsLast piece ms → Reads k piece (shifted (read_of k) ms) Closed
reads_last k piece ms between all = λ text sofar h.
    let read = read_is k text sofar between h in
    record {
      has = closes_now k piece ms between all text sofar h;
      in_piece = between_moved (read_of k) 0 (length piece) (length text) (length text + length piece) ms (omega (arith, read)) (omega (arith, read)) all.in_piece;
    }
