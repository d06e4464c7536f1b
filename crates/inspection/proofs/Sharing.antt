-- The shares of connections stay within 64 bits.
use Rattle.std.proofs.Common.{◌≡◌, ℕ, ◌+◌, ◌-◌, ◌^◌, ◌<◌, ◌≤◌, Bool, true, false, List, [], ◌∷◌, length, drop, length-drop, refl, sym, ap, arith, nat_lt}
use Rattle.std.specs.Prelude.{if◌then◌else◌, sum_by}
use Rattle.std.proofs.lemmas.List.Sums.{sum_by-cons, sum_by-le-sum_by, count_by-le-length}
use Rattle.captures.specs.declared.record.Record.{Record}
use Rattle.captures.specs.Reference.{used_once}
use Rattle.captures.specs.CaptureFaults.{longest_text}
use Rattle.captures.specs.Captures.{sizes_of}
use Rattle.http_requests.specs.declared.messages.Message.{Message}
use Rattle.arrivals.specs.Reference.{Arrival, text_of, messages_of}
use Rattle.arrivals.specs.Connections.{IsNumber, text_now, some_closes}
use Rattle.inspection.specs.declared.inspection.Share.{Share}
use Rattle.inspection.specs.declared.tails.Tail.{Tail}
use Rattle.inspection.specs.declared.found.Found.{Found}
use Rattle.inspection.specs.Figures.{share_over, ended, every_number, bytes_after, bytes_after_close, bytes_begun, bytes_unfinished, end_of}
use Rattle.inspection.specs.Running.{CanAdd, CanAddAll, IsFound, tail_at, rest_of, rest_after_close, rest_unfinished}
use Rattle.inspection.proofs.Named.{now_below}
use Rattle.inspection.proofs.Everyone.{sum_over_tails}
use Rattle.inspection.proofs.Ended.{few_ended}
use Rattle.inspection.proofs.Totals.{bytes_together}

-- ---- no more than all bytes

after_close_part : (t : Tail) → rest_after_close t ≤ t.bytes
after_close_part t = go t.closed
  where
    go : (b : Bool) → (if b then rest_of t else 0) ≤ t.bytes
    go true = omega arith
    go false = omega arith

unfinished_part : (t : Tail) → rest_unfinished t ≤ t.bytes
unfinished_part t = go t.closed
  where
    go : (b : Bool) → (if b then 0 else t.bytes - t.next) ≤ t.bytes
    go true = omega arith
    go false = omega arith

closed_within : (text : List ℕ) (ms : List Message) → bytes_after_close text ms ≤ length text
closed_within text ms = go (some_closes ms)
  where
    go : (b : Bool) → (if b then bytes_after text ms else 0) ≤ length text
    go true = omega arith
    go false = omega arith

unfinished_within : (text : List ℕ) (ms : List Message) → bytes_unfinished text ms ≤ length text
unfinished_within text ms = go (some_closes ms)
  where
    go : (b : Bool) → (if b then 0 else bytes_begun (drop (end_of ms) text)) ≤ length text
    go true = omega arith
    go false = let l = length-drop (end_of ms) text in omega (arith, l)

-- the bytes that came on connections that have ended, and on those that numbers name
abbrev came_on : List Record → ℕ → ℕ
came_on records c = length (text_of c (used_once records))

abbrev came_now : List Record → ℕ → ℕ
came_now records c = length (text_now c records)

-- a share of ended connections
record IsWithin (records : List Record) (share : Share) : Type 0 where
  bytes : share.bytes ≤ sum_by (came_on records) (ended records)
  connections : share.connections ≤ length records

within : (on : ℕ → ℕ) (records : List Record) (share : Share) → ((c : ℕ) → on c ≤ came_on records c) → share ≡ share_over on (ended records) → IsWithin records share
within on records share part is = record {
  bytes = (let n = ap (λ s. s.bytes) is in let le = sum_by-le-sum_by on (came_on records) (ended records) part in omega (arith, n, le));
  connections = (let n = ap (λ s. s.connections) is in let le = count_by-le-length (λ c. nat_lt 0 (on c)) (ended records) in let few = few_ended records in omega (arith, n, le, few));
}

can_add : (f : Tail → ℕ) (records : List Record) (share : Share) (tails : List Tail) (n : ℕ) → ((t : Tail) → f t ≤ t.bytes) → IsWithin records share → sum_by (λ t. t.bytes) tails ≤ n
    → sum_by (came_on records) (ended records) + n < 2 ^ 63 → length records ≤ longest_text → length tails ≤ 65536 → CanAdd share f tails
can_add f records share tails n part h most all short few = record {
  bytes = (let le = sum_by-le-sum_by f (λ t. t.bytes) tails part in let b = h.bytes in omega (arith, le, b, most, all));
  connections = (let c = h.connections in omega (arith, c, short, few));
}

can_add_all : (records : List Record) (arrivals : List Arrival) (f : Found) (tails : List Tail) (n : ℕ) → IsFound records arrivals f → sum_by (λ t. t.bytes) tails ≤ n
    → sum_by (came_on records) (ended records) + n < 2 ^ 63 → length records ≤ longest_text → length tails ≤ 65536 → CanAddAll f.ended tails
can_add_all records arrivals f tails n is most all short few = record {
  received = can_add (λ t. t.bytes) records f.ended.received tails n (λ t. omega arith) (within (came_on records) records f.ended.received (λ c. omega arith) is.ended.received) most all short few;
  after_close = can_add rest_after_close records f.ended.after_close tails n after_close_part
      (within (λ c. bytes_after_close (text_of c (used_once records)) (messages_of c arrivals)) records f.ended.after_close (λ c. closed_within (text_of c (used_once records)) (messages_of c arrivals)) is.ended.after_close) most all short few;
  unfinished = can_add rest_unfinished records f.ended.unfinished tails n unfinished_part
      (within (λ c. bytes_unfinished (text_of c (used_once records)) (messages_of c arrivals)) records f.ended.unfinished (λ c. unfinished_within (text_of c (used_once records)) (messages_of c arrivals)) is.ended.unfinished) most all short few;
}

-- all connections that are kept
pub room_of_all : (records : List Record) (arrivals : List Arrival) (f : Found) → IsFound records arrivals f → sizes_of records ≤ longest_text → length records ≤ longest_text → CanAddAll f.ended f.tails
room_of_all records arrivals f is bytes short =
    let kept : sum_by (λ t. t.bytes) f.tails ≡ sum_by (came_now records) every_number =
    sum_over_tails (λ t. t.bytes) (came_now records) f.tails is.tails.few refl (λ c low. sym (ap (λ t. t.bytes) (is.tails.each c low))) in
    let all = bytes_together records is.numbers in
    can_add_all records arrivals f f.tails (sum_by (came_now records) every_number) is (omega (arith, kept)) (omega (arith, all, bytes)) short is.tails.few

-- one that has ended
pub room_of_one : (records : List Record) (arrivals : List Arrival) (f : Found) (c : ℕ) → IsNumber c → IsFound records arrivals f → sizes_of records ≤ longest_text → length records ≤ longest_text
    → CanAddAll f.ended (tail_at f.tails c ∷ [])
room_of_one records arrivals f c low is bytes short =
    let all = bytes_together records is.numbers in
    let own : (tail_at f.tails c).bytes ≡ length (text_now c records) = ap (λ t. t.bytes) (is.tails.each c low) in
    let below = now_below c records in
    let one = sum_by-cons (λ t. t.bytes) (tail_at f.tails c) [] in
    can_add_all records arrivals f (tail_at f.tails c ∷ []) (sizes_of records) is (omega (arith, own, below, one)) (omega (arith, all, bytes)) short (omega arith)
