-- What is kept after one more record.
use Rattle.std.proofs.Common.{◌≡◌, ◌≢◌, ℕ, zero, suc, ◌+◌, ◌-◌, ◌/◌, ◌^◌, ◌<◌, ◌≤◌, inl, inr, List, [], ◌∷◌, ◌++◌, length, map, get_or, replicate, Some, None, Option, refl, sym, ap, ◌∙◌, subst, arith, unwrap_or, append-nil}
use Rattle.std.specs.Prelude.{slice_get, OnOk, Result, Ok, Err}
use Rattle.std.specs.List.{AllPairs}
use Rattle.std.proofs.lemmas.Grind.{flat_map-append}
use Rattle.std.proofs.lemmas.Option.{slice_get-get_or}
use Rattle.std.proofs.lemmas.Bool.Decides.{eqb_tells}
use Rattle.std.proofs.lemmas.List.{length_push, length-append, length-map, get_or_push, get_or_append_left, map-append}
use Rattle.std.proofs.lemmas.List.Elements.{All-nil, All-push}
use Rattle.std.proofs.lemmas.List.Sums.{sum_by_push}
use Rattle.std.proofs.Math.Seq.{get_or-append_seam}
use Rattle.captures.specs.declared.record.Record.{Record}
use Rattle.captures.specs.declared.record.Record.TheVariants.{Piece, End, Tier}
use Rattle.captures.specs.Reference.{connection_of, connection_now, tick_of, ticks_of, last_of, used_once}
use Rattle.captures.specs.CaptureFaults.{longest_text}
use Rattle.captures.specs.Captures.{size_of, sizes_of}
use Rattle.http_requests.specs.declared.messages.Message.{Message}
use Rattle.http_requests.specs.Cutting.{EndBetween}
use Rattle.arrivals.specs.Reference.{Arrival, AreArrivals}
use Rattle.arrivals.specs.Connections.{HasRead, HasCapacity, ReadMore, HaveNumbers, IsNumber, connection_at, arrivals_with, text_now, messages_now}
use Rattle.arrivals.specs.Batches.{Stand, origin_now}
use Rattle.arrivals.specs.declared.connections.Connection.{Connection}
use Rattle.arrivals.specs.declared.connections.Connection.TheVariants.{Silent}
use Rattle.arrivals.specs.declared.incoming.Origin.{Origin}
use Rattle.arrivals.proofs.CutBatches.{room_of}
use Rattle.arrivals.proofs.Merging.{stand_piece, stand_end, stand_tier}
use Rattle.inspection.specs.declared.found.Found.{Found}
use Rattle.inspection.specs.declared.tails.Tail.{Tail}
use Rattle.inspection.specs.Figures.{whats_of, seconds_of}
use Rattle.inspection.specs.Running.{tail_of, tail_at, empty_tail, AreTails, IsFound, TookPiece, TookEnd, with_tier, IsNoEarlier, Holds, HoldsMore}
use Rattle.inspection.proofs.Counted.{piece_counted, end_counted, tier_counted}
use Rattle.inspection.proofs.Named.{now_below, text_piece_own, text_piece_other, messages_piece_own, messages_piece_other, text_end_own, text_end_other, messages_end_own, messages_end_other, text_tier, messages_tier}
use Rattle.inspection.proofs.Ended.{shares_piece, shares_end, shares_tier}
use Rattle.inspection.proofs.OpenNow.{open_none, open_piece, open_end, open_tier, open_counted, few_open}

-- ---- the capacity for a record

pub has_room : (records : List Record) (arrivals : List Arrival) (connections : List Connection) (f : Found) (c n : ℕ) → IsNumber c
    → Holds records arrivals connections f → sizes_of records + n ≤ longest_text → HasCapacity (connection_at connections c) n
has_room records arrivals connections f c n low holds capacity =
    let below = now_below c records in
    room_of (connection_at connections c) (text_now c records) (messages_now c records arrivals) n (holds.reads.each c low) (omega (arith, below, capacity))

-- how many bytes came on the connection that a number names
pub tail_bytes : (records : List Record) (arrivals : List Arrival) (f : Found) (c : ℕ) → IsNumber c → IsFound records arrivals f → (tail_at f.tails c).bytes ≡ length (text_now c records)
tail_bytes records arrivals f c low is = ap (λ t. t.bytes) (is.tails.each c low)

pub tail_room : (records : List Record) (arrivals : List Arrival) (f : Found) (c n : ℕ) → IsNumber c
    → IsFound records arrivals f → sizes_of records + n ≤ longest_text → (tail_at f.tails c).bytes + n < 2 ^ 64
tail_room records arrivals f c n low is capacity = omega (arith, now_below c records, capacity, tail_bytes records arrivals f c low is)

pub open_room : (records : List Record) (arrivals : List Arrival) (f : Found) → IsFound records arrivals f → f.opened.now + 1 < 2 ^ 64
open_room records arrivals f is = let now = is.opened.now in omega (arith, now, few_open records)

pub open_some : (tick : ℕ) (records : List Record) (arrivals : List Arrival) (f : Found) (c : ℕ) → IsNumber c → IsFound records arrivals f → 0 < (tail_at f.tails c).bytes → 0 < f.opened.now
open_some tick records arrivals f c low is some =
    let now = is.opened.now in
    let count = open_counted tick c (tail_at f.tails c).bytes records low is.numbers (tail_bytes records arrivals f c low is) some in
    omega (arith, now, count)

-- ---- ticks

first_more : (ticks : List ℕ) (t : ℕ) → slice_get (ticks ++ t ∷ []) 0 ≡ Some (unwrap_or (slice_get ticks 0) t)
first_more [] t = refl
first_more (x ∷ ticks) t = refl

last_more : (ticks : List ℕ) (t : ℕ) → slice_get (ticks ++ t ∷ []) (length (ticks ++ t ∷ []) - 1) ≡ Some t
last_more ticks t =
    let len = length_push ticks t in
    let i : ℕ = length (ticks ++ t ∷ []) - 1 in
    slice_get-get_or (ticks ++ t ∷ []) i 0 (omega (arith, len)) ∙ ap Some (get_or_push ticks t 0 i (omega (arith, len)))

-- a record that gives a tick
ticks_more : (records : List Record) (r : Record) (t : ℕ) → tick_of r ≡ t ∷ [] → ticks_of (records ++ r ∷ []) ≡ ticks_of records ++ t ∷ []
ticks_more records r t gives = flat_map-append tick_of records (r ∷ []) ∙ ap (λ l. ticks_of records ++ (l ++ [])) gives

last_now : (records : List Record) (r : Record) (t : ℕ) → tick_of r ≡ t ∷ [] → last_of (ticks_of (records ++ r ∷ [])) ≡ t
last_now records r t gives =
    ap last_of (ticks_more records r t gives) ∙ (let len = length_push (ticks_of records) t in get_or_push (ticks_of records) t 0 (length (ticks_of records ++ t ∷ []) - 1) (omega (arith, len)))

-- what is kept of the ticks
record AreTicks (records : List Record) (first last : Option ℕ) : Type 0 where
  first_is : first ≡ slice_get (ticks_of records) 0
  last_is : last ≡ slice_get (ticks_of records) (length (ticks_of records) - 1)

ticks_kept : (records : List Record) (r : Record) (t : ℕ) (first last new_first new_last : Option ℕ) → tick_of r ≡ t ∷ [] → AreTicks records first last
    → new_first ≡ Some (unwrap_or first t) → new_last ≡ Some t → AreTicks (records ++ r ∷ []) new_first new_last
ticks_kept records r t first last new_first new_last gives are f l = record {
  first_is = f ∙ ap (λ o. Some (unwrap_or o t)) are.first_is ∙ sym (first_more (ticks_of records) t) ∙ ap (λ ts. slice_get ts 0) (sym (ticks_more records r t gives));
  last_is = l ∙ sym (last_more (ticks_of records) t) ∙ ap (λ ts. slice_get ts (length ts - 1)) (sym (ticks_more records r t gives));
}

-- the last of ticks that don't fall is no earlier than the others
pub last_le : (ticks : List ℕ) (t : ℕ) → AllPairs (λ x y. x ≤ y) (ticks ++ t ∷ []) → last_of ticks ≤ t
last_le [] t rising = omega arith
last_le (x ∷ ticks) t rising =
    let xs = x ∷ ticks in
    let len = length_push xs t in
    let n : length xs ≡ suc (length ticks) = refl in
    let k : ℕ = length xs - 1 in
    let le = rising k (length xs) 0 (omega (arith, n)) (omega (arith, len)) in
    let here : get_or (xs ++ t ∷ []) k 0 ≡ get_or xs k 0 = get_or_append_left xs (t ∷ []) 0 k (omega (arith, n)) in
    let there : get_or (xs ++ t ∷ []) (length xs) 0 ≡ t = get_or-append_seam xs t [] 0 in
    rw (here, there) at le

-- ---- connections

both : (t u : List ℕ) (ms ns : List Message) → t ≡ u → ms ≡ ns → tail_of t ms ≡ tail_of u ns
both t u ms ns text messages = λ i. tail_of (text i) (messages i)

tails_tier : (records : List Record) (arrivals : List Arrival) (conn tier : ℕ) (tails : List Tail) → AreTails records arrivals tails → AreTails (records ++ Tier conn tier ∷ []) arrivals tails
tails_tier records arrivals conn tier tails are = record {
  few = are.few;
  each = λ c low. are.each c low ∙ both _ _ _ _ (sym (text_tier c conn tier records)) (sym (messages_tier c conn tier records arrivals));
}

tails_end : (records : List Record) (arrivals : List Arrival) (tick conn : ℕ) (old new : Found) → IsNumber conn → HaveNumbers records → AreArrivals (used_once records) arrivals
    → AreTails records arrivals old.tails → TookEnd tick conn old new → AreTails (records ++ End tick conn ∷ []) arrivals new.tails
tails_end records arrivals tick conn old new number numbers arrived are took = record {
  few = (let n = took.few in let m = are.few in omega (arith, n, m));
  each = λ c low. elim (eqb_tells c conn) [
    | inl same ↦ rw same.1 (took.own ∙ both [] _ [] _ (sym (text_end_own tick conn records number numbers)) (sym (messages_end_own tick conn records arrivals number numbers arrived)))
    | inr other ↦ took.others c other.1 ∙ are.each c low ∙ both _ _ _ _ (sym (text_end_other c tick conn records other.1)) (sym (messages_end_other c tick conn records arrivals other.1))
  ];
}

tails_more : (records : List Record) (arrivals : List Arrival) (tick conn : ℕ) (bytes : List ℕ) (o : Origin) (ms : List Message) (old new : Found) → IsNumber conn
    → AreTails records arrivals old.tails → EndBetween (length (text_now conn records)) (length (text_now conn records) + length bytes) ms → TookPiece tick conn bytes ms old new
    → AreTails (records ++ Piece tick conn bytes ∷ []) (arrivals ++ arrivals_with (length records) (connection_now conn records) o ms) new.tails
tails_more records arrivals tick conn bytes o ms old new number are ends took = record {
  few = took.few;
  each = λ c low. elim (eqb_tells c conn) [
    | inl same ↦ rw same.1 (took.own (text_now conn records) (messages_now conn records arrivals) (are.each conn number) ends
        ∙ both _ _ _ _ (sym (text_piece_own tick conn bytes records)) (sym (messages_piece_own tick conn (length records) bytes o records arrivals ms)))
    | inr other ↦ took.others c other.1 ∙ are.each c low
        ∙ both _ _ _ _ (sym (text_piece_other c tick conn bytes records low number other.1)) (sym (messages_piece_other c tick conn (length records) bytes o records arrivals ms low number other.1))
  ];
}

-- ---- arrivals

whats_more : (arrivals : List Arrival) (place id : ℕ) (origin : Origin) (ms : List Message) → whats_of (arrivals ++ arrivals_with place id origin ms) ≡ whats_of arrivals ++ map (λ m. m.what) ms
whats_more arrivals place id origin ms = map-append (λ a. a.message.what) arrivals (arrivals_with place id origin ms) ∙ ap (λ l. whats_of arrivals ++ l) (go ms)
  where
    go : (ms : List Message) → whats_of (arrivals_with place id origin ms) ≡ map (λ m. m.what) ms
    go [] = refl
    go (m ∷ ms) = ap (λ l. m.what ∷ l) (go ms)

seconds_more : (arrivals : List Arrival) (place id : ℕ) (origin : Origin) (ms : List Message)
    → seconds_of (arrivals ++ arrivals_with place id origin ms) ≡ seconds_of arrivals ++ replicate (length ms) (origin.tick / 1000000)
seconds_more arrivals place id origin ms = map-append (λ a. a.origin.tick / 1000000) arrivals (arrivals_with place id origin ms) ∙ ap (λ l. seconds_of arrivals ++ l) (go ms)
  where
    go : (ms : List Message) → seconds_of (arrivals_with place id origin ms) ≡ replicate (length ms) (origin.tick / 1000000)
    go [] = refl
    go (m ∷ ms) = ap (λ l. origin.tick / 1000000 ∷ l) (go ms)

-- messages end one after another, so they are no more than the bytes
few_end : (from to : ℕ) (ms : List Message) → from ≤ to → EndBetween from to ms → length ms + from ≤ to
few_end from to [] le ends = omega (arith, le)
few_end from to (m ∷ ms) le ends =
    let more = few_end m.end to ms ends.1 ends.2 in let lt = ends.0 in omega (arith, more, lt)

-- ---- no record yet

none_kept : (tails : List Tail) (c : ℕ) → tails ≡ [] → tail_at tails c ≡ empty_tail
none_kept tails zero none = rw none refl
none_kept tails (suc c) none = rw none refl

pub found_none : (tails : List Tail) → tails ≡ [] → IsFound [] [] (record {
  records = record { all = 0; pieces = 0; ends = 0; tiers = 0 };
  first_tick = None;
  last_tick = None;
  messages = record {
    all = 0;
    requests = 0;
    methods = record { get = 0; head = 0; other = 0 };
    versions = record { http10 = 0; http11 = 0 };
    faults = record { too_long = 0; block = 0; host = 0; coding = 0; length = 0; body_size = 0 };
  };
  busy = record { now = record { number = 0; messages = 0 }; busiest = record { number = 0; messages = 0 } };
  tails = tails;
  ended = record { received = record { bytes = 0; connections = 0 }; after_close = record { bytes = 0; connections = 0 }; unfinished = record { bytes = 0; connections = 0 } };
  opened = record { now = 0; most = 0 };
})
found_none tails none = record {
  counts = refl;
  first_tick = refl;
  last_tick = refl;
  messages = refl;
  busy = record { now = refl; later = λ second lt. refl; busiest = record { is = refl; most = λ second. omega arith; first = λ second e. omega arith } };
  past = omega arith;
  tails = record { few = rw none (omega arith); each = λ c low. none_kept tails c none };
  ended = record { received = refl; after_close = refl; unfinished = refl };
  opened = open_none;
  numbers = All-nil (λ (r : Record). IsNumber (connection_of r));
  few = omega arith;
}

-- ---- one more record

sizes_push : (records : List Record) (r : Record) → sizes_of (records ++ r ∷ []) ≡ sizes_of records + size_of r
sizes_push records r = sum_by_push size_of records r

past_after : (old new t : ℕ) → old ≤ new / 1000000 → new ≤ t → old ≤ t / 1000000
past_after old new t h le = omega (arith, h, le)

-- what was found, seen by the connections
stand_of : (records : List Record) (arrivals : List Arrival) (connections : List Connection) (f : Found) → Holds records arrivals connections f → Stand records arrivals (connection_at connections)
stand_of records arrivals connections f holds = record { each = holds.reads.each; arrived = holds.arrived }

numbers_more : (records : List Record) (r : Record) → IsNumber (connection_of r) → HaveNumbers records → HaveNumbers (records ++ r ∷ [])
numbers_more records r number numbers = All-push (λ (q : Record). IsNumber (connection_of q)) records r numbers number

pub holds_end : (tick conn n : ℕ) (records : List Record) (arrivals : List Arrival) (r : Record) (before after : List Connection) (old new : Found)
    → r ≡ End tick conn → n ≡ conn → IsNumber conn → connection_at after n ≡ Silent → ((c : ℕ) → c ≢ n → connection_at after c ≡ connection_at before c)
    → TookEnd tick conn old new → Holds records arrivals before old → IsNoEarlier records r → HoldsMore records arrivals r after new
holds_end tick conn n records arrivals r before after old new is named number silent others took holds later =
    let e = End tick conn in
    let found = holds.found in
    let numbers = found.numbers in
    let apart : (c : ℕ) → c ≢ conn → connection_at after c ≡ connection_at before c = rw named at others in
    let stand = stand_end records arrivals (connection_at before) (connection_at after) tick conn number numbers (stand_of records arrivals before old holds) (rw named at silent) apart in
    let ticks = ticks_kept records e tick old.first_tick old.last_tick new.first_tick new.last_tick refl (record { first_is = found.first_tick; last_is = found.last_tick }) took.first_tick took.last_tick in
    let no_earlier : IsNoEarlier records (End tick conn) = subst (IsNoEarlier records) is later in
    let now : last_of (ticks_of (records ++ e ∷ [])) ≡ tick = last_now records e tick refl in
    let kept : IsFound (records ++ e ∷ []) arrivals new = record {
      counts = took.counts ∙ ap (λ c. record { all = c.all + 1; pieces = c.pieces; ends = c.ends + 1; tiers = c.tiers }) found.counts ∙ sym (end_counted records tick conn);
      first_tick = ticks.first_is;
      last_tick = ticks.last_is;
      messages = took.messages ∙ found.messages;
      busy = rw took.busy found.busy;
      past = rw (now, took.busy) (past_after old.busy.now.number (last_of (ticks_of records)) tick found.past no_earlier);
      tails = tails_end records arrivals tick conn old new number numbers holds.arrived found.tails took;
      ended = shares_end tick conn records arrivals old.ended new.ended (tail_at old.tails conn) (found.tails.each conn number) took.ended found.ended;
      opened = open_end tick conn records (tail_at old.tails conn) old.opened new.opened number numbers (tail_bytes records arrivals old conn number found) took.opened found.opened;
      numbers = numbers_more records e number numbers;
      few = (let s = sizes_push records e in let f = found.few in omega (arith, s, f));
    } in
    let more : Holds (records ++ e ∷ []) arrivals after new = record {
      reads = record { each = stand.each };
      arrived = stand.arrived;
      found = kept;
    } in
    rw is ([], rw (append-nil arrivals) more)

pub holds_tier : (conn tier : ℕ) (records : List Record) (arrivals : List Arrival) (r : Record) (connections : List Connection) (old new : Found)
    → r ≡ Tier conn tier → IsNumber conn → new ≡ record old { records = with_tier old.records } → Holds records arrivals connections old → HoldsMore records arrivals r connections new
holds_tier conn tier records arrivals r connections old new is number done holds =
    let e = Tier conn tier in
    let found = holds.found in
    let stand = stand_tier records arrivals (connection_at connections) conn tier (stand_of records arrivals connections old holds) in
    let same : ticks_of (records ++ e ∷ []) ≡ ticks_of records = flat_map-append tick_of records (e ∷ []) ∙ append-nil (ticks_of records) in
    let kept : IsFound (records ++ e ∷ []) arrivals (record old { records = with_tier old.records }) = record {
      counts = ap with_tier found.counts ∙ sym (tier_counted records conn tier);
      first_tick = rw same found.first_tick;
      last_tick = rw same found.last_tick;
      messages = found.messages;
      busy = found.busy;
      past = rw same found.past;
      tails = tails_tier records arrivals conn tier old.tails found.tails;
      ended = shares_tier conn tier records arrivals old.ended found.ended;
      opened = open_tier conn tier records old.opened found.opened;
      numbers = numbers_more records e number found.numbers;
      few = (let s = sizes_push records e in let f = found.few in omega (arith, s, f));
    } in
    let more : Holds (records ++ e ∷ []) arrivals connections new = record {
      reads = record { each = stand.each };
      arrived = stand.arrived;
      found = rw done kept;
    } in
    rw is ([], rw (append-nil arrivals) more)

-- the number that a record names
pub piece_number : (tick conn : ℕ) (bytes : List ℕ) (r : Record) → r ≡ Piece tick conn bytes → IsNumber (connection_of r) → IsNumber conn
piece_number tick conn bytes r is low = subst (λ (q : Record). IsNumber (connection_of q)) is low

pub end_number : (tick conn : ℕ) (r : Record) → r ≡ End tick conn → IsNumber (connection_of r) → IsNumber conn
end_number tick conn r is low = subst (λ (q : Record). IsNumber (connection_of q)) is low

pub tier_number : (conn tier : ℕ) (r : Record) → r ≡ Tier conn tier → IsNumber (connection_of r) → IsNumber conn
tier_number conn tier r is low = subst (λ (q : Record). IsNumber (connection_of q)) is low

-- what the connections have read of a piece
pub record Took (n : ℕ) (before after : List Connection) (piece : List ℕ) (out : List Message) : Type 0 where
  pub own : (text : List ℕ) (sofar : List Message) → HasRead (connection_at before n) text sofar → ReadMore text sofar (connection_at after n) piece out
  pub others : (c : ℕ) → c ≢ n → connection_at after c ≡ connection_at before c

pub holds_piece : (tick conn : ℕ) (bytes : List ℕ) (ms : List Message) (records : List Record) (arrivals : List Arrival) (r : Record) (before after : List Connection) (old new : Found)
    → r ≡ Piece tick conn bytes → IsNumber conn → Took conn before after bytes ms → TookPiece tick conn bytes ms old new → Holds records arrivals before old → IsNoEarlier records r
    → HoldsMore records arrivals r after new
holds_piece tick conn bytes ms records arrivals r before after old new is number read took holds later =
    let e = Piece tick conn bytes in
    let id = connection_now conn records in
    let origin = origin_now conn tick records in
    let coming = arrivals_with (length records) id origin ms in
    let found = holds.found in
    let numbers = found.numbers in
    let stand = stand_piece records arrivals (connection_at before) (connection_at after) tick conn bytes ms number (stand_of records arrivals before old holds) read.own read.others in
    let ends = (read.own (text_now conn records) (messages_now conn records arrivals) (holds.reads.each conn number)).in_piece in
    let ticks = ticks_kept records e tick old.first_tick old.last_tick new.first_tick new.last_tick refl (record { first_is = found.first_tick; last_is = found.last_tick }) took.first_tick took.last_tick in
    let no_earlier : IsNoEarlier records (Piece tick conn bytes) = subst (IsNoEarlier records) is later in
    let now : last_of (ticks_of (records ++ e ∷ [])) ≡ tick = last_now records e tick refl in
    let kept : IsFound (records ++ e ∷ []) (arrivals ++ coming) new = record {
      counts = took.counts ∙ ap (λ c. record { all = c.all + 1; pieces = c.pieces + 1; ends = c.ends; tiers = c.tiers }) found.counts ∙ sym (piece_counted records tick conn bytes);
      first_tick = ticks.first_is;
      last_tick = ticks.last_is;
      messages = rw (whats_more arrivals (length records) id origin ms) (took.messages (whats_of arrivals) found.messages);
      busy = rw (seconds_more arrivals (length records) id origin ms) (took.busy (seconds_of arrivals) found.busy (past_after old.busy.now.number (last_of (ticks_of records)) tick found.past no_earlier));
      past = rw now (let p = took.past in omega (arith, p));
      tails = tails_more records arrivals tick conn bytes origin ms old new number found.tails ends took;
      ended = shares_piece tick conn (length records) bytes origin records arrivals ms old.ended new.ended number numbers took.ended found.ended;
      opened = open_piece tick conn bytes records (tail_at old.tails conn) old.opened new.opened number (tail_bytes records arrivals old conn number found) took.opened found.opened;
      numbers = numbers_more records e number numbers;
      few = (let s = sizes_push records e in let f = found.few in let n = few_end (length (text_now conn records)) (length (text_now conn records) + length bytes) ms (omega arith) ends in
          let l = length-append arrivals coming in let k : length coming ≡ length ms = length-map ms _ in omega (arith, s, f, n, l, k));
    } in
    let more : Holds (records ++ e ∷ []) (arrivals ++ coming) after new = record {
      reads = record { each = stand.each };
      arrived = stand.arrived;
      found = kept;
    } in
    rw is (coming, more)

pub took_by : (conn n : ℕ) (before after : List Connection) (piece : List ℕ) (ms out : List Message) → n ≡ conn → ms ≡ out → Took n before after piece out → Took conn before after piece ms
took_by conn n before after piece ms out named same took =
    subst (λ k. Took k before after piece ms) named (subst (λ (l : List Message). Took n before after piece l) (sym same) took)

pub on_ok : {X E A B : Type 0} (r : Result X E) → OnOk r A → (A → B) → OnOk r B
on_ok (Ok x) a f = f a
on_ok (Err e) a f = tt
