-- The slim records of one more record.
use Rattle.std.proofs.Common.{◌≡◌, ◌≢◌, ℕ, zero, suc, ◌+◌, ◌≤◌, inl, inr, cond, List, [], ◌∷◌, ◌++◌, length, Option, Result, Ok, Err, refl, sym, ap, ap₂, ◌∙◌, subst, arith, append-nil}
use Rattle.std.proofs.lemmas.Bool.Decides.{eqb_tells}
use Rattle.std.proofs.lemmas.List.{length-append, length-map, map-append}
use Rattle.std.proofs.lemmas.List.Elements.{All-push, All-nil}
use Rattle.std.proofs.lemmas.List.Sums.{sum_by-cons}
use Rattle.std.specs.Result.{IsErrAnd}
use Rattle.devices.specs.Devices.{AppendsPrefix, WritesPrefix, CountsBy}
use Rattle.captures.specs.declared.record.Record.{Record}
use Rattle.captures.specs.declared.record.Record.TheVariants.{Piece, End, Tier}
use Rattle.captures.specs.Reference.{connection_of, connection_now, of_connection, used_once, used_once_after}
use Rattle.captures.specs.Captures.{size_of, sizes_of}
use Rattle.captures.specs.CaptureFaults.{longest_text}
use Rattle.http_requests.specs.declared.messages.Message.{Message}
use Rattle.http_requests.specs.declared.messages.Meaning.{Meaning}
use Rattle.http_requests.specs.Cutting.{EndBetween}
use Rattle.arrivals.specs.Reference.{Arrival, AreArrivals, text_of}
use Rattle.arrivals.specs.Connections.{HasRead, HasCapacity, HaveNumbers, IsNumber, ReadMore, arrivals_with, connection_at, text_now, messages_now}
use Rattle.arrivals.specs.Batches.{Stand, origin_now}
use Rattle.arrivals.specs.declared.incoming.Origin.{Origin}
use Rattle.arrivals.specs.declared.connections.Connection.{Connection}
use Rattle.arrivals.specs.declared.connections.Connection.TheVariants.{Silent}
use Rattle.arrivals.proofs.CutBatches.{room_of}
use Rattle.arrivals.proofs.Merging.{stand_none, stand_piece, stand_end, stand_tier}
use Rattle.slim.specs.Blocks.{block_of}
use Rattle.slim.specs.Slims.{slim_record, slim_records, slimmed}
use Rattle.slim.specs.Targets.{kept_arrivals, kept_what}
use Rattle.slim.specs.declared.queries.Queries.{Queries}
use Rattle.slim.specs.Steps.{whats_of, whats_kept, whats_on, Kept, Stands, StandsMore}
use Rattle.slim.proofs.Laid.{AreSaid, are_said_kept, whats_said}
use Rattle.slim.proofs.KeptTargets.{kept_messages, kept_more, kept_none, kept_placed, kept_with, whats_of_kept, whats_on_kept}
use Rattle.slim.proofs.Placing.{placed, slim_placed}
use Rattle.slim.proofs.Keeping.{kept_none as kept_first, kept_piece, kept_end, kept_tier}
use Rattle.arrivals.proofs.Arriving.{has_messages}

abbrev what_in : Message → Meaning
what_in m = m.what

-- ---- connections

none_kept : (connections : List Connection) → connections ≡ [] → (c : ℕ) → connection_at connections c ≡ Silent
none_kept connections none zero = rw none refl
none_kept connections none (suc c) = rw none refl

pub stands_none : (queries : Queries) (connections : List Connection) → connections ≡ [] → Stands queries [] [] connections
stands_none queries connections none =
    let first = stand_none (connection_at connections) (none_kept connections none) in
    record { numbers = All-nil (λ (r : Record). IsNumber (connection_of r)); reads = record { each = first.each }; arrived = first.arrived; kept = rw (kept_none queries) kept_first }

stand_of : (queries : Queries) (records : List Record) (arrivals : List Arrival) (connections : List Connection) → Stands queries records arrivals connections → Stand records arrivals (connection_at connections)
stand_of queries records arrivals connections s = record { each = s.reads.each; arrived = s.arrived }

numbers_more : (records : List Record) (r : Record) → IsNumber (connection_of r) → HaveNumbers records → HaveNumbers (records ++ r ∷ [])
numbers_more records r number numbers = All-push (λ (q : Record). IsNumber (connection_of q)) records r numbers number

-- what the connections have read of a piece
pub record Took (n : ℕ) (before after : List Connection) (piece : List ℕ) (out : List Message) : Type 0 where
  pub own : (text : List ℕ) (sofar : List Message) → HasRead (connection_at before n) text sofar → ReadMore text sofar (connection_at after n) piece out
  pub others : (c : ℕ) → c ≢ n → connection_at after c ≡ connection_at before c

-- what its messages may mean
may_mean : (queries : Queries) (conn : ℕ) (bytes : List ℕ) (ms : List Message) (records : List Record) (arrivals : List Arrival) (before after : List Connection) → IsNumber conn
    → Took conn before after bytes ms → Stands queries records arrivals before
    → AreSaid (whats_on (connection_now conn records) (kept_arrivals queries arrivals) ++ whats_of (kept_messages queries ms))
may_mean queries conn bytes ms records arrivals before after number took stands =
    let read = took.own (text_now conn records) (messages_now conn records arrivals) (stands.reads.each conn number) in
    let all = whats_said 0 (text_now conn records ++ bytes) (messages_now conn records arrivals ++ ms) (has_messages (connection_at after conn) _ _ read.has) in
    let whole : AreSaid (whats_on (connection_now conn records) arrivals ++ whats_of ms) = subst AreSaid (map-append what_in (messages_now conn records arrivals) ms) all in
    subst AreSaid
    (map-append (kept_what queries) (whats_on (connection_now conn records) arrivals) (whats_of ms)
    ∙ ap₂ (λ (xs ys : List Meaning). xs ++ ys) (sym (whats_on_kept queries (connection_now conn records) arrivals)) (sym (whats_of_kept queries ms)))
    (are_said_kept queries (whats_on (connection_now conn records) arrivals ++ whats_of ms) whole)

-- the slim records of one more record
longer_by : (queries : Queries) (records : List Record) (r : Record) (arrivals : List Arrival) (id : ℕ) (o : Origin) (ms : List Message) → AreArrivals (used_once records) arrivals
    → slimmed queries (records ++ r ∷ []) (arrivals ++ arrivals_with (length records) id o ms) ≡ slimmed queries records arrivals ++ slim_record (whats_kept queries ms) r
longer_by queries records r arrivals id o ms are =
    ap (slim_records (records ++ r ∷ []))
    (kept_more queries arrivals (arrivals_with (length records) id o ms) ∙ ap (λ l. kept_arrivals queries arrivals ++ l) (kept_with queries (length records) id o ms))
    ∙ slim_placed records r (kept_arrivals queries arrivals) id o (kept_messages queries ms) (kept_placed queries (length records) arrivals (placed records arrivals are))
    ∙ ap (λ w. slimmed queries records arrivals ++ slim_record w r) (whats_of_kept queries ms)

-- messages end one after another, so they are no more than the bytes
few_end : (from to : ℕ) (ms : List Message) → from ≤ to → EndBetween from to ms → length ms + from ≤ to
few_end from to [] le ends = omega (arith, le)
few_end from to (m ∷ ms) le ends =
    let more = few_end m.end to ms ends.1 ends.2 in let lt = ends.0 in omega (arith, more, lt)

few_messages : (queries : Queries) (conn : ℕ) (bytes : List ℕ) (ms : List Message) (records : List Record) (arrivals : List Arrival) (before after : List Connection) → IsNumber conn
    → Took conn before after bytes ms → Stands queries records arrivals before → length ms ≤ length bytes
few_messages queries conn bytes ms records arrivals before after number took stands =
    let read = took.own (text_now conn records) (messages_now conn records arrivals) (stands.reads.each conn number) in
    let n = length (text_now conn records) in
    let few = few_end n (n + length bytes) ms (omega arith) read.in_piece in
    omega (arith, few)

abbrev slim_piece : ℕ → ℕ → Meaning → Record
slim_piece tick conn what = Piece tick conn (block_of what)

count_pieces : (queries : Queries) (tick conn : ℕ) (ms : List Message) → length (slim_record (whats_kept queries ms) (Piece tick conn [])) ≡ length ms
count_pieces queries tick conn ms = length-map (whats_kept queries ms) (slim_piece tick conn) ∙ length-map (whats_of ms) (kept_what queries) ∙ length-map ms what_in

more_piece : (queries : Queries) (tick conn : ℕ) (bytes : List ℕ) (ms : List Message) (records : List Record) (arrivals : List Arrival) (before after : List Connection) → IsNumber conn
    → Took conn before after bytes ms → Stands queries records arrivals before → StandsMore queries records arrivals (Piece tick conn bytes) (slim_record (whats_kept queries ms) (Piece tick conn [])) after
more_piece queries tick conn bytes ms records arrivals before after number took stands =
    let r = Piece tick conn bytes in
    let next = stand_piece records arrivals (connection_at before) (connection_at after) tick conn bytes ms number (stand_of queries records arrivals before stands) took.own took.others in
    let id : ℕ = connection_now conn records in
    let o : Origin = origin_now conn tick records in
    let came : List Arrival = arrivals_with (length records) id o ms in
    let longer = longer_by queries records r arrivals id o ms stands.arrived in
    let kept = kept_piece (slimmed queries records arrivals) records (kept_arrivals queries arrivals) tick conn (length records) bytes (kept_messages queries ms) number
    (may_mean queries conn bytes ms records arrivals before after number took stands) stands.kept in
    let all : kept_arrivals queries arrivals ++ arrivals_with (length records) id o (kept_messages queries ms) ≡ kept_arrivals queries (arrivals ++ came) =
    ap (λ l. kept_arrivals queries arrivals ++ l) (sym (kept_with queries (length records) id o ms)) ∙ sym (kept_more queries arrivals came) in
    let slim : slimmed queries records arrivals ++ slim_record (whats_of (kept_messages queries ms)) r ≡ slimmed queries (records ++ r ∷ []) (arrivals ++ came) =
    ap (λ w. slimmed queries records arrivals ++ slim_record w r) (whats_of_kept queries ms) ∙ sym longer in
    record {
      came = came;
      stands = record {
        numbers = numbers_more records r number stands.numbers;
        reads = record { each = next.each };
        arrived = next.arrived;
        kept = subst (λ (p : List Record × List Arrival). Kept p.0 (records ++ r ∷ []) p.1) (λ i. (slim i, all i)) kept;
      };
      more_is = longer;
      few = let few = few_messages queries conn bytes ms records arrivals before after number took stands in let len = count_pieces queries tick conn ms in omega (arith, few, len);
    }

pub piece_stands : (queries : Queries) (tick conn : ℕ) (bytes : List ℕ) (ms : List Message) (records : List Record) (arrivals : List Arrival) (r : Record) (before after : List Connection) → r ≡ Piece tick conn bytes → IsNumber conn
    → Took conn before after bytes ms → Stands queries records arrivals before → StandsMore queries records arrivals r (slim_record (whats_kept queries ms) (Piece tick conn [])) after
piece_stands queries tick conn bytes ms records arrivals r before after is number took stands =
    subst (λ (x : Record). StandsMore queries records arrivals x (slim_record (whats_kept queries ms) (Piece tick conn [])) after) (sym is)
    (more_piece queries tick conn bytes ms records arrivals before after number took stands)

-- a record that brings no message
no_more : (queries : Queries) (records : List Record) (arrivals : List Arrival) (r : Record) (connections : List Connection) → IsNumber (connection_of r)
    → Stand (records ++ r ∷ []) arrivals (connection_at connections) → AreArrivals (used_once records) arrivals → slim_record [] r ≡ r ∷ []
    → HaveNumbers records → Kept (slimmed queries records arrivals ++ r ∷ []) (records ++ r ∷ []) (kept_arrivals queries arrivals) → StandsMore queries records arrivals r (r ∷ []) connections
no_more queries records arrivals r connections number next are is numbers kept =
    let longer : slimmed queries (records ++ r ∷ []) (arrivals ++ []) ≡ slimmed queries records arrivals ++ r ∷ [] =
    longer_by queries records r arrivals 0 (origin_now 0 0 records) [] are ∙ ap (λ l. slimmed queries records arrivals ++ l) is in
    let alone : slimmed queries (records ++ r ∷ []) arrivals ≡ slimmed queries records arrivals ++ r ∷ [] = ap (slimmed queries (records ++ r ∷ [])) (sym (append-nil arrivals)) ∙ longer in
    record {
      came = [];
      stands = subst (λ (all : List Arrival). Stands queries (records ++ r ∷ []) all connections) (sym (append-nil arrivals)) (record {
        numbers = numbers_more records r number numbers;
        reads = record { each = next.each };
        arrived = next.arrived;
        kept = subst (λ (slim : List Record). Kept slim (records ++ r ∷ []) (kept_arrivals queries arrivals)) (sym alone) kept;
      });
      more_is = longer;
      few = omega arith;
    }

pub err_prefix : {T E : Type 0} (Q : E → Type 0) (old new : Option (List ℕ)) (text : List ℕ) (r : Result T E) → IsErrAnd r Q → AppendsPrefix old new text → WritesPrefix old new r text
err_prefix Q old new text (Ok x) h part = absurd h
err_prefix Q old new text (Err e) h part = part

pub err_count : {T E : Type 0} (attributed : E → ℕ) (old new : ℕ) (f : E) (r : Result T E) → IsErrAnd r (λ g. g ≡ f) → new ≡ old + attributed f → CountsBy attributed old new r
err_count attributed old new f (Ok x) h is = absurd h
err_count attributed old new f (Err e) h is = is ∙ ap (λ g. old + attributed g) (sym h)

-- ---- the capacity for a record

text_below : (c : ℕ) (records : List Record) → length (text_of c records) ≤ sizes_of records
text_below c [] = omega arith
text_below c (Piece tick conn bytes ∷ records) =
    let rest = text_below c records in
    let sum = sum_by-cons size_of (Piece tick conn bytes) records in
    elim (eqb_tells conn c) [
      | inl same ↦ (let len : length (text_of c (Piece tick conn bytes ∷ records)) ≡ length bytes + length (text_of c records) =
          ap (λ b. length (cond b bytes [] ++ text_of c records)) same.0 ∙ length-append bytes (text_of c records) in omega (arith, rest, sum, len))
      | inr other ↦ (let len : length (text_of c (Piece tick conn bytes ∷ records)) ≡ length (text_of c records) =
          ap (λ b. length (cond b bytes [] ++ text_of c records)) other.0 in omega (arith, rest, sum, len))
    ]
text_below c (End tick conn ∷ records) = let rest = text_below c records in let sum = sum_by-cons size_of (End tick conn) records in omega (arith, rest, sum)
text_below c (Tier conn tier ∷ records) = let rest = text_below c records in let sum = sum_by-cons size_of (Tier conn tier) records in omega (arith, rest, sum)

sizes_once : (records : List Record) → sizes_of (used_once records) ≡ sizes_of records
sizes_once records = go [] records
  where
    one : (c : ℕ) (r : Record) → size_of (of_connection c r) ≡ size_of r
    one c (Piece tick conn bytes) = refl
    one c (End tick conn) = refl
    one c (Tier conn tier) = refl

    go : (earlier records : List Record) → sizes_of (used_once_after earlier records) ≡ sizes_of records
    go earlier [] = refl
    go earlier (r ∷ records) =
        let id = connection_now (connection_of r) earlier in
        let rest = go (earlier ++ r ∷ []) records in
        omega (arith, one id r, rest, sum_by-cons size_of (of_connection id r) (used_once_after (earlier ++ r ∷ []) records), sum_by-cons size_of r records)

now_below : (c : ℕ) (records : List Record) → length (text_now c records) ≤ sizes_of records
now_below c records = omega (arith, text_below (connection_now c records) (used_once records), sizes_once records)

pub has_room : (queries : Queries) (records : List Record) (arrivals : List Arrival) (connections : List Connection) (c n : ℕ) → IsNumber c → Stands queries records arrivals connections
    → sizes_of records + n ≤ longest_text → HasCapacity (connection_at connections c) n
has_room queries records arrivals connections c n low stands capacity =
    let below = now_below c records in
    room_of (connection_at connections c) (text_now c records) (messages_now c records arrivals) n (stands.reads.each c low) (omega (arith, below, capacity))

-- ---- what is written of one more record

-- the number that a record names
pub number_of : (r q : Record) → r ≡ q → IsNumber (connection_of r) → IsNumber (connection_of q)
number_of r q is low = subst (λ (x : Record). IsNumber (connection_of x)) is low

pub more_end : (queries : Queries) (tick conn n : ℕ) (records : List Record) (arrivals : List Arrival) (r : Record) (before after : List Connection) → r ≡ End tick conn → n ≡ conn → IsNumber conn
    → connection_at after n ≡ Silent → ((c : ℕ) → c ≢ n → connection_at after c ≡ connection_at before c) → Stands queries records arrivals before → StandsMore queries records arrivals r (r ∷ []) after
more_end queries tick conn n records arrivals r before after is named number silent others stands =
    let e = End tick conn in
    let apart : (c : ℕ) → c ≢ conn → connection_at after c ≡ connection_at before c = rw named at others in
    let next = stand_end records arrivals (connection_at before) (connection_at after) tick conn number stands.numbers (stand_of queries records arrivals before stands) (rw named at silent) apart in
    subst (λ (x : Record). StandsMore queries records arrivals x (x ∷ []) after) (sym is) (no_more queries records arrivals e after number next stands.arrived refl stands.numbers (kept_end (slimmed queries records arrivals) records (kept_arrivals queries arrivals) tick conn number stands.numbers stands.kept))

pub more_tier : (queries : Queries) (conn tier : ℕ) (records : List Record) (arrivals : List Arrival) (r : Record) (connections : List Connection) → r ≡ Tier conn tier → IsNumber conn
    → Stands queries records arrivals connections → StandsMore queries records arrivals r (r ∷ []) connections
more_tier queries conn tier records arrivals r connections is number stands =
    let e = Tier conn tier in
    let next = stand_tier records arrivals (connection_at connections) conn tier (stand_of queries records arrivals connections stands) in
    subst (λ (x : Record). StandsMore queries records arrivals x (x ∷ []) connections) (sym is) (no_more queries records arrivals e connections number next stands.arrived refl stands.numbers (kept_tier (slimmed queries records arrivals) records (kept_arrivals queries arrivals) conn tier number stands.kept))

pub took_by : (n conn : ℕ) (before after : List Connection) (piece bytes : List ℕ) (out : List Message) → n ≡ conn → piece ≡ bytes
    → ((text : List ℕ) (sofar : List Message) → HasRead (connection_at before n) text sofar → ReadMore text sofar (connection_at after n) piece out)
    → ((c : ℕ) → c ≢ n → connection_at after c ≡ connection_at before c) → Took conn before after bytes out
took_by n conn before after piece bytes out named same own others =
    subst (λ (p : ℕ × List ℕ). Took p.0 before after p.1 out) (λ i. (named i, same i)) (record { own = own; others = others })
