-- How the plain engine goes on by one more record, and how it ends.
use Rattle.std.proofs.Common.{◌≡◌, ◌≢◌, ℕ, suc, zero, ◌+◌, ◌<◌, ◌≤◌, inl, inr, List, [], ◌∷◌, ◌++◌, length, take, map, get_or, Option, Some, None, Result, Ok, Err, refl, sym, ap, ◌∙◌, subst, arith, append-nil}
use Rattle.std.specs.Prelude.{OnOk, IfErr, slice_get, option_map}
use Rattle.std.specs.List.{AllPairs}
use Rattle.std.proofs.lemmas.Option.{slice_get_within, get_or_from_slice_get, same_Some}
use Rattle.std.proofs.lemmas.Grind.{common_steps, flat_map-append}
use Rattle.std.proofs.lemmas.Bool.Decides.{eqb_tells}
use Rattle.std.proofs.lemmas.List.{length-append, length-map, get_or_append_left}
use Rattle.std.proofs.lemmas.List.Sums.{sum_by-cons}
use Rattle.std.proofs.Math.Seq.{get_or-append_seam, take-append-add}
use Rattle.std.specs.Io.KnownBytes.{Appends}
use Rattle.devices.proofs.Appending.{prefix_all}
use Rattle.devices.specs.Devices.{AppendsPrefix}
use Rattle.captures.specs.declared.record.Record.{Record}
use Rattle.captures.specs.declared.record.Record.TheVariants.{Piece, End, Tier}
use Rattle.captures.specs.declared.progress.Progress.{Progress}
use Rattle.captures.specs.declared.capture_fault.CaptureFault.{CaptureFault}
use Rattle.captures.specs.CaptureFaults.{IsForeseen, IsHeaderFault, IsFaultAfter}
use Rattle.captures.specs.declared.version.Version.{Version}
use Rattle.captures.specs.Reference.{format_of, connection_of, connection_now, of_connection, used_once, used_once_after, IsCapture, IsRecord, IsCaptureText, tick_of, ticks_of}
use Rattle.captures.specs.CaptureFaults.{longest_text}
use Rattle.captures.proofs.Lines.{within_longest}
use Rattle.captures.specs.Captures.{size_of, sizes_of}
use Rattle.captures.specs.Readers.{ReaderAfter, Gave, FailsFirst, FailsNext}
use Rattle.captures.proofs.PassLemmas.{reads_of}
use Rattle.arrivals.specs.Connections.{AreTiers, HasRead, HasCapacity, ReadMore, HaveRead, IsNumber, connection_at}
use Rattle.arrivals.specs.Connections.{text_now, messages_now, arrivals_with}
use Rattle.arrivals.specs.Batches.{Reads, Stand, origin_now}
use Rattle.http_requests.specs.declared.messages.Message.{Message}
use Rattle.arrivals.specs.declared.incoming.Origin.{Origin}
use Rattle.replay.specs.declared.decider.Decider.{Decider}
use Rattle.reference.proofs.InOrder.{answered}
use Rattle.reference.specs.declared.summary.Outcome.{Outcome}
use Rattle.arrivals.specs.declared.connections.Connection.{Connection}
use Rattle.arrivals.specs.declared.connections.Connection.TheVariants.{Silent}
use Rattle.captures.specs.declared.pass_fault.PassFault.{PassFault}
use Rattle.captures.specs.declared.pass_fault.PassFault.TheVariants as faults
use Rattle.reference.specs.Reference.{Terms, summary_of, Answers}
use Rattle.reference.specs.Outcomes.{outcome_of}
use Rattle.arrivals.specs.Reference.{Arrival, AreArrivals, bytes_to, text_of}
use Rattle.replay.specs.Serving.{DeciderAfter, AreBy, IsLater, Serves, WritesMore, WritesFull, WritesInPart, WritesWhole}
use Rattle.reference.specs.Texts.{Texts, AreTexts, Wrote, WroteInPart, reply_texts}
use Rattle.devices.specs.Reference.{WhereKnown}
use Rattle.reference.specs.Outcomes.{IfTooMany, IfCutShort, IsOwn, IsCutOff, StopsBeyond, StopsWriting, Taken, Leaves}
use Rattle.captures.specs.Passes.{pass_fault, IsWriteOrMemory}
use Rattle.captures.proofs.PassLemmas.{leaves_by, leaves_part}
use Rattle.arrivals.proofs.CutBatches.{room_of}
use Rattle.arrivals.proofs.Merging.{stand_none, stand_piece, stand_end, stand_tier}
use Rattle.replay.proofs.Texts.{wrote_none, text_wrote, text_part, text_ended, text_ended_part}
use Rattle.replay.proofs.Judging.{answered_is}
use Rattle.reference.proofs.OneAnswer.{same_outcome}
use Rattle.paths.specs.declared.file.File.{File}

-- ---- the bytes that a connection may take

bytes_below : (c : ℕ) (r : Record) → length (bytes_to c r) ≤ size_of r
bytes_below c (Piece tick conn bytes) = elim (eqb_tells conn c) [
  | inl same ↦ rw same.0 (omega arith)
  | inr other ↦ rw other.0 (omega arith)
]
bytes_below c (End tick conn) = omega arith
bytes_below c (Tier conn tier) = omega arith

pub text_below : (c : ℕ) (records : List Record) → length (text_of c records) ≤ sizes_of records
text_below c [] = omega arith
text_below c (r ∷ records) = omega (arith, text_below c records, bytes_below c r, sum_by-cons size_of r records, length-append (bytes_to c r) (text_of c records))

-- records read as records of connections bring the same bytes
sizes_once : (records : List Record) → sizes_of (used_once records) ≡ sizes_of records
sizes_once records = go [] records
  where
    one : (c : ℕ) (r : Record) → size_of (of_connection c r) ≡ size_of r
    one c (Piece tick conn bytes) = refl
    one c (End tick conn) = refl
    one c (Tier conn tier) = refl

    go : (earlier records : List Record) → sizes_of (used_once_after earlier records) ≡ sizes_of records
    go earlier [] = refl
    go earlier (r ∷ records) =
        let id = connection_now (connection_of r) earlier in
        let rest = go (earlier ++ r ∷ []) records in
        omega (arith, one id r, rest, sum_by-cons size_of (of_connection id r) (used_once_after (earlier ++ r ∷ []) records), sum_by-cons size_of r records)

pub now_below : (c : ℕ) (records : List Record) → length (text_now c records) ≤ sizes_of records
now_below c records = omega (arith, text_below (connection_now c records) (used_once records), sizes_once records)

pub has_room : (files : List File) (terms : Terms) (records : List Record) (arrivals : List Arrival) (connections : List Connection) (decider : Decider) (c n : ℕ) → IsNumber c
    → Serves files terms records arrivals connections decider → sizes_of records + n ≤ longest_text → HasCapacity (connection_at connections c) n
has_room files terms records arrivals connections decider c n low serves capacity =
    let below = now_below c records in
    room_of (connection_at connections c) (text_now c records) (messages_now c records arrivals) n (serves.reads.each c low) (omega (arith, below, capacity))

-- ---- ticks

-- the tick that a record gives, 0 where it gives none
abbrev tick_in : Record → ℕ
tick_in (Piece tick conn bytes) = tick
tick_in (End tick conn) = tick
tick_in (Tier conn tier) = 0

-- a record that isn't a piece
abbrev IsOther : Record → Type 0
IsOther (Piece tick conn bytes) = ⊥
IsOther (End tick conn) = Unit {0}
IsOther (Tier conn tier) = Unit {0}

-- how many ticks the records before a place give
pub ticks_before : List Record → ℕ → ℕ
ticks_before records i = length (ticks_of (take i records))

pub ticks_before_le : (records : List Record) (i j : ℕ) → i ≤ j → ticks_before records i ≤ ticks_before records j
unfolding ticks_before
ticks_before_le records zero j le = omega arith
ticks_before_le [] (suc i) zero le = absurd (omega (arith, le))
ticks_before_le [] (suc i) (suc j) le = omega arith
ticks_before_le (r ∷ records) (suc i) zero le = absurd (omega (arith, le))
ticks_before_le (r ∷ records) (suc i) (suc j) le =
    let rest = ticks_before_le records i j (omega (arith, le)) in
    omega (arith, rest, length-append (tick_of r) (ticks_of (take i records)), length-append (tick_of r) (ticks_of (take j records)))

not_piece : (r : Record) (tick conn : ℕ) (bytes : List ℕ) → IsOther r → Some r ≡ Some (Piece tick conn bytes) → ⊥
not_piece r tick conn bytes other e = subst IsOther (same_Some _ _ e) other

pub tick_at : (records : List Record) (i tick conn : ℕ) (bytes : List ℕ) → slice_get records i ≡ Some (Piece tick conn bytes)
    → slice_get (ticks_of records) (ticks_before records i) ≡ Some tick
unfolding ticks_before
tick_at [] i tick conn bytes h = absurd (let lt = slice_get_within [] i (Piece tick conn bytes) h in omega (arith, lt))
tick_at (Piece t c b ∷ records) zero tick conn bytes h = ap (λ o. option_map tick_in o) h
tick_at (End t c ∷ records) zero tick conn bytes h = absurd (not_piece (End t c) tick conn bytes tt h)
tick_at (Tier c t ∷ records) zero tick conn bytes h = absurd (not_piece (Tier c t) tick conn bytes tt h)
tick_at (Piece t c b ∷ records) (suc i) tick conn bytes h = tick_at records i tick conn bytes h
tick_at (End t c ∷ records) (suc i) tick conn bytes h = tick_at records i tick conn bytes h
tick_at (Tier c t ∷ records) (suc i) tick conn bytes h = tick_at records i tick conn bytes h

-- the last of ticks that don't fall is no earlier than the others
last_latest : (ticks : List ℕ) (last i tick : ℕ) → AllPairs (λ s t. s ≤ t) (ticks ++ last ∷ []) → slice_get ticks i ≡ Some tick → tick ≤ last
last_latest ticks last i tick rising h =
    let lt = slice_get_within ticks i tick h in
    let len = length-append ticks (last ∷ []) in
    let here : get_or (ticks ++ last ∷ []) i 0 ≡ tick = get_or_append_left ticks (last ∷ []) 0 i lt ∙ get_or_from_slice_get ticks i tick 0 h in
    let there : get_or (ticks ++ last ∷ []) (length ticks) 0 ≡ last = get_or-append_seam ticks last [] 0 in
    let le = rising i (length ticks) 0 lt (omega (arith, len)) in
    rw (here, there) at le

-- records read as records of connections have the same ticks
pub ticks_once : (records : List Record) → ticks_of (used_once records) ≡ ticks_of records
ticks_once records = go [] records
  where
    one : (c : ℕ) (r : Record) → tick_of (of_connection c r) ≡ tick_of r
    one c (Piece tick conn bytes) = refl
    one c (End tick conn) = refl
    one c (Tier conn tier) = refl

    go : (earlier records : List Record) → ticks_of (used_once_after earlier records) ≡ ticks_of records
    go earlier [] = refl
    go earlier (r ∷ records) = λ i. one (connection_now (connection_of r) earlier) r i ++ go (earlier ++ r ∷ []) records i

by_last : (records : List Record) (arrivals : List Arrival) (last : ℕ) → AllPairs (λ s t. s ≤ t) (ticks_of records ++ last ∷ []) → AreArrivals records arrivals → AreBy last arrivals
by_last records arrivals last rising arrived = λ k d lt.
    let a = get_or arrivals k d in
    let with = arrived.with k d lt in
    last_latest (ticks_of records) last (ticks_before records a.place) a.origin.tick rising (tick_at records a.place a.origin.tick a.connection with.bytes with.piece)

-- a record that comes after others is no earlier than all that arrived with them
pub is_later : (v : Version) (start : ℕ) (records : List Record) (arrivals : List Arrival) (r : Record) → IsCapture v start (records ++ r ∷ []) → AreArrivals (used_once records) arrivals → IsLater r arrivals
is_later v start records arrivals (Piece tick conn bytes) rules arrived =
    by_last (used_once records) arrivals tick (subst (λ (ts : List ℕ). AllPairs (λ s t. s ≤ t) ts) (flat_map-append tick_of records (Piece tick conn bytes ∷ []) ∙ ap (λ ts. ts ++ tick ∷ []) (sym (ticks_once records))) rules.rising) arrived
is_later v start records arrivals (End tick conn) rules arrived = tt
is_later v start records arrivals (Tier conn tier) rules arrived = tt

-- ---- one more record

-- a silent connection for each number
none_kept : (connections : List Connection) → connections ≡ [] → (c : ℕ) → connection_at connections c ≡ Silent
none_kept connections none zero = rw none refl
none_kept connections none (suc c) = rw none refl

pub serves_none : (files : List File) (terms : Terms) (connections : List Connection) (decider : Decider) → connections ≡ [] → DeciderAfter files terms [] decider → Serves files terms [] [] connections decider
serves_none files terms connections decider none stands =
    let first = stand_none (connection_at connections) (none_kept connections none) in
    record { reads = record { each = first.each }; arrived = first.arrived; stands = stands }

-- what was served, seen by the connections
stand_of : (files : List File) (terms : Terms) (records : List Record) (arrivals : List Arrival) (connections : List Connection) (decider : Decider) → Serves files terms records arrivals connections decider → Stand records arrivals (connection_at connections)
stand_of files terms records arrivals connections decider serves = record { each = serves.reads.each; arrived = serves.arrived }

pub serves_end : (t : Texts) (files : List File) (terms : Terms) (tick conn n : ℕ) (records : List Record) (arrivals : List Arrival) (r : Record) (before after : List Connection) (tiers : List ℕ) (decider : Decider) (old : Option (List ℕ))
    → AreTexts t → r ≡ End tick conn → n ≡ conn → IsNumber conn → connection_at after n ≡ Silent → ((c : ℕ) → c ≢ n → connection_at after c ≡ connection_at before c)
    → AreTiers records tiers → Serves files terms records arrivals before decider → WritesMore t files terms records arrivals (r ∷ []) after decider old old
serves_end t files terms tick conn n records arrivals r before after tiers decider old laws is named low silent others are serves =
    let apart : (c : ℕ) → c ≢ conn → connection_at after c ≡ connection_at before c = rw named at others in
    let stand = stand_end records arrivals (connection_at before) (connection_at after) tick conn low are.numbers (stand_of files terms records arrivals before decider serves) (rw named at silent) apart in
    let more : Serves files terms (records ++ End tick conn ∷ []) arrivals after decider = record { reads = record { each = stand.each }; arrived = stand.arrived; stands = serves.stands } in
    rw is (record { more = []; serves = rw (append-nil arrivals) more; written = wrote_none t decider.start arrivals old laws })

pub serves_tier : (t : Texts) (files : List File) (terms : Terms) (conn tier : ℕ) (records : List Record) (arrivals : List Arrival) (r : Record) (connections : List Connection) (decider : Decider) (old : Option (List ℕ))
    → AreTexts t → r ≡ Tier conn tier → Serves files terms records arrivals connections decider → WritesMore t files terms records arrivals (r ∷ []) connections decider old old
serves_tier t files terms conn tier records arrivals r connections decider old laws is serves =
    let stand = stand_tier records arrivals (connection_at connections) conn tier (stand_of files terms records arrivals connections decider serves) in
    let more : Serves files terms (records ++ Tier conn tier ∷ []) arrivals connections decider = record { reads = record { each = stand.each }; arrived = stand.arrived; stands = serves.stands } in
    rw is (record { more = []; serves = rw (append-nil arrivals) more; written = wrote_none t decider.start arrivals old laws })

-- what a piece has brought
pub record Took (n : ℕ) (before after : List Connection) (piece : List ℕ) (out : List Message) : Type 0 where
  pub own : (text : List ℕ) (sofar : List Message) → HasRead (connection_at before n) text sofar → ReadMore text sofar (connection_at after n) piece out
  pub others : (c : ℕ) → c ≢ n → connection_at after c ≡ connection_at before c

-- the arrivals of a piece that was taken
pub record Brought (records : List Record) (arrivals : List Arrival) (r : Record) (connections : List Connection) (more : List Arrival) : Type 0 where
  pub reads : HaveRead (records ++ r ∷ []) (arrivals ++ more) connections
  pub arrived : AreArrivals (used_once (records ++ r ∷ [])) (arrivals ++ more)

pub brought : (files : List File) (terms : Terms) (tick conn n : ℕ) (o : Origin) (bytes piece : List ℕ) (ms out : List Message) (records : List Record) (arrivals : List Arrival) (r : Record) (before after : List Connection) (decider : Decider)
    → o ≡ origin_now conn tick records → IsNumber conn → r ≡ Piece tick conn bytes → n ≡ conn → piece ≡ bytes → ms ≡ out → Took n before after piece out → Serves files terms records arrivals before decider
    → Brought records arrivals r after (arrivals_with (length records) (connection_now conn records) o ms)
brought files terms tick conn n o bytes piece ms out records arrivals r before after decider own low is named shown same took serves =
    let reading : Reads (connection_at before conn) bytes ms (connection_at after conn) = rw (named, shown, ← same) at took.own in
    let apart : (c : ℕ) → c ≢ conn → connection_at after c ≡ connection_at before c = rw named at took.others in
    let stand = stand_piece records arrivals (connection_at before) (connection_at after) tick conn bytes ms low (stand_of files terms records arrivals before decider serves) reading apart in
    rw (is, own) (record { reads = record { each = stand.each }; arrived = stand.arrived })

pub serves_piece : (t : Texts) (files : List File) (terms : Terms) (id : ℕ) (o : Origin) (ms : List Message) (records : List Record) (arrivals : List Arrival) (r : Record) (after : List Connection) (decider now : Decider) (old new : Option (List ℕ))
    → Brought records arrivals r after (arrivals_with (length records) id o ms) → now.start ≡ decider.start
    → DeciderAfter files terms (arrivals ++ arrivals_with (length records) id o ms) now
    → Wrote t decider.start arrivals (arrivals_with (length records) id o ms) old new → WritesMore t files terms records arrivals (r ∷ []) after now old new
serves_piece t files terms id o ms records arrivals r after decider now old new brings start stands written = record {
  more = arrivals_with (length records) id o ms;
  serves = record { reads = brings.reads; arrived = brings.arrived; stands = stands };
  written = rw start written;
}

map_take : {A B : Type 0} (f : A → B) (i : ℕ) (xs : List A) → map f (take i xs) ≡ take i (map f xs)
map_take f zero xs = refl
map_take f (suc i) [] = refl
map_take f (suc i) (x ∷ xs) = ap (λ ys. f x ∷ ys) (map_take f i xs)

take_with : (place id : ℕ) (origin : Origin) (i : ℕ) (ms : List Message) → arrivals_with place id origin (take i ms) ≡ take i (arrivals_with place id origin ms)
take_with place id origin i ms = map_take (λ m. record { origin = origin; connection = id; place = place; message = m }) i ms

pub serves_full : (t : Texts) (files : List File) (terms : Terms) (most id : ℕ) (o : Origin) (i : ℕ) (ms : List Message) (records : List Record) (arrivals : List Arrival) (r : Record) (after : List Connection) (before : List Connection) (decider : Decider) (old new : Option (List ℕ))
    → Brought records arrivals r after (arrivals_with (length records) id o ms) → Serves files terms records arrivals before decider
    → i < length ms → decider.totals.answered + i ≡ most → Wrote t decider.start arrivals (arrivals_with (length records) id o (take i ms)) old new
    → WritesFull t most decider.start records arrivals (r ∷ []) old new
serves_full t files terms most id o i ms records arrivals r after before decider old new brings serves lt full written =
    let place = length records in
    let is = answered_is files terms arrivals decider serves.stands.counted in
    let len : length (arrivals_with place id o ms) ≡ length ms = length-map ms _ in
    record {
      more = arrivals_with place id o ms;
      arrived = brings.arrived;
      within = i;
      full = omega (arith, is, full);
      beyond = omega (arith, len, lt);
      written = rw (take_with place id o i ms) at written;
    }

pub serves_part : (t : Texts) (files : List File) (terms : Terms) (most id : ℕ) (o : Origin) (i : ℕ) (ms : List Message) (records : List Record) (arrivals : List Arrival) (r : Record) (after : List Connection) (before : List Connection) (decider : Decider) (old new : Option (List ℕ))
    → Brought records arrivals r after (arrivals_with (length records) id o ms) → Serves files terms records arrivals before decider
    → decider.totals.answered + i ≤ most → WroteInPart t decider.start arrivals (arrivals_with (length records) id o (take i ms)) old new
    → WritesInPart t most decider.start records arrivals (r ∷ []) old new
serves_part t files terms most id o i ms records arrivals r after before decider old new brings serves few written =
    let place = length records in
    let is = answered_is files terms arrivals decider serves.stands.counted in
    record {
      more = arrivals_with place id o ms;
      arrived = brings.arrived;
      within = i;
      few = omega (arith, is, few);
      written = rw (take_with place id o i ms) at written;
    }

pub on_ok : {T E : Type 0} (r : Result T E) (A B C D : Type 0) → OnOk r A → OnOk r B → OnOk r C → (A → B → C → D) → OnOk r D
on_ok (Ok x) A B C D a b c f = f a b c
on_ok (Err e) A B C D a b c f = tt

-- a fault's clause is carried over
pub err_many : {T : Type 0} (r : Result T PassFault) (P Q : ℕ → Type 0) → ((n : ℕ) → P n → Q n) → IfErr r (λ f. IfTooMany f P) → IfErr r (λ f. IfTooMany f Q)
err_many (Ok x) P Q more h = tt
err_many (Err (faults.Capture f)) P Q more h = tt
err_many (Err (faults.TooMany n)) P Q more h = more n h
err_many (Err faults.Write) P Q more h = tt
err_many (Err faults.Memory) P Q more h = tt

pub err_cut : {T : Type 0} (r : Result T PassFault) (P Q : Type 0) → (P → Q) → IfErr r (λ f. IfCutShort f P) → IfErr r (λ f. IfCutShort f Q)
err_cut (Ok x) P Q more h = tt
err_cut (Err (faults.Capture f)) P Q more h = tt
err_cut (Err (faults.TooMany n)) P Q more h = tt
err_cut (Err faults.Write) P Q more h = more h
err_cut (Err faults.Memory) P Q more h = more h

-- ---- the capture

-- the record that came is within the limits
pub record_is : (v : Version) (text now : Option (List ℕ)) (start : ℕ) (records : List Record) (p : Progress) (r : Record) → ReaderAfter v text start (records ++ r ∷ []) p now → IsRecord v r
record_is v text now start records p r h =
    let lt : length records < length (records ++ r ∷ []) = let l = length-append records (r ∷ []) in omega (arith, l) in
    rw (get_or-append_seam records r [] r) at (h.rules.each (length records) r lt)

pub sizes_left : (v : Version) (text now : Option (List ℕ)) (start capacity : ℕ) (records : List Record) (p : Progress) (r : Record) → ReaderAfter v text start records p now
    → size_of r + 1 + capacity ≡ p.capacity → sizes_of records + size_of r ≤ longest_text
sizes_left v text now start capacity records p r fits e = let h = fits.capacity in omega (arith, h, e, within_longest v)

-- what the reader's answer says
pub gave_end : (v : Version) (text now : Option (List ℕ)) (start : ℕ) (records : List Record) (p : Progress) (x : Option Record) → x ≡ None → Gave v text start records (Ok x) p now
    → WhereKnown text (λ bytes. IsCaptureText v bytes start records)
gave_end v text now start records p x is h = subst (λ (o : Option Record). Gave v text start records (Ok o) p now) is h

-- ---- the end

-- the messages that were answered are no more than the format allows
within_most : (files : List File) (terms : Terms) (v : Version) (arrivals : List Arrival) (decider : Decider) → DeciderAfter files terms arrivals decider → decider.totals.answered ≤ (format_of v).max_messages → length arrivals ≤ (format_of v).max_messages
within_most files terms v arrivals decider stands most = let is = answered_is files terms arrivals decider stands.counted in omega (arith, is, most)

-- the whole capture was reported
pub all_written : (t : Texts) (files : List File) (terms : Terms) (v : Version) (start count : ℕ) (records : List Record) (arrivals : List Arrival) (connections : List Connection) (decider : Decider)
    (input old mid new : Option (List ℕ)) (outcome : Outcome) → AreTexts t → IsCapture v start records → WhereKnown input (λ bytes. IsCaptureText v bytes start records)
    → Serves files terms records arrivals connections decider
    → Appends old mid (t.so_far start arrivals) → Appends mid new (t.last count) → count ≡ decider.totals.answered
    → decider.totals.answered ≤ (format_of v).max_messages → outcome.version ≡ v → outcome.rejected ≡ decider.totals.rejected → outcome.summary ≡ summary_of files terms arrivals → WritesWhole t files terms input old new outcome
all_written t files terms v start count records arrivals connections decider input old mid new outcome laws rules capture serves before last counted most version rejected response_of = record {
  read = record {
    capture = record { version = v; start = start; records = records; rules = rules; text = capture };
    arrivals = arrivals;
    are = serves.arrived;
    few = within_most files terms v arrivals decider serves.stands most;
  };
  written = text_ended t start count arrivals old mid new laws (counted ∙ answered_is files terms arrivals decider serves.stands.counted) before last;
  outcome_is = same_outcome outcome (outcome_of v files terms arrivals) version (rejected ∙ ap (λ t. t.rejected) serves.stands.counted.totals) response_of;
}

-- the last line was not
pub ends_short : (t : Texts) (files : List File) (terms : Terms) (v : Version) (start count : ℕ) (records : List Record) (arrivals : List Arrival) (connections : List Connection) (decider : Decider)
    (input old mid new : Option (List ℕ)) → AreTexts t → IsCapture v start records → WhereKnown input (λ bytes. IsCaptureText v bytes start records)
    → Serves files terms records arrivals connections decider
    → Appends old mid (t.so_far start arrivals) → AppendsPrefix mid new (t.last count) → count ≡ decider.totals.answered → decider.totals.answered ≤ (format_of v).max_messages
    → IsCutOff t input old new
ends_short t files terms v start count records arrivals connections decider input old mid new laws rules capture serves before last counted most =
    inr (inr (
      record {
        capture = record { version = v; start = start; records = records; rules = rules; text = capture };
        arrivals = arrivals;
        are = serves.arrived;
        few = within_most files terms v arrivals decider serves.stands most;
      },
      text_ended_part t start count arrivals old mid new laws (counted ∙ answered_is files terms arrivals decider serves.stands.counted) before last,
    ))

-- ---- faults

-- what is written where the capture has a fault: what is due there, or else a prefix of that
pub leaves_reported : (t : Texts) (input ahead old new : Option (List ℕ)) (f : CaptureFault) → StopsWriting t input ahead old new f → IsCutOff t input old new
    → Leaves t input ahead old new (pass_fault f)
leaves_reported t input ahead old new f stops cut = leaves_by input ahead _ _ _ _ f stops cut

-- the same of the call's own faults
pub own_leaves : (t : Texts) (input ahead old new : Option (List ℕ)) (f : PassFault) → IsOwn f → IfTooMany f (StopsBeyond t input old new) → IfCutShort f (IsCutOff t input old new)
    → Leaves t input ahead old new f
own_leaves t input ahead old new (faults.Capture f) own many cut = absurd own
own_leaves t input ahead old new (faults.TooMany n) own many cut = many
own_leaves t input ahead old new faults.Write own many cut = cut
own_leaves t input ahead old new faults.Memory own many cut = cut

pub short_leaves : (t : Texts) (input ahead old new : Option (List ℕ)) (f : PassFault) → IsWriteOrMemory f → IsCutOff t input old new → Leaves t input ahead old new f
short_leaves t input ahead old new f own cut = leaves_part input ahead _ _ _ _ f own cut

pub halts_first : (t : Texts) (input ahead old new : Option (List ℕ)) (f : CaptureFault) → Appends old new t.first → f.at ≡ 0 → IsForeseen IsHeaderFault input f
    → FailsFirst input f ahead → StopsWriting t input ahead old new f
halts_first t input ahead old new f written at fault failed = inl (record { at = at; fault = λ foreseen known. fault known foreseen; failed = failed }, written)

-- the records that a reader has given
abbrev pub taken : (v : Version) (input now : Option (List ℕ)) (start : ℕ) (records : List Record) (arrivals : List Arrival) (p : Progress)
    → ReaderAfter v input start records p now → AreArrivals (used_once records) arrivals → Taken input
taken v input now start records arrivals p fits arrived = record {
  read = reads_of v input now start records p fits;
  arrivals = arrivals;
  arrived = arrived;
}

pub halts_after : (t : Texts) (files : List File) (terms : Terms) (v : Version) (input now ahead left old new : Option (List ℕ)) (start : ℕ) (records : List Record) (arrivals : List Arrival) (p : Progress) (connections : List Connection) (decider : Decider)
    (f : CaptureFault) → ReaderAfter v input start records p now → Serves files terms records arrivals connections decider → Appends old new (t.so_far start arrivals)
    → (f.at ≡ length records + 1) × IsForeseen (λ bytes. IsFaultAfter v bytes start records) input f → FailsNext v input start records (Err f) left
    → ahead ≡ left → decider.totals.answered ≤ (format_of v).max_messages → StopsWriting t input ahead old new f
halts_after t files terms v input now ahead left old new start records arrivals p connections decider f fits serves written fault failed same most = inr (
  reads_of v input now start records p fits,
  record {
    at = fault.0;
    fault = λ foreseen known. fault.1 known foreseen;
    failed = subst (λ w. FailsNext v input start records (Err f) w) (sym same) failed;
  },
  record { arrivals = arrivals; arrived = serves.arrived; few = within_most files terms v arrivals decider serves.stands most; written = written },
)

take_all : {A : Type 0} (xs : List A) → take (length xs) xs ≡ xs
take_all xs = grind (arith, common_steps)

-- all of the messages so far were answered, and nothing of the next
pub cut_among : (t : Texts) (files : List File) (terms : Terms) (v : Version) (input now old new : Option (List ℕ)) (start : ℕ) (records : List Record) (arrivals : List Arrival) (p : Progress) (connections : List Connection) (decider : Decider)
    → ReaderAfter v input start records p now → Serves files terms records arrivals connections decider → Appends old new (t.so_far start arrivals) → decider.totals.answered ≤ (format_of v).max_messages
    → IsCutOff t input old new
cut_among t files terms v input now old new start records arrivals p connections decider fits serves written most = inr (inl (record {
  taken = taken v input now start records arrivals p fits serves.arrived;
  within = length arrivals;
  few = within_most files terms v arrivals decider serves.stands most;
  written = rw (take_all arrivals) (prefix_all old new _ written);
}))

-- a fault of the reader that was reported
pub halts_written : (t : Texts) (files : List File) (terms : Terms) (v : Version) (input now ahead left old new : Option (List ℕ)) (start : ℕ) (records : List Record) (arrivals : List Arrival) (p : Progress) (connections : List Connection) (decider : Decider)
    (f : CaptureFault) (r : PassFault) → r ≡ pass_fault f
    → ReaderAfter v input start records p now → Serves files terms records arrivals connections decider → Appends old new (t.so_far start arrivals)
    → (f.at ≡ length records + 1) × IsForeseen (λ bytes. IsFaultAfter v bytes start records) input f → FailsNext v input start records (Err f) left
    → ahead ≡ left → decider.totals.answered ≤ (format_of v).max_messages → Leaves t input ahead old new r
halts_written t files terms v input now ahead left old new start records arrivals p connections decider f r is fits serves written fault failed same most =
    rw is
    (leaves_reported t input ahead old new f
    (halts_after t files terms v input now ahead left old new start records arrivals p connections decider f fits serves written fault failed same most)
    (cut_among t files terms v input now old new start records arrivals p connections decider fits serves written most))

pub halts_full : (t : Texts) (v : Version) (input now old mid new : Option (List ℕ)) (start n most : ℕ) (records : List Record) (arrivals : List Arrival) (rs : List Record) (p : Progress)
    → AreTexts t → ReaderAfter v input start (records ++ rs) p now → Appends old mid (t.so_far start arrivals) → n ≡ most → most ≡ (format_of v).max_messages
    → WritesFull t most start records arrivals rs mid new → StopsBeyond t input old new n
halts_full t v input now old mid new start n most records arrivals rs p laws fits written number limit full =
    let all = full.full in
    let reaches : n ≡ length arrivals + full.within = omega (arith, number, all) in
    let here : take n (arrivals ++ full.more) ≡ arrivals ++ take full.within full.more = rw reaches (take-append-add arrivals full.more full.within) in
    record {
      taken = taken v input now start (records ++ rs) (arrivals ++ full.more) p fits full.arrived;
      is_number = number ∙ limit;
      beyond = let more = full.beyond in let len = length-append arrivals full.more in omega (arith, reaches, more, len);
      written = rw here (text_wrote t start arrivals (take full.within full.more) old mid new laws written full.written);
    }

pub cut_part : (t : Texts) (v : Version) (input now old mid new : Option (List ℕ)) (start most : ℕ) (records : List Record) (arrivals : List Arrival) (rs : List Record) (p : Progress)
    → AreTexts t → ReaderAfter v input start (records ++ rs) p now → Appends old mid (t.so_far start arrivals)
    → most ≡ (format_of v).max_messages → WritesInPart t most start records arrivals rs mid new → IsCutOff t input old new
cut_part t v input now old mid new start most records arrivals rs p laws fits written limit part =
    let here : take (length arrivals + part.within) (arrivals ++ part.more) ≡ arrivals ++ take part.within part.more = take-append-add arrivals part.more part.within in
    inr (inl (record {
      taken = taken v input now start (records ++ rs) (arrivals ++ part.more) p fits part.arrived;
      within = length arrivals + part.within;
      few = (let few = part.few in omega (arith, few, limit));
      written = rw here (text_part t start arrivals (take part.within part.more) old mid new laws written part.written);
    }))

-- ---- what the engines report

-- what was reported is the answer
pub has_answered : (files : List File) (terms : Terms) (input old new : Option (List ℕ)) (outcome : Outcome) → WritesWhole (reply_texts files terms) files terms input old new outcome → Answers files terms input old new outcome
has_answered files terms input old new outcome h = answered files terms input old new outcome h.read h.written h.outcome_is

-- what is left of the input, found before the rest is in sight
pub left_first : (t : Texts) (input ahead left old new : Option (List ℕ)) (r : PassFault) → ahead ≡ left
    → (ahead ≡ left → Leaves t input ahead old new r) → Leaves t input ahead old new r
left_first t input ahead left old new r same rest = rest same
