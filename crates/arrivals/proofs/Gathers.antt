-- Records that are taken one after another.
use Rattle.std.proofs.Common.{◌≡◌, ◌≢◌, ℕ, ◌≤◌, inl, inr, List, [], ◌∷◌, ◌++◌, length, refl, sym, ap, ◌∙◌, subst, arith, map, append-nil, append_assoc}
use Rattle.std.specs.Prelude.{All, flat_map}
use Rattle.std.proofs.lemmas.Bool.Decides.{eqb_tells}
use Rattle.std.proofs.lemmas.Grind.{flat_map-append}
use Rattle.std.proofs.lemmas.List.{get_or_append_left, length-append, map-append}
use Rattle.std.proofs.lemmas.List.Elements.{All-tail}
use Rattle.std.proofs.lemmas.List.Sums.{sum_by-append, sum_by-cons}
use Rattle.captures.specs.declared.record.Record.{Record}
use Rattle.captures.specs.declared.record.Record.TheVariants.{Piece, End, Tier}
use Rattle.captures.specs.Captures.{size_of, sizes_of}
use Rattle.captures.specs.Reference.{connection_of, connection_now, of_connection, used_once, used_once_after}
use Rattle.http_requests.specs.declared.messages.Message.{Message}
use Rattle.http_requests.specs.Alone.{shifted}
use Rattle.arrivals.specs.Reference.{Arrival, bytes_to, text_of}
use Rattle.arrivals.specs.Connections.{HasCapacity, HaveRead, IsNumber, arrivals_with, connection_at, messages_now, text_now, tier_at, with_tier}
use Rattle.arrivals.specs.Ahead.{IsAllowed}
use Rattle.arrivals.specs.Batches.{Reads, Stand, origin_now}
use Rattle.arrivals.specs.Gathering.{Brings, MayGather, Gathers, GathersMore, incoming_of}
use Rattle.arrivals.specs.Parts.{incoming_from}
use Rattle.arrivals.specs.declared.incoming.PieceMessages.{PieceMessages}
use Rattle.arrivals.specs.declared.connections.Connection.{Connection}
use Rattle.arrivals.specs.declared.connections.Connection.TheVariants.{Silent}
use Rattle.arrivals.specs.declared.incoming.Incoming.{Incoming}
use Rattle.arrivals.specs.declared.incoming.Origin.{Origin}
use Rattle.arrivals.proofs.CutBatches.{room_of}
use Rattle.arrivals.proofs.Merging.{stand_piece, stand_end, stand_tier}
use Rattle.arrivals.proofs.Tiered.{tiers_piece, tiers_end, tiers_tier}

-- ---- how much a connection may read

bytes_below : (c : ℕ) (r : Record) → length (bytes_to c r) ≤ size_of r
bytes_below c (Piece tick conn bytes) = elim (eqb_tells conn c) [
  | inl same ↦ rw same.0 (omega arith)
  | inr other ↦ rw other.0 (omega arith)
]
bytes_below c (End tick conn) = omega arith
bytes_below c (Tier conn tier) = omega arith

text_below : (c : ℕ) (records : List Record) → length (text_of c records) ≤ sizes_of records
text_below c [] = omega arith
text_below c (r ∷ records) = omega (arith, text_below c records, bytes_below c r, sum_by-cons size_of r records, length-append (bytes_to c r) (text_of c records))

-- records read as records of connections bring the same bytes
sizes_once : (records : List Record) → sizes_of (used_once records) ≡ sizes_of records
sizes_once records = go [] records
  where
    one : (c : ℕ) (r : Record) → size_of (of_connection c r) ≡ size_of r
    one c (Piece tick conn bytes) = refl
    one c (End tick conn) = refl
    one c (Tier conn tier) = refl

    go : (earlier records : List Record) → sizes_of (used_once_after earlier records) ≡ sizes_of records
    go earlier [] = refl
    go earlier (r ∷ records) =
        let id = connection_now (connection_of r) earlier in
        let rest = go (earlier ++ r ∷ []) records in
        omega (arith, one id r, rest, sum_by-cons size_of (of_connection id r) (used_once_after (earlier ++ r ∷ []) records), sum_by-cons size_of r records)

now_below : (c : ℕ) (records : List Record) → length (text_now c records) ≤ sizes_of records
now_below c records = omega (arith, text_below (connection_now c records) (used_once records), sizes_once records)

pub has_capacity : (tick conn n : ℕ) (bytes piece : List ℕ) (r : Record) (records : List Record) (arrivals : List Arrival) (connections : List Connection) (tiers : List ℕ)
    → r ≡ Piece tick conn bytes → n ≡ conn → piece ≡ bytes → IsNumber conn → MayGather records (r ∷ []) arrivals connections tiers → HasCapacity (connection_at connections n) (length piece)
has_capacity tick conn n bytes piece r records arrivals connections tiers is named same low may =
    let below = now_below conn records in
    let small = may.small in
    let all = sum_by-append size_of records (r ∷ []) in
    let one = sum_by-cons size_of r [] in
    let own : size_of r ≡ length bytes = ap size_of is in
    rw (named, same) (room_of (connection_at connections conn) (text_now conn records) (messages_now conn records arrivals) (length bytes) (may.reads.each conn low) (omega (arith, below, small, all, one, own)))

-- ---- one record

stand_of : (records rs : List Record) (arrivals : List Arrival) (connections : List Connection) (tiers : List ℕ) → MayGather records rs arrivals connections tiers → Stand records arrivals (connection_at connections)
stand_of records rs arrivals connections tiers may = record { each = may.reads.each; arrived = may.arrived }

none_more : (old : List PieceMessages) → old ≡ old ++ []
none_more old = sym (append-nil old)

pub takes_end : (tick conn n : ℕ) (r : Record) (records : List Record) (arrivals : List Arrival) (before after : List Connection) (old new : List ℕ) (out : List PieceMessages)
    → r ≡ End tick conn → n ≡ conn → IsNumber conn → connection_at after n ≡ Silent → ((c : ℕ) → c ≢ n → connection_at after c ≡ connection_at before c)
    → ((c : ℕ) → tier_at new c ≡ with_tier conn 0 (tier_at old) c)
    → MayGather records (r ∷ []) arrivals before old → GathersMore records (r ∷ []) arrivals after new out out
takes_end tick conn n r records arrivals before after old new out is named low silent others given may =
    let apart : (c : ℕ) → c ≢ conn → connection_at after c ≡ connection_at before c = rw named at others in
    let stand = stand_end records arrivals (connection_at before) (connection_at after) tick conn low may.tiers_are.numbers (stand_of records (r ∷ []) arrivals before old may) (rw named at silent) apart in
    let reads : HaveRead (records ++ End tick conn ∷ []) arrivals after = record { each = stand.each } in (
      [],
      none_more out,
      record {
        more = [];
        reads = rw (append-nil arrivals, is) reads;
        arrived = rw (append-nil arrivals, is) stand.arrived;
        tiers_are = tiers_end tick conn r records old new is low given may.tiers_are;
        are = refl;
      },
    )

pub takes_tier : (conn tier : ℕ) (r : Record) (records : List Record) (arrivals : List Arrival) (connections : List Connection) (old new : List ℕ) (out : List PieceMessages)
    → r ≡ Tier conn tier → IsNumber conn → ((c : ℕ) → tier_at new c ≡ with_tier conn tier (tier_at old) c)
    → MayGather records (r ∷ []) arrivals connections old → GathersMore records (r ∷ []) arrivals connections new out out
takes_tier conn tier r records arrivals connections old new out is low given may =
    let stand = stand_tier records arrivals (connection_at connections) conn tier (stand_of records (r ∷ []) arrivals connections old may) in
    let reads : HaveRead (records ++ Tier conn tier ∷ []) arrivals connections = record { each = stand.each } in (
      [],
      none_more out,
      record {
        more = [];
        reads = rw (append-nil arrivals, is) reads;
        arrived = rw (append-nil arrivals, is) stand.arrived;
        tiers_are = tiers_tier conn tier r records old new is low given may.tiers_are;
        are = refl;
      },
    )

incoming_with : (place id : ℕ) (o : Origin) (ms : List Message) → map incoming_of (arrivals_with place id o ms) ≡ map (λ m. record { origin = o; what = m.what }) ms
incoming_with place id o [] = refl
incoming_with place id o (m ∷ ms) = ap (λ (l : List Incoming). record { origin = o; what = m.what } ∷ l) (incoming_with place id o ms)

-- where the messages end doesn't matter then
same_incoming : (o : Origin) (own ms : List Message) → map (λ (m : Message). m.what) own ≡ map (λ (m : Message). m.what) ms
    → ◌≡◌ {A = List Incoming} (map (λ m. record { origin = o; what = m.what }) ms) (map (λ m. record { origin = o; what = m.what }) own)
same_incoming o [] [] e = refl
same_incoming o [] (m ∷ ms) e = absurd (let z : ⊥ = grind (arith, e) in z)
same_incoming o (m ∷ own) [] e = absurd (let z : ⊥ = grind (arith, e) in z)
same_incoming o (m ∷ own) (n ∷ ms) e =
    let head : n.what ≡ m.what = cc in
    let tail : map (λ (x : Message). x.what) own ≡ map (λ (x : Message). x.what) ms = cc in
    let rest = same_incoming o own ms tail in
    rw (head, rest) refl

-- the messages that were cut of a piece by itself are those that end in it
pub brings_cut : (n : ℕ) (before after : Connection) (piece : List ℕ) (ms : List Message) → Reads before piece (shifted n ms) after → Brings before piece ms after
brings_cut n before after piece ms reads = (shifted n ms, whats n ms, reads)
  where
    whats : (n : ℕ) (ms : List Message) → map (λ (m : Message). m.what) ms ≡ map (λ (m : Message). m.what) (shifted n ms)
    whats n [] = refl
    whats n (m ∷ ms) = ap (λ l. m.what ∷ l) (whats n ms)

pub takes_piece : (tick conn n : ℕ) (o : Origin) (bytes piece : List ℕ) (own : List Message) (r : Record) (records : List Record) (arrivals : List Arrival) (before after : List Connection) (tiers : List ℕ)
    (old new : List PieceMessages) → r ≡ Piece tick conn bytes → n ≡ conn → piece ≡ bytes → IsNumber conn → o ≡ record { conn = conn; tick = tick; tier = tier_at tiers conn }
    → Brings (connection_at before n) piece own (connection_at after n) → ((c : ℕ) → c ≢ n → connection_at after c ≡ connection_at before c) → new ≡ old ++ record { origin = o; messages = own } ∷ []
    → MayGather records (r ∷ []) arrivals before tiers → GathersMore records (r ∷ []) arrivals after tiers old new
takes_piece tick conn n o bytes piece own r records arrivals before after tiers old new is named same low from brings others out may =
    let id = connection_now conn records in
    let place = length records in
    let ms = brings.0 in
    let mine : o ≡ origin_now conn tick records = from ∙ ap (λ t. record { conn = conn; tick = tick; tier = t }) (may.tiers_are.each conn low) in
    let reading : Reads (connection_at before conn) bytes ms (connection_at after conn) = rw (named, same) at brings.2 in
    let apart : (c : ℕ) → c ≢ conn → connection_at after c ≡ connection_at before c = rw named at others in
    let stand = stand_piece records arrivals (connection_at before) (connection_at after) tick conn bytes ms low (stand_of records (r ∷ []) arrivals before tiers may) reading apart in
    let read : HaveRead (records ++ Piece tick conn bytes ∷ []) (arrivals ++ arrivals_with place id (origin_now conn tick records) ms) after = record { each = stand.each } in (
      record { origin = o; messages = own } ∷ [],
      out,
      record {
        more = arrivals_with place id (origin_now conn tick records) ms;
        reads = rw is read;
        arrived = rw is stand.arrived;
        tiers_are = tiers_piece tick conn bytes r records tiers is low may.tiers_are;
        are =
            incoming_with place id (origin_now conn tick records) ms
            ∙ same_incoming (origin_now conn tick records) own ms brings.1
            ∙ ap (λ (x : Origin). map (λ (m : Message). record { origin = x; what = m.what }) own) (sym mine)
            ∙ sym (append-nil (map (λ (m : Message). record { origin = o; what = m.what }) own));
      },
    )

pub origin_is : (conn tick tier own : ℕ) → tier ≡ own → ◌≡◌ {A = Origin} (record { conn = conn; tick = tick; tier = tier }) (record { conn = conn; tick = tick; tier = own })
origin_is conn tick tier own e = ap (λ t. record { conn = conn; tick = tick; tier = t }) e

-- ---- record after record

pub gathers_none : (records rs : List Record) (arrivals : List Arrival) (connections : List Connection) (tiers : List ℕ) → MayGather records rs arrivals connections tiers → Gathers records [] arrivals connections tiers []
gathers_none records rs arrivals connections tiers may = record {
  more = [];
  reads = rw (append-nil records, append-nil arrivals) may.reads;
  arrived = rw (append-nil records, append-nil arrivals) may.arrived;
  tiers_are = rw (append-nil records) may.tiers_are;
  are = refl;
}

allowed_front : (xs ys : List Record) → All IsAllowed (xs ++ ys) → All IsAllowed xs
allowed_front xs ys all = λ k d lt. subst IsAllowed (get_or_append_left xs ys d k lt) (all k d (let len = length-append xs ys in omega (arith, lt, len)))

allowed_back : (xs ys : List Record) → All IsAllowed (xs ++ ys) → All IsAllowed ys
allowed_back [] ys all = all
allowed_back (x ∷ xs) ys all = allowed_back xs ys (All-tail IsAllowed x (xs ++ ys) all)

-- once the first of the records were taken, the others may be
pub may_go_on : (records xs ys : List Record) (arrivals : List Arrival) (connections now : List Connection) (tiers now_tiers : List ℕ) (pieces : List PieceMessages)
    → MayGather records (xs ++ ys) arrivals connections tiers → (g : Gathers records xs arrivals now now_tiers pieces) → MayGather (records ++ xs) ys (arrivals ++ g.more) now now_tiers
may_go_on records xs ys arrivals connections now tiers now_tiers pieces may g = record {
  reads = g.reads;
  arrived = g.arrived;
  tiers_are = g.tiers_are;
  small = rw (append_assoc records xs ys) may.small;
  allowed = allowed_back xs ys may.allowed;
}

-- fewer of them may be taken
pub may_fewer : (records xs ys : List Record) (arrivals : List Arrival) (connections : List Connection) (tiers : List ℕ) → MayGather records (xs ++ ys) arrivals connections tiers → MayGather records xs arrivals connections tiers
may_fewer records xs ys arrivals connections tiers may = record {
  reads = may.reads;
  arrived = may.arrived;
  tiers_are = may.tiers_are;
  small =
      let small = may.small in
      let all = sum_by-append size_of records (xs ++ ys) in
      let more = sum_by-append size_of xs ys in
      let fewer = sum_by-append size_of records xs in
      omega (arith, small, all, more, fewer);
  allowed = allowed_front xs ys may.allowed;
}

-- what arrives with the first and with the others arrives with all
pub gathers_then : (records xs ys : List Record) (arrivals : List Arrival) (now after : List Connection) (now_tiers tiers : List ℕ) (pieces more : List PieceMessages)
    → (g : Gathers records xs arrivals now now_tiers pieces) → Gathers (records ++ xs) ys (arrivals ++ g.more) after tiers more → Gathers records (xs ++ ys) arrivals after tiers (pieces ++ more)
gathers_then records xs ys arrivals now after now_tiers tiers pieces more g h = record {
  more = g.more ++ h.more;
  reads = rw (append_assoc records xs ys, append_assoc arrivals g.more h.more) at h.reads;
  arrived = rw (append_assoc records xs ys, append_assoc arrivals g.more h.more) at h.arrived;
  tiers_are = rw (append_assoc records xs ys) at h.tiers_are;
  are =
      map-append incoming_of g.more h.more
      ∙ ap (λ (l : List Incoming). l ++ map incoming_of h.more) g.are
      ∙ ap (λ (l : List Incoming). flat_map incoming_from pieces ++ l) h.are
      ∙ sym (flat_map-append incoming_from pieces more);
}

-- the next of the records may be taken
pub next_may : (records taken rest all : List Record) (r : Record) (arrivals : List Arrival) (before now : List Connection) (old tiers : List ℕ) (out : List PieceMessages) → all ≡ taken ++ r ∷ rest
    → MayGather records all arrivals before old → (g : Gathers records taken arrivals now tiers out) → MayGather (records ++ taken) (r ∷ []) (arrivals ++ g.more) now tiers
next_may records taken rest all r arrivals before now old tiers out split may g =
    may_fewer (records ++ taken) (r ∷ []) rest (arrivals ++ g.more) now tiers
    (may_go_on records taken (r ∷ rest) arrivals before now old tiers out (rw split at may) g)

-- it was taken
pub next_gathers : (records taken rest all : List Record) (r : Record) (arrivals : List Arrival) (before now after : List Connection) (old now_tiers tiers : List ℕ) (out new : List PieceMessages) → all ≡ taken ++ r ∷ rest
    → ((rs : List Record) (came : List Arrival) → MayGather rs (r ∷ []) came now now_tiers → GathersMore rs (r ∷ []) came after tiers out new)
    → MayGather records all arrivals before old → Gathers records taken arrivals now now_tiers out → Gathers records (taken ++ r ∷ []) arrivals after tiers new
next_gathers records taken rest all r arrivals before now after old now_tiers tiers out new split takes may g =
    let one = takes (records ++ taken) (arrivals ++ g.more) (next_may records taken rest all r arrivals before now old now_tiers out split may g) in
    rw one.1 (gathers_then records taken (r ∷ []) arrivals now after now_tiers tiers out one.0 g one.2)
