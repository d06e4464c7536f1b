-- A batch of records: how it is read, cut, and taken into arrivals.
use Rattle.std.proofs.Common.{◌≡◌, ℕ, suc, zero, ◌-◌, ◌<◌, ◌≤◌, ◌⊎◌, inl, inr, List, [], ◌∷◌, ◌++◌, length, take, get_or, All, Option, Some, refl, sym, ap, ◌∙◌, subst, arith, append_assoc}
use Rattle.std.specs.Prelude.{flat_map, slice_get}
use Rattle.std.specs.List.{AllPairs}
use Rattle.std.proofs.lemmas.List.{length-append, get_or_append_left}
use Rattle.std.proofs.lemmas.List.Elements.{All-nil, All-cons, All-head, All-tail, All-append, All-take}
use Rattle.std.proofs.lemmas.Option.{slice_get_within, get_or_from_slice_get}
use Rattle.std.proofs.Math.Seq.{get_or-append_seam}
use Rattle.captures.specs.declared.record.Record.{Record}
use Rattle.captures.specs.declared.record.Record.TheVariants.{Piece, End, Tier}
use Rattle.captures.specs.declared.version.Version.{Version}
use Rattle.captures.specs.declared.progress.Progress.{Progress}
use Rattle.captures.specs.Reference.{connection_of as number_of, connection_now, of_connection, used_once, used_once_after, max_tick, max_tier, last_of, tier_set, tier_of, IsCapture, IsRecord, ticks_of}
use Rattle.captures.proofs.Lines.{within_longest}
use Rattle.std.proofs.lemmas.Bool.Decides.{eqb_tells}
use Rattle.captures.specs.Readers.{ReaderAfter}
use Rattle.reference.specs.Reference.{Terms}
use Rattle.arrivals.specs.Reference.{Arrival, ArrivesWith, AreArrivals, Precedes}
use Rattle.arrivals.specs.Connections.{AreTiers}
use Rattle.replay.specs.Serving.{Serves}
use Rattle.replay.specs.Coming.{InTime, ComeNext, Upcoming}
use Rattle.replay.specs.States.{EngineState}
use Rattle.arrivals.specs.Ahead.{IsAllowed}
use Rattle.arrivals.specs.Gathering.{MayGather, Gathers}
use Rattle.arrivals.specs.Parts.{incoming_from}
use Rattle.arrivals.specs.declared.connections.Connection.{Connection}
use Rattle.arrivals.specs.declared.incoming.Incoming.{Incoming}
use Rattle.arrivals.specs.declared.incoming.PieceMessages.{PieceMessages}
use Rattle.replay.proofs.ByRecord.{tick_at, ticks_before, ticks_before_le, ticks_once}
use Rattle.paths.specs.declared.file.File.{File}

-- ---- a batch is read and cut

-- it was read
pub come_next : (files : List File) (terms : Terms) (text ahead : Option (List ℕ)) (start : ℕ) (records rs : List Record) (arrivals : List Arrival) (state : EngineState) (p : Progress) (v : Version)
    → Serves files terms records arrivals state.connections state.decider → AreTiers records state.tiers → ReaderAfter v text start (records ++ rs) p ahead → start ≡ state.decider.start
    → ComeNext files terms records rs arrivals state
come_next files terms text ahead start records rs arrivals state p v serves tiers fits begun = record {
  serves = serves;
  tiers_are = tiers;
  version = v;
  rules = rw begun at fits.rules;
  small = (let h = fits.capacity in omega (arith, h, within_longest v));
}

pub all_allowed : (v : Version) (records rs : List Record) → All (IsRecord v) (records ++ rs) → All IsAllowed rs
all_allowed v [] rs all = λ k d lt. record { version = v; rules = all k d lt }
all_allowed v (r ∷ records) rs all = all_allowed v records rs (All-tail (IsRecord v) r (records ++ rs) all)

-- its records may be taken
pub may_gather : (files : List File) (terms : Terms) (records rs cuts : List Record) (arrivals : List Arrival) (state : EngineState) → ComeNext files terms records rs arrivals state → cuts ≡ rs
    → MayGather records cuts arrivals state.connections state.tiers
may_gather files terms records rs cuts arrivals state next same = rw same (record {
  reads = next.serves.reads;
  arrived = next.serves.arrived;
  tiers_are = next.tiers_are;
  small = next.small;
  allowed = all_allowed next.version records rs next.rules.each;
})

-- ---- messages in the order of their arrival

-- ticks don't fall
ticks_rise : (ticks : List ℕ) (i j s t : ℕ) → AllPairs (λ a b. a ≤ b) ticks → i ≤ j → slice_get ticks i ≡ Some s → slice_get ticks j ≡ Some t → s ≤ t
ticks_rise ticks i j s t rising le first second =
    let here : get_or ticks i 0 ≡ s = get_or_from_slice_get ticks i s 0 first in
    let there : get_or ticks j 0 ≡ t = get_or_from_slice_get ticks j t 0 second in
    let lt = slice_get_within ticks j t second in
    go (order i j le) here there lt
  where
    order : (i j : ℕ) → i ≤ j → (i < j) ⊎ (i ≡ j)
    order zero zero le = inr refl
    order zero (suc j) le = inl (omega arith)
    order (suc i) zero le = absurd (omega (arith, le))
    order (suc i) (suc j) le = elim (order i j (omega (arith, le))) [ inl lt ↦ inl (omega (arith, lt)) | inr e ↦ inr (ap (λ n. suc n) e) ]

    go : (i < j) ⊎ (i ≡ j) → get_or ticks i 0 ≡ s → get_or ticks j 0 ≡ t → j < length ticks → s ≤ t
    go (inl lt) here there within = (let h = rising i j 0 lt within in omega (arith, h, here, there))
    go (inr e) here there within = (let same : get_or ticks i 0 ≡ get_or ticks j 0 = ap (λ k. get_or ticks k 0) e in omega (arith, same, here, there))

place_le : (a b : Arrival) → Precedes a b → a.place ≤ b.place
place_le a b (inl lt) = omega (arith, lt)
place_le a b (inr e) = let same = e.0 in omega (arith, same)

-- a record with a tick and a tier within their limits
abbrev InLimits : Record → Type 0
InLimits (Piece tick conn bytes) = tick ≤ max_tick
InLimits (End tick conn) = tick ≤ max_tick
InLimits (Tier conn tier) = tier ≤ max_tier

once_within : (v : Version) (records : List Record) → All (IsRecord v) records → All InLimits (used_once records)
once_within v records each = go [] records each
  where
    one : (c : ℕ) (r : Record) → IsRecord v r → InLimits (of_connection c r)
    one c (Piece tick conn bytes) h = h.0
    one c (End tick conn) h = h.0
    one c (Tier conn tier) h = h.2

    go : (earlier records : List Record) → All (IsRecord v) records → All InLimits (used_once_after earlier records)
    go earlier [] h = All-nil InLimits
    go earlier (r ∷ records) h = All-cons InLimits (of_connection (connection_now (number_of r) earlier) r) (used_once_after (earlier ++ r ∷ []) records)
        (one (connection_now (number_of r) earlier) r (All-head (IsRecord v) r records h)) (go (earlier ++ r ∷ []) records (All-tail (IsRecord v) r records h))

-- a tier is one of four
last_low : (xs : List ℕ) → All (λ t. t ≤ 3) xs → last_of xs ≤ 3
last_low [] all = omega arith
last_low (x ∷ xs) all = all (length (x ∷ xs) - 1) 0 (omega arith)

tier_low : (c : ℕ) (records : List Record) → All InLimits records → tier_of c records ≤ 3
tier_low c records h = last_low (flat_map (tier_set c) records) (go records h)
  where
    one : (r : Record) → InLimits r → All (λ t. t ≤ 3) (tier_set c r)
    one (Piece tick conn bytes) h = All-nil (λ t. t ≤ 3)
    one (End tick conn) h = All-nil (λ t. t ≤ 3)
    one (Tier conn tier) h = elim (eqb_tells conn c) [
      | inl same ↦ rw same.0 (All-cons (λ t. t ≤ 3) tier [] (omega (arith, h)) (All-nil (λ t. t ≤ 3)))
      | inr other ↦ rw other.0 (All-nil (λ t. t ≤ 3))
    ]

    go : (records : List Record) → All InLimits records → All (λ t. t ≤ 3) (flat_map (tier_set c) records)
    go [] h = All-nil (λ t. t ≤ 3)
    go (r ∷ records) h = All-append (λ t. t ≤ 3) (tier_set c r) (flat_map (tier_set c) records) (one r (All-head InLimits r records h)) (go records (All-tail InLimits r records h))

pub in_time : (v : Version) (start : ℕ) (records : List Record) (arrivals more : List Arrival) → IsCapture v start records → AreArrivals (used_once records) (arrivals ++ more) → InTime arrivals more
in_time v start records arrivals [] rules arrived = tt
in_time v start records arrivals (a ∷ more) rules arrived = (
  (λ k d lt.
      (let b = get_or arrivals k d in
      let len = length-append arrivals (a ∷ more) in
      let first : get_or (arrivals ++ a ∷ more) k d ≡ b = get_or_append_left arrivals (a ∷ more) d k lt in
      let second : get_or (arrivals ++ a ∷ more) (length arrivals) d ≡ a = get_or-append_seam arrivals a more d in
      let before : Precedes b a = rw (first, second) at (arrived.order k (length arrivals) d lt (omega (arith, len))) in
      let own : ArrivesWith (used_once records) b = rw first at (arrived.with k d (omega (arith, len, lt))) in
      let next : ArrivesWith (used_once records) a = rw second at (arrived.with (length arrivals) d (omega (arith, len))) in
      ticks_rise (ticks_of (used_once records)) (ticks_before (used_once records) b.place) (ticks_before (used_once records) a.place) b.origin.tick a.origin.tick (rw (ticks_once records) rules.rising) (ticks_before_le (used_once records) b.place a.place (place_le b a before))
      (tick_at (used_once records) b.place b.origin.tick b.connection own.bytes own.piece) (tick_at (used_once records) a.place a.origin.tick a.connection next.bytes next.piece))),
  latest,
  of_tier,
  in_time v start records (arrivals ++ a ∷ []) more rules (rw (append_assoc arrivals (a ∷ []) more) arrived),
)
  where
    latest : a.origin.tick ≤ 1000000000000000
    latest =
        let len = length-append arrivals (a ∷ more) in
        let second : get_or (arrivals ++ a ∷ more) (length arrivals) a ≡ a = get_or-append_seam arrivals a more a in
        let next : ArrivesWith (used_once records) a = rw second at (arrived.with (length arrivals) a (omega (arith, len))) in
        let r = Piece a.origin.tick a.connection next.bytes in
        let is : get_or (used_once records) a.place r ≡ r = get_or_from_slice_get (used_once records) a.place r r next.piece in
        let ok : InLimits r = rw is at (once_within v records rules.each a.place r (slice_get_within (used_once records) a.place r next.piece)) in
        ok

    of_tier : a.origin.tier < 4
    of_tier =
        let len = length-append arrivals (a ∷ more) in
        let second : get_or (arrivals ++ a ∷ more) (length arrivals) a ≡ a = get_or-append_seam arrivals a more a in
        let next : ArrivesWith (used_once records) a = rw second at (arrived.with (length arrivals) a (omega (arith, len))) in
        let is = next.tier in
        let most = tier_low a.connection (take a.place (used_once records)) (All-take InLimits a.place (used_once records) (once_within v records rules.each)) in
        omega (arith, is, most)

-- ---- what a batch brings

-- what arrives with the records that were cut
pub arrived_with : (files : List File) (terms : Terms) (records rs cuts : List Record) (arrivals : List Arrival) (state : EngineState) (connections : List Connection) (tiers : List ℕ) (pieces : List PieceMessages)
    → ComeNext files terms records rs arrivals state → cuts ≡ rs → (MayGather records cuts arrivals state.connections state.tiers → Gathers records cuts arrivals connections tiers pieces)
    → Gathers records rs arrivals connections tiers pieces
arrived_with files terms records rs cuts arrivals state connections tiers pieces next same gathers =
    subst (λ (l : List Record). Gathers records l arrivals connections tiers pieces) same (gathers (may_gather files terms records rs cuts arrivals state next same))

pub upcoming : (files : List File) (terms : Terms) (records rs : List Record) (arrivals : List Arrival) (state : EngineState) (connections : List Connection) (tiers : List ℕ) (pieces : List PieceMessages) (messages : List Incoming)
    → ComeNext files terms records rs arrivals state → (g : Gathers records rs arrivals connections tiers pieces) → messages ≡ flat_map incoming_from pieces
    → Upcoming files terms arrivals g.more messages state.decider
upcoming files terms records rs arrivals state connections tiers pieces messages next g are = record {
  stands = next.serves.stands;
  are = g.are ∙ sym are;
  timely = in_time next.version state.decider.start (records ++ rs) arrivals g.more next.rules g.arrived;
}
