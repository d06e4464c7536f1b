-- The arrivals of one more record.
use Rattle.std.proofs.Common.{◌≡◌, ◌≢◌, ℕ, suc, zero, ◌+◌, ◌<◌, ◌≤◌, ◌==◌, ◌⊎◌, inl, inr, Bool, true, false, List, [], ◌∷◌, ◌++◌, length, take, map, get_or, Some, refl, sym, ap, ◌∙◌, subst, arith, All}
use Rattle.std.specs.Prelude.{slice_get, if◌then◌else◌}
use Rattle.std.specs.List.{AllPairs, filter}
use Rattle.std.proofs.lemmas.Bool.Decides.{eqb_tells}
use Rattle.std.proofs.lemmas.Option.{slice_get_within}
use Rattle.std.proofs.lemmas.List.{append_assoc, append-nil, map-append, take-append-le}
use Rattle.std.proofs.lemmas.List.Elements.{All-head, All-tail, All-push, All-cons, All-append, filter-append}
use Rattle.std.proofs.lemmas.List.Quantifiers.{all_pairs_push}
use Rattle.std.proofs.lemmas.Grind.{flat_map-append}
use Rattle.std.proofs.Math.Seq.{take-append_seam}
use Rattle.captures.specs.declared.record.Record.{Record}
use Rattle.captures.specs.declared.record.Record.TheVariants.{Piece, End, Tier}
use Rattle.captures.specs.Reference.{connection_of, named_by, tier_of}
use Rattle.http_requests.specs.declared.messages.Message.{Message}
use Rattle.http_requests.specs.Reference.{MessagesOf}
use Rattle.http_requests.specs.Cutting.{EndBetween}
use Rattle.http_requests.proofs.FrontLemmas.{next_within}
use Rattle.arrivals.specs.Reference.{bytes_to, text_of, Arrival, messages_of, ArrivesWith, Precedes, AreArrivals}
use Rattle.arrivals.specs.Connections.{HasRead, arrivals_with}
use Rattle.arrivals.specs.declared.incoming.Origin.{Origin}
use Rattle.arrivals.specs.declared.connections.Connection.{Connection}
use Rattle.arrivals.specs.declared.connections.Connection.TheVariants.{Silent, Open, Closed}

-- the origin of a piece of a connection
abbrev pub from_piece : ℕ → ℕ → ℕ → Origin
from_piece tier tick c = record { conn = named_by c; tick = tick; tier = tier }

-- ---- texts

-- a record adds its bytes to each text
pub text_more : (c : ℕ) (records : List Record) (r : Record) → text_of c (records ++ r ∷ []) ≡ text_of c records ++ bytes_to c r
text_more c records r = flat_map-append (bytes_to c) records (r ∷ []) ∙ ap (λ t. text_of c records ++ t) (append-nil (bytes_to c r))

pub if_true : {A : Type 0} (b : Bool) (x y : A) → b ≡ true → (if b then x else y) ≡ x
if_true true x y e = refl
if_true false x y e = absurd (let z : ⊥ = grind (arith, e) in z)

pub if_false : {A : Type 0} (b : Bool) (x y : A) → b ≡ false → (if b then x else y) ≡ y
if_false true x y e = absurd (let z : ⊥ = grind (arith, e) in z)
if_false false x y e = refl

pub own_bytes : (tick conn : ℕ) (bytes : List ℕ) → bytes_to conn (Piece tick conn bytes) ≡ bytes
own_bytes tick conn bytes = elim (eqb_tells conn conn) [
  | inl same ↦ if_true (conn == conn) bytes [] same.0
  | inr other ↦ absurd (other.1 refl)
]

pub other_bytes : (c tick conn : ℕ) (bytes : List ℕ) → c ≢ conn → bytes_to c (Piece tick conn bytes) ≡ []
other_bytes c tick conn bytes apart = elim (eqb_tells conn c) [
  | inl same ↦ absurd (apart (sym same.1))
  | inr other ↦ if_false (conn == c) bytes [] other.0
]

-- ---- messages of a connection

pub messages_more : (c : ℕ) (came bs : List Arrival) → messages_of c (came ++ bs) ≡ messages_of c came ++ messages_of c bs
messages_more c came bs = ap (map (λ a. a.message)) (filter-append (λ a. a.connection == c) came bs) ∙ map-append (λ a. a.message) (filter (λ a. a.connection == c) came) (filter (λ a. a.connection == c) bs)

pub own_messages : (place c : ℕ) (o : Origin) (ms : List Message) → messages_of c (arrivals_with place c o ms) ≡ ms
own_messages place c o [] = refl
own_messages place c o (m ∷ ms) = elim (eqb_tells c c) [
  | inl same ↦ rw same.0 (ap (λ l. m ∷ l) (own_messages place c o ms))
  | inr other ↦ absurd (other.1 refl)
]

pub other_messages : (d place c : ℕ) (o : Origin) (ms : List Message) → d ≢ c → messages_of d (arrivals_with place c o ms) ≡ []
other_messages d place c o [] apart = refl
other_messages d place c o (m ∷ ms) apart = elim (eqb_tells c d) [
  | inl same ↦ absurd (apart (sym same.1))
  | inr other ↦ rw other.0 (other_messages d place c o ms apart)
]

-- ---- where messages arrive

get_front : {X : Type 0} (xs ys : List X) (i : ℕ) (x : X) → slice_get xs i ≡ Some x → slice_get (xs ++ ys) i ≡ Some x
get_front [] ys i x h = absurd (let z : ⊥ = grind (arith, h) in z)
get_front (y ∷ xs) ys zero x h = h
get_front (y ∷ xs) ys (suc i) x h = get_front xs ys i x h

get_seam : {X : Type 0} (xs : List X) (y : X) → slice_get (xs ++ y ∷ []) (length xs) ≡ Some y
get_seam [] y = refl
get_seam (x ∷ xs) y = get_seam xs y

-- a message that arrived stays with its piece
pub arrived_stays : (records : List Record) (r : Record) (a : Arrival) → ArrivesWith records a → ArrivesWith (records ++ r ∷ []) a
arrived_stays records r a h =
    let below = slice_get_within records a.place (Piece a.origin.tick a.connection h.bytes) h.piece in
    let front : take a.place (records ++ r ∷ []) ≡ take a.place records = take-append-le a.place records (r ∷ []) (omega (arith, below)) in
    record {
      bytes = h.bytes;
      piece = get_front records (r ∷ []) a.place (Piece a.origin.tick a.connection h.bytes) h.piece;
      number = h.number;
      tier = rw front h.tier;
      after = rw front h.after;
      within = rw front h.within;
    }

arrives_now : (records : List Record) (tier tick conn : ℕ) (bytes : List ℕ) (m : Message) → tier ≡ tier_of conn records → length (text_of conn records) < m.end
    → m.end ≤ length (text_of conn records) + length bytes
    → ArrivesWith (records ++ Piece tick conn bytes ∷ []) (record { origin = from_piece tier tick conn; connection = conn; place = length records; message = m })
arrives_now records tier tick conn bytes m own following within =
    let front : take (length records) (records ++ Piece tick conn bytes ∷ []) ≡ records = take-append_seam records (Piece tick conn bytes ∷ []) in
    record {
      bytes = bytes;
      piece = get_seam records (Piece tick conn bytes);
      number = refl;
      tier = rw front own;
      after = rw front following;
      within = rw front within;
    }

pub all_arrive : (records : List Record) (tier tick conn from : ℕ) (bytes : List ℕ) (ms : List Message) → tier ≡ tier_of conn records → length (text_of conn records) ≤ from
    → EndBetween from (length (text_of conn records) + length bytes) ms
    → All (ArrivesWith (records ++ Piece tick conn bytes ∷ [])) (arrivals_with (length records) conn (from_piece tier tick conn) ms)
all_arrive records tier tick conn from bytes [] own le ends = λ k d lt. absurd (omega (arith, lt))
all_arrive records tier tick conn from bytes (m ∷ ms) own le ends =
    let after = ends.0 in
    All-cons (ArrivesWith (records ++ Piece tick conn bytes ∷ [])) (record { origin = from_piece tier tick conn; connection = conn; place = length records; message = m }) (arrivals_with (length records) conn (from_piece tier tick conn) ms)
    (arrives_now records tier tick conn bytes m own (omega (arith, le, after)) ends.1)
    (all_arrive records tier tick conn m.end bytes ms own (omega (arith, le, after)) ends.2)

-- ---- their order

-- an arrival that comes no later than this place in the piece
abbrev pub NotLater : ℕ → ℕ → Arrival → Type 0
NotLater place from a = (a.place < place) ⊎ ((a.place ≡ place) × (a.message.end ≤ from))

precedes_later : (place from end : ℕ) (a b : Arrival) → b.place ≡ place → b.message.end ≡ end → from < end → NotLater place from a → Precedes a b
precedes_later place from end a b p e lt (inl h) = inl (omega (arith, p, h))
precedes_later place from end a b p e lt (inr h) = inr (h.0 ∙ sym p, (let k = h.1 in omega (arith, e, lt, k)))

not_later_more : (place from end : ℕ) (a : Arrival) → from < end → NotLater place from a → NotLater place end a
not_later_more place from end a lt (inl h) = inl h
not_later_more place from end a lt (inr h) = inr (h.0, (let k = h.1 in omega (arith, lt, k)))

pub order_more : (place tier tick conn from to : ℕ) (came : List Arrival) (ms : List Message) → AllPairs Precedes came → All (NotLater place from) came
    → EndBetween from to ms → AllPairs Precedes (came ++ arrivals_with place conn (from_piece tier tick conn) ms)
order_more place tier tick conn from to came [] pairs early ends = rw (append-nil came) pairs
order_more place tier tick conn from to came (m ∷ ms) pairs early ends =
    let a : Arrival = record { origin = from_piece tier tick conn; connection = conn; place = place; message = m } in
    let lt = ends.0 in
    let pushed : AllPairs Precedes (came ++ a ∷ []) = all_pairs_push Precedes came a pairs (λ k d below. precedes_later place from m.end (get_or came k d) a refl refl lt (early k d below)) in
    let later : All (NotLater place m.end) (came ++ a ∷ []) = All-push (NotLater place m.end) came a (λ k d below. not_later_more place from m.end (get_or came k d) lt (early k d below)) (inr (refl, omega arith)) in
    subst (AllPairs Precedes) (append_assoc came (a ∷ []) (arrivals_with place conn (from_piece tier tick conn) ms)) (order_more place tier tick conn m.end to (came ++ a ∷ []) ms pushed later ends.2)

pub arrived_before : (records : List Record) (from : ℕ) (a : Arrival) → ArrivesWith records a → NotLater (length records) from a
arrived_before records from a h = inl (slice_get_within records a.place (Piece a.origin.tick a.connection h.bytes) h.piece)

-- ---- one more record

pub has_messages : (k : Connection) (text : List ℕ) (ms : List Message) → HasRead k text ms → MessagesOf text ms
has_messages Silent text ms h = rw (h.0, h.1) (λ what k next. (let w = next_within [] what k next in let a = w.0 in let b = w.1 in omega (arith, a, b)))
has_messages (Open cutter) text ms h = h.messages
has_messages Closed text ms h = rw (append-nil text) at (h [])

pub arrives_none : AreArrivals [] []
arrives_none = record {
  each = λ c. has_messages Silent [] [] (refl, refl);
  with = λ k d lt. absurd (omega (arith, lt));
  order = λ i j d lt below. absurd (omega (arith, below));
}

-- the messages that end in a piece arrive with it
pub arrive_with_piece : (records : List Record) (came : List Arrival) (tier tick conn : ℕ) (bytes : List ℕ) (ms : List Message)
    → tier ≡ tier_of conn records → AreArrivals records came → EndBetween (length (text_of conn records)) (length (text_of conn records) + length bytes) ms
    → ((c : ℕ) → MessagesOf (text_of c (records ++ Piece tick conn bytes ∷ [])) (messages_of c (came ++ arrivals_with (length records) conn (from_piece tier tick conn) ms)))
    → AreArrivals (records ++ Piece tick conn bytes ∷ []) (came ++ arrivals_with (length records) conn (from_piece tier tick conn) ms)
arrive_with_piece records came tier tick conn bytes ms own are ends each = record {
  each = each;
  with = All-append (ArrivesWith (records ++ Piece tick conn bytes ∷ [])) came (arrivals_with (length records) conn (from_piece tier tick conn) ms)
      (λ k d lt. arrived_stays records (Piece tick conn bytes) _ (are.with k d lt))
      (all_arrive records tier tick conn (length (text_of conn records)) bytes ms own (omega arith) ends);
  order = order_more (length records) tier tick conn (length (text_of conn records)) (length (text_of conn records) + length bytes) came ms are.order
      (λ k d lt. arrived_before records (length (text_of conn records)) _ (are.with k d lt)) ends;
}

-- a record that brings no bytes
pub arrives_without : (records : List Record) (came : List Arrival) (r : Record) → ((c : ℕ) → bytes_to c r ≡ []) → AreArrivals records came → AreArrivals (records ++ r ∷ []) came
arrives_without records came r none are = record {
  each = λ c. rw (text_more c records r, none c, append-nil (text_of c records)) (are.each c);
  with = λ k d lt. arrived_stays records r _ (are.with k d lt);
  order = are.order;
}

pub each_piece : (records : List Record) (came : List Arrival) (tier tick conn : ℕ) (bytes : List ℕ) (ms : List Message) → AreArrivals records came
    → MessagesOf (text_of conn records ++ bytes) (messages_of conn came ++ ms)
    → (c : ℕ) → MessagesOf (text_of c (records ++ Piece tick conn bytes ∷ [])) (messages_of c (came ++ arrivals_with (length records) conn (from_piece tier tick conn) ms))
each_piece records came tier tick conn bytes ms are whole c = elim (eqb_tells c conn) [
  | inl same ↦
      rw (
        same.1,
        text_more conn records (Piece tick conn bytes),
        own_bytes tick conn bytes,
        messages_more conn came (arrivals_with (length records) conn (from_piece tier tick conn) ms),
        own_messages (length records) conn (from_piece tier tick conn) ms,
      )
      whole
  | inr other ↦
      rw (
        text_more c records (Piece tick conn bytes),
        other_bytes c tick conn bytes other.1,
        append-nil (text_of c records),
        messages_more c came (arrivals_with (length records) conn (from_piece tier tick conn) ms),
        other_messages c (length records) conn (from_piece tier tick conn) ms other.1,
        append-nil (messages_of c came),
      )
      (are.each c)
]

-- a text without bytes has no messages
pub no_messages : (ms : List Message) → MessagesOf [] ms → ms ≡ []
no_messages [] h = refl
no_messages (m ∷ ms) h = absurd (let w = next_within [] m.what h.0 h.1 in let a = w.0 in let b = w.1 in omega (arith, a, b))

-- a connection that no record names has no text
pub no_text : (c : ℕ) (records : List Record) → All (λ r. connection_of r ≢ c) records → text_of c records ≡ []
no_text c [] all = refl
no_text c (Piece tick conn bytes ∷ records) all = (λ i. other_bytes c tick conn bytes (λ e. All-head (λ r. connection_of r ≢ c) (Piece tick conn bytes) records all (sym e)) i ++ no_text c records (All-tail (λ r. connection_of r ≢ c) (Piece tick conn bytes) records all) i)
no_text c (End tick conn ∷ records) all = no_text c records (All-tail (λ r. connection_of r ≢ c) (End tick conn) records all)
no_text c (Tier conn tier ∷ records) all = no_text c records (All-tail (λ r. connection_of r ≢ c) (Tier conn tier) records all)
