-- The messages of each connection, merged in the order of the records, are the arrivals.
use Rattle.std.proofs.Common.{◌≡◌, ◌≢◌, ℕ, ◌+◌, ◌*◌, inl, inr, List, [], ◌∷◌, ◌++◌, length, refl, sym, ap, ◌∙◌, subst, arith}
use Rattle.std.proofs.lemmas.Bool.Decides.{eqb_tells}
use Rattle.std.proofs.lemmas.List.{append-nil}
use Rattle.captures.specs.declared.record.Record.{Record}
use Rattle.captures.specs.declared.record.Record.TheVariants.{Piece, End, Tier}
use Rattle.captures.specs.Reference.{connection_now, named_by, used_once}
use Rattle.captures.proofs.Lives.{ends_of, apart, same_connection, next_connection, once_push, once_length, unnamed}
use Rattle.http_requests.specs.declared.messages.Message.{Message}
use Rattle.arrivals.specs.Reference.{text_of, Arrival, messages_of, AreArrivals}
use Rattle.arrivals.specs.Connections.{HasRead, ReadMore, HaveReadSo, HaveNumbers, IsNumber, text_now, messages_now, tier_now, arrivals_with}
use Rattle.arrivals.specs.Batches.{Reads, origin_now, Stand}
use Rattle.arrivals.specs.declared.incoming.Origin.{Origin}
use Rattle.arrivals.specs.declared.connections.Connection.{Connection}
use Rattle.arrivals.specs.declared.connections.Connection.TheVariants.{Silent}
use Rattle.arrivals.proofs.Arriving.{from_piece, text_more, own_bytes, other_bytes, messages_more, own_messages, other_messages, has_messages, arrives_none, arrives_without, each_piece, arrive_with_piece, no_messages, no_text}

-- ---- numbers

-- a connection's number is the one that names it
pub named_back : (c n : ℕ) → IsNumber c → named_by (c + 65536 * n) ≡ c
named_back c n low = omega (arith, low)

-- connections of two numbers are two
pub differ : (c d : ℕ) (rs ss : List Record) → IsNumber c → IsNumber d → c ≢ d → connection_now c rs ≢ connection_now d ss
differ c d rs ss lc ld other e = other (apart c d (ends_of c rs) (ends_of d ss) lc ld e)

-- ---- one more record

-- nothing was read yet
pub stand_none : (at : ℕ → Connection) → ((c : ℕ) → at c ≡ Silent) → Stand [] [] at
stand_none at silent = record { each = λ c low. rw (silent c) (refl, refl); arrived = arrives_none }

-- one more piece
pub stand_piece : (records : List Record) (came : List Arrival) (before after : ℕ → Connection) (tick conn : ℕ) (bytes : List ℕ) (ms : List Message)
    → IsNumber conn → Stand records came before → Reads (before conn) bytes ms (after conn) → ((c : ℕ) → c ≢ conn → after c ≡ before c)
    → Stand (records ++ Piece tick conn bytes ∷ []) (came ++ arrivals_with (length records) (connection_now conn records) (origin_now conn tick records) ms) after
stand_piece records came before after tick conn bytes ms number stand reads others = record { each = each; arrived = arrived }
  where
    id : ℕ
    id = connection_now conn records

    new : List Arrival
    new = arrivals_with (length records) id (origin_now conn tick records) ms

    more : ReadMore (text_now conn records) (messages_now conn records came) (after conn) bytes ms
    more = reads (text_now conn records) (messages_now conn records came) (stand.each conn number)

    push : used_once (records ++ Piece tick conn bytes ∷ []) ≡ used_once records ++ Piece tick id bytes ∷ []
    push = once_push records (Piece tick conn bytes)

    now : (c : ℕ) → connection_now c (records ++ Piece tick conn bytes ∷ []) ≡ connection_now c records
    now c = same_connection c records (Piece tick conn bytes) refl

    own : HasRead (after conn) (text_of id (used_once records ++ Piece tick id bytes ∷ [])) (messages_of id (came ++ new))
    own = rw (text_more id (used_once records) (Piece tick id bytes), own_bytes tick id bytes, messages_more id came new, own_messages (length records) id (origin_now conn tick records) ms) more.has

    other : (c : ℕ) → IsNumber c → c ≢ conn → HasRead (after c) (text_of (connection_now c records) (used_once records ++ Piece tick id bytes ∷ [])) (messages_of (connection_now c records) (came ++ new))
    other c low apart =
        let two = differ c conn records records low number apart in
        rw (
          others c apart,
          text_more (connection_now c records) (used_once records) (Piece tick id bytes),
          other_bytes (connection_now c records) tick id bytes two,
          append-nil (text_now c records),
          messages_more (connection_now c records) came new,
          other_messages (connection_now c records) (length records) id (origin_now conn tick records) ms two,
          append-nil (messages_now c records came),
        )
        (stand.each c low)

    each : HaveReadSo (records ++ Piece tick conn bytes ∷ []) (came ++ new) after
    each c low =
        subst (λ (x : ℕ). HasRead (after c) (text_of x (used_once (records ++ Piece tick conn bytes ∷ []))) (messages_of x (came ++ new))) (sym (now c))
        (subst (λ (rs : List Record). HasRead (after c) (text_of (connection_now c records) rs) (messages_of (connection_now c records) (came ++ new))) (sym push)
        (elim (eqb_tells c conn) [
          | inl same ↦ subst (λ (x : ℕ). HasRead (after x) (text_of (connection_now x records) (used_once records ++ Piece tick id bytes ∷ [])) (messages_of (connection_now x records) (came ++ new))) (sym same.1) own
          | inr differs ↦ other c low differs.1
        ]))

    from : origin_now conn tick records ≡ from_piece (tier_now conn records) tick id
    from = ap (λ (x : ℕ). record { conn = x; tick = tick; tier = tier_now conn records }) (sym (named_back conn (ends_of conn records) number))

    joined : AreArrivals (used_once records ++ Piece tick id bytes ∷ []) (came ++ arrivals_with (length (used_once records)) id (from_piece (tier_now conn records) tick id) ms)
    joined = arrive_with_piece (used_once records) came (tier_now conn records) tick id bytes ms refl stand.arrived more.in_piece
        (each_piece (used_once records) came (tier_now conn records) tick id bytes ms stand.arrived (has_messages (after conn) _ _ more.has))

    arrived : AreArrivals (used_once (records ++ Piece tick conn bytes ∷ [])) (came ++ new)
    arrived =
        subst (λ (rs : List Record). AreArrivals rs (came ++ new)) (sym push)
        (subst (λ (o : Origin). AreArrivals (used_once records ++ Piece tick id bytes ∷ []) (came ++ arrivals_with (length records) id o ms)) (sym from)
        (subst (λ (n : ℕ). AreArrivals (used_once records ++ Piece tick id bytes ∷ []) (came ++ arrivals_with n id (from_piece (tier_now conn records) tick id) ms)) (once_length records) joined))

-- the end of a number's connection
pub stand_end : (records : List Record) (came : List Arrival) (before after : ℕ → Connection) (tick conn : ℕ) → IsNumber conn → HaveNumbers records
    → Stand records came before → after conn ≡ Silent → ((c : ℕ) → c ≢ conn → after c ≡ before c) → Stand (records ++ End tick conn ∷ []) came after
stand_end records came before after tick conn number numbers stand silent others = record {
  each = each;
  arrived = subst (λ (rs : List Record). AreArrivals rs came) (sym push) (arrives_without (used_once records) came (End tick id) (λ c. refl) stand.arrived);
}
  where
    id : ℕ
    id = connection_now conn records

    next : ℕ
    next = conn + 65536 * (ends_of conn records + 1)

    push : used_once (records ++ End tick conn ∷ []) ≡ used_once records ++ End tick id ∷ []
    push = once_push records (End tick conn)

    text : (c : ℕ) → text_of c (used_once (records ++ End tick conn ∷ [])) ≡ text_of c (used_once records)
    text c = ap (text_of c) push ∙ text_more c (used_once records) (End tick id) ∙ append-nil (text_of c (used_once records))

    none : text_of next (used_once records) ≡ []
    none = no_text next (used_once records) (unnamed conn records number numbers)

    fresh : HasRead Silent (text_of next (used_once (records ++ End tick conn ∷ []))) (messages_of next came)
    fresh = (text next ∙ none, no_messages (messages_of next came) (rw none at (stand.arrived.each next)))

    each : HaveReadSo (records ++ End tick conn ∷ []) came after
    each c low = elim (eqb_tells conn c) [
      | inl same ↦
          subst (λ (x : ℕ). HasRead (after x) (text_now x (records ++ End tick conn ∷ [])) (messages_now x (records ++ End tick conn ∷ []) came)) same.1
          (subst (λ (k : Connection). HasRead k (text_now conn (records ++ End tick conn ∷ [])) (messages_now conn (records ++ End tick conn ∷ []) came)) (sym silent)
          (subst (λ (x : ℕ). HasRead Silent (text_of x (used_once (records ++ End tick conn ∷ []))) (messages_of x came)) (sym (next_connection conn tick records)) fresh))
      | inr other ↦
          (let now : connection_now c (records ++ End tick conn ∷ []) ≡ connection_now c records = same_connection c records (End tick conn) other.0 in
          subst (λ (x : ℕ). HasRead (after c) (text_of x (used_once (records ++ End tick conn ∷ []))) (messages_of x came)) (sym now)
          (rw (others c (λ e. other.1 (sym e)), text (connection_now c records)) (stand.each c low)))
    ]

pub stand_tier : (records : List Record) (came : List Arrival) (at : ℕ → Connection) (conn tier : ℕ) → Stand records came at → Stand (records ++ Tier conn tier ∷ []) came at
stand_tier records came at conn tier stand = record {
  each = each;
  arrived = subst (λ (rs : List Record). AreArrivals rs came) (sym push) (arrives_without (used_once records) came (Tier id tier) (λ c. refl) stand.arrived);
}
  where
    id : ℕ
    id = connection_now conn records

    push : used_once (records ++ Tier conn tier ∷ []) ≡ used_once records ++ Tier id tier ∷ []
    push = once_push records (Tier conn tier)

    text : (c : ℕ) → text_of c (used_once (records ++ Tier conn tier ∷ [])) ≡ text_of c (used_once records)
    text c = ap (text_of c) push ∙ text_more c (used_once records) (Tier id tier) ∙ append-nil (text_of c (used_once records))

    each : HaveReadSo (records ++ Tier conn tier ∷ []) came at
    each c low =
        let now : connection_now c (records ++ Tier conn tier ∷ []) ≡ connection_now c records = same_connection c records (Tier conn tier) refl in
        subst (λ (x : ℕ). HasRead (at c) (text_of x (used_once (records ++ Tier conn tier ∷ []))) (messages_of x came)) (sym now)
        (rw (text (connection_now c records)) (stand.each c low))
