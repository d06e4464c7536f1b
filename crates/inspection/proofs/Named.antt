-- The text and the messages of the connection that a number names, after one more record.
use Rattle.std.proofs.Common.{◌≡◌, ◌≢◌, ℕ, ◌+◌, ◌*◌, ◌≤◌, inl, inr, List, [], ◌∷◌, ◌++◌, length, refl, sym, ap, ◌∙◌, arith, append-nil}
use Rattle.std.proofs.lemmas.Bool.Decides.{eqb_tells}
use Rattle.std.proofs.lemmas.List.{length-append}
use Rattle.std.proofs.lemmas.List.Sums.{sum_by-cons}
use Rattle.captures.specs.declared.record.Record.{Record}
use Rattle.captures.specs.declared.record.Record.TheVariants.{Piece, End, Tier}
use Rattle.captures.specs.Reference.{connection_of, connection_now, of_connection, used_once, used_once_after}
use Rattle.captures.specs.Captures.{sizes_of, size_of}
use Rattle.captures.proofs.Lives.{ends_of, same_connection, next_connection, once_push, unnamed}
use Rattle.http_requests.specs.declared.messages.Message.{Message}
use Rattle.arrivals.specs.Reference.{Arrival, AreArrivals, bytes_to, text_of, messages_of}
use Rattle.arrivals.specs.Connections.{HaveNumbers, IsNumber, text_now, messages_now, arrivals_with}
use Rattle.arrivals.specs.declared.incoming.Origin.{Origin}
use Rattle.arrivals.proofs.Arriving.{text_more, messages_more, own_bytes, other_bytes, own_messages, other_messages, no_text, no_messages}
use Rattle.arrivals.proofs.Merging.{differ}

-- ---- texts of connections

-- a record that brings no bytes leaves each text
pub text_of_end : (d tick conn : ℕ) (records : List Record) → text_of d (used_once (records ++ End tick conn ∷ [])) ≡ text_of d (used_once records)
text_of_end d tick conn records = ap (text_of d) (once_push records (End tick conn)) ∙ text_more d (used_once records) (End tick (connection_now conn records)) ∙ append-nil (text_of d (used_once records))

pub text_of_tier : (d conn tier : ℕ) (records : List Record) → text_of d (used_once (records ++ Tier conn tier ∷ [])) ≡ text_of d (used_once records)
text_of_tier d conn tier records = ap (text_of d) (once_push records (Tier conn tier)) ∙ text_more d (used_once records) (Tier (connection_now conn records) tier) ∙ append-nil (text_of d (used_once records))

pub text_of_other : (d tick conn : ℕ) (bytes : List ℕ) (records : List Record) → d ≢ connection_now conn records → text_of d (used_once (records ++ Piece tick conn bytes ∷ [])) ≡ text_of d (used_once records)
text_of_other d tick conn bytes records apart =
    let id = connection_now conn records in
    ap (text_of d) (once_push records (Piece tick conn bytes)) ∙ text_more d (used_once records) (Piece tick id bytes)
    ∙ ap (λ b. text_of d (used_once records) ++ b) (other_bytes d tick id bytes apart) ∙ append-nil (text_of d (used_once records))

text_of_own : (tick conn : ℕ) (bytes : List ℕ) (records : List Record) → text_of (connection_now conn records) (used_once (records ++ Piece tick conn bytes ∷ [])) ≡ text_now conn records ++ bytes
text_of_own tick conn bytes records =
    let id = connection_now conn records in
    ap (text_of id) (once_push records (Piece tick conn bytes)) ∙ text_more id (used_once records) (Piece tick id bytes)
    ∙ ap (λ b. text_of id (used_once records) ++ b) (own_bytes tick id bytes)

pub messages_of_other : (d id place : ℕ) (o : Origin) (arrivals : List Arrival) (ms : List Message) → d ≢ id → messages_of d (arrivals ++ arrivals_with place id o ms) ≡ messages_of d arrivals
messages_of_other d id place o arrivals ms apart =
    messages_more d arrivals (arrivals_with place id o ms) ∙ ap (λ l. messages_of d arrivals ++ l) (other_messages d place id o ms apart) ∙ append-nil (messages_of d arrivals)

messages_of_own : (id place : ℕ) (o : Origin) (arrivals : List Arrival) (ms : List Message) → messages_of id (arrivals ++ arrivals_with place id o ms) ≡ messages_of id arrivals ++ ms
messages_of_own id place o arrivals ms = messages_more id arrivals (arrivals_with place id o ms) ∙ ap (λ l. messages_of id arrivals ++ l) (own_messages place id o ms)

-- ---- texts of numbers

pub text_piece_own : (tick conn : ℕ) (bytes : List ℕ) (records : List Record) → text_now conn (records ++ Piece tick conn bytes ∷ []) ≡ text_now conn records ++ bytes
text_piece_own tick conn bytes records =
    ap (λ d. text_of d (used_once (records ++ Piece tick conn bytes ∷ []))) (same_connection conn records (Piece tick conn bytes) refl) ∙ text_of_own tick conn bytes records

pub text_piece_other : (c tick conn : ℕ) (bytes : List ℕ) (records : List Record) → IsNumber c → IsNumber conn → c ≢ conn → text_now c (records ++ Piece tick conn bytes ∷ []) ≡ text_now c records
text_piece_other c tick conn bytes records low number apart =
    ap (λ d. text_of d (used_once (records ++ Piece tick conn bytes ∷ []))) (same_connection c records (Piece tick conn bytes) refl)
    ∙ text_of_other (connection_now c records) tick conn bytes records (differ c conn records records low number apart)

pub messages_piece_own : (tick conn place : ℕ) (bytes : List ℕ) (o : Origin) (records : List Record) (arrivals : List Arrival) (ms : List Message)
    → messages_now conn (records ++ Piece tick conn bytes ∷ []) (arrivals ++ arrivals_with place (connection_now conn records) o ms) ≡ messages_now conn records arrivals ++ ms
messages_piece_own tick conn place bytes o records arrivals ms =
    ap (λ d. messages_of d (arrivals ++ arrivals_with place (connection_now conn records) o ms)) (same_connection conn records (Piece tick conn bytes) refl)
    ∙ messages_of_own (connection_now conn records) place o arrivals ms

pub messages_piece_other : (c tick conn place : ℕ) (bytes : List ℕ) (o : Origin) (records : List Record) (arrivals : List Arrival) (ms : List Message) → IsNumber c → IsNumber conn → c ≢ conn
    → messages_now c (records ++ Piece tick conn bytes ∷ []) (arrivals ++ arrivals_with place (connection_now conn records) o ms) ≡ messages_now c records arrivals
messages_piece_other c tick conn place bytes o records arrivals ms low number apart =
    ap (λ d. messages_of d (arrivals ++ arrivals_with place (connection_now conn records) o ms)) (same_connection c records (Piece tick conn bytes) refl)
    ∙ messages_of_other (connection_now c records) (connection_now conn records) place o arrivals ms (differ c conn records records low number apart)

-- nothing came on the connection after an end
next_text : (conn : ℕ) (records : List Record) → IsNumber conn → HaveNumbers records → text_of (conn + 65536 * (ends_of conn records + 1)) (used_once records) ≡ []
next_text conn records number numbers = no_text (conn + 65536 * (ends_of conn records + 1)) (used_once records) (unnamed conn records number numbers)

pub text_end_own : (tick conn : ℕ) (records : List Record) → IsNumber conn → HaveNumbers records → text_now conn (records ++ End tick conn ∷ []) ≡ []
text_end_own tick conn records number numbers =
    ap (λ d. text_of d (used_once (records ++ End tick conn ∷ []))) (next_connection conn tick records)
    ∙ text_of_end (conn + 65536 * (ends_of conn records + 1)) tick conn records ∙ next_text conn records number numbers

pub messages_end_own : (tick conn : ℕ) (records : List Record) (arrivals : List Arrival) → IsNumber conn → HaveNumbers records → AreArrivals (used_once records) arrivals → messages_now conn (records ++ End tick conn ∷ []) arrivals ≡ []
messages_end_own tick conn records arrivals number numbers arrived =
    let next = conn + 65536 * (ends_of conn records + 1) in
    let none = next_text conn records number numbers in
    ap (λ d. messages_of d arrivals) (next_connection conn tick records) ∙ no_messages (messages_of next arrivals) (rw none at (arrived.each next))

pub same_after_end : (c tick conn : ℕ) (records : List Record) → c ≢ conn → connection_now c (records ++ End tick conn ∷ []) ≡ connection_now c records
same_after_end c tick conn records apart = elim (eqb_tells conn c) [
  | inl same ↦ absurd (apart (sym same.1))
  | inr other ↦ same_connection c records (End tick conn) other.0
]

pub text_end_other : (c tick conn : ℕ) (records : List Record) → c ≢ conn → text_now c (records ++ End tick conn ∷ []) ≡ text_now c records
text_end_other c tick conn records apart =
    ap (λ d. text_of d (used_once (records ++ End tick conn ∷ []))) (same_after_end c tick conn records apart) ∙ text_of_end (connection_now c records) tick conn records

pub messages_end_other : (c tick conn : ℕ) (records : List Record) (arrivals : List Arrival) → c ≢ conn → messages_now c (records ++ End tick conn ∷ []) arrivals ≡ messages_now c records arrivals
messages_end_other c tick conn records arrivals apart = ap (λ d. messages_of d arrivals) (same_after_end c tick conn records apart)

pub text_tier : (c conn tier : ℕ) (records : List Record) → text_now c (records ++ Tier conn tier ∷ []) ≡ text_now c records
text_tier c conn tier records =
    ap (λ d. text_of d (used_once (records ++ Tier conn tier ∷ []))) (same_connection c records (Tier conn tier) refl) ∙ text_of_tier (connection_now c records) conn tier records

pub messages_tier : (c conn tier : ℕ) (records : List Record) (arrivals : List Arrival) → messages_now c (records ++ Tier conn tier ∷ []) arrivals ≡ messages_now c records arrivals
messages_tier c conn tier records arrivals = ap (λ d. messages_of d arrivals) (same_connection c records (Tier conn tier) refl)

-- ---- no more bytes than the records bring

bytes_below : (c : ℕ) (r : Record) → length (bytes_to c r) ≤ size_of r
bytes_below c (Piece tick conn bytes) = elim (eqb_tells conn c) [
  | inl same ↦ rw same.0 (omega arith)
  | inr other ↦ rw other.0 (omega arith)
]
bytes_below c (End tick conn) = omega arith
bytes_below c (Tier conn tier) = omega arith

text_below : (c : ℕ) (records : List Record) → length (text_of c records) ≤ sizes_of records
text_below c [] = omega arith
text_below c (r ∷ records) = omega (arith, text_below c records, bytes_below c r, sum_by-cons size_of r records, length-append (bytes_to c r) (text_of c records))

-- records read as records of connections bring the same bytes
sizes_once : (records : List Record) → sizes_of (used_once records) ≡ sizes_of records
sizes_once records = go [] records
  where
    one : (c : ℕ) (r : Record) → size_of (of_connection c r) ≡ size_of r
    one c (Piece tick conn bytes) = refl
    one c (End tick conn) = refl
    one c (Tier conn tier) = refl

    go : (earlier records : List Record) → sizes_of (used_once_after earlier records) ≡ sizes_of records
    go earlier [] = refl
    go earlier (r ∷ records) =
        let id = connection_now (connection_of r) earlier in
        let rest = go (earlier ++ r ∷ []) records in
        omega (arith, one id r, rest, sum_by-cons size_of (of_connection id r) (used_once_after (earlier ++ r ∷ []) records), sum_by-cons size_of r records)

pub now_below : (c : ℕ) (records : List Record) → length (text_now c records) ≤ sizes_of records
now_below c records = omega (arith, text_below (connection_now c records) (used_once records), sizes_once records)
