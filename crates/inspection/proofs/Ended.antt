-- The connections that have ended, and their shares, after one more record.
use Rattle.std.proofs.Common.{◌≡◌, ◌≢◌, ℕ, ◌<◌, ◌≤◌, inl, inr, cond, List, [], ◌∷◌, ◌++◌, length, flat_map, refl, sym, ap, ◌∙◌, arith, nat_lt, append-nil}
use Rattle.std.specs.Prelude.{All}
use Rattle.std.proofs.lemmas.Grind.{flat_map-append}
use Rattle.std.proofs.lemmas.Bool.Decides.{eqb_tells}
use Rattle.std.proofs.lemmas.List.{append_assoc, length-append}
use Rattle.std.proofs.lemmas.List.Elements.{All-head, All-tail, All-nil, All-cons}
use Rattle.std.proofs.lemmas.List.Sums.{sum_by_push, sum_by-cons, sum_by-append}
use Rattle.captures.specs.declared.record.Record.{Record}
use Rattle.captures.specs.declared.record.Record.TheVariants.{Piece, End, Tier}
use Rattle.captures.specs.Reference.{connection_of, connection_now, is_end_of, of_connection, used_once, used_once_after}
use Rattle.captures.proofs.Lives.{ends_of, apart, once_push, once_length}
use Rattle.http_requests.specs.declared.messages.Message.{Message}
use Rattle.arrivals.specs.Reference.{Arrival, text_of, messages_of}
use Rattle.arrivals.specs.Connections.{HaveNumbers, IsNumber, text_now, messages_now, arrivals_with}
use Rattle.arrivals.specs.declared.incoming.Origin.{Origin}
use Rattle.inspection.specs.declared.inspection.Share.{Share}
use Rattle.inspection.specs.Figures.{ended, ended_by, share_over, bytes_after_close, bytes_unfinished}
use Rattle.inspection.specs.declared.shares.Shares.{Shares}
use Rattle.inspection.specs.declared.tails.Tail.{Tail}
use Rattle.inspection.specs.Running.{with_bytes, with_tail, tail_of, rest_after_close, rest_unfinished, AreShares}
use Rattle.inspection.proofs.Named.{text_of_end, text_of_tier, text_of_other, messages_of_other}
use Rattle.inspection.proofs.Blanks.{unfinished_kept}
use Rattle.inspection.proofs.Everyone.{same_shares}

-- ---- one more record

ended_more : (records : List Record) (r : Record) → ended (records ++ r ∷ []) ≡ ended records ++ ended_by (of_connection (connection_now (connection_of r) records) r)
ended_more records r =
    let last = of_connection (connection_now (connection_of r) records) r in
    ap (flat_map ended_by) (once_push records r) ∙ flat_map-append ended_by (used_once records) (last ∷ []) ∙ ap (λ l. ended records ++ l) (append-nil (ended_by last))

pub ended_piece : (tick conn : ℕ) (bytes : List ℕ) (records : List Record) → ended (records ++ Piece tick conn bytes ∷ []) ≡ ended records
ended_piece tick conn bytes records = ended_more records (Piece tick conn bytes) ∙ append-nil (ended records)

pub ended_end : (tick conn : ℕ) (records : List Record) → ended (records ++ End tick conn ∷ []) ≡ ended records ++ connection_now conn records ∷ []
ended_end tick conn records = ended_more records (End tick conn)

pub ended_tier : (conn tier : ℕ) (records : List Record) → ended (records ++ Tier conn tier ∷ []) ≡ ended records
ended_tier conn tier records = ended_more records (Tier conn tier) ∙ append-nil (ended records)

-- no more connections have ended than there are records
pub few_ended : (records : List Record) → length (ended records) ≤ length records
few_ended records = let n = once_length records in let all = go (used_once records) in omega (arith, n, all)
  where
    one : (r : Record) → length (ended_by r) ≤ 1
    one (Piece tick conn bytes) = omega arith
    one (End tick conn) = omega arith
    one (Tier conn tier) = omega arith

    go : (rs : List Record) → length (flat_map ended_by rs) ≤ length rs
    go [] = omega arith
    go (r ∷ rs) = omega (arith, one r, go rs, length-append (ended_by r) (flat_map ended_by rs))

-- ---- an ended connection is none that a number names now

abbrev ends_in : ℕ → Record → ℕ
ends_in c r = cond (is_end_of c r) 1 0

-- the end of a connection is counted after it
end_counts : (tick conn : ℕ) (earlier records : List Record) → ends_of conn earlier < ends_of conn (earlier ++ End tick conn ∷ records)
end_counts tick conn earlier records =
    let both = sum_by-append (ends_in conn) earlier (End tick conn ∷ records) in
    let first = sum_by-cons (ends_in conn) (End tick conn) records in
    elim (eqb_tells conn conn) [
      | inl same ↦ (let one : ends_in conn (End tick conn) ≡ 1 = ap (λ b. cond b 1 0) same.0 in omega (arith, both, first, one))
      | inr other ↦ absurd (other.1 refl)
    ]

pub not_ended : (conn : ℕ) (records : List Record) → IsNumber conn → HaveNumbers records → All (λ d. d ≢ connection_now conn records) (ended records)
not_ended conn records number numbers = go [] records numbers
  where
    go : (earlier records : List Record) → HaveNumbers records → All (λ d. d ≢ connection_now conn (earlier ++ records)) (flat_map ended_by (used_once_after earlier records))
    go earlier [] all = All-nil (λ d. d ≢ connection_now conn (earlier ++ []))
    go earlier (Piece tick d bytes ∷ records) all =
        rw (append_assoc earlier (Piece tick d bytes ∷ []) records) at (go (earlier ++ Piece tick d bytes ∷ []) records (All-tail (λ (r : Record). IsNumber (connection_of r)) (Piece tick d bytes) records all))
    go earlier (Tier d tier ∷ records) all =
        rw (append_assoc earlier (Tier d tier ∷ []) records) at (go (earlier ++ Tier d tier ∷ []) records (All-tail (λ (r : Record). IsNumber (connection_of r)) (Tier d tier) records all))
    go earlier (End tick d ∷ records) all =
        let low : IsNumber d = All-head (λ (r : Record). IsNumber (connection_of r)) (End tick d) records all in
        let later = earlier ++ End tick d ∷ records in
        let rest : All (λ x. x ≢ connection_now conn later) (flat_map ended_by (used_once_after (earlier ++ End tick d ∷ []) records)) =
        rw (append_assoc earlier (End tick d ∷ []) records) at (go (earlier ++ End tick d ∷ []) records (All-tail (λ (r : Record). IsNumber (connection_of r)) (End tick d) records all)) in
        let first : connection_now d earlier ≢ connection_now conn later = λ e. (
        let same : d ≡ conn = apart d conn (ends_of d earlier) (ends_of conn later) low number e in
        let less = end_counts tick d earlier records in
        let named : ends_of conn later ≡ ends_of d later = ap (λ x. ends_of x later) (sym same) in
        omega (arith, e, same, less, named)) in
        All-cons (λ x. x ≢ connection_now conn later) (connection_now d earlier) (flat_map ended_by (used_once_after (earlier ++ End tick d ∷ []) records)) first rest

-- ---- shares

-- what a figure counts of a connection's text and messages
abbrev on_each : (List ℕ → List Message → ℕ) → List Record → List Arrival → ℕ → ℕ
on_each F records arrivals c = F (text_of c (used_once records)) (messages_of c arrivals)

pub all_of : {X : Type 0} (xs : List X) → All (λ x. Unit {0}) xs
all_of xs = λ k d lt. tt

share_piece : (F : List ℕ → List Message → ℕ) (tick conn place : ℕ) (bytes : List ℕ) (o : Origin) (records : List Record) (arrivals : List Arrival) (ms : List Message) → IsNumber conn → HaveNumbers records
    → share_over (on_each F (records ++ Piece tick conn bytes ∷ []) (arrivals ++ arrivals_with place (connection_now conn records) o ms)) (ended (records ++ Piece tick conn bytes ∷ []))
    ≡ share_over (on_each F records arrivals) (ended records)
share_piece F tick conn place bytes o records arrivals ms number numbers =
    let id = connection_now conn records in
    ap (share_over (on_each F (records ++ Piece tick conn bytes ∷ []) (arrivals ++ arrivals_with place id o ms))) (ended_piece tick conn bytes records)
    ∙ same_shares (λ d. d ≢ id) (on_each F (records ++ Piece tick conn bytes ∷ []) (arrivals ++ arrivals_with place id o ms)) (on_each F records arrivals) (ended records)
    (λ d other. (λ i. F (text_of_other d tick conn bytes records other i) (messages_of_other d id place o arrivals ms other i))) (not_ended conn records number numbers)

share_tier : (F : List ℕ → List Message → ℕ) (conn tier : ℕ) (records : List Record) (arrivals : List Arrival)
    → share_over (on_each F (records ++ Tier conn tier ∷ []) arrivals) (ended (records ++ Tier conn tier ∷ [])) ≡ share_over (on_each F records arrivals) (ended records)
share_tier F conn tier records arrivals =
    ap (share_over (on_each F (records ++ Tier conn tier ∷ []) arrivals)) (ended_tier conn tier records)
    ∙ same_shares (λ d. Unit {0}) (on_each F (records ++ Tier conn tier ∷ []) arrivals) (on_each F records arrivals) (ended records)
    (λ d other. ap (λ t. F t (messages_of d arrivals)) (text_of_tier d conn tier records)) (all_of (ended records))

share_push : (on : ℕ → ℕ) (xs : List ℕ) (x : ℕ) → share_over on (xs ++ x ∷ []) ≡ with_bytes (share_over on xs) (on x)
share_push on xs x =
    let bytes = sum_by_push on xs x in
    let connections = sum_by_push (λ y. cond (nat_lt 0 (on y)) 1 0) xs x in
    λ i. record { bytes = bytes i; connections = connections i }

share_end : (F : List ℕ → List Message → ℕ) (tick conn n : ℕ) (records : List Record) (arrivals : List Arrival) (old new : Share) → old ≡ share_over (on_each F records arrivals) (ended records)
    → n ≡ F (text_now conn records) (messages_now conn records arrivals) → new ≡ with_bytes old n
    → new ≡ share_over (on_each F (records ++ End tick conn ∷ []) arrivals) (ended (records ++ End tick conn ∷ []))
share_end F tick conn n records arrivals old new before own is =
    let id = connection_now conn records in
    is ∙ (λ i. with_bytes (before i) (own i)) ∙ sym (share_push (on_each F records arrivals) (ended records) id)
    ∙ same_shares (λ d. Unit {0}) (on_each F records arrivals) (on_each F (records ++ End tick conn ∷ []) arrivals) (ended records ++ id ∷ [])
    (λ d other. ap (λ t. F t (messages_of d arrivals)) (sym (text_of_end d tick conn records))) (all_of (ended records ++ id ∷ []))
    ∙ ap (share_over (on_each F (records ++ End tick conn ∷ []) arrivals)) (sym (ended_end tick conn records))

pub shares_piece : (tick conn place : ℕ) (bytes : List ℕ) (o : Origin) (records : List Record) (arrivals : List Arrival) (ms : List Message) (old new : Shares) → IsNumber conn → HaveNumbers records → new ≡ old
    → AreShares records arrivals old → AreShares (records ++ Piece tick conn bytes ∷ []) (arrivals ++ arrivals_with place (connection_now conn records) o ms) new
shares_piece tick conn place bytes o records arrivals ms old new number numbers is are = record {
  received = ap (λ s. s.received) is ∙ are.received ∙ sym (share_piece (λ text list. length text) tick conn place bytes o records arrivals ms number numbers);
  after_close = ap (λ s. s.after_close) is ∙ are.after_close ∙ sym (share_piece bytes_after_close tick conn place bytes o records arrivals ms number numbers);
  unfinished = ap (λ s. s.unfinished) is ∙ are.unfinished ∙ sym (share_piece bytes_unfinished tick conn place bytes o records arrivals ms number numbers);
}

pub shares_tier : (conn tier : ℕ) (records : List Record) (arrivals : List Arrival) (shares : Shares) → AreShares records arrivals shares → AreShares (records ++ Tier conn tier ∷ []) arrivals shares
shares_tier conn tier records arrivals shares are = record {
  received = are.received ∙ sym (share_tier (λ text list. length text) conn tier records arrivals);
  after_close = are.after_close ∙ sym (share_tier bytes_after_close conn tier records arrivals);
  unfinished = are.unfinished ∙ sym (share_tier bytes_unfinished conn tier records arrivals);
}

pub shares_end : (tick conn : ℕ) (records : List Record) (arrivals : List Arrival) (old new : Shares) (tail : Tail) → tail ≡ tail_of (text_now conn records) (messages_now conn records arrivals) → new ≡ with_tail old tail
    → AreShares records arrivals old → AreShares (records ++ End tick conn ∷ []) arrivals new
shares_end tick conn records arrivals old new tail kept is are = record {
  received = share_end (λ text list. length text) tick conn tail.bytes records arrivals old.received new.received are.received (ap (λ t. t.bytes) kept) (ap (λ s. s.received) is);
  after_close = share_end bytes_after_close tick conn (rest_after_close tail) records arrivals old.after_close new.after_close are.after_close (ap rest_after_close kept) (ap (λ s. s.after_close) is);
  unfinished = share_end bytes_unfinished tick conn (rest_unfinished tail) records arrivals old.unfinished new.unfinished are.unfinished (ap rest_unfinished kept ∙ sym (unfinished_kept (text_now conn records) (messages_now conn records arrivals))) (ap (λ s. s.unfinished) is);
}
