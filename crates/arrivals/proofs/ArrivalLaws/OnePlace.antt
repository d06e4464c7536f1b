-- A connection's message has one place in the records.
use Rattle.std.proofs.Common.{◌≡◌, ℕ, suc, zero, ◌+◌, ◌<◌, ◌≤◌, inl, inr, List, [], ◌∷◌, length, take, Some, refl, sym, ap, ◌∙◌, arith}
use Rattle.std.specs.Prelude.{slice_get}
use Rattle.std.proofs.lemmas.Bool.{cases_lt}
use Rattle.std.proofs.lemmas.Bool.Decides.{eqb_tells}
use Rattle.std.proofs.lemmas.Option.{none-some, same_Some}
use Rattle.std.proofs.lemmas.List.{length-append}
use Rattle.captures.specs.declared.record.Record.{Record}
use Rattle.captures.specs.declared.record.Record.TheVariants.{Piece, End, Tier}
use Rattle.captures.specs.Reference.{named_by, tier_of}
use Rattle.arrivals.specs.Reference.{bytes_to, text_of, Arrival, ArrivesWith, Precedes}

own_bytes : (tick c : ℕ) (bytes : List ℕ) → bytes_to c (Piece tick c bytes) ≡ bytes
own_bytes tick c bytes = elim (eqb_tells c c) [
  | inl same ↦ rw same.0 refl
  | inr other ↦ absurd (other.1 refl)
]

-- a piece lies in the text that is read by a later record
pub text_past : (c tick i j : ℕ) (bytes : List ℕ) (records : List Record) → slice_get records i ≡ Some (Piece tick c bytes) → i < j
    → length (text_of c (take i records)) + length bytes ≤ length (text_of c (take j records))
text_past c tick i j bytes [] h lt = absurd (none-some _ h)
text_past c tick zero zero bytes (r ∷ records) h lt = absurd (omega (arith, lt))
text_past c tick (suc i) zero bytes (r ∷ records) h lt = absurd (omega (arith, lt))
text_past c tick zero (suc j) bytes (r ∷ records) h lt =
    let own : bytes_to c r ≡ bytes = ap (bytes_to c) (same_Some _ _ h) ∙ own_bytes tick c bytes in
    let n = ap (λ b. length b) own in
    omega (arith, n, length-append (bytes_to c r) (text_of c (take j records)))
text_past c tick (suc i) (suc j) bytes (r ∷ records) h lt = omega (
  arith,
  text_past c tick i j bytes records h (omega (arith, lt)),
  length-append (bytes_to c r) (text_of c (take i records)),
  length-append (bytes_to c r) (text_of c (take j records)),
)

-- a connection's message has one place
not_earlier : (all : List Record) (a b : Arrival) → ArrivesWith all a → ArrivesWith all b → a.connection ≡ b.connection → a.message ≡ b.message → a.place < b.place → ⊥
not_earlier all a b g h c m lt =
    let past = text_past a.connection a.origin.tick a.place b.place g.bytes all g.piece lt in
    let within = g.within in
    let following : length (text_of a.connection (take b.place all)) < b.message.end = rw c h.after in
    let e = ap (λ x. x.end) m in
    omega (arith, past, within, following, e)

pub tick_or : ℕ → Record → ℕ
tick_or other (Piece tick conn bytes) = tick
tick_or other (End tick conn) = other
tick_or other (Tier conn tier) = other

one_tick : (all : List Record) (i j s t c d : ℕ) (xs ys : List ℕ) → i ≡ j → slice_get all i ≡ Some (Piece s c xs) → slice_get all j ≡ Some (Piece t d ys) → s ≡ t
unfolding tick_or
one_tick all i j s t c d xs ys e g h = ap (tick_or s) (same_Some _ _ (sym g ∙ ap (slice_get all) e ∙ h))

arrival_from : (a b : Arrival) → a.connection ≡ b.connection → a.origin.conn ≡ b.origin.conn → a.origin.tick ≡ b.origin.tick → a.origin.tier ≡ b.origin.tier → a.place ≡ b.place → a.message ≡ b.message → a ≡ b
arrival_from a b c n t r p m = λ i. record { origin = record { conn = n i; tick = t i; tier = r i }; connection = c i; place = p i; message = m i }

-- a connection's message arrives once
pub same_arrival : (all : List Record) (a b : Arrival) → ArrivesWith all a → ArrivesWith all b → a.connection ≡ b.connection → a.message ≡ b.message → a ≡ b
same_arrival all a b g h c m =
    let not_before : a.place < b.place → ⊥ = not_earlier all a b g h c m in
    let not_after : b.place < a.place → ⊥ = not_earlier all b a h g (sym c) (sym m) in
    let place : a.place ≡ b.place = elim (cases_lt a.place b.place) [
      | inl lt ↦ absurd (not_before lt)
      | inr ge ↦ elim (cases_lt b.place a.place) [ inl gt ↦ absurd (not_after gt) | inr le ↦ omega (arith, ge, le) ]
    ] in
    let tier : a.origin.tier ≡ b.origin.tier = g.tier ∙ (λ i. tier_of (c i) (take (place i) all)) ∙ sym h.tier in
    arrival_from a b c (g.number ∙ ap named_by c ∙ sym h.number) (one_tick all a.place b.place _ _ _ _ g.bytes h.bytes place g.piece h.piece) tier place m

pub precedes_once : (a b : Arrival) → Precedes a b → Precedes b a → ⊥
precedes_once a b (inl g) (inl h) = omega (arith, g, h)
precedes_once a b (inl g) (inr h) = let e = h.0 in omega (arith, g, e)
precedes_once a b (inr g) (inl h) = let e = g.0 in omega (arith, h, e)
precedes_once a b (inr g) (inr h) = let e = g.1 in let f = h.1 in omega (arith, e, f)

pub precedes_by : (a b : Arrival) → Precedes a b → a.place ≤ b.place
precedes_by a b (inl g) = omega (arith, g)
precedes_by a b (inr g) = let e = g.0 in omega (arith, e)
