-- The laws of the definitions: one list of arrivals, of which those of the first records are the first.
pub mod LateMessages
mod OnePlace
use Rattle.std.proofs.Common.{◌≡◌, ◌≢◌, ℕ, suc, zero, ◌+◌, ◌<◌, ◌≤◌, inl, inr, List, [], ◌∷◌, ◌++◌, length, take, drop, get_or, Some, refl, sym, ap, ◌∙◌, subst, arith, All, zero-add}
use Rattle.std.specs.Prelude.{slice_get}
use Rattle.std.specs.List.{AllPairs}
use Rattle.std.proofs.lemmas.Bool.Decides.{eqb_tells}
use Rattle.std.proofs.lemmas.Option.{slice_get_within, none-some}
use Rattle.std.proofs.lemmas.List.{append-nil, length-append, take-append-le, nil_from_length}
use Rattle.std.proofs.lemmas.List.Elements.{All-tail}
use Rattle.std.proofs.lemmas.Grind.{flat_map-append}
use Rattle.std.proofs.Math.Seq.{take-append_seam}
use Rattle.captures.specs.declared.record.Record.{Record}
use Rattle.captures.specs.declared.record.Record.TheVariants.{Piece}
use Rattle.http_requests.specs.declared.messages.Message.{Message}
use Rattle.http_requests.specs.Reference.{MessagesOf}
use Rattle.http_requests.proofs.MessageLemmas.{messages_unique, messages_prefix}
use Rattle.arrivals.specs.Reference.{bytes_to, text_of, Arrival, messages_of, ArrivesWith, Precedes, AreArrivals}
use Rattle.arrivals.specs.Laws.{OneListOfArrivals, ArrivalsBegin}
use Rattle.arrivals.proofs.ArrivalLaws.LateMessages.{IsLate, messages_late}
use Rattle.arrivals.proofs.ArrivalLaws.OnePlace.{text_past, same_arrival, precedes_once, precedes_by}

-- ---- messages of a connection

-- a connection's messages, where the first arrival is its own, and where it is another's
own_first : (c : ℕ) (a : Arrival) (others : List Arrival) → a.connection ≡ c → messages_of c (a ∷ others) ≡ a.message ∷ messages_of c others
own_first c a others e = elim (eqb_tells a.connection c) [
  | inl same ↦ rw same.0 refl
  | inr other ↦ absurd (other.1 e)
]

other_first : (c : ℕ) (a : Arrival) (others : List Arrival) → a.connection ≢ c → messages_of c (a ∷ others) ≡ messages_of c others
other_first c a others apart = elim (eqb_tells a.connection c) [
  | inl same ↦ absurd (apart same.1)
  | inr other ↦ rw other.0 refl
]

head_same : {X : Type 0} (x y : X) (xs ys : List X) → x ∷ xs ≡ y ∷ ys → x ≡ y
head_same x y xs ys e = ap (λ l. get_or l 0 x) e

tail_same : {X : Type 0} (x y : X) (xs ys : List X) → x ∷ xs ≡ y ∷ ys → xs ≡ ys
tail_same x y xs ys e = ap (drop 1) e

no_cons : {X : Type 0} (x : X) (xs : List X) → [] ≡ x ∷ xs → ⊥
no_cons x xs e = let n = ap (λ l. length l) e in omega (arith, n)

-- the arrival of a connection's first message
first_of : (P : Arrival → Type 0) (c : ℕ) (xs : List Arrival) (m : Message) (ms : List Message) → All P xs → messages_of c xs ≡ m ∷ ms
    → (a : Arrival) × P a × (a.connection ≡ c) × (a.message ≡ m)
first_of P c [] m ms all e = absurd (no_cons m ms e)
first_of P c (x ∷ xs) m ms all e = elim (eqb_tells x.connection c) [
  | inl same ↦ (x, all 0 x (omega arith), same.1, head_same x.message m _ ms (sym (own_first c x xs same.1) ∙ e))
  | inr other ↦ first_of P c xs m ms (All-tail P x xs all) (sym (other_first c x xs other.1) ∙ e)
]

-- ---- one list

-- what the shorter text lacks of a connection's messages ends after it
abbrev Goes : List Record → ℕ → List Arrival → List Arrival → Type 0
Goes all n xs ys = (c : ℕ) → (rest : List Message) × (messages_of c ys ≡ messages_of c xs ++ rest) × IsLate (length (text_of c (take n all))) rest

-- arrivals in their order, each with its piece, which comes before the place n
record Stand (all : List Record) (n : ℕ) (xs : List Arrival) : Type 0 where
  before : All (λ a. a.place < n) xs
  with : All (ArrivesWith all) xs
  order : AllPairs Precedes xs

stand_rest : (all : List Record) (n : ℕ) (x : Arrival) (xs : List Arrival) → Stand all n (x ∷ xs) → Stand all n xs
stand_rest all n x xs h = record {
  before = All-tail (λ a. a.place < n) x xs h.before;
  with = All-tail (ArrivesWith all) x xs h.with;
  order = λ i j d below lt. h.order (suc i) (suc j) d (omega (arith, below)) (omega (arith, lt));
}

-- the first arrival precedes the others
follows : (all : List Record) (n : ℕ) (x : Arrival) (xs : List Arrival) → Stand all n (x ∷ xs) → All (λ a. ArrivesWith all a × Precedes x a) xs
follows all n x xs h = λ k d lt. (h.with (suc k) d (omega (arith, lt)), h.order 0 (suc k) d (omega arith) (omega (arith, lt)))

-- where a connection's first message in a list is this arrival's, the arrival is after the list's first
first_after : (all : List Record) (n : ℕ) (x y : Arrival) (xs : List Arrival) (ms : List Message) → Stand all n (x ∷ xs) → ArrivesWith all y
    → messages_of y.connection xs ≡ y.message ∷ ms → Precedes x y
first_after all n x y xs ms h with_y e =
    let a = first_of (λ a. ArrivesWith all a × Precedes x a) y.connection xs y.message ms (follows all n x xs h) e in
    subst (Precedes x) (same_arrival all a.0 y a.1.0 with_y a.2 a.3) a.1.1

-- an arrival with an early piece ends in the text of the early records
early_end : (all : List Record) (n : ℕ) (a : Arrival) → ArrivesWith all a → a.place < n → a.message.end ≤ length (text_of a.connection (take n all))
early_end all n a h lt =
    let past = text_past a.connection a.origin.tick a.place n h.bytes all h.piece lt in
    let within = h.within in
    omega (arith, past, within)

-- an early arrival of the longer list is one of the shorter, and so after the shorter's first
comes_again : (all : List Record) (n : ℕ) (x y : Arrival) (xs : List Arrival) (ns rest : List Message) → Stand all n (x ∷ xs) → ArrivesWith all y → y.place < n
    → IsLate (length (text_of y.connection (take n all))) rest → messages_of y.connection xs ++ rest ≡ y.message ∷ ns → Precedes x y
comes_again all n x y xs ns rest h with_y early late e = go (messages_of y.connection xs) rest refl late e
  where
    go : (ms rest : List Message) → messages_of y.connection xs ≡ ms → IsLate (length (text_of y.connection (take n all))) rest → ms ++ rest ≡ y.message ∷ ns → Precedes x y
    go [] [] f late e = absurd (no_cons y.message ns e)
    go [] (m ∷ rest) f late e =
        let same : m.end ≡ y.message.end = ap (λ x. x.end) (head_same m y.message rest ns e) in
        let end = early_end all n y with_y early in
        absurd (omega (arith, late, same, end))
    go (m ∷ ms) rest f late e = first_after all n x y xs ms h with_y (f ∙ ap (λ x. x ∷ ms) (head_same m y.message (ms ++ rest) ns e))

-- both lists begin with the same arrival
same_first : (all : List Record) (n k : ℕ) (x y : Arrival) (xs ys : List Arrival) → Stand all n (x ∷ xs) → Stand all k (y ∷ ys) → Goes all n (x ∷ xs) (y ∷ ys) → x ≡ y
same_first all n k x y xs ys g h goes =
    let with_x = g.with 0 x (omega arith) in
    let with_y = h.with 0 y (omega arith) in
    elim (eqb_tells x.connection y.connection) [
      | inl same ↦
          (let own = goes x.connection in
          let mine : messages_of x.connection (x ∷ xs) ≡ x.message ∷ messages_of x.connection xs = own_first x.connection x xs refl in
          let its : messages_of x.connection (y ∷ ys) ≡ y.message ∷ messages_of x.connection ys = own_first x.connection y ys (sym same.1) in
          let e : y.message ∷ messages_of x.connection ys ≡ (x.message ∷ messages_of x.connection xs) ++ own.0 = sym its ∙ own.1 ∙ ap (λ ms. ms ++ own.0) mine in
          same_arrival all x y with_x with_y same.1 (sym (head_same y.message x.message _ _ e)))
      | inr other ↦
          (let own = goes x.connection in
          let its = goes y.connection in
          let after : Precedes y x = first_after all k y x ys (messages_of x.connection xs ++ own.0) h with_x
          (sym (other_first x.connection y ys (λ e. other.1 (sym e))) ∙ own.1 ∙ ap (λ ms. ms ++ own.0) (own_first x.connection x xs refl)) in
          let first : x.place < n = g.before 0 x (omega arith) in
          let le = precedes_by y x after in
          let before : Precedes x y = comes_again all n x y xs (messages_of y.connection ys) its.0 g with_y (omega (arith, first, le)) its.2
          (sym (ap (λ ms. ms ++ its.0) (other_first y.connection x xs other.1)) ∙ sym its.1 ∙ own_first y.connection y ys refl) in
          absurd (precedes_once x y before after))
    ]

-- and go on so
goes_rest : (all : List Record) (n : ℕ) (x y : Arrival) (xs ys : List Arrival) → x ≡ y → Goes all n (x ∷ xs) (y ∷ ys) → Goes all n xs ys
goes_rest all n x y xs ys same goes c =
    let h = goes c in
    let conn : x.connection ≡ y.connection = ap (λ a. a.connection) same in
    elim (eqb_tells x.connection c) [
      | inl own ↦
          (h.0, tail_same y.message x.message _ _ (sym (own_first c y ys (sym conn ∙ own.1)) ∙ h.1 ∙ ap (λ ms. ms ++ h.0) (own_first c x xs own.1)), h.2)
      | inr other ↦
          (h.0, sym (other_first c y ys (λ e. other.1 (conn ∙ e))) ∙ h.1 ∙ ap (λ ms. ms ++ h.0) (other_first c x xs other.1), h.2)
    ]

-- the longer list begins with the shorter
begins : (all : List Record) (n k : ℕ) (xs ys : List Arrival) → Stand all n xs → Stand all k ys → Goes all n xs ys → (rest : List Arrival) × (ys ≡ xs ++ rest)
begins all n k [] ys g h goes = (ys, refl)
begins all n k (x ∷ xs) [] g h goes =
    let own = goes x.connection in
    absurd (no_cons x.message (messages_of x.connection xs ++ own.0) (own.1 ∙ ap (λ ms. ms ++ own.0) (own_first x.connection x xs refl)))
begins all n k (x ∷ xs) (y ∷ ys) g h goes =
    let same = same_first all n k x y xs ys g h goes in
    let more = begins all n k xs ys (stand_rest all n x xs g) (stand_rest all k y ys h) (goes_rest all n x y xs ys same goes) in
    (more.0, (λ i. sym same i ∷ more.1 i))

-- ---- the laws of arrivals

stand : (records : List Record) (xs : List Arrival) → AreArrivals records xs → Stand records (length records) xs
stand records xs h = record {
  before = λ k d lt. slice_get_within records _ _ (h.with k d lt).piece;
  with = h.with;
  order = h.order;
}

same_goes : (records : List Record) (xs ys : List Arrival) → AreArrivals records xs → AreArrivals records ys → Goes records (length records) xs ys
same_goes records xs ys g h c = ([], messages_unique 0 (text_of c records) (messages_of c ys) (messages_of c xs) (h.each c) (g.each c) ∙ sym (append-nil (messages_of c xs)), tt)

pub one_list_of_arrivals : OneListOfArrivals
one_list_of_arrivals records xs ys g h =
    let a = begins records (length records) (length records) xs ys (stand records xs g) (stand records ys h) (same_goes records xs ys g h) in
    let b = begins records (length records) (length records) ys xs (stand records ys h) (stand records xs g) (same_goes records ys xs h g) in
    let m = ap (λ l. length l) a.1 in
    let n = ap (λ l. length l) b.1 in
    let none : a.0 ≡ [] = nil_from_length a.0 (omega (arith, m, n, length-append xs a.0, length-append ys b.0)) in
    sym (a.1 ∙ ap (λ rest. xs ++ rest) none ∙ append-nil xs)

get_first : {X : Type 0} (xs ys : List X) (i : ℕ) (x : X) → slice_get xs i ≡ Some x → slice_get (xs ++ ys) i ≡ Some x
get_first [] ys i x h = absurd (none-some x h)
get_first (y ∷ xs) ys zero x h = h
get_first (y ∷ xs) ys (suc i) x h = get_first xs ys i x h

-- an arrival stays with its piece whatever follows
stays : (records more : List Record) (a : Arrival) → ArrivesWith records a → ArrivesWith (records ++ more) a
stays records more a h =
    let below = slice_get_within records a.place (Piece a.origin.tick a.connection h.bytes) h.piece in
    let front : take a.place (records ++ more) ≡ take a.place records = take-append-le a.place records more (omega (arith, below)) in
    record {
      bytes = h.bytes;
      piece = get_first records more a.place (Piece a.origin.tick a.connection h.bytes) h.piece;
      number = h.number;
      tier = rw front h.tier;
      after = rw front h.after;
      within = rw front h.within;
    }

more_goes : (records more : List Record) (xs ys : List Arrival) → AreArrivals records xs → AreArrivals (records ++ more) ys → Goes (records ++ more) (length records) xs ys
more_goes records more xs ys g h c =
    let text : text_of c (records ++ more) ≡ text_of c records ++ text_of c more = flat_map-append (bytes_to c) records more in
    let front : take (length records) (records ++ more) ≡ records = take-append_seam records more in
    let longer : MessagesOf (text_of c records ++ text_of c more) (messages_of c ys) = rw (← text) (h.each c) in
    let rest = messages_prefix 0 (text_of c records) (text_of c more) (messages_of c xs) (messages_of c ys) (g.each c) longer in
    let late : IsLate (0 + length (text_of c records)) rest.0 = messages_late 0 (text_of c records) (text_of c more) (messages_of c xs) rest.0 (g.each c) (rw (← rest.1) longer) in
    (rest.0, rest.1, rw front (subst (λ n. IsLate n rest.0) (zero-add (length (text_of c records))) late))

pub arrivals_begin : ArrivalsBegin
arrivals_begin records more xs ys g h =
    let short : Stand (records ++ more) (length records) xs = record {
      before = λ k d lt. slice_get_within records _ _ (g.with k d lt).piece;
      with = λ k d lt. stays records more _ (g.with k d lt);
      order = g.order;
    } in
    begins (records ++ more) (length records) (length (records ++ more)) xs ys short (stand (records ++ more) ys h) (more_goes records more xs ys g h)
