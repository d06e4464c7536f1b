-- Records have a list of arrivals, where the text of each connection has a list of messages.
use Rattle.std.proofs.Common.{◌≡◌, ℕ, ◌+◌, ◌<◌, ◌≤◌, inl, inr, Bool, true, false, List, [], ◌∷◌, ◌++◌, length, drop, get_or, map, Bor, refl, sym, ◌∙◌, subst, arith, length-append, length-drop, zero-add}
use Rattle.std.specs.Prelude.{MatchBool}
use Rattle.std.proofs.lemmas.Bool.{cases_lt}
use Rattle.std.proofs.lemmas.List.{append_assoc, append-nil, drop-append-le, get_or-map, get_or_past, length-map}
use Rattle.std.proofs.lemmas.Grind.{flat_map-append}
use Rattle.captures.specs.declared.record.Record.{Record}
use Rattle.captures.specs.declared.record.Record.TheVariants.{Piece, End, Tier}
use Rattle.captures.specs.Reference.{tier_of}
use Rattle.http_requests.specs.declared.messages.Message.{Message}
use Rattle.http_requests.specs.Reference.{Messages, MessagesOf, closes}
use Rattle.http_requests.specs.Cutting.{EndBetween}
use Rattle.http_requests.proofs.FrontLemmas.{next_append, next_unique, next_within}
use Rattle.http_requests.proofs.MessageLemmas.{messages_prefix}
use Rattle.arrivals.specs.Reference.{bytes_to, text_of, Arrival, messages_of, AreArrivals}
use Rattle.arrivals.specs.Connections.{arrivals_with}
use Rattle.arrivals.specs.Laws.{HasMessages, ArrivalsOfMessages}
use Rattle.arrivals.proofs.ArrivalLaws.LateMessages.{IsLate, next_shorter, messages_late}
use Rattle.arrivals.proofs.Arriving.{from_piece, text_more, own_bytes, arrives_none, arrives_without, each_piece, arrive_with_piece}

-- ---- texts

-- the step after a first message, which closes or doesn't
rest_front : (b : Bool) (p : ℕ) (r y s : List ℕ) (ns : List Message) → s ≡ r ++ y → (Messages p (r ++ y) ns → (ms : List Message) × Messages p r ms)
    → MatchBool b (ns ≡ []) (Messages p s ns) → (ms : List Message) × MatchBool b (ms ≡ []) (Messages p r ms)
rest_front true p r y s ns t u h = ([], refl)
rest_front false p r y s ns t u h = u (rw (← t) h)

-- a text has messages where a longer one has
front_messages : (p : ℕ) (r y : List ℕ) (ns : List Message) → Messages p (r ++ y) ns → (ms : List Message) × Messages p r ms
front_messages p r y [] h = ([], λ what k next. h what k (next_append r y what k next))
front_messages p r y (n ∷ ns) h = elim (cases_lt (length r) h.0) [
  | inl lt ↦ (
    [],
    λ what k next.
        let u = next_unique (r ++ y) n.what what h.0 k h.1 (next_append r y what k next) in
        let w = next_within r what k next in
        let same = u.1 in
        let within = w.1 in omega (arith, lt, same, within),
  )
  | inr le ↦
      (let rest = rest_front (closes n.what) (p + h.0) (drop h.0 r) y (drop h.0 (r ++ y)) ns (drop-append-le h.0 r y le) (front_messages (p + h.0) (drop h.0 r) y ns) h.3 in
      (n ∷ rest.0, (h.0, next_shorter r y n.what h.0 le h.1, h.2, rest.1)))
]

rest_ends : (b : Bool) (p k end to : ℕ) (r : List ℕ) (ms : List Message) → end ≡ p + k → k ≤ length r → to ≡ p + length r
    → (Messages (p + k) (drop k r) ms → EndBetween (p + k) (p + k + length (drop k r)) ms) → MatchBool b (ms ≡ []) (Messages (p + k) (drop k r) ms) → EndBetween end to ms
rest_ends true p k end to r ms e le t u h = rw h tt
rest_ends false p k end to r ms e le t u h =
    let l : p + k + length (drop k r) ≡ to = omega (arith, t, le, length-drop k r) in
    rw (e, ← l) (u h)

-- the messages of a text end in it, one after another
ends_all : (p : ℕ) (r : List ℕ) (ms : List Message) → Messages p r ms → EndBetween p (p + length r) ms
ends_all p r [] h = tt
ends_all p r (m ∷ ms) h =
    let w = next_within r m.what h.0 h.1 in
    let e = h.2 in
    let some = w.0 in
    let within = w.1 in (
      omega (arith, e, some),
      omega (arith, e, within),
      rest_ends (closes m.what) p h.0 m.end (p + length r) r ms e within refl (ends_all (p + h.0) (drop h.0 r) ms) h.3,
    )

-- the last of them, of which the first ends after the place n
ends_rest : (n from to : ℕ) (ms rest : List Message) → EndBetween from to (ms ++ rest) → IsLate n rest → EndBetween n to rest
ends_rest n from to [] [] h late = tt
ends_rest n from to [] (m ∷ rest) h late = (late, h.1, h.2)
ends_rest n from to (m ∷ ms) rest h late = ends_rest n m.end to ms rest h.2 late

-- the messages that more bytes add to those of a text end in these bytes
more_messages : (text bytes : List ℕ) (ms ns : List Message) → MessagesOf text ms → MessagesOf (text ++ bytes) ns
    → (more : List Message) × MessagesOf (text ++ bytes) (ms ++ more) × EndBetween (length text) (length text + length bytes) more
more_messages text bytes ms ns h g =
    let rest = messages_prefix 0 text bytes ms ns h g in
    let whole : MessagesOf (text ++ bytes) (ms ++ rest.0) = rw (← rest.1) g in
    let late : IsLate (0 + length text) rest.0 = messages_late 0 text bytes ms rest.0 h whole in
    let ends : EndBetween (0 + length text) (0 + length (text ++ bytes)) rest.0 = ends_rest (0 + length text) 0 (0 + length (text ++ bytes)) ms rest.0 (ends_all 0 (text ++ bytes) (ms ++ rest.0) whole) late in
    let from : 0 + length text ≡ length text = zero-add (length text) in
    let to : 0 + length (text ++ bytes) ≡ length text + length bytes = zero-add (length (text ++ bytes)) ∙ length-append text bytes in
    (rest.0, whole, subst (λ n. EndBetween (length text) n rest.0) to (subst (λ n. EndBetween n (0 + length (text ++ bytes)) rest.0) from ends))

-- ---- records

-- one more record
arrives_one : (records : List Record) (came : List Arrival) (r : Record) → AreArrivals records came → HasMessages (records ++ r ∷ []) → (arrivals : List Arrival) × AreArrivals (records ++ r ∷ []) arrivals
arrives_one records came (Piece tick conn bytes) are has =
    let given = has conn in
    let longer : MessagesOf (text_of conn records ++ bytes) given.0 = rw (text_more conn records (Piece tick conn bytes), own_bytes tick conn bytes) at given.1 in
    let more = more_messages (text_of conn records) bytes (messages_of conn came) given.0 (are.each conn) longer in (
      came ++ arrivals_with (length records) conn (from_piece (tier_of conn records) tick conn) more.0,
      arrive_with_piece records came (tier_of conn records) tick conn bytes more.0 refl are more.2
          (each_piece records came (tier_of conn records) tick conn bytes more.0 are more.1),
    )
arrives_one records came (End tick conn) are has = (came, arrives_without records came (End tick conn) (λ c. refl) are)
arrives_one records came (Tier conn tier) are has = (came, arrives_without records came (Tier conn tier) (λ c. refl) are)

-- the first records have messages where all have
has_front : (records more : List Record) → HasMessages (records ++ more) → HasMessages records
has_front records more has c =
    let text : text_of c (records ++ more) ≡ text_of c records ++ text_of c more = flat_map-append (bytes_to c) records more in
    let given = has c in
    front_messages 0 (text_of c records) (text_of c more) given.0 (rw text at given.1)

arrive_all : (more records : List Record) (came : List Arrival) → AreArrivals records came → HasMessages (records ++ more) → (arrivals : List Arrival) × AreArrivals (records ++ more) arrivals
arrive_all [] records came are has = (came, rw (append-nil records) are)
arrive_all (r ∷ more) records came are has =
    let same : (records ++ r ∷ []) ++ more ≡ records ++ r ∷ more = append_assoc records (r ∷ []) more in
    let all : HasMessages ((records ++ r ∷ []) ++ more) = subst HasMessages (sym same) has in
    let one = arrives_one records came r are (has_front (records ++ r ∷ []) more all) in
    subst (λ (rs : List Record). (arrivals : List Arrival) × AreArrivals rs arrivals) same (arrive_all more (records ++ r ∷ []) one.0 one.1 all)

pub arrivals_of_messages : ArrivalsOfMessages
arrivals_of_messages records has = arrive_all records [] [] arrives_none has

-- ---- texts that stand in their order

-- the first of these texts have messages
abbrev pub HaveMessages : List (List ℕ) → ℕ → Type 0
HaveMessages texts n = (k : ℕ) → k < n → (ms : List Message) × MessagesOf (get_or texts k []) ms

abbrev pub texts_at : List (Bor (List ℕ)) → List (List ℕ)
texts_at texts = map (λ text. text.now) texts

-- one more of them
pub have_one_more : (texts : List (Bor (List ℕ))) (i count : ℕ) (d : Bor (List ℕ)) → i < length texts → HaveMessages (texts_at texts) i
    → (ms : List Message) × MessagesOf (get_or texts i d).now ms × (count ≡ length ms) → HaveMessages (texts_at texts) (i + 1)
have_one_more texts i count d lt have found k below = elim (cases_lt k i) [
  | inl less ↦ have k less
  | inr ge ↦
      (let same : k ≡ i = omega (arith, below, ge) in
      let here : get_or (texts_at texts) i [] ≡ (get_or texts i d).now = get_or-map (λ (text : Bor (List ℕ)). text.now) texts i d [] lt in
      (found.0, rw (same, here) found.1))
]

-- where they are the texts of the connections, and all have messages, the records have arrivals
pub have_all : (records : List Record) (texts : List (Bor (List ℕ))) (n : ℕ) → ((c : ℕ) → text_of c records ≡ get_or (texts_at texts) c []) → length texts ≤ n
    → HaveMessages (texts_at texts) n → (arrivals : List Arrival) × AreArrivals records arrivals
have_all records texts n are all have = arrivals_of_messages records has
  where
    has : HasMessages records
    has c = elim (cases_lt c n) [
      | inl lt ↦ (let found = have c lt in let read : MessagesOf (text_of c records) found.0 = rw (are c) found.1 in (found.0, read))
      | inr ge ↦
          (let many = length-map texts (λ (text : Bor (List ℕ)). text.now) in
          let none : text_of c records ≡ [] = are c ∙ get_or_past (texts_at texts) c [] (omega (arith, many, all, ge)) in
          let read : MessagesOf (text_of c records) [] = rw none (λ what k next. let w = next_within [] what k next in let a = w.0 in let b = w.1 in omega (arith, a, b)) in
          ([], read))
    ]
