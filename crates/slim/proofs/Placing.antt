-- The slim records of one more record.
use Rattle.std.proofs.Common.{◌≡◌, ◌≢◌, ℕ, ◌+◌, ◌<◌, ◌==◌, inl, inr, List, [], ◌∷◌, ◌++◌, length, map, get_or, refl, sym, ap, ◌∙◌, arith, append-nil, All}
use Rattle.std.specs.Prelude.{filter}
use Rattle.std.proofs.lemmas.Bool.Decides.{eqb_tells}
use Rattle.std.proofs.lemmas.Option.{slice_get_within}
use Rattle.std.proofs.lemmas.List.{append_assoc, map-append}
use Rattle.std.proofs.lemmas.List.Elements.{All-head, All-tail, All-cons, All-nil, filter-append}
use Rattle.captures.specs.declared.record.Record.{Record}
use Rattle.captures.specs.declared.record.Record.TheVariants.{Piece}
use Rattle.captures.specs.Reference.{used_once}
use Rattle.captures.proofs.Lives.{once_length}
use Rattle.http_requests.specs.declared.messages.Message.{Message}
use Rattle.arrivals.specs.Reference.{Arrival, AreArrivals}
use Rattle.arrivals.specs.Connections.{arrivals_with}
use Rattle.arrivals.specs.declared.incoming.Origin.{Origin}
use Rattle.slim.specs.Slims.{arrived_at, slim_record, slim_from, slim_records}
use Rattle.slim.specs.Steps.{whats_of}

-- ---- messages at a place

none_at : (place : ℕ) (xs : List Arrival) → All (λ a. a.place ≢ place) xs → arrived_at place xs ≡ []
none_at place [] all = refl
none_at place (a ∷ xs) all = elim (eqb_tells a.place place) [
  | inl same ↦ absurd (All-head (λ (a : Arrival). a.place ≢ place) a xs all same.1)
  | inr other ↦ rw other.0 (none_at place xs (All-tail (λ (a : Arrival). a.place ≢ place) a xs all))
]

all_at : (place : ℕ) (xs : List Arrival) → All (λ a. a.place ≡ place) xs → arrived_at place xs ≡ map (λ a. a.message.what) xs
all_at place [] all = refl
all_at place (a ∷ xs) all = elim (eqb_tells a.place place) [
  | inl same ↦ rw same.0 (ap (λ l. a.message.what ∷ l) (all_at place xs (All-tail (λ (a : Arrival). a.place ≡ place) a xs all)))
  | inr other ↦ absurd (other.1 (All-head (λ (a : Arrival). a.place ≡ place) a xs all))
]

at_more : (place : ℕ) (xs ys : List Arrival) → arrived_at place (xs ++ ys) ≡ arrived_at place xs ++ arrived_at place ys
at_more place xs ys = ap (map (λ a. a.message.what)) (filter-append (λ a. a.place == place) xs ys) ∙ map-append (λ a. a.message.what) (filter (λ a. a.place == place) xs) (filter (λ a. a.place == place) ys)

pub slim_more : (place n : ℕ) (records : List Record) (r : Record) (arrivals came : List Arrival) → n ≡ place + length records → All (λ a. a.place < n) arrivals → All (λ a. a.place ≡ n) came
    → slim_from place (records ++ r ∷ []) (arrivals ++ came) ≡ slim_from place records arrivals ++ slim_record (map (λ a. a.message.what) came) r
unfolding slim_from
slim_more place n [] r arrivals came is before now =
    let here : arrived_at place (arrivals ++ came) ≡ map (λ a. a.message.what) came =
    at_more place arrivals came
    ∙ ap (λ l. l ++ arrived_at place came) (none_at place arrivals (λ k d lt. λ e. (let h = before k d lt in omega (arith, h, e, is))))
    ∙ all_at place came (λ k d lt. (let h = now k d lt in omega (arith, h, is))) in
    append-nil (slim_record (arrived_at place (arrivals ++ came)) r) ∙ ap (λ l. slim_record l r) here
slim_more place n (q ∷ records) r arrivals came is before now =
    let here : arrived_at place (arrivals ++ came) ≡ arrived_at place arrivals =
    at_more place arrivals came
    ∙ ap (λ l. arrived_at place arrivals ++ l) (none_at place came (λ k d lt. λ e. (let h = now k d lt in omega (arith, h, e, is))))
    ∙ append-nil (arrived_at place arrivals) in
    ap (λ l. slim_record l q ++ slim_from (place + 1) (records ++ r ∷ []) (arrivals ++ came)) here
    ∙ ap (λ l. slim_record (arrived_at place arrivals) q ++ l) (slim_more (place + 1) n records r arrivals came (omega (arith, is)) before now)
    ∙ sym (append_assoc (slim_record (arrived_at place arrivals) q) (slim_from (place + 1) records arrivals) (slim_record (map (λ a. a.message.what) came) r))

pub placed : (records : List Record) (arrivals : List Arrival) → AreArrivals (used_once records) arrivals → All (λ a. a.place < length records) arrivals
placed records arrivals are = λ k d lt.
    let a : Arrival = get_or arrivals k d in
    let with = are.with k d lt in
    let below = slice_get_within (used_once records) a.place (Piece a.origin.tick a.connection with.bytes) with.piece in
    let len = once_length records in
    omega (arith, below, len)

came_at : (place id : ℕ) (o : Origin) (ms : List Message) → All (λ a. a.place ≡ place) (arrivals_with place id o ms)
came_at place id o [] = All-nil (λ (a : Arrival). a.place ≡ place)
came_at place id o (m ∷ ms) = All-cons (λ (a : Arrival). a.place ≡ place) (record { origin = o; connection = id; place = place; message = m }) (arrivals_with place id o ms) refl (came_at place id o ms)

whats_with : (place id : ℕ) (o : Origin) (ms : List Message) → map (λ a. a.message.what) (arrivals_with place id o ms) ≡ whats_of ms
whats_with place id o [] = refl
whats_with place id o (m ∷ ms) = ap (λ l. m.what ∷ l) (whats_with place id o ms)

-- one more record, and the messages that arrive with it
pub slim_placed : (records : List Record) (r : Record) (arrivals : List Arrival) (id : ℕ) (o : Origin) (ms : List Message) → All (λ a. a.place < length records) arrivals
    → slim_records (records ++ r ∷ []) (arrivals ++ arrivals_with (length records) id o ms) ≡ slim_records records arrivals ++ slim_record (whats_of ms) r
unfolding slim_records
slim_placed records r arrivals id o ms before =
    slim_more 0 (length records) records r arrivals (arrivals_with (length records) id o ms) (omega arith) before (came_at (length records) id o ms)
    ∙ ap (λ l. slim_from 0 records arrivals ++ slim_record l r) (whats_with (length records) id o ms)

pub slim_next : (records : List Record) (r : Record) (arrivals : List Arrival) (id : ℕ) (o : Origin) (ms : List Message) → AreArrivals (used_once records) arrivals
    → slim_records (records ++ r ∷ []) (arrivals ++ arrivals_with (length records) id o ms) ≡ slim_records records arrivals ++ slim_record (whats_of ms) r
slim_next records r arrivals id o ms are = slim_placed records r arrivals id o ms (placed records arrivals are)
