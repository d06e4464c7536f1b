-- Meanings and arrivals with what stays of their targets.
use Rattle.std.proofs.Common.{◌≡◌, ℕ, ◌<◌, ◌==◌, Bool, true, false, cond, List, [], ◌∷◌, ◌++◌, map, refl, sym, ap, ◌∙◌, All}
use Rattle.std.specs.Prelude.{filter}
use Rattle.std.proofs.lemmas.List.{map-append}
use Rattle.std.proofs.lemmas.List.Elements.{All-head, All-tail, All-cons, All-nil}
use Rattle.http_requests.specs.declared.messages.Message.{Message}
use Rattle.http_requests.specs.declared.messages.Meaning.{Meaning}
use Rattle.http_requests.specs.declared.messages.Meaning.TheVariants.{Request, Bad}
use Rattle.http_requests.specs.Reference.{closes}
use Rattle.arrivals.specs.Reference.{Arrival}
use Rattle.arrivals.specs.Connections.{arrivals_with}
use Rattle.arrivals.specs.declared.incoming.Origin.{Origin}
use Rattle.slim.specs.declared.queries.Queries.{Queries}
use Rattle.slim.specs.declared.queries.Queries.TheVariants.{Kept, Dropped}
use Rattle.slim.specs.Targets.{kept_target, kept_what, kept_arrival, kept_arrivals}
use Rattle.slim.specs.Slims.{seen}
use Rattle.slim.specs.Steps.{whats_of, whats_on, whats_kept}
use Rattle.slim.proofs.WithoutQuery.{without_twice}

-- ---- one meaning

pub kept_whole : (what : Meaning) → kept_what Kept what ≡ what
kept_whole (Request method target version closing since) = refl
kept_whole (Bad fault) = refl

target_twice : (queries : Queries) (t : List ℕ) → kept_target queries (kept_target queries t) ≡ kept_target queries t
target_twice Kept t = refl
target_twice Dropped t = without_twice t

pub kept_twice : (queries : Queries) (what : Meaning) → kept_what queries (kept_what queries what) ≡ kept_what queries what
kept_twice queries (Request method target version closing since) = ap (λ t. Request method t version closing since) (target_twice queries target)
kept_twice queries (Bad fault) = refl

pub closes_kept : (queries : Queries) (what : Meaning) → closes (kept_what queries what) ≡ closes what
closes_kept queries (Request method target version closing since) = refl
closes_kept queries (Bad fault) = refl

-- ---- messages

pub kept_message : Queries → Message → Message
kept_message queries m = record m { what = kept_what queries m.what }

pub kept_messages : Queries → List Message → List Message
kept_messages queries ms = map (kept_message queries) ms

pub whats_of_kept : (queries : Queries) (ms : List Message) → whats_of (kept_messages queries ms) ≡ whats_kept queries ms
unfolding kept_messages kept_message
whats_of_kept queries [] = refl
whats_of_kept queries (m ∷ ms) = ap (λ l. kept_what queries m.what ∷ l) (whats_of_kept queries ms)

-- ---- arrivals

pub kept_none : (queries : Queries) → kept_arrivals queries [] ≡ []
unfolding kept_arrivals
kept_none queries = refl

pub kept_more : (queries : Queries) (xs ys : List Arrival) → kept_arrivals queries (xs ++ ys) ≡ kept_arrivals queries xs ++ kept_arrivals queries ys
unfolding kept_arrivals
kept_more queries xs ys = map-append (kept_arrival queries) xs ys

pub kept_all : (xs : List Arrival) → kept_arrivals Kept xs ≡ xs
unfolding kept_arrivals
kept_all [] = refl
kept_all (a ∷ xs) =
    ap (λ w. record a { message = record a.message { what = w } } ∷ map (kept_arrival Kept) xs) (kept_whole a.message.what)
    ∙ ap (λ l. a ∷ l) (kept_all xs)

pub kept_with : (queries : Queries) (place id : ℕ) (o : Origin) (ms : List Message) → kept_arrivals queries (arrivals_with place id o ms) ≡ arrivals_with place id o (kept_messages queries ms)
unfolding kept_arrivals kept_messages kept_message
kept_with queries place id o [] = refl
kept_with queries place id o (m ∷ ms) =
    ap (λ l. record { origin = o; connection = id; place = place; message = record m { what = kept_what queries m.what } } ∷ l) (kept_with queries place id o ms)

pub kept_placed : (queries : Queries) (n : ℕ) (xs : List Arrival) → All (λ a. a.place < n) xs → All (λ a. a.place < n) (kept_arrivals queries xs)
unfolding kept_arrivals
kept_placed queries n [] all = All-nil (λ (a : Arrival). a.place < n)
kept_placed queries n (a ∷ xs) all =
    All-cons (λ (b : Arrival). b.place < n) (kept_arrival queries a) (map (kept_arrival queries) xs) (All-head (λ (b : Arrival). b.place < n) a xs all)
    (kept_placed queries n xs (All-tail (λ (b : Arrival). b.place < n) a xs all))

pub whats_on_kept : (queries : Queries) (c : ℕ) (xs : List Arrival) → whats_on c (kept_arrivals queries xs) ≡ map (kept_what queries) (whats_on c xs)
unfolding kept_arrivals
whats_on_kept queries c [] = refl
whats_on_kept queries c (a ∷ xs) = go (a.connection == c) (whats_on_kept queries c xs)
  where
    go : (b : Bool) → whats_on c (map (kept_arrival queries) xs) ≡ map (kept_what queries) (whats_on c xs)
        → whats_of (map (λ a. a.message) (cond b (kept_arrival queries a ∷ filter (λ a. a.connection == c) (map (kept_arrival queries) xs)) (filter (λ a. a.connection == c) (map (kept_arrival queries) xs))))
        ≡ map (kept_what queries) (whats_of (map (λ a. a.message) (cond b (a ∷ filter (λ a. a.connection == c) xs) (filter (λ a. a.connection == c) xs))))
    go true rest = ap (λ l. kept_what queries a.message.what ∷ l) rest
    go false rest = rest

-- arrivals that look like ones of which no more goes
pub kept_seen : (queries : Queries) (xs ys : List Arrival) → map seen xs ≡ map seen (kept_arrivals queries ys) → kept_arrivals queries xs ≡ xs
unfolding kept_arrivals
kept_seen queries [] [] same = refl
kept_seen queries [] (y ∷ ys) same = refl
kept_seen queries (x ∷ xs) [] same = absurd (let z : ⊥ = cc in z)
kept_seen queries (x ∷ xs) (y ∷ ys) same =
    let head : seen x ≡ seen (kept_arrival queries y) = cc in
    let rest : map seen xs ≡ map seen (map (kept_arrival queries) ys) = cc in
    let what : x.message.what ≡ kept_what queries y.message.what = ap (λ (p : Origin × ℕ × Meaning). p.2) head in
    let stays : kept_what queries x.message.what ≡ x.message.what = ap (kept_what queries) what ∙ kept_twice queries y.message.what ∙ sym what in
    ap (λ w. record x { message = record x.message { what = w } } ∷ map (kept_arrival queries) xs) stays
    ∙ ap (λ l. x ∷ l) (kept_seen queries xs ys rest)
