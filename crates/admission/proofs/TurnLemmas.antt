-- The servers one by one, and a single one.
use Rattle.std.proofs.Common.{◌≡◌, ℕ, zero, suc, ◌+◌, ◌≤◌, min, max, List, [], ◌∷◌, ◌++◌, length, drop, replicate, Bool, true, false, refl, sym, ◌∙◌, ap, arith, append-nil, nat_le, subst, inl, inr}
use Rattle.std.specs.Prelude.{◌⊎◌}
use Rattle.std.proofs.lemmas.Bool.{cases_lt, cases_eq, eq-eqb, ne_eqb}
use Rattle.std.proofs.lemmas.List.{map-append, length-replicate}
use Rattle.token_bucket.specs.Reference.{TOKEN}
use Rattle.admission.specs.Reference.{Station, rules_of, servers_of, Offer, Decided, Served, of_tier, served, of_pool, finishes, insert_sorted, sorted, free_at, finish_after, finish_in, credit, decided_next, decided_from, decided}
use Rattle.admission.specs.Servers.{free_ticks, least, with_first, finish_on, finishes_in_turn, offers_served, last_finish, FirstComeFirstServed, OneServerFinishes}
use Rattle.admission.specs.Standing.{first_free}
use Rattle.admission.specs.Tally.{remove_one}
use Rattle.admission.specs.Laws.{RunsTo, FinishFromFinish}
use Rattle.admission.proofs.RequestLemmas.{served-push, of_pool-same, of_pool-other, last_finish-push}
use Rattle.admission.proofs.PoolLemmas.{Chosen}
use Rattle.admission.proofs.SortLemmas.{insert-none, insert-front, insert-past, insert-swap, remove-insert, remove-here}
use Rattle.admission.proofs.ServerLemmas.{free_ticks-none, free_ticks-push, length-free_ticks, free_first}

-- ---- what each admitted request keeps

abbrev pub Next : ℕ → List Served → Offer → Served
Next servers requests offer = record { offer = offer; finish = finish_after servers requests offer }

-- one more of a pool
own_push : (station : Station) (pool : ℕ) (requests : List Served) (offer : Offer) → offer.pool ≡ pool
    → of_pool pool (requests ++ record { offer = offer; finish = finish_in station requests offer } ∷ [])
    ≡ of_pool pool requests ++ Next (servers_of station pool) (of_pool pool requests) offer ∷ []
own_push station pool requests offer same =
    of_pool-same pool requests (record { offer = offer; finish = finish_in station requests offer }) same
    ∙ ap (λ p. of_pool pool requests ++ Next (servers_of station p) (of_pool p requests) offer ∷ []) same

abbrev Step : Station → ℕ → (List Served → Type 0) → Type 0
Step station pool P =
    (requests : List Served) (offer : Offer) → P requests → P (requests ++ Next (servers_of station pool) requests offer ∷ [])

keeps_chosen : (station : Station) (pool : ℕ) (P : List Served → Type 0) (past : List Decided) (offer : Offer) (b : Bool)
    → Step station pool P → P (of_pool pool (served past))
    → P (of_pool pool (served (past ++ Chosen offer (finish_in station (served past) offer) b ∷ [])))
keeps_chosen station pool P past offer true step start =
    let request : Served = record { offer = offer; finish = finish_in station (served past) offer } in
    rw (served-push past (Chosen offer (finish_in station (served past) offer) true))
    (elim (cases_eq offer.pool pool) [
      | inl same ↦ rw (own_push station pool (served past) offer same) (step (of_pool pool (served past)) offer start)
      | inr apart ↦ rw (of_pool-other pool (served past) request apart) start
    ])
keeps_chosen station pool P past offer false step start =
    rw (served-push past (Chosen offer (finish_in station (served past) offer) false), append-nil (served past)) start

keeps_from : (station : Station) (pool : ℕ) (P : List Served → Type 0) (past : List Decided) (offers : List Offer)
    → Step station pool P → P (of_pool pool (served past)) → P (of_pool pool (served (decided_from station past offers)))
unfolding decided_from
keeps_from station pool P past [] step start = start
keeps_from station pool P past (offer ∷ offers) step start =
    keeps_from station pool P (past ++ decided_next station past offer ∷ []) offers step
    (keeps_chosen station pool P past offer
    (nat_le TOKEN (credit (rules_of station offer.tier) (of_tier offer.tier past) offer.tick)) step start)

-- what holds of no request, and then of each next one, holds of all that are admitted of a pool
pool_keeps : (station : Station) (pool : ℕ) (P : List Served → Type 0) (offers : List Offer) → P [] → Step station pool P
    → P (of_pool pool (served (decided station offers)))
unfolding served of_pool
pool_keeps station pool P offers start step = keeps_from station pool P [] offers step start

offers-push : (requests : List Served) (request : Served) → offers_served (requests ++ request ∷ []) ≡ offers_served requests ++ request.offer ∷ []
offers-push requests request = map-append (λ (r : Served). r.offer) requests (request ∷ [])

finishes-push : (requests : List Served) (request : Served) → finishes (requests ++ request ∷ []) ≡ finishes requests ++ request.finish ∷ []
finishes-push requests request = map-append (λ (r : Served). r.finish) requests (request ∷ [])

-- ---- one server

-- it is free at the last finish
only_one : (xs : List ℕ) (x : ℕ) → length xs ≡ 1 → first_free xs ≤ x → first_free (drop 1 (insert_sorted x xs)) ≡ x
only_one [] x long le = absurd (omega arith)
only_one (y ∷ []) x long le =
    elim (cases_lt y x) [
      | inl below ↦ rw (insert-past x y [] below, insert-none x) refl
      | inr above ↦ rw (insert-front x y [] above) (omega arith)
    ]
only_one (y ∷ z ∷ xs) x long le = absurd (omega arith)

pub one_push : (requests : List Served) (offer : Offer) → free_at 1 (requests ++ Next 1 requests offer ∷ []) ≡ finish_after 1 requests offer
one_push requests offer =
    let first : free_at 1 requests ≡ first_free (free_ticks 1 requests) = free_first 1 requests (omega arith) in
    free_first 1 (requests ++ Next 1 requests offer ∷ []) (omega arith)
    ∙ ap first_free (free_ticks-push 1 requests (Next 1 requests offer))
    ∙ only_one (free_ticks 1 requests) (finish_after 1 requests offer) (length-free_ticks 1 requests) (omega (arith, first))

abbrev LastIs : List Served → Type 0
LastIs requests = free_at 1 requests ≡ last_finish (offers_served requests)

last_none : LastIs []
unfolding free_at last_finish sorted
last_none = refl

last_push : (requests : List Served) (offer : Offer) → LastIs requests → LastIs (requests ++ Next 1 requests offer ∷ [])
last_push requests offer is =
    one_push requests offer ∙ ap (λ n. max n offer.tick + offer.service) is
    ∙ sym (ap last_finish (offers-push requests (Next 1 requests offer)) ∙ last_finish-push (offers_served requests) offer)

last_is : (station : Station) (offers : List Offer) (pool : ℕ) → servers_of station pool ≡ 1
    → LastIs (of_pool pool (served (decided station offers)))
last_is station offers pool one =
    pool_keeps station pool LastIs offers last_none (λ requests offer is. rw one (last_push requests offer is))

pub one_server_finishes : OneServerFinishes
one_server_finishes station offers offer one =
    let requests : List Served = of_pool offer.pool (served (decided station offers)) in
    ap (λ n. finish_after n requests offer) one
    ∙ ap (λ n. max n offer.tick + offer.service) (last_is station offers offer.pool one)
    ∙ sym (last_finish-push (offers_served requests) offer)

runs-push : (before last : ℕ) (requests : List Served) (request : Served) → RunsTo before requests last
    → request.finish ≡ max last request.offer.tick + request.offer.service → RunsTo before (requests ++ request ∷ []) request.finish
unfolding RunsTo
runs-push before last [] request runs is = (rw runs is, refl)
runs-push before last (first ∷ requests) request runs is = (runs.0, runs-push first.finish last requests request runs.1 is)

runs-none : RunsTo 0 [] (free_at 1 [])
unfolding RunsTo free_at sorted
runs-none = refl

runs : (station : Station) (offers : List Offer) (pool : ℕ) → servers_of station pool ≡ 1
    → RunsTo 0 (of_pool pool (served (decided station offers))) (free_at 1 (of_pool pool (served (decided station offers))))
runs station offers pool one =
    pool_keeps station pool (λ requests. RunsTo 0 requests (free_at 1 requests)) offers runs-none
    (λ requests offer is. rw (one, one_push requests offer) (runs-push 0 (free_at 1 requests) requests (Next 1 requests offer) is refl))

pub finish_from_finish : FinishFromFinish
finish_from_finish station offers pool one = rw (← last_is station offers pool one) (runs station offers pool one)

-- ---- first come, first served

unfoldable Has : ℕ → List ℕ → Type 0
Has x [] = ⊥
Has x (z ∷ zs) = (x ≡ z) ⊎ Has x zs

least-has : (xs : List ℕ) → 1 ≤ length xs → Has (least xs) xs
unfolding Has least
least-has [] some = absurd (omega arith)
least-has (x ∷ []) some = inl refl
least-has (x ∷ y ∷ xs) some =
    elim (cases_lt (least (y ∷ xs)) x) [
      | inl below ↦
          let is : least (y ∷ xs) ≡ min x (least (y ∷ xs)) = omega arith in
          subst (λ n. Has n (x ∷ y ∷ xs)) is (inr (least-has (y ∷ xs) (omega arith)))
      | inr above ↦
          let is : x ≡ min x (least (y ∷ xs)) = omega arith in
          subst (λ n. Has n (x ∷ y ∷ xs)) is (inl refl)
    ]

with_first-here : (x y z : ℕ) (zs : List ℕ) → x ≡ z → with_first x y (z ∷ zs) ≡ y ∷ zs
unfolding with_first
with_first-here x y z zs same = rw (eq-eqb x z same) refl

with_first-there : (x y z : ℕ) (zs : List ℕ) → (x ≡ z → ⊥) → with_first x y (z ∷ zs) ≡ z ∷ with_first x y zs
unfolding with_first
with_first-there x y z zs apart = rw (ne_eqb x z apart) refl

insert-with_first : (x y : ℕ) (xs : List ℕ) → Has x xs → insert_sorted x (sorted (with_first x y xs)) ≡ insert_sorted y (sorted xs)
unfolding Has sorted
insert-with_first x y [] has = elim has [ ]
insert-with_first x y (z ∷ zs) has =
    elim (cases_eq x z) [
      | inl same ↦ rw (with_first-here x y z zs same) (insert-swap x y (sorted zs) ∙ ap (λ n. insert_sorted y (insert_sorted n (sorted zs))) same)
      | inr apart ↦
          let rest : Has x zs = elim has [ inl same ↦ absurd (apart same) | inr there ↦ there ] in
          rw (with_first-there x y z zs apart)
          (insert-swap x z (sorted (with_first x y zs)) ∙ ap (insert_sorted z) (insert-with_first x y zs rest)
          ∙ insert-swap z y (sorted zs))
    ]

head-insert : (x y : ℕ) (ys : List ℕ) → first_free (insert_sorted x (y ∷ ys)) ≡ min x y
head-insert x y ys =
    elim (cases_lt y x) [
      | inl below ↦ rw (insert-past x y ys below) (omega arith)
      | inr above ↦ rw (insert-front x y ys above) (omega arith)
    ]

insert-head : (x : ℕ) (s : List ℕ) → 1 ≤ length s → first_free (insert_sorted x s) ≡ min x (first_free s)
insert-head x [] some = absurd (omega arith)
insert-head x (y ∷ ys) some = head-insert x y ys

some-insert : (x : ℕ) (s : List ℕ) → 1 ≤ length (insert_sorted x s)
some-insert x [] = rw (insert-none x) (omega arith)
some-insert x (y ∷ ys) =
    elim (cases_lt y x) [
      | inl below ↦ rw (insert-past x y ys below) (omega arith)
      | inr above ↦ rw (insert-front x y ys above) (omega arith)
    ]

sorted-some : (x : ℕ) (xs : List ℕ) → 1 ≤ length (sorted (x ∷ xs))
unfolding sorted
sorted-some x xs = some-insert x (sorted xs)

least-head : (xs : List ℕ) → 1 ≤ length xs → first_free (sorted xs) ≡ least xs
unfolding sorted least
least-head [] some = absurd (omega arith)
least-head (x ∷ []) some = rw (insert-none x) refl
least-head (x ∷ y ∷ xs) some =
    insert-head x (sorted (y ∷ xs)) (sorted-some y xs) ∙ ap (λ n. min x n) (least-head (y ∷ xs) (omega arith))

-- a list without its first element
remove-head : (s : List ℕ) → 1 ≤ length s → remove_one (first_free s) s ≡ drop 1 s
remove-head [] some = absurd (omega arith)
remove-head (y ∷ ys) some = remove-here y ys

-- the least in the place of which another is put
sorted-with_first : (xs : List ℕ) (y : ℕ) → 1 ≤ length xs → least xs ≤ y
    → sorted (with_first (least xs) y xs) ≡ drop 1 (insert_sorted y (sorted xs))
sorted-with_first [] y some le = absurd (omega arith)
sorted-with_first (x ∷ xs) y some le =
    let head : first_free (insert_sorted y (sorted (x ∷ xs))) ≡ least (x ∷ xs) =
    insert-head y (sorted (x ∷ xs)) (sorted-some x xs)
    ∙ ap (λ n. min y n) (least-head (x ∷ xs) some) ∙ (let least_is : min y (least (x ∷ xs)) ≡ least (x ∷ xs) = omega arith in least_is) in
    sym (remove-insert (least (x ∷ xs)) (sorted (with_first (least (x ∷ xs)) y (x ∷ xs))))
    ∙ ap (remove_one (least (x ∷ xs))) (insert-with_first (least (x ∷ xs)) y (x ∷ xs) (least-has (x ∷ xs) some))
    ∙ ap (λ n. remove_one n (insert_sorted y (sorted (x ∷ xs)))) (sym head)
    ∙ remove-head (insert_sorted y (sorted (x ∷ xs))) (some-insert y (sorted (x ∷ xs)))

length-with_first : (x y : ℕ) (xs : List ℕ) → length (with_first x y xs) ≡ length xs
unfolding with_first
length-with_first x y [] = refl
length-with_first x y (z ∷ zs) =
    elim (cases_eq x z) [
      | inl same ↦ rw (eq-eqb x z same) refl
      | inr apart ↦ rw (ne_eqb x z apart) (ap suc (length-with_first x y zs))
    ]

-- when the servers are free after these requests
unfoldable free_in_turn : List ℕ → List Offer → List ℕ
free_in_turn free [] = free
free_in_turn free (offer ∷ offers) = free_in_turn (with_first (least free) (finish_on free offer) free) offers

finishes_in_turn-push : (free : List ℕ) (offers : List Offer) (offer : Offer)
    → finishes_in_turn free (offers ++ offer ∷ []) ≡ finishes_in_turn free offers ++ finish_on (free_in_turn free offers) offer ∷ []
unfolding finishes_in_turn free_in_turn
finishes_in_turn-push free [] offer = refl
finishes_in_turn-push free (first ∷ offers) offer =
    ap (λ fs. finish_on free first ∷ fs) (finishes_in_turn-push (with_first (least free) (finish_on free first) free) offers offer)

free_in_turn-push : (free : List ℕ) (offers : List Offer) (offer : Offer)
    → free_in_turn free (offers ++ offer ∷ [])
    ≡ with_first (least (free_in_turn free offers)) (finish_on (free_in_turn free offers) offer) (free_in_turn free offers)
unfolding free_in_turn
free_in_turn-push free [] offer = refl
free_in_turn-push free (first ∷ offers) offer = free_in_turn-push (with_first (least free) (finish_on free first) free) offers offer

record InTurn (n : ℕ) (requests : List Served) : Type 0 where
  pub finish : finishes requests ≡ finishes_in_turn (replicate n 0) (offers_served requests)
  pub free : sorted (free_in_turn (replicate n 0) (offers_served requests)) ≡ free_ticks n requests
  pub many : length (free_in_turn (replicate n 0) (offers_served requests)) ≡ n

sorted-same : (n : ℕ) → sorted (replicate n 0) ≡ replicate n 0
unfolding sorted
sorted-same zero = refl
sorted-same (suc zero) = insert-none 0
sorted-same (suc (suc n)) = rw (sorted-same (suc n)) (insert-front 0 0 (replicate n 0) (omega arith))

turn_none : (n : ℕ) → InTurn n []
unfolding finishes_in_turn free_in_turn
turn_none n = record { finish = refl; free = sorted-same n ∙ sym (free_ticks-none n); many = length-replicate {A = ℕ} n 0 }

turn_push : (n : ℕ) (requests : List Served) (offer : Offer) → 1 ≤ n → InTurn n requests → InTurn n (requests ++ Next n requests offer ∷ [])
turn_push n requests offer some turn =
    let request : Served = Next n requests offer in
    let free : List ℕ = free_in_turn (replicate n 0) (offers_served requests) in
    let here : 1 ≤ length free = omega (arith, turn.many) in
    let first : least free ≡ free_at n requests =
    sym (least-head free here) ∙ ap first_free turn.free ∙ sym (free_first n requests some) in
    let finish : finish_on free offer ≡ request.finish = ap (λ n. max n offer.tick + offer.service) first in
    let next : free_in_turn (replicate n 0) (offers_served requests ++ offer ∷ []) ≡ with_first (least free) (finish_on free offer) free =
    free_in_turn-push (replicate n 0) (offers_served requests) offer in
    record {
      finish = rw (finishes-push requests request, offers-push requests request)
          (ap (λ fs. fs ++ request.finish ∷ []) turn.finish
          ∙ ap (λ f. finishes_in_turn (replicate n 0) (offers_served requests) ++ f ∷ []) (sym finish)
          ∙ sym (finishes_in_turn-push (replicate n 0) (offers_served requests) offer));
      free = rw (offers-push requests request, next)
          (sorted-with_first free (finish_on free offer) here (omega arith)
          ∙ ap (λ f. drop 1 (insert_sorted f (sorted free))) finish
          ∙ ap (λ s. drop 1 (insert_sorted request.finish s)) turn.free
          ∙ sym (free_ticks-push n requests request));
      many = rw (offers-push requests request, next) (length-with_first (least free) (finish_on free offer) free ∙ turn.many);
    }

pub first_come_first_served : FirstComeFirstServed
first_come_first_served station offers pool some =
    (pool_keeps station pool (InTurn (servers_of station pool)) offers (turn_none (servers_of station pool))
    (λ requests offer turn. turn_push (servers_of station pool) requests offer some turn)).finish
