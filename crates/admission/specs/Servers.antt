-- The servers one by one, and a single one.
use Rattle.std.specs.Prelude.{◌≡◌, ℕ, ◌+◌, ◌-◌, ◌*◌, ◌<◌, ◌≤◌, min, max, List, [], ◌∷◌, ◌++◌, length, map, drop}
use Rattle.std.specs.Prelude.{replicate, sum_by, nat_eq, nat_le, slice_index_or, if◌then◌else◌}
use Rattle.std.specs.List.{prefix_len}
use Rattle.admission.specs.declared.policy.PolicyNumbers.{PolicyNumbers}
use Rattle.admission.specs.Reference.{Station, rules_of, servers_of, Offer, Served, of_tier, served, of_pool, finishes}
use Rattle.admission.specs.Reference.{sorted, finish_in, done, by_completion, control_at, decided}
use Rattle.admission.specs.Pools.{AreOfPool}
use Rattle.std.specs.Ordering.{nat_cmp}
use Rattle.std.specs.BinaryHeap.{IsHeap}
use Rattle.std.specs.declared.cmp.Reverse.{Reverse}
use Rattle.admission.specs.Standing.{AllFrom}

-- How a heap holds when the servers but the first one are free.

abbrev pub ticks_of : List (Reverse ℕ) → List ℕ
ticks_of items = map (λ r. r.0) items

-- the least stands on top
abbrev pub IsOrdered : List (Reverse ℕ) → Type 0
IsOrdered items = IsHeap (λ (x y : Reverse ℕ). nat_cmp y.0 x.0) items

-- the others are free no sooner than the first, and where there are some the heap has room for one more
pub record AreOthers (first : ℕ) (items : List (Reverse ℕ)) (len capacity : ℕ) : Type 0 where
  pub order : IsOrdered items
  pub later : AllFrom first (ticks_of items)
  pub room : 1 ≤ len → len < capacity

-- when each of n servers is free, the first to be free first: the n greatest of the finishes, and 0 for each server
-- that none is left for
unfoldable pub free_ticks : ℕ → List Served → List ℕ
free_ticks n requests = drop (length requests) (sorted (replicate n 0 ++ finishes requests))

-- ---- first come, first served

-- the least of these ticks, 0 of none
unfoldable pub least : List ℕ → ℕ
least [] = 0
least (x ∷ []) = x
least (x ∷ y ∷ xs) = min x (least (y ∷ xs))

-- with y in the place of the first x
unfoldable pub with_first : ℕ → ℕ → List ℕ → List ℕ
with_first x y [] = []
with_first x y (z ∷ zs) = if nat_eq x z then (y ∷ zs) else (z ∷ with_first x y zs)

-- the request's finish, where the servers are free at these ticks, and it is served by the first that is free
abbrev pub finish_on : List ℕ → Offer → ℕ
finish_on free offer = max (least free) offer.tick + offer.service

-- the finishes of these requests, each of which is served by the first server that is free, in their order
unfoldable pub finishes_in_turn : List ℕ → List Offer → List ℕ
finishes_in_turn free [] = []
finishes_in_turn free (offer ∷ offers) =
    finish_on free offer ∷ finishes_in_turn (with_first (least free) (finish_on free offer) free) offers

abbrev pub offers_served : List Served → List Offer
offers_served requests = map (λ r. r.offer) requests

-- the admitted requests of a pool are finished as if each was served by the first of its servers that was free
abbrev pub FirstComeFirstServed : Type 0
FirstComeFirstServed = (station : Station) (offers : List Offer) (pool : ℕ) → 1 ≤ servers_of station pool
    → finishes (of_pool pool (served (decided station offers)))
    ≡ finishes_in_turn (replicate (servers_of station pool) 0)
    (offers_served (of_pool pool (served (decided station offers))))

-- ---- one server

-- when the last of these requests is finished by one server: the greatest, over each of them, of its arrival and the
-- services from it on (Lindley)
unfoldable pub last_finish : List Offer → ℕ
last_finish [] = 0
last_finish (offer ∷ offers) = max (offer.tick + sum_by (λ o. o.service) (offer ∷ offers)) (last_finish offers)

-- the finish of a request in a pool of one server, after those that it was offered
abbrev pub OneServerFinishes : Type 0
OneServerFinishes = (station : Station) (offers : List Offer) (offer : Offer) → servers_of station offer.pool ≡ 1
    → finish_in station (served (decided station offers)) offer
    ≡ last_finish (offers_served (of_pool offer.pool (served (decided station offers))) ++ offer ∷ [])

-- the admitted requests of this tier
abbrev pub own_served : Station → List Offer → ℕ → List Served
own_served station offers tier = served (of_tier tier (decided station offers))

-- none of these offers has a delay
unfoldable pub HaveNoDelay : List Offer → Type 0
HaveNoDelay [] = Unit {0}
HaveNoDelay (offer ∷ offers) = (offer.delay ≡ 0) × HaveNoDelay offers

-- requests whose responses are complete in their order, each at its finish: as many are complete as of the first have a
-- finish up to a tick, and a control stands at the finish of the last of its requests
pub record AreInOrder (rules : PolicyNumbers) (requests : List Served) (tick k : ℕ) : Type 0 where
  pub order : by_completion requests ≡ requests
  pub complete : done requests tick ≡ prefix_len (λ finish. nat_le finish tick) (finishes requests)
  pub instant : (control_at rules requests k).instant ≡ slice_index_or (finishes requests) (k * rules.every - 1) 0

-- so are the requests of a tier where all are of one pool of one server, and none has a delay
abbrev pub OneServerInOrder : Type 0
OneServerInOrder = (station : Station) (offers : List Offer) (pool tier tick k : ℕ)
    → servers_of station pool ≡ 1 → AreOfPool pool offers → HaveNoDelay offers
    → AreInOrder (rules_of station tier) (own_served station offers tier) tick k
