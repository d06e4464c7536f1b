-- How a queue and a heap hold the responses that aren't complete yet.
use Rattle.std.specs.Prelude.{◌≡◌, ℕ, ◌<◌, ◌≤◌, List, [], ◌∷◌, ◌++◌, map, if◌then◌else◌, Bool, false, Some, slice_get}
use Rattle.std.specs.declared.cmp.Ordering.{Ordering}
use Rattle.std.specs.Ordering.{nat_cmp, ordering_then, is_lt}
use Rattle.std.specs.BinaryHeap.{IsHeap}
use Rattle.std.specs.declared.cmp.Reverse.{Reverse}
use Rattle.admission.specs.declared.in_flight.Response.{Response}
use Rattle.admission.specs.Standing.{Due, Flight}

-- the first to be complete first, of two at one tick the one of the lower number
abbrev pub response_cmp : Response → Response → Ordering
response_cmp x y =
    ordering_then (nat_cmp x.completion y.completion)
    (ordering_then (nat_cmp x.number y.number) (nat_cmp x.sample y.sample))

abbrev pub is_after : Response → Response → Bool
is_after x y = is_lt (response_cmp y x)

unfoldable pub insert_response : Response → List Response → List Response
insert_response x [] = x ∷ []
insert_response x (y ∷ ys) = if is_after x y then (y ∷ insert_response x ys) else (x ∷ y ∷ ys)

-- these responses in that order
unfoldable pub in_order : List Response → List Response
in_order [] = []
in_order (x ∷ xs) = insert_response x (in_order xs)

abbrev pub responses_of : List (Reverse Response) → List Response
responses_of items = map (λ r. r.0) items

-- what a contract sees of one
abbrev pub due_of : Response → Due
due_of response = record { completion = response.completion; sample = response.sample }

-- of those in the queue and those in the heap
abbrev pub flight_of : ℕ → List Response → List (Reverse Response) → Flight
flight_of admitted queue items =
    record { admitted = admitted; responses = map due_of (in_order (queue ++ responses_of items)) }

-- each of these has a lower number
unfoldable pub AllNumbered : ℕ → List Response → Type 0
AllNumbered n [] = Unit {0}
AllNumbered n (x ∷ xs) = (x.number < n) × AllNumbered n xs

-- none of these comes before x
unfoldable pub AllAfter : Response → List Response → Type 0
AllAfter x [] = Unit {0}
AllAfter x (y ∷ ys) = (is_after x y ≡ false) × AllAfter x ys

-- each of these was admitted, is complete by then, and comes before those behind it
unfoldable pub IsQueue : ℕ → ℕ → List Response → Type 0
IsQueue admitted latest [] = Unit {0}
IsQueue admitted latest (x ∷ xs) =
    (x.number < admitted) × (x.completion ≤ latest) × AllAfter x xs × IsQueue admitted latest xs

-- the first to be complete stands on top of the heap, and the numbers are those of the requests that were admitted
pub record IsFlight (admitted latest : ℕ) (queue : List Response) (items : List (Reverse Response)) : Type 0 where
  pub order : IsHeap (λ (x y : Reverse Response). response_cmp y.0 x.0) items
  pub queued : IsQueue admitted latest queue
  pub numbers : AllNumbered admitted (in_order (queue ++ responses_of items))

-- x is the first of the queue, and none of the heap comes before it
abbrev pub Leads : List Response → List (Reverse Response) → Response → Type 0
Leads queue items x = (rest : List Response) × (queue ≡ x ∷ rest) × AllAfter x (responses_of items)

-- the first of the queue, where there is one, doesn't come before the heap's
abbrev pub Follows : List Response → List (Reverse Response) → Type 0
Follows queue items = (x : Response) (rest : List Response) → queue ≡ x ∷ rest
    → (top : Reverse Response) × (slice_get items 0 ≡ Some top) × (is_after top.0 x ≡ false)
