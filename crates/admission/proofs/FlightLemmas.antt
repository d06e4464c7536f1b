-- The responses in a heap, the first to be complete on top.
use Rattle.std.proofs.Common.{◌≡◌, ℕ, zero, suc, ◌+◌, ◌<◌, ◌≤◌, List, [], ◌∷◌, ◌++◌, append_assoc, length, drop, map, true, false, refl, sym, ◌∙◌, ap, arith, rules, Some, slice_get, inl, inr, if◌then◌else◌}
use Rattle.std.specs.Prelude.{◌⊎◌, None, Option, IfSome, IfNone}
use Rattle.std.specs.declared.cmp.Ordering.{Ordering}
use Rattle.std.specs.declared.cmp.Ordering.TheVariants.{Less, Equal, Greater}
use Rattle.std.specs.Ordering.{nat_cmp, ordering_then, is_lt}
use Rattle.std.specs.BinaryHeap.{IsHeap, IsUpperBound}
use Rattle.std.specs.List.Sorted.{IsPermutation}
use Rattle.std.specs.List as list
use Rattle.std.specs.declared.cmp.Reverse.{Reverse}
use Rattle.std.proofs.lemmas.Bool.{cases_Bool, cases_lt, cases_order, lt-ltb, le-ltb, eq-eqb, ne_eqb}
use Rattle.std.proofs.lemmas.List.Edits.{swap_is}
use Rattle.std.proofs.lemmas.List.Sorted.{length_permutation, IsPermutation-keeps, IsPermutation-map, IsPermutation-refl, IsPermutation-sym, IsPermutation-append_right, IsPermutation-middle}
use lib.ListN.{get_or, set}
use Rattle.admission.specs.declared.in_flight.Response.{Response}
use Rattle.admission.specs.Standing.{Due, Flight, completions, AllFrom, insert_due, with_response}
use Rattle.admission.specs.InFlight.{response_cmp, is_after, insert_response, in_order, responses_of, due_of, flight_of, AllNumbered, AllAfter, IsQueue, IsFlight, Leads, Follows}

-- ---- the order

cmp-lt : (a b : ℕ) → a < b → nat_cmp a b ≡ Less
cmp-lt a b lt = rw (lt-ltb a b lt) refl

cmp-eq : (a b : ℕ) → a ≡ b → nat_cmp a b ≡ Equal
cmp-eq a b same = rw (le-ltb a b (omega arith), eq-eqb a b same) refl

cmp-gt : (a b : ℕ) → b < a → nat_cmp a b ≡ Greater
cmp-gt a b lt = rw (le-ltb a b (omega arith), ne_eqb a b (omega arith)) refl

-- by three numbers, each of which counts where those before it are the same
abbrev Below : ℕ → ℕ → ℕ → ℕ → ℕ → ℕ → Type 0
Below a b c d e f = (a < d) ⊎ ((a ≡ d) × ((b < e) ⊎ ((b ≡ e) × (c < f))))

abbrev lex : ℕ → ℕ → ℕ → ℕ → ℕ → ℕ → Ordering
lex a b c d e f = ordering_then (nat_cmp a d) (ordering_then (nat_cmp b e) (nat_cmp c f))

-- what the order says
record Ranks (a b c d e f : ℕ) : Type 0 where
  pub yes : is_lt (lex a b c d e f) ≡ true → Below a b c d e f
  pub no : is_lt (lex a b c d e f) ≡ false → Below a b c d e f → ⊥

ranks_yes : (a b c d e f : ℕ) → is_lt (lex a b c d e f) ≡ true → Below a b c d e f → Ranks a b c d e f
ranks_yes a b c d e f is below = record { yes = λ same. below; no = λ no below. let both : false ≡ true = sym no ∙ is in absurd (cc) }

ranks_no : (a b c d e f : ℕ) → is_lt (lex a b c d e f) ≡ false → (Below a b c d e f → ⊥) → Ranks a b c d e f
ranks_no a b c d e f is none = record { yes = λ yes. let both : false ≡ true = sym is ∙ yes in absurd (cc); no = λ no below. none below }

ranks : (a b c d e f : ℕ) → Ranks a b c d e f
ranks a b c d e f =
    elim (cases_order a d) [
      | inl one ↦ elim (cases_order b e) [
        | inl two ↦ elim (cases_lt c f) [
          | inl lt ↦ ranks_yes a b c d e f (rw (cmp-eq a d one, cmp-eq b e two, cmp-lt c f lt) refl) (inr (one, inr (two, lt)))
          | inr ge ↦ elim (cases_order c f) [
            | inl three ↦ ranks_no a b c d e f (rw (cmp-eq a d one, cmp-eq b e two, cmp-eq c f three) refl)
                (λ below. elim below [ inl lt ↦ omega arith | inr more ↦ elim more.1 [ inl lt ↦ omega arith | inr last ↦ omega (arith, last.1) ] ])
            | inr apart ↦ elim apart [
              | inl lt ↦ absurd (omega arith)
              | inr gt ↦ ranks_no a b c d e f (rw (cmp-eq a d one, cmp-eq b e two, cmp-gt c f gt) refl)
                  (λ below. elim below [ inl lt ↦ omega arith | inr more ↦ elim more.1 [ inl lt ↦ omega arith | inr last ↦ omega (arith, last.1) ] ])
            ]
          ]
        ]
        | inr apart ↦ elim apart [
          | inl lt ↦ ranks_yes a b c d e f (rw (cmp-eq a d one, cmp-lt b e lt) refl) (inr (one, inl lt))
          | inr gt ↦ ranks_no a b c d e f (rw (cmp-eq a d one, cmp-gt b e gt) refl)
              (λ below. elim below [ inl lt ↦ omega arith | inr more ↦ elim more.1 [ inl lt ↦ omega arith | inr last ↦ omega (arith, last.0) ] ])
        ]
      ]
      | inr apart ↦ elim apart [
        | inl lt ↦ ranks_yes a b c d e f (rw (cmp-lt a d lt) refl) (inl lt)
        | inr gt ↦ ranks_no a b c d e f (rw (cmp-gt a d gt) refl)
            (λ below. elim below [ inl lt ↦ omega arith | inr more ↦ omega (arith, more.0) ])
      ]
    ]

-- y comes before x
abbrev IsBelow : Response → Response → Type 0
IsBelow y x = Below y.completion y.number y.sample x.completion x.number x.sample

after-yes : (x y : Response) → is_after x y ≡ true → IsBelow y x
after-yes x y is = (ranks y.completion y.number y.sample x.completion x.number x.sample).yes is

after-no : (x y : Response) → is_after x y ≡ false → IsBelow y x → ⊥
after-no x y is below = (ranks y.completion y.number y.sample x.completion x.number x.sample).no is below

after-from : (x y : Response) → IsBelow y x → is_after x y ≡ true
after-from x y below =
    elim (cases_Bool (is_after x y)) [ inl is ↦ is | inr none ↦ absurd (after-no x y none below) ]

after-none : (x y : Response) → (IsBelow y x → ⊥) → is_after x y ≡ false
after-none x y none =
    elim (cases_Bool (is_after x y)) [ inl is ↦ absurd (none (after-yes x y is)) | inr isnt ↦ isnt ]

below-back : (x y : Response) → IsBelow y x → IsBelow x y → ⊥
below-back x y one two =
    elim one [
      | inl a ↦ elim two [ inl b ↦ omega arith | inr b ↦ omega (arith, b.0) ]
      | inr a ↦ elim two [
        | inl b ↦ omega (arith, a.0)
        | inr b ↦ elim a.1 [
          | inl c ↦ elim b.1 [ inl d ↦ omega arith | inr d ↦ omega (arith, d.0) ]
          | inr c ↦ elim b.1 [ inl d ↦ omega (arith, c.0) | inr d ↦ omega (arith, c.1, d.1) ]
        ]
      ]
    ]

after-back : (x y : Response) → is_after x y ≡ true → is_after y x ≡ false
after-back x y is = after-none y x (λ below. below-back x y (after-yes x y is) below)

after-itself : (x : Response) → is_after x x ≡ false
after-itself x = after-none x x (λ below. below-back x x below below)

below-then : (x y z : Response) → IsBelow x y → IsBelow y z → IsBelow x z
below-then x y z one two =
    elim one [
      | inl a ↦ elim two [ inl b ↦ inl (omega arith) | inr b ↦ inl (omega (arith, b.0)) ]
      | inr a ↦ elim two [
        | inl b ↦ inl (omega (arith, a.0))
        | inr b ↦
            let first : x.completion ≡ z.completion = a.0 ∙ b.0 in
            elim a.1 [
              | inl c ↦ elim b.1 [ inl d ↦ inr (first, inl (omega arith)) | inr d ↦ inr (first, inl (omega (arith, d.0))) ]
              | inr c ↦ elim b.1 [
                | inl d ↦ inr (first, inl (omega (arith, c.0)))
                | inr d ↦ inr (first, inr (c.0 ∙ d.0, omega (arith, c.1, d.1)))
              ]
            ]
      ]
    ]

response-parts : (x y : Response) → x.completion ≡ y.completion → x.number ≡ y.number → x.sample ≡ y.sample → x ≡ y
response-parts x y completion number sample =
    let parts : ℕ → ℕ → ℕ → Response = λ c n s. record { completion = c; number = n; sample = s } in
    let by_parts : parts x.completion x.number x.sample ≡ parts y.completion y.number y.sample = cc in
    by_parts

-- one of the two comes before the other, or they are the same
in_order_of : (x y : Response) → IsBelow x y ⊎ ((x ≡ y) ⊎ IsBelow y x)
in_order_of x y =
    elim (cases_order x.completion y.completion) [
      | inl one ↦ elim (cases_order x.number y.number) [
        | inl two ↦ elim (cases_order x.sample y.sample) [
          | inl three ↦ inr (inl (response-parts x y one two three))
          | inr apart ↦ elim apart [
            | inl lt ↦ inl (inr (one, inr (two, lt)))
            | inr gt ↦ inr (inr (inr (sym one, inr (sym two, gt))))
          ]
        ]
        | inr apart ↦ elim apart [ inl lt ↦ inl (inr (one, inl lt)) | inr gt ↦ inr (inr (inr (sym one, inl gt))) ]
      ]
      | inr apart ↦ elim apart [ inl lt ↦ inl (inl lt) | inr gt ↦ inr (inr (inl gt)) ]
    ]

-- x comes no later than y
upto : (x y : Response) → is_after x y ≡ false → IsBelow x y ⊎ (x ≡ y)
upto x y isnt =
    elim (in_order_of x y) [
      | inl below ↦ inl below
      | inr more ↦ elim more [ inl same ↦ inr same | inr above ↦ absurd (after-no x y isnt above) ]
    ]

same-from : (x y : Response) → is_after x y ≡ false → is_after y x ≡ false → x ≡ y
same-from x y one two =
    elim (upto x y one) [ inl below ↦ absurd (after-no y x two below) | inr same ↦ same ]

after-then : (x y z : Response) → is_after x y ≡ false → is_after y z ≡ false → is_after x z ≡ false
after-then x y z one two =
    elim (upto x y one) [
      | inl below ↦ elim (upto y z two) [
        | inl more ↦ after-none x z (λ back. below-back x z back (below-then x y z below more))
        | inr same ↦ rw (← same) one
      ]
      | inr same ↦ rw same two
    ]

-- ---- insertion

insert-none : (x : Response) → insert_response x [] ≡ x ∷ []
unfolding insert_response
insert-none x = refl

insert-front : (x y : Response) (ys : List Response) → is_after x y ≡ false → insert_response x (y ∷ ys) ≡ x ∷ y ∷ ys
unfolding insert_response
insert-front x y ys isnt = rw isnt refl

insert-past : (x y : Response) (ys : List Response) → is_after x y ≡ true → insert_response x (y ∷ ys) ≡ y ∷ insert_response x ys
unfolding insert_response
insert-past x y ys is = rw is refl

swap-below : (x y : Response) (s : List Response) → is_after x y ≡ false → is_after y x ≡ true
    → insert_response x (insert_response y s) ≡ insert_response y (insert_response x s)
swap-below x y [] one two =
    rw (insert-none y, insert-none x, insert-front x y [] one, insert-past y x [] two, insert-none y) refl
swap-below x y (z ∷ s) one two =
    elim (cases_Bool (is_after y z)) [
      | inl past_y ↦ elim (cases_Bool (is_after x z)) [
        | inl past_x ↦
            rw (
              insert-past y z s past_y,
              insert-past x z s past_x,
              insert-past x z (insert_response y s) past_x,
              insert-past y z (insert_response x s) past_y,
              swap-below x y s one two,
            ) refl
        | inr front_x ↦
            rw (
              insert-past y z s past_y,
              insert-front x z s front_x,
              insert-front x z (insert_response y s) front_x,
              insert-past y x (z ∷ s) two,
              insert-past y z s past_y,
            ) refl
      ]
      | inr front_y ↦
          let front_x : is_after x z ≡ false = after-then x y z one front_y in
          rw (
            insert-front y z s front_y,
            insert-front x z s front_x,
            insert-front x y (z ∷ s) one,
            insert-past y x (z ∷ s) two,
            insert-front y z s front_y,
          ) refl
    ]

-- two insertions may change places
insert-swap : (x y : Response) (s : List Response) → insert_response x (insert_response y s) ≡ insert_response y (insert_response x s)
insert-swap x y s =
    elim (cases_Bool (is_after x y)) [
      | inl above ↦ sym (swap-below y x s (after-back x y above) above)
      | inr upto_y ↦ elim (cases_Bool (is_after y x)) [
        | inl above ↦ swap-below x y s upto_y above
        | inr upto_x ↦ rw (same-from x y upto_y upto_x) refl
      ]
    ]

-- what was inserted can be taken out
unfoldable without : Response → List Response → List Response
without x [] = []
without x (y ∷ ys) = if is_after x y then (y ∷ without x ys) else ys

without-insert : (x : Response) (s : List Response) → without x (insert_response x s) ≡ s
unfolding without
without-insert x [] = rw (insert-none x, after-itself x) refl
without-insert x (y ∷ s) =
    elim (cases_Bool (is_after x y)) [
      | inl past ↦ rw (insert-past x y s past, past, without-insert x s) refl
      | inr front ↦ rw (insert-front x y s front, after-itself x) refl
    ]

-- ---- another order

insert-set : (xs : List Response) (i : ℕ) (y d : Response) → i < length xs
    → insert_response (get_or xs i d) (in_order (set xs i y)) ≡ insert_response y (in_order xs)
unfolding in_order
insert-set [] i y d h = let none : ⊥ = omega (arith, h) in elim none [ ]
insert-set (x ∷ xs) zero y d h = insert-swap x y (in_order xs)
insert-set (x ∷ xs) (suc i) y d h =
    rw (insert-swap (get_or xs i d) x (in_order (set xs i y)), insert-set xs i y d (omega (arith, h))) (insert-swap x y (in_order xs))

insert-once : (x : Response) (s t : List Response) → insert_response x s ≡ insert_response x t → s ≡ t
insert-once x s t h = sym (without-insert x s) ∙ ap (without x) h ∙ without-insert x t

in_order-swap : (xs : List Response) (d : Response) (i j : ℕ) → i < length xs → j < length xs → in_order (list.swap xs i j) ≡ in_order xs
in_order-swap xs d i j hi hj =
    let x = get_or xs i d in
    let y = get_or xs j d in
    let once = set xs i y in
    let first : insert_response x (in_order once) ≡ insert_response y (in_order xs) = insert-set xs i y d hi in
    let second : insert_response (get_or once j d) (in_order (set once j x)) ≡ insert_response x (in_order once) =
    insert-set once j x d (search (rules, hj)) in
    let there : get_or once j d ≡ y = search (rules, hi, hj) in
    rw (sym (swap_is xs i j d hi hj)) (insert-once y _ _ ((rw there at second) ∙ first))

-- the same responses are in one order
in_order-permutation : (xs ys : List Response) → IsPermutation xs ys → in_order ys ≡ in_order xs
in_order-permutation xs ys moved =
    let d : Response = record { completion = 0; number = 0; sample = 0 } in
    IsPermutation-keeps xs (λ l. in_order l ≡ in_order xs) refl (λ l i j hi hj h. in_order-swap l d i j hi hj ∙ h) ys moved

heap-permutation : (queue : List Response) (xs ys : List (Reverse Response)) → IsPermutation xs ys
    → in_order (queue ++ responses_of ys) ≡ in_order (queue ++ responses_of xs)
heap-permutation queue xs ys moved =
    in_order-permutation (queue ++ responses_of xs) (queue ++ responses_of ys)
    (IsPermutation-append_right queue (responses_of xs) (responses_of ys) (IsPermutation-map (λ (r : Reverse Response). r.0) xs ys moved))

order-middle : (x : Response) (xs ys : List Response) → in_order (xs ++ x ∷ ys) ≡ in_order (x ∷ (xs ++ ys))
order-middle x xs ys =
    in_order-permutation (x ∷ (xs ++ ys)) (xs ++ x ∷ ys)
    (IsPermutation-sym (xs ++ x ∷ ys) (x ∷ (xs ++ ys)) (IsPermutation-middle xs x ys))

-- ---- the first of them

all-bound : (x : Reverse Response) (items : List (Reverse Response))
    → IsUpperBound (λ (x y : Reverse Response). response_cmp y.0 x.0) x items → AllAfter x.0 (responses_of items)
unfolding AllAfter
all-bound x [] bound = tt
all-bound x (y ∷ items) bound = (bound.0, all-bound x items bound.1)

all-insert : (x y : Response) (ys : List Response) → is_after x y ≡ false → AllAfter x ys → AllAfter x (insert_response y ys)
unfolding AllAfter
all-insert x y [] upto all = rw (insert-none y) (upto, tt)
all-insert x y (z ∷ zs) upto all =
    elim (cases_Bool (is_after y z)) [
      | inl past ↦ rw (insert-past y z zs past) (all.0, all-insert x y zs upto all.1)
      | inr front ↦ rw (insert-front y z zs front) (upto, all)
    ]

all-order : (x : Response) (xs : List Response) → AllAfter x xs → AllAfter x (in_order xs)
unfolding AllAfter in_order
all-order x [] all = tt
all-order x (y ∷ ys) all = all-insert x y (in_order ys) all.0 (all-order x ys all.1)

insert-first : (x : Response) (xs : List Response) → AllAfter x xs → insert_response x xs ≡ x ∷ xs
unfolding AllAfter
insert-first x [] all = insert-none x
insert-first x (y ∷ ys) all = insert-front x y ys all.0

order-cons : (x : Response) (xs : List Response) → in_order (x ∷ xs) ≡ insert_response x (in_order xs)
unfolding in_order
order-cons x xs = refl

order-none : in_order [] ≡ []
unfolding in_order
order-none = refl

first-order : (x : Response) (xs : List Response) → AllAfter x xs → in_order (x ∷ xs) ≡ x ∷ in_order xs
first-order x xs all = order-cons x xs ∙ insert-first x (in_order xs) (all-order x xs all)

-- it is complete no later than the others
after-completion : (x y : Response) → is_after x y ≡ false → x.completion ≤ y.completion
after-completion x y isnt =
    elim (cases_lt y.completion x.completion) [ inl lt ↦ absurd (after-no x y isnt (inl lt)) | inr le ↦ le ]

from-after : (x : Response) (xs : List Response) → AllAfter x xs → AllFrom x.completion (completions (map due_of xs))
unfolding AllAfter AllFrom
from-after x [] all = tt
from-after x (y ∷ ys) all = (after-completion x y all.0, from-after x ys all.1)

-- ---- one more of a higher number

numbered-insert : (n : ℕ) (x : Response) (xs : List Response) → x.number < n → AllNumbered n xs → AllNumbered n (insert_response x xs)
unfolding AllNumbered
numbered-insert n x [] below all = rw (insert-none x) (below, tt)
numbered-insert n x (y ∷ ys) below all =
    elim (cases_Bool (is_after x y)) [
      | inl past ↦ rw (insert-past x y ys past) (all.0, numbered-insert n x ys below all.1)
      | inr front ↦ rw (insert-front x y ys front) (below, all)
    ]

numbered-higher : (n m : ℕ) (xs : List Response) → n ≤ m → AllNumbered n xs → AllNumbered m xs
unfolding AllNumbered
numbered-higher n m [] le all = tt
numbered-higher n m (x ∷ xs) le all = (omega (arith, all.0), numbered-higher n m xs le all.1)

numbered-rest : (n : ℕ) (x : Response) (xs : List Response) → AllNumbered n (x ∷ xs) → AllNumbered n xs
unfolding AllNumbered
numbered-rest n x xs all = all.1

-- it goes behind those that are complete at the same tick
due-insert : (x : Response) (xs : List Response) → AllNumbered x.number xs
    → map due_of (insert_response x xs) ≡ insert_due (due_of x) (map due_of xs)
unfolding AllNumbered insert_due
due-insert x [] all = rw (insert-none x) refl
due-insert x (y ∷ ys) all =
    elim (cases_lt x.completion y.completion) [
      | inl lt ↦
          let front : is_after x y ≡ false = after-none x y (λ below. elim below [ inl b ↦ omega arith | inr b ↦ omega (arith, b.0) ]) in
          rw (insert-front x y ys front, lt-ltb x.completion y.completion lt) refl
      | inr ge ↦
          let below : IsBelow y x = elim (cases_lt y.completion x.completion) [
            | inl lt ↦ inl lt
            | inr le ↦ inr (omega arith, inl (omega (arith, all.0)))
          ] in
          rw (insert-past x y ys (after-from x y below), le-ltb x.completion y.completion ge)
          (ap (λ (ds : List Due). due_of y ∷ ds) (due-insert x ys all.1))
    ]

all-append : (x : Response) (xs ys : List Response) → AllAfter x xs → AllAfter x ys → AllAfter x (xs ++ ys)
unfolding AllAfter
all-append x [] ys first more = more
all-append x (y ∷ xs) ys first more = (first.0, all-append x xs ys first.1 more)

all-then : (x y : Response) (ys : List Response) → is_after x y ≡ false → AllAfter y ys → AllAfter x ys
unfolding AllAfter
all-then x y [] upto all = tt
all-then x y (z ∷ zs) upto all = (after-then x y z upto all.0, all-then x y zs upto all.1)

-- ---- the queue

queue_more : (n latest : ℕ) (xs : List Response) → IsQueue n latest xs → IsQueue (n + 1) latest xs
unfolding IsQueue
queue_more n latest [] queue = tt
queue_more n latest (x ∷ xs) queue = (omega (arith, queue.0), queue.1, queue.2, queue_more n latest xs queue.3)

queue_push : (latest : ℕ) (y : Response) (xs : List Response) → IsQueue y.number latest xs → latest ≤ y.completion
    → IsQueue (y.number + 1) y.completion (xs ++ y ∷ [])
unfolding IsQueue AllAfter
queue_push latest y [] queue later = (omega arith, omega arith, tt, tt)
queue_push latest y (x ∷ xs) queue later =
    let upto : is_after x y ≡ false = after-none x y
    (λ below. elim below [
      | inl b ↦ omega (arith, b, queue.1, later)
      | inr b ↦ elim b.1 [ inl c ↦ omega (arith, c, queue.0) | inr c ↦ omega (arith, c.0, queue.0) ]
    ]) in (
      omega (arith, queue.0),
      omega (arith, queue.1, later),
      all-append x xs (y ∷ []) queue.2 (upto, tt),
      queue_push latest y xs queue.3 later,
    )

queue_rest : (n latest : ℕ) (x : Response) (xs : List Response) → IsQueue n latest (x ∷ xs) → IsQueue n latest xs
unfolding IsQueue
queue_rest n latest x xs queue = queue.3

queue_after : (n latest : ℕ) (x : Response) (xs : List Response) → IsQueue n latest (x ∷ xs) → AllAfter x xs
unfolding IsQueue
queue_after n latest x xs queue = queue.2

pub queue_none : (n latest : ℕ) (queue : List Response) → queue ≡ [] → IsQueue n latest queue
unfolding IsQueue
queue_none n latest queue none = rw none tt

-- ---- what a contract sees

abbrev pub HasTop : Reverse Response → List (Reverse Response) → Type 0
HasTop x items = IsUpperBound (λ (x y : Reverse Response). response_cmp y.0 x.0) x items

abbrev pub Order : List (Reverse Response) → Type 0
Order items = IsHeap (λ (x y : Reverse Response). response_cmp y.0 x.0) items

top_at : (items : List (Reverse Response)) (x : Reverse Response) → 0 < length items → x ≡ get_or items 0 x → slice_get items 0 ≡ Some x
top_at [] x some at = absurd (omega arith)
top_at (y ∷ items) x some at = ap (λ (r : Reverse Response). Some r) (sym at)

queue_parts : (queue : List Response) (x : Response) → 0 < length queue → x ≡ get_or queue 0 x → queue ≡ x ∷ drop 1 queue
queue_parts [] x some at = absurd (omega arith)
queue_parts (y ∷ queue) x some at = ap (λ (r : Response). r ∷ queue) (sym at)

-- which of the two comes first
pub leads_alone : (queue : List Response) (items : List (Reverse Response)) (x : Response) → 0 < length queue → x ≡ get_or queue 0 x
    → length items ≡ 0 → Leads queue items x
unfolding AllAfter
leads_alone queue [] x some at none = (drop 1 queue, queue_parts queue x some at, tt)
leads_alone queue (y ∷ items) x some at none = absurd (omega (arith, none))

pub leads_top : (queue : List Response) (items : List (Reverse Response)) (x : Response) (top : Reverse Response) → 0 < length queue
    → x ≡ get_or queue 0 x → HasTop top items → is_after top.0 x ≡ true → Leads queue items x
leads_top queue items x top some at bound before = (
  drop 1 queue,
  queue_parts queue x some at,
  all-then x top.0 (responses_of items) (after-back top.0 x before) (all-bound top items bound),
)

pub follows_none : (queue : List Response) (items : List (Reverse Response)) → length queue ≡ 0 → Follows queue items
follows_none queue items none x rest is =
    let long : length queue ≡ length (x ∷ rest) = ap (λ (rs : List Response). length rs) is in absurd (omega (arith, none, long))

same_first : (x y : Response) (xs ys : List Response) → x ∷ xs ≡ y ∷ ys → x ≡ y
same_first x y xs ys same = cc

pub follows_top : (queue : List Response) (items : List (Reverse Response)) (x : Response) (top : Reverse Response) → 0 < length queue
    → x ≡ get_or queue 0 x → 0 < length items → top ≡ get_or items 0 top → is_after top.0 x ≡ false → Follows queue items
follows_top queue items x top some at any there upto y rest is =
    let same : x ≡ y = same_first x y (drop 1 queue) rest (sym (queue_parts queue x some at) ∙ is) in
    (top, top_at items top any there, rw (← same) upto)

same_top : (x y : Reverse Response) → Some x ≡ Some y → x ≡ y
same_top x y same = cc

follows_all : (n latest : ℕ) (x : Reverse Response) (queue : List Response) (items : List (Reverse Response)) → IsQueue n latest queue
    → Follows queue items → slice_get items 0 ≡ Some x → AllAfter x.0 queue
unfolding AllAfter
follows_all n latest x [] items queue follows at = tt
follows_all n latest x (y ∷ rest) items queue follows at =
    let top = follows y rest refl in
    let same : top.0 ≡ x = same_top top.0 x (sym top.1 ∙ at) in
    let upto : is_after x.0 y ≡ false = rw (← same) top.2 in
    (upto, all-then x.0 y rest upto (queue_after n latest y rest queue))

none_left : (queue : List Response) (items : List (Reverse Response)) → Follows queue items → length items ≡ 0
    → in_order (queue ++ responses_of items) ≡ []
none_left [] [] follows none = order-none
none_left queue (x ∷ items) follows none = absurd (omega (arith, none))
none_left (y ∷ rest) [] follows none =
    let top = follows y rest refl in
    let at : slice_get [] 0 ≡ Some top.0 = top.1 in absurd (cc)

-- the first of all of them
record IsFirst (x : Response) (all rest : List Response) : Type 0 where
  pub order : in_order all ≡ x ∷ in_order rest
  pub after : AllAfter x rest

first_queued : (n latest : ℕ) (x : Response) (queue rest : List Response) (items : List (Reverse Response)) → IsQueue n latest queue
    → queue ≡ x ∷ rest → AllAfter x (responses_of items) → IsFirst x (queue ++ responses_of items) (rest ++ responses_of items)
first_queued n latest x queue rest items queued is more =
    let after : AllAfter x (rest ++ responses_of items) =
    all-append x rest (responses_of items) (queue_after n latest x rest (rw is at queued)) more in
    record { order = rw is (first-order x (rest ++ responses_of items) after); after = after }

first_popped : (x : Reverse Response) (queue : List Response) (old new : List (Reverse Response)) → IsPermutation old (x ∷ new)
    → HasTop x new → AllAfter x.0 queue → IsFirst x.0 (queue ++ responses_of old) (queue ++ responses_of new)
first_popped x queue old new moved bound behind =
    let after : AllAfter x.0 (queue ++ responses_of new) =
    all-append x.0 queue (responses_of new) behind (all-bound x new bound) in
    record {
      order = sym (heap-permutation queue old (x ∷ new) moved) ∙ order-middle x.0 queue (responses_of new)
          ∙ first-order x.0 (queue ++ responses_of new) after;
      after = after;
    }

first_on_top : (x : Reverse Response) (queue : List Response) (items : List (Reverse Response)) → 0 < length items
    → x ≡ get_or items 0 x → HasTop x items → AllAfter x.0 queue
    → IsFirst x.0 (queue ++ responses_of items) (queue ++ responses_of (drop 1 items))
first_on_top x queue [] some at bound behind = absurd (omega arith)
first_on_top x queue (y ∷ items) some at bound behind =
    let all : HasTop x items = bound.1 in
    rw (← at) (first_popped x queue (x ∷ items) items (IsPermutation-refl (x ∷ items)) all behind)

is_next : (x : Response) (all rest : List Response) → IsFirst x all rest → Some (due_of x) ≡ slice_get (map due_of (in_order all)) 0
is_next x all rest first = rw first.order refl

is_least : (x : Response) (all rest : List Response) → IsFirst x all rest
    → AllFrom x.completion (completions (map due_of (in_order all)))
unfolding AllFrom
is_least x all rest first =
    rw first.order (omega arith, from-after x (in_order rest) (all-order x rest first.after))

abbrev Holds : ℕ → List Due → Flight
Holds admitted responses = record { admitted = admitted; responses = responses }

flight_rest : (admitted : ℕ) (x : Response) (all rest : List Response) → IsFirst x all rest
    → Holds admitted (map due_of (in_order rest)) ≡ Holds admitted (drop 1 (map due_of (in_order all)))
flight_rest admitted x all rest first = rw first.order refl

numbers_rest : (n : ℕ) (x : Response) (all rest : List Response) → IsFirst x all rest → AllNumbered n (in_order all)
    → AllNumbered n (in_order rest)
numbers_rest n x all rest first numbers = numbered-rest n x (in_order rest) (rw first.order at numbers)

-- of the queue
pub next_queued : (n latest : ℕ) (x : Response) (queue : List Response) (items : List (Reverse Response)) → IsFlight n latest queue items
    → Leads queue items x → Some (due_of x) ≡ slice_get (flight_of n queue items).responses 0
next_queued n latest x queue items flight leads =
    is_next x (queue ++ responses_of items) (leads.0 ++ responses_of items)
    (first_queued n latest x queue leads.0 items flight.queued leads.1 leads.2)

pub least_queued : (n latest : ℕ) (x : Response) (queue : List Response) (items : List (Reverse Response)) → IsFlight n latest queue items
    → Leads queue items x → AllFrom x.completion (completions (flight_of n queue items).responses)
least_queued n latest x queue items flight leads =
    is_least x (queue ++ responses_of items) (leads.0 ++ responses_of items)
    (first_queued n latest x queue leads.0 items flight.queued leads.1 leads.2)

pub flight_queued : (n latest : ℕ) (x : Response) (queue rest : List Response) (items : List (Reverse Response))
    → IsFlight n latest queue items → Leads queue items x → rest ≡ drop 1 queue
    → flight_of n rest items ≡ record { admitted = n; responses = drop 1 (flight_of n queue items).responses }
flight_queued n latest x queue rest items flight leads is =
    let left : rest ≡ leads.0 = is ∙ ap (λ (rs : List Response). drop 1 rs) leads.1 in
    rw left
    (flight_rest n x (queue ++ responses_of items) (leads.0 ++ responses_of items)
    (first_queued n latest x queue leads.0 items flight.queued leads.1 leads.2))

pub is_queued : (n latest : ℕ) (x : Response) (queue rest : List Response) (items : List (Reverse Response))
    → IsFlight n latest queue items → Leads queue items x → rest ≡ drop 1 queue → IsFlight n latest rest items
is_queued n latest x queue rest items flight leads is =
    let left : rest ≡ leads.0 = is ∙ ap (λ (rs : List Response). drop 1 rs) leads.1 in
    record {
      order = flight.order;
      queued = rw left (queue_rest n latest x leads.0 (rw leads.1 at flight.queued));
      numbers = rw left
          (numbers_rest n x (queue ++ responses_of items) (leads.0 ++ responses_of items)
          (first_queued n latest x queue leads.0 items flight.queued leads.1 leads.2) flight.numbers);
    }

-- of the heap
pub next_on_top : (n latest : ℕ) (x : Reverse Response) (queue : List Response) (items : List (Reverse Response))
    → IsFlight n latest queue items → Follows queue items → 0 < length items → x ≡ get_or items 0 x → HasTop x items
    → Some (due_of x.0) ≡ slice_get (flight_of n queue items).responses 0
next_on_top n latest x queue items flight follows some at bound =
    is_next x.0 (queue ++ responses_of items) (queue ++ responses_of (drop 1 items))
    (first_on_top x queue items some at bound (follows_all n latest x queue items flight.queued follows (top_at items x some at)))

pub least_on_top : (n latest : ℕ) (x : Reverse Response) (queue : List Response) (items : List (Reverse Response))
    → IsFlight n latest queue items → Follows queue items → 0 < length items → x ≡ get_or items 0 x → HasTop x items
    → AllFrom x.0.completion (completions (flight_of n queue items).responses)
least_on_top n latest x queue items flight follows some at bound =
    is_least x.0 (queue ++ responses_of items) (queue ++ responses_of (drop 1 items))
    (first_on_top x queue items some at bound (follows_all n latest x queue items flight.queued follows (top_at items x some at)))

pub next_none : (n : ℕ) (queue : List Response) (items : List (Reverse Response)) → Follows queue items → length items ≡ 0
    → (let none : Option Due = None in none) ≡ slice_get (flight_of n queue items).responses 0
next_none n queue items follows none =
    sym (ap (λ (rs : List Response). slice_get (map due_of rs) 0) (none_left queue items follows none))

first_of_popped : (n latest : ℕ) (x : Reverse Response) (queue : List Response) (old new : List (Reverse Response))
    → IsFlight n latest queue old → Follows queue old → x ≡ get_or old 0 x → IsPermutation old (x ∷ new) → HasTop x new
    → IsFirst x.0 (queue ++ responses_of old) (queue ++ responses_of new)
first_of_popped n latest x queue old new flight follows at moved bound =
    let long : length (x ∷ new) ≡ length old = length_permutation old (x ∷ new) moved in
    let some : 0 < length old = omega (arith, long) in
    first_popped x queue old new moved bound (follows_all n latest x queue old flight.queued follows (top_at old x some at))

pub flight_popped : (n latest : ℕ) (result : Option (Reverse Response)) (queue : List Response) (old new : List (Reverse Response))
    → IsFlight n latest queue old → Follows queue old → IfSome result (λ x. x ≡ get_or old 0 x)
    → IfSome result (λ x. IsPermutation old (x ∷ new)) → IfSome result (λ x. Order old → HasTop x new)
    → IfNone result (new ≡ old) → IfNone result (length old ≡ 0)
    → flight_of n queue new ≡ record { admitted = n; responses = drop 1 (flight_of n queue old).responses }
flight_popped n latest (Some x) queue old new flight follows at moved bound same none =
    flight_rest n x.0 (queue ++ responses_of old) (queue ++ responses_of new)
    (first_of_popped n latest x queue old new flight follows at moved (bound flight.order))
flight_popped n latest None queue old new flight follows at moved bound same none =
    rw same (rw (none_left queue old follows none) refl)

pub is_popped : (n latest : ℕ) (result : Option (Reverse Response)) (queue : List Response) (old new : List (Reverse Response))
    → IsFlight n latest queue old → Follows queue old → IfSome result (λ x. x ≡ get_or old 0 x)
    → IfSome result (λ x. IsPermutation old (x ∷ new)) → IfSome result (λ x. Order old → HasTop x new)
    → IfSome result (λ x. Order old → Order new) → IfNone result (new ≡ old) → IsFlight n latest queue new
is_popped n latest (Some x) queue old new flight follows at moved bound heap same = record {
  order = heap flight.order;
  queued = flight.queued;
  numbers = numbers_rest n x.0 (queue ++ responses_of old) (queue ++ responses_of new)
      (first_of_popped n latest x queue old new flight follows at moved (bound flight.order)) flight.numbers;
}
is_popped n latest None queue old new flight follows at moved bound heap same = rw same flight

-- ---- none

order_start : (queue : List Response) (items : List (Reverse Response)) → queue ≡ [] → items ≡ []
    → in_order (queue ++ responses_of items) ≡ []
order_start queue items free none = rw (free, none) order-none

pub flight_none : (queue : List Response) (items : List (Reverse Response)) → queue ≡ [] → items ≡ []
    → flight_of 0 queue items ≡ record { admitted = 0; responses = [] }
flight_none queue items free none =
    ap (λ (rs : List Response). record { admitted = 0; responses = map due_of rs }) (order_start queue items free none)

pub is_none : (queue : List Response) (items : List (Reverse Response)) → queue ≡ [] → items ≡ [] → Order items → IsFlight 0 0 queue items
unfolding AllNumbered
is_none queue items free none order = record {
  order = order;
  queued = queue_none 0 0 queue free;
  numbers = rw (order_start queue items free none) tt;
}

-- ---- one more

order_queued : (x : Response) (queue : List Response) (hs : List Response)
    → in_order ((queue ++ x ∷ []) ++ hs) ≡ insert_response x (in_order (queue ++ hs))
order_queued x queue hs =
    ap (λ (rs : List Response). in_order rs) (append_assoc queue (x ∷ []) hs) ∙ order-middle x queue hs ∙ order-cons x (queue ++ hs)

order_pushed : (x : Response) (queue : List Response) (old new : List (Reverse Response)) → IsPermutation (record { 0 = x } ∷ old) new
    → in_order (queue ++ responses_of new) ≡ insert_response x (in_order (queue ++ responses_of old))
order_pushed x queue old new moved =
    heap-permutation queue (record { 0 = x } ∷ old) new moved ∙ order-middle x queue (responses_of old)
    ∙ order-cons x (queue ++ responses_of old)

flight_more : (x : Response) (all more : List Response) → in_order more ≡ insert_response x (in_order all) → AllNumbered x.number (in_order all)
    → record { admitted = x.number + 1; responses = map due_of (in_order more) }
    ≡ with_response (record { admitted = x.number; responses = map due_of (in_order all) }) (due_of x)
flight_more x all more is numbers =
    ap (λ (ds : List Due). record { admitted = x.number + 1; responses = ds })
    (ap (λ (rs : List Response). map due_of rs) is ∙ due-insert x (in_order all) numbers)

numbers_more : (x : Response) (all more : List Response) → in_order more ≡ insert_response x (in_order all)
    → AllNumbered x.number (in_order all) → AllNumbered (x.number + 1) (in_order more)
numbers_more x all more is numbers =
    rw is
    (numbered-insert (x.number + 1) x (in_order all) (omega arith)
    (numbered-higher x.number (x.number + 1) (in_order all) (omega arith) numbers))

-- behind the queue
pub flight_behind : (latest : ℕ) (x : Response) (old new : List Response) (items : List (Reverse Response))
    → IsFlight x.number latest old items → new ≡ old ++ x ∷ []
    → flight_of (x.number + 1) new items ≡ with_response (flight_of x.number old items) (due_of x)
flight_behind latest x old new items flight is =
    flight_more x (old ++ responses_of items) (new ++ responses_of items) (rw is (order_queued x old (responses_of items))) flight.numbers

pub is_behind : (latest : ℕ) (x : Response) (old new : List Response) (items : List (Reverse Response))
    → IsFlight x.number latest old items → latest ≤ x.completion → new ≡ old ++ x ∷ []
    → IsFlight (x.number + 1) x.completion new items
is_behind latest x old new items flight later is = record {
  order = flight.order;
  queued = rw is (queue_push latest x old flight.queued later);
  numbers = numbers_more x (old ++ responses_of items) (new ++ responses_of items)
      (rw is (order_queued x old (responses_of items))) flight.numbers;
}

-- into the heap
pub flight_pushed : (latest : ℕ) (x : Response) (queue : List Response) (old new : List (Reverse Response))
    → IsFlight x.number latest queue old → IsPermutation (record { 0 = x } ∷ old) new
    → flight_of (x.number + 1) queue new ≡ with_response (flight_of x.number queue old) (due_of x)
flight_pushed latest x queue old new flight moved =
    flight_more x (queue ++ responses_of old) (queue ++ responses_of new) (order_pushed x queue old new moved) flight.numbers

pub is_pushed : (latest : ℕ) (x : Response) (queue : List Response) (old new : List (Reverse Response))
    → IsFlight x.number latest queue old → IsPermutation (record { 0 = x } ∷ old) new → (Order old → Order new)
    → IsFlight (x.number + 1) latest queue new
is_pushed latest x queue old new flight moved heap = record {
  order = heap flight.order;
  queued = queue_more x.number latest queue flight.queued;
  numbers = numbers_more x (queue ++ responses_of old) (queue ++ responses_of new) (order_pushed x queue old new moved) flight.numbers;
}
