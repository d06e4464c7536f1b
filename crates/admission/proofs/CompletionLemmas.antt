-- The requests in the order of their completions.
use Rattle.std.proofs.Common.{◌≡◌, ℕ, zero, suc, ◌+◌, ◌<◌, ◌≤◌, List, [], ◌∷◌, ◌++◌, length, map, cond, nat_le, refl, sym, ◌∙◌, ap, arith, inl, inr, if◌then◌else◌}
use Rattle.std.specs.Prelude.{nat_lt, take}
use Rattle.std.proofs.lemmas.Bool.{le-leb, lt-leb, lt-ltb, le-ltb, cases_lt}
use Rattle.std.proofs.lemmas.List.Sums.{sum_by-cons, sum_by-append, sum_by_push}
use Rattle.admission.specs.Reference.{Served, completion, done, insert_complete, by_completion}
use Rattle.admission.specs.Standing.{Due, AllFrom, completions, insert_due}
use Rattle.admission.specs.After.{AllUpTo, due}

-- ---- one step

complete-none : (r : Served) → insert_complete r [] ≡ r ∷ []
unfolding insert_complete
complete-none r = refl

complete-front : (r s : Served) (ss : List Served) → completion r ≤ completion s → insert_complete r (s ∷ ss) ≡ r ∷ s ∷ ss
unfolding insert_complete
complete-front r s ss le = rw (le-leb (completion r) (completion s) le) refl

complete-past : (r s : Served) (ss : List Served) → completion s < completion r → insert_complete r (s ∷ ss) ≡ s ∷ insert_complete r ss
unfolding insert_complete
complete-past r s ss lt = rw (lt-leb (completion r) (completion s) lt) refl

-- behind those that are complete at the same tick
unfoldable pub insert_behind : Served → List Served → List Served
insert_behind r [] = r ∷ []
insert_behind r (s ∷ ss) = if nat_lt (completion r) (completion s) then (r ∷ s ∷ ss) else (s ∷ insert_behind r ss)

behind-none : (r : Served) → insert_behind r [] ≡ r ∷ []
unfolding insert_behind
behind-none r = refl

behind-front : (r s : Served) (ss : List Served) → completion r < completion s → insert_behind r (s ∷ ss) ≡ r ∷ s ∷ ss
unfolding insert_behind
behind-front r s ss lt = rw (lt-ltb (completion r) (completion s) lt) refl

behind-past : (r s : Served) (ss : List Served) → completion s ≤ completion r → insert_behind r (s ∷ ss) ≡ s ∷ insert_behind r ss
unfolding insert_behind
behind-past r s ss le = rw (le-ltb (completion r) (completion s) le) refl

-- ---- one more request

-- one from the front and one from behind may change places
insert-both : (x r : Served) (s : List Served) → insert_complete x (insert_behind r s) ≡ insert_behind r (insert_complete x s)
insert-both x r [] =
    elim (cases_lt (completion r) (completion x)) [
      | inl below ↦ rw (behind-none r, complete-none x, complete-past x r [] below, complete-none x, behind-front r x [] below) refl
      | inr above ↦ rw (behind-none r, complete-none x, complete-front x r [] above, behind-past r x [] above, behind-none r) refl
    ]
insert-both x r (y ∷ s) =
    elim (cases_lt (completion r) (completion y)) [
      | inl front ↦ elim (cases_lt (completion y) (completion x)) [
        | inl past ↦
            let both : completion r < completion x = omega arith in
            rw (
              behind-front r y s front,
              complete-past x r (y ∷ s) both,
              complete-past x y s past,
              behind-front r y (insert_complete x s) front,
            ) refl
        | inr here ↦ elim (cases_lt (completion r) (completion x)) [
          | inl below ↦
              rw (
                behind-front r y s front,
                complete-past x r (y ∷ s) below,
                complete-front x y s here,
                behind-front r x (y ∷ s) below,
              ) refl
          | inr above ↦
              rw (
                behind-front r y s front,
                complete-front x r (y ∷ s) above,
                complete-front x y s here,
                behind-past r x (y ∷ s) above,
                behind-front r y s front,
              ) refl
        ]
      ]
      | inr behind ↦ elim (cases_lt (completion y) (completion x)) [
        | inl past ↦
            rw (
              behind-past r y s behind,
              complete-past x y (insert_behind r s) past,
              complete-past x y s past,
              behind-past r y (insert_complete x s) behind,
              insert-both x r s,
            ) refl
        | inr here ↦
            let above : completion x ≤ completion r = omega arith in
            rw (
              behind-past r y s behind,
              complete-front x y (insert_behind r s) here,
              complete-front x y s here,
              behind-past r x (y ∷ s) above,
              behind-past r y s behind,
            ) refl
      ]
    ]

-- one that is admitted last goes behind those that are complete at the same tick
pub by_completion-push : (requests : List Served) (request : Served)
    → by_completion (requests ++ request ∷ []) ≡ insert_behind request (by_completion requests)
unfolding by_completion insert_behind insert_complete
by_completion-push [] request = refl
by_completion-push (first ∷ requests) request =
    rw (by_completion-push requests request) (insert-both first request (by_completion requests))

pub by_completion-none : by_completion [] ≡ []
unfolding by_completion
by_completion-none = refl

-- and leaves those that are complete before it
pub behind-first : (tick : ℕ) (request : Served) (first rest : List Served) → AllUpTo tick (map completion first) → tick < completion request
    → insert_behind request (first ++ rest) ≡ first ++ insert_behind request rest
unfolding AllUpTo
behind-first tick request [] rest past later = refl
behind-first tick request (x ∷ first) rest past later =
    behind-past request x (first ++ rest) (omega (arith, past.0))
    ∙ ap (λ (rs : List Served). x ∷ rs) (behind-first tick request first rest past.1 later)

pub due-behind : (request : Served) (rest : List Served) → map due (insert_behind request rest) ≡ insert_due (due request) (map due rest)
unfolding insert_behind insert_due
due-behind request [] = refl
due-behind request (x ∷ rest) =
    elim (cases_lt (completion request) (completion x)) [
      | inl below ↦ rw (lt-ltb (completion request) (completion x) below) refl
      | inr above ↦
          rw (le-ltb (completion request) (completion x) above) (ap (λ (ds : List Due). due x ∷ ds) (due-behind request rest))
    ]

pub completions-due : (requests : List Served) → completions (map due requests) ≡ map completion requests
completions-due [] = refl
completions-due (x ∷ requests) = ap (λ cs. completion x ∷ cs) (completions-due requests)

-- ---- how many there are, and how many are complete

length-complete : (x : Served) (s : List Served) → length (insert_complete x s) ≡ suc (length s)
length-complete x [] = rw (complete-none x) refl
length-complete x (y ∷ s) =
    elim (cases_lt (completion y) (completion x)) [
      | inl past ↦ rw (complete-past x y s past) (ap suc (length-complete x s))
      | inr front ↦ rw (complete-front x y s front) refl
    ]

pub length-by_completion : (requests : List Served) → length (by_completion requests) ≡ length requests
unfolding by_completion
length-by_completion [] = refl
length-by_completion (x ∷ requests) = length-complete x (by_completion requests) ∙ ap suc (length-by_completion requests)

-- whether a response is complete
abbrev is_done : ℕ → Served → ℕ
is_done u r = cond (nat_le (completion r) u) 1 0

done-cons : (x : Served) (requests : List Served) (u : ℕ) → done (x ∷ requests) u ≡ is_done u x + done requests u
done-cons x requests u = sum_by-cons (is_done u) x requests

done-complete : (x : Served) (s : List Served) (u : ℕ) → done (insert_complete x s) u ≡ is_done u x + done s u
done-complete x [] u = rw (complete-none x) (done-cons x [] u)
done-complete x (y ∷ s) u =
    elim (cases_lt (completion y) (completion x)) [
      | inl past ↦
          rw (complete-past x y s past)
          (omega (arith, done-cons y (insert_complete x s) u, done-complete x s u, done-cons y s u))
      | inr front ↦ rw (complete-front x y s front) (done-cons x (y ∷ s) u)
    ]

pub done-by_completion : (requests : List Served) (u : ℕ) → done (by_completion requests) u ≡ done requests u
unfolding by_completion
done-by_completion [] u = refl
done-by_completion (x ∷ requests) u =
    done-complete x (by_completion requests) u ∙ ap (λ n. is_done u x + n) (done-by_completion requests u) ∙ sym (done-cons x requests u)

-- a response that is complete later does not count
pub done-later : (requests : List Served) (request : Served) (u : ℕ) → u < completion request
    → done (requests ++ request ∷ []) u ≡ done requests u
done-later requests request u later =
    sum_by_push (is_done u) requests request
    ∙ ap (λ b. done requests u + cond b 1 0) (lt-leb (completion request) u later) ∙ omega arith

all-done : (u : ℕ) (requests : List Served) → AllUpTo u (map completion requests) → done requests u ≡ length requests
unfolding AllUpTo
all-done u [] all = refl
all-done u (x ∷ requests) all =
    done-cons x requests u ∙ rw (le-leb (completion x) u all.0, all-done u requests all.1) (omega arith)

none-done : (u : ℕ) (requests : List Served) → AllFrom (u + 1) (map completion requests) → done requests u ≡ 0
unfolding AllFrom
none-done u [] all = refl
none-done u (x ∷ requests) all =
    done-cons x requests u ∙ rw (lt-leb (completion x) u (omega (arith, all.0)), none-done u requests all.1) refl

-- those that stand before some that aren't complete
done-parts : (u : ℕ) (requests first rest : List Served) → by_completion requests ≡ first ++ rest
    → AllFrom (u + 1) (map completion rest) → done requests u ≡ done first u
done-parts u requests first rest is later =
    sym (done-by_completion requests u) ∙ ap (λ (rs : List Served). done rs u) is ∙ sum_by-append (is_done u) first rest
    ∙ (let none = none-done u rest later in omega (arith, none))

done-most : (u : ℕ) (requests : List Served) → done requests u ≤ length requests
done-most u [] = omega arith
done-most u (x ∷ requests) =
    elim (cases_lt u (completion x)) [
      | inl later ↦ rw (done-cons x requests u, lt-leb (completion x) u later) (omega (arith, done-most u requests))
      | inr now ↦ rw (done-cons x requests u, le-leb (completion x) u now) (omega (arith, done-most u requests))
    ]

done-least : (u m : ℕ) (requests : List Served) → m ≤ length requests → AllUpTo u (take m (map completion requests)) → m ≤ done requests u
unfolding AllUpTo
done-least u zero requests le all = omega arith
done-least u (suc m) [] le all = absurd (omega (arith, le))
done-least u (suc m) (x ∷ requests) le all =
    rw (done-cons x requests u, le-leb (completion x) u all.0)
    (omega (arith, done-least u m requests (omega (arith, le)) all.1))

-- where the first m are complete and those behind aren't
pub done-between : (u m : ℕ) (requests first rest : List Served) → by_completion requests ≡ first ++ rest → m ≤ length first
    → AllUpTo u (take m (map completion first)) → AllFrom (u + 1) (map completion rest)
    → (m ≤ done requests u) × (done requests u ≤ length first)
done-between u m requests first rest is le past later =
    let parts : done requests u ≡ done first u = done-parts u requests first rest is later in
    rw parts (done-least u m first le past, done-most u first)

-- as many are complete as stand before those that aren't
pub done-split : (u : ℕ) (requests first rest : List Served) → by_completion requests ≡ first ++ rest
    → AllUpTo u (map completion first) → AllFrom (u + 1) (map completion rest) → done requests u ≡ length first
done-split u requests first rest is past later =
    done-parts u requests first rest is later ∙ all-done u first past

-- ---- the first that are complete at a tick, and the others

pub record Split (u : ℕ) (ordered : List Served) : Type 0 where
  pub first : List Served
  pub rest : List Served
  pub is : ordered ≡ first ++ rest
  pub past : AllUpTo u (map completion first)
  pub later : AllFrom (u + 1) (map completion rest)

complete-first : (u : ℕ) (x : Served) (first rest : List Served) → completion x ≤ u → AllFrom (u + 1) (map completion rest)
    → insert_complete x (first ++ rest) ≡ insert_complete x first ++ rest
unfolding AllFrom
complete-first u x [] [] le later = rw (complete-none x) refl
complete-first u x [] (y ∷ rest) le later = rw (complete-none x, complete-front x y rest (omega (arith, later.0))) refl
complete-first u x (y ∷ first) rest le later =
    elim (cases_lt (completion y) (completion x)) [
      | inl past ↦
          rw (complete-past x y (first ++ rest) past, complete-past x y first past)
          (ap (λ (rs : List Served). y ∷ rs) (complete-first u x first rest le later))
      | inr front ↦ rw (complete-front x y (first ++ rest) front, complete-front x y first front) refl
    ]

complete-rest : (u : ℕ) (x : Served) (first rest : List Served) → u < completion x → AllUpTo u (map completion first)
    → insert_complete x (first ++ rest) ≡ first ++ insert_complete x rest
unfolding AllUpTo
complete-rest u x [] rest lt past = refl
complete-rest u x (y ∷ first) rest lt past =
    complete-past x y (first ++ rest) (omega (arith, past.0))
    ∙ ap (λ (rs : List Served). y ∷ rs) (complete-rest u x first rest lt past.1)

upto-complete : (u : ℕ) (x : Served) (s : List Served) → completion x ≤ u → AllUpTo u (map completion s)
    → AllUpTo u (map completion (insert_complete x s))
unfolding AllUpTo
upto-complete u x [] le all = rw (complete-none x) (le, tt)
upto-complete u x (y ∷ s) le all =
    elim (cases_lt (completion y) (completion x)) [
      | inl past ↦ rw (complete-past x y s past) (all.0, upto-complete u x s le all.1)
      | inr front ↦ rw (complete-front x y s front) (le, all)
    ]

from-complete : (u : ℕ) (x : Served) (s : List Served) → u ≤ completion x → AllFrom u (map completion s)
    → AllFrom u (map completion (insert_complete x s))
unfolding AllFrom
from-complete u x [] le all = rw (complete-none x) (le, tt)
from-complete u x (y ∷ s) le all =
    elim (cases_lt (completion y) (completion x)) [
      | inl past ↦ rw (complete-past x y s past) (all.0, from-complete u x s le all.1)
      | inr front ↦ rw (complete-front x y s front) (le, all)
    ]

pub split_at : (u : ℕ) (requests : List Served) → Split u (by_completion requests)
unfolding by_completion AllFrom AllUpTo
split_at u [] = record { first = []; rest = []; is = refl; past = tt; later = tt }
split_at u (x ∷ requests) =
    let parts : Split u (by_completion requests) = split_at u requests in
    elim (cases_lt u (completion x)) [
      | inl later ↦ record {
        first = parts.first;
        rest = insert_complete x parts.rest;
        is = rw parts.is (complete-rest u x parts.first parts.rest later parts.past);
        past = parts.past;
        later = from-complete (u + 1) x parts.rest (omega arith) parts.later;
      }
      | inr now ↦ record {
        first = insert_complete x parts.first;
        rest = parts.rest;
        is = rw parts.is (complete-first u x parts.first parts.rest now parts.later);
        past = upto-complete u x parts.first now parts.past;
        later = parts.later;
      }
    ]

-- ---- bounds

pub upto-higher : (u v : ℕ) (xs : List ℕ) → u ≤ v → AllUpTo u xs → AllUpTo v xs
unfolding AllUpTo
upto-higher u v [] le all = tt
upto-higher u v (x ∷ xs) le all = (omega (arith, all.0), upto-higher u v xs le all.1)

pub upto-push : (u : ℕ) (xs : List ℕ) (x : ℕ) → AllUpTo u xs → x ≤ u → AllUpTo u (xs ++ x ∷ [])
unfolding AllUpTo
upto-push u [] x all le = (le, tt)
upto-push u (y ∷ xs) x all le = (all.0, upto-push u xs x all.1 le)

pub upto-take : (u n : ℕ) (xs : List ℕ) → AllUpTo u xs → AllUpTo u (take n xs)
unfolding AllUpTo
upto-take u zero xs all = tt
upto-take u (suc n) [] all = tt
upto-take u (suc n) (x ∷ xs) all = (all.0, upto-take u n xs all.1)
