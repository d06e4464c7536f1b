-- The requests of a pool that wait, and its figures.
use Rattle.std.proofs.Common.{◌≡◌, ℕ, zero, suc, ◌+◌, ◌<◌, ◌≤◌, max, List, [], ◌∷◌, ◌++◌, length, map, drop, slice_index_or, slice_set, Bool, true, false, cond, refl, sym, ◌∙◌, ap, arith, append_assoc, append-nil, length-append, inl, inr, nat_le, nat_lt, if◌then◌else◌}
use Rattle.std.specs.Prelude.{count_by}
use Rattle.std.proofs.lemmas.Bool.{le-leb, lt-leb, lt-ltb, le-ltb, cases_lt}
use Rattle.std.proofs.lemmas.List.{map-append, length-replicate}
use Rattle.std.proofs.lemmas.List.Sums.{sum_by-append, sum_by_push, sum_by-cons}
use Rattle.admission.specs.declared.control.Decision.TheVariants.{Admitted}
use Rattle.admission.specs.declared.control.PoolFigures.{PoolFigures}
use Rattle.admission.specs.Reference.{Offer, Served, insert_sorted, start, waiting_at, longest_after, figures_of, with_figures}
use Rattle.admission.specs.Standing.{PoolStanding, first_free}
use Rattle.admission.specs.Running.{ahead, with_start, new_pool, pool_after, no_figures, with_request, figures_with}
use Rattle.admission.specs.After.{AllUpTo, RisesTo, ServersFit, FiguresFit}
use Rattle.admission.proofs.CompletionLemmas.{upto-higher, upto-push}
use Rattle.admission.proofs.ServerLemmas.{free_ticks-none, free_ticks-push, free_ticks-later, length-exchanged}

-- ---- numbers that don't fall

pub rises-push : (lo hi x : ℕ) (xs : List ℕ) → RisesTo lo hi xs → hi ≤ x → RisesTo lo x (xs ++ x ∷ [])
unfolding RisesTo
rises-push lo hi x [] rises above = (omega arith, omega arith)
rises-push lo hi x (y ∷ xs) rises above = (rises.0, rises-push y hi x xs rises.1 above)

pub rises-widen : (lo hi higher : ℕ) (xs : List ℕ) → RisesTo lo hi xs → hi ≤ higher → RisesTo lo higher xs
unfolding RisesTo
rises-widen lo hi higher [] rises above = omega arith
rises-widen lo hi higher (x ∷ xs) rises above = (rises.0, rises-widen x hi higher xs rises.1 above)

rises-none : (hi : ℕ) → RisesTo 0 hi []
unfolding RisesTo
rises-none hi = omega arith

rises-lower : (lo x hi : ℕ) (xs : List ℕ) → lo ≤ x → RisesTo x hi xs → RisesTo lo hi xs
unfolding RisesTo
rises-lower lo x hi [] le rises = omega arith
rises-lower lo x hi (y ∷ xs) le rises = (omega (arith, rises.0), rises.1)

rises-ends : (lo hi : ℕ) (xs : List ℕ) → RisesTo lo hi xs → lo ≤ hi
unfolding RisesTo
rises-ends lo hi [] rises = rises
rises-ends lo hi (x ∷ xs) rises = omega (arith, rises.0, rises-ends x hi xs rises.1)

upto-rises : (lo hi tick : ℕ) (xs : List ℕ) → RisesTo lo hi xs → hi ≤ tick → AllUpTo tick xs
unfolding RisesTo AllUpTo
upto-rises lo hi tick [] rises le = tt
upto-rises lo hi tick (x ∷ xs) rises le = (omega (arith, rises-ends x hi xs rises.1), upto-rises x hi tick xs rises.1 le)

upto-append : (tick : ℕ) (xs ys : List ℕ) → AllUpTo tick xs → AllUpTo tick ys → AllUpTo tick (xs ++ ys)
unfolding AllUpTo
upto-append tick [] ys all more = more
upto-append tick (x ∷ xs) ys all more = (all.0, upto-append tick xs ys all.1 more)

-- ---- those that lie ahead of a tick

pub ahead-past : (tick x : ℕ) (xs : List ℕ) → x ≤ tick → ahead tick (x ∷ xs) ≡ ahead tick xs
unfolding ahead
ahead-past tick x xs le = rw (le-leb x tick le) refl

pub ahead-all : (tick x : ℕ) (xs : List ℕ) → tick < x → ahead tick (x ∷ xs) ≡ x ∷ xs
unfolding ahead
ahead-all tick x xs lt = rw (lt-leb x tick lt) refl

-- the same where the first of them is looked at
pub ahead-drops : (tick x : ℕ) (xs ys : List ℕ) → 0 < length xs → x ≡ slice_index_or xs 0 x → x ≤ tick → ys ≡ drop 1 xs
    → ahead tick ys ≡ ahead tick xs
ahead-drops tick x [] ys some at le rest = absurd (omega arith)
ahead-drops tick x (y ∷ xs) ys some at le rest = rw rest (sym (ahead-past tick y xs (omega (arith, at))))

pub ahead-stays : (tick x : ℕ) (xs : List ℕ) → 0 < length xs → x ≡ slice_index_or xs 0 x → tick < x → xs ≡ ahead tick xs
ahead-stays tick x [] some at lt = absurd (omega arith)
ahead-stays tick x (y ∷ xs) some at lt = sym (ahead-all tick y xs (omega (arith, at)))

pub ahead-ends : (tick : ℕ) (xs : List ℕ) → length xs ≡ 0 → xs ≡ ahead tick xs
unfolding ahead
ahead-ends tick [] none = refl
ahead-ends tick (x ∷ xs) none = absurd (omega (arith, none))

pub ahead-none : (tick : ℕ) → ahead tick [] ≡ []
unfolding ahead
ahead-none tick = refl

rises-ahead : (tick lo hi : ℕ) (xs : List ℕ) → RisesTo lo hi xs → RisesTo lo hi (ahead tick xs)
unfolding RisesTo
rises-ahead tick lo hi [] rises = rw (ahead-none tick) rises
rises-ahead tick lo hi (x ∷ xs) rises =
    elim (cases_lt tick x) [
      | inl lt ↦ rw (ahead-all tick x xs lt) rises
      | inr le ↦ rw (ahead-past tick x xs le) (rises-lower lo x hi (ahead tick xs) rises.0 (rises-ahead tick x hi xs rises.1))
    ]

none-ahead : (tick lo hi : ℕ) (xs : List ℕ) → RisesTo lo hi xs → hi ≤ tick → ahead tick xs ≡ []
unfolding RisesTo
none-ahead tick lo hi [] rises le = ahead-none tick
none-ahead tick lo hi (x ∷ xs) rises le =
    ahead-past tick x xs (omega (arith, rises-ends x hi xs rises.1)) ∙ none-ahead tick x hi xs rises.1 le

-- the others
record Parts (tick : ℕ) (xs : List ℕ) : Type 0 where
  pub past : List ℕ
  pub are : xs ≡ past ++ ahead tick xs
  pub upto : AllUpTo tick past

parts_of : (tick : ℕ) (xs : List ℕ) → Parts tick xs
unfolding AllUpTo
parts_of tick [] = record { past = []; are = sym (ahead-none tick); upto = tt }
parts_of tick (x ∷ xs) =
    elim (cases_lt tick x) [
      | inl lt ↦ record { past = []; are = sym (ahead-all tick x xs lt); upto = tt }
      | inr le ↦
          let rest = parts_of tick xs in
          record {
            past = x ∷ rest.past;
            are = ap (λ ys. x ∷ ys) rest.are ∙ ap (λ ys. x ∷ (rest.past ++ ys)) (sym (ahead-past tick x xs le));
            upto = (le, rest.upto);
          }
    ]

-- ---- how many wait

abbrev Count : ℕ → List ℕ → ℕ
Count tick xs = count_by (λ x. nat_lt tick x) xs

count-cons : (tick x : ℕ) (xs : List ℕ) → Count tick (x ∷ xs) ≡ cond (nat_lt tick x) 1 0 + Count tick xs
count-cons tick x xs = sum_by-cons (λ x. cond (nat_lt tick x) 1 0) x xs

count-append : (tick : ℕ) (xs ys : List ℕ) → Count tick (xs ++ ys) ≡ Count tick xs + Count tick ys
count-append tick xs ys = sum_by-append (λ x. cond (nat_lt tick x) 1 0) xs ys

count-ahead : (tick x : ℕ) (xs : List ℕ) → tick < x → Count tick (x ∷ xs) ≡ 1 + Count tick xs
count-ahead tick x xs lt = count-cons tick x xs ∙ rw (lt-ltb tick x lt) (omega arith)

count-past : (tick x : ℕ) (xs : List ℕ) → x ≤ tick → Count tick (x ∷ xs) ≡ Count tick xs
count-past tick x xs le = count-cons tick x xs ∙ rw (le-ltb tick x le) (omega arith)

count-upto : (tick : ℕ) (xs : List ℕ) → AllUpTo tick xs → Count tick xs ≡ 0
unfolding AllUpTo
count-upto tick [] all = refl
count-upto tick (x ∷ xs) all = count-past tick x xs all.0 ∙ count-upto tick xs all.1

count-later : (tick lo hi : ℕ) (xs : List ℕ) → RisesTo lo hi xs → tick < lo → Count tick xs ≡ length xs
unfolding RisesTo
count-later tick lo hi [] rises lt = refl
count-later tick lo hi (x ∷ xs) rises lt =
    count-ahead tick x xs (omega (arith, rises.0)) ∙ ap (λ n. 1 + n) (count-later tick x hi xs rises.1 (omega (arith, rises.0)))
    ∙ (let one : 1 + length xs ≡ length (x ∷ xs) = omega arith in one)

count-rises : (tick lo hi : ℕ) (xs : List ℕ) → RisesTo lo hi xs → Count tick xs ≡ length (ahead tick xs)
unfolding RisesTo
count-rises tick lo hi [] rises = sym (ap (λ (xs : List ℕ). length xs) (ahead-none tick))
count-rises tick lo hi (x ∷ xs) rises =
    elim (cases_lt tick x) [
      | inl lt ↦
          count-ahead tick x xs lt ∙ ap (λ n. 1 + n) (count-later tick x hi xs rises.1 lt)
          ∙ (let one : 1 + length xs ≡ length (x ∷ xs) = omega arith in one)
          ∙ sym (ap (λ (xs : List ℕ). length xs) (ahead-all tick x xs lt))
      | inr le ↦
          count-past tick x xs le ∙ count-rises tick x hi xs rises.1 ∙ sym (ap (λ (xs : List ℕ). length xs) (ahead-past tick x xs le))
    ]

-- one that has to wait until a server is free, or begins at once
with-waits : (tick free : ℕ) (xs : List ℕ) → tick < free → with_start tick free xs ≡ ahead tick xs ++ free ∷ []
with-waits tick free xs lt = rw (lt-ltb tick free lt) refl

with-begins : (tick free : ℕ) (xs : List ℕ) → free ≤ tick → with_start tick free xs ≡ ahead tick xs
with-begins tick free xs le = rw (le-ltb tick free le) refl

-- the starts with that of the next one
record NextStarts (past starts : List ℕ) (tick free next : ℕ) : Type 0 where
  pub begun : List ℕ
  pub are : (past ++ starts) ++ max free tick ∷ [] ≡ begun ++ with_start tick free starts
  pub behind : AllUpTo tick begun
  pub rising : RisesTo 0 (max tick next) (with_start tick free starts)
  pub waiting : Count tick ((past ++ starts) ++ max free tick ∷ []) ≡ length (with_start tick free starts)

regrouped : (a b c d : List ℕ) → (a ++ (b ++ c)) ++ d ≡ (a ++ b) ++ (c ++ d)
regrouped a b c d =
    append_assoc a (b ++ c) d ∙ ap (λ xs. a ++ xs) (append_assoc b c d) ∙ sym (append_assoc a b (c ++ d))

starts_waiting : (past starts : List ℕ) (before tick free next : ℕ) → AllUpTo before past → RisesTo 0 (max before free) starts
    → before ≤ tick → free ≤ next → tick < free → NextStarts past starts tick free next
starts_waiting past starts before tick free next behind rising later forward lt =
    let same : max free tick ≡ free = omega arith in
    let parts = parts_of tick starts in
    record {
      begun = past ++ parts.past;
      are = rw (same, with-waits tick free starts lt)
          (ap (λ xs. (past ++ xs) ++ free ∷ []) parts.are ∙ regrouped past parts.past (ahead tick starts) (free ∷ []));
      behind = upto-append tick past parts.past (upto-higher before tick past later behind) parts.upto;
      rising = rw (with-waits tick free starts lt)
          (rises-widen 0 free (max tick next) (ahead tick starts ++ free ∷ [])
          (rises-push 0 (max before free) free (ahead tick starts) (rises-ahead tick 0 (max before free) starts rising) (omega arith)) (omega arith));
      waiting = rw (same, with-waits tick free starts lt)
          (omega (
            arith,
            count-append tick (past ++ starts) (free ∷ []),
            count-append tick past starts,
            count-upto tick past (upto-higher before tick past later behind),
            count-rises tick 0 (max before free) starts rising,
            count-ahead tick free [] lt,
            length-append (ahead tick starts) (free ∷ []),
          ));
    }

starts_begun : (past starts : List ℕ) (before tick free next : ℕ) → AllUpTo before past → RisesTo 0 (max before free) starts
    → before ≤ tick → free ≤ tick → NextStarts past starts tick free next
starts_begun past starts before tick free next behind rising later le =
    let same : max free tick ≡ tick = omega arith in
    let top : max before free ≤ tick = omega arith in
    let none : with_start tick free starts ≡ [] =
    with-begins tick free starts le ∙ none-ahead tick 0 (max before free) starts rising top in
    let all : AllUpTo tick ((past ++ starts) ++ tick ∷ []) =
    upto-push tick (past ++ starts) tick
    (upto-append tick past starts (upto-higher before tick past later behind) (upto-rises 0 (max before free) tick starts rising top))
    (omega arith) in
    record {
      begun = (past ++ starts) ++ tick ∷ [];
      are = rw (same, none) (sym (append-nil ((past ++ starts) ++ tick ∷ [])));
      behind = all;
      rising = rw none (rises-none (max tick next));
      waiting = rw (same, none) (count-upto tick ((past ++ starts) ++ tick ∷ []) all);
    }

starts_next : (past starts : List ℕ) (before tick free next : ℕ) → AllUpTo before past → RisesTo 0 (max before free) starts → before ≤ tick
    → free ≤ next → NextStarts past starts tick free next
starts_next past starts before tick free next behind rising later forward =
    elim (cases_lt tick free) [
      | inl lt ↦ starts_waiting past starts before tick free next behind rising later forward lt
      | inr le ↦ starts_begun past starts before tick free next behind rising later le
    ]

-- ---- the figures

waiting_is : (requests : List Served) (tick : ℕ) → waiting_at requests tick ≡ Count tick (map start requests)
waiting_is [] tick = refl
waiting_is (request ∷ requests) tick =
    sum_by-cons (λ (r : Served). cond (nat_lt tick (start r)) 1 0) request requests
    ∙ ap (λ n. cond (nat_lt tick (start request)) 1 0 + n) (waiting_is requests tick)
    ∙ sym (count-cons tick (start request) (map start requests))

longest-push : (before requests : List Served) (request : Served)
    → longest_after before (requests ++ request ∷ [])
    ≡ max (longest_after before requests) (waiting_at (before ++ (requests ++ request ∷ [])) request.offer.tick)
unfolding longest_after
longest-push before [] request =
    let waiting : ℕ = waiting_at (before ++ request ∷ []) request.offer.tick in
    let same : max waiting 0 ≡ max 0 waiting = omega arith in
    same
longest-push before (first ∷ requests) request =
    let rest = longest-push (before ++ first ∷ []) requests request in
    let same : (before ++ first ∷ []) ++ (requests ++ request ∷ []) ≡ before ++ (first ∷ (requests ++ request ∷ [])) =
    append_assoc before (first ∷ []) (requests ++ request ∷ []) in
    let waits = ap (λ (rs : List Served). waiting_at rs request.offer.tick) same in
    omega (arith, rest, waits)

abbrev Figures : ℕ → ℕ → ℕ → PoolFigures
Figures admitted busy longest = record { admitted = admitted; busy = busy; longest_queue = longest }

figures_same : (a b c x y z : ℕ) → a ≡ x → b ≡ y → c ≡ z → Figures a b c ≡ Figures x y z
figures_same a b c x y z p q r = rw (p, q, r) refl

figures_next : (past : List Served) (request : Served) (tick : ℕ) (f : PoolFigures) (waiting : ℕ) → f ≡ figures_of past
    → waiting_at (past ++ request ∷ []) request.offer.tick ≡ waiting
    → Figures (f.admitted + 1) (f.busy + request.offer.service) (max f.longest_queue waiting) ≡ figures_of (past ++ request ∷ [])
figures_next past request tick f waiting is waits =
    figures_same _ _ _ _ _ _
    (ap (λ (f : PoolFigures). f.admitted + 1) is ∙ sym (length-append past (request ∷ [])))
    (ap (λ (f : PoolFigures). f.busy + request.offer.service) is ∙ sym (sum_by_push (λ (r : Served). r.offer.service) past request))
    (ap (λ (f : PoolFigures). max f.longest_queue waiting) is
    ∙ sym (longest-push [] past request ∙ ap (λ n. max (longest_after [] past) n) waits))

-- ---- a pool

pub free_none : (n : ℕ) → ServersFit [] (new_pool n)
free_none n = rw (length-replicate {A = ℕ} n 0) (sym (free_ticks-none n))

pub free_served : (past : List Served) (p : PoolStanding) (until tick : ℕ) (request : Served) → ServersFit past p
    → ServersFit (past ++ request ∷ []) (pool_after p until tick (Admitted request.finish))
free_served past p until tick request fits =
    rw (length-exchanged request.finish p.free)
    (ap (λ (xs : List ℕ). drop 1 (insert_sorted request.finish xs)) fits ∙ sym (free_ticks-push (length p.free) past request))

pub figures_none : (n : ℕ) → FiguresFit [] 0 (new_pool n) no_figures
unfolding longest_after AllUpTo
figures_none n = record {
  are = refl;
  begun = [];
  starts = refl;
  behind = tt;
  rising = rises-none _;
}

pub figures_later : (past : List Served) (tick later : ℕ) (p : PoolStanding) (f : PoolFigures) → FiguresFit past tick p f → tick ≤ later
    → FiguresFit past later p f
figures_later past tick later p f fits le = record {
  are = fits.are;
  begun = fits.begun;
  starts = fits.starts;
  behind = upto-higher tick later fits.begun le fits.behind;
  rising = rises-widen 0 (max tick (first_free p.free)) (max later (first_free p.free)) p.starts fits.rising (omega arith);
}

pub figures_served : (past : List Served) (tick : ℕ) (p : PoolStanding) (f : PoolFigures) (offer : Offer) → ServersFit past p
    → FiguresFit past tick p f → tick ≤ offer.tick → 1 ≤ length p.free
    → FiguresFit (past ++ record { offer = offer; finish = max (first_free p.free) offer.tick + offer.service } ∷ []) offer.tick
    (pool_after p (first_free p.free) offer.tick (Admitted (max (first_free p.free) offer.tick + offer.service)))
    (with_request f offer.service (length (with_start offer.tick (first_free p.free) p.starts)))
figures_served past tick p f offer servers fits le some =
    let free : ℕ = first_free p.free in
    let finish : ℕ = max free offer.tick + offer.service in
    let request : Served = record { offer = offer; finish = finish } in
    let first : start request ≡ max free offer.tick = omega arith in
    let forward : free ≤ first_free (drop 1 (insert_sorted finish p.free)) =
    free_ticks-later (length p.free) p.free past finish servers (omega arith) some in
    let next = starts_next fits.begun p.starts tick offer.tick free (first_free (drop 1 (insert_sorted finish p.free))) fits.behind
    fits.rising le forward in
    let starts : map start (past ++ request ∷ []) ≡ (fits.begun ++ p.starts) ++ max free offer.tick ∷ [] =
    map-append start past (request ∷ []) ∙ ap (λ (xs : List ℕ). xs ++ start request ∷ []) fits.starts
    ∙ ap (λ x. (fits.begun ++ p.starts) ++ x ∷ []) first in
    let waits : waiting_at (past ++ request ∷ []) offer.tick ≡ length (with_start offer.tick free p.starts) =
    waiting_is (past ++ request ∷ []) offer.tick ∙ ap (Count offer.tick) starts ∙ next.waiting in
    record {
      are = figures_next past request offer.tick f (length (with_start offer.tick free p.starts)) fits.are waits;
      begun = next.begun;
      starts = starts ∙ next.are;
      behind = next.behind;
      rising = next.rising;
    }

-- ---- the figures of the pools

kept_none : {X : Type 0} (xs : List X) (i : ℕ) (x : X) → length xs ≤ i → slice_set xs i x ≡ xs
kept_none [] i x past = refl
kept_none (y ∷ xs) zero x past = absurd (omega (arith, past))
kept_none {X} (y ∷ xs) (suc i) x past = ap (λ (l : List X). y ∷ l) (kept_none xs i x (omega (arith, past)))

-- a request of a pool without figures is counted in none
pub uncounted : (figures : List PoolFigures) (pool service waiting : ℕ) → length figures ≤ pool
    → figures_with figures pool service waiting ≡ figures
uncounted figures pool service waiting past =
    kept_none figures pool (with_request (slice_index_or figures pool no_figures) service waiting) past

-- of so many pools no more have figures
pub figures-few : (n : ℕ) → with_figures n ≤ n
figures-few n = go (nat_le n 1)
  where
    go : (b : Bool) → (if b then 0 else n) ≤ n
    go true = omega arith
    go false = omega arith
