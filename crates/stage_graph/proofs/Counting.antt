-- How often a number is taken.
use Rattle.std.proofs.Common.{◌≡◌, ℕ, ◌+◌, ◌<◌, ◌≤◌, Bool, true, false, cond, List, [], ◌∷◌, length, get_or, nat_le, nat_lt, nat_eq, refl, sym, ap, ◌∙◌, arith, zero-add, take}
use Rattle.std.specs.List.{sum_by, range_with_len}
use Rattle.std.proofs.lemmas.List.Sums.{sum_by-cons}
use Rattle.std.proofs.lemmas.Bool.{ltb-true, eqb-true, eq-eqb, le-leb}
use Rattle.std.proofs.lemmas.Bool.Decides.{nat_tests}
use Rattle.stage_graph.specs.Layouts.{Layout, IsPlan, stages, stage_at, is_last}
use Rattle.stage_graph.specs.Floors.{State, opening, is_allowed, after, after_all, is_legal, standing, is_legal_from_opening, all_done, all_left}
use Rattle.stage_graph.specs.Counts.{one_at, KeepsBounds, is_take, takes_of, is_feed, feeds_of, is_give, gives_of}
use Rattle.stage_graph.proofs.Weights.{Weights, of_slot, total}
use Rattle.stage_graph.specs.declared.event.Event.{Event}
use Rattle.stage_graph.specs.declared.event.Event.TheVariants.{Feed, Take, Give, Back, Leave, Halt}
use Rattle.stage_graph.proofs.Sizes.{IsSized-standing}
use Rattle.stage_graph.proofs.Weighing.{get_or-le-sum_from}
use Rattle.stage_graph.proofs.Leaving.{all_true-get}
use Rattle.stage_graph.proofs.Histories.{and_left, and_right, legal-take}
use Rattle.stage_graph.proofs.Capacities.{capacities_hold}
use Rattle.stage_graph.specs.Through.{IsWhole}
use Rattle.stage_graph.proofs.Sound.{short_enough, by_bool, lost, gained, total_after, total-opening, range_within, IsPlaced, IsPlaced-after, IsPlaced-opening}

-- where each event takes from a total at least what it counts, all counts together are at most the first total
count_most : (v : Weights) (f : Event → ℕ) (p : Layout) (n : ℕ) → IsPlan p → ((s : State) (e : Event) → is_allowed p s e ≡ true → gained v p e + f e ≤ lost v p s e)
    → (s : State) (h : List Event) → IsPlaced p n s → is_legal p s h ≡ true → total v (after_all p s h) + sum_by f h ≤ total v s
unfolding after_all is_legal
count_most v f p n plan costs s [] placed legal = omega arith
count_most v f p n plan costs s (e ∷ h) placed legal =
    let ok = and_left (is_allowed p s e) (is_legal p (after p s e) h) legal in
    let t = count_most v f p n plan costs (after p s e) h (IsPlaced-after p n s e plan placed ok) (and_right (is_allowed p s e) (is_legal p (after p s e) h) legal) in
    omega (arith, t, sum_by-cons f e h, total_after v p n s e plan placed ok, costs s e ok)

-- where each event gives to a total at most what it counts, all counts together are at least what the total has gained
count_least : (v : Weights) (f : Event → ℕ) (p : Layout) (n : ℕ) → IsPlan p → ((s : State) (e : Event) → is_allowed p s e ≡ true → gained v p e ≤ lost v p s e + f e)
    → (s : State) (h : List Event) → IsPlaced p n s → is_legal p s h ≡ true → total v (after_all p s h) ≤ total v s + sum_by f h
unfolding after_all is_legal
count_least v f p n plan costs s [] placed legal = omega arith
count_least v f p n plan costs s (e ∷ h) placed legal =
    let ok = and_left (is_allowed p s e) (is_legal p (after p s e) h) legal in
    let t = count_least v f p n plan costs (after p s e) h (IsPlaced-after p n s e plan placed ok) (and_right (is_allowed p s e) (is_legal p (after p s e) h) legal) in
    omega (arith, t, sum_by-cons f e h, total_after v p n s e plan placed ok, costs s e ok)

-- a number weighs 1 until stage k has taken it
before_take : Layout → ℕ → ℕ → Weights
before_take p k x = record {
  backlog = one_at x;
  queue = λ j m. cond (nat_le j k) (one_at x m) 0;
  worker_slot = λ w m. cond (nat_lt (stage_at p w) k) (one_at x m) 0;
  done = λ m. 0;
  returned = λ m. 0;
  worker = 0;
  running = 0;
}

split_at : (j k o : ℕ) → cond (nat_lt j k) o 0 + cond (nat_eq j k) o 0 ≡ cond (nat_le j k) o 0
split_at j k o = grind (arith, nat_tests)

next_at : (j k o : ℕ) → cond (nat_le (j + 1) k) o 0 ≡ cond (nat_lt j k) o 0
next_at j k o = grind (arith, nat_tests)

take_costs : (p : Layout) (k x : ℕ) → IsPlan p → (s : State) (e : Event) → is_allowed p s e ≡ true → gained (before_take p k x) p e + is_take p k x e ≤ lost (before_take p k x) p s e
unfolding lost gained before_take
take_costs p k x plan s (Feed m) ok = ap-le (nat_le 0 k) (one_at x m)
  where
    ap-le : (b : Bool) (o : ℕ) → cond b o 0 + 0 ≤ o
    ap-le true o = omega arith
    ap-le false o = omega arith
take_costs p k x plan s (Take w m) ok = let e = split_at (stage_at p w) k (one_at x m) in omega arith
take_costs p k x plan s (Give w m) ok =
    by_bool (λ b. cond b 0 (cond (nat_le (stage_at p w + 1) k) (one_at x m) 0) + 0 ≤ cond (nat_lt (stage_at p w) k) (one_at x m) 0) (is_last p (stage_at p w))
    (λ _. omega arith)
    (λ _. let e = next_at (stage_at p w) k (one_at x m) in omega arith)
take_costs p k x plan s (Back w m) ok = omega arith
take_costs p k x plan s (Leave w) ok = omega arith
take_costs p k x plan s Halt ok = omega arith

-- no number is taken twice by the workers of one stage
pub taken_once : (p : Layout) (n : ℕ) (h : List Event) → IsPlan p → is_legal_from_opening p n h ≡ true → (k x : ℕ) → x < n → takes_of p k x h ≤ 1
unfolding is_legal_from_opening before_take
taken_once p n h plan legal k x below =
    let a = count_most (before_take p k x) (is_take p k x) p n plan (take_costs p k x plan) (opening p n) h (IsPlaced-opening p n) legal in
    let b = total-opening (before_take p k x) p n in
    let c : sum_by (before_take p k x).backlog (range_with_len 0 n) ≡ 1 = range_within 0 n x (omega arith) (omega arith) in
    omega arith

-- a number weighs 1 once stage k has taken it
after_take : Layout → ℕ → ℕ → Weights
after_take p k x = record {
  backlog = λ m. 0;
  queue = λ j m. cond (nat_lt k j) (one_at x m) 0;
  worker_slot = λ w m. cond (nat_le k (stage_at p w)) (one_at x m) 0;
  done = one_at x;
  returned = λ m. 0;
  worker = 0;
  running = 0;
}

join_at : (j k o : ℕ) → cond (nat_le k j) o 0 ≡ cond (nat_lt k j) o 0 + cond (nat_eq j k) o 0
join_at j k o = grind (arith, nat_tests)

past_at : (j k o : ℕ) → cond (nat_lt k (j + 1)) o 0 ≡ cond (nat_le k j) o 0
past_at j k o = grind (arith, nat_tests)

take_gains : (p : Layout) (k x : ℕ) → IsPlan p → k < stages p → (s : State) (e : Event) → is_allowed p s e ≡ true → gained (after_take p k x) p e ≤ lost (after_take p k x) p s e + is_take p k x e
unfolding lost gained after_take
take_gains p k x plan in-p s (Feed m) ok = by_bool (λ b. cond b (one_at x m) 0 ≤ 0 + 0) (nat_lt k 0) (λ t. absurd (let u = ltb-true k 0 t in omega arith)) (λ _. omega arith)
take_gains p k x plan in-p s (Take w m) ok = let e = join_at (stage_at p w) k (one_at x m) in omega arith
take_gains p k x plan in-p s (Give w m) ok =
    by_bool (λ b. cond b (one_at x m) (cond (nat_lt k (stage_at p w + 1)) (one_at x m) 0) ≤ cond (nat_le k (stage_at p w)) (one_at x m) 0 + 0) (is_last p (stage_at p w))
    (λ last. let at = eqb-true (stage_at p w + 1) (stages p) last in let r : nat_le k (stage_at p w) ≡ true = le-leb k (stage_at p w) (omega arith) in rw r (omega arith))
    (λ _. let e = past_at (stage_at p w) k (one_at x m) in omega arith)
take_gains p k x plan in-p s (Back w m) ok = omega arith
take_gains p k x plan in-p s (Leave w) ok = omega arith
take_gains p k x plan in-p s Halt ok = omega arith

done_weighs : (p : Layout) (k x : ℕ) (s : State) → x < length s.done → get_or s.done x false ≡ true → 1 ≤ total (after_take p k x) s
unfolding total after_take
done_weighs p k x s inside at =
    let v = after_take p k x in
    let a = get_or-le-sum_from (λ j b. of_slot (v.done j) b) 0 s.done x false inside in
    let e : of_slot (v.done (0 + x)) (get_or s.done x false) ≡ 1 = rw (at, zero-add x, eq-eqb x x refl) refl in
    omega arith

sum_by-zero : (f : ℕ → ℕ) (xs : List ℕ) → ((m : ℕ) → f m ≡ 0) → sum_by f xs ≡ 0
sum_by-zero f [] h = refl
sum_by-zero f (x ∷ xs) h = sum_by-cons f x xs ∙ (let t = sum_by-zero f xs h in let u = h x in omega arith)

-- where all numbers are done, each was taken once by the workers of each stage
pub taken_just_once : (p : Layout) (n : ℕ) (h : List Event) → IsPlan p → is_legal_from_opening p n h ≡ true → all_done (standing p n h) ≡ true → (k x : ℕ) → k < stages p → x < n → takes_of p k x h ≡ 1
unfolding standing is_legal_from_opening after_take
taken_just_once p n h plan legal done k x in-p below =
    let most = taken_once p n h plan legal k x below in
    let a = count_least (after_take p k x) (is_take p k x) p n plan (take_gains p k x plan in-p) (opening p n) h (IsPlaced-opening p n) legal in
    let b = total-opening (after_take p k x) p n in
    let c : sum_by (after_take p k x).backlog (range_with_len 0 n) ≡ 0 = sum_by-zero (λ m. 0) (range_with_len 0 n) (λ m. refl) in
    let sized = IsSized-standing p n h in
    let d = done_weighs p k x (after_all p (opening p n) h) (omega (arith, sized.done)) (all_true-get (standing p n h).done x done (omega (arith, sized.done))) in
    omega arith

-- a number weighs 1 until it is fed
before_feed : ℕ → Weights
before_feed x = record { backlog = one_at x; queue = λ j m. 0; worker_slot = λ w m. 0; done = λ m. 0; returned = λ m. 0; worker = 0; running = 0 }

cond-zero : (b : Bool) → cond {A = ℕ} b 0 0 ≡ 0
cond-zero true = refl
cond-zero false = refl

feed_costs : (p : Layout) (x : ℕ) (s : State) (e : Event) → is_allowed p s e ≡ true → gained (before_feed x) p e + is_feed x e ≤ lost (before_feed x) p s e
unfolding lost gained before_feed
feed_costs p x s (Feed m) ok = omega arith
feed_costs p x s (Take w m) ok = omega arith
feed_costs p x s (Give w m) ok = omega (arith, cond-zero (is_last p (stage_at p w)))
feed_costs p x s (Back w m) ok = omega arith
feed_costs p x s (Leave w) ok = omega arith
feed_costs p x s Halt ok = omega arith

pub fed_once : (p : Layout) (n : ℕ) (h : List Event) → IsPlan p → is_legal_from_opening p n h ≡ true → (x : ℕ) → x < n → feeds_of x h ≤ 1
unfolding is_legal_from_opening before_feed
fed_once p n h plan legal x below =
    let a = count_most (before_feed x) (is_feed x) p n plan (feed_costs p x) (opening p n) h (IsPlaced-opening p n) legal in
    let b = total-opening (before_feed x) p n in
    let c : sum_by (before_feed x).backlog (range_with_len 0 n) ≡ 1 = range_within 0 n x (omega arith) (omega arith) in
    omega arith

-- a number weighs 1 once it is fed
after_feed : ℕ → Weights
after_feed x = record { backlog = λ m. 0; queue = λ j. one_at x; worker_slot = λ w. one_at x; done = one_at x; returned = λ m. 0; worker = 0; running = 0 }

feed_gains : (p : Layout) (x : ℕ) (s : State) (e : Event) → is_allowed p s e ≡ true → gained (after_feed x) p e ≤ lost (after_feed x) p s e + is_feed x e
unfolding lost gained after_feed
feed_gains p x s (Feed m) ok = omega arith
feed_gains p x s (Take w m) ok = omega arith
feed_gains p x s (Give w m) ok = omega (arith, cond-both (is_last p (stage_at p w)) (one_at x m))
  where
    cond-both : (b : Bool) (o : ℕ) → cond b o o ≡ o
    cond-both true o = refl
    cond-both false o = refl
feed_gains p x s (Back w m) ok = omega arith
feed_gains p x s (Leave w) ok = omega arith
feed_gains p x s Halt ok = omega arith

done_weighs_at : (v : Weights) (s : State) (x : ℕ) → v.done x ≡ 1 → x < length s.done → get_or s.done x false ≡ true → 1 ≤ total v s
unfolding total
done_weighs_at v s x one inside at =
    let a = get_or-le-sum_from (λ j b. of_slot (v.done j) b) 0 s.done x false inside in
    let e : of_slot (v.done (0 + x)) (get_or s.done x false) ≡ 1 = rw (at, zero-add x, one) refl in
    omega arith

pub fed_just_once : (p : Layout) (n : ℕ) (h : List Event) → IsPlan p → is_legal_from_opening p n h ≡ true → all_done (standing p n h) ≡ true → (x : ℕ) → x < n → feeds_of x h ≡ 1
unfolding standing is_legal_from_opening after_feed
fed_just_once p n h plan legal done x below =
    let most = fed_once p n h plan legal x below in
    let a = count_least (after_feed x) (is_feed x) p n plan (feed_gains p x) (opening p n) h (IsPlaced-opening p n) legal in
    let b = total-opening (after_feed x) p n in
    let c : sum_by (after_feed x).backlog (range_with_len 0 n) ≡ 0 = sum_by-zero (λ m. 0) (range_with_len 0 n) (λ m. refl) in
    let sized = IsSized-standing p n h in
    let d = done_weighs_at (after_feed x) (after_all p (opening p n) h) x (rw (eq-eqb x x refl) refl) (omega (arith, sized.done)) (all_true-get (standing p n h).done x done (omega (arith, sized.done))) in
    omega arith

-- a number weighs 1 until stage k has given it
before_give : Layout → ℕ → ℕ → Weights
before_give p k x = record {
  backlog = one_at x;
  queue = λ j m. cond (nat_le j k) (one_at x m) 0;
  worker_slot = λ w m. cond (nat_le (stage_at p w) k) (one_at x m) 0;
  done = λ m. 0;
  returned = λ m. 0;
  worker = 0;
  running = 0;
}

give_costs : (p : Layout) (k x : ℕ) → IsPlan p → (s : State) (e : Event) → is_allowed p s e ≡ true → gained (before_give p k x) p e + is_give p k x e ≤ lost (before_give p k x) p s e
unfolding lost gained before_give
give_costs p k x plan s (Feed m) ok = at_most (nat_le 0 k) (one_at x m)
  where
    at_most : (b : Bool) (o : ℕ) → cond b o 0 + 0 ≤ o
    at_most true o = omega arith
    at_most false o = omega arith
give_costs p k x plan s (Take w m) ok = omega arith
give_costs p k x plan s (Give w m) ok =
    by_bool (λ b. cond b 0 (cond (nat_le (stage_at p w + 1) k) (one_at x m) 0) + cond (nat_eq (stage_at p w) k) (one_at x m) 0 ≤ cond (nat_le (stage_at p w) k) (one_at x m) 0) (is_last p (stage_at p w))
    (λ _. let e = split_at (stage_at p w) k (one_at x m) in omega arith)
    (λ _. let e = next_at (stage_at p w) k (one_at x m) in let f = split_at (stage_at p w) k (one_at x m) in omega arith)
give_costs p k x plan s (Back w m) ok = omega arith
give_costs p k x plan s (Leave w) ok = omega arith
give_costs p k x plan s Halt ok = omega arith

pub given_once : (p : Layout) (n : ℕ) (h : List Event) → IsPlan p → is_legal_from_opening p n h ≡ true → (k x : ℕ) → x < n → gives_of p k x h ≤ 1
unfolding is_legal_from_opening before_give
given_once p n h plan legal k x below =
    let a = count_most (before_give p k x) (is_give p k x) p n plan (give_costs p k x plan) (opening p n) h (IsPlaced-opening p n) legal in
    let b = total-opening (before_give p k x) p n in
    let c : sum_by (before_give p k x).backlog (range_with_len 0 n) ≡ 1 = range_within 0 n x (omega arith) (omega arith) in
    omega arith

-- a number weighs 1 once stage k has given it
after_give : Layout → ℕ → ℕ → Weights
after_give p k x = record {
  backlog = λ m. 0;
  queue = λ j m. cond (nat_lt k j) (one_at x m) 0;
  worker_slot = λ w m. cond (nat_lt k (stage_at p w)) (one_at x m) 0;
  done = one_at x;
  returned = λ m. 0;
  worker = 0;
  running = 0;
}

give_gains : (p : Layout) (k x : ℕ) → IsPlan p → k < stages p → (s : State) (e : Event) → is_allowed p s e ≡ true → gained (after_give p k x) p e ≤ lost (after_give p k x) p s e + is_give p k x e
unfolding lost gained after_give
give_gains p k x plan in-p s (Feed m) ok = by_bool (λ b. cond b (one_at x m) 0 ≤ 0 + 0) (nat_lt k 0) (λ t. absurd (let u = ltb-true k 0 t in omega arith)) (λ _. omega arith)
give_gains p k x plan in-p s (Take w m) ok = omega arith
give_gains p k x plan in-p s (Give w m) ok =
    by_bool (λ b. cond b (one_at x m) (cond (nat_lt k (stage_at p w + 1)) (one_at x m) 0) ≤ cond (nat_lt k (stage_at p w)) (one_at x m) 0 + cond (nat_eq (stage_at p w) k) (one_at x m) 0) (is_last p (stage_at p w))
    (λ last.
    let at = eqb-true (stage_at p w + 1) (stages p) last in
    let r : nat_le k (stage_at p w) ≡ true = le-leb k (stage_at p w) (omega arith) in
    let e : one_at x m ≡ cond (nat_lt k (stage_at p w)) (one_at x m) 0 + cond (nat_eq (stage_at p w) k) (one_at x m) 0 = ap (λ b. cond b (one_at x m) 0) (sym r) ∙ join_at (stage_at p w) k (one_at x m) in
    omega arith)
    (λ _. let e = past_at (stage_at p w) k (one_at x m) in let f = join_at (stage_at p w) k (one_at x m) in omega arith)
give_gains p k x plan in-p s (Back w m) ok = omega arith
give_gains p k x plan in-p s (Leave w) ok = omega arith
give_gains p k x plan in-p s Halt ok = omega arith

pub given_just_once : (p : Layout) (n : ℕ) (h : List Event) → IsPlan p → is_legal_from_opening p n h ≡ true → all_done (standing p n h) ≡ true → (k x : ℕ) → k < stages p → x < n → gives_of p k x h ≡ 1
unfolding standing is_legal_from_opening after_give
given_just_once p n h plan legal done k x in-p below =
    let most = given_once p n h plan legal k x below in
    let a = count_least (after_give p k x) (is_give p k x) p n plan (give_gains p k x plan in-p) (opening p n) h (IsPlaced-opening p n) legal in
    let b = total-opening (after_give p k x) p n in
    let c : sum_by (after_give p k x).backlog (range_with_len 0 n) ≡ 0 = sum_by-zero (λ m. 0) (range_with_len 0 n) (λ m. refl) in
    let sized = IsSized-standing p n h in
    let d = done_weighs_at (after_give p k x) (after_all p (opening p n) h) x (rw (eq-eqb x x refl) refl) (omega (arith, sized.done)) (all_true-get (standing p n h).done x done (omega (arith, sized.done))) in
    omega arith

pub bounds_kept : (p : Layout) (n : ℕ) (h : List Event) → IsPlan p → is_legal_from_opening p n h ≡ true → KeepsBounds p n h
bounds_kept p n h plan legal = record {
  fed = fed_once p n h plan legal;
  taken = taken_once p n h plan legal;
  given = given_once p n h plan legal;
  short = short_enough p n h plan legal;
  queues = λ m. capacities_hold p n (take m h) plan (legal-take p n h m legal);
}

-- what a run's history is
pub whole_run : (p : Layout) (n : ℕ) (h : List Event) → IsPlan p → is_legal_from_opening p n h ≡ true → all_left (standing p n h) ≡ true
    → all_done (standing p n h) ≡ true → IsWhole p n h
whole_run p n h plan legal left done = record {
  legal = legal;
  left = left;
  done = done;
  fed = fed_just_once p n h plan legal done;
  taken = taken_just_once p n h plan legal done;
  given = given_just_once p n h plan legal done;
  bounds = bounds_kept p n h plan legal;
}
