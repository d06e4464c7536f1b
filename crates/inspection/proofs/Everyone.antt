-- Sums and shares over all numbers, and over all connections that there have been.
use Rattle.std.proofs.Common.{◌≡◌, ◌≢◌, ℕ, zero, suc, ◌+◌, ◌<◌, ◌≤◌, inl, inr, cond, List, [], ◌∷◌, ◌++◌, length, map, take, get_or, refl, sym, ap, ◌∙◌, arith, nat_lt}
use Rattle.std.specs.Prelude.{sum_by, All}
use Rattle.std.specs.List.{range_with_len}
use Rattle.std.proofs.lemmas.Bool.{cases_lt}
use Rattle.std.proofs.lemmas.Bool.Decides.{eqb_tells}
use Rattle.std.proofs.lemmas.List.{take_all}
use Rattle.std.proofs.lemmas.List.Elements.{All-head, All-tail}
use Rattle.std.proofs.lemmas.List.FromFn.{length-range_with_len, map-range_with_len_more}
use Rattle.std.proofs.lemmas.List.Sums.{sum_by_push, sum_by_more, sum_by-cons, sum_by-append}
use Rattle.std.proofs.Math.ListN.{get_or-eq_default}
use Rattle.captures.specs.declared.record.Record.{Record}
use Rattle.captures.specs.Reference.{connection_now}
use Rattle.inspection.specs.declared.inspection.Share.{Share}
use Rattle.inspection.specs.declared.tails.Tail.{Tail}
use Rattle.inspection.specs.Figures.{share_over, connection_numbers, every_number, every_connection, ended}
use Rattle.inspection.specs.Running.{tail_at, empty_tail, joined}

-- ---- sums over ranges

range_more : (n : ℕ) → range_with_len 0 (n + 1) ≡ range_with_len 0 n ++ n ∷ []
range_more n = sym (map_same (range_with_len 0 (n + 1))) ∙ map-range_with_len_more (λ x. x) 0 n n (omega arith) ∙ ap (λ l. l ++ n ∷ []) (map_same (range_with_len 0 n))
  where
    map_same : (xs : List ℕ) → map (λ x. x) xs ≡ xs
    map_same [] = refl
    map_same (x ∷ xs) = ap (λ l. x ∷ l) (map_same xs)

sum_to_more : (g : ℕ → ℕ) (n : ℕ) → sum_by g (range_with_len 0 (suc n)) ≡ sum_by g (range_with_len 0 n) + g n
sum_to_more g n = ap (λ k. sum_by g (range_with_len 0 k)) (let e : suc n ≡ n + 1 = omega arith in e) ∙ ap (sum_by g) (range_more n) ∙ sum_by_push g (range_with_len 0 n) n

same_to : (f g : ℕ → ℕ) (n : ℕ) → ((c : ℕ) → c < n → f c ≡ g c) → sum_by f (range_with_len 0 n) ≡ sum_by g (range_with_len 0 n)
same_to f g zero same = refl
same_to f g (suc n) same =
    let before = same_to f g n (λ c lt. same c (omega (arith, lt))) in
    let last = same n (omega arith) in
    omega (arith, before, last, sum_to_more f n, sum_to_more g n)

-- the sum changes by what one term does
one_changed : (f g : ℕ → ℕ) (n conn : ℕ) → conn < n → ((c : ℕ) → c < n → c ≢ conn → g c ≡ f c) → sum_by g (range_with_len 0 n) + f conn ≡ sum_by f (range_with_len 0 n) + g conn
one_changed f g zero conn lt same = absurd (omega (arith, lt))
one_changed f g (suc n) conn lt same = elim (eqb_tells n conn) [
  | inl last ↦ (
      let before = same_to g f n (λ c less. same c (omega (arith, less)) (λ e. (let s = last.1 in omega (arith, less, e, s)))) in
      omega (arith, before, sum_to_more f n, sum_to_more g n, ap f last.1, ap g last.1))
  | inr other ↦ (
      let a = other.1 in
      let before = one_changed f g n conn (omega (arith, lt, a)) (λ c less apart. same c (omega (arith, less)) apart) in
      let last = same n (omega arith) a in
      omega (arith, before, last, sum_to_more f n, sum_to_more g n))
]

-- ---- numbers

numbers : connection_numbers ≡ 65536
unfolding connection_numbers
numbers = refl

pub same_numbers : (f g : ℕ → ℕ) → ((c : ℕ) → c < 65536 → f c ≡ g c) → sum_by f every_number ≡ sum_by g every_number
same_numbers f g same = let n = numbers in same_to f g connection_numbers (λ c lt. same c (omega (arith, n, lt)))

pub one_number : (f g : ℕ → ℕ) (conn : ℕ) → conn < 65536 → ((c : ℕ) → c < 65536 → c ≢ conn → g c ≡ f c) → sum_by g every_number + f conn ≡ sum_by f every_number + g conn
one_number f g conn lt same = let n = numbers in one_changed f g connection_numbers conn (omega (arith, n, lt)) (λ c less. same c (omega (arith, n, less)))

pub no_more_numbers : length every_number ≡ 65536
no_more_numbers = length-range_with_len 0 connection_numbers ∙ numbers

-- the sum over all numbers is the sum over what is kept
sum_up_to : (f : Tail → ℕ) (tails : List Tail) (n : ℕ) → f empty_tail ≡ 0 → sum_by (λ c. f (tail_at tails c)) (range_with_len 0 n) ≡ sum_by f (take n tails)
sum_up_to f tails zero none = refl
sum_up_to f tails (suc n) none =
    let g : ℕ → ℕ = λ c. f (tail_at tails c) in
    let before = sum_up_to f tails n none in
    let more = sum_to_more g n in
    elim (cases_lt n (length tails)) [
      | inl lt ↦ (
          let step : sum_by f (take (suc n) tails) ≡ sum_by f (take n tails) + f (get_or tails n empty_tail) =
          ap (λ k. sum_by f (take k tails)) (let e : suc n ≡ n + 1 = omega arith in e) ∙ sum_by_more f tails n empty_tail lt in
          omega (arith, more, before, step))
      | inr ge ↦ (
          let same : sum_by f (take (suc n) tails) ≡ sum_by f (take n tails) = ap (sum_by f) (take_all (suc n) tails (omega (arith, ge)) ∙ sym (take_all n tails ge)) in
          let zero_there : g n ≡ 0 = ap f (get_or-eq_default tails empty_tail ge) ∙ none in
          omega (arith, more, before, same, zero_there))
    ]

pub sum_over_tails : (f : Tail → ℕ) (g : ℕ → ℕ) (tails : List Tail) → length tails ≤ 65536 → f empty_tail ≡ 0 → ((c : ℕ) → c < 65536 → g c ≡ f (tail_at tails c)) → sum_by f tails ≡ sum_by g every_number
sum_over_tails f g tails few none same =
    let n = numbers in
    sym (same_numbers g (λ c. f (tail_at tails c)) same ∙ sum_up_to f tails connection_numbers none ∙ ap (sum_by f) (take_all connection_numbers tails (omega (arith, few, n))))

-- ---- connections

sum_map : {X Y : Type 0} (f : Y → ℕ) (g : X → Y) (xs : List X) → sum_by f (map g xs) ≡ sum_by (λ x. f (g x)) xs
sum_map f g [] = refl
sum_map f g (x ∷ xs) =
    let rest = sum_map f g xs in let first = sum_by-cons f (g x) (map g xs) in let last = sum_by-cons (λ y. f (g y)) x xs in
    omega (arith, rest, first, last)

-- a sum over all is that over the ended ones, and that over those that numbers name now
pub sum_over_all : (f : ℕ → ℕ) (records : List Record) → sum_by f (every_connection records) ≡ sum_by f (ended records) + sum_by (λ c. f (connection_now c records)) every_number
sum_over_all f records =
    let both = sum_by-append f (ended records) (map (λ c. connection_now c records) every_number) in
    let named = sum_map f (λ c. connection_now c records) every_number in
    omega (arith, both, named)

sums_joined : (f : Tail → ℕ) (on : ℕ → ℕ) (records : List Record) (tails : List Tail) (a b : ℕ) → length tails ≤ 65536 → f empty_tail ≡ 0
    → ((c : ℕ) → c < 65536 → on (connection_now c records) ≡ f (tail_at tails c)) → a ≡ sum_by on (ended records) → b ≡ a + sum_by f tails → b ≡ sum_by on (every_connection records)
sums_joined f on records tails a b few none same before all =
    let kept = sum_over_tails f (λ c. on (connection_now c records)) tails few none same in
    omega (arith, before, all, kept, sum_over_all on records)

pub share_over_all : (f : Tail → ℕ) (on : ℕ → ℕ) (records : List Record) (tails : List Tail) (share all : Share) → length tails ≤ 65536 → f empty_tail ≡ 0
    → ((c : ℕ) → c < 65536 → on (connection_now c records) ≡ f (tail_at tails c)) → share ≡ share_over on (ended records) → all ≡ joined share (share_over f tails) → all ≡ share_over on (every_connection records)
share_over_all f on records tails share all few none same before is =
    let bytes = sums_joined f on records tails share.bytes all.bytes few none same (ap (λ s. s.bytes) before) (ap (λ s. s.bytes) is) in
    let connections = sums_joined (λ t. cond (nat_lt 0 (f t)) 1 0) (λ c. cond (nat_lt 0 (on c)) 1 0) records tails share.connections all.connections few (ap (λ n. cond (nat_lt 0 n) 1 0) none)
    (λ c low. ap (λ n. cond (nat_lt 0 n) 1 0) (same c low)) (ap (λ s. s.connections) before) (ap (λ s. s.connections) is) in
    λ i. record { bytes = bytes i; connections = connections i }

-- ---- the same of each of a list

pub same_sums : {X : Type 0} (P : X → Type 0) (f g : X → ℕ) (xs : List X) → ((x : X) → P x → f x ≡ g x) → All P xs → sum_by f xs ≡ sum_by g xs
same_sums P f g [] same all = refl
same_sums P f g (x ∷ xs) same all =
    let rest = same_sums P f g xs same (All-tail P x xs all) in
    let first = same x (All-head P x xs all) in
    omega (arith, rest, first, sum_by-cons f x xs, sum_by-cons g x xs)

pub same_shares : (P : ℕ → Type 0) (f g : ℕ → ℕ) (xs : List ℕ) → ((x : ℕ) → P x → f x ≡ g x) → All P xs → share_over f xs ≡ share_over g xs
same_shares P f g xs same all =
    let bytes = same_sums P f g xs same all in
    let connections = same_sums P (λ x. cond (nat_lt 0 (f x)) 1 0) (λ x. cond (nat_lt 0 (g x)) 1 0) xs (λ x own. ap (λ n. cond (nat_lt 0 n) 1 0) (same x own)) all in
    λ i. record { bytes = bytes i; connections = connections i }
