-- What stands in a text of which a part was read.
use mathlib.Core.Bool.{true≢false}
use Rattle.std.specs.List.{position_or_len, position, starts_with}
use Rattle.std.specs.Str.{all_ascii_digits}
use Rattle.std.specs.Str.Parse.{digits_value}
use Rattle.std.proofs.Common.{◌≡◌, ◌≢◌, ℕ, ◌+◌, ◌-◌, ◌^◌, ◌<◌, ◌≤◌, ◌==◌, ◌&&◌, ◌||◌, ◌⊎◌, inl, inr, not, cond, nat_lt, nat_le, min, Bool, true, false, List, [], ◌∷◌, ◌++◌, length, take, drop, get_or, Option, Some, None, Result, Ok, Err, refl, sym, ap, ◌∙◌, arith, decimal, nat_eq}
use Rattle.std.proofs.lemmas.Bool.{eqb-false}
use Rattle.std.proofs.lemmas.Bool.Decides.{nat_tests, Decides-eqb}
use Rattle.std.proofs.lemmas.Option.{cond_some}
use Rattle.std.proofs.lemmas.Fmt.{decimal-digits_value}
use Rattle.std.proofs.lemmas.Str.Parse.{IsNumeralModel, numerals_by_value, tells_all_ascii_digits}
use Rattle.std.proofs.lemmas.List.{append_assoc, length-take, length-append, take-take, take-append-drop, drop_more, get_or-take}
use Rattle.std.proofs.lemmas.List.Sums.{passes_at_first, prefix_len-le-length}
use Rattle.std.proofs.lemmas.Slice.Eq.{starts_is}
use Rattle.devices.specs.Reference.{line_feed}
use Rattle.devices.specs.declared.text.Stop.{Stop}
use Rattle.devices.specs.Numbers.{is_decimal, number_of, number_and_rest, three_numbers, ◌>>=◌ as ◌>?=◌}
use Rattle.devices.specs.Texts.{Ahead, byte_at, line_at, run_at, line_start, available, past}
use Rattle.devices.proofs.Taking.{byte_inverse}

-- these bytes were taken from what was ahead
pub record TakesAhead (a : Ahead) (taken : List ℕ) (b : Ahead) : Type 0 where
  pub bytes : a.bytes ≡ taken ++ b.bytes
  pub left : a.left ≡ length taken + b.left

pub ahead_then : (a b c : Ahead) (xs ys : List ℕ) → TakesAhead a xs b → TakesAhead b ys c → TakesAhead a (xs ++ ys) c
ahead_then a b c xs ys p q = record {
  bytes = p.bytes ∙ (ap (λ v. xs ++ v) q.bytes ∙ sym (append_assoc xs ys c.bytes));
  left = omega (arith, p.left, q.left, length-append xs ys);
}

-- the guard before the rest let it pass
pub unless_ok : {A E : Type 0} (b : Bool) (e : E) (r : Result A E) (y : A) → cond b (Err e) r ≡ Ok y → (b ≡ false) × (r ≡ Ok y)
unless_ok true e r y h = absurd cc
unless_ok false e r y h = (refl, h)

pub when_ok : {A E : Type 0} (b : Bool) (e : E) (r : Result A E) (y : A) → cond b r (Err e) ≡ Ok y → (b ≡ true) × (r ≡ Ok y)
when_ok true e r y h = (refl, h)
when_ok false e r y h = absurd cc

pub ok_is : {A E : Type 0} (x y : A) (r s : Result A E) → r ≡ Ok x → s ≡ Ok y → r ≡ s → x ≡ y
ok_is x y r s a b h = cc

some_is : {A : Type 0} (x y : A) (o : Option A) → o ≡ Some x → o ≡ Some y → x ≡ y
some_is x y o a b = cc

pub line_inverse : (a b : Ahead) (line : List ℕ) → line_at a ≡ Ok (line, b) → TakesAhead a (line ++ line_feed ∷ []) b
line_inverse a b line h =
    let full = unless_ok (length (line_start a) == 65) _ _ _ h in
    let all = unless_ok (length (line_start a) == length (available a)) _ _ _ full.1 in
    let pair : (line_start a, past (length (line_start a) + 1) a) ≡ (line, b) = ok_is {A = List ℕ × Ahead} {E = Stop} _ _ _ _ refl refl all.1 in
    let F = take 65 (available a) in
    let k = position_or_len (λ c. c == 10) F in
    let within : k ≤ length F = prefix_len-le-length _ F in
    let long : length (line_start a) ≡ k = omega (arith, length-take k F) in
    let size : length F ≡ min 65 (length (available a)) = length-take 65 (available a) in
    let size_front : length (available a) ≡ min a.left (length a.bytes) = length-take a.left a.bytes in
    let not_full : k ≢ 65 = λ e. eqb-false (length (line_start a)) 65 full.0 (long ∙ e) in
    let not_all : k ≢ length (available a) = λ e. eqb-false (length (line_start a)) (length (available a)) all.0 (long ∙ e) in
    let found : k < length F = omega (arith, not_full, not_all) in
    let is : get_or F k 0 ≡ 10 = (Decides-eqb (get_or F k 0) 10).0 (passes_at_first (λ c. c == 10) F 0 found) in
    let same : get_or a.bytes k 0 ≡ 10 =
    sym (get_or-take a.left a.bytes k 0 (omega arith)) ∙ sym (get_or-take 65 (available a) k 0 (omega arith)) ∙ is in
    let cut : line_start a ≡ take k a.bytes = take-take k 65 (available a) (omega arith) ∙ take-take k a.left a.bytes (omega arith) in
    let line_is : line ≡ take k a.bytes = sym (ap (λ (p : List ℕ × Ahead). p.0) pair) ∙ cut in
    let rest_is : drop (k + 1) a.bytes ≡ b.bytes = ap (λ n. drop (n + 1) a.bytes) (sym long) ∙ ap (λ (p : List ℕ × Ahead). p.1.bytes) pair in
    let left_is : a.left - (length (line_start a) + 1) ≡ b.left = ap (λ (p : List ℕ × Ahead). p.1.left) pair in
    let here : a.bytes ≡ take k a.bytes ++ (10 ∷ drop (k + 1) a.bytes) =
    sym (take-append-drop k a.bytes) ∙ ap (λ v. take k a.bytes ++ v) (drop_more a.bytes k 0 (omega arith) ∙ ap (λ c. c ∷ drop (k + 1) a.bytes) same) in
    record {
      bytes = here ∙ ap (λ v. take k a.bytes ++ (10 ∷ v)) rest_is ∙ ap (λ v. v ++ (10 ∷ b.bytes)) (sym line_is) ∙ sym (append_assoc line (10 ∷ []) b.bytes);
      left = omega (arith, length-append line (line_feed ∷ []), ap length line_is, length-take k a.bytes);
    }

pub run_inverse : (n : ℕ) (a b : Ahead) (run : List ℕ) → run_at n a ≡ Ok (run, b) → TakesAhead a run b × (length run ≡ n)
run_inverse n a b run h =
    let there = when_ok (nat_le n (length (available a))) _ _ _ h in
    let pair : (take n a.bytes, past n a) ≡ (run, b) = ok_is {A = List ℕ × Ahead} {E = Stop} _ _ _ _ refl refl there.1 in
    let run_is : take n a.bytes ≡ run = ap (λ (p : List ℕ × Ahead). p.0) pair in
    let rest_is : drop n a.bytes ≡ b.bytes = ap (λ (p : List ℕ × Ahead). p.1.bytes) pair in
    let left_is : a.left - n ≡ b.left = ap (λ (p : List ℕ × Ahead). p.1.left) pair in
    let enough : n ≤ length (available a) = let t = there.0 in grind (arith, nat_tests) in
    let size_front : length (available a) ≡ min a.left (length a.bytes) = length-take a.left a.bytes in
    let size : length run ≡ n = omega (arith, ap length run_is, length-take n a.bytes) in (
      record {
        bytes = sym (take-append-drop n a.bytes) ∙ ap (λ v. v ++ drop n a.bytes) run_is ∙ ap (λ v. run ++ v) rest_is;
        left = omega arith;
      },
      size,
    )

pub byte_takes : (a b : Ahead) (c : ℕ) → byte_at a ≡ Ok (c, b) → TakesAhead a (c ∷ []) b
byte_takes a b c h =
    let i = byte_inverse a.bytes b.bytes a.left b.left c h in
    record { bytes = i.0; left = omega (arith, i.1) }

own : IsNumeralModel (λ ds. all_ascii_digits ds ≡ true) (digits_value 10)
own = numerals_by_value (λ ds. all_ascii_digits ds ≡ true) tells_all_ascii_digits

number_canonical : (ds : List ℕ) (n : ℕ) → all_ascii_digits ds ≡ true → 0 < length ds → (get_or ds 0 0 ≡ 48 → length ds ≡ 1)
    → min (digits_value 10 ds) (2 ^ 64 - 1) ≡ n → n < 2 ^ 64 - 1 → ds ≡ decimal n
number_canonical ds n digits some zeros is small =
    let exact : digits_value 10 ds ≡ n = omega arith in
    sym (decimal-digits_value own ds digits some zeros (omega arith)) ∙ ap decimal exact

both : (b c : Bool) → (b && c) ≡ true → (b ≡ true) × (c ≡ true)
both true c h = (refl, h)
both false c h = absurd (true≢false (sym h))

pub number_inverse : (ds : List ℕ) (n : ℕ) → number_of ds ≡ Some n → n < 2 ^ 64 - 1 → ds ≡ decimal n
number_inverse [] n h small = absurd cc
number_inverse (d ∷ []) n h small =
    let s = cond_some (is_decimal (d ∷ [])) _ _ h in
    number_canonical (d ∷ []) n s.0 (omega arith) (λ z. refl) s.1 small
number_inverse (d ∷ e ∷ ds) n h small =
    let s = cond_some (is_decimal (d ∷ e ∷ ds)) _ _ h in
    let b = both (not (d == 48)) (all_ascii_digits (d ∷ e ∷ ds)) s.0 in
    number_canonical (d ∷ e ∷ ds) n b.1 (omega arith) (λ z. absurd (let first = b.0 in grind (arith, nat_tests))) s.1 small

bind_some : {A B : Type 0} (o : Option A) (f : A → Option B) (y : B) → (o >?= f) ≡ Some y → (x : A) × (o ≡ Some x) × (f x ≡ Some y)
bind_some (Some x) f y h = (x, refl, h)
bind_some None f y h = absurd cc

pub rest_inverse : (text : List ℕ) (n : ℕ) (rest : List ℕ) → number_and_rest text ≡ Some (n, rest) → n < 2 ^ 64 - 1 → text ≡ decimal n ++ 32 ∷ rest
rest_inverse text n rest h small =
    let at = bind_some (position (λ b. b == 32) text) _ _ h in
    let k = at.0 in
    let number = bind_some (number_of (take k text)) _ _ at.2 in
    let pair : (number.0, drop (k + 1) text) ≡ (n, rest) = some_is {A = ℕ × List ℕ} _ _ _ refl number.2 in
    let number_is : number.0 ≡ n = ap (λ (p : ℕ × List ℕ). p.0) pair in
    let rest_is : drop (k + 1) text ≡ rest = ap (λ (p : ℕ × List ℕ). p.1) pair in
    let first = cond_some (nat_lt (position_or_len (λ b. b == 32) text) (length text)) _ _ at.1 in
    let within : position_or_len (λ b. b == 32) text < length text = let t = first.0 in grind (arith, nat_tests) in
    let is : get_or text k 0 ≡ 32 = ap (λ i. get_or text i 0) (sym first.1)
    ∙ (Decides-eqb (get_or text (position_or_len (λ b. b == 32) text) 0) 32).0 (passes_at_first (λ b. b == 32) text 0 within) in
    let front_is : take k text ≡ decimal n = number_inverse (take k text) n (number.1 ∙ ap (λ v. Some v) number_is) small in
    sym (take-append-drop k text) ∙ ap (λ v. v ++ drop k text) front_is
    ∙ ap (λ v. decimal n ++ v) (drop_more text k 0 (let e = first.1 in omega arith) ∙ ap (λ c. c ∷ drop (k + 1) text) is ∙ ap (λ v. 32 ∷ v) rest_is)

pub three_inverse : (text : List ℕ) (a b c : ℕ) → three_numbers text ≡ Some (a, b, c) → a < 2 ^ 64 - 1 → b < 2 ^ 64 - 1 → c < 2 ^ 64 - 1
    → text ≡ decimal a ++ 32 ∷ (decimal b ++ 32 ∷ decimal c)
three_inverse text a b c h sa sb sc =
    let first = bind_some (number_and_rest text) _ _ h in
    let second = bind_some (number_and_rest first.0.1) _ _ first.2 in
    let third = bind_some (number_of second.0.1) _ _ second.2 in
    let all : (first.0.0, second.0.0, third.0) ≡ (a, b, c) = some_is {A = ℕ × ℕ × ℕ} _ _ _ refl third.2 in
    let a_is : first.0.0 ≡ a = ap (λ (p : ℕ × ℕ × ℕ). p.0) all in
    let b_is : second.0.0 ≡ b = ap (λ (p : ℕ × ℕ × ℕ). p.1) all in
    let c_is : third.0 ≡ c = ap (λ (p : ℕ × ℕ × ℕ). p.2) all in
    rest_inverse text a first.0.1 (first.1 ∙ ap (λ n. Some (n, first.0.1)) a_is) sa
    ∙ ap (λ v. decimal a ++ 32 ∷ v) (rest_inverse first.0.1 b second.0.1 (second.1 ∙ ap (λ n. Some (n, second.0.1)) b_is) sb
    ∙ ap (λ v. decimal b ++ 32 ∷ v) (number_inverse second.0.1 c (third.1 ∙ ap (λ n. Some n) c_is) sc))

pub begins : (line word : List ℕ) → starts_with nat_eq line word ≡ true → line ≡ word ++ drop (length word) line
begins line word h = (starts_is Decides-eqb line word (starts_with nat_eq line word) refl).0 h

-- which way a choice of two went
pub chosen : {A : Type 0} (b : Bool) (x y z : A) → cond b x y ≡ z → ((b ≡ true) × (x ≡ z)) ⊎ ((b ≡ false) × (y ≡ z))
chosen true x y z h = inl (refl, h)
chosen false x y z h = inr (refl, h)

-- neither test failed, of which the first asks for a line feed
pub ends_by_feed : (c : ℕ) (good : Bool) → (not (c == line_feed) || not good) ≡ false → c ≡ line_feed
ends_by_feed c good h = (Decides-eqb c line_feed).0 (go (c == line_feed) h)
  where
    go : (b : Bool) → (not b || not good) ≡ false → b ≡ true
    go true e = refl
    go false e = absurd (true≢false e)
