-- What was read is read again.
use Rattle.std.specs.List.{prefix_len, position}
use Rattle.std.specs.Str.{all_ascii_digits}
use Rattle.std.specs.Char.{is_ascii_digit}
use Rattle.std.specs.Str.Parse.{digits_value}
use Rattle.std.proofs.Common.{◌≡◌, ℕ, suc, zero, ◌+◌, ◌-◌, ◌^◌, ◌<◌, ◌≤◌, ◌==◌, not, cond, nat_lt, min, Bool, true, false, List, [], ◌∷◌, ◌++◌, length, take, drop, get_or, Option, Some, refl, sym, ap, ◌∙◌, arith, codes, decimal, eq-eqb, ◌||◌, nat_le, Result, Ok, Err}
use Rattle.std.proofs.lemmas.Bool.{ne_eqb}
use Rattle.std.proofs.lemmas.Bool.Decides.{nat_tests}
use Rattle.std.proofs.lemmas.Grind.{common_steps}
use Rattle.std.proofs.lemmas.Fmt.{digits_decimal, digits_value-decimal, length-decimal-le, decimal_nonempty, first_decimal}
use Rattle.std.proofs.lemmas.Str.Parse.{IsNumeralModel, numerals_by_value, tells_all_ascii_digits}
use Rattle.std.proofs.lemmas.List.{append_assoc, length-append, take_at, drop_at, length-take}
use Rattle.std.proofs.lemmas.List.Folds.{prefix_len-append}
use Rattle.devices.specs.Reference.{line_feed}
use Rattle.devices.specs.Numbers.{is_decimal, number_of, number_and_rest, three_numbers, ◌>>=◌ as ◌>?=◌}
use Rattle.devices.specs.Texts.{Ahead, byte_at, run_at, available, past as beyond, ended}
use Rattle.devices.specs.declared.text.Stop.{Stop}

pub meet : {A : Type 0} (b : Bool) (r e : A) → b ≡ true → cond b r e ≡ r
meet true r e h = refl
meet false r e h = absurd cc

own : IsNumeralModel (λ ds. all_ascii_digits ds ≡ true) (digits_value 10)
own = numerals_by_value (λ ds. all_ascii_digits ds ≡ true) tells_all_ascii_digits

decimal_is : (ds : List ℕ) → all_ascii_digits ds ≡ true → 0 < length ds → (get_or ds 0 0 ≡ 48 → length ds ≡ 1) → is_decimal ds ≡ true
decimal_is [] h some lead = absurd (omega arith)
decimal_is (d ∷ []) h some lead = h
decimal_is (d ∷ e ∷ ds) h some lead = rw (ne_eqb d 48 (λ same. omega (arith, lead same)), h) refl

leads : (n : ℕ) → n < 2 ^ 64 → get_or (decimal n) 0 0 ≡ 48 → length (decimal n) ≡ 1
leads zero small h = omega (arith, length-decimal-le 1 0 (omega arith) (omega arith) small, decimal_nonempty 0 small)
leads (suc n) small h = absurd (omega (arith, first_decimal (suc n) (omega arith) small))

pub number_again : (n : ℕ) → n < 2 ^ 64 - 1 → number_of (decimal n) ≡ Some n
number_again n small =
    let is : is_decimal (decimal n) ≡ true = decimal_is (decimal n) (digits_decimal own n (omega arith)) (decimal_nonempty n (omega arith)) (leads n (omega arith)) in
    let value : digits_value 10 (decimal n) ≡ n = digits_value-decimal own n (omega arith) in
    let least : min (digits_value 10 (decimal n)) (2 ^ 64 - 1) ≡ n = omega arith in
    meet (is_decimal (decimal n)) _ _ is ∙ ap (λ v. Some v) least

-- no digit is a space or a line feed
digits_pass : (c : ℕ) (ds : List ℕ) → c < 48 → all_ascii_digits ds ≡ true → prefix_len (λ b. not (b == c)) ds ≡ length ds
digits_pass c [] low h = refl
digits_pass c (d ∷ ds) low h =
    let first : is_ascii_digit d ≡ true = grind (arith, common_steps) in
    let others : all_ascii_digits ds ≡ true = grind (arith, common_steps) in
    let more : prefix_len (λ b. not (b == c)) ds ≡ length ds = digits_pass c ds low others in
    rw (ne_eqb d c (λ same. let t = first in grind (arith, nat_tests))) (omega arith)

pub decimal_passes : (c n : ℕ) → c < 48 → n < 2 ^ 64 - 1 → prefix_len (λ b. not (b == c)) (decimal n) ≡ length (decimal n)
decimal_passes c n low small = digits_pass c (decimal n) low (digits_decimal own n (omega arith))

pub passes_append : (p : ℕ → Bool) (xs ys : List ℕ) → prefix_len p xs ≡ length xs → prefix_len p ys ≡ length ys → prefix_len p (xs ++ ys) ≡ length (xs ++ ys)
passes_append p xs ys a b = rw (prefix_len-append p xs ys, eq-eqb (prefix_len p xs) (length xs) a, length-append xs ys) (omega arith)

drop_word : (ds rest : List ℕ) → drop (length ds + 1) (ds ++ 32 ∷ rest) ≡ rest
drop_word ds rest = ap (drop (length ds + 1)) (sym (append_assoc ds (32 ∷ []) rest)) ∙ drop_at (ds ++ 32 ∷ []) rest (length ds + 1) (length-append ds (32 ∷ []))

space_at : (ds rest : List ℕ) → prefix_len (λ b. not (b == 32)) ds ≡ length ds → position (λ b. b == 32) (ds ++ 32 ∷ rest) ≡ Some (length ds)
space_at ds rest h =
    let k : prefix_len (λ b. not (b == 32)) (ds ++ 32 ∷ rest) ≡ length ds =
    rw (prefix_len-append (λ b. not (b == 32)) ds (32 ∷ rest), eq-eqb (prefix_len (λ b. not (b == 32)) ds) (length ds) h) (omega arith) in
    let within : nat_lt (prefix_len (λ b. not (b == 32)) (ds ++ 32 ∷ rest)) (length (ds ++ 32 ∷ rest)) ≡ true = let l = length-append ds (32 ∷ rest) in grind (arith, nat_tests) in
    meet _ _ _ within ∙ ap (λ v. Some v) k

rest_again : (n : ℕ) (rest : List ℕ) → n < 2 ^ 64 - 1 → number_and_rest (decimal n ++ 32 ∷ rest) ≡ Some (n, rest)
rest_again n rest small =
    let text = decimal n ++ 32 ∷ rest in
    let split : number_of (take (length (decimal n)) text) ≡ Some n = ap number_of (take_at (decimal n) (32 ∷ rest) (length (decimal n)) refl) ∙ number_again n small in
    ap (λ (o : Option ℕ). o >?= λ space. number_of (take space text) >?= λ m. Some (m, drop (space + 1) text)) (space_at (decimal n) rest (decimal_passes 32 n (omega arith) small))
    ∙ (ap (λ (o : Option ℕ). o >?= λ m. Some (m, drop (length (decimal n) + 1) text)) split ∙ ap (λ v. Some (n, v)) (drop_word (decimal n) rest))

pub three_again : (a b c : ℕ) → a < 2 ^ 64 - 1 → b < 2 ^ 64 - 1 → c < 2 ^ 64 - 1 → three_numbers (decimal a ++ 32 ∷ (decimal b ++ 32 ∷ decimal c)) ≡ Some (a, b, c)
three_again a b c sa sb sc =
    ap (λ (o : Option (ℕ × List ℕ)). o >?= λ first. number_and_rest first.1 >?= λ second. number_of second.1 >?= λ third. Some (first.0, second.0, third)) (rest_again a (decimal b ++ 32 ∷ decimal c) sa)
    ∙ (ap (λ (o : Option (ℕ × List ℕ)). o >?= λ second. number_of second.1 >?= λ third. Some (a, second.0, third)) (rest_again b (decimal c) sb)
    ∙ ap (λ (o : Option ℕ). o >?= λ third. Some (a, b, third)) (number_again c sc))

pub words : (a b c : List ℕ) → codes "file " ++ a ++ codes " " ++ b ++ codes " " ++ c ≡ codes "file " ++ (a ++ 32 ∷ (b ++ 32 ∷ c))
words a b c = simp append_assoc

pub record IsLine (line : List ℕ) : Type 0 where
  pub feeds : prefix_len (λ b. not (b == 10)) line ≡ length line
  pub short : length line ≤ 64

pub digits_short : (k n : ℕ) → 0 < k → n < 10 ^ k → n < 2 ^ 64 - 1 → length (decimal n) ≤ k
digits_short k n some small wide = length-decimal-le k n some small (omega arith)

pub split : (n : ℕ) (a b c d : List ℕ) → length a ≡ n → length b ≡ n → a ++ c ≡ b ++ d → (a ≡ b) × (c ≡ d)
split n a b c d p q h = (sym (take_at a c n p) ∙ (ap (take n) h ∙ take_at b d n q), sym (drop_at a c n p) ∙ (ap (drop n) h ∙ drop_at b d n q))

abbrev pub end_text : ℕ → List ℕ
end_text n = (codes "end " ++ decimal n) ++ line_feed ∷ []

pub pass : {A : Type 0} (b : Bool) (e r : A) → b ≡ false → cond b e r ≡ r
pass true e r h = absurd cc
pass false e r h = refl

pub neither : (b c : Bool) → b ≡ false → c ≡ false → (b || c) ≡ false
neither true c h k = absurd cc
neither false c h k = k

pub byte_again : (c : ℕ) (t : List ℕ) (l nl : ℕ) → l ≡ 1 + nl → byte_at (record { bytes = c ∷ t; left = l }) ≡ Ok (c, record { bytes = t; left = nl })
byte_again c t l nl h =
    let a : Ahead = record { bytes = c ∷ t; left = l } in
    let there : nat_lt 0 (length (available a)) ≡ true = let s = length-take l (c ∷ t) in grind (arith, nat_tests) in
    let less : l - 1 ≡ nl = omega arith in
    meet (nat_lt 0 (length (available a))) (Ok (c, beyond 1 a)) (Err (ended a)) there
    ∙ ap (λ (k : ℕ). let r : Result (ℕ × Ahead) Stop = Ok (c, record { bytes = t; left = k }) in r) less

pub run_again : (n : ℕ) (run t : List ℕ) (l nl : ℕ) → length run ≡ n → l ≡ n + nl → run_at n (record { bytes = run ++ t; left = l }) ≡ Ok (run, record { bytes = t; left = nl })
run_again n run t l nl is left =
    let a : Ahead = record { bytes = run ++ t; left = l } in
    let there : nat_le n (length (available a)) ≡ true = let s = length-take l (run ++ t) in let m = length-append run t in grind (arith, nat_tests) in
    let bytes : take n (run ++ t) ≡ run = take_at run t n is in
    let rest : drop n (run ++ t) ≡ t = drop_at run t n is in
    let less : l - n ≡ nl = omega arith in
    meet (nat_le n (length (available a))) (Ok (take n (run ++ t), beyond n a)) (Err (ended a)) there
    ∙ ap (λ (v : List ℕ × Ahead). let r : Result (List ℕ × Ahead) Stop = Ok v in r) (λ i. (bytes i, record { bytes = rest i; left = less i }))

pub nothing_after : (xs : List ℕ) (b : ℕ) (rest : List ℕ) → [] ≡ b ∷ rest → ⊥
nothing_after xs b rest h = absurd cc
