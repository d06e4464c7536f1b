-- The bytes of a date's text, which stand in a value with no white space at its ends.
use Rattle.std.proofs.Common.{◌≡◌, ℕ, zero, suc, ◌+◌, ◌-◌, ◌/◌, ◌%◌, ◌<◌, ◌≤◌, ◌&&◌, not, Bool, true, false, List, [], ◌∷◌, ◌++◌, length, codes, get_or, reverse, refl, sym, ap, ◌∙◌, arith}
use Rattle.std.specs.List.{list_all}
use Rattle.std.proofs.lemmas.Bool.Decides.{nat_tests}
use Rattle.std.proofs.lemmas.List.{append_assoc, reverse-append, reverse-reverse}
use Rattle.std.proofs.lemmas.List.Elements.{All-cons, All-nil}
use Rattle.httparse.specs.Grammar.{AllPass, is_value_byte, is_ows, skip_ows, trim_ows}
use Rattle.httparse.proofs.TrimLemmas.{skip_ows_no}
use Rattle.httpdate.specs.declared.parts.Parts.{Parts}
use Rattle.httpdate.specs.Calendar.{days_in_month, days_from_civil, weekday}
use Rattle.httpdate.specs.Valid.{IsValid}
use Rattle.httpdate.specs.Text.{day_name, month_name, two_digits, time_of_day, asctime_date}
use Rattle.responses.specs.Reference.{parts_at}
use Rattle.slim.specs.Blocks.{short_date}
use Rattle.responses.proofs.DateLemmas.{parts_right}
use Rattle.slim.proofs.DateLemmas.{day_three}

pub both : (a b : Bool) → a && b ≡ true → (a ≡ true) × (b ≡ true)
both true true h = (refl, refl)
both true false h = absurd (cc)
both false b h = absurd (cc)

pub list_all-append : {A : Type 0} (test : A → Bool) (xs ys : List A) → list_all test xs ≡ true → list_all test ys ≡ true → list_all test (xs ++ ys) ≡ true
list_all-append test [] ys first second = second
list_all-append test (x ∷ xs) ys first second =
    let parts = both (test x) (list_all test xs) first in
    ap (λ b. b && list_all test (xs ++ ys)) parts.0 ∙ list_all-append test xs ys parts.1 second

pub passes : (test : ℕ → Bool) (xs : List ℕ) → list_all test xs ≡ true → AllPass test xs
passes test [] all = All-nil (λ b. test b ≡ true)
passes test (x ∷ xs) all =
    let parts = both (test x) (list_all test xs) all in
    All-cons (λ b. test b ≡ true) x xs parts.0 (passes test xs parts.1)

-- each byte may stand in a value
pub record Good (xs : List ℕ) : Type 0 where
  pub all : list_all is_value_byte xs ≡ true

pub joined : {xs ys : List ℕ} → Good xs → Good ys → Good (xs ++ ys)
joined {xs} {ys} first second = record { all = list_all-append is_value_byte xs ys first.all second.all }

names_pass : (test : ℕ → Bool) (names : List (List ℕ)) (n : ℕ) → list_all (list_all test) names ≡ true → list_all test (get_or names n []) ≡ true
names_pass test [] n all = refl
names_pass test (name ∷ names) zero all = (both (list_all test name) (list_all (list_all test) names) all).0
names_pass test (name ∷ names) (suc n) all = names_pass test names n (both (list_all test name) (list_all (list_all test) names) all).1

good_day : (n : ℕ) → Good (day_name n)
good_day n = record { all = names_pass is_value_byte (codes "Mon" ∷ codes "Tue" ∷ codes "Wed" ∷ codes "Thu" ∷ codes "Fri" ∷ codes "Sat" ∷ codes "Sun" ∷ []) (n - 1) refl }

good_month : (n : ℕ) → Good (month_name n)
good_month n = record {
  all = names_pass is_value_byte
      (codes "Jan" ∷ codes "Feb" ∷ codes "Mar" ∷ codes "Apr" ∷ codes "May" ∷ codes "Jun" ∷ codes "Jul" ∷ codes "Aug" ∷ codes "Sep" ∷ codes "Oct" ∷ codes "Nov" ∷ codes "Dec" ∷ []) (n - 1) refl;
}

digit_value : (n : ℕ) → n < 10 → is_value_byte (48 + n) ≡ true
digit_value n lt = grind (arith, nat_tests)

good_digits : (n : ℕ) → n < 100 → Good (two_digits n)
good_digits n lt = record { all = ap (λ b. b && list_all is_value_byte ((48 + n % 10) ∷ [])) (digit_value (n / 10) (omega arith)) ∙ ap (λ b. b && true) (digit_value (n % 10) (omega arith)) }

days_most : (year month : ℕ) → days_in_month year month ≤ 31
days_most year month = grind arith

good_date : (p : Parts) → IsValid p → Good (asctime_date (two_digits p.day) p)
good_date p valid =
    let space : Good (codes " ") = record { all = refl } in
    let colon : Good (codes ":") = record { all = refl } in
    let day : p.day < 100 = omega (arith, valid.0.2.1, days_most p.year p.mon) in
    let year : p.year / 100 < 100 = omega (arith, valid.0.0) in
    let low : p.year % 100 < 100 = omega arith in
    let hour : p.hour < 100 = omega (arith, valid.1.0) in
    let min : p.min < 100 = omega (arith, valid.1.1) in
    let sec : p.sec < 100 = omega (arith, valid.1.2) in
    let years = joined (good_digits (p.year / 100) year) (good_digits (p.year % 100) low) in
    let clock = joined (joined (joined (joined (good_digits p.hour hour) colon) (good_digits p.min min)) colon) (good_digits p.sec sec) in
    joined (joined (joined (joined (joined (joined (joined (joined (good_day p.wday) space) (good_month p.mon)) space) (good_digits p.day day)) space) clock) space) years

pub good_short : (second : ℕ) → second ≤ 253402300799 → Good (short_date second)
unfolding short_date
good_short second most = good_date (parts_at second) (parts_right second most).0

-- ---- its ends

-- a text with no white space at its ends is trimmed already
trim_keeps : (a b : ℕ) (rest front v : List ℕ) → v ≡ a ∷ rest → v ≡ front ++ b ∷ [] → is_ows a ≡ false → is_ows b ≡ false → trim_ows v ≡ v
unfolding trim_ows
trim_keeps a b rest front v first last neither nor =
    let one : skip_ows v ≡ v = skip_ows_no {b = a} {all = v} {rest = rest} first (sym neither) in
    let turned : reverse v ≡ b ∷ reverse front = ap reverse last ∙ reverse-append front (b ∷ []) in
    let two : skip_ows (reverse v) ≡ reverse v = skip_ows_no {b = b} {all = reverse v} {rest = reverse front} turned (sym nor) in
    ap (λ w. reverse (skip_ows (reverse w))) one ∙ ap reverse two ∙ reverse-reverse v

first_letter : (names : List (List ℕ)) (n : ℕ) → list_all (λ name. not (is_ows (get_or name 0 0))) names ≡ true → n < length names → is_ows (get_or (get_or names n []) 0 0) ≡ false
first_letter [] n all lt = absurd (omega (arith, lt))
first_letter (name ∷ names) zero all lt = flip (is_ows (get_or name 0 0)) (both (not (is_ows (get_or name 0 0))) _ all).0
  where
    flip : (b : Bool) → not b ≡ true → b ≡ false
    flip true h = absurd (cc)
    flip false h = refl
first_letter (name ∷ names) (suc n) all lt = first_letter names n (both (not (is_ows (get_or name 0 0))) _ all).1 (omega (arith, lt))

day_letter : (days : ℕ) → is_ows (get_or (day_name (weekday days)) 0 0) ≡ false
day_letter days = first_letter (codes "Mon" ∷ codes "Tue" ∷ codes "Wed" ∷ codes "Thu" ∷ codes "Fri" ∷ codes "Sat" ∷ codes "Sun" ∷ []) (weekday days - 1) refl (omega arith)

headed : (xs ys : List ℕ) → length xs ≡ 3 → xs ++ ys ≡ get_or xs 0 0 ∷ get_or xs 1 0 ∷ get_or xs 2 0 ∷ ys
headed [] ys is = absurd (omega (arith, is))
headed (a ∷ []) ys is = absurd (omega (arith, is))
headed (a ∷ b ∷ []) ys is = absurd (omega (arith, is))
headed (a ∷ b ∷ c ∷ []) ys is = refl
headed (a ∷ b ∷ c ∷ d ∷ xs) ys is = absurd (omega (arith, is))

digit_no_space : (n : ℕ) → n < 10 → is_ows (48 + n) ≡ false
digit_no_space n lt = grind (arith, nat_tests)

pub trimmed : (second : ℕ) → second ≤ 253402300799 → trim_ows (short_date second) ≡ short_date second
unfolding short_date
trimmed second most =
    let p = parts_at second in
    let valid = (parts_right second most).0 in
    let days = days_from_civil p.year p.mon p.day in
    let three : length (day_name p.wday) ≡ 3 = ap (λ w. length (day_name w)) valid.2 ∙ day_three days in
    let letter : is_ows (get_or (day_name p.wday) 0 0) ≡ false = ap (λ w. is_ows (get_or (day_name w) 0 0)) valid.2 ∙ day_letter days in
    let last : ℕ = 48 + p.year % 100 % 10 in
    let years : List ℕ = two_digits (p.year / 100) ++ (48 + p.year % 100 / 10) ∷ [] in
    let back : List ℕ = codes " " ++ (month_name p.mon ++ (codes " " ++ (two_digits p.day ++ (codes " " ++ (time_of_day p ++ (codes " " ++ (years ++ last ∷ []))))))) in
    let front : List ℕ = day_name p.wday ++ codes " " ++ month_name p.mon ++ codes " " ++ two_digits p.day ++ codes " " ++ time_of_day p ++ codes " " ++ years in
    trim_keeps (get_or (day_name p.wday) 0 0) last (get_or (day_name p.wday) 1 0 ∷ get_or (day_name p.wday) 2 0 ∷ back) front (asctime_date (two_digits p.day) p)
    (right (day_name p.wday) (month_name p.mon) (two_digits p.day) (time_of_day p) (years ++ last ∷ []) ∙ headed (day_name p.wday) back three)
    (split (day_name p.wday) (month_name p.mon) (two_digits p.day) (time_of_day p) years last) letter (digit_no_space (p.year % 100 % 10) (omega arith))
  where
    right : (d m n t y : List ℕ) → d ++ codes " " ++ m ++ codes " " ++ n ++ codes " " ++ t ++ codes " " ++ y ≡ d ++ (codes " " ++ (m ++ (codes " " ++ (n ++ (codes " " ++ (t ++ (codes " " ++ y)))))))
    right d m n t y = simp append_assoc

    split : (d m n t y : List ℕ) (last : ℕ) → d ++ codes " " ++ m ++ codes " " ++ n ++ codes " " ++ t ++ codes " " ++ (y ++ last ∷ []) ≡ (d ++ codes " " ++ m ++ codes " " ++ n ++ codes " " ++ t ++ codes " " ++ y) ++ last ∷ []
    split d m n t y last = simp append_assoc
