-- The short text of a second is that of the date which `httpdate` keeps for it.
use Rattle.std.proofs.Common.{◌≡◌, ℕ, zero, suc, ◌-◌, ◌<◌, ◌≤◌, Bool, true, false, ◌==◌, ◌&&◌, List, [], ◌∷◌, ◌++◌, length, codes, get_or, refl, sym, ap, ◌∙◌, subst, arith}
use Rattle.std.specs.List.{list_all}
use Rattle.std.proofs.lemmas.Bool.Decides.{nat_tests}
use Rattle.httpdate.specs.declared.parts.Parts.{Parts}
use Rattle.httpdate.specs.declared.date.HttpDate.{HttpDate}
use Rattle.httpdate.specs.Calendar.{days_from_civil, weekday}
use Rattle.httpdate.specs.Date.{unix_secs, date_text}
use Rattle.httpdate.specs.Text.{day_name, month_name, two_digits, four_digits, time_of_day, imf_fixdate}
use Rattle.httpdate.proofs.Theorems.{date_text_is}
use Rattle.httpdate.proofs.ValidLemmas.{is_valid_complete}
use Rattle.responses.specs.Reference.{parts_at}
use Rattle.responses.proofs.DateLemmas.{parts_right}
use Rattle.slim.specs.Blocks.{short_date}

-- the names of days and months have three letters
named : (names : List (List ℕ)) (n : ℕ) → list_all (λ name. length name == 3) names ≡ true → n < length names → length (get_or names n []) ≡ 3
named [] n all lt = absurd (omega (arith, lt))
named (name ∷ names) zero all lt = (let h : (length name == 3) ≡ true = (both (length name == 3) _ all).0 in grind (arith, nat_tests, h))
  where
    both : (a b : Bool) → a && b ≡ true → (a ≡ true) × (b ≡ true)
    both true true h = (refl, refl)
    both true false h = absurd (cc)
    both false b h = absurd (cc)
named (name ∷ names) (suc n) all lt = named names n (rest (length name == 3) _ all) (omega (arith, lt))
  where
    rest : (a b : Bool) → a && b ≡ true → b ≡ true
    rest true true h = refl
    rest true false h = absurd (cc)
    rest false b h = absurd (cc)

pub day_three : (days : ℕ) → length (day_name (weekday days)) ≡ 3
day_three days = named (codes "Mon" ∷ codes "Tue" ∷ codes "Wed" ∷ codes "Thu" ∷ codes "Fri" ∷ codes "Sat" ∷ codes "Sun" ∷ []) (weekday days - 1) refl (omega arith)

pub month_three : (month : ℕ) → 1 ≤ month → month ≤ 12 → length (month_name month) ≡ 3
month_three month low high = named
    (codes "Jan" ∷ codes "Feb" ∷ codes "Mar" ∷ codes "Apr" ∷ codes "May" ∷ codes "Jun" ∷ codes "Jul" ∷ codes "Aug" ∷ codes "Sep" ∷ codes "Oct" ∷ codes "Nov" ∷ codes "Dec" ∷ [])
    (month - 1) refl (omega (arith, low, high))

three : (xs : List ℕ) → length xs ≡ 3 → xs ≡ get_or xs 0 0 ∷ get_or xs 1 0 ∷ get_or xs 2 0 ∷ []
three [] is = absurd (omega (arith, is))
three (a ∷ []) is = absurd (omega (arith, is))
three (a ∷ b ∷ []) is = absurd (omega (arith, is))
three (a ∷ b ∷ c ∷ []) is = refl
three (a ∷ b ∷ c ∷ d ∷ xs) is = absurd (omega (arith, is))

-- the bytes of the long text, in the order of the short one
abbrev pub picked : List ℕ → List ℕ
picked t = get_or t 0 0 ∷ get_or t 1 0 ∷ get_or t 2 0 ∷ 32 ∷ get_or t 8 0 ∷ get_or t 9 0 ∷ get_or t 10 0 ∷ 32 ∷ get_or t 5 0 ∷ get_or t 6 0
    ∷ 32 ∷ get_or t 17 0 ∷ get_or t 18 0 ∷ 58 ∷ get_or t 20 0 ∷ get_or t 21 0 ∷ 58 ∷ get_or t 23 0 ∷ get_or t 24 0 ∷ 32
    ∷ get_or t 12 0 ∷ get_or t 13 0 ∷ get_or t 14 0 ∷ get_or t 15 0 ∷ []

abbrev long : List ℕ → List ℕ → Parts → List ℕ
long day month p = day ++ codes ", " ++ two_digits p.day ++ codes " " ++ month ++ codes " " ++ four_digits p.year ++ codes " " ++ time_of_day p ++ codes " GMT"

abbrev short : List ℕ → List ℕ → Parts → List ℕ
short day month p = day ++ codes " " ++ month ++ codes " " ++ two_digits p.day ++ codes " " ++ time_of_day p ++ codes " " ++ four_digits p.year

by_letters : (a b c d e f : ℕ) (p : Parts) → picked (long (a ∷ b ∷ c ∷ []) (d ∷ e ∷ f ∷ []) p) ≡ short (a ∷ b ∷ c ∷ []) (d ∷ e ∷ f ∷ []) p
by_letters a b c d e f p = refl

by_names : (day month : List ℕ) (p : Parts) → length day ≡ 3 → length month ≡ 3 → picked (long day month p) ≡ short day month p
by_names day month p days months =
    subst (λ (x : List ℕ). picked (long x month p) ≡ short x month p) (sym (three day days))
    (subst (λ (y : List ℕ). picked (long (get_or day 0 0 ∷ get_or day 1 0 ∷ get_or day 2 0 ∷ []) y p) ≡ short (get_or day 0 0 ∷ get_or day 1 0 ∷ get_or day 2 0 ∷ []) y p) (sym (three month months))
    (by_letters (get_or day 0 0) (get_or day 1 0) (get_or day 2 0) (get_or month 0 0) (get_or month 1 0) (get_or month 2 0) p))

pub short_shown : (date : HttpDate) (second : ℕ) (t : List ℕ) → second ≤ 253402300799 → unix_secs date ≡ second → t ≡ date_text date → picked t ≡ short_date second
unfolding short_date
short_shown date second t most is shown =
    let right = parts_right second most in
    let p = parts_at second in
    let whole : t ≡ imf_fixdate p = shown ∙ date_text_is date p (is_valid_complete p right.0) (is ∙ sym right.1) in
    let valid = right.0 in
    let day : length (day_name p.wday) ≡ 3 = ap (λ w. length (day_name w)) valid.2 ∙ day_three (days_from_civil p.year p.mon p.day) in
    ap picked whole ∙ by_names (day_name p.wday) (month_name p.mon) p day (month_three p.mon valid.0.1.0 valid.0.1.1)
