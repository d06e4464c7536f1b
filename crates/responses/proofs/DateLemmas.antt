-- The date of a second is the one that `httpdate` keeps for it.
use Rattle.std.proofs.Common.{◌≡◌, ℕ, zero, suc, ◌+◌, ◌-◌, ◌/◌, ◌%◌, ◌<◌, ◌≤◌, ◌&&◌, Bool, true, false, nat_le, cond, List, [], ◌∷◌, codes, get_or, refl, sym, ap, ◌∙◌, arith, leb-true, leb-false}
use Rattle.httpdate.specs.declared.parts.Parts.{Parts}
use Rattle.httpdate.specs.declared.date.HttpDate.{HttpDate}
use Rattle.httpdate.specs.Calendar.{days_in_year, days_in_month, days_of_years, days_of_months, days_from_civil, weekday}
use Rattle.httpdate.specs.Valid.{IsValid, parts_secs}
use Rattle.httpdate.specs.Date.{unix_secs, date_text}
use Rattle.httpdate.specs.Text.{day_name, month_name, two_digits, imf_fixdate}
use Rattle.httparse.specs.Grammar.{is_value_byte}
use Rattle.std.specs.List.{list_all}
use Rattle.std.proofs.lemmas.Bool.Decides.{nat_tests}
use Rattle.responses.proofs.Bytes.{both, Good, joined}
use Rattle.httpdate.proofs.CalendarLemmas.{days_of_years_closed, days_of_months_all}
use Rattle.httpdate.proofs.Theorems.{date_text_is}
use Rattle.httpdate.proofs.ValidLemmas.{is_valid_complete}
use Rattle.responses.specs.Reference.{passed, parts_at, imf_date}

-- the day lies in the year or the month that was found
record Passed (days : ℕ → ℕ) (most day n : ℕ) : Type 0 where
  high : n ≤ most
  begun : days n ≤ day
  open_still : day < days (suc n)

passed_found : (days : ℕ → ℕ) (most day : ℕ) → days 0 ≤ day → day < days (suc most) → Passed days most day (passed days most day)
unfolding passed
passed_found days zero day low lt = record { high = omega arith; begun = low; open_still = lt }
passed_found days (suc most) day low lt = by_test (passed_found days most day low) (nat_le (days (suc most)) day) refl
  where
    by_test : (day < days (suc most) → Passed days most day (passed days most day)) → (t : Bool) → nat_le (days (suc most)) day ≡ t → Passed days (suc most) day (cond t (suc most) (passed days most day))
    by_test before true over = record { high = omega arith; begun = leb-true _ _ over; open_still = lt }
    by_test before false later =
        let found = before (leb-false _ _ later) in
        record { high = omega (arith, found.high); begun = found.begun; open_still = found.open_still }

-- the numbers of a second up to the year 9999: a valid date, of just that second
pub parts_right : (second : ℕ) → second ≤ 253402300799 → IsValid (parts_at second) × (parts_secs (parts_at second) ≡ second)
unfolding parts_at
parts_right second most =
    let day = second / 86400 in
    let begin : days_of_years 0 ≡ 0 = unfold days_of_years in refl in
    let years = passed days_of_years 8029 day in
    let in_year : Passed days_of_years 8029 day years = passed_found days_of_years 8029 day (omega (arith, begin)) (omega (arith, begin, days_of_years_closed 8030)) in
    let year = 1970 + years in
    let rest = day - days_of_years years in
    let year_ends : days_of_years (suc years) ≡ days_of_years years + days_in_year year = unfold days_of_years in refl in
    let first : days_of_months year 0 ≡ 0 = unfold days_of_months in refl in
    let whole : days_of_months year 12 ≡ days_in_year year = days_of_months_all year in
    let months = passed (days_of_months year) 11 rest in
    let in_month : Passed (days_of_months year) 11 rest months = passed_found (days_of_months year) 11 rest (omega (arith, first)) (omega (arith, whole, in_year.open_still, year_ends, in_year.begun)) in
    let month_ends : days_of_months year (suc months) ≡ days_of_months year months + days_in_month year (suc months) = unfold days_of_months in refl in
    let next : months + 1 ≡ suc months = omega arith in
    let since : year - 1970 ≡ years = omega arith in
    let before : months + 1 - 1 ≡ months = omega arith in
    let inside : rest - days_of_months year months + 1 ≤ days_in_month year (months + 1) = rw next (omega (arith, in_month.open_still, in_month.begun, month_ends)) in
    let days : days_from_civil year (months + 1) (rest - days_of_months year months + 1) ≡ day = rw (since, before) (omega (arith, in_year.begun, in_month.begun)) in (
      (
        ((omega arith, omega (arith, in_year.high)), (omega arith, omega (arith, in_month.high)), (omega arith, inside)),
        (omega arith, omega arith, omega arith),
        ap weekday (sym days),
      ),
      omega (arith, days),
    )

pub date_shown : (date : HttpDate) (second : ℕ) → second ≤ 253402300799 → unix_secs date ≡ second → date_text date ≡ imf_date second
unfolding imf_date
date_shown date second most is =
    let right = parts_right second most in
    date_text_is date (parts_at second) (is_valid_complete (parts_at second) right.0) (is ∙ sym right.1)

-- the bytes of a date may stand in a value
names_pass : (test : ℕ → Bool) (names : List (List ℕ)) (n : ℕ) → list_all (list_all test) names ≡ true → list_all test (get_or names n []) ≡ true
names_pass test [] n all = refl
names_pass test (name ∷ names) zero all = (both (list_all test name) (list_all (list_all test) names) all).0
names_pass test (name ∷ names) (suc n) all = names_pass test names n (both (list_all test name) (list_all (list_all test) names) all).1

good_day : (n : ℕ) → Good (day_name n)
good_day n = record { all = names_pass is_value_byte (codes "Mon" ∷ codes "Tue" ∷ codes "Wed" ∷ codes "Thu" ∷ codes "Fri" ∷ codes "Sat" ∷ codes "Sun" ∷ []) (n - 1) refl }

good_month : (n : ℕ) → Good (month_name n)
good_month n = record {
  all = names_pass is_value_byte
      (codes "Jan" ∷ codes "Feb" ∷ codes "Mar" ∷ codes "Apr" ∷ codes "May" ∷ codes "Jun" ∷ codes "Jul" ∷ codes "Aug" ∷ codes "Sep" ∷ codes "Oct" ∷ codes "Nov" ∷ codes "Dec" ∷ []) (n - 1) refl;
}

digit_value : (n : ℕ) → n < 10 → is_value_byte (48 + n) ≡ true
digit_value n lt = grind (arith, nat_tests)

good_digits : (n : ℕ) → n < 100 → Good (two_digits n)
good_digits n lt = record { all = ap (λ b. b && list_all is_value_byte ((48 + n % 10) ∷ [])) (digit_value (n / 10) (omega arith)) ∙ ap (λ b. b && true) (digit_value (n % 10) (omega arith)) }

days_most : (year month : ℕ) → days_in_month year month ≤ 31
days_most year month = grind arith

good_date : (p : Parts) → IsValid p → Good (imf_fixdate p)
good_date p valid =
    let space : Good (codes " ") = record { all = refl } in
    let colon : Good (codes ":") = record { all = refl } in
    let comma : Good (codes ", ") = record { all = refl } in
    let zone : Good (codes " GMT") = record { all = refl } in
    let day : p.day < 100 = omega (arith, valid.0.2.1, days_most p.year p.mon) in
    let year : p.year / 100 < 100 = omega (arith, valid.0.0) in
    let low : p.year % 100 < 100 = omega arith in
    let hour : p.hour < 100 = omega (arith, valid.1.0) in
    let min : p.min < 100 = omega (arith, valid.1.1) in
    let sec : p.sec < 100 = omega (arith, valid.1.2) in
    let date = joined (joined (joined (joined (joined (good_day p.wday) comma) (good_digits p.day day)) space) (good_month p.mon)) space in
    let years = joined (good_digits (p.year / 100) year) (good_digits (p.year % 100) low) in
    let clock = joined (joined (joined (joined (good_digits p.hour hour) colon) (good_digits p.min min)) colon) (good_digits p.sec sec) in
    joined (joined (joined (joined date years) space) clock) zone

pub good_imf_date : (second : ℕ) → second ≤ 253402300799 → Good (imf_date second)
unfolding imf_date
good_imf_date second most = good_date (parts_at second) (parts_right second most).0
