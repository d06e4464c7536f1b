-- Which bytes the values of fields have.
use Rattle.std.proofs.Common.{◌≡◌, ℕ, zero, suc, ◌/◌, ◌%◌, ◌==◌, ◌&&◌, not, Bool, true, false, cond, List, [], ◌∷◌, ◌++◌, decimal, codes, ◌^◌, ◌<◌, nat_lt, nat_eq, length, unwrap_or, Some, length-append, ltb-true, refl, ap, ◌∙◌, arith}
use Rattle.std.proofs.lemmas.Bool.Decides.{nat_tests}
use Rattle.std.proofs.lemmas.List.Elements.{All-cons, All-nil}
use Rattle.std.specs.List.{list_all}
use Rattle.std.specs.Char.{is_ascii_digit, is_ascii_graphic}
use Rattle.std.specs.Map.{lookup}
use Rattle.std.specs.Fmt.{digits, digits_onto, digit_glyph}
use Rattle.httparse.specs.Grammar.{AllPass, is_value_byte, is_ows}
use Rattle.page_cache.specs.declared.media.MediaType.{MediaType}
use Rattle.page_cache.specs.declared.media.MediaType.TheVariants.{Html, Css, JavaScript, Json, Plain, Svg, Png, Jpeg, Gif, OctetStream}
use Rattle.page_cache.specs.Reference.{media_text}
use Rattle.responses.specs.Reference.{status_rows, status_words, status_text}

pub both : (a b : Bool) → a && b ≡ true → (a ≡ true) × (b ≡ true)
both true true h = (refl, refl)
both true false h = absurd (cc)
both false b h = absurd (cc)

-- both parts pass
pub list_all-append : {A : Type 0} (test : A → Bool) (xs ys : List A) → list_all test xs ≡ true → list_all test ys ≡ true → list_all test (xs ++ ys) ≡ true
list_all-append test [] ys first second = second
list_all-append test (x ∷ xs) ys first second =
    let parts = both (test x) (list_all test xs) first in
    ap (λ b. b && list_all test (xs ++ ys)) parts.0 ∙ list_all-append test xs ys parts.1 second

-- each byte may stand in a value
pub record Good (xs : List ℕ) : Type 0 where
  pub all : list_all is_value_byte xs ≡ true

pub joined : {xs ys : List ℕ} → Good xs → Good ys → Good (xs ++ ys)
joined {xs} {ys} first second = record { all = list_all-append is_value_byte xs ys first.all second.all }

-- a weaker test
pub list_all-weaker : (p q : ℕ → Bool) → ((b : ℕ) → p b ≡ true → q b ≡ true) → (xs : List ℕ) → list_all p xs ≡ true → list_all q xs ≡ true
list_all-weaker p q weaker [] all = refl
list_all-weaker p q weaker (x ∷ xs) all =
    let parts = both (p x) (list_all p xs) all in
    ap (λ b. b && list_all q xs) (weaker x parts.0) ∙ list_all-weaker p q weaker xs parts.1

-- the word of `httparse` for the same
pub passes : (test : ℕ → Bool) (xs : List ℕ) → list_all test xs ≡ true → AllPass test xs
passes test [] all = All-nil (λ b. test b ≡ true)
passes test (x ∷ xs) all =
    let parts = both (test x) (list_all test xs) all in
    All-cons (λ b. test b ≡ true) x xs parts.0 (passes test xs parts.1)

glyph_is_digit : (n : ℕ) → is_ascii_digit (digit_glyph false (n % 10)) ≡ true
glyph_is_digit n = grind (arith, nat_tests)

onto_digits : (k n : ℕ) (acc : List ℕ) → list_all is_ascii_digit acc ≡ true → list_all is_ascii_digit (digits_onto k 10 false n acc) ≡ true
onto_digits zero n acc all = all
onto_digits (suc k) n acc all =
    let more : list_all is_ascii_digit (digit_glyph false (n % 10) ∷ acc) ≡ true = ap (λ b. b && list_all is_ascii_digit acc) (glyph_is_digit n) ∙ all in
    elim (n / 10 == 0) as (λ t. list_all is_ascii_digit (cond t (digit_glyph false (n % 10) ∷ acc) (digits_onto k 10 false (n / 10) (digit_glyph false (n % 10) ∷ acc))) ≡ true) [
      | true ↦ more
      | false ↦ onto_digits k (n / 10) (digit_glyph false (n % 10) ∷ acc) more
    ]

pub decimal_digits : (n : ℕ) → list_all is_ascii_digit (decimal n) ≡ true
unfolding digits
decimal_digits n = onto_digits 64 n [] refl

digit_is_value : (b : ℕ) → is_ascii_digit b ≡ true → is_value_byte b ≡ true
digit_is_value b h = grind (arith, nat_tests)

digit_is_no_space : (b : ℕ) → is_ascii_digit b ≡ true → is_ows b ≡ false
digit_is_no_space b h = grind (arith, nat_tests)

visible_is_value : (b : ℕ) → is_ascii_graphic b ≡ true → is_value_byte b ≡ true
visible_is_value b h = grind (arith, nat_tests)

pub decimal_value : (n : ℕ) → list_all is_value_byte (decimal n) ≡ true
decimal_value n = list_all-weaker is_ascii_digit is_value_byte digit_is_value (decimal n) (decimal_digits n)

pub decimal_no_space : (n : ℕ) → list_all (λ b. not (is_ows b)) (decimal n) ≡ true
decimal_no_space n = list_all-weaker is_ascii_digit (λ b. not (is_ows b)) (λ b h. ap not (digit_is_no_space b h)) (decimal n) (decimal_digits n)

pub location_value : (location : List ℕ) → list_all is_ascii_graphic location ≡ true → list_all is_value_byte location ≡ true
location_value location all = list_all-weaker is_ascii_graphic is_value_byte visible_is_value location all

pub media_value : (media : MediaType) → list_all is_value_byte (media_text media) ≡ true
media_value Html = refl
media_value Css = refl
media_value JavaScript = refl
media_value Json = refl
media_value Plain = refl
media_value Svg = refl
media_value Png = refl
media_value Jpeg = refl
media_value Gif = refl
media_value OctetStream = refl

-- no status has a long text
most_words : (rows : List (ℕ × List ℕ)) → list_all (λ row. nat_lt (length row.1) 99) rows ≡ true → (code : ℕ) → length (unwrap_or (lookup (nat_eq code) rows) []) < 99
most_words [] short code = omega arith
most_words (row ∷ rows) short code =
    let parts = both (nat_lt (length row.1) 99) (list_all (λ row. nat_lt (length row.1) 99) rows) short in
    elim (nat_eq code row.0) as (λ t. length (unwrap_or (cond t (Some row.1) (lookup (nat_eq code) rows)) []) < 99) [
      | true ↦ ltb-true _ _ parts.0
      | false ↦ most_words rows parts.1 code
    ]

pub status_text_short : (code : ℕ) → length (status_text code) < 2 ^ 64
status_text_short code = omega (arith, most_words status_rows refl code, length-append (status_words code) (codes "\n"))
