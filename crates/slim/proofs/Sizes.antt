-- A canonical block is no longer than the block that it stands for.
use Rattle.std.proofs.Common.{◌≡◌, ℕ, zero, suc, ◌+◌, ◌≤◌, ◌==◌, ◌&&◌, ◌||◌, not, ◌⊎◌, inl, inr, Bool, true, false, cond, List, [], ◌∷◌, ◌++◌, length, map, flat_map, codes, Option, Some, None, nat_le, le-leb, leb-true, refl, sym, ap, ◌∙◌, subst, arith, append-nil, reverse}
use Rattle.std.specs.Prelude.{MatchOption, MatchBool}
use Rattle.std.specs.List.{list_any, slice_split, onto_first}
use Rattle.std.specs.Char.{to_ascii_lowercase}
use Rattle.std.proofs.lemmas.Bool.{cond-true, cases_Bool}
use Rattle.std.proofs.lemmas.List.{length-append, length-map, length-reverse, length-replicate}
use Rattle.std.proofs.lemmas.List.Folds.{list_any-append}
use Rattle.std.proofs.lemmas.Slice.Eq.{bytes_eq-Decides}
use Rattle.std.proofs.lemmas.Grind.{common_steps}
use Rattle.httparse.specs.Grammar.{LineEnd, crlf, lf, Field, RequestHead, IsRequestHead, print_end, print_field, print_request, is_ows, skip_ows, trim_ows}
use Rattle.httpdate.specs.declared.date.HttpDate.{HttpDate}
use Rattle.httpdate.specs.Calendar.{days_from_civil}
use Rattle.httpdate.specs.Date.{IsDateText}
use Rattle.httpdate.specs.Text.{day_name, day_name_rest, month_name, two_digits, four_digits, time_of_day}
use Rattle.http_requests.specs.declared.messages.HttpVersion.{HttpVersion}
use Rattle.http_requests.specs.declared.messages.HttpVersion.TheVariants.{Http10, Http11}
use Rattle.http_requests.specs.declared.messages.MessageFault.{MessageFault}
use Rattle.http_requests.specs.declared.messages.MessageFault.TheVariants as faults
use Rattle.http_requests.specs.declared.messages.Meaning.{Meaning}
use Rattle.http_requests.specs.declared.messages.Meaning.TheVariants.{Request, Bad}
use Rattle.http_requests.specs.declared.heads.Verdict.{Verdict}
use Rattle.http_requests.specs.Reference.{lines_of, values_of, same_text, options_of, has_option, is_present, is_get_or_head, IsOnlySecond, IsModifiedSince, IsVerdict, IsRequest, head_fault, is_host_fault, version_of, is_closing, bad}
use Rattle.responses.specs.Reference.{parts_at}
use Rattle.slim.specs.Blocks.{short_date, last_second, version_text, host_line, connection_line, since_line}
use Rattle.slim.specs.Blocks.{request_block, faulty_block, block_of}
use Rattle.responses.proofs.DateLemmas.{parts_right}
use Rattle.slim.proofs.DateLemmas.{day_three, month_three}
use Rattle.slim.proofs.BlockLemmas.{ShowsDate, may_show, below}
use Rattle.slim.specs.Targets.{kept_target, kept_what}
use Rattle.slim.specs.declared.queries.Queries.{Queries}
use Rattle.slim.specs.declared.queries.Queries.TheVariants.{Kept, Dropped}
use Rattle.slim.proofs.WithoutQuery.{no_longer}

-- ---- the texts of dates

-- a list has this length
record Len (xs : List ℕ) (n : ℕ) : Type 0 where
  is : length xs ≡ n

add : {xs ys : List ℕ} {m n : ℕ} → Len xs m → Len ys n → Len (xs ++ ys) (m + n)
add {xs} {ys} a b = record { is = (let l = length-append xs ys in let p = a.is in let q = b.is in omega (arith, p, q, l)) }

own : (xs : List ℕ) → Len xs (length xs)
own xs = record { is = refl }

day_of : (d : HttpDate) → Len (day_name d.parts.wday) 3
day_of d = record { is = ap (λ w. length (day_name w)) d.right_day ∙ day_three (days_from_civil d.parts.year d.parts.mon d.parts.day) }

month_of : (d : HttpDate) → Len (month_name d.parts.mon) 3
month_of d = record { is = month_three d.parts.mon d.civil.1.0 d.civil.1.1 }

asctime_size : (day month n t y : List ℕ) → Len day 3 → Len month 3 → Len n 2 → Len t 8 → Len y 4 → Len (day ++ codes " " ++ month ++ codes " " ++ n ++ codes " " ++ t ++ codes " " ++ y) 24
asctime_size day month n t y a b c d e = let one = own (codes " ") in add (add (add (add (add (add (add (add a one) b) one) c) one) d) one) e

imf_size : (day month n t y : List ℕ) → Len day 3 → Len month 3 → Len n 2 → Len t 8 → Len y 4 → Len (day ++ codes ", " ++ n ++ codes " " ++ month ++ codes " " ++ y ++ codes " " ++ t ++ codes " GMT") 29
imf_size day month n t y a b c d e =
    let one = own (codes " ") in
    add (add (add (add (add (add (add (add (add a (own (codes ", "))) c) one) b) one) e) one) d) (own (codes " GMT"))

rfc_size : (day rest month n t y : List ℕ) → Len day 3 → Len month 3 → Len n 2 → Len t 8 → Len y 2
    → 24 ≤ length (day ++ rest ++ codes ", " ++ n ++ codes "-" ++ month ++ codes "-" ++ y ++ codes " " ++ t ++ codes " GMT")
rfc_size day rest month n t y a b c d e =
    let all = (add (add (add (add (add (add (add (add (add (add a (own rest)) (own (codes ", "))) c) (own (codes "-"))) b) (own (codes "-"))) e) (own (codes " "))) d) (own (codes " GMT"))).is in
    omega (arith, all)

date_size : (text : List ℕ) (d : HttpDate) → IsDateText text d → 24 ≤ length text
date_size text d (inl is) =
    let size = ap length is ∙ (imf_size (day_name d.parts.wday) (month_name d.parts.mon) (two_digits d.parts.day) (time_of_day d.parts) (four_digits d.parts.year) (day_of d) (month_of d) (record { is = refl }) (record { is = refl }) (record { is = refl })).is in omega (arith, size)
date_size text d (inr (inl is)) =
    rw is.0 (rfc_size (day_name d.parts.wday) (day_name_rest d.parts.wday) (month_name d.parts.mon) (two_digits d.parts.day) (time_of_day d.parts) _ (day_of d) (month_of d) (record { is = refl }) (record { is = refl }) (record { is = refl }))
date_size text d (inr (inr (inl is))) =
    let size = ap length is ∙ (asctime_size (day_name d.parts.wday) (month_name d.parts.mon) (two_digits d.parts.day) (time_of_day d.parts) (four_digits d.parts.year) (day_of d) (month_of d) (record { is = refl }) (record { is = refl }) (record { is = refl })).is in omega (arith, size)
date_size text d (inr (inr (inr is))) =
    let size = ap length is.0 ∙ (asctime_size (day_name d.parts.wday) (month_name d.parts.mon) (32 ∷ (48 + d.parts.day) ∷ []) (time_of_day d.parts) (four_digits d.parts.year) (day_of d) (month_of d) (record { is = refl }) (record { is = refl }) (record { is = refl })).is in omega (arith, size)

short_size : (second : ℕ) → second ≤ 253402300799 → length (short_date second) ≡ 24
unfolding short_date
short_size second most =
    let p = parts_at second in
    let valid = (parts_right second most).0 in
    (asctime_size (day_name p.wday) (month_name p.mon) (two_digits p.day) (time_of_day p) (four_digits p.year)
    (record { is = ap (λ w. length (day_name w)) valid.2 ∙ day_three (days_from_civil p.year p.mon p.day) }) (record { is = month_three p.mon valid.0.1.0 valid.0.1.1 })
    (record { is = refl }) (record { is = refl }) (record { is = refl })).is

-- ---- the fields of a name

sized : List ℕ → List Field → ℕ
sized name [] = 0
sized name (f ∷ fields) = cond (same_text f.name name) (length (print_field f)) 0 + sized name fields

apart : (x n m : List ℕ) → (map to_ascii_lowercase n ≡ map to_ascii_lowercase m → ⊥) → same_text x n ≡ true → same_text x m ≡ true → ⊥
apart x n m other first second =
    other (sym ((bytes_eq-Decides (map to_ascii_lowercase x) (map to_ascii_lowercase n)).0 first) ∙ (bytes_eq-Decides (map to_ascii_lowercase x) (map to_ascii_lowercase m)).0 second)

one_of : (a b c : Bool) (p : ℕ) → (a ≡ true → b ≡ true → ⊥) → (a ≡ true → c ≡ true → ⊥) → (b ≡ true → c ≡ true → ⊥) → cond a p 0 + cond b p 0 + cond c p 0 ≤ p
one_of true true c p ab ac bc = absurd (ab refl refl)
one_of true false true p ab ac bc = absurd (ac refl refl)
one_of true false false p ab ac bc = omega arith
one_of false true true p ab ac bc = absurd (bc refl refl)
one_of false true false p ab ac bc = omega arith
one_of false false true p ab ac bc = omega arith
one_of false false false p ab ac bc = omega arith

three_names : (fields : List Field) → sized (codes "host") fields + sized (codes "connection") fields + sized (codes "if-modified-since") fields ≤ length (flat_map print_field fields)
unfolding sized
three_names [] = omega arith
three_names (f ∷ fields) =
    let rest = three_names fields in
    let len = length-append (print_field f) (flat_map print_field fields) in
    let here = one_of (same_text f.name (codes "host")) (same_text f.name (codes "connection")) (same_text f.name (codes "if-modified-since")) (length (print_field f))
    (apart f.name (codes "host") (codes "connection") (λ e. (let z = ap length e in omega (arith, z))))
    (apart f.name (codes "host") (codes "if-modified-since") (λ e. (let z = ap length e in omega (arith, z))))
    (apart f.name (codes "connection") (codes "if-modified-since") (λ e. (let z = ap length e in omega (arith, z)))) in
    omega (arith, rest, len, here)

either : (a b : Bool) → (a || b) ≡ true → (a ≡ true) ⊎ (b ≡ true)
either true b h = inl refl
either false b h = inr h

-- ---- what a value takes

skip_size : (xs : List ℕ) → length (skip_ows xs) ≤ length xs
skip_size [] = omega arith
skip_size (b ∷ xs) = let rest = skip_size xs in elim (cases_Bool (is_ows b)) [
  | inl is ↦ rw is (omega (arith, rest))
  | inr isnt ↦ rw isnt (omega arith)
]

trim_size : (xs : List ℕ) → length (trim_ows xs) ≤ length xs
unfolding trim_ows
trim_size xs =
    let a = skip_size xs in
    let b = skip_size (reverse (skip_ows xs)) in
    let c = length-reverse (skip_ows xs) in
    let d = length-reverse (skip_ows (reverse (skip_ows xs))) in
    omega (arith, a, b, c, d)

end_some : (e : LineEnd) → 1 ≤ length (print_end e)
end_some crlf = omega arith
end_some lf = omega arith

same_size : (a b : List ℕ) → same_text a b ≡ true → length a ≡ length b
same_size a b h = sym (length-map a to_ascii_lowercase) ∙ ap length ((bytes_eq-Decides (map to_ascii_lowercase a) (map to_ascii_lowercase b)).0 h) ∙ length-map b to_ascii_lowercase

field_length : (n r e : List ℕ) → length (n ++ 58 ∷ r ++ e) ≡ length n + 1 + length r + length e
field_length n r e = grind (arith, common_steps)

field_size : (f : Field) (name : List ℕ) → same_text f.name name ≡ true → length name + length (trim_ows f.raw) + 2 ≤ length (print_field f)
field_size f name h =
    let a = same_size f.name name h in
    let t = trim_size f.raw in
    let e = end_some f.end in
    let l = field_length f.name f.raw (print_end f.end) in
    omega (arith, a, t, e, l)

-- a value that passes a test takes so many bytes at least
value_size : (test : List ℕ → Bool) (k : ℕ) → ((v : List ℕ) → test v ≡ true → k ≤ length v) → (name : List ℕ) (fields : List Field) → list_any test (values_of name (lines_of fields)) ≡ true
    → length name + k + 2 ≤ sized name fields
unfolding sized
value_size test k long name [] h = absurd (let z : ⊥ = cc in z)
value_size test k long name (f ∷ fields) h = elim (cases_Bool (same_text f.name name)) [
  | inl is ↦ (let here : (test (trim_ows f.raw) || list_any test (values_of name (lines_of fields))) ≡ true = rw is at h in
      let size = field_size f name is in
      elim (either (test (trim_ows f.raw)) (list_any test (values_of name (lines_of fields))) here) [
        | inl own ↦ (let l = long (trim_ows f.raw) own in rw is (omega (arith, size, l)))
        | inr later ↦ (let rest = value_size test k long name fields later in rw is (omega (arith, rest)))
      ])
  | inr isnt ↦ (let later : list_any test (values_of name (lines_of fields)) ≡ true = rw isnt at h in
      let rest = value_size test k long name fields later in rw isnt (omega (arith, rest)))
]

-- ---- the options of a list

AllShort : ℕ → List (List ℕ) → Type 0
AllShort n [] = Unit {0}
AllShort n (x ∷ xs) = (length x ≤ n) × AllShort n xs

short_more : (m n : ℕ) (xs : List (List ℕ)) → m ≤ n → AllShort m xs → AllShort n xs
unfolding AllShort
short_more m n [] le all = tt
short_more m n (x ∷ xs) le all = (let h = all.0 in omega (arith, h, le), short_more m n xs le all.1)

short_onto : (m b : ℕ) (parts : List (List ℕ)) → AllShort m parts → AllShort (suc m) (onto_first b parts)
unfolding AllShort
short_onto m b [] all = (omega arith, tt)
short_onto m b (part ∷ parts) all = (let h = all.0 in omega (arith, h), short_more m (suc m) parts (omega arith) all.1)

short_parts : (p : ℕ → Bool) (v : List ℕ) → AllShort (length v) (slice_split p v)
unfolding AllShort
short_parts p [] = (omega arith, tt)
short_parts p (b ∷ v) = elim (cases_Bool (p b)) [
  | inl is ↦ rw is (omega arith, short_more (length v) (suc (length v)) (slice_split p v) (omega arith) (short_parts p v))
  | inr isnt ↦ rw isnt (short_onto (length v) b (slice_split p v) (short_parts p v))
]

any_short : (n : ℕ) (option : List ℕ) (parts : List (List ℕ)) → AllShort n parts → list_any (λ given. same_text given option) (map trim_ows parts) ≡ true → length option ≤ n
unfolding AllShort
any_short n option [] all h = absurd (let z : ⊥ = cc in z)
any_short n option (part ∷ parts) all h = elim (either (same_text (trim_ows part) option) (list_any (λ given. same_text given option) (map trim_ows parts)) h) [
  | inl own ↦ (let a = same_size (trim_ows part) option own in let t = trim_size part in let le = all.0 in omega (arith, a, t, le))
  | inr later ↦ any_short n option parts all.1 later
]

abbrev offers : List ℕ → List ℕ → Bool
offers option value = list_any (λ given. same_text given option) (map trim_ows (slice_split (λ b. b == 44) value))

any_flat : (option : List ℕ) (values : List (List ℕ)) → list_any (λ given. same_text given option) (options_of values) ≡ true → list_any (offers option) values ≡ true
any_flat option [] h = h
any_flat option (v ∷ values) h =
    let parts : (offers option v || list_any (λ given. same_text given option) (options_of values)) ≡ true =
    sym (list_any-append (λ given. same_text given option) (map trim_ows (slice_split (λ b. b == 44) v)) (options_of values)) ∙ h in
    elim (either (offers option v) (list_any (λ given. same_text given option) (options_of values)) parts) [
      | inl own ↦ ap (λ t. t || list_any (offers option) values) own
      | inr later ↦ ap (λ t. offers option v || t) (any_flat option values later) ∙ or_true (offers option v)
    ]
  where
    or_true : (b : Bool) → (b || true) ≡ true
    or_true true = refl
    or_true false = refl

option_size : (option : List ℕ) (fields : List Field) → has_option option (lines_of fields) ≡ true → 12 + length option ≤ sized (codes "connection") fields
option_size option fields h =
    let size = value_size (offers option) (length option) (λ v is. any_short (length v) option (slice_split (λ b. b == 44) v) (short_parts (λ b. b == 44) v) is) (codes "connection") fields
    (any_flat option (values_of (codes "connection") (lines_of fields)) h) in
    omega (arith, size)

-- ---- a whole block

block_length : (m t h c s : List ℕ) (v : HttpVersion) → length (m ++ codes " " ++ t ++ version_text v ++ h ++ c ++ s ++ codes "\n") ≡ length m + length t + length h + length c + length s + 12
block_length m t h c s v =
    let all = (add (add (add (add (add (add (add (own m) (own (codes " "))) (own t)) (record { is = ten_of v })) (own h)) (own c)) (own s)) (own (codes "\n"))).is in
    omega (arith, all)
  where
    ten_of : (v : HttpVersion) → length (version_text v) ≡ 10
    ten_of Http10 = refl
    ten_of Http11 = refl

head_length : (head : RequestHead) → length head.method + length head.target + length (flat_map print_field head.fields) + 12 ≤ length (print_request head)
unfolding print_request
head_length head =
    let a = end_some head.line_end in
    let b = end_some head.last in
    let all = (add (add (add (add (add (own (flat_map print_end head.blank)) (own head.method)) (cons 32 (own head.target))) (nine head.minor)) (own (print_end head.line_end))) (add (own (flat_map print_field head.fields)) (own (print_end head.last)))).is in
    omega (arith, all, a, b)
  where
    cons : (b : ℕ) {xs : List ℕ} {n : ℕ} → Len xs n → Len (b ∷ xs) (1 + n)
    cons b {xs} h = record { is = (let e = h.is in omega (arith, e)) }

    nine : (m : ℕ) → Len (32 ∷ 72 ∷ 84 ∷ 84 ∷ 80 ∷ 47 ∷ 49 ∷ 46 ∷ (48 + m) ∷ []) 9
    nine m = record { is = refl }

-- ---- a request

host_size : (minor : ℕ) (fields : List Field) → minor ≤ 1 → is_host_fault minor (values_of (codes "host") (lines_of fields)) ≡ false → length (host_line (version_of minor)) ≤ sized (codes "host") fields
host_size zero fields low h = omega arith
host_size (suc zero) fields low h = given (values_of (codes "host") (lines_of fields)) refl h
  where
    given : (values : List (List ℕ)) → values_of (codes "host") (lines_of fields) ≡ values → is_host_fault 1 values ≡ false → 6 ≤ sized (codes "host") fields
    given [] is h = absurd (let z : ⊥ = cc in z)
    given (v ∷ values) is h =
        let size = value_size (λ v. true) 0 (λ v e. omega arith) (codes "host") fields (ap (list_any (λ v. true)) is) in omega (arith, size)
host_size (suc (suc n)) fields low h = absurd (omega (arith, low))

connection_size : (minor : ℕ) (fields : List Field) → minor ≤ 1 → length (connection_line (version_of minor) (is_closing minor (lines_of fields))) ≤ sized (codes "connection") fields
connection_size zero fields low = go (has_option (codes "close") (lines_of fields)) (has_option (codes "keep-alive") (lines_of fields)) refl
  where
    go : (a b : Bool) → has_option (codes "keep-alive") (lines_of fields) ≡ b → length (connection_line Http10 (a || not b)) ≤ sized (codes "connection") fields
    go true b e = omega arith
    go false true e = let size = option_size (codes "keep-alive") fields e in omega (arith, size)
    go false false e = omega arith
connection_size (suc zero) fields low = go (has_option (codes "close") (lines_of fields)) refl
  where
    go : (a : Bool) → has_option (codes "close") (lines_of fields) ≡ a → length (connection_line Http11 (a || false)) ≤ sized (codes "connection") fields
    go true e = let size = option_size (codes "close") fields e in omega (arith, size)
    go false e = omega arith
connection_size (suc (suc n)) fields low = absurd (omega (arith, low))

since_size : (method : List ℕ) (fields : List Field) (since : Option ℕ) → IsModifiedSince method (lines_of fields) since → length (since_line since) ≤ sized (codes "if-modified-since") fields
since_size method fields None h = omega arith
since_size method fields (Some second) h =
    let shows : ShowsDate method second = may_show method (lines_of fields) (Some second) h in
    let most = below method second shows in
    let here : since_line (Some second) ≡ codes "If-Modified-Since:" ++ short_date second ++ codes "\n" = cond-true (nat_le second last_second) (codes "If-Modified-Since:" ++ short_date second ++ codes "\n") [] (le-leb second 253402300799 most) in
    let size : length (codes "If-Modified-Since:" ++ short_date second ++ codes "\n") ≡ 43 = (add (add (own (codes "If-Modified-Since:")) (record { is = short_size second most })) (own (codes "\n"))).is in
    let long = go (is_get_or_head method) (not (is_present (values_of (codes "if-none-match") (lines_of fields)))) (values_of (codes "if-modified-since") (lines_of fields)) refl h in
    let whole = ap length here in
    omega (arith, size, long, whole)
  where
    go : (a b : Bool) (values : List (List ℕ)) → values_of (codes "if-modified-since") (lines_of fields) ≡ values → MatchBool (a && b) (IsOnlySecond values (Some second)) (Some second ≡ None) → 43 ≤ sized (codes "if-modified-since") fields
    go true true [] is h = absurd (let z : ⊥ = cc in z)
    go true true (value ∷ []) is h =
        let long = date_size value h.0 h.1 in
        let passes : list_any (λ v. nat_le 24 (length v)) (values_of (codes "if-modified-since") (lines_of fields)) ≡ true =
        ap (list_any (λ v. nat_le 24 (length v))) is ∙ ap (λ t. t || false) (le-leb 24 (length value) long) in
        let size = value_size (λ v. nat_le 24 (length v)) 24 (λ v e. leb-true 24 (length v) e) (codes "if-modified-since") fields passes in
        omega (arith, size)
    go true true (value ∷ other ∷ values) is h = absurd (let z : ⊥ = cc in z)
    go true false values is h = absurd (let z : ⊥ = cc in z)
    go false b values is h = absurd (let z : ⊥ = cc in z)

no_host_fault : (a b c d : Bool) → cond a (Some faults.Host) (cond b (Some faults.Coding) (cond c (Some faults.Length) (cond d (Some faults.BodySize) None))) ≡ None → a ≡ false
no_host_fault true b c d h = absurd (let z : ⊥ = cc in z)
no_host_fault false b c d h = refl

request_size : (head : RequestHead) (since : Option ℕ) → IsRequestHead head → head_fault head.minor (lines_of head.fields) ≡ None → IsModifiedSince head.method (lines_of head.fields) since
    → length (request_block head.method head.target (version_of head.minor) (is_closing head.minor (lines_of head.fields)) since) ≤ length (print_request head)
request_size head since is none shows =
    let low = is.minor in
    let a = host_size head.minor head.fields low (no_host_fault _ _ _ _ none) in
    let b = connection_size head.minor head.fields low in
    let c = since_size head.method head.fields since shows in
    let three = three_names head.fields in
    let all = block_length head.method head.target (host_line (version_of head.minor)) (connection_line (version_of head.minor) (is_closing head.minor (lines_of head.fields))) (since_line since) (version_of head.minor) in
    let whole = head_length head in
    omega (arith, a, b, c, three, all, whole)

-- ---- of any verdict

faulty_size : (fault : MessageFault) → length (faulty_block fault) ≤ 8192
faulty_size faults.TooLong = let l = length-replicate {A = ℕ} 8192 65 in omega (arith, l)
faulty_size faults.Block = omega arith
faulty_size faults.Host = omega arith
faulty_size faults.Coding = omega arith
faulty_size faults.Length = omega arith
faulty_size faults.BodySize = omega arith

pub size_again : (block : List ℕ) (verdict : Verdict) → IsVerdict block verdict → length block ≤ 8192 → length (block_of verdict.what) ≤ 8192
unfolding IsVerdict block_of
size_again block verdict (inl h) short = go (head_fault h.0.minor (lines_of h.0.fields)) refl h.2
  where
    go : (fault : Option MessageFault) → head_fault h.0.minor (lines_of h.0.fields) ≡ fault
        → MatchOption fault (IsRequest h.0.method h.0.target h.0.minor (lines_of h.0.fields) verdict) (λ f. verdict ≡ bad f) → length (block_of verdict.what) ≤ 8192
    go None none r =
        let size = request_size h.0 r.since h.1.0.0 none r.since_is in
        let text = ap length h.1.0.1 in
        let same : length (print_request h.0 ++ []) ≡ length (print_request h.0) = ap length (append-nil (print_request h.0)) in
        let here : length (block_of verdict.what) ≡ length (request_block h.0.method h.0.target (version_of h.0.minor) (is_closing h.0.minor (lines_of h.0.fields)) r.since) = ap (λ w. length (block_of w)) r.what_is in
        omega (arith, size, text, same, here, short)
    go (Some fault) some r = subst (λ (w : Meaning). length (block_of w) ≤ 8192) (sym (ap (λ v. v.what) r)) (faulty_size fault)
size_again block verdict (inr h) short = subst (λ (w : Meaning). length (block_of w) ≤ 8192) (sym (ap (λ v. v.what) h.1)) (faulty_size faults.Block)

-- ---- without the query

target_size : (queries : Queries) (t : List ℕ) → length (kept_target queries t) ≤ length t
target_size Kept t = omega arith
target_size Dropped t = no_longer t

pub size_kept : (queries : Queries) (what : Meaning) → length (block_of (kept_what queries what)) ≤ length (block_of what)
unfolding block_of
size_kept queries (Request method target version closing since) =
    let less = target_size queries target in
    let a = block_length method (kept_target queries target) (host_line version) (connection_line version closing) (since_line since) version in
    let b = block_length method target (host_line version) (connection_line version closing) (since_line since) version in
    omega (arith, less, a, b)
size_kept queries (Bad fault) = omega arith
