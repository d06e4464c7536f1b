-- A canonical block is read as its meaning.
use Rattle.std.proofs.Common.{◌≡◌, ℕ, ◌<◌, ◌≤◌, inl, inr, ◌&&◌, not, Bool, true, false, cond, nat_le, nat_lt, List, [], ◌∷◌, ◌++◌, length, flat_map, codes, Option, Some, None, refl, sym, ap, ◌∙◌, subst, arith, append-nil, All}
use Rattle.std.specs.Prelude.{MatchOption, MatchBool, IsUtf8}
use Rattle.std.specs.List.{list_all}
use Rattle.std.proofs.lemmas.List.{append_assoc}
use Rattle.std.proofs.lemmas.List.Elements.{All-cons, All-nil, All-append}
use Rattle.httparse.specs.Grammar.{lf, Field, IsField, IsToken, AllPass, RequestHead, IsRequestHead, print_request, print_field, is_token_byte, is_value_byte, is_uri_byte, trim_ows}
use Rattle.httpdate.specs.declared.date.HttpDate.{HttpDate}
use Rattle.httpdate.specs.Date.{unix_secs, IsDateText}
use Rattle.http_requests.specs.declared.messages.HttpVersion.{HttpVersion}
use Rattle.http_requests.specs.declared.messages.HttpVersion.TheVariants.{Http10, Http11}
use Rattle.http_requests.specs.declared.messages.MessageFault.{MessageFault}
use Rattle.http_requests.specs.declared.messages.MessageFault.TheVariants as faults
use Rattle.http_requests.specs.declared.messages.Meaning.{Meaning}
use Rattle.http_requests.specs.declared.messages.Meaning.TheVariants.{Request}
use Rattle.http_requests.specs.declared.heads.Verdict.{Verdict}
use Rattle.http_requests.specs.Reference.{FieldLine, lines_of, values_of, IsSecondOf, IsOnlySecond, IsModifiedSince, IsRequest, IsHead, PartsSay, bad, head_fault, is_get_or_head, is_present, IsVerdict, version_of, is_closing, body_length, is_host_fault, is_length_fault, max_body_bytes}
use Rattle.std.proofs.Common.{le-leb}
use Rattle.std.proofs.lemmas.Bool.{cond-true}
use Rattle.std.proofs.lemmas.Grind.{common_steps}
use Rattle.httpdate.proofs.CalendarLemmas.{days_from_civil_bound}
use Rattle.responses.specs.Reference.{parts_at}
use Rattle.slim.specs.Blocks.{short_date, last_second, since_line, request_block, faulty_block, block_of}
use Rattle.responses.proofs.DateLemmas.{parts_right}
use Rattle.slim.proofs.Values.{passes, good_short, trimmed}
use Rattle.slim.specs.Targets.{kept_target, kept_what}
use Rattle.slim.specs.declared.queries.Queries.{Queries}
use Rattle.slim.specs.declared.queries.Queries.TheVariants.{Kept, Dropped}
use Rattle.slim.proofs.WithoutQuery.{still_a_target}
use Rattle.slim.proofs.KeptTargets.{kept_whole}

-- ---- fields

field : List ℕ → List ℕ → Field
field name raw = record { name = name; raw = raw; end = lf }

-- what a date is shown by
pub record ShowsDate (method : List ℕ) (second : ℕ) : Type 0 where
  pub counts : is_get_or_head method ≡ true
  pub date : HttpDate
  pub is : unix_secs date ≡ second

-- a date that counts, or none
abbrev pub MayShow : List ℕ → Option ℕ → Type 0
MayShow method None = Unit {0}
MayShow method (Some second) = ShowsDate method second

abbrev host_fields : HttpVersion → List Field
host_fields Http10 = []
host_fields Http11 = record { name = codes "Host"; raw = []; end = lf } ∷ []

abbrev connection_fields : HttpVersion → Bool → List Field
connection_fields Http10 true = []
connection_fields Http10 false = record { name = codes "Connection"; raw = codes "keep-alive"; end = lf } ∷ []
connection_fields Http11 true = record { name = codes "Connection"; raw = codes "close"; end = lf } ∷ []
connection_fields Http11 false = []

abbrev since_fields : Option ℕ → List Field
since_fields None = []
since_fields (Some second) = record { name = codes "If-Modified-Since"; raw = short_date second; end = lf } ∷ []

abbrev minor_of : HttpVersion → ℕ
minor_of Http10 = 0
minor_of Http11 = 1

abbrev head_for : List ℕ → List ℕ → HttpVersion → Bool → Option ℕ → RequestHead
head_for method target version closing since = record {
  blank = [];
  method = method;
  target = target;
  minor = minor_of version;
  line_end = lf;
  fields = host_fields version ++ connection_fields version closing ++ since_fields since;
  last = lf;
}

-- ---- the text

shown_below : (date : HttpDate) → unix_secs date ≤ 253402300799
shown_below date = omega (arith, days_from_civil_bound date.parts.year date.parts.mon date.parts.day date.civil, date.time)

pub below : (method : List ℕ) (second : ℕ) → ShowsDate method second → second ≤ 253402300799
below method second shows = let b = shown_below shows.date in let is = shows.is in omega (arith, b, is)

since_printed : (since : Option ℕ) (method : List ℕ) → MayShow method since → flat_map print_field (since_fields since) ≡ since_line since
since_printed None method shows = refl
since_printed (Some second) method shows =
    append-nil (codes "If-Modified-Since" ++ 58 ∷ short_date second ++ 10 ∷ [])
    ∙ regroup (short_date second)
    ∙ sym (cond-true (nat_le second last_second) (codes "If-Modified-Since:" ++ short_date second ++ codes "\n") [] (le-leb second 253402300799 (below method second shows)))
  where
    regroup : (d : List ℕ) → codes "If-Modified-Since" ++ 58 ∷ d ++ 10 ∷ [] ≡ codes "If-Modified-Since:" ++ d ++ codes "\n"
    regroup d = simp append_assoc

printed : (method target : List ℕ) (version : HttpVersion) (closing : Bool) (since : Option ℕ) → flat_map print_field (since_fields since) ≡ since_line since
    → print_request (head_for method target version closing since) ≡ request_block method target version closing since
unfolding print_request
printed method target Http10 true since is = rw is (plain method target (since_line since))
  where
    plain : (m t f : List ℕ) → m ++ 32 ∷ t ++ 32 ∷ codes "HTTP/1.0" ++ 10 ∷ [] ++ (f ++ 10 ∷ []) ≡ m ++ codes " " ++ t ++ codes " HTTP/1.0\n" ++ [] ++ [] ++ f ++ codes "\n"
    plain m t f = simp append_assoc
printed method target Http10 false since is = rw is (plain method target (since_line since))
  where
    plain : (m t f : List ℕ) → m ++ 32 ∷ t ++ 32 ∷ codes "HTTP/1.0" ++ 10 ∷ [] ++ (codes "Connection:keep-alive\n" ++ f ++ 10 ∷ []) ≡ m ++ codes " " ++ t ++ codes " HTTP/1.0\n" ++ [] ++ codes "Connection:keep-alive\n" ++ f ++ codes "\n"
    plain m t f = simp append_assoc
printed method target Http11 true since is = rw is (plain method target (since_line since))
  where
    plain : (m t f : List ℕ) → m ++ 32 ∷ t ++ 32 ∷ codes "HTTP/1.1" ++ 10 ∷ [] ++ (codes "Host:\nConnection:close\n" ++ f ++ 10 ∷ []) ≡ m ++ codes " " ++ t ++ codes " HTTP/1.1\n" ++ codes "Host:\n" ++ codes "Connection:close\n" ++ f ++ codes "\n"
    plain m t f = simp append_assoc
printed method target Http11 false since is = rw is (plain method target (since_line since))
  where
    plain : (m t f : List ℕ) → m ++ 32 ∷ t ++ 32 ∷ codes "HTTP/1.1" ++ 10 ∷ [] ++ (codes "Host:\n" ++ f ++ 10 ∷ []) ≡ m ++ codes " " ++ t ++ codes " HTTP/1.1\n" ++ codes "Host:\n" ++ [] ++ f ++ codes "\n"
    plain m t f = simp append_assoc

-- ---- what it says

-- what is known of the parts of a request
pub record AreParts (method target : List ℕ) (since : Option ℕ) : Type 0 where
  pub method_is : IsToken method
  pub target_is : (0 < length target) × AllPass is_uri_byte target
  pub text : IsUtf8 target
  pub shows : MayShow method since

-- the same with what stays of the target
parts_kept : (queries : Queries) (method target : List ℕ) (since : Option ℕ) → AreParts method target since → AreParts method (kept_target queries target) since
parts_kept Kept method target since parts = parts
parts_kept Dropped method target since parts =
    let still = still_a_target target parts.target_is.0 parts.target_is.1 parts.text in
    record { method_is = parts.method_is; target_is = still.0; text = still.1; shows = parts.shows }

host_good : (version : HttpVersion) → All IsField (host_fields version)
unfolding is_token_byte
host_good Http10 = All-nil IsField
host_good Http11 = All-cons IsField (record { name = codes "Host"; raw = []; end = lf }) [] (record { name = (omega arith, passes is_token_byte (codes "Host") refl); raw = All-nil (λ b. is_value_byte b ≡ true) }) (All-nil IsField)

connection_good : (version : HttpVersion) (closing : Bool) → All IsField (connection_fields version closing)
unfolding is_token_byte
connection_good Http10 true = All-nil IsField
connection_good Http10 false = All-cons IsField (record { name = codes "Connection"; raw = codes "keep-alive"; end = lf }) [] (record { name = (omega arith, passes is_token_byte (codes "Connection") refl); raw = passes is_value_byte (codes "keep-alive") refl }) (All-nil IsField)
connection_good Http11 true = All-cons IsField (record { name = codes "Connection"; raw = codes "close"; end = lf }) [] (record { name = (omega arith, passes is_token_byte (codes "Connection") refl); raw = passes is_value_byte (codes "close") refl }) (All-nil IsField)
connection_good Http11 false = All-nil IsField

since_good : (method : List ℕ) (since : Option ℕ) → MayShow method since → All IsField (since_fields since)
unfolding is_token_byte
since_good method None shows = All-nil IsField
since_good method (Some second) shows =
    All-cons IsField (record { name = codes "If-Modified-Since"; raw = short_date second; end = lf }) []
    (record { name = (omega arith, passes is_token_byte (codes "If-Modified-Since") refl); raw = passes is_value_byte (short_date second) (good_short second (below method second shows)).all }) (All-nil IsField)

few_fields : (version : HttpVersion) (closing : Bool) (since : Option ℕ) → length (host_fields version ++ connection_fields version closing ++ since_fields since) ≤ 64
few_fields Http10 true None = omega arith
few_fields Http10 true (Some second) = omega arith
few_fields Http10 false None = omega arith
few_fields Http10 false (Some second) = omega arith
few_fields Http11 true None = omega arith
few_fields Http11 true (Some second) = omega arith
few_fields Http11 false None = omega arith
few_fields Http11 false (Some second) = omega arith

low_minor : (version : HttpVersion) → minor_of version ≤ 1
low_minor Http10 = omega arith
low_minor Http11 = omega arith

is_head : (method target : List ℕ) (version : HttpVersion) (closing : Bool) (since : Option ℕ) → AreParts method target since → IsHead (request_block method target version closing since) (head_for method target version closing since)
is_head method target version closing since parts = (
  (
    record {
      method = parts.method_is;
      target = parts.target_is;
      target_text = parts.text;
      minor = low_minor version;
      fields = All-append IsField (host_fields version ++ connection_fields version closing) (since_fields since)
          (All-append IsField (host_fields version) (connection_fields version closing) (host_good version) (connection_good version closing)) (since_good method since parts.shows);
    },
    sym (printed method target version closing since (since_printed since method parts.shows)) ∙ sym (append-nil (print_request (head_for method target version closing since))),
  ),
  few_fields version closing since,
)

-- the meaning of a request without a body
abbrev asks : List ℕ → List ℕ → HttpVersion → Bool → Option ℕ → Verdict
asks method target version closing since = record { what = Request method target version closing since; length = 0 }

counts_none : (b : Bool) (P : Type 0) → P → MatchBool b P P
counts_none true P p = p
counts_none false P p = p

own_date : (second : ℕ) → second ≤ 253402300799 → HttpDate
own_date second most = let right = (parts_right second most).0 in record { parts = parts_at second; civil = right.0; time = right.1; right_day = right.2 }

own_secs : (second : ℕ) (most : second ≤ 253402300799) → unix_secs (own_date second most) ≡ second
unfolding own_date
own_secs second most = (parts_right second most).1

own_text : (second : ℕ) (most : second ≤ 253402300799) → IsDateText (short_date second) (own_date second most)
unfolding short_date own_date
own_text second most = inr (inr (inl refl))

shown : (second : ℕ) → second ≤ 253402300799 → IsSecondOf (trim_ows (short_date second)) (Some second)
shown second most = rw (trimmed second most) (own_date second most, own_text second most, own_secs second most)

parts_say : (method target : List ℕ) (version : HttpVersion) (closing : Bool) (since : Option ℕ) → MayShow method since
    → PartsSay method target (minor_of version) (lines_of (host_fields version ++ connection_fields version closing ++ since_fields since)) (asks method target version closing since)
unfolding trim_ows
parts_say method target Http10 true None shows = record { since = None; since_is = counts_none (is_get_or_head method && true) (None ≡ None) refl; what_is = refl; length_is = refl }
parts_say method target Http10 false None shows = record { since = None; since_is = counts_none (is_get_or_head method && true) (None ≡ None) refl; what_is = refl; length_is = refl }
parts_say method target Http11 true None shows = record { since = None; since_is = counts_none (is_get_or_head method && true) (None ≡ None) refl; what_is = refl; length_is = refl }
parts_say method target Http11 false None shows = record { since = None; since_is = counts_none (is_get_or_head method && true) (None ≡ None) refl; what_is = refl; length_is = refl }
parts_say method target Http10 true (Some second) shows = record { since = Some second; since_is = rw shows.counts (shown second (below method second shows)); what_is = refl; length_is = refl }
parts_say method target Http10 false (Some second) shows = record { since = Some second; since_is = rw shows.counts (shown second (below method second shows)); what_is = refl; length_is = refl }
parts_say method target Http11 true (Some second) shows = record { since = Some second; since_is = rw shows.counts (shown second (below method second shows)); what_is = refl; length_is = refl }
parts_say method target Http11 false (Some second) shows = record { since = Some second; since_is = rw shows.counts (shown second (below method second shows)); what_is = refl; length_is = refl }

request_says : (method target : List ℕ) (version : HttpVersion) (closing : Bool) (since : Option ℕ) → AreParts method target since
    → IsVerdict (request_block method target version closing since) (asks method target version closing since)
unfolding IsVerdict
request_says method target version closing since parts =
    inl (head_for method target version closing since, is_head method target version closing since parts, parts_say method target version closing since parts.shows)

-- ---- blocks that break a rule

slash_is : (0 < length (codes "/")) × AllPass is_uri_byte (codes "/")
slash_is = (omega arith, passes is_uri_byte (codes "/") refl)

token_is : IsToken (codes "A")
unfolding is_token_byte
token_is = (omega arith, passes is_token_byte (codes "A") refl)

slash_text : IsUtf8 (codes "/")
unfolding lib.Utf8.encode
slash_text = (47 ∷ [], (refl, refl))

abbrev faulty_head : ℕ → List Field → RequestHead
faulty_head minor fields = record { blank = []; method = codes "A"; target = codes "/"; minor = minor; line_end = lf; fields = fields; last = lf }

faulty_is : (minor : ℕ) (fields : List Field) → minor ≤ 1 → All IsField fields → IsRequestHead (faulty_head minor fields)
faulty_is minor fields low good = record { method = token_is; target = slash_is; target_text = slash_text; minor = low; fields = good }

coding_fields : All IsField (record { name = codes "Transfer-Encoding"; raw = []; end = lf } ∷ [])
unfolding is_token_byte
coding_fields = All-cons IsField (record { name = codes "Transfer-Encoding"; raw = []; end = lf }) [] (record { name = (omega arith, passes is_token_byte (codes "Transfer-Encoding") refl); raw = All-nil (λ b. is_value_byte b ≡ true) }) (All-nil IsField)

length_fields : (raw : List ℕ) → list_all is_value_byte raw ≡ true → All IsField (record { name = codes "Content-Length"; raw = raw; end = lf } ∷ [])
unfolding is_token_byte
length_fields raw all = All-cons IsField (record { name = codes "Content-Length"; raw = raw; end = lf }) [] (record { name = (omega arith, passes is_token_byte (codes "Content-Length") refl); raw = passes is_value_byte raw all }) (All-nil IsField)

host_says : IsVerdict (codes "A / HTTP/1.1\n\n") (bad faults.Host)
unfolding IsVerdict print_request
host_says = inl (faulty_head 1 [], ((faulty_is 1 [] (omega arith) (All-nil IsField), refl), omega arith), refl)

coding_says : IsVerdict (codes "A / HTTP/1.0\nTransfer-Encoding:\n\n") (bad faults.Coding)
unfolding IsVerdict print_request
coding_says = inl (
  faulty_head 0 (record { name = codes "Transfer-Encoding"; raw = []; end = lf } ∷ []),
  ((faulty_is 0 (record { name = codes "Transfer-Encoding"; raw = []; end = lf } ∷ []) (omega arith) coding_fields, refl), omega arith),
  refl,
)

length_says : IsVerdict (codes "A / HTTP/1.0\nContent-Length:\n\n") (bad faults.Length)
unfolding IsVerdict print_request trim_ows
length_says = inl (
  faulty_head 0 (record { name = codes "Content-Length"; raw = []; end = lf } ∷ []),
  ((faulty_is 0 (record { name = codes "Content-Length"; raw = []; end = lf } ∷ []) (omega arith) (length_fields [] refl), refl), omega arith),
  refl,
)

size_says : IsVerdict (codes "A / HTTP/1.0\nContent-Length:65537\n\n") (bad faults.BodySize)
unfolding IsVerdict print_request trim_ows
size_says = inl (
  faulty_head 0 (record { name = codes "Content-Length"; raw = codes "65537"; end = lf } ∷ []),
  ((faulty_is 0 (record { name = codes "Content-Length"; raw = codes "65537"; end = lf } ∷ []) (omega arith) (length_fields (codes "65537") refl), refl), omega arith),
  refl,
)

-- three bytes are no head
head_long : (head : RequestHead) → 3 < length (print_request head)
unfolding print_request
head_long head = grind (arith, common_steps)

block_says : IsVerdict (codes "A\n\n") (bad faults.Block)
unfolding IsVerdict
block_says = inr (
  λ head is.
      (let long = head_long head in
      let size : 3 ≡ length (print_request head ++ []) = ap length is.0.1 in
      let same : length (print_request head ++ []) ≡ length (print_request head) = ap length (append-nil (print_request head)) in
      omega (arith, long, size, same)),
  refl,
)

-- no head is too long
pub never_long : (minor : ℕ) (lines : List FieldLine) → head_fault minor lines ≡ Some faults.TooLong → ⊥
never_long minor lines h =
    four (is_host_fault minor (values_of (codes "host") lines)) (is_present (values_of (codes "transfer-encoding") lines)) (is_length_fault (values_of (codes "content-length") lines))
    (nat_lt max_body_bytes (body_length (values_of (codes "content-length") lines))) h
  where
    four : (a b c d : Bool) → cond a (Some faults.Host) (cond b (Some faults.Coding) (cond c (Some faults.Length) (cond d (Some faults.BodySize) None))) ≡ Some faults.TooLong → ⊥
    four true b c d h = let z : ⊥ = cc in z
    four false true c d h = let z : ⊥ = cc in z
    four false false true d h = let z : ⊥ = cc in z
    four false false false true h = let z : ⊥ = cc in z
    four false false false false h = let z : ⊥ = cc in z

faulty_says : (fault : MessageFault) → (fault ≡ faults.TooLong → ⊥) → IsVerdict (faulty_block fault) (bad fault)
faulty_says faults.TooLong other = absurd (other refl)
faulty_says faults.Block other = block_says
faulty_says faults.Host other = host_says
faulty_says faults.Coding other = coding_says
faulty_says faults.Length other = length_says
faulty_says faults.BodySize other = size_says

-- ---- the verdict of any block

pub may_show : (method : List ℕ) (lines : List FieldLine) (since : Option ℕ) → IsModifiedSince method lines since → MayShow method since
may_show method lines None h = tt
may_show method lines (Some second) h = go (is_get_or_head method) (not (is_present (values_of (codes "if-none-match") lines))) (values_of (codes "if-modified-since") lines) refl h
  where
    go : (a b : Bool) (values : List (List ℕ)) → is_get_or_head method ≡ a → MatchBool (a && b) (IsOnlySecond values (Some second)) (Some second ≡ None) → ShowsDate method second
    go true true [] e h = absurd (let z : ⊥ = cc in z)
    go true true (value ∷ []) e h = record { counts = e; date = h.0; is = h.2 }
    go true true (value ∷ other ∷ values) e h = absurd (let z : ⊥ = cc in z)
    go true false values e h = absurd (let z : ⊥ = cc in z)
    go false b values e h = absurd (let z : ⊥ = cc in z)

abbrev pub whole : Meaning → Verdict
whole what = record { what = what; length = 0 }

says_kept : (queries : Queries) (head : RequestHead) (verdict : Verdict) → IsRequestHead head → (fault : Option MessageFault) → head_fault head.minor (lines_of head.fields) ≡ fault
    → MatchOption fault (IsRequest head.method head.target head.minor (lines_of head.fields) verdict) (λ f. verdict ≡ bad f) → IsVerdict (block_of (kept_what queries verdict.what)) (whole (kept_what queries verdict.what))
unfolding block_of
says_kept queries head verdict is None none r =
    subst (λ (w : Meaning). IsVerdict (block_of (kept_what queries w)) (whole (kept_what queries w))) (sym r.what_is)
    (request_says head.method (kept_target queries head.target) (version_of head.minor) (is_closing head.minor (lines_of head.fields)) r.since
    (parts_kept queries head.method head.target r.since (record { method_is = is.method; target_is = is.target; text = is.target_text; shows = may_show head.method (lines_of head.fields) r.since r.since_is })))
says_kept queries head verdict is (Some fault) some r =
    subst (λ (w : Meaning). IsVerdict (block_of (kept_what queries w)) (whole (kept_what queries w))) (sym (ap (λ v. v.what) r))
    (faulty_says fault (λ long. never_long head.minor (lines_of head.fields) (some ∙ ap Some long)))

pub reads_kept : (queries : Queries) (block : List ℕ) (verdict : Verdict) → IsVerdict block verdict → IsVerdict (block_of (kept_what queries verdict.what)) (whole (kept_what queries verdict.what))
unfolding IsVerdict block_of
reads_kept queries block verdict (inl h) = says_kept queries h.0 verdict h.1.0.0 (head_fault h.0.minor (lines_of h.0.fields)) refl h.2
reads_kept queries block verdict (inr h) = subst (λ (w : Meaning). IsVerdict (block_of (kept_what queries w)) (whole (kept_what queries w))) (sym (ap (λ v. v.what) h.1)) block_says

pub reads_again : (block : List ℕ) (verdict : Verdict) → IsVerdict block verdict → IsVerdict (block_of verdict.what) (whole verdict.what)
reads_again block verdict says = subst (λ (w : Meaning). IsVerdict (block_of w) (whole w)) (kept_whole verdict.what) (reads_kept Kept block verdict says)
