-- A reply is read back, whatever follows it.
use Rattle.std.proofs.Common.{◌≡◌, ℕ, ◌^◌, ◌<◌, ◌≤◌, ◌||◌, ◌&&◌, not, nat_lt, Bool, true, false, cond, List, [], ◌∷◌, ◌++◌, map, length, take, drop, reverse, Option, Some, None, codes, decimal, subst, refl, sym, ap, ◌∙◌}
use Rattle.std.specs.List.{filter, list_all}
use Rattle.std.specs.Char.{is_ascii_digit}
use Rattle.std.specs.Str.{str_eq_ignore_ascii_case}
use Rattle.std.proofs.lemmas.List.{append_assoc, take_at, drop_at, reverse-append}
use Rattle.std.proofs.lemmas.Bool.{lt-ltb}
use Rattle.std.proofs.lemmas.Fmt.{decimal_is_IsNumeral, decimal_nonempty}
use Rattle.httparse.specs.Grammar.{Field, ResponseHead, status_code, is_ows, skip_ows, trim_ows}
use Rattle.httparse.proofs.TrimLemmas.{trim_ows_space}
use Rattle.httparse.proofs.GrammarLemmas.{response_unique}
use Rattle.http_requests.specs.Reference.{is_present, lines_of, same_text, values_of}
use Rattle.paths.specs.declared.file.File.{File}
use Rattle.paths.specs.Reference.{file_of}
use Rattle.page_cache.specs.Reference.{media_of, media_text}
use Rattle.responses.specs.declared.slip.ResponseKind.{ResponseKind}
use Rattle.responses.specs.declared.slip.ResponseKind.TheVariants.{Page, Known, Unmodified, Moved, Plain}
use Rattle.responses.specs.declared.slip.Slip.{Slip}
use Rattle.responses.specs.declared.slip.Persistence.{Persistence}
use Rattle.responses.specs.declared.slip.Persistence.TheVariants.{Close, KeepAlive, Silent}
use Rattle.std.specs.Str.Parse.{digits_value}
use Rattle.responses.specs.declared.slip.Status.TheVariants.{BadRequest, NotFound, MethodNotAllowed, ContentTooLarge, NotImplemented, ServiceUnavailable}
use Rattle.responses.specs.Reference.{imf_date, content_fields, described, changed, own_fields, connection_fields, status_of, status_text, content_of, head_text, reply_text}
use Rattle.responses.specs.Replies.{HasLocation, OnlyHead, body_text}
use Rattle.responses.specs.Messages.{stated_length, body_length, is_bodyless, Reads, IsHead, IsReply}
use Rattle.responses.proofs.Bytes.{both, list_all-append, decimal_digits, decimal_no_space}
use Rattle.responses.proofs.Heads.{as_field, in_words, head_of, head_printed, head_valid}

turned : (t : Bool) → not t ≡ true → t ≡ false
turned true h = absurd (cc)
turned false h = refl

-- a field of another name adds no value
other : (name : List ℕ) (field : List ℕ × List ℕ) (fields : List Field) → str_eq_ignore_ascii_case field.0 name ≡ false → values_of name (lines_of (as_field field ∷ fields)) ≡ values_of name (lines_of fields)
other name field fields no_match =
    let rest = filter (λ line. same_text line.0 name) (lines_of fields) in
    ap (λ t. map (λ line. line.1) (cond t ((field.0, trim_ows (32 ∷ field.1)) ∷ rest) rest)) no_match

abbrev has_none : List ℕ → List (List ℕ × List ℕ) → Bool
has_none name fields = list_all (λ field. not (str_eq_ignore_ascii_case field.0 name)) fields

others : (name : List ℕ) (fields : List (List ℕ × List ℕ)) → has_none name fields ≡ true → values_of name (lines_of (map as_field fields)) ≡ []
others name [] none = refl
others name (field ∷ fields) none =
    let parts = both (not (str_eq_ignore_ascii_case field.0 name)) (has_none name fields) none in
    other name field (map as_field fields) (turned (str_eq_ignore_ascii_case field.0 name) parts.0) ∙ others name fields parts.1

abbrev answer_fields : {X : Type 0} → List File → ℕ → Persistence → ResponseKind X → List (List ℕ × List ℕ)
answer_fields files date link what = (codes "Date", imf_date date) ∷ (own_fields files date what ++ connection_fields link)

no_coding_own : {X : Type 0} (files : List File) (date : ℕ) (what : ResponseKind X) → has_none (codes "transfer-encoding") (own_fields files date what) ≡ true
no_coding_own files date (Page file mtime) = refl
no_coding_own files date (Known media len mtime) = refl
no_coding_own files date (Unmodified mtime) = refl
no_coding_own files date (Moved location) = refl
no_coding_own files date (Plain BadRequest) = refl
no_coding_own files date (Plain NotFound) = refl
no_coding_own files date (Plain MethodNotAllowed) = refl
no_coding_own files date (Plain ContentTooLarge) = refl
no_coding_own files date (Plain NotImplemented) = refl
no_coding_own files date (Plain (ServiceUnavailable seconds)) = refl

no_coding_linked : (link : Persistence) → has_none (codes "transfer-encoding") (connection_fields link) ≡ true
no_coding_linked Close = refl
no_coding_linked KeepAlive = refl
no_coding_linked Silent = refl

no_coding : {X : Type 0} (files : List File) (date : ℕ) (link : Persistence) (what : ResponseKind X) → values_of (codes "transfer-encoding") (lines_of (map as_field (answer_fields files date link what))) ≡ []
no_coding files date link what =
    others (codes "transfer-encoding") (answer_fields files date link what)
    (list_all-append (λ field. not (str_eq_ignore_ascii_case field.0 (codes "transfer-encoding"))) (own_fields files date what) (connection_fields link) (no_coding_own files date what) (no_coding_linked link))

-- a text without white space is not trimmed
no_skip : (v : List ℕ) → list_all (λ b. not (is_ows b)) v ≡ true → skip_ows v ≡ v
no_skip [] all = refl
no_skip (b ∷ v) all = ap (λ t. cond t (skip_ows v) (b ∷ v)) (turned (is_ows b) (both (not (is_ows b)) (list_all (λ c. not (is_ows c)) v) all).0)

list_all-push : (test : ℕ → Bool) (xs : List ℕ) (b : ℕ) → list_all test xs ≡ true → test b ≡ true → list_all test (xs ++ b ∷ []) ≡ true
list_all-push test [] b all last = ap (λ t. t && true) last
list_all-push test (x ∷ xs) b all last =
    let parts = both (test x) (list_all test xs) all in
    ap (λ t. t && list_all test (xs ++ b ∷ [])) parts.0 ∙ list_all-push test xs b parts.1 last

list_all-reverse : (test : ℕ → Bool) (xs : List ℕ) → list_all test xs ≡ true → list_all test (reverse xs) ≡ true
list_all-reverse test [] all = refl
list_all-reverse test (x ∷ xs) all =
    let parts = both (test x) (list_all test xs) all in
    ap (list_all test) (reverse-append (x ∷ []) xs) ∙ list_all-push test (reverse xs) x (list_all-reverse test xs parts.1) parts.0

trimmed : (n : ℕ) → trim_ows (32 ∷ decimal n) ≡ decimal n
trimmed n = trim_ows_space (decimal n) (no_skip (decimal n) (decimal_no_space n)) (no_skip (reverse (decimal n)) (list_all-reverse (λ b. not (is_ows b)) (decimal n) (decimal_no_space n)))

no_length : (link : Persistence) → has_none (codes "content-length") (connection_fields link) ≡ true
no_length Close = refl
no_length KeepAlive = refl
no_length Silent = refl

lone_length : (date media : List ℕ) (n : ℕ) (back : List (List ℕ × List ℕ)) → has_none (codes "content-length") back ≡ true
    → values_of (codes "content-length") (lines_of (map as_field ((codes "Date", date) ∷ (content_fields media n ++ back)))) ≡ decimal n ∷ []
lone_length date media n back none =
    ap (λ v. trim_ows (32 ∷ decimal n) ∷ v) (others (codes "content-length") back none) ∙ ap (λ v. v ∷ []) (trimmed n)

-- what the head tells of the body
stated_number : (n : ℕ) → n < 2 ^ 64 → stated_length (decimal n ∷ []) ≡ Some n
stated_number n lt =
    let some : nat_lt 0 (length (decimal n)) ≡ true = lt-ltb 0 (length (decimal n)) (decimal_nonempty n lt) in
    ap (λ t. cond (t && list_all is_ascii_digit (decimal n)) (Some (digits_value 10 (decimal n))) None) some
    ∙ ap (λ t. cond t (Some (digits_value 10 (decimal n))) None) (decimal_digits n)
    ∙ ap Some (decimal_is_IsNumeral n lt).1

stated_by : (head : Bool) (h : ResponseHead) (status n : ℕ) → status_code h ≡ status → is_bodyless status ≡ false → head ≡ false → values_of (codes "transfer-encoding") (lines_of h.fields) ≡ []
    → values_of (codes "content-length") (lines_of h.fields) ≡ decimal n ∷ [] → n < 2 ^ 64 → body_length head h ≡ Some n
stated_by head h status n code body get coding value lt =
    let rest : List (List ℕ) → List (List ℕ) → Option ℕ = λ c v. cond (is_present c) None (stated_length v) in
    ap (λ t. cond (t || is_bodyless (status_code h)) (Some 0) (rest (values_of (codes "transfer-encoding") (lines_of h.fields)) (values_of (codes "content-length") (lines_of h.fields)))) get
    ∙ ap (λ s. cond (is_bodyless s) (Some 0) (rest (values_of (codes "transfer-encoding") (lines_of h.fields)) (values_of (codes "content-length") (lines_of h.fields)))) code
    ∙ ap (λ t. cond t (Some 0) (rest (values_of (codes "transfer-encoding") (lines_of h.fields)) (values_of (codes "content-length") (lines_of h.fields)))) body
    ∙ ap (λ c. rest c (values_of (codes "content-length") (lines_of h.fields))) coding
    ∙ ap (λ v. rest [] v) value
    ∙ stated_number n lt

-- what stands in the place of a body where the answer isn't to HEAD
get_stated : {X : Type 0} (files : List File) (date : ℕ) (link : Persistence) (what : ResponseKind X) (h : ResponseHead) → OnlyHead false what → length (content_of files what) < 2 ^ 64
    → status_code h ≡ status_of what → h.fields ≡ map as_field (answer_fields files date link what) → body_length false h ≡ Some (length (content_of files what))
get_stated {X = X} files date link what h only fits code is =
    go what only fits code (ap (λ f. values_of (codes "transfer-encoding") (lines_of f)) is ∙ no_coding files date link what) (ap (λ f. values_of (codes "content-length") (lines_of f)) is)
  where
    as_text : (status : ℕ) (back : List (List ℕ × List ℕ)) → is_bodyless status ≡ false → has_none (codes "content-length") back ≡ true → status_code h ≡ status → values_of (codes "transfer-encoding") (lines_of h.fields) ≡ []
        → values_of (codes "content-length") (lines_of h.fields) ≡ values_of (codes "content-length") (lines_of (map as_field ((codes "Date", imf_date date) ∷ (described status ++ back)))) → length (status_text status) < 2 ^ 64
        → body_length false h ≡ Some (length (status_text status))
    as_text status back body none code coding value fits = stated_by false h status (length (status_text status)) code body refl coding (value ∙ lone_length (imf_date date) (codes "text/plain") (length (status_text status)) back none) fits

    go : (what : ResponseKind X) → OnlyHead false what → length (content_of files what) < 2 ^ 64 → status_code h ≡ status_of what → values_of (codes "transfer-encoding") (lines_of h.fields) ≡ []
        → values_of (codes "content-length") (lines_of h.fields) ≡ values_of (codes "content-length") (lines_of (map as_field (answer_fields files date link what))) → body_length false h ≡ Some (length (content_of files what))
    go (Page file mtime) only fits code coding value = stated_by false h 200 (length (file_of files file).bytes) code refl refl coding (value ∙ lone_length (imf_date date) (media_text (media_of (file_of files file).name)) (length (file_of files file).bytes) (changed date mtime ++ connection_fields link) (no_length link)) fits
    go (Known media len mtime) only fits code coding value = absurd (cc)
    go (Unmodified mtime) only fits code coding value = ap (λ s. cond (is_bodyless s) (Some 0) (cond (is_present (values_of (codes "transfer-encoding") (lines_of h.fields))) None (stated_length (values_of (codes "content-length") (lines_of h.fields))))) code
    go (Moved location) only fits code coding value = as_text 301 ((codes "Location", location) ∷ connection_fields link) refl (no_length link) code coding value fits
    go (Plain BadRequest) only fits code coding value = as_text 400 (connection_fields link) refl (no_length link) code coding value fits
    go (Plain NotFound) only fits code coding value = as_text 404 (connection_fields link) refl (no_length link) code coding value fits
    go (Plain MethodNotAllowed) only fits code coding value = as_text 405 ((codes "Allow", codes "GET, HEAD") ∷ connection_fields link) refl (no_length link) code coding value fits
    go (Plain ContentTooLarge) only fits code coding value = as_text 413 (connection_fields link) refl (no_length link) code coding value fits
    go (Plain NotImplemented) only fits code coding value = as_text 501 (connection_fields link) refl (no_length link) code coding value fits
    go (Plain (ServiceUnavailable seconds)) only fits code coding value = as_text 503 ((codes "Retry-After", decimal seconds) ∷ connection_fields link) refl (no_length link) code coding value fits

stated : {X : Type 0} (files : List File) (date : ℕ) (link : Persistence) (what : ResponseKind X) (head : Bool) (h : ResponseHead) → OnlyHead head what
    → (head ≡ false → length (content_of files what) < 2 ^ 64) → status_code h ≡ status_of what → h.fields ≡ map as_field (answer_fields files date link what)
    → body_length head h ≡ Some (length (cond head [] (content_of files what)))
stated files date link what true h only fits code is = refl
stated files date link what false h only fits code is = get_stated files date link what h only (fits refl) code is

-- two lists with equal fronts
same_parts : (a b c d : List ℕ) → length a ≡ length c → a ++ b ≡ c ++ d → (a ≡ c) × (b ≡ d)
same_parts a b c d size same = (
  sym (take_at a b (length a) refl) ∙ ap (take (length a)) same ∙ take_at c d (length a) (sym size),
  sym (drop_at a b (length a) refl) ∙ ap (drop (length a)) same ∙ drop_at c d (length a) (sym size),
)

some_same : (m n : ℕ) → ◌≡◌ {A = Option ℕ} (Some m) (Some n) → m ≡ n
some_same m n h = cc

pub reply_read : {X : Type 0} (files : List File) (slip : Slip X) → slip.date ≤ 253402300799 → OnlyHead slip.head slip.what → HasLocation slip.what → (slip.head ≡ false → length (content_of files slip.what) < 2 ^ 64)
    → IsReply slip.head (status_of slip.what) (body_text files slip) (reply_text files slip)
reply_read files slip most only has fits =
    let h = head_of files slip in
    let body = body_text files slip in
    let code : status_code h ≡ status_of slip.what = (in_words slip.what).number in
    let is_head : IsHead (status_of slip.what) h = record { blank = refl; minor = refl; status = code } in
    let length_stated : body_length slip.head h ≡ Some (length body) = stated files slip.date slip.link slip.what slip.head h only fits code refl in
    let read : (more : List ℕ) → Reads slip.head (reply_text files slip ++ more) h body more = λ more. record {
      grammar = (head_valid files slip most has, append_assoc (head_text files slip) body more ∙ ap (λ v. v ++ (body ++ more)) (sym (head_printed files slip)));
      stated = length_stated;
    } in
    record {
      read = (h, is_head, read);
      alone = λ more k part rest found.
          let unique = response_unique (reply_text files slip ++ more) h k (body ++ more) (part ++ rest) (read more).grammar found.grammar in
          let size : length body ≡ length part = some_same (length body) (length part) (sym length_stated ∙ ap (body_length slip.head) unique.0 ∙ found.stated) in
          let same = same_parts body more part rest size unique.1 in
          (subst (IsHead (status_of slip.what)) unique.0 is_head, sym same.0, sym same.1);
    }
