-- The head of a reply in the grammar of `httparse`.
use Rattle.std.proofs.Common.{◌≡◌, ℕ, ◌<◌, ◌≤◌, true, List, [], ◌∷◌, ◌++◌, map, length, take, drop, Some, codes, decimal, min, flat_map, refl, sym, ap, ◌∙◌, arith}
use Rattle.std.specs.Prelude.{⊤}
use Rattle.std.specs.List.{All, list_all}
use Rattle.std.specs.Char.{is_ascii_digit}
use Rattle.std.specs.Str.Parse.{digits_value}
use Rattle.std.proofs.lemmas.List.{append_assoc}
use Rattle.std.proofs.lemmas.List.Elements.{All-cons, All-nil}
use Rattle.httparse.specs.Grammar.{crlf, Field, IsField, print_field, print_response, ResponseHead, IsResponseHead, is_token_byte, is_value_byte}
use Rattle.paths.specs.declared.file.File.{File}
use Rattle.paths.specs.Reference.{file_of}
use Rattle.page_cache.specs.Reference.{media_of, media_text}
use Rattle.responses.specs.declared.slip.Persistence.{Persistence}
use Rattle.responses.specs.declared.slip.Persistence.TheVariants.{Close, KeepAlive, Silent}
use Rattle.responses.specs.declared.slip.Status.TheVariants.{BadRequest, NotFound, MethodNotAllowed, ContentTooLarge, NotImplemented, ServiceUnavailable}
use Rattle.responses.specs.declared.slip.ResponseKind.{ResponseKind}
use Rattle.responses.specs.declared.slip.ResponseKind.TheVariants.{Page, Known, Unmodified, Moved, Plain}
use Rattle.responses.specs.declared.slip.Slip.{Slip}
use Rattle.responses.specs.Reference.{status_words, status_of, field_line, content_fields, described, changed, own_fields, connection_fields, fields_of, head_text}
use Rattle.responses.specs.Replies.{HasLocation}
use Rattle.responses.proofs.Bytes.{Good, passes, decimal_value, media_value, location_value}
use Rattle.responses.proofs.DateLemmas.{good_imf_date}

-- a field as the grammar has it
abbrev pub as_field : List ℕ × List ℕ → Field
as_field field = record { name = field.0; raw = 32 ∷ field.1; end = crlf }

-- they are printed as the text has them
printed : (fields : List (List ℕ × List ℕ)) → flat_map print_field (map as_field fields) ≡ flat_map field_line fields
printed [] = refl
printed (field ∷ fields) =
    ap (λ v. (v ++ codes "\r\n") ++ flat_map print_field (map as_field fields)) (sym (append_assoc field.0 (codes ": ") field.1))
    ∙ ap (λ v. field_line field ++ v) (printed fields)

-- a name and a value that a field may have
record GoodField (field : List ℕ × List ℕ) : Type 0 where
  some : 0 < length field.0
  token : list_all is_token_byte field.0 ≡ true
  value : Good field.1

abbrev AreGood : List (List ℕ × List ℕ) → Type 0
AreGood [] = ⊤
AreGood (field ∷ fields) = GoodField field × AreGood fields

good_joined : (xs ys : List (List ℕ × List ℕ)) → AreGood xs → AreGood ys → AreGood (xs ++ ys)
good_joined [] ys first second = second
good_joined (x ∷ xs) ys first second = (first.0, good_joined xs ys first.1 second)

all_valid : (fields : List (List ℕ × List ℕ)) → AreGood fields → All IsField (map as_field fields)
all_valid [] good = All-nil IsField
all_valid (field ∷ fields) good =
    All-cons IsField (as_field field) (map as_field fields)
    (record { name = (good.0.some, passes is_token_byte field.0 good.0.token); raw = passes is_value_byte (32 ∷ field.1) good.0.value.all })
    (all_valid fields good.1)

-- a status in its three digits and its reason
pub record InWords (code : ℕ) : Type 0 where
  pub words : status_words code ≡ take 3 (status_words code) ++ 32 ∷ drop 4 (status_words code)
  pub three : length (take 3 (status_words code)) ≡ 3
  pub digits : list_all is_ascii_digit (take 3 (status_words code)) ≡ true
  pub number : digits_value 10 (take 3 (status_words code)) ≡ code
  pub reason : list_all is_value_byte (drop 4 (status_words code)) ≡ true

pub in_words : {X : Type 0} (what : ResponseKind X) → InWords (status_of what)
in_words (Page file mtime) = record { words = refl; three = refl; digits = refl; number = refl; reason = refl }
in_words (Known media len mtime) = record { words = refl; three = refl; digits = refl; number = refl; reason = refl }
in_words (Moved location) = record { words = refl; three = refl; digits = refl; number = refl; reason = refl }
in_words (Unmodified mtime) = record { words = refl; three = refl; digits = refl; number = refl; reason = refl }
in_words (Plain BadRequest) = record { words = refl; three = refl; digits = refl; number = refl; reason = refl }
in_words (Plain NotFound) = record { words = refl; three = refl; digits = refl; number = refl; reason = refl }
in_words (Plain MethodNotAllowed) = record { words = refl; three = refl; digits = refl; number = refl; reason = refl }
in_words (Plain ContentTooLarge) = record { words = refl; three = refl; digits = refl; number = refl; reason = refl }
in_words (Plain NotImplemented) = record { words = refl; three = refl; digits = refl; number = refl; reason = refl }
in_words (Plain (ServiceUnavailable seconds)) = record { words = refl; three = refl; digits = refl; number = refl; reason = refl }

-- the head of a slip's reply
abbrev pub head_of : {X : Type 0} → List File → Slip X → ResponseHead
head_of files slip = record {
  blank = [];
  minor = 1;
  digits = take 3 (status_words (status_of slip.what));
  reason = Some (drop 4 (status_words (status_of slip.what)));
  line_end = crlf;
  fields = map as_field (fields_of files slip);
  last = crlf;
}

pub head_printed : {X : Type 0} (files : List File) (slip : Slip X) → print_response (head_of files slip) ≡ head_text files slip
unfolding print_response
head_printed files slip =
    let code = status_of slip.what in
    let fields = flat_map field_line (fields_of files slip) in
    ap (λ f. codes "HTTP/1.1" ++ 32 ∷ take 3 (status_words code) ++ 32 ∷ drop 4 (status_words code) ++ codes "\r\n" ++ (f ++ codes "\r\n")) (printed (fields_of files slip))
    ∙ regroup (codes "HTTP/1.1") (take 3 (status_words code)) (drop 4 (status_words code)) (codes "\r\n") fields
    ∙ ap (λ words. codes "HTTP/1.1 " ++ words ++ codes "\r\n" ++ fields ++ codes "\r\n") (sym (in_words slip.what).words)
  where
    regroup : (v d r e f : List ℕ) → v ++ 32 ∷ d ++ 32 ∷ r ++ e ++ (f ++ e) ≡ (v ++ 32 ∷ []) ++ (d ++ 32 ∷ r) ++ e ++ f ++ e
    regroup v d r e f = simp append_assoc

-- each value is of bytes that a field may have
good_content : (media : List ℕ) (len : ℕ) → Good media → AreGood (content_fields media len)
unfolding is_token_byte
good_content media len good = (record { some = omega arith; token = refl; value = good }, (record { some = omega arith; token = refl; value = record { all = decimal_value len } }, tt))

good_described : (code : ℕ) → AreGood (described code)
good_described code = good_content _ _ (record { all = refl })

good_changed : (date mtime : ℕ) → date ≤ 253402300799 → AreGood (changed date mtime)
unfolding is_token_byte
good_changed date mtime most = (record { some = omega arith; token = refl; value = good_imf_date (min mtime date) (omega arith) }, tt)

good_own : {X : Type 0} (files : List File) (date : ℕ) (what : ResponseKind X) → date ≤ 253402300799 → HasLocation what → AreGood (own_fields files date what)
unfolding is_token_byte
good_own files date (Page file mtime) most has = good_joined (content_fields (media_text (media_of (file_of files file).name)) (length (file_of files file).bytes)) (changed date mtime) (good_content _ _ (record { all = media_value _ })) (good_changed date mtime most)
good_own files date (Known media len mtime) most has = good_joined (content_fields (media_text media) len) (changed date mtime) (good_content _ _ (record { all = media_value media })) (good_changed date mtime most)
good_own files date (Unmodified mtime) most has = good_changed date mtime most
good_own files date (Moved location) most has = good_joined (described 301) ((codes "Location", location) ∷ []) (good_described 301) (record { some = omega arith; token = refl; value = record { all = location_value location has } }, tt)
good_own files date (Plain BadRequest) most has = good_described 400
good_own files date (Plain NotFound) most has = good_described 404
good_own files date (Plain MethodNotAllowed) most has = good_joined (described 405) ((codes "Allow", codes "GET, HEAD") ∷ []) (good_described 405) (record { some = omega arith; token = refl; value = record { all = refl } }, tt)
good_own files date (Plain ContentTooLarge) most has = good_described 413
good_own files date (Plain NotImplemented) most has = good_described 501
good_own files date (Plain (ServiceUnavailable seconds)) most has = good_joined (described 503) ((codes "Retry-After", decimal seconds) ∷ []) (good_described 503) (record { some = omega arith; token = refl; value = record { all = decimal_value seconds } }, tt)

good_connection : (link : Persistence) → AreGood (connection_fields link)
unfolding is_token_byte
good_connection Close = (record { some = omega arith; token = refl; value = record { all = refl } }, tt)
good_connection KeepAlive = (record { some = omega arith; token = refl; value = record { all = refl } }, tt)
good_connection Silent = tt

fields_valid : {X : Type 0} (files : List File) (slip : Slip X) → slip.date ≤ 253402300799 → HasLocation slip.what → All IsField (map as_field (fields_of files slip))
unfolding is_token_byte
fields_valid files slip most has =
    all_valid (fields_of files slip) (record { some = omega arith; token = refl; value = good_imf_date slip.date most }, good_joined (own_fields files slip.date slip.what) (connection_fields slip.link) (good_own files slip.date slip.what most has) (good_connection slip.link))

pub head_valid : {X : Type 0} (files : List File) (slip : Slip X) → slip.date ≤ 253402300799 → HasLocation slip.what → IsResponseHead (head_of files slip)
head_valid files slip most has =
    let words = in_words slip.what in
    record {
      minor = omega arith;
      digits = (words.three, passes is_ascii_digit (take 3 (status_words (status_of slip.what))) words.digits);
      reason = passes is_value_byte (drop 4 (status_words (status_of slip.what))) words.reason;
      fields = fields_valid files slip most has;
    }
