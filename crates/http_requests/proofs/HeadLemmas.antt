-- The lines of a name among the first headers, and one more.
use Rattle.std.proofs.Common.{◌≡◌, ℕ, inl, inr, ◌+◌, ◌<◌, Bool, true, false, ◌||◌, if◌then◌else◌, List, [], ◌∷◌, ◌++◌, length, get_or, take, drop, map, refl, sym, ◌∙◌, ap, arith, append_assoc, append-nil, length-append}
use Rattle.std.proofs.lemmas.Grind.{common_steps}
use Rattle.std.proofs.lemmas.Bool.{cases_Bool}
use Rattle.std.proofs.lemmas.Slice.Eq.{bytes_eq-Decides}
use Rattle.std.proofs.lemmas.List.{take-append-drop, length-map}
use Rattle.std.specs.Char.{to_ascii_lowercase}
use Rattle.std.proofs.lemmas.List.Folds.{list_any-append}
use Rattle.std.specs.Prelude.{◌&&◌, ◌==◌, codes}
use Rattle.std.specs.List.{filter, list_any, slice_split}
use Rattle.httparse.specs.Grammar.{trim_ows}
use Rattle.httparse.specs.declared.spans.HeaderSpan.{HeaderSpan}
use Rattle.httparse.specs.declared.spans.Span.{Span}
use Rattle.httparse.specs.Spans.{header_bytes, span_bytes, IsWithin}
use Rattle.http_requests.specs.declared.heads.Lines.{Lines}
use Rattle.http_requests.specs.declared.heads.Lines.TheVariants.{Absent, Once, Repeated}
use Rattle.http_requests.specs.Reference.{FieldLine, same_text, values_of, is_present, options_of, has_option}
use Rattle.http_requests.specs.Lines.{AreLines, and_if, is_there}

-- the field lines at these places of a block
abbrev pub lines_from : List ℕ → List HeaderSpan → List FieldLine
lines_from block headers = map (header_bytes block) headers

-- the value, if the line has the name
abbrev pub value_if : Bool → List ℕ → List (List ℕ)
value_if true value = value ∷ []
value_if false value = []

values_one : (b : Bool) (line : FieldLine) (more : List FieldLine) → map (λ l. l.1) (if b then line ∷ more else more) ≡ value_if b line.1 ++ map (λ l. l.1) more
values_one true line more = refl
values_one false line more = refl

pub values_append : (name : List ℕ) (a b : List FieldLine) → values_of name (a ++ b) ≡ values_of name a ++ values_of name b
values_append name [] b = refl
values_append name (line ∷ a) b =
    let t = same_text line.0 name in
    let named : List FieldLine → List FieldLine = λ lines. filter (λ l. same_text l.0 name) lines in
    values_one t line (named (a ++ b)) ∙ ap (λ more. value_if t line.1 ++ more) (values_append name a b)
    ∙ sym (append_assoc (value_if t line.1) (values_of name a) (values_of name b)) ∙ ap (λ front. front ++ values_of name b) (sym (values_one t line (named a)))

pub lines_more : (block : List ℕ) (headers : List HeaderSpan) (i : ℕ) (d : HeaderSpan) → i < length headers
    → lines_from block (take (i + 1) headers) ≡ lines_from block (take i headers) ++ header_bytes block (get_or headers i d) ∷ []
lines_more block headers i d h = grind (arith, common_steps)

pub values_more : (name block : List ℕ) (headers : List HeaderSpan) (i : ℕ) (d : HeaderSpan) → i < length headers
    → values_of name (lines_from block (take (i + 1) headers))
    ≡ values_of name (lines_from block (take i headers)) ++ value_if (same_text (span_bytes block (get_or headers i d).name) name) (span_bytes block (get_or headers i d).value)
values_more name block headers i d h =
    ap (values_of name) (lines_more block headers i d h)
    ∙ values_append name (lines_from block (take i headers)) (header_bytes block (get_or headers i d) ∷ [])
    ∙ ap (λ more. values_of name (lines_from block (take i headers)) ++ more) (values_one (same_text (span_bytes block (get_or headers i d).name) name) (header_bytes block (get_or headers i d)) [] ∙ append_nil_of (same_text (span_bytes block (get_or headers i d).name) name) (span_bytes block (get_or headers i d).value))
  where
    append_nil_of : (b : Bool) (value : List ℕ) → value_if b value ++ [] ≡ value_if b value
    append_nil_of true value = refl
    append_nil_of false value = refl

any_or_nil : (p : List ℕ → Bool) (xs : List (List ℕ)) → list_any p (xs ++ []) ≡ list_any p xs
any_or_nil p xs = ap (list_any p) (append-nil xs)

any_map : (p : List ℕ → Bool) (f : List ℕ → List ℕ) (xs : List (List ℕ)) → list_any p (map f xs) ≡ list_any (λ x. p (f x)) xs
any_map p f [] = refl
any_map p f (x ∷ xs) = ap (λ t. p (f x) || t) (any_map p f xs)

options_append : (a b : List (List ℕ)) → options_of (a ++ b) ≡ options_of a ++ options_of b
options_append [] b = refl
options_append (v ∷ a) b = ap (λ more. map trim_ows (slice_split (λ c. c == 44) v) ++ more) (options_append a b) ∙ sym (append_assoc (map trim_ows (slice_split (λ c. c == 44) v)) (options_of a) (options_of b))

pub has_option_append : (option : List ℕ) (a b : List FieldLine) → has_option option (a ++ b) ≡ (has_option option a || has_option option b)
has_option_append option a b =
    ap (λ values. list_any (λ given. same_text given option) (options_of values)) (values_append (codes "connection") a b)
    ∙ ap (list_any (λ given. same_text given option)) (options_append (values_of (codes "connection") a) (values_of (codes "connection") b))
    ∙ list_any-append (λ given. same_text given option) (options_of (values_of (codes "connection") a)) (options_of (values_of (codes "connection") b))

one_option : (b : Bool) (option : List ℕ) (line : FieldLine)
    → list_any (λ given. same_text given option) (options_of (map (λ l. l.1) (if b then line ∷ [] else []))) ≡ (b && list_any (λ part. same_text (trim_ows part) option) (slice_split (λ c. c == 44) line.1))
one_option true option line = any_or_nil (λ given. same_text given option) (map trim_ows (slice_split (λ c. c == 44) line.1)) ∙ any_map (λ given. same_text given option) trim_ows (slice_split (λ c. c == 44) line.1)
one_option false option line = refl

-- one line has the option
pub has_option_one : (option : List ℕ) (line : FieldLine)
    → has_option option (line ∷ []) ≡ (same_text line.0 (codes "connection") && list_any (λ part. same_text (trim_ows part) option) (slice_split (λ c. c == 44) line.1))
has_option_one option line = one_option (same_text line.0 (codes "connection")) option line

pub has_option_more : (option block : List ℕ) (headers : List HeaderSpan) (i : ℕ) (d : HeaderSpan) → i < length headers
    → has_option option (lines_from block (take (i + 1) headers))
    ≡ (has_option option (lines_from block (take i headers))
    || (same_text (span_bytes block (get_or headers i d).name) (codes "connection")
    && list_any (λ part. same_text (trim_ows part) option) (slice_split (λ c. c == 44) (span_bytes block (get_or headers i d).value))))
has_option_more option block headers i d h =
    ap (has_option option) (lines_more block headers i d h)
    ∙ has_option_append option (lines_from block (take i headers)) (header_bytes block (get_or headers i d) ∷ [])
    ∙ ap (λ t. has_option option (lines_from block (take i headers)) || t) (has_option_one option (header_bytes block (get_or headers i d)))

lines_append : (block : List ℕ) (a b : List HeaderSpan) → lines_from block (a ++ b) ≡ lines_from block a ++ lines_from block b
lines_append block [] b = refl
lines_append block (h ∷ a) b = ap (λ t. header_bytes block h ∷ t) (lines_append block a b)

lines_split : (block : List ℕ) (headers : List HeaderSpan) (n : ℕ) → lines_from block headers ≡ lines_from block (take n headers) ++ lines_from block (drop n headers)
lines_split block headers n = ap (lines_from block) (sym (take-append-drop n headers)) ∙ lines_append block (take n headers) (drop n headers)

or_true : (a b : Bool) → a ≡ true → (a || b) ≡ true
or_true a b h = rw h refl

-- an option that the first lines have stands in all of them
pub has_option_kept : (option block : List ℕ) (headers : List HeaderSpan) (n : ℕ) → has_option option (lines_from block (take n headers)) ≡ true → has_option option (lines_from block headers) ≡ true
has_option_kept option block headers n h =
    ap (has_option option) (lines_split block headers n) ∙ has_option_append option (lines_from block (take n headers)) (lines_from block (drop n headers))
    ∙ or_true _ (has_option option (lines_from block (drop n headers))) h

-- the default that a read past the end would give
abbrev pub no_header : HeaderSpan
no_header = record { name = record { start = 0; end = 0 }; value = record { start = 0; end = 0 } }

is_line : (s t name : List ℕ) → s ≡ t → true ≡ same_text s name → same_text t name ≡ true
is_line s t name e h = rw e at (sym h)

pub option_here : (option block : List ℕ) (headers : List HeaderSpan) (i : ℕ) (name value : List ℕ) → i < length headers
    → name ≡ span_bytes block (get_or headers i no_header).name → true ≡ same_text name (codes "connection")
    → value ≡ span_bytes block (get_or headers i no_header).value
    → true ≡ list_any (λ part. same_text (trim_ows part) option) (slice_split (λ c. c == 44) value)
    → true ≡ has_option option (lines_from block headers)
option_here option block headers i name value h n a v b =
    let before = has_option option (lines_from block (take i headers)) in
    let more = has_option_more option block headers i no_header h in
    let here = true_and _ _ (rw n at (sym a)) (rw v at (sym b)) in
    sym (has_option_kept option block headers (i + 1) (more ∙ ap (λ t. before || t) here ∙ or_right before))
  where
    true_and : (p q : Bool) → p ≡ true → q ≡ true → (p && q) ≡ true
    true_and p q g h = rw (g, h) refl

    or_right : (p : Bool) → (p || true) ≡ true
    or_right true = refl
    or_right false = refl

pub option_not_here : (option block : List ℕ) (headers : List HeaderSpan) (i : ℕ) → i < length headers
    → has_option option (lines_from block (take i headers)) ≡ false
    → (same_text (span_bytes block (get_or headers i no_header).name) (codes "connection")
    && list_any (λ part. same_text (trim_ows part) option) (slice_split (λ c. c == 44) (span_bytes block (get_or headers i no_header).value))) ≡ false
    → has_option option (lines_from block (take (i + 1) headers)) ≡ false
option_not_here option block headers i h before here =
    has_option_more option block headers i no_header h ∙ rw (before, here) refl

and_false : (p : Bool) → (p && false) ≡ false
and_false true = refl
and_false false = refl

pub other_line : (s t : List ℕ) (q : Bool) → s ≡ t → false ≡ same_text s (codes "connection") → (same_text t (codes "connection") && q) ≡ false
other_line s t q e h = let k = rw e at (sym h) in rw k refl

pub other_option : (p : Bool) (s t option : List ℕ) → s ≡ t → false ≡ list_any (λ part. same_text (trim_ows part) option) (slice_split (λ c. c == 44) s)
    → (p && list_any (λ part. same_text (trim_ows part) option) (slice_split (λ c. c == 44) t)) ≡ false
other_option p s t option e h = let k = rw e at (sym h) in rw k (and_false p)

-- the lines of a name, and one more where it has the name
lines_and : (block : List ℕ) (values : List (List ℕ)) (lines : Lines) (b : Bool) (span : Span) → AreLines block values lines → IsWithin (length block) span
    → AreLines block (values ++ value_if b (span_bytes block span)) (and_if lines b span)
lines_and block values lines false span are within = rw (append-nil values) are
lines_and block values Absent true span are within = rw are (within, refl)
lines_and block values (Once first) true span are within = rw are.1 (omega arith)
lines_and block values Repeated true span are within = rw (length-append values (span_bytes block span ∷ [])) (omega (arith, are))

-- the lines of a name among the first headers, and the next header, whose name the text is
pub noted_more : (name block : List ℕ) (headers : List HeaderSpan) (i : ℕ) (text : List ℕ) (lines after : Lines) (b : Bool) → i < length headers
    → IsWithin (length block) (get_or headers i no_header).value → text ≡ span_bytes block (get_or headers i no_header).name
    → AreLines block (values_of name (lines_from block (take i headers))) lines
    → b ≡ same_text text name → after ≡ and_if lines b (get_or headers i no_header).value
    → AreLines block (values_of name (lines_from block (take (i + 1) headers))) after
noted_more name block headers i text lines after b h within is are named and_is =
    let e : after ≡ and_if lines (same_text (span_bytes block (get_or headers i no_header).name) name) (get_or headers i no_header).value =
    and_is ∙ ap (λ t. and_if lines t (get_or headers i no_header).value) (named ∙ ap (λ t. same_text t name) is) in
    rw (values_more name block headers i no_header h, e)
    (lines_and block (values_of name (lines_from block (take i headers))) lines _ (get_or headers i no_header).value are within)

-- whether there is a line
pub there : (block : List ℕ) (values : List (List ℕ)) (lines : Lines) → AreLines block values lines → is_present values ≡ is_there lines
there block values Absent are = rw are refl
there block values (Once span) are = rw are.1 refl
there block [] Repeated are = absurd (omega (arith, are))
there block (value ∷ values) Repeated are = refl

-- an option of the only line, or of none
pub option_once : (option block : List ℕ) (lines : List FieldLine) (span : Span) → AreLines block (values_of (codes "connection") lines) (Once span)
    → has_option option lines ≡ list_any (λ part. same_text (trim_ows part) option) (slice_split (λ c. c == 44) (span_bytes block span))
option_once option block lines span are =
    ap (λ values. list_any (λ given. same_text given option) (options_of values)) are.1 ∙ one_option true option ([], span_bytes block span)

pub option_absent : (option block : List ℕ) (lines : List FieldLine) → AreLines block (values_of (codes "connection") lines) Absent → has_option option lines ≡ false
option_absent option block lines are = ap (λ values. list_any (λ given. same_text given option) (options_of values)) are

-- texts of other lengths aren't the same
pub other_length : (a b : List ℕ) → (length a ≡ length b → ⊥) → same_text a b ≡ false
other_length a b other = elim (cases_Bool (same_text a b)) [
  | inl same ↦ absurd (other (sym (length-map a to_ascii_lowercase) ∙ ap length ((bytes_eq-Decides (map to_ascii_lowercase a) (map to_ascii_lowercase b)).0 same) ∙ length-map b to_ascii_lowercase))
  | inr differs ↦ differs
]

-- no line is added where the text isn't the name
pub kept_line : (lines : Lines) (name text : List ℕ) (value : Span) → (length text ≡ length name → ⊥) → lines ≡ and_if lines (same_text text name) value
kept_line lines name text value other = rw (other_length text name other) refl

-- the lines of a name among the first headers, and the next one's
pub named_more : (name block : List ℕ) (headers : List HeaderSpan) (i : ℕ) (text : List ℕ) (lines after : Lines) → i < length headers
    → IsWithin (length block) (get_or headers i no_header).value → text ≡ span_bytes block (get_or headers i no_header).name
    → AreLines block (values_of name (lines_from block (take i headers))) lines
    → after ≡ and_if lines (same_text text name) (get_or headers i no_header).value
    → AreLines block (values_of name (lines_from block (take (i + 1) headers))) after
named_more name block headers i text lines after h within is are and_is =
    noted_more name block headers i text lines after (same_text text name) h within is are refl and_is
