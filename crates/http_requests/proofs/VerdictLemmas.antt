-- A block has one verdict.
use Rattle.std.proofs.Common.{◌≡◌, ℕ, Bool, true, false, inl, inr, List, [], ◌∷◌, refl, sym, ◌∙◌, ap}
use Rattle.std.specs.Prelude.{Option, Some, None, MatchOption, MatchBool, codes, not, ◌&&◌}
use Rattle.httparse.specs.Grammar.{RequestHead}
use Rattle.httparse.proofs.GrammarLemmas.{request_unique}
use Rattle.httpdate.specs.Valid.{parts_secs}
use Rattle.httpdate.proofs.Theorems.{IsDateText_unique}
use Rattle.http_requests.specs.declared.messages.MessageFault.{MessageFault}
use Rattle.http_requests.specs.declared.messages.Meaning.{Meaning}
use Rattle.http_requests.specs.declared.messages.Meaning.TheVariants.{Request}
use Rattle.http_requests.specs.declared.heads.Verdict.{Verdict}
use Rattle.http_requests.specs.Reference.{FieldLine, lines_of, values_of, IsSecondOf, IsOnlySecond, IsModifiedSince, IsRequest, bad, head_fault, is_get_or_head, is_present, IsVerdict, version_of, is_closing}
use Rattle.http_requests.specs.Lines.{HeadSays}

-- a text shows one second, or none
second_unique : (text : List ℕ) (s t : Option ℕ) → IsSecondOf text s → IsSecondOf text t → s ≡ t
second_unique text None None g h = refl
second_unique text None (Some t) g h = absurd (g h.0 h.1)
second_unique text (Some s) None g h = absurd (h g.0 g.1)
second_unique text (Some s) (Some t) g h =
    let same = IsDateText_unique text g.0 h.0 g.1 h.1 in
    ap (λ n. Some n) (sym g.2 ∙ ap parts_secs same ∙ h.2)

only_unique : (values : List (List ℕ)) (s t : Option ℕ) → IsOnlySecond values s → IsOnlySecond values t → s ≡ t
only_unique [] s t g h = g ∙ sym h
only_unique (value ∷ []) s t g h = second_unique value s t g h
only_unique (value ∷ other ∷ values) s t g h = g ∙ sym h

counted_unique : (b : Bool) (values : List (List ℕ)) (s t : Option ℕ) → MatchBool b (IsOnlySecond values s) (s ≡ None) → MatchBool b (IsOnlySecond values t) (t ≡ None) → s ≡ t
counted_unique true values s t g h = only_unique values s t g h
counted_unique false values s t g h = g ∙ sym h

since_unique : (method : List ℕ) (lines : List FieldLine) (s t : Option ℕ) → IsModifiedSince method lines s → IsModifiedSince method lines t → s ≡ t
since_unique method lines s t g h = counted_unique (is_get_or_head method && not (is_present (values_of (codes "if-none-match") lines))) (values_of (codes "if-modified-since") lines) s t g h

same_verdict : (v w : Verdict) → v.what ≡ w.what → v.length ≡ w.length → v ≡ w
same_verdict v w h k = let mk : Meaning → ℕ → Verdict = λ what n. record { what = what; length = n } in ap (λ what. mk what v.length) h ∙ ap (λ n. mk w.what n) k

request_says_unique : (m t : List ℕ) (minor : ℕ) (lines : List FieldLine) (v w : Verdict) → IsRequest m t minor lines v → IsRequest m t minor lines w → v ≡ w
request_says_unique m t minor lines v w g h =
    let since = since_unique m lines g.since h.since g.since_is h.since_is in
    same_verdict v w
    (g.what_is ∙ ap (λ s. Request m t (version_of minor) (is_closing minor lines) s) since ∙ sym h.what_is)
    (g.length_is ∙ sym h.length_is)

says_unique : (fault : Option MessageFault) (m t : List ℕ) (minor : ℕ) (lines : List FieldLine) (v w : Verdict)
    → MatchOption fault (IsRequest m t minor lines v) (λ f. v ≡ bad f) → MatchOption fault (IsRequest m t minor lines w) (λ f. w ≡ bad f) → v ≡ w
says_unique None m t minor lines v w g h = request_says_unique m t minor lines v w g h
says_unique (Some f) m t minor lines v w g h = g ∙ sym h

head_says_unique : (head other : RequestHead) → head ≡ other → (v w : Verdict) → HeadSays head v → HeadSays other w → v ≡ w
head_says_unique head other same v w g h =
    says_unique (head_fault head.minor (lines_of head.fields)) head.method head.target head.minor (lines_of head.fields) v w g (rw same h)

-- a block has one verdict
pub verdict_unique : (block : List ℕ) (v w : Verdict) → IsVerdict block v → IsVerdict block w → v ≡ w
unfolding IsVerdict
verdict_unique block v w (inl g) (inl h) =
    let u = request_unique block g.0 h.0 [] [] g.1.0 h.1.0 in
    head_says_unique g.0 h.0 u.0 v w g.2 h.2
verdict_unique block v w (inl g) (inr h) = absurd (h.0 g.0 g.1)
verdict_unique block v w (inr g) (inl h) = absurd (g.0 h.0 h.1)
verdict_unique block v w (inr g) (inr h) = g.1 ∙ sym h.1
