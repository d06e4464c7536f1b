-- Where a canonical block ends.
use Rattle.std.proofs.Common.{◌≡◌, ℕ, ◌+◌, ◌<◌, ◌≤◌, ◌==◌, ◌&&◌, ◌||◌, not, ◌⊎◌, inl, inr, Bool, true, false, IsTrue, List, [], ◌∷◌, ◌++◌, length, codes, Option, Some, None, nat_le, le-leb, refl, sym, ap, ◌∙◌, subst, arith, append-nil}
use Rattle.std.specs.Prelude.{MatchOption}
use Rattle.std.specs.List.{list_all}
use Rattle.std.proofs.lemmas.Bool.{cond-true}
use Rattle.std.proofs.lemmas.Bool.Decides.{eqb_tells}
use Rattle.std.proofs.lemmas.List.{append_assoc, length-append}
use Rattle.std.proofs.lemmas.List.Elements.{All-head, All-tail}
use Rattle.httparse.specs.Grammar.{AllPass, RequestHead, IsRequestHead, is_token_byte, is_uri_byte, is_value_byte}
use Rattle.http_requests.specs.declared.messages.HttpVersion.{HttpVersion}
use Rattle.http_requests.specs.declared.messages.HttpVersion.TheVariants.{Http10, Http11}
use Rattle.http_requests.specs.declared.messages.MessageFault.{MessageFault}
use Rattle.http_requests.specs.declared.messages.MessageFault.TheVariants as faults
use Rattle.http_requests.specs.declared.messages.Meaning.{Meaning}
use Rattle.http_requests.specs.declared.heads.Verdict.{Verdict}
use Rattle.http_requests.specs.Reference.{IsBlockEnd, IsBlock, blank_len, IsVerdict, IsRequest, lines_of, head_fault, version_of, is_closing, bad}
use Rattle.slim.specs.Blocks.{short_date, last_second, version_text, host_line, connection_line, since_line}
use Rattle.slim.specs.Blocks.{request_block, faulty_block, block_of}
use Rattle.slim.proofs.Values.{both, good_short, list_all-append}
use Rattle.slim.proofs.BlockLemmas.{AreParts, MayShow, may_show, never_long, below}

-- ---- texts in which no block ends

abbrev starts_end : List ℕ → Bool
starts_end [] = false
starts_end (b ∷ xs) = b == 10 || b == 13

abbrev pub calm : List ℕ → Bool
calm [] = true
calm (b ∷ xs) = not (b == 10 && starts_end xs) && calm xs

-- an end of a block lies no earlier than the line feed after such a text
ends_late : (xs more before end after : List ℕ) → calm xs ≡ true → IsBlockEnd end → xs ++ 10 ∷ more ≡ before ++ (end ++ after) → length xs + 1 ≤ length before + length end
ends_late [] more before end after quiet (inl is) text = let e = ap length is in omega (arith, e)
ends_late [] more before end after quiet (inr is) text = let e = ap length is in omega (arith, e)
ends_late (b ∷ []) more [] end after quiet (inl is) text = let e = ap length is in omega (arith, e)
ends_late (b ∷ []) more [] end after quiet (inr is) text = let e = ap length is in omega (arith, e)
ends_late (b ∷ d ∷ xs) more [] end after quiet (inl is) text =
    let whole : b ∷ d ∷ (xs ++ 10 ∷ more) ≡ 10 ∷ 10 ∷ after = text ∙ ap (λ w. w ++ after) is in
    let first : b ≡ 10 = cc in
    let second : d ≡ 10 = cc in
    let never = rw (first, second) at quiet in
    absurd (let z : ⊥ = cc in z)
ends_late (b ∷ d ∷ xs) more [] end after quiet (inr is) text =
    let whole : b ∷ d ∷ (xs ++ 10 ∷ more) ≡ 10 ∷ 13 ∷ 10 ∷ after = text ∙ ap (λ w. w ++ after) is in
    let first : b ≡ 10 = cc in
    let second : d ≡ 13 = cc in
    let never = rw (first, second) at quiet in
    absurd (let z : ⊥ = cc in z)
ends_late (b ∷ xs) more (c ∷ before) end after quiet is text =
    let rest : xs ++ 10 ∷ more ≡ before ++ (end ++ after) = cc in
    let later = ends_late xs more before end after (both (not (b == 10 && starts_end xs)) (calm xs) quiet).1 is rest in
    omega (arith, later)

-- a text that ends with a line feed
pub record EndsLine (xs : List ℕ) : Type 0 where
  pub front : List ℕ
  pub is : xs ≡ front ++ 10 ∷ []

-- a block: calm lines, an empty line, and no empty line in front
pub record Shaped (block : List ℕ) : Type 0 where
  pub lines : List ℕ
  pub block_is : block ≡ lines ++ 10 ∷ []
  pub quiet : calm lines ≡ true
  pub ends : EndsLine lines
  pub first : starts_end block ≡ false

pub shaped_block : (block rest : List ℕ) → Shaped block → length block ≤ 8192 → IsBlock (block ++ rest) (length block)
shaped_block block rest s short =
    let text : block ++ rest ≡ s.lines ++ 10 ∷ rest = ap (λ w. w ++ rest) s.block_is ∙ append_assoc s.lines (10 ∷ []) rest in
    let long : length block ≡ length s.lines + 1 = ap length s.block_is ∙ length-append s.lines (10 ∷ []) in
    let line : length s.lines ≡ length s.ends.front + 1 = ap length s.ends.is ∙ length-append s.ends.front (10 ∷ []) in
    record {
      ends = record {
        before = s.ends.front;
        end = codes "\n\n";
        after = rest;
        is = inl refl;
        text = text ∙ ap (λ w. w ++ 10 ∷ rest) s.ends.is ∙ append_assoc s.ends.front (10 ∷ []) (10 ∷ rest);
        place = omega (arith, long, line);
      };
      first = λ k lt ends. (let late = ends_late s.lines rest ends.before ends.end ends.after s.quiet ends.is (sym text ∙ ends.text) in let place = ends.place in omega (arith, late, long, place, lt));
      short = short;
    }

pub shaped_blank : (block rest : List ℕ) → starts_end block ≡ false → 0 < length block → blank_len (block ++ rest) ≡ 0
shaped_blank [] rest first some = absurd (omega (arith, some))
shaped_blank (b ∷ block) rest first some = go (b == 10) (b == 13) refl refl first
  where
    go : (x y : Bool) → (b == 10) ≡ x → (b == 13) ≡ y → (x || y) ≡ false → blank_len ((b ∷ block) ++ rest) ≡ 0
    go true y e f h = absurd (let z : ⊥ = cc in z)
    go false true e f h = absurd (let z : ⊥ = cc in z)
    go false false e f h = rw (e, f) refl

-- ---- calm parts

-- such bytes begin no line
calm_all : (test : ℕ → Bool) → ((b : ℕ) → IsTrue (test b) → (b == 10) ≡ false) → (xs : List ℕ) → AllPass test xs → calm xs ≡ true
calm_all test none [] all = refl
calm_all test none (b ∷ xs) all =
    let here = none b (All-head (λ (b : ℕ). IsTrue (test b)) b xs all) in
    ap (λ t. not (t && starts_end xs) && calm xs) here ∙ calm_all test none xs (All-tail (λ (b : ℕ). IsTrue (test b)) b xs all)

starts_none : (test : ℕ → Bool) → ((b : ℕ) → IsTrue (test b) → (b == 10 || b == 13) ≡ false) → (xs : List ℕ) → AllPass test xs → starts_end xs ≡ false
starts_none test none [] all = refl
starts_none test none (b ∷ xs) all = none b (All-head (λ (b : ℕ). IsTrue (test b)) b xs all)

calm_join : (xs ys : List ℕ) → calm xs ≡ true → calm ys ≡ true → starts_end ys ≡ false → calm (xs ++ ys) ≡ true
calm_join [] ys first second start = second
calm_join (b ∷ []) ys first second start = rw start (ap (λ t. not t && calm ys) (and_false (b == 10)) ∙ second)
  where
    and_false : (t : Bool) → (t && false) ≡ false
    and_false true = refl
    and_false false = refl
calm_join (b ∷ c ∷ xs) ys first second start =
    let parts = both (not (b == 10 && (c == 10 || c == 13))) (calm (c ∷ xs)) first in
    ap (λ t. t && calm ((c ∷ xs) ++ ys)) parts.0 ∙ calm_join (c ∷ xs) ys parts.1 second start

token_no_feed : (b : ℕ) → IsTrue (is_token_byte b) → (b == 10) ≡ false
unfolding is_token_byte
token_no_feed b h = elim (eqb_tells b 10) [ inl same ↦ absurd (let z = rw same.1 at h in let w : ⊥ = cc in w) | inr other ↦ other.0 ]

token_no_end : (b : ℕ) → IsTrue (is_token_byte b) → (b == 10 || b == 13) ≡ false
unfolding is_token_byte
token_no_end b h = elim (eqb_tells b 10) [
  | inl same ↦ absurd (let z = rw same.1 at h in let w : ⊥ = cc in w)
  | inr other ↦ elim (eqb_tells b 13) [ inl same ↦ absurd (let z = rw same.1 at h in let w : ⊥ = cc in w) | inr neither ↦ rw (other.0, neither.0) refl ]
]

uri_no_feed : (b : ℕ) → IsTrue (is_uri_byte b) → (b == 10) ≡ false
uri_no_feed b h = elim (eqb_tells b 10) [ inl same ↦ absurd (let z = rw same.1 at h in let w : ⊥ = cc in w) | inr other ↦ other.0 ]

uri_no_end : (b : ℕ) → IsTrue (is_uri_byte b) → (b == 10 || b == 13) ≡ false
uri_no_end b h = elim (eqb_tells b 10) [
  | inl same ↦ absurd (let z = rw same.1 at h in let w : ⊥ = cc in w)
  | inr other ↦ elim (eqb_tells b 13) [ inl same ↦ absurd (let z = rw same.1 at h in let w : ⊥ = cc in w) | inr neither ↦ rw (other.0, neither.0) refl ]
]

value_no_feed : (b : ℕ) → is_value_byte b ≡ true → (b == 10) ≡ false
value_no_feed b h = elim (eqb_tells b 10) [ inl same ↦ absurd (let z = rw same.1 at h in let w : ⊥ = cc in w) | inr other ↦ other.0 ]

value_no_end : (b : ℕ) → is_value_byte b ≡ true → (b == 10 || b == 13) ≡ false
value_no_end b h = elim (eqb_tells b 10) [
  | inl same ↦ absurd (let z = rw same.1 at h in let w : ⊥ = cc in w)
  | inr other ↦ elim (eqb_tells b 13) [ inl same ↦ absurd (let z = rw same.1 at h in let w : ⊥ = cc in w) | inr neither ↦ rw (other.0, neither.0) refl ]
]

calm_values : (xs : List ℕ) → list_all is_value_byte xs ≡ true → calm xs ≡ true
calm_values [] all = refl
calm_values (b ∷ xs) all =
    let parts = both (is_value_byte b) (list_all is_value_byte xs) all in
    ap (λ t. not (t && starts_end xs) && calm xs) (value_no_feed b parts.0) ∙ calm_values xs parts.1

starts_values : (xs : List ℕ) → list_all is_value_byte xs ≡ true → starts_end xs ≡ false
starts_values [] all = refl
starts_values (b ∷ xs) all = value_no_end b (both (is_value_byte b) (list_all is_value_byte xs) all).0

-- ---- the parts of a request's block

line_join : (xs ys : List ℕ) → EndsLine ys → EndsLine (xs ++ ys)
line_join xs ys e = record { front = xs ++ e.front; is = ap (λ w. xs ++ w) e.is ∙ sym (append_assoc xs e.front (10 ∷ [])) }

-- a line of bytes that may stand in a value
calm_end : (xs : List ℕ) → list_all is_value_byte xs ≡ true → calm (xs ++ codes "\n") ≡ true
calm_end [] all = refl
calm_end (b ∷ xs) all =
    let parts = both (is_value_byte b) (list_all is_value_byte xs) all in
    ap (λ t. not (t && starts_end (xs ++ codes "\n")) && calm (xs ++ codes "\n")) (value_no_feed b parts.0) ∙ calm_end xs parts.1

-- a line or nothing
record Line (ys : List ℕ) : Type 0 where
  quiet : calm ys ≡ true
  start : starts_end ys ≡ false
  ends : (ys ≡ []) ⊎ EndsLine ys

host_shape : (version : HttpVersion) → Line (host_line version)
host_shape Http10 = record { quiet = refl; start = refl; ends = inl refl }
host_shape Http11 = record { quiet = refl; start = refl; ends = inr (record { front = codes "Host:"; is = refl }) }

connection_shape : (version : HttpVersion) (closing : Bool) → Line (connection_line version closing)
connection_shape Http10 true = record { quiet = refl; start = refl; ends = inl refl }
connection_shape Http10 false = record { quiet = refl; start = refl; ends = inr (record { front = codes "Connection:keep-alive"; is = refl }) }
connection_shape Http11 true = record { quiet = refl; start = refl; ends = inr (record { front = codes "Connection:close"; is = refl }) }
connection_shape Http11 false = record { quiet = refl; start = refl; ends = inl refl }

since_shape : (method : List ℕ) (since : Option ℕ) → MayShow method since → Line (since_line since)
since_shape method None shows = record { quiet = refl; start = refl; ends = inl refl }
since_shape method (Some second) shows =
    let most = below method second shows in
    let d = short_date second in
    let good = (good_short second most).all in
    let here : since_line (Some second) ≡ codes "If-Modified-Since:" ++ d ++ codes "\n" = cond-true (nat_le second last_second) (codes "If-Modified-Since:" ++ d ++ codes "\n") [] (le-leb second 253402300799 most) in
    subst Line (sym here) (record {
      quiet = calm_end (codes "If-Modified-Since:" ++ d) (list_all-append is_value_byte (codes "If-Modified-Since:") d refl good);
      start = refl;
      ends = inr (record { front = codes "If-Modified-Since:" ++ d; is = refl });
    })

more_line : (xs ys : List ℕ) → calm xs ≡ true → EndsLine xs → Line ys → (calm (xs ++ ys) ≡ true) × EndsLine (xs ++ ys)
more_line xs ys quiet ends line = (
  calm_join xs ys quiet line.quiet line.start,
  elim line.ends [
    | inl none ↦ subst EndsLine (sym (append-nil xs) ∙ ap (λ w. xs ++ w) (sym none)) ends
    | inr some ↦ line_join xs ys some
  ],
)

version_shape : (version : HttpVersion) → (calm (version_text version) ≡ true) × (starts_end (version_text version) ≡ false) × EndsLine (version_text version)
version_shape Http10 = (refl, refl, record { front = codes " HTTP/1.0"; is = refl })
version_shape Http11 = (refl, refl, record { front = codes " HTTP/1.1"; is = refl })

starts_front : (xs ys : List ℕ) → 0 < length xs → starts_end xs ≡ false → starts_end (xs ++ ys) ≡ false
starts_front [] ys some start = absurd (omega (arith, some))
starts_front (b ∷ xs) ys some start = start

pub request_shape : (method target : List ℕ) (version : HttpVersion) (closing : Bool) (since : Option ℕ) → AreParts method target since → Shaped (request_block method target version closing since)
request_shape method target version closing since parts =
    let m = calm_all is_token_byte token_no_feed method parts.method_is.1 in
    let t = calm_all is_uri_byte uri_no_feed target parts.target_is.1 in
    let t_start = starts_none is_uri_byte uri_no_end target parts.target_is.1 in
    let v = version_shape version in
    let a : List ℕ = method ++ codes " " in
    let b : List ℕ = a ++ target in
    let c : List ℕ = b ++ version_text version in
    let d : List ℕ = c ++ host_line version in
    let e : List ℕ = d ++ connection_line version closing in
    let f : List ℕ = e ++ since_line since in
    let qa : calm a ≡ true = calm_join method (codes " ") m refl refl in
    let qb : calm b ≡ true = calm_join a target qa t t_start in
    let qc : calm c ≡ true = calm_join b (version_text version) qb v.0 v.1 in
    let lc : EndsLine c = line_join b (version_text version) v.2 in
    let pd = more_line c (host_line version) qc lc (host_shape version) in
    let pe = more_line d (connection_line version closing) pd.0 pd.1 (connection_shape version closing) in
    let pf = more_line e (since_line since) pe.0 pe.1 (since_shape method since parts.shows) in
    let start = starts_none is_token_byte token_no_end method parts.method_is.1 in
    let regroup : request_block method target version closing since ≡ method ++ (codes " " ++ (target ++ (version_text version ++ (host_line version ++ (connection_line version closing ++ (since_line since ++ codes "\n")))))) =
    rest method (codes " ") target (version_text version) (host_line version) (connection_line version closing) (since_line since) (codes "\n") in
    record {
      lines = f;
      block_is = refl;
      quiet = pf.0;
      ends = pf.1;
      first = ap starts_end regroup ∙ starts_front method _ parts.method_is.0 start;
    }
  where
    rest : (a b c d e f g h : List ℕ) → a ++ b ++ c ++ d ++ e ++ f ++ g ++ h ≡ a ++ (b ++ (c ++ (d ++ (e ++ (f ++ (g ++ h))))))
    rest a b c d e f g h = simp append_assoc

-- ---- faulty blocks

pub faulty_shape : (fault : MessageFault) → (fault ≡ faults.TooLong → ⊥) → Shaped (faulty_block fault)
faulty_shape faults.TooLong other = absurd (other refl)
faulty_shape faults.Block other = record { lines = codes "A\n"; block_is = refl; quiet = refl; ends = record { front = codes "A"; is = refl }; first = refl }
faulty_shape faults.Host other = record { lines = codes "A / HTTP/1.1\n"; block_is = refl; quiet = refl; ends = record { front = codes "A / HTTP/1.1"; is = refl }; first = refl }
faulty_shape faults.Coding other = record { lines = codes "A / HTTP/1.0\nTransfer-Encoding:\n"; block_is = refl; quiet = refl; ends = record { front = codes "A / HTTP/1.0\nTransfer-Encoding:"; is = refl }; first = refl }
faulty_shape faults.Length other = record { lines = codes "A / HTTP/1.0\nContent-Length:\n"; block_is = refl; quiet = refl; ends = record { front = codes "A / HTTP/1.0\nContent-Length:"; is = refl }; first = refl }
faulty_shape faults.BodySize other = record { lines = codes "A / HTTP/1.0\nContent-Length:65537\n"; block_is = refl; quiet = refl; ends = record { front = codes "A / HTTP/1.0\nContent-Length:65537"; is = refl }; first = refl }

-- ---- of any verdict

says_shape : (head : RequestHead) (verdict : Verdict) → IsRequestHead head → (fault : Option MessageFault) → head_fault head.minor (lines_of head.fields) ≡ fault
    → MatchOption fault (IsRequest head.method head.target head.minor (lines_of head.fields) verdict) (λ f. verdict ≡ bad f) → Shaped (block_of verdict.what)
unfolding block_of
says_shape head verdict is None none r =
    subst (λ (w : Meaning). Shaped (block_of w)) (sym r.what_is)
    (request_shape head.method head.target (version_of head.minor) (is_closing head.minor (lines_of head.fields)) r.since
    (record { method_is = is.method; target_is = is.target; text = is.target_text; shows = may_show head.method (lines_of head.fields) r.since r.since_is }))
says_shape head verdict is (Some fault) some r =
    subst (λ (w : Meaning). Shaped (block_of w)) (sym (ap (λ v. v.what) r))
    (faulty_shape fault (λ long. never_long head.minor (lines_of head.fields) (some ∙ ap Some long)))

pub shape_again : (block : List ℕ) (verdict : Verdict) → IsVerdict block verdict → Shaped (block_of verdict.what)
unfolding IsVerdict block_of
shape_again block verdict (inl h) = says_shape h.0 verdict h.1.0.0 (head_fault h.0.minor (lines_of h.0.fields)) refl h.2
shape_again block verdict (inr h) = subst (λ (w : Meaning). Shaped (block_of w)) (sym (ap (λ v. v.what) h.1)) (faulty_shape faults.Block (λ e. (let z : ⊥ = cc in z)))
