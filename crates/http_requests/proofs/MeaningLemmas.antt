-- Where the messages of a text lie.
use Rattle.std.proofs.Common.{◌≡◌, ℕ, ◌+◌, ◌≤◌, ◌⊎◌, inl, inr, Bool, true, false, ◌&&◌, ◌==◌, if◌then◌else◌, List, [], ◌∷◌, length, take, drop, refl, ◌∙◌, ap, arith, length-drop}
use Rattle.std.specs.Prelude.{Option, Some, None, MatchOption, MatchBool}
use Rattle.std.proofs.lemmas.List.{drop-drop, take-append-drop}
use Rattle.std.proofs.lemmas.Grind.{common_steps}
use Rattle.httparse.specs.Grammar.{LineEnd, crlf, lf, print_blank, RequestHead}
use Rattle.http_requests.specs.declared.messages.MessageFault.{MessageFault}
use Rattle.http_requests.specs.declared.messages.MessageFault.TheVariants.{TooLong, Block, Host, Coding, Length, BodySize}
use Rattle.http_requests.specs.declared.messages.Meaning.TheVariants.{Bad}
use Rattle.http_requests.specs.declared.messages.Message.{Message}
use Rattle.http_requests.specs.declared.heads.Verdict.{Verdict}
use Rattle.http_requests.specs.Reference.{IsVerdict, IsHead, IsRequest, head_fault, lines_of, bad, is_blank, blank_len, NoBlock, IsWhole, IsOver, IsNext, Messages, closes}
use Rattle.http_requests.specs.Parts.{Means, IsPart, LieInOrder}
use Rattle.http_requests.proofs.FrontLemmas.{bool_cases, blank_front, blank_fixed, blank_le}
use Rattle.http_requests.proofs.EndLaws.{ends_within, ends_longer}

-- the bytes of an empty line in front are those of a line end
blank_lf : (b : ℕ) (r : List ℕ) → (b == 10) ≡ true → (rest : (ends : List LineEnd) × (take (blank_len r) r ≡ print_blank ends))
    → (ends : List LineEnd) × (take (blank_len (b ∷ r)) (b ∷ r) ≡ print_blank ends)
blank_lf b r h rest =
    let ten : b ≡ 10 = grind (arith, h) in
    let is : is_blank b r ≡ true = rw h refl in
    (lf ∷ rest.0, rw (is, ten, rest.1) refl)

-- what the empty lines in front are
blank_lines : (r : List ℕ) → (ends : List LineEnd) × (take (blank_len r) r ≡ print_blank ends)
blank_lines [] = ([], refl)
blank_lines (b ∷ []) = elim (bool_cases (b == 10)) [
  | inl h ↦ blank_lf b [] h ([], refl)
  | inr h ↦ ([], (let is : is_blank b [] ≡ false = grind (arith, h) in rw is refl))
]
blank_lines (b ∷ c ∷ r) = elim (bool_cases (b == 10)) [
  | inl h ↦ blank_lf b (c ∷ r) h (blank_lines (c ∷ r))
  | inr h ↦ elim (bool_cases (b == 13 && c == 10)) [
    | inl k ↦ (let rest = blank_lines r in
        let b_is : b ≡ 13 = grind (arith, k) in
        let c_is : c ≡ 10 = grind (arith, k) in
        (crlf ∷ rest.0, rw (b_is, c_is, rest.1) refl))
    | inr k ↦ ([], (let is : is_blank b (c ∷ r) ≡ false = rw (h, k) refl in rw is refl))
  ]
]

no_too_long : (a b c d : Bool)
    → (if a then Some Host else (if b then Some Coding else (if c then Some Length else (if d then Some BodySize else None)))) ≡ Some TooLong → ⊥
no_too_long true b c d h = cc
no_too_long false true c d h = cc
no_too_long false false true d h = cc
no_too_long false false false true h = cc
no_too_long false false false false h = cc

fault_means : (fault : MessageFault) (block body : List ℕ) → (fault ≡ TooLong → ⊥) → IsVerdict block (bad fault) → body ≡ [] → Means (Bad fault) block body
fault_means TooLong block body not says none = absurd (not refl)
fault_means Block block body not says none = (says, none)
fault_means Host block body not says none = (says, none)
fault_means Coding block body not says none = (says, none)
fault_means Length block body not says none = (says, none)
fault_means BodySize block body not says none = (says, none)

nothing : (body : List ℕ) → length body ≡ 0 → body ≡ []
nothing [] h = refl
nothing (b ∷ body) h = absurd (omega (arith, h))

bad_means : (fault : MessageFault) (block body : List ℕ) (v : Verdict) → (fault ≡ TooLong → ⊥) → IsVerdict block v → v ≡ bad fault → length body ≡ v.length → Means v.what block body
bad_means fault block body v not says is len =
    let n = ap (λ x. x.length) is in
    let w = ap (λ x. x.what) is in
    rw w (fault_means fault block body not (rw is at says) (nothing body (len ∙ n)))

head_means : (fault : Option MessageFault) (head : RequestHead) (block body : List ℕ) (v : Verdict) → head_fault head.minor (lines_of head.fields) ≡ fault → IsVerdict block v → IsHead block head
    → MatchOption fault (IsRequest head.method head.target head.minor (lines_of head.fields) v) (λ f. v ≡ bad f) → length body ≡ v.length → Means v.what block body
head_means None head block body v e says reads is len = rw is.what_is (record {
  head = head;
  reads = reads.0;
  fields = reads.1;
  no_fault = e;
  method_is = refl;
  target_is = refl;
  version_is = refl;
  closes_is = refl;
  since_is = is.since_is;
  body_is = len ∙ is.length_is;
})
head_means (Some fault) head block body v e says reads is len = bad_means fault block body v (λ long. no_too_long _ _ _ _ (e ∙ ap (λ f. Some f) long)) says is len

-- what a verdict means
verdict_means : (block body : List ℕ) (v : Verdict) → IsVerdict block v → length body ≡ v.length → Means v.what block body
unfolding IsVerdict
verdict_means block body v (inl h) len = head_means (head_fault h.0.minor (lines_of h.0.fields)) h.0 block body v refl (inl h) h.1 h.2 len
verdict_means block body v (inr h) len = bad_means Block block body v (λ e. cc) (inr h) h.1 len

taken_len : (n : ℕ) (s : List ℕ) → n ≤ length s → length (take n s) ≡ n
taken_len n s h = grind (arith, common_steps)

-- the block after the empty lines doesn't begin with one
front_begins : (r : List ℕ) (e : ℕ) → 2 ≤ e → e ≤ length (drop (blank_len r) r) → blank_len (take e (drop (blank_len r) r)) ≡ 0
front_begins r e two within =
    let s = drop (blank_len r) r in
    let len = taken_len e s within in
    blank_front (take e s) (drop e s) (omega (arith, two, len)) (rw (take-append-drop e s) (blank_fixed r))

whole_part : (p k : ℕ) (r : List ℕ) (m : Message) (j : ℕ) → k ≡ blank_len r + j → m.end ≡ p + k → IsWhole (drop (blank_len r) r) m.what j → IsPart p r m (drop k r)
whole_part p k r m j kis end w =
    let q = blank_len r in
    let s = drop q r in
    let len = w.verdict.length in
    let blank = blank_lines r in
    let e = ends_within s w.e w.block.ends in
    let jis = w.k_is in
    let within = w.within in
    let tail_len = length-drop w.e s in
    let blank_is = taken_len q r (blank_le r) in
    let block_is = taken_len w.e s e.1 in
    let body_is = taken_len len (drop w.e s) (omega (arith, tail_len, jis, within)) in
    let after_is : drop k r ≡ drop len (drop w.e s) = rw (drop-drop len w.e s, drop-drop (w.e + len) q r, kis, jis) refl in
    record {
      empty_lines = blank.0;
      block = take w.e s;
      begins = front_begins r w.e e.0 e.1;
      body = take len (drop w.e s);
      rest_is = rw (← blank.1, after_is, take-append-drop len (drop w.e s), take-append-drop w.e s, take-append-drop q r) refl;
      end_is = rw (← blank.1, blank_is, block_is, body_is) (omega (arith, end, kis, jis));
      means = rw w.what_is (verdict_means (take w.e s) (take len (drop w.e s)) w.verdict w.says body_is);
    }

over_part : (p k : ℕ) (r : List ℕ) (m : Message) (j : ℕ) → k ≡ blank_len r + j → m.end ≡ p + k → IsOver (drop (blank_len r) r) m.what j → IsPart p r m (drop k r)
over_part p k r m j kis end w =
    let q = blank_len r in
    let s = drop q r in
    let blank = blank_lines r in
    let jis = w.k_is in
    let blank_is = taken_len q r (blank_le r) in
    let block_is = taken_len 8192 s w.within in
    let after_is : drop k r ≡ drop 8192 s = rw (drop-drop 8192 q r, kis, jis) refl in
    let none : NoBlock (take 8192 s) = λ e short ends. w.none e short
    (rw (← take-append-drop 8192 s) (ends_longer (take 8192 s) (drop 8192 s) e (omega (arith, short, block_is)) ends)) in
    record {
      empty_lines = blank.0;
      block = take 8192 s;
      begins = front_begins r 8192 (omega arith) w.within;
      body = [];
      rest_is = rw (← blank.1, after_is, take-append-drop 8192 s, take-append-drop q r) refl;
      end_is = rw (← blank.1, blank_is, block_is) (omega (arith, end, kis, jis));
      means = rw w.what_is (block_is, none, refl);
    }

part : (p k : ℕ) (r : List ℕ) (m : Message) → m.end ≡ p + k → (next : IsNext r m.what k)
    → (IsWhole (drop (blank_len r) r) m.what next.j ⊎ IsOver (drop (blank_len r) r) m.what next.j) → IsPart p r m (drop k r)
part p k r m end next (inl w) = whole_part p k r m next.j next.k_is end w
part p k r m end next (inr w) = over_part p k r m next.j next.k_is end w

after_part : (closing : Bool) (p q : ℕ) (rest : List ℕ) (ms : List Message) → q ≡ p → (Messages p rest ms → LieInOrder p rest ms)
    → MatchBool closing (ms ≡ []) (Messages p rest ms) → LieInOrder q rest ms
after_part true p q rest ms e lie h = rw h tt
after_part false p q rest ms e lie h = rw e (lie h)

-- the messages of a text lie in it in order
pub lie_in_order : (p : ℕ) (r : List ℕ) (ms : List Message) → Messages p r ms → LieInOrder p r ms
lie_in_order p r [] h = tt
lie_in_order p r (m ∷ ms) h = (
  drop h.0 r,
  part p h.0 r m h.2 h.1 h.1.front,
  after_part (closes m.what) (p + h.0) m.end (drop h.0 r) ms h.2 (lie_in_order (p + h.0) (drop h.0 r) ms) h.3,
)
