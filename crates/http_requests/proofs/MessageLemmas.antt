use Rattle.std.proofs.Common.{◌≡◌, ℕ, ◌+◌, ◌-◌, ◌<◌, ◌≤◌, ◌⊎◌, inl, inr, Bool, true, false, List, [], ◌∷◌, ◌++◌, length, take, drop, refl, sym, ◌∙◌, ap, arith, length-drop}
use Rattle.std.proofs.lemmas.List.{drop-append-le, drop-drop}
use Rattle.http_requests.specs.declared.messages.Meaning.{Meaning}
use Rattle.http_requests.specs.declared.messages.Meaning.TheVariants.{Bad}
use Rattle.http_requests.specs.declared.messages.MessageFault.TheVariants.{TooLong}
use Rattle.http_requests.specs.declared.messages.Message.{Message}
use Rattle.std.specs.Prelude.{MatchBool}
use Rattle.http_requests.specs.declared.heads.Verdict.{Verdict}
use Rattle.http_requests.specs.Reference.{IsVerdict, blank_len, NoBlock, IsBlock, IsWhole, IsOver, Messages, closes}
use Rattle.http_requests.proofs.VerdictLemmas.{verdict_unique}
use Rattle.http_requests.specs.Cutting.{MessagesAfter, BodyMessages}
use Rattle.http_requests.proofs.FrontLemmas.{next_unique, next_append, next_within, blank_append, front_kept, blank_le, block_unique}
use Rattle.http_requests.proofs.EndLaws.{ends_within}

-- two equal descriptions of a message
same_message : (m n : Message) → m.what ≡ n.what → m.end ≡ n.end → m ≡ n
same_message m n h k = let mk : ℕ → Meaning → Message = λ e w. record { end = e; what = w } in ap (λ e. mk e m.what) k ∙ ap (λ w. mk n.end w) h

rest_unique : (b c : Bool) → b ≡ c → (ms ns : List Message) (p q : ℕ) → p ≡ q → (r s : List ℕ) → r ≡ s → (Messages p r ms → Messages p r ns → ms ≡ ns) → MatchBool b (ms ≡ []) (Messages p r ms) → MatchBool c (ns ≡ []) (Messages q s ns) → ms ≡ ns
rest_unique true true e ms ns p q pq r s rs u g h = g ∙ sym h
rest_unique true false e ms ns p q pq r s rs u g h = cc
rest_unique false true e ms ns p q pq r s rs u g h = cc
rest_unique false false e ms ns p q pq r s rs u g h = u g (rw (pq, rs) h)

-- a text has one list of messages
pub messages_unique : (p : ℕ) (r : List ℕ) (ms ns : List Message) → Messages p r ms → Messages p r ns → ms ≡ ns
messages_unique p r [] [] g h = refl
messages_unique p r [] (n ∷ ns) g h = absurd (g n.what h.0 h.1)
messages_unique p r (m ∷ ms) [] g h = absurd (h m.what g.0 g.1)
messages_unique p r (m ∷ ms) (n ∷ ns) g h =
    let u = next_unique r m.what n.what g.0 h.0 g.1 h.1 in
    let same : m ≡ n = same_message m n u.0 (g.2 ∙ ap (λ k. p + k) u.1 ∙ sym h.2) in
    let rest : ms ≡ ns = rest_unique (closes m.what) (closes n.what) (ap closes u.0) ms ns (p + g.0) (p + h.0) (ap (λ k. p + k) u.1) (drop g.0 r) (drop h.0 r) (ap (λ k. drop k r) u.1) (messages_unique (p + g.0) (drop g.0 r) ms ns) g.3 h.3 in
    cc

cons_same : (m n : Message) → n ≡ m → (ns ts : List Message) → ns ≡ ts → n ∷ ns ≡ m ∷ ts
cons_same m n a ns ts b = rw (a, b) refl

rest_prefix : (b c : Bool) → b ≡ c → (ms ns : List Message) (p q : ℕ) → q ≡ p → (r y s : List ℕ) → s ≡ r ++ y
    → (Messages p r ms → Messages p (r ++ y) ns → (more : List Message) × (ns ≡ ms ++ more))
    → MatchBool b (ms ≡ []) (Messages p r ms) → MatchBool c (ns ≡ []) (Messages q s ns) → (more : List Message) × (ns ≡ ms ++ more)
rest_prefix true true e ms ns p q pq r y s rs u g h = ([], rw (g, h) refl)
rest_prefix true false e ms ns p q pq r y s rs u g h = absurd (let x : ⊥ = grind (arith, e) in x)
rest_prefix false true e ms ns p q pq r y s rs u g h = absurd (let x : ⊥ = grind (arith, e) in x)
rest_prefix false false e ms ns p q pq r y s rs u g h = u g (rw (← pq, ← rs) h)

-- the messages of a text are the first of those of the text and what follows
pub messages_prefix : (p : ℕ) (r y : List ℕ) (ms ns : List Message) → Messages p r ms → Messages p (r ++ y) ns → (more : List Message) × (ns ≡ ms ++ more)
messages_prefix p r y [] ns g h = (ns, refl)
messages_prefix p r y (m ∷ ms) [] g h = absurd (h m.what g.0 (next_append r y m.what g.0 g.1))
messages_prefix p r y (m ∷ ms) (n ∷ ns) g h =
    let u = next_unique (r ++ y) m.what n.what g.0 h.0 (next_append r y m.what g.0 g.1) h.1 in
    let same : m ≡ n = same_message m n u.0 (g.2 ∙ ap (λ k. p + k) u.1 ∙ sym h.2) in
    let w = next_within r m.what g.0 g.1 in
    let t : drop h.0 (r ++ y) ≡ drop g.0 r ++ y = rw (← u.1) (drop-append-le g.0 r y w.1) in
    let rest = rest_prefix (closes m.what) (closes n.what) (ap closes u.0) ms ns (p + g.0) (p + h.0) (ap (λ k. p + k) (sym u.1)) (drop g.0 r) y (drop h.0 (r ++ y)) t (messages_prefix (p + g.0) (drop g.0 r) y ms ns) g.3 h.3 in
    (rest.0, cons_same m n (sym same) ns (ms ++ rest.0) rest.1)

after_same : (v w : Meaning) (p q : ℕ) (r s : List ℕ) (ms : List Message) → w ≡ v → q ≡ p → s ≡ r → MessagesAfter v p r ms → MessagesAfter w q s ms
after_same v w p q r s ms a b c h = rw (a, b, c) h

pub whole_alone : (p len : ℕ) (r : List ℕ) (v : Verdict) → IsBlock (drop (blank_len r) r) len → IsVerdict (take len (drop (blank_len r) r)) v
    → length (drop (blank_len r + len) r) < v.length → (what : Meaning) (j : ℕ) → (IsWhole (drop (blank_len r) r) what j ⊎ IsOver (drop (blank_len r) r) what j) → ⊥
whole_alone p len r v block says h what j (inl w) =
    let q = blank_len r in
    let same = block_unique _ len w.e block w.block in
    let verdict : v ≡ w.verdict = verdict_unique _ v w.verdict says (rw same w.says) in
    let n = ap (λ x. x.length) verdict in
    let a : length r - (q + len) < v.length = rw (← length-drop (q + len) r) h in
    let b : j ≤ length r - q = rw (← length-drop q r) w.within in
    let i = w.k_is in
    let e = ends_within _ len block.ends in
    omega (arith, a, b, i, n, same, e.0)
whole_alone p len r v block says h what j (inr o) = o.none len block.short block.ends

-- a whole block at the front, and then the messages of its body's text
pub whole_step : (p len : ℕ) (r : List ℕ) (v : Verdict) → IsBlock (drop (blank_len r) r) len → IsVerdict (take len (drop (blank_len r) r)) v
    → (ms : List Message) → BodyMessages v.what v.length (p + (blank_len r + len)) (drop (blank_len r + len) r) ms → Messages p r ms
whole_step p len r v block says [] h = λ what k next. whole_alone p len r v block says h what next.j next.front
whole_step p len r v block says (m ∷ ms) h =
    let q = blank_len r in
    let e = ends_within _ len block.ends in
    let a : v.length ≤ length r - (q + len) = rw (← length-drop (q + len) r) h.0 in
    let b : len ≤ length r - q = rw (← length-drop q r) e.1 in
    let l = blank_le r in
    let within : len + v.length ≤ length (drop q r) = rw (length-drop q r) (omega (arith, a, b, l, e.0)) in (
      q + (len + v.length),
      record { j = len + v.length; k_is = refl; front = inl (record { e = len; verdict = v; block = block; says = says; what_is = h.1; k_is = refl; within = within }) },
      (let i = h.2 in omega (arith, i)),
      after_same v.what m.what _ _ _ _ ms h.1 (omega arith) (ap (λ n. drop n r) (omega arith) ∙ sym (drop-drop v.length (q + len) r)) h.3,
    )

pub over_step : (p : ℕ) (r : List ℕ) → NoBlock (drop (blank_len r) r) → blank_len r + 8192 ≤ length r
    → (ms : List Message) → BodyMessages (Bad TooLong) 0 (p + (blank_len r + 8192)) (drop (blank_len r + 8192) r) ms → Messages p r ms
over_step p r none within [] h = absurd (omega (arith, h))
over_step p r none within (m ∷ ms) h = (
  blank_len r + 8192,
  record { j = 8192; k_is = refl; front = inr (record { none = none; what_is = h.1; k_is = refl; within = rw (length-drop (blank_len r) r) (omega (arith, within)) }) },
  (let i = h.2 in omega (arith, i)),
  after_same (Bad TooLong) m.what (p + (blank_len r + 8192) + 0) (p + (blank_len r + 8192)) (drop 0 (drop (blank_len r + 8192) r)) (drop (blank_len r + 8192) r) ms h.1 (omega arith) refl h.3,
)

front_place : (b y : List ℕ) → drop (blank_len (b ++ y)) (b ++ y) ≡ drop (blank_len (drop (blank_len b) b ++ y)) (drop (blank_len b) b ++ y)
front_place b y = rw (blank_append b y, ← front_kept b y, drop-drop (blank_len (drop (blank_len b) (b ++ y))) (blank_len b) (b ++ y)) refl

-- the empty lines in front can be left out
pub wait_step : (p : ℕ) (b y : List ℕ) (ms : List Message) → Messages (p + blank_len b) (drop (blank_len b) b ++ y) ms → Messages p (b ++ y) ms
wait_step p b y [] h = λ w k next.
    h w (blank_len (drop (blank_len b) b ++ y) + next.j) (record { j = next.j; k_is = refl; front = rw (← front_place b y) next.front })
wait_step p b y (m ∷ ms) h =
    let q = blank_len b in
    let i = h.1.k_is in (
      q + h.0,
      record { j = h.1.j; k_is = rw (blank_append b y) (omega (arith, i)); front = rw (front_place b y) h.1.front },
      (let e = h.2 in omega (arith, e)),
      after_same m.what m.what _ _ _ _ ms refl (omega arith) (sym (drop-drop h.0 q (b ++ y)) ∙ ap (λ t. drop h.0 t) (front_kept b y)) h.3,
    )

-- part of a body
pub body_step : (w : Meaning) (left n p : ℕ) (r : List ℕ) (ms : List Message) → n ≤ left → n ≤ length r
    → BodyMessages w (left - n) (p + n) (drop n r) ms → BodyMessages w left p r ms
body_step w left n p r [] a b h = let l : length r - n < left - n = rw (← length-drop n r) h in omega (arith, l, a, b)
body_step w left n p r (m ∷ ms) a b h =
    let l : left - n ≤ length r - n = rw (← length-drop n r) h.0 in
    let e = h.2 in (
      omega (arith, l, a, b),
      h.1,
      omega (arith, e, a),
      after_same w w _ _ _ _ ms refl (omega (arith, a)) (ap (λ k. drop k r) (omega (arith, a)) ∙ sym (drop-drop (left - n) n r)) h.3,
    )
