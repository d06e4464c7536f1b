-- The messages of canonical blocks that lie one after another.
use Rattle.std.proofs.Common.{◌≡◌, ℕ, zero, suc, ◌+◌, ◌<◌, ◌≤◌, ◌⊎◌, inl, inr, Bool, true, false, List, [], ◌∷◌, ◌++◌, length, map, take, drop, replicate, refl, sym, ap, ◌∙◌, subst, arith}
use Rattle.std.specs.Prelude.{MatchBool}
use Rattle.std.proofs.lemmas.List.{length-append, length-replicate, take_at, drop_at, length-take}
use Rattle.http_requests.specs.declared.messages.MessageFault.TheVariants as faults
use Rattle.http_requests.specs.declared.messages.Meaning.{Meaning}
use Rattle.http_requests.specs.declared.messages.Meaning.TheVariants.{Bad}
use Rattle.http_requests.specs.declared.messages.Message.{Message}
use Rattle.http_requests.specs.declared.heads.Verdict.{Verdict}
use Rattle.http_requests.specs.Reference.{IsBlockEnd, IsBlock, IsVerdict, IsWhole, IsOver, IsNext, Messages, closes, blank_len}
use Rattle.http_requests.proofs.FrontLemmas.{next_within}
use Rattle.slim.specs.Blocks.{block_of}
use Rattle.slim.specs.Steps.{whats_of, text_of_blocks, laid}
use Rattle.slim.specs.Targets.{kept_what}
use Rattle.slim.specs.declared.queries.Queries.{Queries}
use Rattle.slim.proofs.KeptTargets.{closes_kept}
use Rattle.slim.proofs.BlockLemmas.{whole, reads_again, reads_kept}
use Rattle.slim.proofs.Shapes.{Shaped, shape_again, shaped_block, shaped_blank}
use Rattle.slim.proofs.Sizes.{size_again, size_kept}

-- ---- what a message may mean

-- a block within the limit says it
pub record Said (what : Meaning) : Type 0 where
  pub block : List ℕ
  pub verdict : Verdict
  pub says : IsVerdict block verdict
  pub short : length block ≤ 8192
  pub what_is : verdict.what ≡ what

abbrev pub IsSaid : Meaning → Type 0
IsSaid what = (what ≡ Bad faults.TooLong) ⊎ Said what

-- each may be meant, and none but the last closes
abbrev pub AreSaid : List Meaning → Type 0
AreSaid [] = Unit {0}
AreSaid (what ∷ whats) = IsSaid what × (closes what ≡ true → whats ≡ []) × AreSaid whats

-- ---- one block

pub said_short : (what : Meaning) → IsSaid what → length (block_of what) ≤ 8192
unfolding block_of
said_short what (inl long) = rw long (let l = length-replicate {A = ℕ} 8192 65 in omega (arith, l))
said_short what (inr s) = subst (λ (w : Meaning). length (block_of w) ≤ 8192) s.what_is (size_again s.block s.verdict s.says s.short)

-- no block ends among letters
letters : (n : ℕ) (rest before end after : List ℕ) → IsBlockEnd end → replicate n 65 ++ rest ≡ before ++ (end ++ after) → n < length before + length end
letters zero rest before end after (inl is) text = let e = ap length is in omega (arith, e)
letters zero rest before end after (inr is) text = let e = ap length is in omega (arith, e)
letters (suc n) rest [] end after (inl is) text =
    let whole : 65 ∷ (replicate n 65 ++ rest) ≡ 10 ∷ 10 ∷ after = text ∙ ap (λ w. w ++ after) is in
    absurd (let z : ◌≡◌ {A = ℕ} 65 10 = cc in omega (arith, z))
letters (suc n) rest [] end after (inr is) text =
    let whole : 65 ∷ (replicate n 65 ++ rest) ≡ 10 ∷ 13 ∷ 10 ∷ after = text ∙ ap (λ w. w ++ after) is in
    absurd (let z : ◌≡◌ {A = ℕ} 65 10 = cc in omega (arith, z))
letters (suc n) rest (c ∷ before) end after is text =
    let more : replicate n 65 ++ rest ≡ before ++ (end ++ after) = cc in
    let later = letters n rest before end after is more in
    omega (arith, later)

long_next : (rest : List ℕ) → IsNext (replicate 8192 65 ++ rest) (Bad faults.TooLong) 8192
long_next rest =
    let len = length-replicate {A = ℕ} 8192 65 in
    let all = length-append (replicate {A = ℕ} 8192 65) rest in
    let over : IsOver (replicate 8192 65 ++ rest) (Bad faults.TooLong) 8192 = record {
      none = λ e le ends. (let late = letters 8192 rest ends.before ends.end ends.after ends.is ends.text in let place = ends.place in omega (arith, late, place, le));
      what_is = refl;
      k_is = refl;
      within = omega (arith, len, all);
    } in
    record { j = 8192; k_is = refl; front = inr over }

said_next : (s_block : List ℕ) (verdict : Verdict) (rest : List ℕ) → IsVerdict s_block verdict → length s_block ≤ 8192 → IsNext (block_of verdict.what ++ rest) verdict.what (length (block_of verdict.what))
said_next s_block verdict rest says short =
    let block = block_of verdict.what in
    let shape : Shaped block = shape_again s_block verdict says in
    let size = size_again s_block verdict says short in
    let ends : IsBlock (block ++ rest) (length block) = shaped_block block rest shape size in
    let line = ap length shape.block_is ∙ length-append shape.lines (10 ∷ []) in
    let blank : blank_len (block ++ rest) ≡ 0 = shaped_blank block rest shape.first (omega (arith, line)) in
    let len = length-append block rest in
    let here : IsWhole (block ++ rest) verdict.what (length block) = record {
      e = length block;
      verdict = whole verdict.what;
      block = ends;
      says = subst (λ (b : List ℕ). IsVerdict b (whole verdict.what)) (sym (take_at block rest (length block) refl)) (reads_again s_block verdict says);
      what_is = refl;
      k_is = omega arith;
      within = omega (arith, len);
    } in
    record { j = length block; k_is = rw blank (omega arith); front = rw blank (inl here) }

pub block_next : (what : Meaning) (rest : List ℕ) → IsSaid what → IsNext (block_of what ++ rest) what (length (block_of what))
unfolding block_of
block_next what rest (inl long) = rw long (subst (λ (k : ℕ). IsNext (replicate 8192 65 ++ rest) (Bad faults.TooLong) k) (sym (length-replicate {A = ℕ} 8192 65)) (long_next rest))
block_next what rest (inr s) = subst (λ (w : Meaning). IsNext (block_of w ++ rest) w (length (block_of w))) s.what_is (said_next s.block s.verdict rest s.says s.short)

-- ---- many

pub laid_messages : (p : ℕ) (whats : List Meaning) → AreSaid whats → Messages p (text_of_blocks whats) (laid p whats)
laid_messages p [] said = λ what k next. (let w = next_within [] what k next in let a = w.0 in let b = w.1 in omega (arith, a, b))
laid_messages p (what ∷ whats) said = (length (block_of what), block_next what (text_of_blocks whats) said.0, refl, go (closes what) refl (laid_messages (p + length (block_of what)) whats said.2))
  where
    go : (b : Bool) → closes what ≡ b → Messages (p + length (block_of what)) (text_of_blocks whats) (laid (p + length (block_of what)) whats)
        → MatchBool b (laid (p + length (block_of what)) whats ≡ []) (Messages (p + length (block_of what)) (drop (length (block_of what)) (block_of what ++ text_of_blocks whats)) (laid (p + length (block_of what)) whats))
    go true is later = ap (laid (p + length (block_of what))) (said.1 is)
    go false is later =
        subst (λ (t : List ℕ). Messages (p + length (block_of what)) t (laid (p + length (block_of what)) whats)) (sym (drop_at (block_of what) (text_of_blocks whats) (length (block_of what)) refl)) later

-- ---- of any text

pub whats_said : (p : ℕ) (r : List ℕ) (ms : List Message) → Messages p r ms → AreSaid (whats_of ms)
whats_said p r [] h = tt
whats_said p r (m ∷ ms) h = (one h.1.front, last (closes m.what) refl h.3, others (closes m.what) h.3 (λ later. whats_said (p + h.0) (drop h.0 r) ms later))
  where
    one : (IsWhole (drop (blank_len r) r) m.what h.1.j ⊎ IsOver (drop (blank_len r) r) m.what h.1.j) → IsSaid m.what
    one (inl w) = inr (record {
      block = take w.e (drop (blank_len r) r);
      verdict = w.verdict;
      says = w.says;
      short = (let l = length-take w.e (drop (blank_len r) r) in let s = w.block.short in omega (arith, l, s));
      what_is = sym w.what_is;
    })
    one (inr o) = inl o.what_is

    last : (b : Bool) → closes m.what ≡ b → MatchBool b (ms ≡ []) (Messages (p + h.0) (drop h.0 r) ms) → closes m.what ≡ true → whats_of ms ≡ []
    last true is none e = ap whats_of none
    last false is later e = absurd (let z : ⊥ = cc in z)

    others : (b : Bool) → MatchBool b (ms ≡ []) (Messages (p + h.0) (drop h.0 r) ms) → (Messages (p + h.0) (drop h.0 r) ms → AreSaid (whats_of ms)) → AreSaid (whats_of ms)
    others true none more = rw none tt
    others false later more = more later

-- a block is not empty
pub block_some : (what : Meaning) → IsSaid what → 0 < length (block_of what)
block_some what said =
    let next = block_next what [] said in
    let w = next_within (block_of what ++ []) what (length (block_of what)) next in
    w.0

-- ---- with what stays of their targets

said_kept : (queries : Queries) (what : Meaning) → IsSaid what → IsSaid (kept_what queries what)
said_kept queries what (inl long) = inl (ap (kept_what queries) long)
said_kept queries what (inr s) = inr (record {
  block = block_of (kept_what queries s.verdict.what);
  verdict = whole (kept_what queries s.verdict.what);
  says = reads_kept queries s.block s.verdict s.says;
  short = (let small = size_again s.block s.verdict s.says s.short in let less = size_kept queries s.verdict.what in omega (arith, small, less));
  what_is = ap (kept_what queries) s.what_is;
})

pub are_said_kept : (queries : Queries) (whats : List Meaning) → AreSaid whats → AreSaid (map (kept_what queries) whats)
are_said_kept queries [] said = tt
are_said_kept queries (what ∷ whats) said = (
  said_kept queries what said.0,
  λ closed. ap (map (kept_what queries)) (said.1 (sym (closes_kept queries what) ∙ closed)),
  are_said_kept queries whats said.2,
)
