-- Steps over a text, and the messages that they count.
use Rattle.std.proofs.Common.{◌≡◌, ℕ, ◌+◌, ◌-◌, ◌<◌, ◌≤◌, ◌⊎◌, inl, inr, codes, Bool, true, false, Option, Some, None, List, [], ◌∷◌, ◌++◌, length, take, drop, refl, arith, length-append, length-drop, append_assoc, append-nil}
use Rattle.std.proofs.lemmas.List.{drop-drop}
use Rattle.std.specs.Prelude.{MatchBool}
use Rattle.http_requests.specs.declared.messages.MessageFault.{MessageFault}
use Rattle.http_requests.specs.declared.messages.MessageFault.TheVariants.{TooLong}
use Rattle.http_requests.specs.declared.messages.Meaning.TheVariants.{Request, Bad}
use Rattle.http_requests.specs.declared.messages.Message.{Message}
use Rattle.http_requests.specs.declared.heads.Verdict.{Verdict}
use Rattle.http_requests.specs.declared.heads.Extent.{Extent}
use Rattle.http_requests.specs.declared.scanning.Found.TheVariants.{Wait, Over as Beyond, Whole}
use Rattle.http_requests.specs.declared.counting.CountStep.TheVariants.{Missing, Last, Over}
use Rattle.http_requests.specs.Reference.{FieldLine, IsVerdict, PartsSay, IsModifiedSince, head_fault, version_of, is_closing, body_length, values_of, bad, blank_len, IsWhole, IsOver, IsNext, Messages, MessagesOf, closes}
use Rattle.http_requests.specs.Scanning.{IsFound}
use Rattle.http_requests.specs.Cutting.{IsExtent, IsStep}
use Rattle.http_requests.proofs.FrontLemmas.{next_within}
use Rattle.http_requests.proofs.MessageLemmas.{whole_alone}

-- nothing is whole where no block is
pub step_waits : (rest : List ℕ) (q : ℕ) → IsFound rest (Wait q) → IsStep rest Missing
step_waits rest q f what k next = front next.j next.front
  where
    front : (j : ℕ) → (IsWhole (drop (blank_len rest) rest) what j ⊎ IsOver (drop (blank_len rest) rest) what j) → ⊥
    front j (inl w) = (rw f.0 at f.2) w.e w.block.short w.block.ends
    front j (inr o) =
        let l : 8192 ≤ length rest - blank_len rest = rw (← length-drop (blank_len rest) rest) o.within in
        let i = f.0 in let short = f.3 in omega (arith, l, i, short)

-- a block beyond the limit
pub step_over : (rest : List ℕ) (k : ℕ) → IsFound rest (Beyond k) → IsStep rest Last
step_over rest k f =
    let i = f.0 in let le = f.2 in (
      Bad TooLong,
      k,
      record { j = 8192; k_is = f.0; front = inr (record { none = f.1; what_is = refl; k_is = refl; within = rw (length-drop (blank_len rest) rest) (omega (arith, i, le)) }) },
      refl,
    )

-- a block whose body isn't whole
pub step_short : (rest : List ℕ) (q len : ℕ) (v : Verdict) (x : Extent) → IsFound rest (Whole q len) → IsVerdict (take len (drop q rest)) v → IsExtent v x
    → length rest - (q + len) < x.length → IsStep rest Missing
step_short rest q len v x f says is short what k next =
    let e = is.1 in
    whole_alone 0 len rest v (rw f.0 at f.2) (rw f.0 at says) (rw (length-drop (blank_len rest + len) rest, ← f.0) (omega (arith, e, short))) what next.j next.front

-- a message that is whole
pub step_whole : (rest : List ℕ) (q len : ℕ) (v : Verdict) (x : Extent) → IsFound rest (Whole q len) → IsVerdict (take len (drop q rest)) v → IsExtent v x
    → x.length ≤ length rest - (q + len) → IsNext rest v.what (q + len + x.length)
step_whole rest q len v x f says is fits =
    let e = is.1 in let le = f.1 in record {
      j = len + v.length;
      k_is = (let i = f.0 in omega (arith, i, e));
      front = inl (record {
        e = len;
        verdict = v;
        block = rw f.0 at f.2;
        says = rw f.0 at says;
        what_is = refl;
        k_is = refl;
        within = rw (length-drop (blank_len rest) rest, ← f.0) (omega (arith, e, fits, le));
      });
    }

-- ---- the count so far

-- the messages that end before a place are n, and those of the rest follow them
pub record Counts (text : List ℕ) (at count : ℕ) : Type 0 where
  pub within : at ≤ length text
  pub few : count ≤ at
  pub messages : List Message
  pub count_is : count ≡ length messages
  pub goes_on : (ms : List Message) → Messages at (drop at text) ms → MessagesOf text (messages ++ ms)

pub counts_none : (text : List ℕ) → Counts text 0 0
counts_none text = record { within = omega arith; few = omega arith; messages = []; count_is = refl; goes_on = λ ms h. h }

abbrev pub Counted : List ℕ → ℕ → Type 0
Counted text count = (ms : List Message) × MessagesOf text ms × (count ≡ length ms)

-- none follows
pub counts_all : (text : List ℕ) (at count : ℕ) → Counts text at count → IsStep (drop at text) Missing → Counted text count
counts_all text at count c none = (c.messages, rw (append-nil c.messages) at (c.goes_on [] none), c.count_is)

closing : (b : Bool) (Rest : Type 0) (ms : List Message) → b ≡ true → ms ≡ [] → MatchBool b (ms ≡ []) Rest
closing true Rest ms h e = e
closing false Rest ms h e = absurd cc

open_on : (b : Bool) (Rest : Type 0) (ms : List Message) → b ≡ false → Rest → MatchBool b (ms ≡ []) Rest
open_on true Rest ms h r = absurd cc
open_on false Rest ms h r = r

-- one more, and it is the last
pub counts_last : (text : List ℕ) (at count : ℕ) → Counts text at count → IsStep (drop at text) Last → Counted text (count + 1)
counts_last text at count c (what, k, next, closing_one) =
    let m : Message = record { end = at + k; what = what } in (
      c.messages ++ m ∷ [],
      c.goes_on (m ∷ []) (k, next, refl, closing (closes what) (Messages (at + k) (drop k (drop at text)) []) [] closing_one refl),
      (let n = c.count_is in omega (arith, n, length-append c.messages (m ∷ []))),
    )

-- one more, and others may follow
pub counts_more : (text : List ℕ) (at count n : ℕ) → Counts text at count → IsStep (drop at text) (Over n) → Counts text (at + n) (count + 1)
counts_more text at count n c (what, next, goes) =
    let m : Message = record { end = at + n; what = what } in
    let w = next_within (drop at text) what n next in
    let le : n ≤ length text - at = rw (← length-drop at text) w.1 in
    let within = c.within in let few = c.few in let some = w.0 in
    record {
      within = omega (arith, within, le);
      few = omega (arith, few, some);
      messages = c.messages ++ m ∷ [];
      count_is = (let k = c.count_is in omega (arith, k, length-append c.messages (m ∷ [])));
      goes_on = λ ms h. rw (append_assoc c.messages (m ∷ []) ms) (c.goes_on (m ∷ ms) (
        n,
        next,
        refl,
        open_on (closes what) (Messages (at + n) (drop n (drop at text)) ms) ms goes (rw (drop-drop n at text) h),
      ));
    }

-- each step is over some bytes
pub counts_some : (text : List ℕ) (at n : ℕ) → IsStep (drop at text) (Over n) → 0 < n
counts_some text at n (what, next, goes) = (next_within (drop at text) what n next).0

-- nothing is left
pub counts_end : (text : List ℕ) (at count : ℕ) → Counts text at count → length text ≤ at → Counted text count
counts_end text at count c end = counts_all text at count c (λ what k next.
    let w = next_within (drop at text) what k next in
    let le : k ≤ length text - at = rw (← length-drop at text) w.1 in
    let some = w.0 in omega (arith, le, some, end))

-- ---- a head

pub measure_parts : (method target : List ℕ) (minor : ℕ) (lines : List FieldLine) (since : Option ℕ) (x : Extent) → head_fault minor lines ≡ None
    → IsModifiedSince method lines since → x.closes ≡ is_closing minor lines → x.length ≡ body_length (values_of (codes "content-length") lines)
    → (v : Verdict) × PartsSay method target minor lines v × IsExtent v x
measure_parts method target minor lines since x good is closing_is length_is =
    let v : Verdict = record { what = Request method target (version_of minor) (is_closing minor lines) since; length = body_length (values_of (codes "content-length") lines) } in
    (v, rw good (record { since = since; since_is = is; what_is = refl; length_is = refl }), (closing_is, length_is))

pub measure_fault : (method target : List ℕ) (minor : ℕ) (lines : List FieldLine) (fault : MessageFault) (x : Extent) → head_fault minor lines ≡ Some fault
    → x.closes ≡ true → x.length ≡ 0 → (v : Verdict) × PartsSay method target minor lines v × IsExtent v x
measure_fault method target minor lines fault x is closing_is none = (bad fault, rw is refl, (closing_is, none))
