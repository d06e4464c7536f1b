-- What was found at the start of a text, and the messages of that text.
use Rattle.std.proofs.Common.{◌≡◌, ℕ, ◌+◌, ◌-◌, ◌<◌, ◌≤◌, inl, inr, List, [], ◌++◌, length, take, drop, refl, ◌∙◌, ap, arith, length-append, length-drop, append_assoc}
use Rattle.std.proofs.lemmas.List.{take-append-le, drop-append-le, take-append-drop}
use Rattle.std.proofs.Math.Seq.{take-length}
use Rattle.std.proofs.Math.ListN.{drop_of_length-le}
use Rattle.std.proofs.lemmas.Grind.{common_steps}
use Rattle.std.proofs.lemmas.Bool.{cases_lt}
use Rattle.http_requests.specs.declared.messages.Meaning.TheVariants.{Bad}
use Rattle.http_requests.specs.declared.messages.MessageFault.TheVariants.{TooLong}
use Rattle.http_requests.specs.declared.messages.Message.{Message}
use Rattle.http_requests.specs.declared.heads.Verdict.{Verdict}
use Rattle.http_requests.specs.declared.scanning.Found.TheVariants.{Wait, Over, Whole}
use Rattle.http_requests.specs.Reference.{IsVerdict, bad, blank_len, Messages}
use Rattle.http_requests.specs.Scanning.{IsFound, NoEndIn}
use Rattle.http_requests.specs.Cutting.{BodyMessages, IsUnfinished, Begins, Waits}
use Rattle.http_requests.proofs.FrontLemmas.{blank_append, blank_two, blank_kept, front_kept, block_append, noblock_append, blank_fixed}
use Rattle.http_requests.proofs.EndLaws.{ends_within, ends_longer, ends_shorter}
use Rattle.http_requests.proofs.MessageLemmas.{whole_step, over_step, wait_step}

-- no block stands in nothing
pub front_empty : (held : List ℕ) → held ≡ [] → IsUnfinished held
front_empty held h = rw h (refl, (λ e short ends. let w = ends_within [] e ends in omega (arith, w.0, w.1)), omega arith)

whole_cut : (p q len : ℕ) (b y : List ℕ) (v : Verdict) → IsFound b (Whole q len) → IsVerdict (take len (drop q b)) v
    → (ms : List Message) → BodyMessages v.what v.length (p + (q + len)) (drop (q + len) b ++ y) ms → Messages p (b ++ y) ms
whole_cut p q len b y v f says ms h =
    let e = ends_within _ len f.2.ends in
    let two : blank_len b + 2 ≤ length b = (let i = f.0 in let j = f.1 in omega (arith, i, j, e.0)) in
    let k = blank_kept b y two in
    let d : drop (blank_len (b ++ y)) (b ++ y) ≡ drop q b ++ y = rw (k, ← f.0) (drop-append-le q b y (let j = f.1 in omega (arith, j))) in
    whole_step p len (b ++ y) v (rw d (block_append _ y len f.2)) (rw (d, take-append-le len (drop q b) y e.1) says) ms
    (rw (k, ← f.0, drop-append-le (q + len) b y f.1) h)

over_cut : (p k : ℕ) (b y : List ℕ) → IsFound b (Over k)
    → (ms : List Message) → BodyMessages (Bad TooLong) 0 (p + k) (drop k b ++ y) ms → Messages p (b ++ y) ms
over_cut p k b y f ms h =
    let i = f.0 in let j = f.2 in
    let e = blank_kept b y (omega (arith, i, j)) in
    let d : drop (blank_len (b ++ y)) (b ++ y) ≡ drop (blank_len b) b ++ y = rw e (front_kept b y) in
    over_step p (b ++ y) (rw d (noblock_append _ y (rw (length-drop (blank_len b) b) (omega (arith, i, j))) f.1))
    (rw (e, length-append b y) (omega (arith, i, j))) ms (rw (e, ← f.0, drop-append-le k b y f.2) h)

-- what was found stands in the bytes up to its end
found_prefix : (b c : List ℕ) (q len : ℕ) → IsFound (b ++ c) (Whole q len) → q + len ≤ length b → IsFound b (Whole q len)
found_prefix b c q len f le =
    let e = ends_within _ len f.2.ends in
    let a = blank_append b c in
    let i = f.0 in
    let two : blank_len b + 2 ≤ length b = (let l = e.0 in omega (arith, a, i, le, l)) in
    let same : q ≡ blank_len b = f.0 ∙ blank_kept b c two in
    let d : drop q (b ++ c) ≡ drop q b ++ c = drop-append-le q b c (omega (arith, le)) in
    let block = rw d at f.2 in
    let l : len ≤ length (drop q b) = rw (length-drop q b) (omega (arith, le)) in (
      same,
      le,
      record {
        ends = ends_shorter (drop q b) c len l block.ends;
        first = λ k below ends. block.first k below (ends_longer (drop q b) c k (omega (arith, below, l)) ends);
        short = block.short;
      },
    )

over_prefix : (b c : List ℕ) (m : ℕ) → IsFound (b ++ c) (Over m) → m ≤ length b → IsFound b (Over m)
over_prefix b c m f le =
    let a = blank_append b c in
    let i = f.0 in
    let two : blank_len b + 2 ≤ length b = omega (arith, a, i, le) in
    let k = blank_kept b c two in
    let same : m ≡ blank_len b + 8192 = f.0 ∙ ap (λ n. n + 8192) k in
    let d : drop (blank_len (b ++ c)) (b ++ c) ≡ drop (blank_len b) b ++ c = rw k (front_kept b c) in
    let none = rw d at f.1 in
    let l : 8192 ≤ length (drop (blank_len b) b) = rw (length-drop (blank_len b) b) (omega (arith, same, le)) in
    (same, λ e short ends. none e short (ends_longer (drop (blank_len b) b) c e (omega (arith, short, l)) ends), le)

says_prefix : (b c : List ℕ) (q len : ℕ) (v : Verdict) → q + len ≤ length b → IsVerdict (take len (drop q (b ++ c))) v → IsVerdict (take len (drop q b)) v
says_prefix b c q len v le h =
    let e : take len (drop q (b ++ c)) ≡ take len (drop q b) = rw (drop-append-le q b c (omega (arith, le)), take-append-le len (drop q b) c (rw (length-drop q b) (omega (arith, le)))) refl in
    rw e at h

joined_len : (held text : List ℕ) (n : ℕ) → n ≤ length text → length (held ++ take n text) ≡ length held + n
joined_len held text n h = grind (arith, common_steps)

-- the first k of what was joined, and the others
joined_cut : (held text : List ℕ) (n k : ℕ) → k ≤ n → n ≤ length text → held ++ take n text ≡ (held ++ take k text) ++ drop k (take n text)
joined_cut held text n k a b =
    let e : take k text ≡ take k (take n text) = grind (arith, common_steps) in
    rw (e, append_assoc held (take k (take n text)) (drop k (take n text)), take-append-drop k (take n text)) refl

nothing_left : (b y : List ℕ) (k : ℕ) → length b ≡ k → drop k b ++ y ≡ y
nothing_left b y k h = rw (drop_of_length-le b {i = k} (omega (arith, h))) refl

-- a whole block was found in what is held and the first n bytes of the text
pub begins_whole : (held text b : List ℕ) (n q len k : ℕ) (v : Verdict) → n ≤ length text → b ≡ held ++ take n text
    → IsFound b (Whole q len) → IsVerdict (take len (drop q b)) v → length held + k ≡ q + len → 0 < k → Begins held text k v
begins_whole held text b n q len k v within bis f says kis some =
    let f2 = rw bis at f in
    let says2 = rw bis at says in
    let l = joined_len held text n within in
    let most : k ≤ n = (let i = f2.1 in omega (arith, i, l, kis)) in
    let j = joined_cut held text n k most within in
    let l2 = joined_len held text k (omega (arith, most, within)) in
    let le : q + len ≤ length (held ++ take k text) = omega (arith, l2, kis) in
    let f3 = found_prefix (held ++ take k text) (drop k (take n text)) q len (rw j at f2) le in
    let says3 = says_prefix (held ++ take k text) (drop k (take n text)) q len v le (rw j at says2) in
    record {
      some = some;
      within = omega (arith, most, within);
      yields = λ p y ms h. rw (← append_assoc held (take k text) y)
          (whole_cut p q len (held ++ take k text) y v f3 says3 ms (rw (nothing_left (held ++ take k text) y (q + len) (l2 ∙ kis), ← kis) h));
    }

-- a block beyond the limit was found there
pub begins_over : (held text b : List ℕ) (n m k : ℕ) → n ≤ length text → b ≡ held ++ take n text
    → IsFound b (Over m) → length held + k ≡ m → 0 < k → Begins held text k (bad TooLong)
begins_over held text b n m k within bis f kis some =
    let f2 = rw bis at f in
    let l = joined_len held text n within in
    let most : k ≤ n = (let i = f2.2 in omega (arith, i, l, kis)) in
    let j = joined_cut held text n k most within in
    let l2 = joined_len held text k (omega (arith, most, within)) in
    let le : m ≤ length (held ++ take k text) = omega (arith, l2, kis) in
    let f3 = over_prefix (held ++ take k text) (drop k (take n text)) m (rw j at f2) le in
    record {
      some = some;
      within = omega (arith, most, within);
      yields = λ p y ms h. rw (← append_assoc held (take k text) y)
          (over_cut p m (held ++ take k text) y f3 ms (rw (nothing_left (held ++ take k text) y m (l2 ∙ kis), ← kis) h));
    }

-- no block was found there
pub waits_found : (held text b after : List ℕ) (n q : ℕ) → n ≤ length text → 0 < n → b ≡ held ++ take n text
    → IsFound b (Wait q) → after ≡ drop q b → Waits held text n after
waits_found held text b after n q within some bis f is =
    let f2 = rw bis at f in
    let is2 = rw bis at is in
    let l = joined_len held text n within in
    let d : length (drop q (held ++ take n text)) ≡ length held + n - q = rw (length-drop q (held ++ take n text), l) refl in
    let fixed : blank_len (drop q (held ++ take n text)) ≡ 0 = rw f2.0 (blank_fixed (held ++ take n text)) in
    record {
      some = some;
      within = within;
      unfinished = rw is2 (fixed, f2.2, (let i = f2.3 in omega (arith, i, l, d)));
      kept = rw is2 (omega (arith, d));
      yields = λ p y ms h.
          let q_is : length held + n - length after ≡ q = rw is2 (let i = f2.1 in omega (arith, d, l, i)) in
          rw (← append_assoc held (take n text) y)
          (wait_step p (held ++ take n text) y ms (rw (← f2.0, ← is2, ← q_is) h));
    }

drop_none : (q : ℕ) (s : List ℕ) → q ≡ 0 → drop q s ≡ s
drop_none q s h = rw h refl

held_short : (held t : List ℕ) (q len : ℕ) → IsUnfinished held → IsFound (held ++ t) (Whole q len) → length held < q + len
held_short held t q len s f =
    let e = ends_within _ len f.2.ends in
    elim (cases_lt (length held) 2) [
      | inl lt ↦ omega (arith, lt, e.0)
      | inr ge ↦ (let q0 : q ≡ 0 = f.0 ∙ blank_two held t ge s.0 in
          elim (cases_lt (length held) (q + len)) [
            | inl lt ↦ lt
            | inr le ↦ absurd (s.1 len f.2.short (ends_shorter held t len (omega (arith, le)) (rw (← drop_none q (held ++ t) q0) f.2.ends)))
          ])
    ]

-- a block's end lies past what was held
pub short_held : (held text b : List ℕ) (n q len : ℕ) → IsUnfinished held → b ≡ held ++ take n text → IsFound b (Whole q len) → length held < q + len
short_held held text b n q len s bis f = held_short held (take n text) q len s (rw bis at f)

-- what was held has no end, and so has none before what was joined
pub no_end_joined : (held text b : List ℕ) (n : ℕ) → IsUnfinished held → b ≡ held ++ take n text → NoEndIn (length held) b
no_end_joined held text b n s bis e le ends =
    let i = s.2 in
    s.1 e (omega (arith, i, le)) (ends_shorter held (take n text) e le (rw (← bis) ends))

-- nothing is held: the text is all that there is
pub alone : (held text : List ℕ) → held ≡ [] → text ≡ held ++ take (length text) text
alone held text h = rw (h, take-length text) refl

pub empty_len : (held : List ℕ) (k : ℕ) → held ≡ [] → length held + k ≡ k
empty_len held k h = rw h (omega arith)

pub found_some : (q len : ℕ) (b : List ℕ) → IsFound b (Whole q len) → 0 < q + len
found_some q len b f = let w = ends_within _ len f.2.ends in let i = w.0 in omega (arith, i)

same_take : (q len : ℕ) (b c : List ℕ) → c ≡ b → take (q + len - q) (drop q c) ≡ take len (drop q b)
same_take q len b c e = let n : q + len - q ≡ len = omega arith in rw (n, e) refl

-- the block that was found, as the code slices it
pub slice_says : (q len : ℕ) (b c : List ℕ) (v : Verdict) → c ≡ b → IsVerdict (take (q + len - q) (drop q c)) v → IsVerdict (take len (drop q b)) v
slice_says q len b c v e h = rw (same_take q len b c e) at h
