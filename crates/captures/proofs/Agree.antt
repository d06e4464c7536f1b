-- Two readings of one text agree.
use Rattle.std.proofs.Common.{◌≡◌, ℕ, ◌+◌, ◌-◌, ◌^◌, ◌<◌, ◌≤◌, ◌⊎◌, ◌&&◌, Bool, true, nat_lt, inl, inr, false, List, [], ◌∷◌, ◌++◌, length, get_or, Option, Some, Result, Ok, Err, refl, sym, ap, ◌∙◌, subst, arith, All, unwrap_or, flat_map}
use Rattle.std.specs.List.{AllPairs, list_any}
use Rattle.std.proofs.Math.Seq.{get_or-append_seam}
use Rattle.std.proofs.lemmas.List.{append_assoc, append-nil, length-append, get_or_append_left}
use Rattle.std.proofs.lemmas.List.Elements.{All-head, All-tail, All-from_get_or}
use Rattle.std.proofs.lemmas.List.Folds.{list_any_none}
use Rattle.std.proofs.lemmas.Grind.{flat_map-append}
use Rattle.devices.specs.Reference.{line_feed}
use Rattle.devices.specs.Texts.{Ahead}
use Rattle.devices.proofs.Inverse.{ok_is}
use Rattle.captures.specs.Reference.{first_line, record_text, format_of, text_before_stop, max_start, ends_for_good, is_use_of, connection_of, connection_now, used_once, used_once_after, LetsFollow, tick_of, ticks_of, IsRecord, IsCapture, IsCaptureText}
use Rattle.captures.specs.Captures.{Past, past_of, Follows}
use Rattle.captures.specs.declared.version.Version.{Version}
use Rattle.captures.specs.CaptureFaults.{header_at, record_at, FaultsAfter, IsHeaderFault, IsFirstFault, left_after, longest_text}
use Rattle.captures.specs.declared.record.Record.{Record}
use Rattle.captures.specs.declared.record.Record.TheVariants.{Piece, End, Tier}
use Rattle.captures.specs.declared.capture_fault.CaptureFault.{CaptureFault}
use Rattle.captures.specs.declared.capture_fault.CaptureFaultKind.{CaptureFaultKind}
use Rattle.captures.proofs.Records.{stop_text}
use Rattle.captures.proofs.Fitting.{sizes_below}
use Rattle.captures.proofs.Again.{record_again, stop_again, header_again}
use Rattle.captures.proofs.Lines.{within_longest}
use Rattle.captures.proofs.Lives.{once_append}

-- ---- one record

free : Past
free = record { count = 0; tick = 0; ended = λ _. false; used = λ _. false }

free_follows : (v : Version) (r : Record) → IsRecord v r → Follows v free r
unfolding free
free_follows v (Piece tick conn bytes) h = (omega arith, refl, h)
free_follows v (End tick conn) h = (omega arith, refl, h)
free_follows v (Tier conn tier) h = (refl, refl, h)

same_record : (v : Version) (r s : Record) (x y : List ℕ) → IsRecord v r → IsRecord v s → record_text r ++ x ≡ record_text s ++ y → (r ≡ s) × (x ≡ y)
same_record v r s x y hr hs h =
    let l = length (record_text r) + length (record_text s) in
    let a = record_again v free r x l (length (record_text s)) (free_follows v r hr) refl in
    let b = record_again v free s y l (length (record_text r)) (free_follows v s hs) (omega arith) in
    let e : (Some r, record { bytes = x; left = length (record_text s) }) ≡ (Some s, record { bytes = y; left = length (record_text r) }) =
    ok_is {A = Option Record × Ahead} {E = CaptureFaultKind} _ _ _ _ a b (ap (λ w. record_at v free (record { bytes = w; left = l })) h) in
    (ap (λ (p : Option Record × Ahead). unwrap_or p.0 r) e, ap (λ (p : Option Record × Ahead). p.1.bytes) e)

-- the last line is no record
stop_apart : (n : ℕ) (r : Record) (x y : List ℕ) → stop_text n ++ x ≡ record_text r ++ y → ⊥
stop_apart n (Piece tick conn bytes) x y h = let first : ◌≡◌ {A = ℕ} 115 112 = ap (λ (l : List ℕ). get_or l 0 0) h in omega arith
stop_apart n (End tick conn) x y h = let first : ◌≡◌ {A = ℕ} 115 101 = ap (λ (l : List ℕ). get_or l 0 0) h in omega arith
stop_apart n (Tier conn tier) x y h = let first : ◌≡◌ {A = ℕ} 115 116 = ap (λ (l : List ℕ). get_or l 0 0) h in omega arith

-- ---- lists of records

abbrev pub Agrees : List Record → List ℕ → List Record → List ℕ → Type 0
Agrees rs x ss y = ((more : List Record) × (ss ≡ rs ++ more) × (x ≡ flat_map record_text more ++ y))
    ⊎ ((r : Record) × (more : List Record) × (rs ≡ ss ++ r ∷ more) × (y ≡ record_text r ++ (flat_map record_text more ++ x)))

agree : (v : Version) (rs ss : List Record) (x y : List ℕ) → All (IsRecord v) rs → All (IsRecord v) ss
    → flat_map record_text rs ++ x ≡ flat_map record_text ss ++ y → Agrees rs x ss y
agree v [] ss x y hr hs h = inl (ss, refl, h)
agree v (r ∷ rs) [] x y hr hs h = inr (r, rs, refl, sym h ∙ append_assoc (record_text r) (flat_map record_text rs) x)
agree v (r ∷ rs) (s ∷ ss) x y hr hs h =
    let both = same_record v r s (flat_map record_text rs ++ x) (flat_map record_text ss ++ y) (All-head (IsRecord v) r rs hr) (All-head (IsRecord v) s ss hs)
    (sym (append_assoc (record_text r) (flat_map record_text rs) x) ∙ (h ∙ append_assoc (record_text s) (flat_map record_text ss) y)) in
    elim (agree v rs ss x y (All-tail (IsRecord v) r rs hr) (All-tail (IsRecord v) s ss hs) both.1) [
      | inl a ↦ inl (a.0, (λ i. sym both.0 i ∷ a.1 i), a.2)
      | inr b ↦ inr (b.0, b.1, (λ i. both.0 i ∷ b.2 i), b.3)
    ]

-- ---- the rules say that a record follows those before it

and_none : (b : Bool) → (b && false) ≡ false
and_none true = refl
and_none false = refl

pub follows_front : (v : Version) (start : ℕ) (ss more : List Record) (r : Record) → IsCapture v start (ss ++ r ∷ more) → Follows v (past_of v ss) r
follows_front v start ss more r c = go r c
  where
    here : (r : Record) → IsCapture v start (ss ++ r ∷ more) → IsRecord v r
    here r c = subst (λ (q : Record). IsRecord v q) (get_or-append_seam ss r more r) (c.each (length ss) r (omega (arith, length-append ss (r ∷ more))))

    live : (r : Record) → IsCapture v start (ss ++ r ∷ more) → list_any (ends_for_good v (connection_of r)) ss ≡ false
    live r c = list_any_none (ends_for_good v (connection_of r)) ss (All-from_get_or (λ q. ends_for_good v (connection_of r) q ≡ false) ss r at)
      where
        at : (i : ℕ) → i < length ss → ends_for_good v (connection_of r) (get_or ss i r) ≡ false
        at i lt =
            let apart = c.ends_last i (length ss) r lt (omega (arith, length-append ss (r ∷ more))) in
            sym (ap (λ (q : Record). ends_for_good v (connection_of r) q) (get_or_append_left ss (r ∷ more) r i lt))
            ∙ (sym (ap (λ (q : Record). ends_for_good v (connection_of q) (get_or (ss ++ r ∷ more) i r)) (get_or-append_seam ss r more r)) ∙ apart)

    rises : (t : ℕ) (ts us : List ℕ) → AllPairs (λ s u. s ≤ u) (ts ++ t ∷ us) → get_or ts (length ts - 1) 0 ≤ t
    rises t [] us h = omega arith
    rises t (u ∷ ts) us h =
        let k = length (u ∷ ts) - 1 in
        let within : k < length (u ∷ ts) = omega arith in
        let le = h k (length (u ∷ ts)) 0 within (omega (arith, length-append (u ∷ ts) (t ∷ us))) in
        let left : get_or ((u ∷ ts) ++ t ∷ us) k 0 ≡ get_or (u ∷ ts) k 0 = get_or_append_left (u ∷ ts) (t ∷ us) 0 k within in
        let right : get_or ((u ∷ ts) ++ t ∷ us) (length (u ∷ ts)) 0 ≡ t = get_or-append_seam (u ∷ ts) t us 0 in
        omega arith

    ticks : (r : Record) (t : ℕ) → tick_of r ≡ t ∷ [] → ticks_of (ss ++ r ∷ more) ≡ ticks_of ss ++ t ∷ ticks_of more
    ticks r t is = flat_map-append tick_of ss (r ∷ more) ∙ ap (λ w. ticks_of ss ++ (w ++ ticks_of more)) is

    late : (r : Record) (t : ℕ) → tick_of r ≡ t ∷ [] → IsCapture v start (ss ++ r ∷ more) → get_or (ticks_of ss) (length (ticks_of ss) - 1) 0 ≤ t
    late r t is c = rises t (ticks_of ss) (ticks_of more) (subst (λ (ts : List ℕ). AllPairs (λ s u. s ≤ u) ts) (ticks r t is) c.rising)

    unused : (conn tier : ℕ) → IsCapture v start (ss ++ Tier conn tier ∷ more) → (nat_lt conn 65536 && list_any (is_use_of (connection_now conn ss)) (used_once ss)) ≡ false
    unused conn tier c = ap (λ b. nat_lt conn 65536 && b) (list_any_none (is_use_of id) (used_once ss) (All-from_get_or (λ q. is_use_of id q ≡ false) (used_once ss) (Tier id tier) at)) ∙ and_none (nat_lt conn 65536)
      where
        id : ℕ
        id = connection_now conn ss

        rest : List Record
        rest = used_once_after (ss ++ Tier conn tier ∷ []) more

        pairs : AllPairs LetsFollow (used_once ss ++ Tier id tier ∷ rest)
        pairs = subst (λ (all : List Record). AllPairs LetsFollow all) (once_append ss (Tier conn tier ∷ more)) c.tiers_first

        at : (i : ℕ) → i < length (used_once ss) → is_use_of id (get_or (used_once ss) i (Tier id tier)) ≡ false
        at i lt =
            let all = used_once ss ++ Tier id tier ∷ rest in
            let apart = pairs i (length (used_once ss)) (Tier id tier) lt (omega (arith, length-append (used_once ss) (Tier id tier ∷ rest))) in
            let last : LetsFollow (get_or all i (Tier id tier)) (Tier id tier) = subst (λ (q : Record). LetsFollow (get_or all i (Tier id tier)) q) (get_or-append_seam (used_once ss) (Tier id tier) rest (Tier id tier)) apart in
            sym (ap (λ (q : Record). is_use_of id q) (get_or_append_left (used_once ss) (Tier id tier ∷ rest) (Tier id tier) i lt)) ∙ last

    go : (r : Record) → IsCapture v start (ss ++ r ∷ more) → Follows v (past_of v ss) r
    go (Piece tick conn bytes) c = (late (Piece tick conn bytes) tick refl c, live (Piece tick conn bytes) c, here (Piece tick conn bytes) c)
    go (End tick conn) c = (late (End tick conn) tick refl c, live (End tick conn) c, here (End tick conn) c)
    go (Tier conn tier) c = (live (Tier conn tier) c, unused conn tier c, here (Tier conn tier) c)

-- ---- whole texts

abbrev pub header_text : Version → ℕ → List ℕ
header_text v start = first_line v start ++ line_feed ∷ []

same_start : (v w : Version) (s t : ℕ) (x y : List ℕ) → s ≤ max_start → t ≤ max_start → header_text v s ++ x ≡ header_text w t ++ y → (v ≡ w) × (s ≡ t) × (x ≡ y)
same_start v w s t x y hs ht h =
    let l = length (header_text v s) + length (header_text w t) in
    let a = header_again v s x l (length (header_text w t)) hs refl in
    let b = header_again w t y l (length (header_text v s)) ht (omega arith) in
    let e : ((v, s), record { bytes = x; left = length (header_text w t) }) ≡ ((w, t), record { bytes = y; left = length (header_text v s) }) =
    ok_is {A = (Version × ℕ) × Ahead} {E = CaptureFaultKind} _ _ _ _ a b (ap (λ w. header_at (record { bytes = w; left = l })) h) in
    (ap (λ (p : (Version × ℕ) × Ahead). p.0.0) e, ap (λ (p : (Version × ℕ) × Ahead). p.0.1) e, ap (λ (p : (Version × ℕ) × Ahead). p.1.bytes) e)

-- a text up to the last line, and what is after it
following : (v : Version) (start : ℕ) (rs : List Record) (rest bytes : List ℕ) → bytes ≡ text_before_stop v start rs ++ rest → bytes ≡ header_text v start ++ (flat_map record_text rs ++ rest)
following v start rs rest bytes h = h ∙ append_assoc (header_text v start) (flat_map record_text rs) rest

-- the two versions and the two starts are one, and what is after them too
starts_agree : (v w : Version) (s t : ℕ) (rs ss : List Record) (x y bytes : List ℕ) → s ≤ max_start → t ≤ max_start
    → bytes ≡ text_before_stop v s rs ++ x → bytes ≡ text_before_stop w t ss ++ y → (v ≡ w) × (s ≡ t) × (flat_map record_text rs ++ x ≡ flat_map record_text ss ++ y)
starts_agree v w s t rs ss x y bytes hs ht a b =
    same_start v w s t (flat_map record_text rs ++ x) (flat_map record_text ss ++ y) hs ht (sym (following v s rs x bytes a) ∙ following w t ss y bytes b)

-- what begins with a record's text doesn't begin with a last line
no_stop : (n : ℕ) (r : Record) (more : List Record) (y : List ℕ) → stop_text n ≡ flat_map record_text (r ∷ more) ++ y → ⊥
no_stop n r more y h = stop_apart n r [] (flat_map record_text more ++ y) (append-nil (stop_text n) ∙ (h ∙ append_assoc (record_text r) (flat_map record_text more) y))

no_stop_then : (n : ℕ) (r : Record) (y : List ℕ) → stop_text n ≡ record_text r ++ y → ⊥
no_stop_then n r y h = stop_apart n r [] y (append-nil (stop_text n) ∙ h)

same_list : (v : Version) (bytes : List ℕ) (s t : ℕ) (rs ss : List Record) → IsCaptureText v bytes s rs → IsCaptureText v bytes t ss → rs ≡ ss
same_list v bytes s t rs ss a b =
    let both = starts_agree v v s t rs ss (stop_text (length rs)) (stop_text (length ss)) bytes a.rules.in_time b.rules.in_time a.text b.text in
    elim (agree v rs ss (stop_text (length rs)) (stop_text (length ss)) a.rules.each b.rules.each both.2) [
      | inl c ↦ longer c.0 c.1 c.2
      | inr c ↦ absurd (no_stop_then (length ss) c.0 _ c.3)
    ]
  where
    longer : (more : List Record) → ss ≡ rs ++ more → stop_text (length rs) ≡ flat_map record_text more ++ stop_text (length ss) → rs ≡ ss
    longer [] e h = sym (e ∙ append-nil rs)
    longer (r ∷ more) e h = absurd (no_stop (length rs) r more (stop_text (length ss)) h)

-- a text has one version, one start and one list of records
pub one_list : (bytes : List ℕ) (v w : Version) (s t : ℕ) (rs ss : List Record) → IsCaptureText v bytes s rs → IsCaptureText w bytes t ss → (v ≡ w) × (s ≡ t) × (rs ≡ ss)
one_list bytes v w s t rs ss a b =
    let both = starts_agree v w s t rs ss (stop_text (length rs)) (stop_text (length ss)) bytes a.rules.in_time b.rules.in_time a.text b.text in
    (both.0, both.1, same_list v bytes s t rs ss a (subst (λ (x : Version). IsCaptureText x bytes t ss) (sym both.0) b))

not_both : {A : Type 0} (x : A) (k : CaptureFaultKind) (r : Result A CaptureFaultKind) → r ≡ Ok x → r ≡ Err k → ⊥
not_both x k r a b = absurd cc

-- no fault stands in the first line of what begins with one
header_good : (v : Version) (bytes : List ℕ) (s : ℕ) (rest : List ℕ) (f : CaptureFault) → s ≤ max_start → length (header_text v s) ≤ longest_text → bytes ≡ header_text v s ++ rest → IsHeaderFault bytes f → ⊥
header_good v bytes s rest f in_time size is fault =
    let good = header_again v s rest longest_text (longest_text - length (header_text v s)) in_time (omega arith) in
    not_both _ f.kind (header_at (record { bytes = header_text v s ++ rest; left = longest_text })) good (sym (ap (λ w. header_at (record { bytes = w; left = longest_text })) is) ∙ fault.1)

-- nor after records where one more stands
record_good : (v : Version) (bytes : List ℕ) (t : ℕ) (ss : List Record) (f : CaptureFault) (rest : List ℕ) (q : Record) (z : List ℕ) → FaultsAfter v bytes t ss f rest
    → rest ≡ record_text q ++ z → Follows v (past_of v ss) q → length (text_before_stop v t ss) + length (record_text q) ≤ (format_of v).max_text_bytes → ⊥
record_good v bytes t ss f rest q z fault is follows size =
    let l = left_after v t ss in
    let good = record_again v (past_of v ss) q z l (l - length (record_text q)) follows (omega arith) in
    not_both _ f.kind (record_at v (past_of v ss) (record { bytes = record_text q ++ z; left = l })) good (sym (ap (λ w. record_at v (past_of v ss) (record { bytes = w; left = l })) is) ∙ fault.kind)

-- nor where the last line stands
stop_good : (v : Version) (bytes : List ℕ) (t : ℕ) (ss : List Record) (f : CaptureFault) (rest : List ℕ) → FaultsAfter v bytes t ss f rest
    → rest ≡ stop_text (length ss) → length ss < 2 ^ 64 - 1 → length (text_before_stop v t ss) + length (stop_text (length ss)) ≤ (format_of v).max_text_bytes → ⊥
stop_good v bytes t ss f rest fault is small size =
    let l = left_after v t ss in
    let good = stop_again v (past_of v ss) l (l - length (stop_text (length ss))) small (omega arith) in
    not_both _ f.kind (record_at v (past_of v ss) (record { bytes = stop_text (length ss); left = l })) good (sym (ap (λ w. record_at v (past_of v ss) (record { bytes = w; left = l })) is) ∙ fault.kind)

-- the text of records up to one of them
one_more_text : (v : Version) (t : ℕ) (ss more : List Record) (q : Record) → length (text_before_stop v t ss) + length (record_text q) ≤ length (text_before_stop v t (ss ++ q ∷ more))
one_more_text v t ss more q =
    let whole : flat_map record_text (ss ++ q ∷ more) ≡ flat_map record_text ss ++ (record_text q ++ flat_map record_text more) = flat_map-append record_text ss (q ∷ more) in
    let e = ap length whole in
    omega (arith, length-append (header_text v t) (flat_map record_text ss), length-append (header_text v t) (flat_map record_text (ss ++ q ∷ more)), length-append (flat_map record_text ss) (record_text q ++ flat_map record_text more), length-append (record_text q) (flat_map record_text more))

header_below : (v : Version) (t : ℕ) (ss : List Record) → length (header_text v t) ≤ length (text_before_stop v t ss)
header_below v t ss = omega (arith, length-append (header_text v t) (flat_map record_text ss))

after_good : (v : Version) (bytes : List ℕ) (s t : ℕ) (rs ss : List Record) (f : CaptureFault) (rest : List ℕ) → length rs < 2 ^ 64 - 1 → IsCaptureText v bytes s rs → FaultsAfter v bytes t ss f rest → ⊥
after_good v bytes s t rs ss f rest small c fault =
    let both = starts_agree v v s t rs ss (stop_text (length rs)) rest bytes c.rules.in_time fault.rules.in_time c.text fault.whole in
    let long = ap length c.text in
    let size = c.size in
    let all : length (text_before_stop v s rs) + length (stop_text (length rs)) ≤ (format_of v).max_text_bytes = omega (arith, length-append (text_before_stop v s rs) (stop_text (length rs))) in
    elim (agree v ss rs rest (stop_text (length rs)) fault.rules.each c.rules.each (sym both.2)) [
      | inl a ↦ shorter both.1 all a.0 a.1 a.2 fault
      | inr b ↦ no_stop_then (length rs) b.0 _ b.3
    ]
  where
    shorter : s ≡ t → length (text_before_stop v s rs) + length (stop_text (length rs)) ≤ (format_of v).max_text_bytes → (more : List Record) → rs ≡ ss ++ more
        → rest ≡ flat_map record_text more ++ stop_text (length rs) → FaultsAfter v bytes t ss f rest → ⊥
    shorter same all [] e g fault =
        let is : rs ≡ ss = e ∙ append-nil ss in
        let size = subst (λ (p : ℕ × List Record). length (text_before_stop v p.0 p.1) + length (stop_text (length p.1)) ≤ (format_of v).max_text_bytes) (λ i. (same i, is i)) all in
        let few = subst (λ (l : List Record). length l < 2 ^ 64 - 1) is small in
        stop_good v bytes t ss f rest fault (g ∙ ap (λ (l : List Record). stop_text (length l)) is) few size
    shorter same all (q ∷ more) e g fault =
        let rules = subst (λ (p : ℕ × List Record). IsCapture v p.0 p.1) (λ i. (same i, e i)) c.rules in
        let size = subst (λ (p : ℕ × List Record). length (text_before_stop v p.0 p.1) ≤ (format_of v).max_text_bytes) (λ i. (same i, e i)) (let a = all in omega arith) in
        record_good v bytes t ss f rest q (flat_map record_text more ++ stop_text (length rs)) fault (g ∙ append_assoc (record_text q) (flat_map record_text more) (stop_text (length rs)))
        (follows_front v t ss more q rules) (omega (arith, one_more_text v t ss more q))

-- a capture text has no fault
pub no_fault : (bytes : List ℕ) (v : Version) (s : ℕ) (rs : List Record) (f : CaptureFault) → length rs < 2 ^ 64 - 1 → IsCaptureText v bytes s rs → IsFirstFault bytes f → ⊥
no_fault bytes v s rs f small c (inl first) =
    let long = ap length c.text in
    let size = c.size in
    header_good v bytes s (flat_map record_text rs ++ stop_text (length rs)) f c.rules.in_time (omega (arith, within_longest v, header_below v s rs, length-append (text_before_stop v s rs) (stop_text (length rs))))
    (following v s rs (stop_text (length rs)) bytes c.text) first
no_fault bytes v s rs f small c (inr (w, t, ss, (rest, fault))) =
    let same = (starts_agree v w s t rs ss (stop_text (length rs)) rest bytes c.rules.in_time fault.rules.in_time c.text fault.whole).0 in
    after_good v bytes s t rs ss f rest small c (subst (λ (x : Version). FaultsAfter x bytes t ss f rest) (sym same) fault)

same_fault : (f g : CaptureFault) → f.at ≡ g.at → f.kind ≡ g.kind → f ≡ g
same_fault f g a k = λ i. record { at = a i; kind = k i }

same_kind : {A : Type 0} (r : Result A CaptureFaultKind) (j k : CaptureFaultKind) → r ≡ Err j → r ≡ Err k → j ≡ k
same_kind r j k a b = cc

-- of two faults one stands after fewer records: then another record stands there
fewer : (v : Version) (bytes : List ℕ) (t u : ℕ) (ss rs : List Record) (f g : CaptureFault) (x y : List ℕ) (more : List Record) → FaultsAfter v bytes t ss f x → FaultsAfter v bytes u rs g y
    → u ≡ t → rs ≡ ss ++ more → x ≡ flat_map record_text more ++ y → f ≡ g
fewer v bytes t u ss rs f g x y [] a b same e h =
    let is : ss ≡ rs = sym (e ∙ append-nil ss) in
    let kind = subst (λ (p : ℕ × (List Record × List ℕ)). record_at v (past_of v p.1.0) (record { bytes = p.1.1; left = left_after v p.0 p.1.0 }) ≡ Err f.kind) (λ i. (sym same i, (is i, h i))) a.kind in
    same_fault f g (a.at ∙ (ap (λ (l : List Record). length l + 1) is ∙ sym b.at)) (same_kind _ f.kind g.kind kind b.kind)
fewer v bytes t u ss rs f g x y (q ∷ more) a b same e h =
    let rules = subst (λ (p : ℕ × List Record). IsCapture v p.0 p.1) (λ i. (same i, e i)) b.rules in
    let size = subst (λ (p : ℕ × List Record). length (text_before_stop v p.0 p.1) ≤ (format_of v).max_text_bytes) (λ i. (same i, e i)) b.size in
    absurd (record_good v bytes t ss f x q (flat_map record_text more ++ y) a (h ∙ append_assoc (record_text q) (flat_map record_text more) y)
    (follows_front v t ss more q rules) (omega (arith, one_more_text v t ss more q)))

following_same : (v : Version) (bytes : List ℕ) (s t : ℕ) (rs ss : List Record) (f g : CaptureFault) (x y : List ℕ) → FaultsAfter v bytes s rs f x → FaultsAfter v bytes t ss g y → f ≡ g
following_same v bytes s t rs ss f g x y a b =
    let both = starts_agree v v s t rs ss x y bytes a.rules.in_time b.rules.in_time a.whole b.whole in
    elim (agree v rs ss x y a.rules.each b.rules.each both.2) [
      | inl c ↦ fewer v bytes s t rs ss f g x y c.0 a b (sym both.1) c.1 c.2
      | inr c ↦ sym (fewer v bytes t s ss rs g f y x (c.0 ∷ c.1) b a both.1 c.2 (c.3 ∙ sym (append_assoc (record_text c.0) (flat_map record_text c.1) x)))
    ]

-- a text has one first fault
pub one_fault : (bytes : List ℕ) (f g : CaptureFault) → IsFirstFault bytes f → IsFirstFault bytes g → f ≡ g
one_fault bytes f g (inl a) (inl b) = same_fault f g (a.0 ∙ sym b.0) (same_kind _ f.kind g.kind a.1 b.1)
one_fault bytes f g (inl a) (inr (w, t, ss, (y, b))) =
    let size = b.size in
    absurd (header_good w bytes t (flat_map record_text ss ++ y) f b.rules.in_time (omega (arith, within_longest w, header_below w t ss)) (following w t ss y bytes b.whole) a)
one_fault bytes f g (inr (v, s, rs, (x, a))) (inl b) =
    let size = a.size in
    absurd (header_good v bytes s (flat_map record_text rs ++ x) g a.rules.in_time (omega (arith, within_longest v, header_below v s rs)) (following v s rs x bytes a.whole) b)
one_fault bytes f g (inr (v, s, rs, (x, a))) (inr (w, t, ss, (y, b))) =
    let same = (starts_agree v w s t rs ss x y bytes a.rules.in_time b.rules.in_time a.whole b.whole).0 in
    following_same v bytes s t rs ss f g x y a (subst (λ (u : Version). FaultsAfter u bytes t ss g y) (sym same) b)

-- there are fewer records than bytes
pub few_records : (v : Version) (bytes : List ℕ) (s : ℕ) (rs : List Record) → IsCaptureText v bytes s rs → length rs < 2 ^ 64 - 1
few_records v bytes s rs c =
    let long = ap length c.text in
    let size = c.size in
    omega (arith, within_longest v, sizes_below rs, length-append (header_text v s) (flat_map record_text rs), length-append (text_before_stop v s rs) (stop_text (length rs)))

-- ---- for callers

-- the first line and the records of both: the version and the start are one, and one list begins with the other
pub agree_on : (bytes : List ℕ) (v w : Version) (s t : ℕ) (rs ss : List Record) (x y : List ℕ) → IsCapture v s rs → IsCapture w t ss
    → bytes ≡ text_before_stop v s rs ++ x → bytes ≡ text_before_stop w t ss ++ y → (v ≡ w) × (s ≡ t) × Agrees rs x ss y
agree_on bytes v w s t rs ss x y a b g h =
    let both = starts_agree v w s t rs ss x y bytes a.in_time b.in_time g h in
    (both.0, both.1, agree v rs ss x y a.each (subst (λ (u : Version). All (IsRecord u) ss) (sym both.0) b.each) both.2)

-- no last line stands where a record does
pub no_last_line : (n : ℕ) (r : Record) (y : List ℕ) → stop_text n ≡ record_text r ++ y → ⊥
no_last_line n r y h = stop_apart n r [] y (append-nil (stop_text n) ∙ h)

-- no fault of the first line stands in bytes that begin with one
pub no_header_fault : (v : Version) (bytes : List ℕ) (s : ℕ) (rs : List Record) (rest : List ℕ) (f : CaptureFault) → IsCapture v s rs
    → bytes ≡ text_before_stop v s rs ++ rest → length (text_before_stop v s rs) ≤ (format_of v).max_text_bytes → IsHeaderFault bytes f → ⊥
no_header_fault v bytes s rs rest f rules is size fault =
    header_good v bytes s (flat_map record_text rs ++ rest) f rules.in_time (omega (arith, size, within_longest v, header_below v s rs)) (following v s rs rest bytes is) fault

-- nor any after the first of records that stand whole, within the limit
pub no_fault_among : (v w : Version) (bytes : List ℕ) (s t : ℕ) (rs ss : List Record) (f : CaptureFault) (x y : List ℕ) (q : Record) (more : List Record) → FaultsAfter v bytes s rs f x
    → IsCapture w t ss → length (text_before_stop w t ss) ≤ (format_of v).max_text_bytes → v ≡ w → s ≡ t → ss ≡ rs ++ q ∷ more → x ≡ flat_map record_text (q ∷ more) ++ y → ⊥
no_fault_among v w bytes s t rs ss f x y q more fault rules size same start is rest =
    let whole : IsCapture v s (rs ++ q ∷ more) = subst (λ (p : Version × (ℕ × List Record)). IsCapture p.0 p.1.0 p.1.1) (λ i. (sym same i, (sym start i, is i))) rules in
    let long : length (text_before_stop v s (rs ++ q ∷ more)) ≤ (format_of v).max_text_bytes = subst (λ (p : Version × (ℕ × List Record)). length (text_before_stop p.0 p.1.0 p.1.1) ≤ (format_of v).max_text_bytes) (λ i. (sym same i, (sym start i, is i))) size in
    record_good v bytes s rs f x q (flat_map record_text more ++ y) fault (rest ∙ append_assoc (record_text q) (flat_map record_text more) y)
    (follows_front v s rs more q whole) (omega (arith, long, one_more_text v s rs more q))
