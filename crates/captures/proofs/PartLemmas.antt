-- What was taken of a capture when a read failed.
use Rattle.std.proofs.Common.{◌≡◌, ℕ, ◌+◌, min, ◌||◌, ◌&&◌, ◌⊎◌, inl, inr, cond, nat_lt, Bool, true, false, List, [], ◌∷◌, ◌++◌, length, drop, Option, Some, None, Result, Ok, Err, refl, sym, ap, ◌∙◌, subst, arith, codes, nat_eq, is_some, unwrap_or}
use Rattle.std.specs.List.{starts_with}
use Rattle.std.proofs.lemmas.List.{append_assoc, length-append}
use Rattle.devices.specs.Reference.{line_feed}
use Rattle.devices.specs.Numbers.{number_of, three_numbers}
use Rattle.devices.specs.Texts.{Ahead, ahead_of, byte_at, run_at, line_at}
use Rattle.devices.specs.Parts.{TookPart, TookAtMost}
use Rattle.devices.specs.declared.text.Stop.{Stop}
use Rattle.devices.specs.declared.text.Stop.TheVariants as stops
use Rattle.devices.proofs.Taking.{Takes}
use Rattle.devices.proofs.Inverse.{line_inverse}
use Rattle.devices.proofs.PartLemmas.{none_after, part_after, part_is, no_byte, run_alone, run_takes, line_alone, line_good}
use Rattle.devices.proofs.Limits.{took_more}
use Rattle.captures.specs.Reference.{format_of, max_tick, max_tier, max_piece_bytes, text_before_stop}
use Rattle.captures.specs.Captures.{Past, past_of, longest_record}
use Rattle.captures.specs.declared.version.Version.{Version}
use Rattle.captures.specs.CaptureFaults.{kind_of, header_kind_of, header_at, named, ◌>>=◌, two_numbers, piece_heading, end_heading, tier_heading, stop_heading, heading_of, open_connection, allowed, tier_record, body_at, announced, record_at, IsUnfinished, failures_of, left_after}
use Rattle.captures.specs.Readers.{seen, ReaderAfter, FailsInRecord}
use Rattle.captures.specs.declared.record.Record.{Record}
use Rattle.captures.specs.declared.record.Record.TheVariants.{Tier}
use Rattle.captures.specs.declared.headings.TierLine.{TierLine}
use Rattle.captures.specs.declared.headings.Heading.{Heading}
use Rattle.captures.specs.declared.progress.Progress.{Progress}
use Rattle.captures.specs.declared.capture_fault.CaptureFaultKind.{CaptureFaultKind}
use Rattle.captures.specs.declared.capture_fault.CaptureFaultKind.TheVariants.{Cut, Read, Number, Kind, Tick, Connection, Ended, Tier as LateTier}
use Rattle.captures.proofs.Again.{bind_is, named_is}

-- ---- the steps of a definition

pub bind_err : {A B : Type 0} (r : Result A CaptureFaultKind) (f : A → Result B CaptureFaultKind) (e : CaptureFaultKind) → r ≡ Err e → (r >>= f) ≡ Err e
bind_err r f e h = ap (λ (q : Result _ CaptureFaultKind). q >>= f) h

named_err : {X : Type 0} (name : Stop → CaptureFaultKind) (r : Result X Stop) (e : Stop) → r ≡ Err e → named name r ≡ Err (name e)
named_err name r e h = ap (named name) h

-- the kind of a failed read
pub read_is : (stop : Stop) (kind : CaptureFaultKind) → kind ≡ kind_of stop → kind ≡ Read → stop ≡ stops.Read
read_is stops.TooLong kind a b = absurd cc
read_is stops.Cut kind a b = absurd cc
read_is stops.TooLarge kind a b = absurd cc
read_is stops.Read kind a b = refl
read_is stops.Memory kind a b = absurd cc

-- a read failed in the first line
pub header_fails : (o n : Option (List ℕ)) (l nl : ℕ) → TookPart (λ part. line_at (record { bytes = part; left = l }) ≡ Err stops.Cut) o l n nl
    → TookPart (λ part. header_at (record { bytes = part; left = l }) ≡ Err Cut) o l n nl
header_fails o n l nl took =
    part_is (λ part. line_at (record { bytes = part; left = l }) ≡ Err stops.Cut) (λ part. header_at (record { bytes = part; left = l }) ≡ Err Cut) o n l nl
    (λ t cut. bind_err (named header_kind_of (line_at (record { bytes = t; left = l }))) _ Cut (named_err header_kind_of _ stops.Cut cut)) took

-- ---- pieces

body_cut : (n l nl : ℕ) (bytes : List ℕ) → length bytes ≡ n → l ≡ n + nl → body_at n (record { bytes = bytes; left = l }) ≡ Err Cut
body_cut n l nl bytes is left =
    let mid : Ahead = record { bytes = []; left = nl } in
    bind_is (named kind_of (run_at n (record { bytes = bytes; left = l }))) _ (bytes, mid) (named_is kind_of _ (bytes, mid) (run_alone n l nl bytes is left))
    ∙ bind_err (named kind_of (byte_at mid)) _ Cut (named_err kind_of _ stops.Cut (no_byte nl))

-- a read failed after the bytes of a piece
pub body_fails : (n : ℕ) (o m p : Option (List ℕ)) (l ml pl : ℕ) (bytes : List ℕ) → length bytes ≡ n
    → (is_some o ≡ true → (run_at n (ahead_of o l) ≡ Ok (bytes, ahead_of m ml)) × (is_some m ≡ true))
    → (is_some m ≡ true → TookPart (λ part. part ≡ []) m ml p pl) → is_some o ≡ true
    → TookPart (λ part. body_at n (record { bytes = part; left = l }) ≡ Err Cut) o l p pl
body_fails n o m p l ml pl bytes is run h k =
    let t = run_takes n o m l ml bytes run in
    none_after (λ part. body_at n (record { bytes = part; left = l }) ≡ Err Cut) o m p l ml pl bytes t
    (λ known. body_cut n l ml bytes is (let e = t.count known in omega (arith, e, is))) h k

open_kinds : (v : Version) (past : Past) (conn : ℕ) (kind : CaptureFaultKind) → open_connection v past conn ≡ Err kind → (kind ≡ Connection) ⊎ (kind ≡ Ended)
open_kinds v past conn kind h = go (nat_lt (format_of v).last_connection conn) (past.ended conn) h
  where
    go : (b c : Bool) → cond b (Err Connection) (cond c (Err Ended) (Ok conn)) ≡ Err kind → (kind ≡ Connection) ⊎ (kind ≡ Ended)
    go true c e = inl cc
    go false true e = inr cc
    go false false e = absurd cc

allowed_kinds : (v : Version) (past : Past) (tick conn : ℕ) (kind : CaptureFaultKind) → allowed v past tick conn ≡ Err kind → (kind ≡ Tick) ⊎ ((kind ≡ Connection) ⊎ (kind ≡ Ended))
allowed_kinds v past tick conn kind h = go (nat_lt max_tick tick || nat_lt tick past.tick) h
  where
    go : (a : Bool) → cond a (Err Tick) (open_connection v past conn) ≡ Err kind → (kind ≡ Tick) ⊎ ((kind ≡ Connection) ⊎ (kind ≡ Ended))
    go true e = inl cc
    go false e = inr (open_kinds v past conn kind e)

-- a tick or a connection that isn't allowed is no failed read
pub allowed_not_read : (v : Version) (past : Past) (tick conn : ℕ) (kind : CaptureFaultKind) → allowed v past tick conn ≡ Err kind → kind ≡ Read → ⊥
allowed_not_read v past tick conn kind h is = elim (allowed_kinds v past tick conn kind h) [
  | inl t ↦ absurd cc
  | inr other ↦ elim other [ inl c ↦ absurd cc | inr e ↦ absurd cc ]
]

open_not_read : (v : Version) (past : Past) (conn : ℕ) (kind : CaptureFaultKind) → open_connection v past conn ≡ Err kind → kind ≡ Read → ⊥
open_not_read v past conn kind h is = elim (open_kinds v past conn kind h) [ inl c ↦ absurd cc | inr e ↦ absurd cc ]

-- a tier that isn't allowed is no failed read
pub tier_not_read : (v : Version) (past : Past) (line : TierLine) (kind : CaptureFaultKind) → tier_record v past line ≡ Err kind → kind ≡ Read → ⊥
tier_not_read v past line kind h is = go (open_connection v past line.conn) refl
  where
    late : (c : ℕ) (b : Bool) → cond b (Err LateTier) (Ok (Tier c line.tier)) ≡ Err kind → ⊥
    late c true e = absurd cc
    late c false e = absurd cc

    go : (r : Result ℕ CaptureFaultKind) → open_connection v past line.conn ≡ r → ⊥
    go (Err e) is_err = open_not_read v past line.conn e is_err (let k = sym (bind_err (open_connection v past line.conn) _ e is_err) ∙ h in cc)
    go (Ok c) is_ok = late c (nat_lt max_tier line.tier || past.used c) (sym (bind_is (open_connection v past line.conn) _ c is_ok) ∙ h)

-- ---- records

heading_kinds : (v : Version) (line : List ℕ) (kind : CaptureFaultKind) → heading_of v line ≡ Err kind → (kind ≡ Number) ⊎ (kind ≡ Kind)
heading_kinds v line kind h = go (starts_with nat_eq line (codes "piece ")) (starts_with nat_eq line (codes "end ")) (starts_with nat_eq line (codes "tier ") && (format_of v).has_tiers) (starts_with nat_eq line (codes "stop "))
    (three_numbers (drop 6 line)) (two_numbers (drop 4 line)) (two_numbers (drop 5 line)) (number_of (drop 5 line)) h
  where
    go : (a b t c : Bool) (o : Option (ℕ × ℕ × ℕ)) (p u : Option (ℕ × ℕ)) (q : Option ℕ) → cond a (piece_heading o) (cond b (end_heading p) (cond t (tier_heading u) (cond c (stop_heading q) (Err Kind)))) ≡ Err kind → (kind ≡ Number) ⊎ (kind ≡ Kind)
    go true b t c (Some n) p u q e = absurd cc
    go true b t c None p u q e = inl cc
    go false true t c o (Some n) u q e = absurd cc
    go false true t c o None u q e = inl cc
    go false false true c o p (Some n) q e = absurd cc
    go false false true c o p None q e = inl cc
    go false false false true o p u (Some n) e = absurd cc
    go false false false true o p u None e = inl cc
    go false false false false o p u q e = inr cc

-- a line that announces nothing is no failed read
pub heading_not_read : (v : Version) (line : List ℕ) (kind : CaptureFaultKind) → heading_of v line ≡ Err kind → kind ≡ Read → ⊥
heading_not_read v line kind h is = elim (heading_kinds v line kind h) [ inl number ↦ absurd cc | inr other ↦ absurd cc ]

pub heading_counts : (v : Version) (line : List ℕ) (kind : CaptureFaultKind) → heading_of v line ≡ Err kind → failures_of kind ≡ 0
heading_counts v line kind h = elim (heading_kinds v line kind h) [ inl number ↦ ap failures_of number | inr other ↦ ap failures_of other ]

-- no more than the longest record was taken
pub record_most : (v : Version) (o m p : Option (List ℕ)) (l ml : ℕ) (line : List ℕ) (heading : Heading) → heading_of v line ≡ Ok heading
    → (is_some o ≡ true → (following : Ahead) × (line_at (ahead_of o l) ≡ Ok (line, following)) × (is_some m ≡ true) × ((h : Heading) → heading_of v line ≡ Ok h → following ≡ ahead_of m ml))
    → TookAtMost (min (max_piece_bytes + 1) (ml + 1)) m p → TookAtMost (min longest_record (l + 1)) o p
record_most v o m p l ml line heading is read most k =
    let got = λ (known : is_some o ≡ true). let r = read known in subst (λ (b : Ahead). line_at (ahead_of o l) ≡ Ok (line, b)) (r.3 heading is) r.1 in
    let t : Takes o l m ml (line ++ line_feed ∷ []) = record {
      bytes = λ known. (line_inverse (ahead_of o l) (ahead_of m ml) line (got known)).bytes;
      count = λ known. (line_inverse (ahead_of o l) (ahead_of m ml) line (got known)).left;
      known = λ known. (read known).2;
    } in
    took_more (min longest_record (l + 1)) (min (max_piece_bytes + 1) (ml + 1)) o m p l ml (line ++ line_feed ∷ []) t
    (λ left. omega (arith, left, length-append line (line_feed ∷ []), (line_good (ahead_of o l) (ahead_of m ml) line (got k)).1)) most k

-- a read failed in what a line announced
pub record_fails : (v : Version) (past : Past) (o m p : Option (List ℕ)) (l ml pl : ℕ) (line : List ℕ) (heading : Heading) → heading_of v line ≡ Ok heading
    → (is_some o ≡ true → (following : Ahead) × (line_at (ahead_of o l) ≡ Ok (line, following)) × (is_some m ≡ true) × ((h : Heading) → heading_of v line ≡ Ok h → following ≡ ahead_of m ml))
    → (is_some m ≡ true → TookPart (λ part. IsUnfinished (announced v past heading (record { bytes = part; left = ml }))) m ml p pl) → is_some o ≡ true
    → TookPart (λ part. IsUnfinished (record_at v past (record { bytes = part; left = l }))) o l p pl
record_fails v past o m p l ml pl line heading is read h k =
    let got = λ (known : is_some o ≡ true). let r = read known in subst (λ (b : Ahead). line_at (ahead_of o l) ≡ Ok (line, b)) (r.3 heading is) r.1 in
    let t : Takes o l m ml (line ++ line_feed ∷ []) = record {
      bytes = λ known. (line_inverse (ahead_of o l) (ahead_of m ml) line (got known)).bytes;
      count = λ known. (line_inverse (ahead_of o l) (ahead_of m ml) line (got known)).left;
      known = λ known. (read known).2;
    } in
    part_after (λ part. IsUnfinished (announced v past heading (record { bytes = part; left = ml }))) (λ part. IsUnfinished (record_at v past (record { bytes = part; left = l }))) o m p l ml pl (line ++ line_feed ∷ []) t
    (λ part left unfinished.
    let all : Ahead = record { bytes = (line ++ line_feed ∷ []) ++ part; left = l } in
    let mid : Ahead = record { bytes = part; left = ml } in
    let same : record_at v past all ≡ announced v past heading mid =
    bind_is (named kind_of (line_at all)) _ (line, mid) (named_is kind_of _ (line, mid) (line_alone (ahead_of o l) (ahead_of m ml) line (got k) part))
    ∙ bind_is (heading_of v line) _ heading is in
    subst (λ (r : Result (Option Record × Ahead) CaptureFaultKind). IsUnfinished r) (sym same) unfinished) h k

-- ---- the reader

pub fits_fails : (v : Version) (text now new : Option (List ℕ)) (start new_left : ℕ) (records : List Record) (p : Progress) → ReaderAfter v text start records p now
    → (is_some now ≡ true → TookPart (λ part. IsUnfinished (record_at p.version (seen p.so_far) (record { bytes = part; left = p.left }))) now p.left new new_left)
    → is_some text ≡ true → (part : List ℕ) × FailsInRecord v (unwrap_or text []) start records part (unwrap_or new [])
fits_fails v text now new start new_left records p f h k =
    let more = h (f.known k) in
    let left : p.left ≡ left_after v start records = let all = f.left k in omega arith in (
      more.part,
      record {
        taken = f.taken k ∙ (ap (λ w. text_before_stop v start records ++ w) more.bytes ∙ sym (append_assoc (text_before_stop v start records) more.part (unwrap_or new [])));
        size = let all = f.left k in let part = more.count in omega arith;
        unfinished = subst (λ (q : ℕ). IsUnfinished (record_at v (past_of v records) (record { bytes = more.part; left = q }))) left
            (subst (λ (q : Past). IsUnfinished (record_at v q (record { bytes = more.part; left = p.left }))) f.past
            (subst (λ (w : Version). IsUnfinished (record_at w (seen p.so_far) (record { bytes = more.part; left = p.left }))) f.version more.holds));
      },
    )
