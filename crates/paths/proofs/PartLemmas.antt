-- What was taken of a text when a read failed.
use Rattle.std.proofs.Common.{◌≡◌, ℕ, suc, zero, ◌+◌, ◌-◌, ◌<◌, ◌≤◌, ◌==◌, ◌||◌, ◌⊎◌, inl, inr, not, cond, nat_lt, nat_le, Bool, true, false, List, [], ◌∷◌, ◌++◌, length, drop, Option, Some, None, IfSome, Result, Ok, Err, refl, sym, ap, ◌∙◌, subst, arith, codes, nat_eq, is_some, unwrap_or}
use Rattle.std.specs.List.{list_all, list_any, starts_with}
use Rattle.std.proofs.lemmas.Bool.{ne_eqb}
use Rattle.std.proofs.lemmas.Bool.Decides.{nat_tests}
use Rattle.std.proofs.lemmas.List.{append_assoc, length-append}
use Rattle.devices.specs.Reference.{line_feed}
use Rattle.paths.specs.Reference.{lies_in}
use Rattle.devices.specs.declared.text.Stop.{Stop}
use Rattle.paths.specs.declared.file.File.{File}
use Rattle.paths.specs.declared.file.FileLine.{FileLine}
use Rattle.paths.specs.declared.file.EntryHeading.{EntryHeading}
use Rattle.paths.specs.declared.snapshot_fault.SnapshotFaultKind.{SnapshotFaultKind}
use Rattle.paths.specs.declared.snapshot_fault.SnapshotFaultKind.TheVariants.{Cut, Read, Memory, Number, Kind}
use Rattle.devices.specs.Numbers.{number_of, three_numbers}
use Rattle.devices.specs.Texts.{Ahead, ahead_of, byte_at, run_at, line_at}
use Rattle.paths.specs.Snapshots.{file_line, file_text, text_before_end, max_text_bytes, Follows, max_time, max_file_bytes, max_name_bytes, max_files, is_name, comes_before, IsSnapshot}
use Rattle.paths.specs.SnapshotFaults.{kind_of, header_kind_of, header_at, named, ◌>>=◌, file_heading, end_heading, heading_of, name_at, body_at, file_at, announced, entry_at}
use Rattle.devices.specs.Parts.{TookPart}
use Rattle.paths.specs.Parts.{FailsInSnapshot, Reached, LacksInEntry}
use Rattle.devices.proofs.Taking.{Takes}
use Rattle.paths.proofs.Entries.{entry_text, entry_takes}
use Rattle.devices.proofs.Inverse.{TakesAhead, line_inverse}
use Rattle.paths.proofs.Inverse.{name_inverse}
use Rattle.paths.proofs.NoFault.{bind_is, named_is}
use Rattle.devices.proofs.Again.{pass, neither, byte_again, run_again}
use Rattle.paths.proofs.FilesOrFault.{name_fits}
use Rattle.devices.proofs.PartLemmas.{none_after, part_after, part_is, no_byte, line_alone, run_alone, no_run, run_takes}
use Rattle.devices.specs.declared.text.Stop.TheVariants as stops

-- ---- a part after what was taken

-- ---- parts that are cut

-- ---- what was read is read again before any text

name_alone : (files : List File) (n : ℕ) (a b : Ahead) (name : List ℕ) → name_at files n a ≡ Ok (name, b) → (t : List ℕ)
    → name_at files n (record { bytes = (name ++ line_feed ∷ []) ++ t; left = a.left }) ≡ Ok (name, record { bytes = t; left = b.left })
name_alone files n a b name h t =
    let took = name_inverse files n a b name h in
    let fits = name_fits files n a b name h in
    let mid : Ahead = record { bytes = line_feed ∷ t; left = 1 + b.left } in
    let last : Ahead = record { bytes = t; left = b.left } in
    let left : a.left ≡ n + (1 + b.left) = let e = took.0.left in let s = took.1 in omega (arith, e, s, length-append name (line_feed ∷ [])) in
    ap (λ w. name_at files n (record { bytes = w; left = a.left })) (append_assoc name (line_feed ∷ []) t)
    ∙ (bind_is (named kind_of (run_at n (record { bytes = name ++ line_feed ∷ t; left = a.left }))) _ (name, mid) (named_is kind_of _ (name, mid) (run_again n name (line_feed ∷ t) a.left (1 + b.left) took.1 left))
    ∙ (bind_is (named kind_of (byte_at mid)) _ (line_feed, last) (named_is kind_of _ (line_feed, last) (byte_again line_feed t (1 + b.left) b.left refl))
    ∙ (pass (not (line_feed == line_feed) || not (is_name name)) _ _ (neither _ _ refl (ap not fits.0))
    ∙ (pass (not (list_all (λ g. comes_before g.name name) files)) _ _ (ap not fits.1) ∙ pass (list_any (λ g. lies_in g.name name) files) _ _ fits.2))))

-- ---- the steps of a definition

bind_err : {A B : Type 0} (r : Result A SnapshotFaultKind) (f : A → Result B SnapshotFaultKind) (e : SnapshotFaultKind) → r ≡ Err e → (r >>= f) ≡ Err e
bind_err r f e h = ap (λ (q : Result _ SnapshotFaultKind). q >>= f) h

named_err : {X : Type 0} (name : Stop → SnapshotFaultKind) (r : Result X Stop) (e : Stop) → r ≡ Err e → named name r ≡ Err (name e)
named_err name r e h = ap (named name) h

-- the kind of a failed read
pub read_is : (stop : Stop) (kind : SnapshotFaultKind) → kind ≡ kind_of stop → kind ≡ Read → stop ≡ stops.Read
read_is stops.TooLong kind a b = absurd cc
read_is stops.Cut kind a b = absurd cc
read_is stops.TooLarge kind a b = absurd cc
read_is stops.Read kind a b = refl
read_is stops.Memory kind a b = absurd cc

-- a read failed in the first line
pub header_fails : (o n : Option (List ℕ)) (l nl : ℕ) → TookPart (λ part. line_at (record { bytes = part; left = l }) ≡ Err stops.Cut) o l n nl
    → TookPart (λ part. header_at (record { bytes = part; left = l }) ≡ Err Cut) o l n nl
header_fails o n l nl took =
    part_is (λ part. line_at (record { bytes = part; left = l }) ≡ Err stops.Cut) (λ part. header_at (record { bytes = part; left = l }) ≡ Err Cut) o n l nl
    (λ t cut. bind_err (named header_kind_of (line_at (record { bytes = t; left = l }))) _ Cut (named_err header_kind_of _ stops.Cut cut)) took

body_cut : (n l nl : ℕ) (bytes : List ℕ) → length bytes ≡ n → l ≡ n + nl → body_at n (record { bytes = bytes; left = l }) ≡ Err Cut
body_cut n l nl bytes is left =
    let mid : Ahead = record { bytes = []; left = nl } in
    bind_is (named kind_of (run_at n (record { bytes = bytes; left = l }))) _ (bytes, mid) (named_is kind_of _ (bytes, mid) (run_alone n l nl bytes is left))
    ∙ bind_err (named kind_of (byte_at mid)) _ Cut (named_err kind_of _ stops.Cut (no_byte nl))

name_cut : (files : List File) (n l nl : ℕ) (name : List ℕ) → length name ≡ n → l ≡ n + nl → name_at files n (record { bytes = name; left = l }) ≡ Err Cut
name_cut files n l nl name is left =
    let mid : Ahead = record { bytes = []; left = nl } in
    bind_is (named kind_of (run_at n (record { bytes = name; left = l }))) _ (name, mid) (named_is kind_of _ (name, mid) (run_alone n l nl name is left))
    ∙ bind_err (named kind_of (byte_at mid)) _ Cut (named_err kind_of _ stops.Cut (no_byte nl))

-- of nothing
body_none : (n l : ℕ) → body_at n (record { bytes = []; left = l }) ≡ Err Cut
body_none zero l = body_cut 0 l l [] refl (omega arith)
body_none (suc n) l = bind_err (named kind_of (run_at (suc n) (record { bytes = []; left = l }))) _ Cut (named_err kind_of _ stops.Cut (no_run (suc n) l (omega arith)))

name_none : (files : List File) (n l : ℕ) → name_at files n (record { bytes = []; left = l }) ≡ Err Cut
name_none files zero l = name_cut files 0 l l [] refl (omega arith)
name_none files (suc n) l = bind_err (named kind_of (run_at (suc n) (record { bytes = []; left = l }))) _ Cut (named_err kind_of _ stops.Cut (no_run (suc n) l (omega arith)))

-- where nothing was taken, it is cut
pub body_lacks : (n : ℕ) (o m : Option (List ℕ)) (l ml : ℕ) → TookPart (λ part. part ≡ []) o l m ml
    → TookPart (λ part. body_at n (record { bytes = part; left = l }) ≡ Err Cut) o l m ml
body_lacks n o m l ml h = part_is (λ part. part ≡ []) (λ part. body_at n (record { bytes = part; left = l }) ≡ Err Cut) o m l ml
    (λ t none. ap (λ v. body_at n (record { bytes = v; left = l })) none ∙ body_none n l) h

-- a read failed after the bytes of a file
pub body_fails : (n : ℕ) (o m p : Option (List ℕ)) (l ml pl : ℕ) (bytes : List ℕ) → length bytes ≡ n
    → (is_some o ≡ true → (run_at n (ahead_of o l) ≡ Ok (bytes, ahead_of m ml)) × (is_some m ≡ true))
    → (is_some m ≡ true → TookPart (λ part. part ≡ []) m ml p pl) → is_some o ≡ true
    → TookPart (λ part. body_at n (record { bytes = part; left = l }) ≡ Err Cut) o l p pl
body_fails n o m p l ml pl bytes is run h k =
    let t = run_takes n o m l ml bytes run in
    none_after (λ part. body_at n (record { bytes = part; left = l }) ≡ Err Cut) o m p l ml pl bytes t
    (λ known. body_cut n l ml bytes is (let e = t.count known in omega (arith, e, is))) h k

-- after those of a name
pub name_fails : (files : List File) (n : ℕ) (o m p : Option (List ℕ)) (l ml pl : ℕ) (name : List ℕ) → length name ≡ n
    → (is_some o ≡ true → (run_at n (ahead_of o l) ≡ Ok (name, ahead_of m ml)) × (is_some m ≡ true))
    → (is_some m ≡ true → TookPart (λ part. part ≡ []) m ml p pl) → is_some o ≡ true
    → TookPart (λ part. name_at files n (record { bytes = part; left = l }) ≡ Err Cut) o l p pl
name_fails files n o m p l ml pl name is run h k =
    let t = run_takes n o m l ml name run in
    none_after (λ part. name_at files n (record { bytes = part; left = l }) ≡ Err Cut) o m p l ml pl name t
    (λ known. name_cut files n l ml name is (let e = t.count known in omega (arith, e, is))) h k

-- in the bytes of a file whose name was read
pub file_fails : (files : List File) (line : FileLine) (o m p : Option (List ℕ)) (l ml pl : ℕ) (name : List ℕ)
    → line.mtime ≤ max_time → line.len ≤ max_file_bytes → length files < max_files → 0 < line.name_len → line.name_len ≤ max_name_bytes
    → (is_some o ≡ true → (name_at files line.name_len (ahead_of o l) ≡ Ok (name, ahead_of m ml)) × (is_some m ≡ true))
    → (is_some m ≡ true → TookPart (λ part. body_at line.len (record { bytes = part; left = ml }) ≡ Err Cut) m ml p pl) → is_some o ≡ true
    → TookPart (λ part. file_at files line (record { bytes = part; left = l }) ≡ Err Cut) o l p pl
file_fails files line o m p l ml pl name in_time size capacity some short read h k =
    let t : Takes o l m ml (name ++ line_feed ∷ []) = record {
      bytes = λ known. (name_inverse files line.name_len (ahead_of o l) (ahead_of m ml) name (read known).0).0.bytes;
      count = λ known. (name_inverse files line.name_len (ahead_of o l) (ahead_of m ml) name (read known).0).0.left;
      known = λ known. (read known).1;
    } in
    let a : nat_lt max_time line.mtime ≡ false = grind (arith, nat_tests) in
    let b : nat_lt max_file_bytes line.len ≡ false = grind (arith, nat_tests) in
    let c : nat_le max_files (length files) ≡ false = grind (arith, nat_tests) in
    let d : nat_lt max_name_bytes line.name_len ≡ false = grind (arith, nat_tests) in
    let e : (line.name_len == 0) ≡ false = ne_eqb line.name_len 0 (λ same. omega arith) in
    part_after (λ part. body_at line.len (record { bytes = part; left = ml }) ≡ Err Cut) (λ part. file_at files line (record { bytes = part; left = l }) ≡ Err Cut) o m p l ml pl (name ++ line_feed ∷ []) t
    (λ part left cut.
    let all : Ahead = record { bytes = (name ++ line_feed ∷ []) ++ part; left = l } in
    let mid : Ahead = record { bytes = part; left = ml } in
    pass (nat_lt max_time line.mtime) _ _ a
    ∙ (pass (nat_lt max_file_bytes line.len || nat_le max_files (length files)) _ _ (neither _ _ b c)
    ∙ (pass (line.name_len == 0 || nat_lt max_name_bytes line.name_len) _ _ (neither _ _ e d)
    ∙ (bind_is (name_at files line.name_len all) _ (name, mid) (name_alone files line.name_len (ahead_of o l) (ahead_of m ml) name (read k).0 part)
    ∙ bind_err (body_at line.len mid) _ Cut cut)))) h k

-- memory ran out for its name
pub file_lacks : (files : List File) (line : FileLine) (o m : Option (List ℕ)) (l ml : ℕ)
    → line.mtime ≤ max_time → line.len ≤ max_file_bytes → length files < max_files → 0 < line.name_len → line.name_len ≤ max_name_bytes
    → TookPart (λ part. part ≡ []) o l m ml → TookPart (λ part. file_at files line (record { bytes = part; left = l }) ≡ Err Cut) o l m ml
file_lacks files line o m l ml in_time size capacity some short h =
    let a : nat_lt max_time line.mtime ≡ false = grind (arith, nat_tests) in
    let b : nat_lt max_file_bytes line.len ≡ false = grind (arith, nat_tests) in
    let c : nat_le max_files (length files) ≡ false = grind (arith, nat_tests) in
    let d : nat_lt max_name_bytes line.name_len ≡ false = grind (arith, nat_tests) in
    let e : (line.name_len == 0) ≡ false = ne_eqb line.name_len 0 (λ same. omega arith) in
    let nothing : Ahead = record { bytes = []; left = l } in
    part_is (λ part. part ≡ []) (λ part. file_at files line (record { bytes = part; left = l }) ≡ Err Cut) o m l ml
    (λ t none. ap (λ v. file_at files line (record { bytes = v; left = l })) none
    ∙ (pass (nat_lt max_time line.mtime) _ _ a
    ∙ (pass (nat_lt max_file_bytes line.len || nat_le max_files (length files)) _ _ (neither _ _ b c)
    ∙ (pass (line.name_len == 0 || nat_lt max_name_bytes line.name_len) _ _ (neither _ _ e d)
    ∙ bind_err (name_at files line.name_len nothing) _ Cut (name_none files line.name_len l))))) h

-- ---- entries

heading_kinds : (line : List ℕ) (kind : SnapshotFaultKind) → heading_of line ≡ Err kind → (kind ≡ Number) ⊎ (kind ≡ Kind)
heading_kinds line kind h = go (starts_with nat_eq line (codes "file ")) (starts_with nat_eq line (codes "end ")) (three_numbers (drop 5 line)) (number_of (drop 4 line)) h
  where
    go : (b c : Bool) (o : Option (ℕ × ℕ × ℕ)) (p : Option ℕ) → cond b (file_heading o) (cond c (end_heading p) (Err Kind)) ≡ Err kind → (kind ≡ Number) ⊎ (kind ≡ Kind)
    go true c (Some n) p e = absurd cc
    go true c None p e = inl cc
    go false true o (Some n) e = absurd cc
    go false true o None e = inl cc
    go false false o p e = inr cc

-- a line that announces nothing is no failed read
pub heading_not_read : (line : List ℕ) (kind : SnapshotFaultKind) → heading_of line ≡ Err kind → kind ≡ Read → ⊥
heading_not_read line kind h is = elim (heading_kinds line kind h) [ inl number ↦ absurd cc | inr other ↦ absurd cc ]

-- nor out of memory
pub heading_not_lacking : (line : List ℕ) (kind : SnapshotFaultKind) → heading_of line ≡ Err kind → kind ≡ Memory → ⊥
heading_not_lacking line kind h is = elim (heading_kinds line kind h) [ inl number ↦ absurd cc | inr other ↦ absurd cc ]

-- a call failed in what a line announced: the line had been taken
pub entry_fails : (files : List File) (o m p : Option (List ℕ)) (l ml pl : ℕ) (line : List ℕ) (heading : EntryHeading) → heading_of line ≡ Ok heading
    → (is_some o ≡ true → (following : Ahead) × (line_at (ahead_of o l) ≡ Ok (line, following)) × (is_some m ≡ true) × ((h : EntryHeading) → heading_of line ≡ Ok h → following ≡ ahead_of m ml))
    → (is_some m ≡ true → TookPart (λ part. announced files heading (record { bytes = part; left = ml }) ≡ Err Cut) m ml p pl) → is_some o ≡ true
    → TookPart (λ part. (0 < length part) × (entry_at files (record { bytes = part; left = l }) ≡ Err Cut)) o l p pl
entry_fails files o m p l ml pl line heading is read h k =
    let got = λ (known : is_some o ≡ true). let r = read known in subst (λ (v : Ahead). line_at (ahead_of o l) ≡ Ok (line, v)) (r.3 heading is) r.1 in
    let t : Takes o l m ml (line ++ line_feed ∷ []) = record {
      bytes = λ known. (line_inverse (ahead_of o l) (ahead_of m ml) line (got known)).bytes;
      count = λ known. (line_inverse (ahead_of o l) (ahead_of m ml) line (got known)).left;
      known = λ known. (read known).2;
    } in
    part_after (λ part. announced files heading (record { bytes = part; left = ml }) ≡ Err Cut) (λ part. (0 < length part) × (entry_at files (record { bytes = part; left = l }) ≡ Err Cut)) o m p l ml pl (line ++ line_feed ∷ []) t
    (λ part left cut.
    let all : Ahead = record { bytes = (line ++ line_feed ∷ []) ++ part; left = l } in
    let mid : Ahead = record { bytes = part; left = ml } in (
      omega (arith, length-append (line ++ line_feed ∷ []) part, length-append line (line_feed ∷ [])),
      bind_is (named kind_of (line_at all)) _ (line, mid) (named_is kind_of _ (line, mid) (line_alone (ahead_of o l) (ahead_of m ml) line (got k) part))
          ∙ (bind_is (heading_of line) _ heading is ∙ cut),
    )) h k

-- the part that a failed read leaves is cut
pub entry_cut : (files : List File) (o p : Option (List ℕ)) (l pl : ℕ)
    → TookPart (λ part. (0 < length part) × (entry_at files (record { bytes = part; left = l }) ≡ Err Cut)) o l p pl
    → TookPart (λ part. entry_at files (record { bytes = part; left = l }) ≡ Err Cut) o l p pl
entry_cut files o p l pl h = part_is _ (λ part. entry_at files (record { bytes = part; left = l }) ≡ Err Cut) o p l pl (λ t both. both.1) h

-- the entry after files that were taken whole
reached : (P : List ℕ → Type 0) (o n m : Option (List ℕ)) (nl ml entry : ℕ) (files : List File) (kind : SnapshotFaultKind) → IsSnapshot files
    → entry ≡ length files + 1 → (t : Takes o max_text_bytes n nl (text_before_end files)) → (k : is_some o ≡ true) → (more : TookPart P n nl m ml)
    → Reached (unwrap_or o []) (record { entry = entry; kind = kind }) files more.part (unwrap_or m [])
reached P o n m nl ml entry files kind rules is t k more = record {
  taken = t.bytes k ∙ (ap (λ v. text_before_end files ++ v) more.bytes ∙ sym (append_assoc (text_before_end files) more.part (unwrap_or m [])));
  rules = rules;
  size = omega (arith, t.count k, more.count);
  entry = is;
}

left_is : (o n : Option (List ℕ)) (nl : ℕ) (files : List File) → Takes o max_text_bytes n nl (text_before_end files) → is_some o ≡ true
    → nl ≡ max_text_bytes - length (text_before_end files)
left_is o n nl files t k = omega (arith, t.count k)

pub front_fails : (o n m : Option (List ℕ)) (nl ml entry : ℕ) (files : List File) (kind : SnapshotFaultKind) → IsSnapshot files → entry ≡ length files + 1
    → Takes o max_text_bytes n nl (text_before_end files) → (is_some n ≡ true → TookPart (λ part. entry_at files (record { bytes = part; left = nl }) ≡ Err Cut) n nl m ml)
    → is_some o ≡ true → FailsInSnapshot (unwrap_or o []) (unwrap_or m []) (record { entry = entry; kind = kind })
front_fails o n m nl ml entry files kind rules is t h k =
    let more = h (t.known k) in
    inr (
      files,
      more.part,
      (
        reached _ o n m nl ml entry files kind rules is t k more,
        subst (λ (q : ℕ). entry_at files (record { bytes = more.part; left = q }) ≡ Err Cut) (left_is o n nl files t k) more.holds,
      ),
    )

-- memory ran out in that entry
pub front_lacks : (o n m : Option (List ℕ)) (nl ml entry : ℕ) (files : List File) (kind : SnapshotFaultKind) → IsSnapshot files → entry ≡ length files + 1
    → Takes o max_text_bytes n nl (text_before_end files)
    → (is_some n ≡ true → TookPart (λ part. (0 < length part) × (entry_at files (record { bytes = part; left = nl }) ≡ Err Cut)) n nl m ml)
    → is_some o ≡ true
    → (fs : List File) × (part : List ℕ) × LacksInEntry (unwrap_or o []) (record { entry = entry; kind = kind }) fs part (unwrap_or m [])
front_lacks o n m nl ml entry files kind rules is t h k =
    let more = h (t.known k) in (
      files,
      more.part,
      (
        reached _ o n m nl ml entry files kind rules is t k more,
        more.holds.0,
        inl (subst (λ (q : ℕ). entry_at files (record { bytes = more.part; left = q }) ≡ Err Cut) (left_is o n nl files t k) more.holds.1),
      ),
    )

-- or for the place of a file that was read
pub front_has_no_room : (o n m : Option (List ℕ)) (nl ml entry : ℕ) (files : List File) (f : File) (x : Option File) (kind : SnapshotFaultKind) → x ≡ Some f
    → IsSnapshot files → IfSome x (λ file. Follows files file) → entry ≡ length files + 1
    → Takes o max_text_bytes n nl (text_before_end files) → (is_some n ≡ true → (entry_at files (ahead_of n nl) ≡ Ok (x, ahead_of m ml)) × (is_some m ≡ true))
    → is_some o ≡ true
    → (fs : List File) × (part : List ℕ) × LacksInEntry (unwrap_or o []) (record { entry = entry; kind = kind }) fs part (unwrap_or m [])
front_has_no_room o n m nl ml entry files f x kind some rules fits is t h k =
    let follows : Follows files f = subst (λ (e : Option File). IfSome e (λ file. Follows files file)) some fits in
    let known = t.known k in
    let small : length files ≤ max_files = let few = rules.count in omega arith in
    let step = subst (λ (e : Option File). TakesAhead (ahead_of n nl) (entry_text files e) (ahead_of m ml)) some (entry_takes files (ahead_of n nl) (ahead_of m ml) x small (h known).0) in
    let more : TookPart (λ part. part ≡ file_text f) n nl m ml = record {
      part = file_text f;
      bytes = step.bytes;
      count = step.left;
      known = (h known).1;
      holds = refl;
    } in (
      files,
      file_text f,
      (
        reached _ o n m nl ml entry files kind rules is t k more,
        omega (arith, length-append (file_line f) (line_feed ∷ (f.name ++ line_feed ∷ (f.bytes ++ line_feed ∷ [])))),
        inr (f, follows, refl),
      ),
    )
