-- A snapshot's text has no fault.
use Rattle.std.proofs.Common.{◌≡◌, ℕ, ◌+◌, ◌-◌, ◌^◌, ◌<◌, ◌≤◌, ◌==◌, ◌&&◌, ◌||◌, ◌⊎◌, inl, inr, not, nat_lt, nat_le, Bool, true, false, List, [], ◌∷◌, ◌++◌, length, get_or, Some, None, Result, Ok, Err, refl, sym, ap, ◌∙◌, subst, arith, codes, decimal, eq-eqb, All, flat_map}
use Rattle.std.specs.List.{list_all, list_any}
use Rattle.std.proofs.Math.Seq.{get_or-append_seam}
use Rattle.std.proofs.lemmas.Bool.{ne_eqb}
use Rattle.std.proofs.lemmas.Bool.Decides.{nat_tests}
use Rattle.std.proofs.lemmas.List.{append_assoc, append-nil, length-append, get_or_append_left}
use Rattle.std.proofs.lemmas.List.Elements.{All-head, All-tail, All-from_get_or}
use Rattle.std.proofs.lemmas.List.Folds.{list_any_none}
use Rattle.std.proofs.lemmas.Grind.{flat_map-append}
use Rattle.devices.specs.Reference.{line_feed}
use Rattle.paths.specs.Reference.{lies_in}
use Rattle.devices.specs.Texts.{Ahead, byte_at, run_at, line_at}
use Rattle.devices.specs.declared.text.Stop.{Stop}
use Rattle.paths.specs.declared.file.File.{File}
use Rattle.paths.specs.declared.snapshot_fault.SnapshotFault.{SnapshotFault}
use Rattle.paths.specs.declared.snapshot_fault.SnapshotFaultKind.{SnapshotFaultKind}
use Rattle.paths.specs.Snapshots.{file_line, file_text, first_line, last_line, text_before_end, snapshot_text, max_time, max_name_bytes, max_file_bytes, max_files, max_text_bytes, is_name, comes_before, IsFile, IsSnapshot, IsSnapshotText, Follows}
use Rattle.paths.specs.SnapshotFaults.{kind_of, header_kind_of, named, ◌>>=◌, header_at, end_heading, heading_of, name_at, body_at, file_at, entry_at, FaultsAfter, IsFrontFault, IsFirstFault}
use Rattle.devices.proofs.Taking.{line_whole}
use Rattle.devices.proofs.Again.{meet, number_again, decimal_passes, passes_append, digits_short, split, end_text, pass, neither, byte_again, run_again, nothing_after}
use Rattle.paths.proofs.OneList.{file_is_line, announces, heading_again, following, file_then, same_file, end_apart, header, parts, one_list}
use Rattle.paths.specs.declared.file.EntryHeading.TheVariants as headings

pub bind_is : {A B : Type 0} (r : Result A SnapshotFaultKind) (f : A → Result B SnapshotFaultKind) (x : A) → r ≡ Ok x → (r >>= f) ≡ f x
bind_is r f x h = ap (λ (q : Result _ SnapshotFaultKind). q >>= f) h

pub named_is : {X : Type 0} (name : Stop → SnapshotFaultKind) (r : Result X Stop) (x : X) → r ≡ Ok x → named name r ≡ Ok x
named_is name r x h = ap (named name) h

body_again : (n : ℕ) (bytes t : List ℕ) (l nl : ℕ) → length bytes ≡ n → l ≡ n + (1 + nl) → body_at n (record { bytes = bytes ++ line_feed ∷ t; left = l }) ≡ Ok (bytes, record { bytes = t; left = nl })
body_again n bytes t l nl is left =
    let mid : Ahead = record { bytes = line_feed ∷ t; left = 1 + nl } in
    let last : Ahead = record { bytes = t; left = nl } in
    bind_is (named kind_of (run_at n (record { bytes = bytes ++ line_feed ∷ t; left = l }))) _ (bytes, mid) (named_is kind_of _ (bytes, mid) (run_again n bytes (line_feed ∷ t) l (1 + nl) is left))
    ∙ bind_is (named kind_of (byte_at mid)) _ (line_feed, last) (named_is kind_of _ (line_feed, last) (byte_again line_feed t (1 + nl) nl refl))

name_again : (files : List File) (f : File) (t : List ℕ) (l nl : ℕ) → Follows files f → l ≡ length f.name + (1 + nl)
    → name_at files (length f.name) (record { bytes = f.name ++ line_feed ∷ t; left = l }) ≡ Ok (f.name, record { bytes = t; left = nl })
name_again files f t l nl h left =
    let mid : Ahead = record { bytes = line_feed ∷ t; left = 1 + nl } in
    let last : Ahead = record { bytes = t; left = nl } in
    bind_is (named kind_of (run_at (length f.name) (record { bytes = f.name ++ line_feed ∷ t; left = l }))) _ (f.name, mid) (named_is kind_of _ (f.name, mid) (run_again (length f.name) f.name (line_feed ∷ t) l (1 + nl) refl left))
    ∙ (bind_is (named kind_of (byte_at mid)) _ (line_feed, last) (named_is kind_of _ (line_feed, last) (byte_again line_feed t (1 + nl) nl refl))
    ∙ (pass (not (line_feed == line_feed) || not (is_name f.name)) _ _ (neither _ _ refl (ap not h.file.name))
    ∙ (pass (not (list_all (λ g. comes_before g.name f.name) files)) _ _ (ap not h.order) ∙ pass (list_any (λ g. lies_in g.name f.name) files) _ _ h.apart)))

file_again : (files : List File) (f : File) (t : List ℕ) (l nl : ℕ) → Follows files f → l ≡ length f.name + (1 + (length f.bytes + (1 + nl)))
    → file_at files (announces f) (record { bytes = following f t; left = l }) ≡ Ok (f, record { bytes = t; left = nl })
file_again files f t l nl h left =
    let start : Ahead = record { bytes = f.name ++ line_feed ∷ (f.bytes ++ line_feed ∷ t); left = l } in
    let mid : Ahead = record { bytes = f.bytes ++ line_feed ∷ t; left = length f.bytes + (1 + nl) } in
    let last : Ahead = record { bytes = t; left = nl } in
    let in_time = h.file.mtime in let some = h.file.some in let short = h.file.short in let size = h.file.bytes in let capacity = h.capacity in
    let a : nat_lt max_time f.mtime ≡ false = grind (arith, nat_tests) in
    let b : nat_lt max_file_bytes (length f.bytes) ≡ false = grind (arith, nat_tests) in
    let c : nat_le max_files (length files) ≡ false = grind (arith, nat_tests) in
    let d : nat_lt max_name_bytes (length f.name) ≡ false = grind (arith, nat_tests) in
    let e : (length f.name == 0) ≡ false = ne_eqb (length f.name) 0 (λ same. omega arith) in
    pass (nat_lt max_time f.mtime) _ _ a
    ∙ (pass (nat_lt max_file_bytes (length f.bytes) || nat_le max_files (length files)) _ _ (neither _ _ b c)
    ∙ (pass (length f.name == 0 || nat_lt max_name_bytes (length f.name)) _ _ (neither _ _ e d)
    ∙ (bind_is (name_at files (length f.name) start) _ (f.name, mid) (name_again files f (f.bytes ++ line_feed ∷ t) l (length f.bytes + (1 + nl)) h left)
    ∙ bind_is (body_at (length f.bytes) mid) _ (f.bytes, last) (body_again (length f.bytes) f.bytes t (length f.bytes + (1 + nl)) nl refl refl))))

-- a file's text is read as the file
entry_again : (files : List File) (f : File) (t : List ℕ) (l nl : ℕ) → Follows files f → l ≡ length (file_text f) + nl
    → entry_at files (record { bytes = file_text f ++ t; left = l }) ≡ Ok (Some f, record { bytes = t; left = nl })
entry_again files f t l nl h left =
    let is = file_is_line f.mtime (length f.name) (length f.bytes) h.file.mtime h.file.short h.file.bytes in
    let last : Ahead = record { bytes = t; left = nl } in
    let ml = length f.name + (1 + (length f.bytes + (1 + nl))) in
    let mid : Ahead = record { bytes = following f t; left = ml } in
    let sizes : l ≡ length (file_line f) + (1 + ml) =
    omega (arith, length-append (file_line f) (line_feed ∷ (f.name ++ line_feed ∷ (f.bytes ++ line_feed ∷ []))), length-append f.name (line_feed ∷ (f.bytes ++ line_feed ∷ [])), length-append f.bytes (line_feed ∷ [])) in
    let read : line_at (record { bytes = file_line f ++ line_feed ∷ following f t; left = l }) ≡ Ok (file_line f, mid) = line_whole (file_line f) (following f t) l ml is.feeds is.short sizes in
    ap (λ w. entry_at files (record { bytes = w; left = l })) (file_then f t)
    ∙ (bind_is (named kind_of (line_at (record { bytes = file_line f ++ line_feed ∷ following f t; left = l }))) _ (file_line f, mid) (named_is kind_of _ (file_line f, mid) read)
    ∙ (bind_is (heading_of (file_line f)) _ _ (heading_again f h.file) ∙ bind_is (file_at files (announces f) mid) _ (f, last) (file_again files f t ml nl h refl)))

-- the last line is read as the end
end_again : (files : List File) (t : List ℕ) (l nl : ℕ) → length files < 2 ^ 64 - 1 → l ≡ length (end_text (length files)) + nl
    → entry_at files (record { bytes = end_text (length files) ++ t; left = l }) ≡ Ok (None, record { bytes = t; left = nl })
end_again files t l nl small left =
    let n = length files in
    let line = codes "end " ++ decimal n in
    let last : Ahead = record { bytes = t; left = nl } in
    let feeds = passes_append (λ b. not (b == 10)) (codes "end ") (decimal n) refl (decimal_passes 10 n (omega arith) small) in
    let short : length line ≤ 64 = omega (arith, digits_short 20 n (omega arith) (omega arith) small) in
    let read : line_at (record { bytes = line ++ line_feed ∷ t; left = l }) ≡ Ok (line, last) = line_whole line t l nl feeds short (omega (arith, length-append line (line_feed ∷ []))) in
    let heading : heading_of line ≡ Ok (headings.End n) = ap end_heading (number_again n small) in
    ap (λ w. entry_at files (record { bytes = w; left = l })) (append_assoc line (line_feed ∷ []) t)
    ∙ (bind_is (named kind_of (line_at (record { bytes = line ++ line_feed ∷ t; left = l }))) _ (line, last) (named_is kind_of _ (line, last) read)
    ∙ (bind_is (heading_of line) _ _ heading ∙ meet (n == n) _ _ (eq-eqb n n refl)))

header_again : (t : List ℕ) (l nl : ℕ) → l ≡ length header + nl → header_at (record { bytes = header ++ t; left = l }) ≡ Ok (tt, record { bytes = t; left = nl })
header_again t l nl left =
    let last : Ahead = record { bytes = t; left = nl } in
    let read : line_at (record { bytes = first_line ++ line_feed ∷ t; left = l }) ≡ Ok (first_line, last) = line_whole first_line t l nl refl (omega arith) (omega arith) in
    ap (λ w. header_at (record { bytes = w; left = l })) (append_assoc first_line (line_feed ∷ []) t)
    ∙ bind_is (named header_kind_of (line_at (record { bytes = first_line ++ line_feed ∷ t; left = l }))) _ (first_line, last) (named_is header_kind_of _ (first_line, last) read)

-- ---- lists of files

abbrev Agrees : List File → List ℕ → List File → List ℕ → Type 0
Agrees fs x gs y = ((more : List File) × (gs ≡ fs ++ more) × (x ≡ flat_map file_text more ++ y))
    ⊎ ((f : File) × (more : List File) × (fs ≡ gs ++ f ∷ more) × (y ≡ file_text f ++ (flat_map file_text more ++ x)))

agree : (fs gs : List File) (x y : List ℕ) → All IsFile fs → All IsFile gs → flat_map file_text fs ++ x ≡ flat_map file_text gs ++ y → Agrees fs x gs y
agree [] gs x y hf hg h = inl (gs, refl, h)
agree (f ∷ fs) [] x y hf hg h = inr (f, fs, refl, sym h ∙ append_assoc (file_text f) (flat_map file_text fs) x)
agree (f ∷ fs) (g ∷ gs) x y hf hg h =
    let both = same_file f g (flat_map file_text fs ++ x) (flat_map file_text gs ++ y) (All-head IsFile f fs hf) (All-head IsFile g gs hg)
    (sym (append_assoc (file_text f) (flat_map file_text fs) x) ∙ (h ∙ append_assoc (file_text g) (flat_map file_text gs) y)) in
    elim (agree fs gs x y (All-tail IsFile f fs hf) (All-tail IsFile g gs hg) both.1) [
      | inl a ↦ inl (a.0, (λ i. sym both.0 i ∷ a.1 i), a.2)
      | inr b ↦ inr (b.0, b.1, (λ i. both.0 i ∷ b.2 i), b.3)
    ]

all_is : (p : File → Bool) (xs : List File) → All (λ f. p f ≡ true) xs → list_all p xs ≡ true
all_is p [] h = refl
all_is p (x ∷ xs) h = ap (λ b. b && list_all p xs) (All-head (λ f. p f ≡ true) x xs h) ∙ all_is p xs (All-tail (λ f. p f ≡ true) x xs h)

-- the rules say that a file follows those before it
pub follows_prefix : (ss more : List File) (q : File) → IsSnapshot (ss ++ q ∷ more) → Follows ss q
follows_prefix ss more q c = record {
  capacity = let few = c.count in omega (arith, length-append ss (q ∷ more));
  file = subst (λ (f : File). IsFile f) (get_or-append_seam ss q more q) (c.each (length ss) q (omega (arith, length-append ss (q ∷ more))));
  order = all_is (λ g. comes_before g.name q.name) ss (All-from_get_or (λ g. comes_before g.name q.name ≡ true) ss q before);
  apart = list_any_none (λ g. lies_in g.name q.name) ss (All-from_get_or (λ g. lies_in g.name q.name ≡ false) ss q outside);
}
  where
    before : (i : ℕ) → i < length ss → comes_before (get_or ss i q).name q.name ≡ true
    before i lt =
        let pair = c.rising i (length ss) q lt (omega (arith, length-append ss (q ∷ more))) in
        sym (ap (λ (g : File). comes_before g.name q.name) (get_or_append_left ss (q ∷ more) q i lt))
        ∙ (sym (ap (λ (g : File). comes_before (get_or (ss ++ q ∷ more) i q).name g.name) (get_or-append_seam ss q more q)) ∙ pair)

    outside : (i : ℕ) → i < length ss → lies_in (get_or ss i q).name q.name ≡ false
    outside i lt =
        let pair = c.apart i (length ss) q lt (omega (arith, length-append ss (q ∷ more))) in
        sym (ap (λ (g : File). lies_in g.name q.name) (get_or_append_left ss (q ∷ more) q i lt))
        ∙ (sym (ap (λ (g : File). lies_in (get_or (ss ++ q ∷ more) i q).name g.name) (get_or-append_seam ss q more q)) ∙ pair)

not_both : {A : Type 0} (x : A) (k : SnapshotFaultKind) (r : Result A SnapshotFaultKind) → r ≡ Ok x → r ≡ Err k → ⊥
not_both x k r a b = absurd cc

one_more_text : (ss more : List File) (q : File) → length (text_before_end ss) + length (file_text q) ≤ length (text_before_end (ss ++ q ∷ more))
one_more_text ss more q =
    let whole : flat_map file_text (ss ++ q ∷ more) ≡ flat_map file_text ss ++ (file_text q ++ flat_map file_text more) = flat_map-append file_text ss (q ∷ more) in
    let e = ap length whole in
    omega (arith, length-append header (flat_map file_text ss), length-append header (flat_map file_text (ss ++ q ∷ more)), length-append (flat_map file_text ss) (file_text q ++ flat_map file_text more), length-append (file_text q) (flat_map file_text more))

-- where the text of a snapshot is a prefix, no entry is at fault
pub prefix_good : (fs : List File) (x : List ℕ) (f : SnapshotFault) → IsSnapshot fs → length (snapshot_text fs) ≤ max_text_bytes → IsFrontFault (snapshot_text fs ++ x) f → ⊥
prefix_good fs x f rules size (inl first) =
    let long = length-append (text_before_end fs) (last_line fs ++ line_feed ∷ []) in
    let rest = flat_map file_text fs ++ (end_text (length fs) ++ x) in
    let good = header_again rest max_text_bytes (max_text_bytes - length header) (omega (arith, length-append header (flat_map file_text fs))) in
    not_both _ f.kind (header_at (record { bytes = header ++ rest; left = max_text_bytes })) good
    (sym (ap (λ w. header_at (record { bytes = w; left = max_text_bytes })) (parts fs x)) ∙ first.1)
prefix_good fs x f rules size (inr (gs, rest, fault)) =
    let text = split (length header) header header _ _ refl refl (sym (parts fs x) ∙ (fault.whole ∙ append_assoc header (flat_map file_text gs) rest)) in
    elim (agree gs fs rest (end_text (length fs) ++ x) fault.rules.each rules.each (sym text.1)) [
      | inl a ↦ shorter a.0 a.1 a.2
      | inr b ↦ end_apart (length fs) b.0 x _ b.3
    ]
  where
    all : length (text_before_end fs) + length (end_text (length fs)) ≤ max_text_bytes
    all = omega (arith, size, length-append (text_before_end fs) (last_line fs ++ line_feed ∷ []))

    shorter : (more : List File) → fs ≡ gs ++ more → rest ≡ flat_map file_text more ++ (end_text (length fs) ++ x) → ⊥
    shorter [] e g =
        let is : fs ≡ gs = e ∙ append-nil gs in
        let l = max_text_bytes - length (text_before_end gs) in
        let few = rules.count in
        let count = ap length is in
        let whole = subst (λ (v : List File). length (text_before_end v) + length (end_text (length v)) ≤ max_text_bytes) is all in
        let here : rest ≡ end_text (length gs) ++ x = g ∙ ap (λ (v : List File). end_text (length v) ++ x) is in
        not_both _ f.kind (entry_at gs (record { bytes = end_text (length gs) ++ x; left = l })) (end_again gs x l (l - length (end_text (length gs))) (omega arith) (omega arith))
        (sym (ap (λ w. entry_at gs (record { bytes = w; left = l })) here) ∙ fault.kind)
    shorter (q ∷ more) e g =
        let l = max_text_bytes - length (text_before_end gs) in
        let t = flat_map file_text more ++ (end_text (length fs) ++ x) in
        let follows = follows_prefix gs more q (subst (λ (v : List File). IsSnapshot v) e rules) in
        let whole = subst (λ (v : List File). length (text_before_end v) ≤ max_text_bytes) e (let a = all in omega arith) in
        let here : rest ≡ file_text q ++ t = g ∙ append_assoc (file_text q) (flat_map file_text more) (end_text (length fs) ++ x) in
        not_both _ f.kind (entry_at gs (record { bytes = file_text q ++ t; left = l })) (entry_again gs q t l (l - length (file_text q)) follows (omega (arith, one_more_text gs more q)))
        (sym (ap (λ w. entry_at gs (record { bytes = w; left = l })) here) ∙ fault.kind)

-- nor is the whole text
pub no_fault : (bytes : List ℕ) (fs : List File) (f : SnapshotFault) → IsSnapshotText bytes fs → IsFirstFault bytes f → ⊥
no_fault bytes fs f t (inl fault) =
    let is : bytes ≡ snapshot_text fs ++ [] = t.text ∙ sym (append-nil (snapshot_text fs)) in
    prefix_good fs [] f t.rules (let s = t.size in omega (arith, ap length t.text)) (subst (λ (w : List ℕ). IsFrontFault w f) is fault)
no_fault bytes fs f t (inr (gs, b, rest, trailing)) =
    let is : snapshot_text fs ++ [] ≡ snapshot_text gs ++ b ∷ rest = append-nil (snapshot_text fs) ∙ (sym t.text ∙ trailing.whole) in
    nothing_after [] b rest (one_list fs gs [] (b ∷ rest) t.rules trailing.rules is).1

-- ---- one first fault

same_fault : (f g : SnapshotFault) → f.entry ≡ g.entry → f.kind ≡ g.kind → f ≡ g
same_fault f g a k = λ i. record { entry = a i; kind = k i }

same_kind : {A : Type 0} (r : Result A SnapshotFaultKind) (j k : SnapshotFaultKind) → r ≡ Err j → r ≡ Err k → j ≡ k
same_kind r j k a b = cc

header_good : (bytes : List ℕ) (gs : List File) (rest : List ℕ) (k : SnapshotFaultKind) → bytes ≡ text_before_end gs ++ rest
    → header_at (record { bytes = bytes; left = max_text_bytes }) ≡ Err k → ⊥
header_good bytes gs rest k is fault =
    let t = flat_map file_text gs ++ rest in
    let here : bytes ≡ header ++ t = is ∙ append_assoc header (flat_map file_text gs) rest in
    not_both _ k (header_at (record { bytes = header ++ t; left = max_text_bytes })) (header_again t max_text_bytes (max_text_bytes - length header) (omega arith))
    (sym (ap (λ w. header_at (record { bytes = w; left = max_text_bytes })) here) ∙ fault)

-- of two faults one stands after fewer files: then another file stands there
fewer : (bytes : List ℕ) (gs hs : List File) (f g : SnapshotFault) (x y : List ℕ) (more : List File) → FaultsAfter bytes f gs x → FaultsAfter bytes g hs y
    → hs ≡ gs ++ more → x ≡ flat_map file_text more ++ y → f ≡ g
fewer bytes gs hs f g x y [] a b e h =
    let is : gs ≡ hs = sym (e ∙ append-nil gs) in
    let kind = subst (λ (p : List File × List ℕ). entry_at p.0 (record { bytes = p.1; left = max_text_bytes - length (text_before_end p.0) }) ≡ Err f.kind) (λ i. (is i, h i)) a.kind in
    same_fault f g (a.entry ∙ (ap (λ (l : List File). length l + 1) is ∙ sym b.entry)) (same_kind _ f.kind g.kind kind b.kind)
fewer bytes gs hs f g x y (q ∷ more) a b e h =
    let l = max_text_bytes - length (text_before_end gs) in
    let t = flat_map file_text more ++ y in
    let follows = follows_prefix gs more q (subst (λ (v : List File). IsSnapshot v) e b.rules) in
    let size = subst (λ (v : List File). length (text_before_end v) ≤ max_text_bytes) e b.size in
    let here : x ≡ file_text q ++ t = h ∙ append_assoc (file_text q) (flat_map file_text more) y in
    absurd (not_both _ f.kind (entry_at gs (record { bytes = file_text q ++ t; left = l })) (entry_again gs q t l (l - length (file_text q)) follows (omega (arith, one_more_text gs more q)))
    (sym (ap (λ w. entry_at gs (record { bytes = w; left = l })) here) ∙ a.kind))

pub one_fault : (bytes : List ℕ) (f g : SnapshotFault) → IsFirstFault bytes f → IsFirstFault bytes g → f ≡ g
one_fault bytes f g (inl (inl a)) (inl (inl b)) = same_fault f g (a.0 ∙ sym b.0) (same_kind _ f.kind g.kind a.1 b.1)
one_fault bytes f g (inl (inl a)) (inl (inr (hs, y, b))) = absurd (header_good bytes hs y f.kind b.whole a.1)
one_fault bytes f g (inl (inr (gs, x, a))) (inl (inl b)) = absurd (header_good bytes gs x g.kind a.whole b.1)
one_fault bytes f g (inl (inr (gs, x, a))) (inl (inr (hs, y, b))) =
    let both = sym (append_assoc header (flat_map file_text gs) x) ∙ (sym a.whole ∙ (b.whole ∙ append_assoc header (flat_map file_text hs) y)) in
    let text = split (length header) header header _ _ refl refl both in
    elim (agree gs hs x y a.rules.each b.rules.each text.1) [
      | inl c ↦ fewer bytes gs hs f g x y c.0 a b c.1 c.2
      | inr c ↦ sym (fewer bytes hs gs g f y x (c.0 ∷ c.1) b a c.2 (c.3 ∙ sym (append_assoc (file_text c.0) (flat_map file_text c.1) x)))
    ]
one_fault bytes f g (inl a) (inr (hs, b, rest, t)) = absurd (prefix_good hs (b ∷ rest) f t.rules t.size (subst (λ (w : List ℕ). IsFrontFault w f) t.whole a))
one_fault bytes f g (inr (gs, b, rest, t)) (inl a) = absurd (prefix_good gs (b ∷ rest) g t.rules t.size (subst (λ (w : List ℕ). IsFrontFault w g) t.whole a))
one_fault bytes f g (inr (gs, b, rest, s)) (inr (hs, c, more, t)) =
    let is = one_list gs hs (b ∷ rest) (c ∷ more) s.rules t.rules (sym s.whole ∙ t.whole) in
    same_fault f g (s.entry ∙ (ap (λ (l : List File). length l + 1) is.0 ∙ sym t.entry)) (s.kind ∙ sym t.kind)
