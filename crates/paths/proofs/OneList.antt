-- A snapshot's text is that of one list of files.
use Rattle.std.proofs.Common.{◌≡◌, ℕ, ◌+◌, ◌-◌, ◌^◌, ◌<◌, ◌≤◌, ◌==◌, not, List, [], ◌∷◌, ◌++◌, length, drop, get_or, Result, Ok, refl, sym, ap, ◌∙◌, subst, arith, codes, decimal, All, flat_map}
use Rattle.std.specs.List.{prefix_len}
use Rattle.std.proofs.lemmas.List.{append_assoc, length-append}
use Rattle.std.proofs.lemmas.List.Elements.{All-head, All-tail}
use Rattle.devices.specs.Reference.{line_feed}
use Rattle.devices.specs.Texts.{Ahead, line_at}
use Rattle.devices.specs.declared.text.Stop.{Stop}
use Rattle.paths.specs.declared.file.File.{File}
use Rattle.paths.specs.declared.file.FileLine.{FileLine}
use Rattle.paths.specs.declared.file.EntryHeading.{EntryHeading}
use Rattle.paths.specs.declared.snapshot_fault.SnapshotFaultKind.{SnapshotFaultKind}
use Rattle.paths.specs.Snapshots.{file_line, file_text, first_line, last_line, text_before_end, snapshot_text, max_time, max_name_bytes, max_file_bytes, IsFile, IsSnapshot}
use Rattle.paths.specs.SnapshotFaults.{file_heading, heading_of}
use Rattle.devices.proofs.Taking.{line_whole}
use Rattle.devices.proofs.Inverse.{ok_is}
use Rattle.devices.proofs.Again.{decimal_passes, passes_append, three_again, words, IsLine, digits_short, split, end_text}
use Rattle.paths.specs.declared.file.EntryHeading.TheVariants as headings

-- ---- numbers

-- ---- a file's line

pub file_is_line : (t c l : ℕ) → t ≤ max_time → c ≤ max_name_bytes → l ≤ max_file_bytes → IsLine (codes "file " ++ decimal t ++ codes " " ++ decimal c ++ codes " " ++ decimal l)
file_is_line t c l ht hc hl =
    let T = decimal t in let C = decimal c in let L = decimal l in
    let nl = λ (n : ℕ) (h : n < 2 ^ 64 - 1). decimal_passes 10 n (omega arith) h in
    let tail : prefix_len (λ b. not (b == 10)) (T ++ 32 ∷ (C ++ 32 ∷ L)) ≡ length (T ++ 32 ∷ (C ++ 32 ∷ L)) =
    passes_append _ T (32 ∷ (C ++ 32 ∷ L)) (nl t (omega arith)) (passes_append _ (32 ∷ []) (C ++ 32 ∷ L) refl (passes_append _ C (32 ∷ L) (nl c (omega arith)) (passes_append _ (32 ∷ []) L refl (nl l (omega arith))))) in
    subst (λ (w : List ℕ). IsLine w) (sym (words T C L)) (record {
      feeds = passes_append _ (codes "file ") (T ++ 32 ∷ (C ++ 32 ∷ L)) refl tail;
      short = omega (arith, digits_short 12 t (omega arith) (omega arith) (omega arith), digits_short 4 c (omega arith) (omega arith) (omega arith), digits_short 8 l (omega arith) (omega arith) (omega arith), length-append T (32 ∷ (C ++ 32 ∷ L)), length-append C (32 ∷ L));
    })

abbrev pub announces : (f : File) → FileLine
announces f = record { mtime = f.mtime; name_len = length f.name; len = length f.bytes }

pub heading_again : (f : File) → IsFile f → heading_of (file_line f) ≡ Ok (headings.File (announces f))
heading_again f h =
    let in_time = h.mtime in let in_name = h.short in let in_bytes = h.bytes in
    ap heading_of (words (decimal f.mtime) (decimal (length f.name)) (decimal (length f.bytes)))
    ∙ ap file_heading (three_again f.mtime (length f.name) (length f.bytes) (omega arith) (omega arith) (omega arith))

-- ---- a file

-- what stands after a file's line
abbrev pub following : File → List ℕ → List ℕ
following f x = f.name ++ line_feed ∷ (f.bytes ++ line_feed ∷ x)

pub file_then : (f : File) (x : List ℕ) → file_text f ++ x ≡ file_line f ++ line_feed ∷ following f x
file_then f x =
    append_assoc (file_line f) (line_feed ∷ (f.name ++ line_feed ∷ (f.bytes ++ line_feed ∷ []))) x
    ∙ ap (λ w. file_line f ++ line_feed ∷ w) (append_assoc f.name (line_feed ∷ (f.bytes ++ line_feed ∷ [])) x ∙ ap (λ w. f.name ++ line_feed ∷ w) (append_assoc f.bytes (line_feed ∷ []) x))

same_heading : (a b : FileLine) → (let r : Result EntryHeading SnapshotFaultKind = Ok (headings.File a) in r) ≡ Ok (headings.File b) → a ≡ b
same_heading a b h = cc

same_line : (f g : File) (x y : List ℕ) → IsFile f → IsFile g → file_text f ++ x ≡ file_text g ++ y → (file_line f ≡ file_line g) × (following f x ≡ following g y)
same_line f g x y hf hg h =
    let l = length (file_line f) + (1 + (length (file_line g) + 1)) in
    let lf = file_is_line f.mtime (length f.name) (length f.bytes) hf.mtime hf.short hf.bytes in
    let lg = file_is_line g.mtime (length g.name) (length g.bytes) hg.mtime hg.short hg.bytes in
    let a = line_whole (file_line f) (following f x) l (length (file_line g) + 1) lf.feeds lf.short refl in
    let b = line_whole (file_line g) (following g y) l (length (file_line f) + 1) lg.feeds lg.short (omega arith) in
    let text : file_line f ++ line_feed ∷ following f x ≡ file_line g ++ line_feed ∷ following g y = sym (file_then f x) ∙ (h ∙ file_then g y) in
    let e : (file_line f, record { bytes = following f x; left = length (file_line g) + 1 }) ≡ (file_line g, record { bytes = following g y; left = length (file_line f) + 1 }) =
    ok_is {A = List ℕ × Ahead} {E = Stop} _ _ _ _ a b (ap (λ w. line_at (record { bytes = w; left = l })) text) in
    (ap (λ (p : List ℕ × Ahead). p.0) e, ap (λ (p : List ℕ × Ahead). p.1.bytes) e)

pub same_file : (f g : File) (x y : List ℕ) → IsFile f → IsFile g → file_text f ++ x ≡ file_text g ++ y → (f ≡ g) × (x ≡ y)
same_file f g x y hf hg h =
    let line = same_line f g x y hf hg h in
    let s = same_heading (announces f) (announces g) (sym (heading_again f hf) ∙ (ap heading_of line.0 ∙ heading_again g hg)) in
    let time : f.mtime ≡ g.mtime = ap (λ (k : FileLine). k.mtime) s in
    let names : length f.name ≡ length g.name = ap (λ (k : FileLine). k.name_len) s in
    let sizes : length f.bytes ≡ length g.bytes = ap (λ (k : FileLine). k.len) s in
    let first = split (length g.name) f.name g.name (line_feed ∷ (f.bytes ++ line_feed ∷ x)) (line_feed ∷ (g.bytes ++ line_feed ∷ y)) names refl line.1 in
    let second = split (length g.bytes) f.bytes g.bytes (line_feed ∷ x) (line_feed ∷ y) sizes refl (ap (drop 1) first.1) in
    (λ i. record { name = first.0 i; mtime = time i; bytes = second.0 i }, ap (drop 1) second.1)

-- ---- whole texts

pub end_apart : (n : ℕ) (f : File) (x y : List ℕ) → end_text n ++ x ≡ file_text f ++ y → ⊥
end_apart n f x y h = let first : ◌≡◌ {A = ℕ} 101 102 = ap (λ (l : List ℕ). get_or l 0 0) h in omega arith

same_files : (fs gs : List File) (n m : ℕ) (x y : List ℕ) → All IsFile fs → All IsFile gs
    → flat_map file_text fs ++ (end_text n ++ x) ≡ flat_map file_text gs ++ (end_text m ++ y) → (fs ≡ gs) × (end_text n ++ x ≡ end_text m ++ y)
same_files [] [] n m x y hf hg h = (refl, h)
same_files [] (g ∷ gs) n m x y hf hg h = absurd (end_apart n g x _ (h ∙ append_assoc (file_text g) (flat_map file_text gs) (end_text m ++ y)))
same_files (f ∷ fs) [] n m x y hf hg h = absurd (end_apart m f y _ (sym h ∙ append_assoc (file_text f) (flat_map file_text fs) (end_text n ++ x)))
same_files (f ∷ fs) (g ∷ gs) n m x y hf hg h =
    let one = same_file f g (flat_map file_text fs ++ (end_text n ++ x)) (flat_map file_text gs ++ (end_text m ++ y)) (All-head IsFile f fs hf) (All-head IsFile g gs hg)
    (sym (append_assoc (file_text f) (flat_map file_text fs) (end_text n ++ x)) ∙ (h ∙ append_assoc (file_text g) (flat_map file_text gs) (end_text m ++ y))) in
    let more = same_files fs gs n m x y (All-tail IsFile f fs hf) (All-tail IsFile g gs hg) one.1 in
    (λ i. one.0 i ∷ more.0 i, more.1)

abbrev pub header : List ℕ
header = first_line ++ line_feed ∷ []

pub parts : (fs : List File) (x : List ℕ) → snapshot_text fs ++ x ≡ header ++ (flat_map file_text fs ++ (end_text (length fs) ++ x))
parts fs x = append_assoc (text_before_end fs) (last_line fs ++ line_feed ∷ []) x ∙ append_assoc header (flat_map file_text fs) (end_text (length fs) ++ x)

pub one_list : (fs gs : List File) (x y : List ℕ) → IsSnapshot fs → IsSnapshot gs → snapshot_text fs ++ x ≡ snapshot_text gs ++ y → (fs ≡ gs) × (x ≡ y)
one_list fs gs x y hf hg h =
    let text = split (length header) header header _ _ refl refl (sym (parts fs x) ∙ (h ∙ parts gs y)) in
    let both = same_files fs gs (length fs) (length gs) x y hf.each hg.each text.1 in
    let last = split (length (end_text (length gs))) (end_text (length fs)) (end_text (length gs)) x y (ap (λ (l : List File). length (end_text (length l))) both.0) refl both.1 in
    (both.0, last.1)
