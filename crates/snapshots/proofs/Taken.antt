-- What a writer has taken, and what it answers to one more file.
use Rattle.std.proofs.Common.{◌≡◌, ℕ, ◌+◌, Bool, true, false, List, [], ◌∷◌, ◌++◌, length, Option, Some, None, refl, sym, ap, ◌∙◌, subst, arith, codes, decimal}
use Rattle.std.proofs.lemmas.Fmt.{length-decimal-le}
use Rattle.std.proofs.lemmas.List.{append_assoc, length-append}
use Rattle.std.specs.Io.KnownBytes.{Appends}
use Rattle.devices.proofs.Appending.{appends_then, prefix_first, prefix_all, prefix_then}
use Rattle.devices.specs.Reference.{line_feed}
use Rattle.devices.specs.Devices.{AppendsPrefix}
use Rattle.paths.specs.declared.file.File.{File}
use Rattle.paths.specs.Snapshots.{file_line, file_text, last_line, text_before_end, snapshot_text, IsSnapshotText}
use Rattle.paths.proofs.FilesOrFault.{rules_none, rules_more}
use Rattle.paths.proofs.OneList.{one_list}
use Rattle.paths.proofs.NoFault.{no_fault}
use Rattle.paths.specs.SnapshotFaults.{IsForeseen, IsFirstFault, is_unforeseen_kind}
use Rattle.paths.specs.declared.snapshot_fault.SnapshotFault.{SnapshotFault}
use Rattle.snapshots.specs.declared.so_far.FilesSoFar.{FilesSoFar}
use Rattle.snapshots.specs.Keeping.{broken_rule, Grown, more}
use Rattle.snapshots.specs.Writers.{Took}
use Rattle.snapshots.proofs.Keeps.{kept_more, text_push, whole_size}
use Rattle.snapshots.proofs.Rulings.{none_broken}

pub took_none : (old new : Option (List ℕ)) (s : FilesSoFar) → Appends old new (text_before_end []) → s.count ≡ 0 → s.size ≡ 18 → s.names.last.items ≡ [] → s.names.lengths.items ≡ [] → Took [] old new s
took_none old new s h count size last lengths = record {
  rules = rules_none;
  size = (let digit = length-decimal-le 1 0 (omega arith) (omega arith) (omega arith) in omega (arith, digit, length-append (decimal 0) (line_feed ∷ [])));
  kept = record { count = count; size = size; last = last; lengths = lengths };
  text = h;
}

-- what stands before a file's bytes, and these
pub file_parts : (f : File) (head : List ℕ) → head ≡ (file_line f ++ line_feed ∷ []) ++ (f.name ++ line_feed ∷ []) → head ++ (f.bytes ++ line_feed ∷ []) ≡ file_text f
file_parts f head is =
    ap (λ v. v ++ (f.bytes ++ line_feed ∷ [])) is
    ∙ (append_assoc (file_line f ++ line_feed ∷ []) (f.name ++ line_feed ∷ []) (f.bytes ++ line_feed ∷ [])
    ∙ (append_assoc (file_line f) (line_feed ∷ []) ((f.name ++ line_feed ∷ []) ++ (f.bytes ++ line_feed ∷ []))
    ∙ ap (λ v. file_line f ++ line_feed ∷ v) (append_assoc f.name (line_feed ∷ []) (f.bytes ++ line_feed ∷ []))))

pub took_more : (files : List File) (f : File) (before old new : Option (List ℕ)) (s next : FilesSoFar) (head : List ℕ) (n : ℕ) → Took files before old s → broken_rule files f ≡ None
    → head ≡ (file_line f ++ line_feed ∷ []) ++ (f.name ++ line_feed ∷ []) → n ≡ more (length head) (length f.bytes + 1) → Appends old new (head ++ (f.bytes ++ line_feed ∷ [])) → Grown s f.name n next
    → Took (files ++ f ∷ []) before new next
took_more files f before old new s next head n took none is sum h grows =
    let fits = none_broken files f none in
    let text = file_parts f head is in
    let counted : n ≡ length (file_text f) =
    sum ∙ omega (arith, ap length text, length-append head (f.bytes ++ line_feed ∷ []), length-append f.bytes (line_feed ∷ []), fits.size, whole_size files f) in
    record {
      rules = rules_more files f took.rules fits.follows;
      size = fits.size;
      kept = kept_more files f s next n took.rules fits.follows fits.size took.kept counted grows;
      text =
          subst (λ (w : List ℕ). Appends before new w) (sym (text_push files f))
          (appends_then before old new (text_before_end files) (file_text f) took.text (subst (λ (w : List ℕ). Appends old new w) text h));
    }

pub part_more : (files : List File) (f : File) (before old new : Option (List ℕ)) (s : FilesSoFar) (head : List ℕ) → Took files before old s
    → head ≡ (file_line f ++ line_feed ∷ []) ++ (f.name ++ line_feed ∷ []) → AppendsPrefix old new (head ++ (f.bytes ++ line_feed ∷ [])) → AppendsPrefix before new (text_before_end (files ++ f ∷ []))
part_more files f before old new s head took is h =
    subst (λ (w : List ℕ). AppendsPrefix before new w) (sym (text_push files f))
    (prefix_then before old new (text_before_end files) (file_text f) took.text (subst (λ (w : List ℕ). AppendsPrefix old new w) (file_parts f head is) h))

-- the last line
pub last_is : (files : List File) (before old : Option (List ℕ)) (s : FilesSoFar) → Took files before old s → (codes "end " ++ decimal s.count) ++ line_feed ∷ [] ≡ last_line files ++ line_feed ∷ []
last_is files before old s took = ap (λ (n : ℕ). (codes "end " ++ decimal n) ++ line_feed ∷ []) took.kept.count

pub all_ended : (files : List File) (before old new : Option (List ℕ)) (s : FilesSoFar) (line : List ℕ) → Took files before old s
    → line ≡ (codes "end " ++ decimal s.count) ++ line_feed ∷ [] → Appends old new line → Appends before new (snapshot_text files)
all_ended files before old new s line took is h =
    appends_then before old new (text_before_end files) (last_line files ++ line_feed ∷ []) took.text
    (subst (λ (w : List ℕ). Appends old new w) (is ∙ last_is files before old s took) h)

pub part_ended : (files : List File) (before old new : Option (List ℕ)) (s : FilesSoFar) (line : List ℕ) → Took files before old s
    → line ≡ (codes "end " ++ decimal s.count) ++ line_feed ∷ [] → AppendsPrefix old new line → AppendsPrefix before new (snapshot_text files)
part_ended files before old new s line took is h =
    prefix_then before old new (text_before_end files) (last_line files ++ line_feed ∷ []) took.text
    (subst (λ (w : List ℕ). AppendsPrefix old new w) (is ∙ last_is files before old s took) h)

pub none_ended : (files : List File) (before old : Option (List ℕ)) (s : FilesSoFar) → Took files before old s → AppendsPrefix before old (snapshot_text files)
none_ended files before old s took =
    prefix_first before old (text_before_end files) (last_line files ++ line_feed ∷ []) (prefix_all before old (text_before_end files) took.text)

pub whole : (files : List File) (before old : Option (List ℕ)) (s : FilesSoFar) → Took files before old s → IsSnapshotText (snapshot_text files) files
whole files before old s took = record { text = refl; rules = took.rules; size = took.size }

-- what is read of a text that was written
pub again : (files others : List File) → IsSnapshotText (snapshot_text files) files → IsSnapshotText (snapshot_text files) others → others ≡ files
again files others c d = (one_list others files [] [] d.rules c.rules (ap (λ v. v ++ []) (sym d.text))).0

pub only_unforeseen : (files : List File) (f : SnapshotFault) → IsSnapshotText (snapshot_text files) files → IsForeseen IsFirstFault (Some (snapshot_text files)) f → is_unforeseen_kind f.kind ≡ true
only_unforeseen files f c h = go (is_unforeseen_kind f.kind) refl
  where
    go : (b : Bool) → is_unforeseen_kind f.kind ≡ b → b ≡ true
    go true e = refl
    go false e = absurd (no_fault (snapshot_text files) files f c (h refl e))
