-- What is kept of files, and of these with one more.
use Rattle.std.proofs.Common.{◌≡◌, ℕ, ◌+◌, ◌-◌, ◌≤◌, Bool, List, [], ◌∷◌, ◌++◌, length, take, map, refl, sym, ap, ◌∙◌, arith, codes, decimal, nat_eq, append-nil, flat_map}
use Rattle.std.specs.List.{starts_with, filter}
use Rattle.std.proofs.Math.Seq.{get_or-append_seam}
use Rattle.std.proofs.lemmas.List.{append_assoc, length-append, map-append}
use Rattle.std.proofs.lemmas.List.Elements.{filter-append}
use Rattle.std.proofs.lemmas.Grind.{flat_map-append}
use Rattle.devices.specs.Reference.{line_feed}
use Rattle.paths.specs.Reference.{no_file, file_of}
use Rattle.paths.specs.declared.file.File.{File}
use Rattle.paths.specs.Snapshots.{file_text, last_line, text_before_end, snapshot_text, max_text_bytes, IsSnapshot, Follows}
use Rattle.paths.proofs.OneList.{header}
use Rattle.snapshots.specs.declared.so_far.FilesSoFar.{FilesSoFar}
use Rattle.snapshots.specs.Keeping.{last_name, lengths_within, IsSoFar, Grown}
use Rattle.snapshots.proofs.Prefixes.{begins_itself, passes, filter_within}

name_push : (files : List File) (f : File) → last_name (files ++ f ∷ []) ≡ f.name
name_push files f =
    let at : length (files ++ f ∷ []) - 1 ≡ length files = omega (arith, length-append files (f ∷ [])) in
    ap (λ n. (file_of (files ++ f ∷ []) n).name) at ∙ ap (λ (g : File). g.name) (get_or-append_seam files f [] no_file)

lengths_push : (files : List File) (f : File) → lengths_within (files ++ f ∷ []) f.name ≡ lengths_within files f.name ++ length f.name ∷ []
lengths_push files f =
    let p : File → Bool = λ g. starts_with nat_eq f.name g.name in
    let len : File → ℕ = λ g. length g.name in
    let itself : filter p (f ∷ []) ≡ f ∷ [] = rw (begins_itself f.name) refl in
    ap (map len) (filter-append p files (f ∷ [])) ∙ (map-append len (filter p files) (filter p (f ∷ [])) ∙ ap (λ v. map len (filter p files) ++ map len v) itself)

pub text_push : (files : List File) (f : File) → text_before_end (files ++ f ∷ []) ≡ text_before_end files ++ file_text f
text_push files f =
    ap (λ v. header ++ v) (flat_map-append file_text files (f ∷ []) ∙ ap (λ v. flat_map file_text files ++ v) (append-nil (file_text f)))
    ∙ sym (append_assoc header (flat_map file_text files) (file_text f))

pub size_push : (files : List File) (f : File) → length (text_before_end (files ++ f ∷ [])) ≡ length (text_before_end files) + length (file_text f)
size_push files f = ap length (text_push files f) ∙ length-append (text_before_end files) (file_text f)

-- how many bytes the whole text has with one file more
pub whole_size : (files : List File) (f : File)
    → length (snapshot_text (files ++ f ∷ [])) ≡ (length (text_before_end files) + length (file_text f)) + (5 + length (decimal (length files + 1)))
whole_size files f =
    let one_more : length (files ++ f ∷ []) ≡ length files + 1 = length-append files (f ∷ []) in
    let last : length (last_line (files ++ f ∷ []) ++ line_feed ∷ []) ≡ 5 + length (decimal (length files + 1)) =
    ap (λ (n : ℕ). length ((codes "end " ++ decimal n) ++ line_feed ∷ [])) one_more ∙ omega (arith, length-append (decimal (length files + 1)) (line_feed ∷ [])) in
    length-append (text_before_end (files ++ f ∷ [])) (last_line (files ++ f ∷ []) ++ line_feed ∷ []) ∙ omega (arith, last, size_push files f)

pub kept_more : (files : List File) (f : File) (s next : FilesSoFar) (n : ℕ) → IsSnapshot files → Follows files f → length (snapshot_text (files ++ f ∷ [])) ≤ max_text_bytes
    → IsSoFar files s → n ≡ length (file_text f) → Grown s f.name n next → IsSoFar (files ++ f ∷ []) next
kept_more files f s next n rules fits small kept is h = record {
  count = h.count ∙ (let few = rules.count in omega (arith, kept.count, length-append files (f ∷ [])));
  size = h.size ∙ omega (arith, is, small, kept.size, size_push files f, whole_size files f);
  last = h.last ∙ sym (name_push files f);
  lengths =
      h.lengths ∙ (ap (λ v. v ++ length f.name ∷ []) picked ∙ (sym (lengths_push files f) ∙ ap (lengths_within (files ++ f ∷ [])) (sym (name_push files f))));
}
  where
    picked : filter (λ len. starts_with nat_eq f.name (take len s.names.last.items)) s.names.lengths.items ≡ lengths_within files f.name
    picked =
        ap (λ (v : List ℕ). filter (λ len. starts_with nat_eq f.name (take len v)) s.names.lengths.items) kept.last
        ∙ (ap (filter (λ len. starts_with nat_eq f.name (take len (last_name files)))) kept.lengths
        ∙ filter_within (last_name files) f.name files (passes files f.name rules fits.order))
