-- A head, joined from what each step adds to it.
use Rattle.std.proofs.Common.{◌≡◌, ℕ, ◌+◌, List, [], ◌∷◌, ◌++◌, length, codes, decimal, flat_map, true, false, cond, Result, Ok, Err, refl, sym, ap, ◌∙◌, arith, length-append}
use Rattle.std.specs.Prelude.{OnOk}
use Rattle.std.proofs.lemmas.List.{append_assoc, append-nil}
use Rattle.std.proofs.lemmas.Grind.{flat_map-append}
use Rattle.paths.specs.declared.file.File.{File}
use Rattle.page_cache.specs.Reference.{media_of, media_text}
use Rattle.page_cache.specs.Pages.{entity_fields}
use Rattle.page_cache.specs.Pages.{page_fields}
use Rattle.responses.specs.declared.slip.Slip.{Slip}
use Rattle.responses.specs.Reference.{field_line, content_fields, described, status_words, status_text, head_text, content_of, reply_text}

-- what follows from what is reported of an `Ok`
pub on_ok : {T E : Type 0} (P Q : Type 0) (r : Result T E) → (P → Q) → OnOk r P → OnOk r Q
on_ok P Q (Ok x) follows is = follows is
on_ok P Q (Err e) follows is = is

-- fields after others
pub more_fields : (old mid new : List ℕ) (xs ys : List (List ℕ × List ℕ)) → mid ≡ old ++ flat_map field_line xs → new ≡ mid ++ flat_map field_line ys → new ≡ old ++ flat_map field_line (xs ++ ys)
more_fields old mid new xs ys first second =
    second ∙ ap (λ v. v ++ flat_map field_line ys) first ∙ append_assoc old (flat_map field_line xs) (flat_map field_line ys) ∙ ap (λ v. old ++ v) (sym (flat_map-append field_line xs ys))

pub described_added : (old new words : List ℕ) (code : ℕ) → words ≡ status_words code → new ≡ old ++ flat_map field_line (content_fields (codes "text/plain") (length words + 1)) → new ≡ old ++ flat_map field_line (described code)
described_added old new words code is added =
    let size : length words + 1 ≡ length (status_text code) = omega (arith, ap length is, length-append (status_words code) (codes "\n")) in
    added ∙ ap (λ n. old ++ flat_map field_line (content_fields (codes "text/plain") n)) size

-- the two fields that a page holds are those of its content
page_fields_are : (f : File) → page_fields f ≡ flat_map field_line (content_fields (media_text (media_of f.name)) (length f.bytes))
unfolding entity_fields
page_fields_are f = regroup (codes "Content-Type: ") (media_text (media_of f.name)) (codes "\r\n") (codes "Content-Length: ") (decimal (length f.bytes))
  where
    regroup : (a m e b d : List ℕ) → (((a ++ m) ++ (e ++ b)) ++ d) ++ e ≡ ((a ++ m) ++ e) ++ (((b ++ d) ++ e) ++ [])
    regroup a m e b d = simp (append_assoc, append-nil)

pub page_fields_added : (f : File) (old mid new fields : List ℕ) (more : List (List ℕ × List ℕ)) → fields ≡ page_fields f → mid ≡ old ++ fields → new ≡ mid ++ flat_map field_line more
    → new ≡ old ++ flat_map field_line (content_fields (media_text (media_of f.name)) (length f.bytes) ++ more)
page_fields_added f old mid new fields more is added then = more_fields old mid new (content_fields (media_text (media_of f.name)) (length f.bytes)) more (added ∙ ap (λ v. old ++ v) (is ∙ page_fields_are f)) then

pub head_joined : (h₀ h₁ h₂ h₃ h₄ h₅ h₆ h₇ http words end : List ℕ) (date : List ℕ × List ℕ) (own link : List (List ℕ × List ℕ))
    → h₀ ≡ [] → h₁ ≡ h₀ ++ http → h₂ ≡ h₁ ++ words → h₃ ≡ h₂ ++ end → h₄ ≡ h₃ ++ flat_map field_line (date ∷ []) → h₅ ≡ h₄ ++ flat_map field_line own → h₆ ≡ h₅ ++ flat_map field_line link → h₇ ≡ h₆ ++ end
    → h₇ ≡ http ++ words ++ end ++ flat_map field_line (date ∷ (own ++ link)) ++ end
head_joined h₀ h₁ h₂ h₃ h₄ h₅ h₆ h₇ http words end date own link e₀ e₁ e₂ e₃ e₄ e₅ e₆ e₇ =
    let dated = more_fields h₃ h₄ h₅ (date ∷ []) own e₄ e₅ in
    let linked = more_fields h₃ h₅ h₆ (date ∷ own) link dated e₆ in
    rw (e₇, linked, e₃, e₂, e₁, e₀) refl

-- a reply in the parts in which it is held
pub held_head : {X : Type 0} (files : List File) (slip : Slip X) (front : List ℕ) → front ≡ head_text files slip → slip.head ≡ true → front ++ [] ≡ reply_text files slip
held_head files slip front is head = ap (λ v. v ++ []) is ∙ ap (λ t. head_text files slip ++ cond t [] (content_of files slip.what)) (sym head)

pub held_get : {X : Type 0} (files : List File) (slip : Slip X) (head front note held : List ℕ) → head ≡ head_text files slip → slip.head ≡ false → front ≡ head ++ note → content_of files slip.what ≡ note ++ held → front ++ held ≡ reply_text files slip
held_get files slip head front note held is get joined content =
    ap (λ v. v ++ held) joined ∙ append_assoc head note held ∙ ap (λ v. v ++ (note ++ held)) is ∙ ap (λ v. head_text files slip ++ v) (sym content)
    ∙ ap (λ t. head_text files slip ++ cond t [] (content_of files slip.what)) (sym get)
