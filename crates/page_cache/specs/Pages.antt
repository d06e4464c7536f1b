-- The page of a file: the fields that tell its content, and the content itself.
use Rattle.std.specs.Prelude.{◌≡◌, ℕ, ◌<◌, List, ◌++◌, length, ◌==◌, true, codes, decimal}
use Rattle.paths.specs.Reference.{file_of}
use Rattle.paths.specs.declared.file.File.{File}
use Rattle.page_cache.specs.Reference.{media_of, media_text}
use Rattle.std.specs.List.{after_last, list_any}
use Rattle.page_cache.specs.declared.media.MediaType.{MediaType}

abbrev pub media_type : List ℕ → List ℕ
media_type name = media_text (media_of name)

-- there is such a byte in a text, and this stands after the last of them
abbrev pub IsAfterLast : ℕ → List ℕ → List ℕ → Type 0
IsAfterLast mark text rest = (list_any (λ b. b == mark) text ≡ true) × (rest ≡ after_last (λ b. b == mark) text)

-- the two fields of a content of this type and length (RFC 9110, 8.3 and 8.6)
unfoldable pub entity_fields : MediaType → ℕ → List ℕ
entity_fields media len = codes "Content-Type: " ++ media_text media ++ codes "\r\nContent-Length: " ++ decimal len
    ++ codes "\r\n"

-- the fields of a file, each with its CR LF
abbrev pub page_fields : File → List ℕ
page_fields f = entity_fields (media_of f.name) (length f.bytes)

-- the page of a file
abbrev pub page_text : File → List ℕ
page_text f = page_fields f ++ f.bytes

-- the page of the file of a number, and how many bytes it has
abbrev pub page_of : List File → ℕ → List ℕ
page_of files file = page_text (file_of files file)

unfoldable pub page_size : List File → ℕ → ℕ
page_size files file = length (page_of files file)

-- the text is the page of this file, and the file's bytes begin at the split
pub record HoldsPage (files : List File) (file : ℕ) (text : List ℕ) (split : ℕ) : Type 0 where
  pub there : file < length files
  pub whole : text ≡ page_of files file
  pub cut : split ≡ length (page_fields (file_of files file))
