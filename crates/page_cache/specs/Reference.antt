-- What a reader has to believe: the definitions of this crate that the headline stands on, in reading order.
use Rattle.std.specs.Prelude.{ℕ, ◌==◌, List, [], ◌∷◌, codes, map, unwrap_or, bytes_eq, if◌then◌else◌}
use Rattle.std.specs.List.{after_last, list_any}
use Rattle.std.specs.Map.{lookup}
use Rattle.std.specs.Char.{to_ascii_lowercase}
use Rattle.paths.specs.Reference.{dot, slash}
use Rattle.page_cache.specs.declared.media.MediaType.{MediaType}
use Rattle.page_cache.specs.declared.media.MediaType.TheVariants.{Html, Css, JavaScript, Json, Plain, Svg, Png, Jpeg}
use Rattle.page_cache.specs.declared.media.MediaType.TheVariants.{Gif, OctetStream}

-- The media type of a file, by its name.

-- the types by extensions in lower case
abbrev pub media_types : List (List ℕ × MediaType)
media_types =
    (codes "html", Html) ∷ (codes "htm", Html) ∷ (codes "css", Css) ∷ (codes "js", JavaScript) ∷ (codes "json", Json)
    ∷ (codes "txt", Plain) ∷ (codes "svg", Svg) ∷ (codes "png", Png) ∷ (codes "jpg", Jpeg) ∷ (codes "jpeg", Jpeg)
    ∷ (codes "gif", Gif) ∷ []

abbrev pub media_by_extension : List ℕ → MediaType
media_by_extension e = unwrap_or (lookup (bytes_eq e) media_types) OctetStream

-- what stands after the last dot of a part of a name; nothing where there is no dot
abbrev pub extension : List ℕ → List ℕ
extension part = if list_any (λ b. b == dot) part then after_last (λ b. b == dot) part else []

-- the media type of a file of this name, by its last part; the case of its extension does not matter
unfoldable pub media_of : List ℕ → MediaType
media_of name = media_by_extension (map to_ascii_lowercase (extension (after_last (λ b. b == slash) name)))

-- its name (RFC 9110, 8.3.1)
abbrev pub media_text : MediaType → List ℕ
media_text Html = codes "text/html"
media_text Css = codes "text/css"
media_text JavaScript = codes "text/javascript"
media_text Json = codes "application/json"
media_text Plain = codes "text/plain"
media_text Svg = codes "image/svg+xml"
media_text Png = codes "image/png"
media_text Jpeg = codes "image/jpeg"
media_text Gif = codes "image/gif"
media_text OctetStream = codes "application/octet-stream"
