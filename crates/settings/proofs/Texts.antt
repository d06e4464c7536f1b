-- Which bytes are a document's text.
use Rattle.std.proofs.Common.{◌≡◌, ℕ, ◌≤◌, Bool, true, false, List, length, None, refl, arith}
use Rattle.std.proofs.lemmas.Bool.Decides.{nat_tests}
use Rattle.std.specs.Str.{is_utf8}
use Rattle.toml.specs.Parse.{parse_document}
use Rattle.settings.specs.SettingsTable.{document_of}

pub not_true : (b : Bool) → (b ≡ true → ⊥) → b ≡ false
not_true true no_way = absurd (no_way refl)
not_true false no_way = refl

pub not_text : (bytes : List ℕ) → is_utf8 bytes ≡ false → document_of bytes ≡ None
not_text bytes strange = grind (arith, nat_tests)

pub text_read : (bytes : List ℕ) → length bytes ≤ 65536 → is_utf8 bytes ≡ true → document_of bytes ≡ parse_document bytes
text_read bytes short text = grind (arith, nat_tests)
