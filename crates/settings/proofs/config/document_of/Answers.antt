use Rattle.std.proofs.Common.{◌≡◌, Some, refl}
use Rattle.std.proofs.lemmas.Str.{is_utf8-from_IsUtf8, IsUtf8-from_is_utf8}
use Rattle.toml.specs.Parse.{parse_document}
use Rattle.toml.specs.View.{table_view}
use Rattle.settings.proofs.Texts.{not_true, not_text, text_read}
use Rattle.settings.proofs.config.document_of.Goals as goal

pub returns-in_default : goal.returns-in_default
returns-in_default c = λ _. (not_text _ (not_true _ (λ text. c.in_default.ensures.cases.0 (IsUtf8-from_is_utf8 _ text))), refl)

pub returns-in-Ok-table_from_str : goal.returns-in-Ok-table_from_str
returns-in-Ok-table_from_str c =
    let whole = text_read c.args.bytes.now c.if-bytes-gt-MAX_SETTINGS_BYTES.false (is_utf8-from_IsUtf8 _ c.in-Ok.ensures.cases.1) in
    let read : parse_document c.args.bytes.now ≡ Some (table_view c.in-Ok-table_from_str.document) =
    rw c.in-Ok.ensures.cases.0 at c.in-Ok-table_from_str.ensures.ok in
    rw (whole, read) refl
