use Rattle.std.specs.String.{string_bytes}
use Rattle.settings.proofs.WrittenOut.{settings_if_ok}
use Rattle.settings.proofs.written_out.settings_text.Goals as goal

pub returns-clause-settings : goal.returns-clause-settings
returns-clause-settings c = settings_if_ok string_bytes _ _ c.text_of.result c.in_ok-document.ensures c.text_of.ensures
