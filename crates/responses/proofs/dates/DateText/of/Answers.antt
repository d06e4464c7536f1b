use Rattle.std.proofs.Common.{◌∙◌, rules}
use Rattle.responses.proofs.DateLemmas.{date_shown}
use Rattle.responses.proofs.dates.DateText.of.Goals as goal

pub invariant_of-result : goal.invariant_of-result
invariant_of-result c = record { is = c.to_bytes.ensures ∙ date_shown c.unwrap-date.result c.args.second c.requires (search rules) }
