use Rattle.std.proofs.Common.{append_assoc, rules}
use Rattle.settings.specs.WrittenOut.{route_text}
use Rattle.settings.proofs.written_tables.write_route.Goals as goal

pub returns : goal.returns
unfolding route_text
returns c = search (rules, append_assoc)
