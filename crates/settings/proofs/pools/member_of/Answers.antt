use Rattle.toml.proofs.Views.{table_get}
use Rattle.settings.proofs.pools.member_of.Goals as goal

pub returns : goal.returns
returns c = rw (c.name.ensures.name) at (table_get c.get.result c.name.result.now c.args.table.now.entries c.get.ensures.value)
