use Rattle.std.proofs.Common.{◌+◌, ◌*◌}
use Rattle.stage_graph.proofs.helpers.+fn-help_all-join+arg3+help_all.Given as goal

abbrev pub decreases-join+arg3 : goal.decreases-join+arg3
decreases-join+arg3 g l = 2 * l.helper_count

abbrev pub decreases-help_all : goal.decreases-help_all
decreases-help_all g l = 2 * l.helper_count + 1
