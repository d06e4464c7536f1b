use Rattle.std.proofs.Common.{◌==◌, rules}
use borrow.Author.Tests.{tests}
use Rattle.std.proofs.lemmas.Iterator.Search.{all_from_yields_List}
use Rattle.std.proofs.lemmas.Iterator.Splits.{YieldsList-from_slice_split}
use Rattle.paths.specs.Reference.{slash}
use Rattle.paths.specs.Snapshots.{is_part}
use Rattle.paths.proofs.entry.has_good_parts.Goals as goal

pub returns : goal.returns
returns c = all_from_yields_List is_part _ _ _ c.all.ensures.ran
    (YieldsList-from_slice_split _ (λ b. b == slash) c.args.name.now c.split.ensures.rest c.split.ensures.done c.split.ensures.closure (λ x b q called. (search rules, search (rules, tests))))
    (λ x b q called. (search rules, search (rules, tests)))
