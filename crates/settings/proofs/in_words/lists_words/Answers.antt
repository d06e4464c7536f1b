use Rattle.std.proofs.Common.{append_assoc, rules, sym}
use Rattle.settings.specs.FaultWords.{lists_words}
use Rattle.settings.proofs.in_words.lists_words.Goals as goal

pub returns : goal.returns
unfolding lists_words
returns c =
    let cuts = sym c.in_ok-cuts.ensures in
    let workers = sym c.in_ok-workers.ensures in
    let capacities = sym c.in_ok-capacities.ensures in
    search (rules, append_assoc, cuts, workers, capacities)
