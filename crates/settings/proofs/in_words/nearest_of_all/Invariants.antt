use Rattle.std.proofs.Common.{◌≡◌, drop}
use Rattle.settings.specs.declared.keys.Key.TheVariants.{Floor}
use Rattle.settings.specs.FaultWords.{nearest_among}
use Rattle.settings.proofs.in_words.nearest_of_all.Given as goal

abbrev pub invariant-loop-key : goal.invariant-loop-key
invariant-loop-key l =
    nearest_among (l.within, l.name) l.best (drop l.key-index l.key-items)
    ≡ nearest_among (l.within, l.name) Floor l.key-items
