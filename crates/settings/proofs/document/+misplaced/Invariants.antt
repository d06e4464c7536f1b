use Rattle.std.proofs.Common.{◌≡◌, drop}
use Rattle.toml.specs.View.{items_view, members_view}
use Rattle.settings.specs.Documents.{misplaced_among, misplaced_in}
use Rattle.settings.proofs.document.+misplaced.Given as goal

abbrev pub invariant-misplaced_among-items : goal.invariant-misplaced_among-items
invariant-misplaced_among-items l =
    misplaced_among (items_view (drop l.item-index l.item-items)) l.within ≡ misplaced_among (items_view l.item-items) l.within

abbrev pub invariant-misplaced_in-members : goal.invariant-misplaced_in-members
invariant-misplaced_in-members l =
    (goal.iterator-misplaced_in-members).can_next l.name-iterator
    × (goal.iterator-misplaced_in-members).is_finite l.name-iterator
    × (misplaced_in (members_view l.name-iterator) l.within ≡ misplaced_in (members_view l.members.entries) l.within)
