use Rattle.std.proofs.Common.{arith}
use Rattle.admission.proofs.TallyLemmas.{counted-insert}
use Rattle.admission.proofs.WindowLemmas.{count-small, tally_room, tally_full}
use Rattle.admission.proofs.window.SampleWindow.add.Goals as goal

pub count-requires : goal.count-requires
count-requires c =
    count-small c.self.inside.counts.entries c.self.inside.ring.items c.self.inside.ring.capacity c.args.sample c.self.invariant

pub uncount-requires : goal.uncount-requires
uncount-requires c =
    rw c.in_ok-count.ensures.ok
    (counted-insert c.args.sample _ c.self.inside.counts.entries c.self.invariant.counted (omega arith))

pub invariant_of-self-in-Some : goal.invariant_of-self-in-Some
invariant_of-self-in-Some c =
    rw c.push_back.ensures.items
    (tally_full c.self.inside.counts.entries c.count.new.counts.entries c.uncount.new.counts.entries c.self.inside.ring.items
    c.self.inside.ring.capacity c.args.sample c.in-Some.oldest c.count.ensures.ordered c.self.invariant
    c.in_ok-count.ensures.ok (c.in-Some.ensures.value)
    c.uncount.ensures.removed c.uncount.ensures.positive)

pub invariant_of-self-in_default : goal.invariant_of-self-in_default
invariant_of-self-in_default c =
    rw c.push_back.ensures.items
    (tally_room c.self.inside.counts.entries c.count.new.counts.entries c.self.inside.ring.items
    c.self.inside.ring.capacity c.args.sample c.count.ensures.ordered c.self.invariant
    c.in_ok-count.ensures.ok (c.in_default.ensures.value))
