use Rattle.std.proofs.Common.{◌∙◌, [], ◌∷◌, ◌++◌, ℕ, List, Option, refl, rules}
use Rattle.captures.proofs.UpgradeLemmas.{fits_own, gave_more, moved}
use Rattle.inspection.specs.Inspections.{Stops, stop_of}
use Rattle.inspection.proofs.Endings.{holds_none, no_earlier, number_of_next, holds_all, holds_before, reported}
use Rattle.inspection.proofs.inspecting.inspect.Goals as goal

pub loop-next-init : goal.loop-next-init
loop-next-init g c = (([], [], c.in-Ok.ensures.ok.after, holds_none _ _ c.new-connections.ensures c.new-found.ensures), refl, c.in-Ok.ensures.ok.count)

pub returns-in-Err-next_record-clause-stops : goal.returns-in-Err-next_record-clause-stops
returns-in-Err-next_record-clause-stops g c =
    let inv = c.loop-next.invariant.0 in
    let held = c.inspection_of-held.result in
    let fault = c.in-Err-next_record.fault in
    let stays = c.in-Err-next_record.ensures in
    rw c.stopped.ensures
    (moved (λ (w : Option (List ℕ)). Stops c.args.reader.now.bytes w (stop_of held fault)) _ c.next_record.new.self.input.now.bytes
    (reported c.args.reader.now.bytes c.next_record.new.self.input.now.bytes held fault
    (holds_before _ _ _ _ inv.0 inv.1 c.loop-next.connections c.loop-next.found _ c.next_record.new.self.progress _ fault held inv.2 (stays.next _ _ _ _ inv.2).0 (stays.next _ _ _ _ inv.2).1 inv.3
    (c.inspection_of-held.ensures.version ∙ c.version.ensures ∙ stays.stands.0.version) (c.inspection_of-held.ensures.start ∙ c.start.ensures ∙ stays.stands.0.start) (c.inspection_of-held.ensures.figures inv.0 inv.1 inv.3.found)))
    (search rules))

pub take_record-requires-clause-number : goal.take_record-requires-clause-number
take_record-requires-clause-number g c =
    let own = c.loop-next.invariant.0 in
    number_of_next _ _ own.0 c.in-Ok-Some.next (gave_more _ _ _ _ own.0 _ _ _ c.in-Ok-Some.field-0-is (c.in-Ok-Some.ensures.next _ _ _ _ own.2).0).rules

pub loop-next-preserved-in_ok-take_record : goal.loop-next-preserved-in_ok-take_record
loop-next-preserved-in_ok-take_record g c =
    let inv = c.loop-next.invariant in
    let own = inv.0 in
    let fits = gave_more _ _ _ _ own.0 _ _ _ c.in-Ok-Some.field-0-is (c.in-Ok-Some.ensures.next _ _ _ _ own.2).0 in
    let more = c.in_ok-take_record.ensures own.0 own.1 own.3 (no_earlier _ _ own.0 c.in-Ok-Some.next fits.rules) in
    ((own.0 ++ c.in-Ok-Some.next ∷ [], own.1 ++ more.0, fits_own _ _ _ _ _ _ fits, more.1), c.in-Ok-Some.ensures.stands.1 ∙ inv.1, c.in-Ok-Some.ensures.count ∙ inv.2)

pub loop-next-preserved : goal.loop-next-preserved
loop-next-preserved g c =
    let inv = c.loop-next.invariant in
    let own = inv.0 in
    let fits = gave_more _ _ _ _ own.0 _ _ _ c.in-Ok-Some.field-0-is (c.in-Ok-Some.ensures.next _ _ _ _ own.2).0 in
    let more = c.in_ok-take_record.ensures own.0 own.1 own.3 (no_earlier _ _ own.0 c.in-Ok-Some.next fits.rules) in
    ((own.0 ++ c.in-Ok-Some.next ∷ [], own.1 ++ more.0, fits_own _ _ _ _ _ _ fits, more.1), c.in-Ok-Some.ensures.stands.1 ∙ inv.1, c.in-Ok-Some.ensures.count ∙ inv.2)

pub returns-clause-ok : goal.returns-clause-ok
returns-clause-ok g c =
    let inv = c.loop-next.invariant.0 in
    let stays = c.in-Ok-None.ensures in
    holds_all _ _ _ _ inv.0 inv.1 c.loop-next.connections c.loop-next.found _ _ _ _ c.inspection_of.result inv.2 c.in-Ok-None.field-0-is (stays.next _ _ _ _ inv.2).0 inv.3
    (c.inspection_of.ensures.version ∙ c.version-2.ensures ∙ stays.stands.0.version) (c.inspection_of.ensures.start ∙ c.start-2.ensures ∙ stays.stands.0.start) (c.inspection_of.ensures.figures inv.0 inv.1 inv.3.found)
