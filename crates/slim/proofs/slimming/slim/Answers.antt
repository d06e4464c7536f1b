use Rattle.std.proofs.Common.{◌≡◌, ◌∙◌, ◌++◌, ◌∷◌, [], ℕ, List, length, Option, refl, arith, rules}
use Rattle.std.proofs.lemmas.List.{length-append}
use Rattle.captures.specs.Passes.{pass_fault}
use Rattle.captures.specs.declared.pass_fault.PassFault.TheVariants.{Memory}
use Rattle.captures.proofs.PassLemmas.{reported_reads, reported_writes}
use Rattle.captures.proofs.UpgradeLemmas.{passed_on, fits_own, gave_more, all_read, moved}
use Rattle.devices.proofs.Appending.{prefix_all}
use Rattle.slim.specs.Slims.{Leaves}
use Rattle.slim.proofs.Standing.{stands_none}
use Rattle.slim.proofs.Stopping.{first_slims, first_slims_part, first_room, count_none, more_slims, more_count, more_room, slim_stops_first, slim_leaves_first, slim_stops_after, slim_cut, slim_cut_within, slim_over, slim_over_end, slim_reported, slim_own, slim_part_end, slim_ok_end, count_small, count_more, all_room}
use Rattle.slim.proofs.slimming.slim.Goals as goal

pub returns-in-Err-clause-fault : goal.returns-in-Err-clause-fault
returns-in-Err-clause-fault g c =
    let given = rw c.in-Err.is at c.open.follows.holds-at-none in
    rw c.from.ensures
    (slim_leaves_first c.args.queries c.args.to c.args.reader.now.bytes _ c.args.writer.now.bytes _ c.in-Err.fault
    (slim_stops_first c.args.queries c.args.to c.args.reader.now.bytes _ c.args.writer.now.bytes c.in-Err.fault c.in-Err.ensures.fault.at c.in-Err.ensures.fault.foreseen given.1) c.in-Err.ensures.fault.memory)

pub returns-in-Err-clause-reads : goal.returns-in-Err-clause-reads
returns-in-Err-clause-reads g c = rw (c.from.ensures, reported_reads c.in-Err.fault) (search rules)

pub returns-in-Err-clause-writes : goal.returns-in-Err-clause-writes
returns-in-Err-clause-writes g c = rw (c.from.ensures, reported_writes c.in-Err.fault) (omega arith)

pub returns-in_err-write_first_line-clause-fault : goal.returns-in_err-write_first_line-clause-fault
returns-in_err-write_first_line-clause-fault g c =
    let prefix = rw (c.start.ensures, c.later-version.ensures, c.version.ensures) at c.in_err-write_first_line.ensures.prefix in
    let none = stands_none c.args.queries [] refl in
    let cut = slim_cut c.args.queries c.args.to _ _ _ _ _ _ [] [] _ c.in-Ok.ensures.ok.after none.arrived (first_slims_part c.args.queries _ c.in-Ok.capture.progress.start _ _ prefix) in
    passed_on c.from_residual.result _ _ (λ f same. rw same (slim_own c.args.queries c.args.to _ _ _ _ c.in_err-write_first_line.field-0.0 c.in_err-write_first_line.ensures.own cut)) c.from_residual.ensures.1

pub loop-next-init : goal.loop-next-init
loop-next-init g c = (
  (
    [],
    [],
    c.in-Ok.ensures.ok.after,
    stands_none c.args.queries _ c.new-connections.ensures,
    first_slims c.args.queries _ c.in-Ok.capture.progress.start _ _ (rw (c.start.ensures, c.later-version.ensures, c.version.ensures) at c.in_ok-write_first_line.ensures.prefix),
    count_none c.args.queries,
    omega arith,
    refl,
    first_room c.args.queries _ _ _ (rw (c.start-2.ensures, c.later-version.ensures, c.version.ensures) at c.capacity_after_first-capacity.ensures),
  ),
  refl,
  c.in-Ok.ensures.ok.count,
  c.in_ok-write_first_line.ensures.count,
)

pub returns-in-Err-next_record-clause-fault : goal.returns-in-Err-next_record-clause-fault
returns-in-Err-next_record-clause-fault g c =
    let inv = c.loop-next.invariant.0 in
    rw c.from-in-Err-next_record.ensures
    (moved (λ (w : Option (List ℕ)). Leaves c.args.queries c.args.to c.args.reader.now.bytes w c.args.writer.now.bytes c.loop-next.writer.bytes (pass_fault c.in-Err-next_record.fault)) _ c.next_record.new.self.input.now.bytes
    (slim_reported c.args.queries c.args.to c.args.reader.now.bytes _ c.args.writer.now.bytes c.loop-next.writer.bytes c.in-Err-next_record.fault
    (slim_stops_after c.args.queries c.args.to _ _ _ _ _ _ _ inv.0 inv.1 _ c.next_record.new.self.progress _ inv.2 inv.3.arrived inv.4 (c.in-Err-next_record.ensures.next _ _ _ _ inv.2).0 (c.in-Err-next_record.ensures.next _ _ _ _ inv.2).1)
    (slim_cut c.args.queries c.args.to _ _ _ _ _ _ inv.0 inv.1 _ inv.2 inv.3.arrived (prefix_all _ _ _ inv.4))) (search rules))

pub returns-in-Err-next_record-clause-writes : goal.returns-in-Err-next_record-clause-writes
returns-in-Err-next_record-clause-writes g c = rw (c.from-in-Err-next_record.ensures, reported_writes c.in-Err-next_record.fault) (omega (arith, c.loop-next.invariant.3))

pub returns-clause-fault : goal.returns-clause-fault
returns-clause-fault g c =
    let inv = c.loop-next.invariant.0 in
    slim_part_end c.args.queries c.args.to c.write_last_line.result _ _ _ _ _ _ _ _ inv.0 inv.1 inv.5 inv.2.rules inv.3.arrived inv.4 (all_read _ _ _ _ inv.0 _ _ c.in-Ok-None.field-0-is (c.in-Ok-None.ensures.next _ _ _ _ inv.2).0) c.write_last_line.ensures.prefix c.write_last_line.ensures.own

pub returns-clause-ok : goal.returns-clause-ok
returns-clause-ok g c =
    let inv = c.loop-next.invariant.0 in
    let fits = rw c.last_line_size.ensures at c.if-capacity-last_line_size.false in
    slim_ok_end c.args.queries c.args.to c.write_last_line.result _ _ _ _ _ _ c.loop-next.count c.loop-next.capacity inv.0 inv.1 inv.5 inv.6 (all_room _ _ _ _ inv.0 _ inv.2) inv.2.rules inv.3.arrived inv.3.kept inv.4 (all_read _ _ _ _ inv.0 _ _ c.in-Ok-None.field-0-is (c.in-Ok-None.ensures.next _ _ _ _ inv.2).0) inv.8 fits c.write_last_line.ensures.prefix

pub returns-then-capacity-last_line_size-clause-fault : goal.returns-then-capacity-last_line_size-clause-fault
returns-then-capacity-last_line_size-clause-fault g c =
    let inv = c.loop-next.invariant.0 in
    let over = rw c.last_line_size.ensures at c.if-capacity-last_line_size.true in
    rw c.too_large-then-capacity-last_line_size.ensures
    (slim_over_end c.args.queries c.args.to _ _ _ _ _ _ _ c.loop-next.count c.loop-next.at c.loop-next.capacity inv.0 inv.1 _ inv.2 inv.5 inv.6 (all_room _ _ _ _ inv.0 _ inv.2) inv.3.arrived inv.3.kept inv.4 (all_read _ _ _ _ inv.0 _ _ c.in-Ok-None.field-0-is (c.in-Ok-None.ensures.next _ _ _ _ inv.2).0) inv.7 inv.8 over)

pub returns-in_err-more-clause-fault : goal.returns-in_err-more-clause-fault
returns-in_err-more-clause-fault g c =
    let inv = c.loop-next.invariant.0 in
    let cut = slim_cut c.args.queries c.args.to _ c.args.reader.now.bytes _ c.args.writer.now.bytes c.loop-next.writer.bytes _ inv.0 inv.1 _ inv.2 inv.3.arrived (prefix_all _ _ _ inv.4) in
    passed_on c.from_residual-in_err-more.result _ _ (λ f same. rw same (slim_own c.args.queries c.args.to c.args.reader.now.bytes c.args.reader.now.bytes c.args.writer.now.bytes c.loop-next.writer.bytes Memory tt cut)) c.from_residual-in_err-more.ensures.1

pub returns-in_default-clause-fault : goal.returns-in_default-clause-fault
returns-in_default-clause-fault g c =
    let own = c.loop-next.invariant.0 in
    let next = c.in-Ok-Some.next in
    let fits = gave_more _ _ _ _ own.0 _ _ _ c.in-Ok-Some.field-0-is (c.in-Ok-Some.ensures.next _ _ _ _ own.2).0 in
    let s = c.in_ok-more.ensures own.0 own.1 own.3 in
    let over = rw c.in_default.is at c.capacity_after.ensures.none in
    rw c.too_large.ensures
    (slim_over c.args.queries c.args.to _ _ _ _ _ _ _ _ c.loop-next.at c.loop-next.capacity c.loop-next.count own.0 own.1 next _ _ _ _ own.2 fits own.3.arrived s own.4 own.5 own.6 own.7 own.8 (rw c.deref.ensures.value at over))

pub returns-in_err-write_records-clause-fault : goal.returns-in_err-write_records-clause-fault
returns-in_err-write_records-clause-fault g c =
    let own = c.loop-next.invariant.0 in
    let next = c.in-Ok-Some.next in
    let fits = gave_more _ _ _ _ own.0 _ _ _ c.in-Ok-Some.field-0-is (c.in-Ok-Some.ensures.next _ _ _ _ own.2).0 in
    let s = c.in_ok-more.ensures own.0 own.1 own.3 in
    let part = rw c.deref-in-loop-next.ensures.value at c.in_err-write_records.ensures.prefix in
    passed_on c.from_residual-in_err-write_records.result _ _
    (λ f same. rw same (slim_own c.args.queries c.args.to _ _ _ _ c.in_err-write_records.field-0.0 c.in_err-write_records.ensures.own
    (slim_cut_within c.args.queries c.args.to _ _ _ _ _ _ _ own.0 own.1 next _ _ _ fits s part own.4)))
    c.from_residual-in_err-write_records.ensures.1

pub overflow_add-at : goal.overflow_add-at
overflow_add-at g c =
    let own = c.loop-next.invariant.0 in
    let most = all_room _ _ _ _ own.0 _ own.2 in
    omega (arith, own.7, most)

pub overflow_add-count : goal.overflow_add-count
overflow_add-count g c =
    let own = c.loop-next.invariant.0 in
    let s = c.in_ok-more.ensures own.0 own.1 own.3 in
    let few = s.few in
    let len = c.len-count.ensures in
    let given = rw c.in-Ok-Some.field-0-is at c.in-Ok-Some.ensures.given in
    let small = count_small _ _ _ _ c.loop-next.count c.len-count.result _ own.0 _ c.in-Ok-Some.next own.2 given.capacity own.6 (omega (arith, few, len)) in
    omega (arith, small)

pub loop-next-preserved-in_ok-write_records : goal.loop-next-preserved-in_ok-write_records
loop-next-preserved-in_ok-write_records g c =
    let inv = c.loop-next.invariant in
    let own = inv.0 in
    let next = c.in-Ok-Some.next in
    let fits = gave_more _ _ _ _ own.0 _ _ _ c.in-Ok-Some.field-0-is (c.in-Ok-Some.ensures.next _ _ _ _ own.2).0 in
    let s = c.in_ok-more.ensures own.0 own.1 own.3 in
    let few = s.few in
    let len : c.len-count.result ≡ length c.in_ok-more.more.items = search rules in
    let written = rw c.deref-in-loop-next.ensures.value at c.in_ok-write_records.ensures.prefix in
    let left = rw c.deref.ensures.value at (rw c.in-Some.is at c.capacity_after.ensures.some) in
    let same = length-append own.0 (next ∷ []) in (
      (
        own.0 ++ next ∷ [],
        own.1 ++ s.came,
        fits_own _ _ _ _ _ _ fits,
        s.stands,
        rw (c.in-Ok-Some.ensures.stands.0.start, c.in-Ok-Some.ensures.stands.0.version) (more_slims c.args.queries _ _ own.0 own.1 next _ _ _ _ _ s written own.4),
        more_count c.args.queries c.loop-next.count _ own.0 own.1 next _ _ s len own.5,
        count_more c.loop-next.count _ own.0 next own.6 (omega (arith, few, len)),
        omega (arith, own.7, same),
        rw (c.in-Ok-Some.ensures.stands.0.start, c.in-Ok-Some.ensures.stands.0.version) (more_room c.args.queries _ _ _ _ own.0 own.1 next _ _ s own.8 left),
      ),
      c.in-Ok-Some.ensures.stands.1 ∙ inv.1,
      c.in-Ok-Some.ensures.count ∙ inv.2,
      c.in_ok-write_records.ensures.count ∙ inv.3,
    )

pub loop-next-preserved : goal.loop-next-preserved
loop-next-preserved g c =
    let inv = c.loop-next.invariant in
    let own = inv.0 in
    let next = c.in-Ok-Some.next in
    let fits = gave_more _ _ _ _ own.0 _ _ _ c.in-Ok-Some.field-0-is (c.in-Ok-Some.ensures.next _ _ _ _ own.2).0 in
    let s = c.in_ok-more.ensures own.0 own.1 own.3 in
    let few = s.few in
    let len : c.len-count.result ≡ length c.in_ok-more.more.items = search rules in
    let written = rw c.deref-in-loop-next.ensures.value at c.in_ok-write_records.ensures.prefix in
    let left = rw c.deref.ensures.value at (rw c.in-Some.is at c.capacity_after.ensures.some) in
    let same = length-append own.0 (next ∷ []) in (
      (
        own.0 ++ next ∷ [],
        own.1 ++ s.came,
        fits_own _ _ _ _ _ _ fits,
        s.stands,
        rw (c.in-Ok-Some.ensures.stands.0.start, c.in-Ok-Some.ensures.stands.0.version) (more_slims c.args.queries _ _ own.0 own.1 next _ _ _ _ _ s written own.4),
        more_count c.args.queries c.loop-next.count _ own.0 own.1 next _ _ s len own.5,
        count_more c.loop-next.count _ own.0 next own.6 (omega (arith, few, len)),
        omega (arith, own.7, same),
        rw (c.in-Ok-Some.ensures.stands.0.start, c.in-Ok-Some.ensures.stands.0.version) (more_room c.args.queries _ _ _ _ own.0 own.1 next _ _ s own.8 left),
      ),
      c.in-Ok-Some.ensures.stands.1 ∙ inv.1,
      c.in-Ok-Some.ensures.count ∙ inv.2,
      c.in_ok-write_records.ensures.count ∙ inv.3,
    )
