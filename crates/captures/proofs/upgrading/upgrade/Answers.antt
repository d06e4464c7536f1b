use Rattle.std.proofs.Common.{◌∙◌, ◌++◌, ◌∷◌, [], ℕ, List, Option, refl, arith, rules}
use Rattle.devices.proofs.Appending.{prefix_all}
use Rattle.captures.specs.Upgrades.{Leaves}
use Rattle.captures.specs.Passes.{pass_fault}
use Rattle.captures.proofs.PassLemmas.{reported_reads, reported_writes}
use Rattle.captures.proofs.UpgradeLemmas.{leaves_reported, leaves_first, own_leaves, passed_on, fits_own, gave_more, first_written, first_prefix, more_written, more_prefix, stops_first, stops_after, short_among, all_read, moved, part_end, ok_end}
use Rattle.std.proofs.lemmas.List.{length_push}
use Rattle.captures.proofs.upgrading.upgrade.Goals as goal

pub returns-in-Err-clause-fault : goal.returns-in-Err-clause-fault
returns-in-Err-clause-fault g c =
    let given = rw c.in-Err.is at c.open.follows.holds-at-none in
    rw c.from.ensures
    (leaves_first c.args.to c.args.reader.now.bytes _ c.args.writer.now.bytes _ c.in-Err.fault
    (stops_first c.args.to c.args.reader.now.bytes _ c.args.writer.now.bytes c.in-Err.fault c.in-Err.ensures.fault.at c.in-Err.ensures.fault.foreseen given.1) c.in-Err.ensures.fault.memory)

pub returns-in-Err-clause-reads : goal.returns-in-Err-clause-reads
returns-in-Err-clause-reads g c = rw (c.from.ensures, reported_reads c.in-Err.fault) (search rules)

pub returns-in-Err-clause-writes : goal.returns-in-Err-clause-writes
returns-in-Err-clause-writes g c = rw (c.from.ensures, reported_writes c.in-Err.fault) (omega arith)

pub returns-in_err-write_first_line-clause-fault : goal.returns-in_err-write_first_line-clause-fault
returns-in_err-write_first_line-clause-fault g c =
    let prefix = rw (c.start.ensures, c.later-version.ensures, c.version.ensures) at c.in_err-write_first_line.ensures.prefix in
    let cut = short_among c.args.to _ _ _ _ _ _ [] _ c.in-Ok.ensures.ok.after (first_prefix _ c.in-Ok.capture.progress.start _ _ prefix) in
    passed_on c.from_residual.result _ _ (λ f same. rw same (own_leaves c.args.to _ _ _ _ c.in_err-write_first_line.field-0.0 c.in_err-write_first_line.ensures.own cut)) c.from_residual.ensures.1

pub loop-next-init : goal.loop-next-init
loop-next-init g c = (
  (
    [],
    c.in-Ok.ensures.ok.after,
    first_written _ c.in-Ok.capture.progress.start _ _ (rw (c.start.ensures, c.later-version.ensures, c.version.ensures) at c.in_ok-write_first_line.ensures.prefix),
    refl,
  ),
  refl,
  c.in-Ok.ensures.ok.count,
  c.in_ok-write_first_line.ensures.count,
)

pub returns-in-Err-next_record-clause-fault : goal.returns-in-Err-next_record-clause-fault
returns-in-Err-next_record-clause-fault g c =
    let inv = c.loop-next.invariant.0 in
    rw c.from-in-Err-next_record.ensures
    (moved (λ (w : Option (List ℕ)). Leaves c.args.to c.args.reader.now.bytes w c.args.writer.now.bytes c.loop-next.writer.bytes (pass_fault c.in-Err-next_record.fault)) _ c.next_record.new.self.input.now.bytes
    (leaves_reported c.args.to c.args.reader.now.bytes _ c.args.writer.now.bytes c.loop-next.writer.bytes c.in-Err-next_record.fault
    (stops_after c.args.to _ _ _ _ _ _ _ inv.0 _ c.next_record.new.self.progress _ inv.1 inv.2 (c.in-Err-next_record.ensures.next _ _ _ _ inv.1).0 (c.in-Err-next_record.ensures.next _ _ _ _ inv.1).1)
    (short_among c.args.to _ _ _ _ _ _ inv.0 _ inv.1 (prefix_all _ _ _ inv.2))) (search rules))

pub returns-in-Err-next_record-clause-writes : goal.returns-in-Err-next_record-clause-writes
returns-in-Err-next_record-clause-writes g c = rw (c.from-in-Err-next_record.ensures, reported_writes c.in-Err-next_record.fault) (omega (arith, c.loop-next.invariant.3))

pub returns-in_err-write_record-clause-fault : goal.returns-in_err-write_record-clause-fault
returns-in_err-write_record-clause-fault g c =
    let inv = c.loop-next.invariant.0 in
    let fits = gave_more _ _ _ _ inv.0 _ _ _ c.in-Ok-Some.field-0-is (c.in-Ok-Some.ensures.next _ _ _ _ inv.1).0 in
    let cut = short_among c.args.to _ _ _ _ _ _ (inv.0 ++ c.in-Ok-Some.next ∷ []) _ fits (more_prefix _ _ inv.0 c.in-Ok-Some.next _ _ _ inv.2 c.in_err-write_record.ensures.prefix) in
    passed_on c.from_residual-in_err-write_record.result _ _ (λ f same. rw same (own_leaves c.args.to _ _ _ _ c.in_err-write_record.field-0.0 c.in_err-write_record.ensures.own cut)) c.from_residual-in_err-write_record.ensures.1

pub loop-next-preserved-in_ok-write_record : goal.loop-next-preserved-in_ok-write_record
loop-next-preserved-in_ok-write_record g c =
    let inv = c.loop-next.invariant in
    let fits = gave_more _ _ _ _ inv.0.0 _ _ _ c.in-Ok-Some.field-0-is (c.in-Ok-Some.ensures.next _ _ _ _ inv.0.1).0 in (
      (
        inv.0.0 ++ c.in-Ok-Some.next ∷ [],
        fits_own _ _ _ _ _ _ fits,
        rw (c.in-Ok-Some.ensures.stands.0.start, c.in-Ok-Some.ensures.stands.0.version) (more_written _ _ inv.0.0 c.in-Ok-Some.next _ _ _ inv.0.2 c.in_ok-write_record.ensures.prefix),
        omega (arith, inv.0.3, length_push inv.0.0 c.in-Ok-Some.next),
      ),
      c.in-Ok-Some.ensures.stands.1 ∙ inv.1,
      c.in-Ok-Some.ensures.count ∙ inv.2,
      c.in_ok-write_record.ensures.count ∙ inv.3,
    )

pub loop-next-preserved : goal.loop-next-preserved
loop-next-preserved g c =
    let inv = c.loop-next.invariant in
    let fits = gave_more _ _ _ _ inv.0.0 _ _ _ c.in-Ok-Some.field-0-is (c.in-Ok-Some.ensures.next _ _ _ _ inv.0.1).0 in (
      (
        inv.0.0 ++ c.in-Ok-Some.next ∷ [],
        fits_own _ _ _ _ _ _ fits,
        rw (c.in-Ok-Some.ensures.stands.0.start, c.in-Ok-Some.ensures.stands.0.version) (more_written _ _ inv.0.0 c.in-Ok-Some.next _ _ _ inv.0.2 c.in_ok-write_record.ensures.prefix),
        omega (arith, inv.0.3, length_push inv.0.0 c.in-Ok-Some.next),
      ),
      c.in-Ok-Some.ensures.stands.1 ∙ inv.1,
      c.in-Ok-Some.ensures.count ∙ inv.2,
      c.in_ok-write_record.ensures.count ∙ inv.3,
    )

pub returns-clause-fault : goal.returns-clause-fault
returns-clause-fault g c =
    let inv = c.loop-next.invariant.0 in
    part_end c.args.to c.write_last_line.result _ _ _ _ _ _ _ _ inv.0 inv.3 inv.1.rules inv.2 (all_read _ _ _ _ inv.0 _ _ c.in-Ok-None.field-0-is (c.in-Ok-None.ensures.next _ _ _ _ inv.1).0) c.write_last_line.ensures.prefix c.write_last_line.ensures.own

pub returns-clause-ok : goal.returns-clause-ok
returns-clause-ok g c =
    let inv = c.loop-next.invariant.0 in
    ok_end c.args.to c.write_last_line.result _ _ _ _ _ _ _ inv.0 inv.3 inv.1.rules inv.2 (all_read _ _ _ _ inv.0 _ _ c.in-Ok-None.field-0-is (c.in-Ok-None.ensures.next _ _ _ _ inv.1).0) c.write_last_line.ensures.prefix
