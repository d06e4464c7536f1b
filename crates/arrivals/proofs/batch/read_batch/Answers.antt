use Rattle.std.proofs.Common.{◌≤◌, ◌⊎◌, ◌∷◌, ◌++◌, [], ◌∙◌, inl, inr, arith, append_assoc}
use Rattle.captures.specs.Captures.{sizes_of}
use Rattle.arrivals.specs.Batches.{piece_count, enough_bytes}
use Rattle.arrivals.proofs.Gathering.{gave_some, count_push, sizes_push, one_piece, one_size}
use Rattle.arrivals.proofs.Tiered.{always_on_err}
use Rattle.arrivals.proofs.batch.read_batch.Goals as goal
use Rattle.arrivals.proofs.batch.read_batch.Goals.{then-loop-count-test+else-bytes-lt-ENOUGH_BYTES, else-loop-count-test}

pub returns-in-Ok-None-clause-batch : goal.returns-in-Ok-None-clause-batch
returns-in-Ok-None-clause-batch g c =
    let inv = c.loop-count.invariant in
    let rs = c.loop-count.records.items in (
      λ v text start records fits. record {
        progress = _;
        ahead = _;
        fits = inv.after v text start records fits;
        ends = rw c.in-Ok-None.field-0-is at (c.in-Ok-None.ensures.next v text start (records ++ rs) (inv.after v text start records fits)).0;
      },
      inv.count,
      record { most = inv.most; bytes = inv.few; full = record {} },
    )

pub returns-in-Err-clause-batch : goal.returns-in-Err-clause-batch
returns-in-Err-clause-batch g c =
    let inv = c.loop-count.invariant in
    let rs = c.loop-count.records.items in (
      λ v text start records fits. record {
        progress = _;
        ahead = _;
        fits = inv.after v text start records fits;
        ends = c.in-Err.ensures.next v text start (records ++ rs) (inv.after v text start records fits);
      },
      inv.count,
      record { most = inv.most; bytes = inv.few; full = record {} },
    )

pub loop-count-preserved : goal.loop-count-preserved
loop-count-preserved g c =
    let inv = c.loop-count.invariant in
    let rs = c.loop-count.records.items in
    let r = c.in-Ok-Some.next in
    let added = c.in_ok-push.ensures in
    let read = c.in-Ok-Some.ensures in
    let given = rw c.in-Ok-Some.field-0-is at read.given in
    let capacity = given.capacity in
    let small = one_size c.loop-count.capture.progress.version r given.limits in
    let count = count_push rs r in
    let bytes = sizes_push rs r in
    let few = c.if-bytes-lt-ENOUGH_BYTES.true in
    let before = inv.capacity in
    record {
      after = λ v text start records fits.
          rw (added.items, ← append_assoc records rs (r ∷ []))
          (gave_some v text _ start (records ++ rs) _ _ r c.in-Ok-Some.field-0-is (read.next v text start (records ++ rs) (inv.after v text start records fits)).0);
      count = rw added.items (omega (arith, c.pieces_in-count.ensures, count, inv.count));
      bytes = rw added.items (omega (arith, c.saturating_add-bytes.ensures, c.size.ensures, bytes, inv.bytes, few, small));
      most = rw added.items (omega (arith, c.loop-count-test.true, count, one_piece r, inv.count));
      few = rw added.items (omega (arith, bytes, inv.bytes, few, small));
      stage = rw c.in-Ok-Some.field-0-is at read.stands.0.stage;
      capacity = omega (arith, capacity, before, c.pieces_in-count.ensures, one_piece r);
      failures = read.count ∙ inv.failures;
      loan = read.stands.1 ∙ inv.loan;
      less = inr (omega (arith, capacity, before));
    }

pub returns-clause-batch : goal.returns-clause-batch
returns-clause-batch g c =
    let inv = c.loop-count.invariant in
    let rs = c.loop-count.records.items in
    let full : (c.args.pieces ≤ piece_count rs) ⊎ (enough_bytes ≤ sizes_of rs) =
    elim c.loop-count-test.branch [
      | then-loop-count-test+else-bytes-lt-ENOUGH_BYTES w ↦
          inr (let enough = w.if-bytes-lt-ENOUGH_BYTES.false in omega (arith, enough, inv.bytes))
      | else-loop-count-test w ↦ inl (let all = w.loop-count-test.false in omega (arith, all, inv.count))
    ] in (
      λ v text start records fits. record { progress = _; ahead = _; fits = inv.after v text start records fits; ends = inv.after v text start records fits },
      inv.count,
      record { most = inv.most; bytes = inv.few; full = full },
    )

pub returns-in_err-push-clause-lacks : goal.returns-in_err-push-clause-lacks
returns-in_err-push-clause-lacks g c =
    let inv = c.loop-count.invariant in
    let rs = c.loop-count.records.items in
    let r = c.in-Ok-Some.next in
    always_on_err c.from_residual.result (
      rs,
      r,
      λ v text start records fits.
          gave_some v text _ start (records ++ rs) _ _ r c.in-Ok-Some.field-0-is (c.in-Ok-Some.ensures.next v text start (records ++ rs) (inv.after v text start records fits)).0,
    )
