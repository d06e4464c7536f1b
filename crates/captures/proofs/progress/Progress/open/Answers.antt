use Rattle.std.proofs.Common.{arith}
use Rattle.captures.proofs.Fitting.{fits_begins}
use Rattle.captures.proofs.progress.Progress.open.Goals as goal

pub returns-in-Ok-clause-ok : goal.returns-in-Ok-clause-ok
returns-in-Ok-clause-ok g c =
    let less = c.saturating_sub-in-Ok.ensures in
    let rest = c.saturating_sub.ensures in
    record {
      after = fits_begins _ _ _ _ _ _ _ _ c.row-most.ensures.max_text_bytes (omega (arith, less, rest)) (c.new.ensures c.in-Ok.version) c.in-Ok.ensures.limit c.in-Ok.ensures.line;
      count = c.in-Ok.ensures.count;
    }

pub returns-in-Err-clause-failed : goal.returns-in-Err-clause-failed
returns-in-Err-clause-failed g c = λ failed k.
    let took = c.in-Err.ensures.part failed k in
    (took.part, record { taken = took.bytes; size = let left = took.count in omega arith; cut = took.holds })
