use Rattle.std.proofs.Common.{rules, arith}
use Rattle.devices.proofs.Limits.{took_within}
use Rattle.captures.proofs.PartLemmas.{read_is, header_fails}
use Rattle.captures.proofs.Lines.{start_limit}
use Rattle.captures.proofs.headings.read_header.Goals as goal

pub returns-in-Ok-clause-limit : goal.returns-in-Ok-clause-limit
returns-in-Ok-clause-limit g c = start_limit c.as_slice.result.now _ c.read_start.ensures

pub returns-in-Err : goal.returns-in-Err
returns-in-Err g c = record {
  line = search rules;
  part = λ failed k. header_fails _ _ _ _ (c.in-Err.ensures.part (read_is _ _ c.from.ensures failed) k);
  limit = search rules;
  count = search rules;
  memory = search rules;
  most = took_within _ 65 _ _ (omega arith) c.read_line.ensures.most;
}
