use Rattle.std.proofs.Common.{◌≡◌, subst, List, ℕ, ◌<◌, ◌++◌, codes, length, take}
use Rattle.std.specs.Io.KnownBytes.{Appends}
use Rattle.devices.proofs.Appending.{writes_proper_then, proper_first}
use Rattle.devices.specs.Devices.{WritesProperPrefix}
use Rattle.faults.specs.FaultLines.{text_of, reported_file, named_line_of}
use Rattle.faults.proofs.LineWrites.{line_parts}
use Rattle.faults.proofs.fault_line.write_named.Goals as goal

pub returns-in-Ok-clause-line : goal.returns-in-Ok-clause-line
returns-in-Ok-clause-line g c =
    let name = c.args.fault.now.name.items in
    let line : c.as_slice.result.now ++ (c.deref.result.now ++ codes "\n") ≡ named_line_of (reported_file c.args.fault.now.fault) name =
    rw (c.as_slice.ensures.value, c.file_heading.ensures, c.deref.ensures.value) (line_parts (text_of (reported_file c.args.fault.now.fault)) name) in
    subst (λ (w : List ℕ). WritesProperPrefix c.args.writer.now.bytes c.write_both.new.self.bytes c.write_both.result w) line (writes_proper_then _ _ _ _ _ _ c.in-Ok.ensures.prefix c.write_both.ensures.prefix)

pub returns-in-Err-clause-line : goal.returns-in-Err-clause-line
returns-in-Err-clause-line g c =
    let name = c.args.fault.now.name.items in
    let line : c.as_slice.result.now ++ (name ++ codes "\n") ≡ named_line_of (reported_file c.args.fault.now.fault) name =
    rw (c.as_slice.ensures.value, c.file_heading.ensures) (line_parts (text_of (reported_file c.args.fault.now.fault)) name) in
    subst (λ (w : List ℕ). (n : ℕ) × (n < length w) × Appends c.args.writer.now.bytes c.write_all.new.self.bytes (take n w)) line (proper_first _ _ _ _ c.in-Err.ensures.prefix)
