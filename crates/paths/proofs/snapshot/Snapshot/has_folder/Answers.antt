use Rattle.std.proofs.Common.{◌≡◌, ◌≤◌, length, false, nat_lt, sym, ◌∙◌, arith}
use Rattle.std.proofs.lemmas.Bool.Decides.{nat_tests}
use Rattle.paths.proofs.Names.{folder_named, folder_tested, folder_missing}
use Rattle.paths.proofs.snapshot.Snapshot.has_folder.Goals as goal

pub returns-in-Ok : goal.returns-in-Ok
returns-in-Ok c = λ folder is. folder_named _ folder _ _ c.in-Ok.ensures is

pub returns-then-place-len : goal.returns-then-place-len
returns-then-place-len c = λ folder is. folder_tested _ c.len.ensures.rules.rising folder _ _ _ _ c.in-Err.ensures (omega (arith, c.len.ensures.count)) is c.name.ensures c.starts_with.ensures.value

pub returns-else-place-len : goal.returns-else-place-len
returns-else-place-len c = λ folder is.
    let past : length c.args.self.now ≤ c.in-Err.place = omega (arith, c.len.ensures.count) in
    let none : nat_lt c.in-Err.place c.len.result ≡ false = grind (arith, nat_tests) in
    none ∙ sym (folder_missing _ folder _ _ c.in-Err.ensures past is)
