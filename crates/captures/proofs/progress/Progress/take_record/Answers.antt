use Rattle.std.proofs.Common.{Option, IfSome, ◌≡◌, ◌+◌, refl, subst, length, arith, rules}
use Rattle.captures.specs.Captures.{Follows}
use Rattle.captures.specs.Readers.{seen}
use Rattle.captures.specs.declared.record.Record.{Record as ARecord}
use Rattle.captures.proofs.Fitting.{fits_goes_on, fits_ends, fits_faults, fits_has_room, fits_at}
use Rattle.captures.proofs.progress.Progress.take_record.Goals as goal
use Rattle.captures.proofs.PartLemmas.{fits_fails}

pub returns-in-Some-clause-next : goal.returns-in-Some-clause-next
returns-in-Some-clause-next g c = λ v text start records f.
    let follows = subst (λ (o : Option ARecord). IfSome o (Follows c.args.self.now.version (seen c.args.self.now.so_far))) c.in-Ok-Some.field-0-is c.in-Ok-Some.ensures.fits in
    (fits_goes_on v text _ _ start records c.args.self.now _ _ _ c.in-Ok-Some.field-0-is f follows c.in-Some.ensures.some c.add.ensures refl refl refl c.in-Ok-Some.ensures.record, record {})

pub returns-in-None-clause-next : goal.returns-in-None-clause-next
returns-in-None-clause-next g c = λ v text start records f.
    let here = fits_at v text _ start records c.args.self.now f in
    let at : c.saturating_add-at.result ≡ length records + 1 = let sum = c.saturating_add-at.ensures in let count = here.0 in let most = here.1 in omega arith in
    rw c.fail.ensures.fault ((at, λ k _. absurd (fits_has_room v text _ _ start _ records c.args.self.now _ _ c.in-Ok-Some.field-0-is f c.in-None.ensures.none c.in-Ok-Some.ensures.record k)), search rules)

pub returns-in-Ok-None-clause-next : goal.returns-in-Ok-None-clause-next
returns-in-Ok-None-clause-next g c = λ v text start records f.
    (λ k. fits_ends v text _ _ start _ records c.args.self.now _ c.in-Ok-None.field-0-is f c.in-Ok-None.ensures.record k, record {})

pub returns-in-Err-clause-next : goal.returns-in-Err-clause-next
returns-in-Err-clause-next g c = λ v text start records f.
    let here = fits_at v text _ start records c.args.self.now f in
    let at : c.saturating_add-at.result ≡ length records + 1 = let sum = c.saturating_add-at.ensures in let count = here.0 in let most = here.1 in omega arith in
    rw c.fail-in-Err.ensures.fault ((at, fits_faults v text _ start _ records c.args.self.now _ at f c.in-Err.ensures.record), λ failed k. fits_fails v text _ _ start _ records c.args.self.now f (c.in-Err.ensures.part failed) k)
