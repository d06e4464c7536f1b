use Rattle.std.proofs.Common.{◌+◌, sym, ap}
use Rattle.http_requests.specs.Cutting.{progress}
use Rattle.http_requests.proofs.AloneLemmas.{passes}
use Rattle.http_requests.proofs.cutting.Cutter.pass.Goals as goal

pub returns-clause-fed : goal.returns-clause-fed
returns-clause-fed c =
    let between = rw (← c.self.view_is) at c.requires.between in
    rw (← c.self.view_is) (λ piece ms len all past sofar fits.
    passes (progress c.self.inside.state) _ piece ms between between (ap (λ n. c.self.inside.state.read + n) (sym len)) all past sofar fits)
