use Rattle.std.proofs.Common.{◌≡◌, ℕ, [], refl, sym, ◌∙◌, subst}
use Rattle.http_requests.specs.Alone.{shifted}
use Rattle.http_requests.specs.Cutting.{Fed}
use Rattle.arrivals.specs.Gathering.{read_of}
use Rattle.arrivals.proofs.CutBatches.{read_is}
use Rattle.arrivals.proofs.Reading.{fits_silent, read_open}
use Rattle.arrivals.proofs.connections.Connection.pass.Goals as goal

pub returns-in-Silent : goal.returns-in-Silent
returns-in-Silent c = λ piece ms len all text sofar h.
    let fits = fits_silent c.new-cutter.result text sofar c.new-cutter.ensures.fits (rw c.in-Silent.is at h) in
    let read : c.new-cutter.result.read ≡ read_of c.args.self.now = fits.read ∙ sym (read_is c.args.self.now text sofar c.requires.between h) in
    read_open c.pass.new.self text piece sofar [] (shifted (read_of c.args.self.now) ms) refl
    (subst (λ (n : ℕ). Fed text sofar c.pass.new.self piece [] (shifted n ms)) read (c.pass.ensures.fed piece ms len all text sofar fits))

pub returns-in-Open : goal.returns-in-Open
returns-in-Open c = λ piece ms len all text sofar h.
    let fits = rw c.in-Open.is at h in
    let read : c.in-Open.cutter.read ≡ read_of c.args.self.now = fits.read ∙ sym (read_is c.args.self.now text sofar c.requires.between h) in
    read_open c.pass-in-Open.new.self text piece sofar [] (shifted (read_of c.args.self.now) ms) refl
    (subst (λ (n : ℕ). Fed text sofar c.pass-in-Open.new.self piece [] (shifted n ms)) read (c.pass-in-Open.ensures.fed piece ms len all text sofar fits))
