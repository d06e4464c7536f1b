use Rattle.std.proofs.Common.{sym, ◌∙◌, arith}
use Rattle.http_requests.specs.Cutting.{progress}
use Rattle.http_requests.proofs.CutLemmas.{took_begins, took_body, sound_body}
use Rattle.http_requests.proofs.cutting.State.cut.Goals as goal

pub returns-in_ok-enter-in-Body-clause-ok : goal.returns-in_ok-enter-in-Body-clause-ok
returns-in_ok-enter-in-Body-clause-ok c =
    let before = progress c.args.self.now in
    let m = c.min-n.ensures in
    let some = c.requires.some in
    let stage = sym c.replace.ensures.value ∙ c.in-Body.is in
    let left = (sound_body before c.in-Body.what c.in-Body.left stage c.requires.sound).0 in
    took_body before (progress c.enter.new.self) c.args.text.now c.in-Body.what c.in-Body.left c.min-n.result c.args.out.now.items _ stage
    (grind (arith, m)) (grind (arith, m)) (grind (arith, m, some, left))
    c.in_ok-enter-in-Body.ensures.sound c.in_ok-enter-in-Body.ensures.live c.in_ok-enter-in-Body.ensures.read c.in_ok-enter-in-Body.ensures.enters

pub returns-in_ok-enter-in-Some-clause-ok : goal.returns-in_ok-enter-in-Some-clause-ok
returns-in_ok-enter-in-Some-clause-ok c =
    let before = progress c.args.self.now in
    let stage = sym c.replace.ensures.value ∙ c.in-Seeking.is in
    let e = c.in_ok-enter-in-Some.ensures in
    took_begins before (progress c.enter-in-Some.new.self) c.args.text.now c.in_ok-n-in-Seeking.n c.in-Some.field-0 c.args.out.now.items _ stage c.requires.sound
    (rw c.in-Some.is at c.in_ok-n-in-Seeking.ensures.begins) e.sound e.live e.read e.enters
