use Rattle.std.proofs.Common.{◌≡◌, ◌+◌, ◌-◌, arith}
use Rattle.http_requests.proofs.EndLemmas.{no_end_before, slice_len}
use Rattle.http_requests.proofs.scanning.next_feed.Goals as goal

pub returns-in-Some-clause-none : goal.returns-in-Some-clause-none
returns-in-Some-clause-none c =
    let s = c.args.s.now in
    let f = c.in-Some.ensures.0 in
    let len = slice_len s c.args.at c.args.last c.requires.ordered c.requires.within in
    let high = f.high in
    let o = c.requires.ordered in
    let here : c.args.at + 0 ≡ c.args.at = omega arith in
    no_end_before s c.args.at c.args.last 0 c.in-Some.found (omega (arith, len, high, o)) c.requires.within (rw here c.requires.none) f.before

pub returns-in-None-clause-none : goal.returns-in-None-clause-none
returns-in-None-clause-none c =
    let s = c.args.s.now in
    let o = c.requires.ordered in
    let len = slice_len s c.args.at c.args.last o c.requires.within in
    let rest = c.args.last - c.args.at in
    let end : c.args.at + rest ≡ c.args.last = omega (arith, o) in
    let here : c.args.at + 0 ≡ c.args.at = omega arith in
    rw end at (no_end_before s c.args.at c.args.last 0 rest (omega (arith, o)) c.requires.within (rw here c.requires.none) (λ k low below. c.in-None.ensures k low (rw len below)))
