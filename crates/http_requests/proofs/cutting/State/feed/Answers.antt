use Rattle.std.proofs.Common.{refl, arith, length-drop}
use Rattle.std.proofs.lemmas.Result.{err_from_is_err_and}
use Rattle.http_requests.specs.Cutting.{progress}
use Rattle.http_requests.proofs.CutLemmas.{cuts_fed, cuts_some, cuts_then, took_rest, tail_is, sound_failed}
use Rattle.http_requests.proofs.cutting.State.feed.Goals as goal

pub returns : goal.returns
returns c =
    let i = c.loop-at.invariant in
    let q = i.read in
    let end = c.loop-at-test.false in
    let w = i.within in
    record {
      ok = cuts_fed (progress c.args.self.now) (progress c.loop-at.self) c.args.piece.now c.loop-at.at c.args.out.now.items c.loop-at.out.items c.loop-at-test.false
          i.within i.sound i.live i.read i.cuts;
      some = tt;
      failed = λ e. absurd (c.in_default.not-Failed e);
      out = λ e. absurd (c.in_default.not-Failed e);
      err = tt;
      read = omega (arith, q, end, w);
      most = tt;
      sound = i.sound;
    }

pub loop-at-preserved : goal.loop-at-preserved
loop-at-preserved c =
    let i = c.loop-at.invariant in
    let t = rw (tail_is c.args.piece.now c.loop-at.at) at c.in_ok-at.ensures.ok in
    let w = took_rest c.args.piece.now c.loop-at.at c.in_ok-at.field-0 i.within t.within in
    let r = t.read in
    let q = i.read in
    record {
      within = w;
      sound = t.sound;
      live = t.live;
      read = omega (arith, r, q);
      cuts = cuts_then (progress c.args.self.now) (progress c.loop-at.self) (progress c.cut.new.self) c.args.piece.now c.loop-at.at c.in_ok-at.field-0 c.args.out.now.items c.loop-at.out.items c.cut.new.out.items
          i.within i.read i.cuts t;
    }

pub returns-in_err-at : goal.returns-in_err-at
returns-in_err-at c =
    let p = err_from_is_err_and c.from_residual.result c.from_residual.ensures.1 in
    let i = c.loop-at.invariant in
    let q = i.read in
    let w = i.within in
    let l = length-drop c.loop-at.at c.args.piece.now in
    let r = rw (tail_is c.args.piece.now c.loop-at.at) at c.in_err-at.ensures.read in
    rw p.1 (record {
      ok = tt;
      some = rw c.in_err-at.ensures.out (cuts_some (progress c.args.self.now) (progress c.loop-at.self) c.args.piece.now c.loop-at.at c.args.out.now.items c.loop-at.out.items
          i.within i.sound i.live i.read i.cuts);
      failed = λ e. refl;
      out = λ e. absurd (c.in_default.not-Failed e);
      err = c.in_err-at.ensures.failed;
      read = tt;
      most = omega (arith, q, w, l, r);
      sound = sound_failed _ c.in_err-at.ensures.failed;
    })
