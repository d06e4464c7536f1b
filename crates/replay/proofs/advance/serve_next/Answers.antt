use Rattle.replay.proofs.advance.serve_next.Goals as goal

pub returns-clause-on : goal.returns-clause-on
returns-clause-on g c =
    let on = c.in_ok-next.ensures.on in
    (rw c.is_some.ensures on.0, rw c.is_some.ensures on.1)
