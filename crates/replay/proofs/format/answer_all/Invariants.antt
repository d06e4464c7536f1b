use Rattle.std.proofs.Common.{◌≡◌, ℕ, ◌+◌, ◌≤◌, ◌++◌, List, take}
use Rattle.arrivals.specs.Reference.{Arrival}
use Rattle.arrivals.specs.Connections.{arrivals_with}
use Rattle.replay.specs.Serving.{DeciderAfter, SameCapture}
use Rattle.reference.specs.Texts.{Wrote}
use Rattle.replay.proofs.format.answer_all.Given as goal

-- the messages so far are answered
abbrev pub invariant-loop-message : goal.invariant-loop-message
invariant-loop-message g l =
    ((arrivals : List Arrival) (place id : ℕ) → DeciderAfter g.F.Tree.files l.server.served arrivals l.fn.decider
    → DeciderAfter g.F.Tree.files l.server.served (arrivals ++ arrivals_with place id l.origin (take l.message-index l.messages)) l.decider)
    × ((arrivals : List Arrival) (place id : ℕ) → DeciderAfter g.F.Tree.files l.server.served arrivals l.fn.decider
    → Wrote (g.T.Format.texts g.F.Tree.files l.server.served) l.fn.decider.start arrivals (arrivals_with place id l.origin (take l.message-index l.messages)) l.fn.writer.bytes l.writer.bytes)
    × SameCapture l.fn.decider l.decider × (l.decider.totals.answered ≡ l.fn.decider.totals.answered + l.message-index) × (l.writer.failures ≡ l.fn.writer.failures)
    × (l.decider.totals.answered ≤ l.decider.most)
