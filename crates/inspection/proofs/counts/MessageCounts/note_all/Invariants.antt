use Rattle.std.proofs.Common.{◌≡◌, ◌++◌, List, map, take}
use Rattle.http_requests.specs.declared.messages.Meaning.{Meaning}
use Rattle.inspection.specs.Figures.{messages_by_kind}
use Rattle.inspection.proofs.counts.MessageCounts.note_all.Given as goal

-- the messages so far are counted
abbrev pub invariant-loop-message : goal.invariant-loop-message
invariant-loop-message l =
    (whats : List Meaning) → l.fn.self ≡ messages_by_kind whats → l.self ≡ messages_by_kind (whats ++ map (λ m. m.what) (take l.message-index l.messages))
