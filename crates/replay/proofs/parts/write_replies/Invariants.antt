use Rattle.std.proofs.Common.{◌≡◌, take}
use Rattle.std.specs.Prelude.{flat_map}
use Rattle.std.specs.Io.KnownBytes.{Appends}
use Rattle.responses.specs.Reference.{record_text}
use Rattle.replay.proofs.parts.write_replies.Given as goal

-- the replies so far are written
abbrev pub invariant-loop-reply : goal.invariant-loop-reply
invariant-loop-reply g l = Appends l.fn.writer.bytes l.writer.bytes (flat_map record_text (take l.reply-index l.replies)) × (l.writer.failures ≡ l.fn.writer.failures)
