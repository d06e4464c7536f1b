use Rattle.std.proofs.Common.{◌≡◌, ◌≤◌, length, vec_len, vec_capacity}
use Rattle.runs.proofs.FoldersTaken.{Stands}
use Rattle.runs.proofs.snapshotting.run_snapshot.Given as goal

abbrev pub invariant-loop-one : goal.invariant-loop-one
invariant-loop-one g l =
    Stands (g.F.Folder.answers l.folder) l.found l.one-index l.skip l.reasons.items l.fn.output.bytes l.output.bytes l.writer × (l.output.failures ≡ l.fn.output.failures)
    × (vec_len l.reasons ≡ l.one-index) × (length l.found ≤ vec_capacity l.reasons)
