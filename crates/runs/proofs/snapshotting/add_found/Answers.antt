use Rattle.std.proofs.Common.{Ok}
use Rattle.runs.specs.Folders.{name_of}
use Rattle.runs.proofs.FoldersTaken.{found_ok, found_err, none_of}
use Rattle.runs.proofs.snapshotting.add_found.Goals as goal

pub returns-in-Ok-clause-ok : goal.returns-in-Ok-clause-ok
returns-in-Ok-clause-ok g c =
    let says : g.F.Folder.answers c.args.folder.now (name_of c.args.found.now) (Ok c.in-Ok.contents) = rw (← c.as_str.ensures.value, ← c.in-Ok.is) c.in_ok-contents.ensures in
    λ files before took.
    found_ok (g.F.Folder.answers c.args.folder.now) files before c.args.found.now c.in-Ok.contents c.add_file.result c.add_file.new.output.bytes c.add_file.new.writer (none_of _ _ c.is_some.ensures c.if-is_some.false) says (rw c.as_str-in-Ok.ensures.value at c.add_file.ensures.ok files before took)

pub returns-in-Ok-clause-fault : goal.returns-in-Ok-clause-fault
returns-in-Ok-clause-fault g c =
    let says : g.F.Folder.answers c.args.folder.now (name_of c.args.found.now) (Ok c.in-Ok.contents) = rw (← c.as_str.ensures.value, ← c.in-Ok.is) c.in_ok-contents.ensures in
    λ files before took.
    found_err (g.F.Folder.answers c.args.folder.now) files before c.args.found.now c.in-Ok.contents c.add_file.result c.add_file.new.output.bytes (none_of _ _ c.is_some.ensures c.if-is_some.false) says (rw c.as_str-in-Ok.ensures.value at c.add_file.ensures.fault files before took)
