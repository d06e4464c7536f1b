use Rattle.std.proofs.Common.{◌≡◌, Some, None, Ok, Err, refl, sym, ◌∙◌}
use Rattle.toml.specs.Data.{Data, Members, get_member, as_table}
use Rattle.toml.specs.View.{view, table_view}
use Rattle.toml.proofs.Views.{table_get}
use Rattle.settings.specs.declared.keys.Key.{Key}
use Rattle.settings.specs.Keys.{name_of, table_of}
use Rattle.settings.specs.ConfigFaults.{shape}
use Rattle.settings.specs.Documents.{value_at}
use Rattle.settings.proofs.document.value_at.Goals as goal

nothing_there : (document : Members) (key : Key) → get_member (name_of (table_of key)) document ≡ None → value_at document key ≡ Ok None
nothing_there document key none = rw none refl

no_table : (document : Members) (key : Key) (d : Data) → get_member (name_of (table_of key)) document ≡ Some d → as_table d ≡ None
    → value_at document key ≡ Err (shape (table_of key))
no_table document key d there none = rw (there, none) refl

in_table : (document : Members) (key : Key) (d : Data) (ms : Members) → get_member (name_of (table_of key)) document ≡ Some d
    → as_table d ≡ Some ms → value_at document key ≡ Ok (get_member (name_of key) ms)
in_table document key d ms there some = rw (there, some) refl

pub returns-in_default : goal.returns-in_default
returns-in_default c =
    let found = table_get c.get.result c.name.result.now c.args.document.now.entries c.get.ensures.value in
    let name : c.name.result.now ≡ name_of (table_of c.args.key) = rw c.table-holder.ensures at c.name.ensures.name in
    nothing_there _ c.args.key (sym (rw (c.in_default.is, name) at found))

pub returns-in-None : goal.returns-in-None
returns-in-None c =
    let found = table_get c.get.result c.name.result.now c.args.document.now.entries c.get.ensures.value in
    let name : c.name.result.now ≡ name_of (table_of c.args.key) = rw c.table-holder.ensures at c.name.ensures.name in
    let none : as_table (view c.in-Some.value.now) ≡ None = sym (rw c.in-None.is at c.as_table.ensures) in
    rw (c.shape.ensures, c.table-holder.ensures) (no_table _ c.args.key _ (sym (rw (c.in-Some.is, name) at found)) none)

pub returns-in-Some-as_table : goal.returns-in-Some-as_table
returns-in-Some-as_table c =
    let found = table_get c.get.result c.name.result.now c.args.document.now.entries c.get.ensures.value in
    let name : c.name.result.now ≡ name_of (table_of c.args.key) = rw c.table-holder.ensures at c.name.ensures.name in
    let some : as_table (view c.in-Some.value.now) ≡ Some (table_view c.in-Some-as_table.table.now) = sym (rw c.in-Some-as_table.is at c.as_table.ensures) in
    let inner = table_get c.get-in-Some-as_table.result c.name-in-Some-as_table.result.now c.in-Some-as_table.table.now.entries c.get-in-Some-as_table.ensures.value in
    in_table _ c.args.key _ _ (sym (rw (c.in-Some.is, name) at found)) some ∙ rw (inner, c.name-in-Some-as_table.ensures.name) refl
