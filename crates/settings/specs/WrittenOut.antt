-- The document that writes settings out: each key that a document may have, below a comment.
use Rattle.std.specs.Prelude.{◌≡◌, ℕ, ◌+◌, ◌/◌, ◌%◌, ◌==◌, ◌||◌, nat_lt, List, [], ◌∷◌, ◌++◌, Option, Some, None}
use Rattle.std.specs.Prelude.{Result, Ok, Err, codes, decimal, encode_utf8, flat_map, if◌then◌else◌}
use Rattle.std.specs.Result.{result_unwrap_or}
use Rattle.std.specs.Str.{chars}
use Rattle.toml.specs.Data.{Data, string, array, Items, no_items, item, Members, get_member, as_table}
use Rattle.reference.specs.Reference.{Choice}
use Rattle.settings.specs.declared.keys.Key.{Key}
use Rattle.settings.specs.declared.keys.Key.TheVariants as keys
use Rattle.settings.specs.declared.config_fault.ConfigFault.{ConfigFault}
use Rattle.settings.specs.Keys.{KeyKind, Table, Number, Numbers, row_of, all_keys, name_of}
use Rattle.settings.specs.ConfigFaults.{no_text}
use Rattle.settings.specs.Documents.{◌>>=◌, number_in, numbers_in}
use Rattle.settings.specs.Pools.{each_number}
use Rattle.settings.specs.SettingsTable.{document_of, settings_of, settings_read}

-- a list of numbers, as `[1, 2, 3]`
abbrev pub list_text : List ℕ → List ℕ
list_text [] = codes "[]"
list_text (n ∷ ns) = codes "[" ++ decimal n ++ flat_map (λ m. codes ", " ++ decimal m) ns ++ codes "]"

abbrev pub value_text_as : Members → Key → KeyKind → List ℕ
value_text_as document key (Number default least greatest) = decimal (number_in document key)
value_text_as document key (Numbers default) = list_text (numbers_in document key)
value_text_as document key other = []

-- the value of a key
abbrev pub value_text : Members → Key → List ℕ
value_text document key = value_text_as document key (row_of key).kind

-- a key below its comment, with this value
abbrev pub key_text : Key → List ℕ → List ℕ
key_text key value =
    codes "# " ++ (row_of key).comment ++ codes "\n" ++ name_of key ++ codes " = " ++ value ++ codes "\n"

abbrev pub row_text_as : Members → Key → KeyKind → List ℕ
row_text_as document key Table = codes "\n[" ++ name_of key ++ codes "]\n"
row_text_as document key (Number default least greatest) = key_text key (value_text document key)
row_text_as document key (Numbers default) = key_text key (value_text document key)
row_text_as document key other = []

-- a table's line, or a key with its value; nothing of a list of tables
unfoldable pub row_text : Members → Key → List ℕ
row_text document key = row_text_as document key (row_of key).kind

-- all tables and keys that a document may have, but for its lists of tables
unfoldable pub document_text : Members → List ℕ
document_text document =
    codes "# Each key with the value that is in force, below its unit, its range and its meaning.\n"
    ++ flat_map (row_text document) all_keys

-- ---- the pools and the routes

-- the sign of a hexadecimal digit
abbrev pub hexadecimal : ℕ → ℕ
hexadecimal n = if nat_lt n 10 then 48 + n else 87 + n

-- A character of a text between quotes, as TOML writes it: a quote (34) and a backslash (92) after a backslash, and a
-- control character by its number.
abbrev pub quoted_char : ℕ → List ℕ
quoted_char c =
    if c == 34 || c == 92 then 92 ∷ encode_utf8 c
    else if nat_lt c 32 || c == 127
    then codes "\\u00" ++ encode_utf8 (hexadecimal (c / 16)) ++ encode_utf8 (hexadecimal (c % 16))
    else encode_utf8 c

-- a text between quotes
abbrev pub quoted : List ℕ → List ℕ
quoted text = codes "\"" ++ flat_map quoted_char (chars text) ++ codes "\""

-- the text that a value is
abbrev pub text_in : Option Data → List ℕ
text_in (Some (string text)) = text
text_in other = []

-- a text at a key of a table
abbrev pub own_text : Members → Key → List ℕ
own_text table key = key_text key (quoted (text_in (get_member (name_of key) table)))

-- an integer at a key of a table
abbrev pub own_number : Members → Key → Option ℕ → List ℕ
own_number table key default = key_text key (decimal (result_unwrap_or (each_number table key default) 0))

-- a pool
unfoldable pub pool_text : Members → List ℕ
pool_text table =
    codes "\n[[" ++ name_of keys.Pool ++ codes "]]\n" ++ own_text table keys.PoolName
    ++ own_number table keys.PoolServers None

-- the pool that a route names, if it names one
abbrev pub text_if_there : Members → Option Data → List ℕ
text_if_there table None = []
text_if_there table (Some d) = own_text table keys.RoutePool

unfoldable pub named_text : Members → List ℕ
named_text table = text_if_there table (get_member (name_of keys.RoutePool) table)

-- the integers of a route
unfoldable pub numbers_text : ℕ → Members → List ℕ
numbers_text delay table =
    own_number table keys.RouteCost None
    ++ own_number table keys.RouteKib (Some 0)
    ++ own_number table keys.RouteDelay (Some delay)

-- A route with all its keys. What it leaves out is written as it counts, but for a pool.
unfoldable pub route_text : ℕ → Members → List ℕ
route_text delay table =
    codes "\n[[" ++ name_of keys.Route ++ codes "]]\n" ++ own_text table keys.RoutePrefix
    ++ numbers_text delay table ++ named_text table

-- a pool or a route, by the list's key
abbrev pub table_text : Key → ℕ → Members → List ℕ
table_text keys.Pool delay table = pool_text table
table_text other delay table = route_text delay table

abbrev pub item_text : Key → ℕ → Option Members → List ℕ
item_text list delay None = []
item_text list delay (Some table) = table_text list delay table

abbrev pub items_text : Key → ℕ → Items → List ℕ
items_text list delay no_items = []
items_text list delay (item d ds) = item_text list delay (as_table d) ++ items_text list delay ds

abbrev pub list_text_of : Key → ℕ → Option Data → List ℕ
list_text_of list delay (Some (array ds)) = items_text list delay ds
list_text_of list delay other = []

-- the pools or the routes of a document, in their order
unfoldable pub tables_text : Members → Key → List ℕ
tables_text document list = list_text_of list (number_in document keys.Delay) (get_member (name_of list) document)

-- all tables and keys of a document, and then its pools and its routes
abbrev pub whole_text : Members → List ℕ
whole_text document = document_text document ++ tables_text document keys.Pool ++ tables_text document keys.Route

-- the settings of a document written out, where it has no fault, or its first one
abbrev pub text_of : Members → Result (List ℕ) ConfigFault
text_of document = settings_of document >>= (λ choice. Ok (whole_text document))

abbrev pub text_or_no_text : Option Members → Result (List ℕ) ConfigFault
text_or_no_text None = Err no_text
text_or_no_text (Some document) = text_of document

-- the settings of a text written out, or its first fault
abbrev pub settings_text : List ℕ → Result (List ℕ) ConfigFault
settings_text bytes = text_or_no_text (document_of bytes)

-- the bytes are the text of settings
abbrev pub AreSettings : List ℕ → Type 0
AreSettings bytes = (choice : Choice) × (settings_read bytes ≡ Ok choice)
