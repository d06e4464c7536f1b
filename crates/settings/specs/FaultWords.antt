-- What is said in words of a fault of the settings.
use Rattle.std.specs.Prelude.{ℕ, ◌==◌, ◌-◌, ◌&&◌, Bool, not, List, [], ◌∷◌, ◌++◌, length}
use Rattle.std.specs.Prelude.{Option, Some, None, codes, bytes_eq, nat_eq, nat_le, nat_lt, if◌then◌else◌}
use Rattle.std.specs.Str.{chars}
use Rattle.strsim.specs.Edits.{levenshtein_row}
use Rattle.toml.specs.Data.{Members}
use Rattle.settings.specs.declared.keys.Key.{Key}
use Rattle.settings.specs.declared.keys.Key.TheVariants as keys
use Rattle.settings.specs.declared.config_fault.ConfigFault.{ConfigFault}
use Rattle.settings.specs.declared.config_fault.ConfigFaultKind.{ConfigFaultKind}
use Rattle.settings.specs.declared.config_fault.ConfigFaultKind.TheVariants.{Text, Unknown, Shape, Range}
use Rattle.settings.specs.Keys.{KeyKind, Table, Tables, Text as OwnText, Numbers, Lists, row_of, all_keys, is_table}
use Rattle.settings.specs.Keys.{name_of, path_of, table_of}
use Rattle.settings.specs.Documents.{Misplaced, misplaced_in}
use Rattle.settings.specs.SettingsTable.{document_of}

-- ---- the key that a wrong one is nearest to

-- how many characters have to be put in, taken out or changed for the name of this key
abbrev pub edits : List ℕ → Key → ℕ
edits name key = levenshtein_row nat_eq (chars name) (chars (name_of key)) (length (chars (name_of key)))

-- a key may stand there: a table in the document, a key in its table
abbrev pub fits_in : Option Key → Key → Bool
fits_in None key = is_table key
fits_in (Some holder) key = not (is_table key) && bytes_eq (name_of (table_of key)) (name_of holder)

-- the name of a key is longer: of as many edits more of it is kept
abbrev pub is_longer : Key → Key → Bool
is_longer key other = nat_lt (length (name_of other)) (length (name_of key))

-- a key is closer to a name than another: by fewer edits, and of as many the one with the longer name
abbrev pub is_closer : List ℕ → Key → Key → Bool
is_closer name key other =
    if edits name key == edits name other then is_longer key other else nat_lt (edits name key) (edits name other)

-- a key that may stand there is nearer than one that may not, unless that takes two edits fewer
abbrev pub is_nearer : Misplaced → Key → Key → Bool
is_nearer (within, name) key other =
    if fits_in within key then
    (if fits_in within other then is_closer name key other else nat_le (edits name key - 1) (edits name other))
    else
    (if fits_in within other then nat_lt (edits name key) (edits name other - 1) else is_closer name key other)

-- the nearest of these keys and one before them, the first of equals
unfoldable pub nearest_among : Misplaced → Key → List Key → Key
nearest_among m best [] = best
nearest_among m best (key ∷ more) = nearest_among m (if is_nearer m key best then key else best) more

-- the key that is nearest to a name; below a key that is no table there is none, and it is that key
unfoldable pub nearest_key : Misplaced → Key
nearest_key (Some holder, name) =
    if is_table holder then nearest_among (Some holder, name) keys.Floor all_keys else holder
nearest_key (None, name) = nearest_among (None, name) keys.Floor all_keys

-- where the name stands in the document
abbrev pub place_of : Misplaced → List ℕ
place_of (None, name) = name
place_of (Some holder, name) = path_of holder ++ codes "." ++ name

-- what is said of it
unfoldable pub misplaced_text : Misplaced → List ℕ
misplaced_text m = place_of m ++ codes " is no key of the settings; the nearest is " ++ path_of (nearest_key m)

abbrev pub misplaced_words : Option Misplaced → List ℕ
misplaced_words None = []
misplaced_words (Some m) = misplaced_text m

-- ---- what is to stand at a key

-- what kind of value
abbrev pub kind_words : KeyKind → List ℕ
kind_words Table = codes "a table"
kind_words Tables = codes "a list of tables: "
kind_words OwnText = codes "a text: "
kind_words (Numbers default) = codes "a list of integers: "
kind_words other = codes "an integer: "

-- what is to stand at one key, with what is said of it
unfoldable pub value_words : Key → List ℕ
value_words key =
    path_of key ++ codes " is to be " ++ kind_words (row_of key).kind ++ (row_of key).comment ++ (row_of key).scale

-- the three lists of a floor, which don't fit together
unfoldable pub lists_words : Key → Key → Key → List ℕ
lists_words cuts workers capacities =
    value_words cuts ++ codes "; " ++ value_words workers ++ codes "; " ++ value_words capacities
    ++ codes "; and the three of one length"

abbrev pub key_words_as : Key → KeyKind → List ℕ
key_words_as key (Lists cuts workers capacities) = lists_words cuts workers capacities
key_words_as key other = value_words key

-- what is said of a key at which something else stands
abbrev pub key_words : Key → List ℕ
key_words key = key_words_as key (row_of key).kind

-- ---- what is said of a fault

abbrev pub text_words : List ℕ → List ℕ
text_words bytes =
    if nat_le (length bytes) 65536 then codes "the settings are no TOML document"
    else codes "the settings have more than 65536 bytes"

abbrev pub document_words : Option Members → List ℕ
document_words None = []
document_words (Some document) = misplaced_words (misplaced_in document None)

-- nothing of one that isn't the document's
abbrev pub words_of : ConfigFaultKind → Option Key → List ℕ → List ℕ
words_of Text key bytes = text_words bytes
words_of Unknown key bytes = document_words (document_of bytes)
words_of Shape (Some key) bytes = key_words key
words_of Range (Some key) bytes = key_words key
words_of other key bytes = []

abbrev pub fault_words : List ℕ → ConfigFault → List ℕ
fault_words bytes fault = words_of fault.kind fault.key bytes
