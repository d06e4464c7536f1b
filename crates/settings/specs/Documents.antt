-- What a settings document has at a key.
use Rattle.std.specs.Prelude.{ℕ, ◌&&◌, nat_le, List, [], ◌∷◌, Option, Some, None, Result, Ok, Err, ℤ, pos}
use Rattle.std.specs.Prelude.{negsuc, if◌then◌else◌}
use Rattle.std.specs.Option.{option_map_or, option_or}
use Rattle.std.specs.Result.{result_unwrap_or}
use Rattle.toml.specs.Data.{Data, integer, array, table, Items, no_items, item, Members, no_members, member, get_member}
use Rattle.toml.specs.Data.{as_table}
use Rattle.settings.specs.declared.keys.Key.{Key}
use Rattle.settings.specs.declared.keys.Key.TheVariants as keys
use Rattle.settings.specs.declared.keys.PolicyTable.TheVariants as tables
use Rattle.settings.specs.declared.config_fault.ConfigFault.{ConfigFault}
use Rattle.settings.specs.Keys.{KeyKind, Number, Numbers, row_of, name_of, table_of, key_at, default_of, defaults_of}
use Rattle.settings.specs.ConfigFaults.{shape, range}

infixl 10 ◌>>=◌
abbrev pub ◌>>=◌ : {A B : Type 0} → Result A ConfigFault → (A → Result B ConfigFault) → Result B ConfigFault
(Ok x) >>= f = f x
(Err e) >>= f = Err e

-- what stands where it may not: the key that holds it (none, in the document itself), and its name
abbrev pub Misplaced : Type 0
Misplaced = Option Key × List ℕ

-- The first key of the tables in a value that may not stand there, where the value stands at this key (or is the
-- document itself). A table's members come by their names; a list's items stand where the list stands.
abbrev mutual
  pub misplaced_of : Data → Option Key → Option Misplaced
  misplaced_of (array ds) within = misplaced_among ds within
  misplaced_of (table ms) within = misplaced_in ms within
  misplaced_of _ within = None

  pub misplaced_among : Items → Option Key → Option Misplaced
  misplaced_among no_items within = None
  misplaced_among (item d ds) within = option_or (misplaced_of d within) (misplaced_among ds within)

  pub misplaced_in : Members → Option Key → Option Misplaced
  misplaced_in no_members within = None
  misplaced_in (member name d ms) within =
      option_or (option_map_or (λ key. misplaced_of d (Some key)) (key_at within name) (Some (within, name)))
      (misplaced_in ms within)

-- the table that a value is, as this key wants
abbrev pub table_at : Key → Option Members → Result Members ConfigFault
table_at holder None = Err (shape holder)
table_at holder (Some ms) = Ok ms

-- what stands at a name in the table that a document has at a key, if it has anything there
abbrev pub value_in : Key → Option Data → List ℕ → Result (Option Data) ConfigFault
value_in holder None name = Ok None
value_in holder (Some d) name = table_at holder (as_table d) >>= (λ ms. Ok (get_member name ms))

-- what a document has at a key
abbrev pub value_at : Members → Key → Result (Option Data) ConfigFault
value_at document key = value_in (table_of key) (get_member (name_of (table_of key)) document) (name_of key)

-- the key of `policy` that holds where a tier leaves this one out
abbrev pub in_policy : Key → Key
in_policy (keys.InPolicy _ key) = keys.InPolicy tables.Policy key
in_policy key = key

-- what holds at a key, if the document says it
abbrev pub found_or : Members → Key → Option Data → Result (Option Data) ConfigFault
found_or document key None = value_at document (in_policy key)
found_or document key (Some d) = Ok (Some d)

abbrev pub found_value : Members → Key → Result (Option Data) ConfigFault
found_value document key = value_at document key >>= found_or document key

-- an integer within its range
abbrev pub number_of : Key → ℕ → ℕ → Data → Result ℕ ConfigFault
number_of key least greatest (integer (pos n)) =
    if nat_le least n && nat_le n greatest then Ok n else Err (range key)
number_of key least greatest (integer (negsuc n)) = Err (range key)
number_of key least greatest _ = Err (shape key)

-- the same, or the default
abbrev pub number_or : Key → ℕ → ℕ → ℕ → Option Data → Result ℕ ConfigFault
number_or key default least greatest None = Ok default
number_or key default least greatest (Some d) = number_of key least greatest d

abbrev pub number_as : Members → Key → KeyKind → Result ℕ ConfigFault
number_as document key (Number default least greatest) =
    found_value document key >>= number_or key default least greatest
number_as document key other = Err (shape key)

abbrev pub number : Members → Key → Result ℕ ConfigFault
number document key = number_as document key (row_of key).kind

-- An integer below 0 is taken for 0, which no list of a floor may have either.
abbrev pub natural : ℤ → ℕ
natural (pos n) = n
natural (negsuc n) = 0

-- items that are integers
abbrev pub naturals : Key → Items → Result (List ℕ) ConfigFault
naturals key no_items = Ok []
naturals key (item (integer z) ds) = naturals key ds >>= (λ ns. Ok (natural z ∷ ns))
naturals key (item _ ds) = Err (shape key)

-- a list of integers, or the default
abbrev pub numbers_or : Key → List ℕ → Option Data → Result (List ℕ) ConfigFault
numbers_or key default None = Ok default
numbers_or key default (Some (array ds)) = naturals key ds
numbers_or key default (Some _) = Err (shape key)

abbrev pub numbers_as : Members → Key → KeyKind → Result (List ℕ) ConfigFault
numbers_as document key (Numbers default) = found_value document key >>= numbers_or key default
numbers_as document key other = Err (shape key)

abbrev pub numbers : Members → Key → Result (List ℕ) ConfigFault
numbers document key = numbers_as document key (row_of key).kind

-- ---- a document as a function of the key

-- whether a value fits its key
abbrev pub fits_as : Members → Key → KeyKind → Result Unit ConfigFault
fits_as document key (Number default least greatest) = number document key >>= (λ n. Ok tt)
fits_as document key (Numbers default) = numbers document key >>= (λ ns. Ok tt)
fits_as document key other = Ok tt

unfoldable pub fits : Members → Key → Result Unit ConfigFault
fits document key = fits_as document key (row_of key).kind

-- whether the value of each of these keys does, or the first fault
abbrev pub values_fit : Members → List Key → Result Unit ConfigFault
values_fit document [] = Ok tt
values_fit document (key ∷ more) = fits document key >>= (λ _. values_fit document more)

-- the integer of a key: as it stands in the document, and its default where there is none that fits
unfoldable pub number_in : Members → Key → ℕ
number_in document key = result_unwrap_or (number document key) (default_of key)

-- the same of a list of integers
unfoldable pub numbers_in : Members → Key → List ℕ
numbers_in document key = result_unwrap_or (numbers document key) (defaults_of key)
