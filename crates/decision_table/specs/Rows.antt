-- A table of decisions: a heading, and a row for each message. Fields stand between commas, and none holds a comma, a
-- quote or the end of a line (RFC 4180, 2), nor a semicolon, at which spreadsheets of many countries part cells. No
-- cell begins as a formula does there.
use Rattle.std.specs.Prelude.{ℕ, ◌-◌, ◌==◌, ◌&&◌, ◌||◌, not, Bool, true, false, List, [], ◌∷◌, ◌++◌, Option, Some, None, codes}
use Rattle.std.specs.Prelude.{decimal, flat_map, if◌then◌else◌}
use Rattle.std.specs.Char.{is_ascii_graphic}
use Rattle.percent_encoding.specs.Percent.{percent_encode_byte}
use Rattle.paths.specs.Reference.{percent_sign}
use Rattle.devices.specs.Numbers.{quote, comma}
use Rattle.admission.specs.declared.control.Decision.{Decision}
use Rattle.admission.specs.declared.control.Decision.TheVariants.{Admitted, Rejected}
use Rattle.decision_table.specs.declared.row.Offered.{Offered}
use Rattle.decision_table.specs.declared.row.Row.{Row}

-- with a column of pools, or without one
abbrev pub heading : Bool → List ℕ
heading false =
    codes "number,connection,tick,tier,status,decision,service,credit,rate,start,finish,waited,method,target\n"
heading true =
    codes "number,connection,tick,tier,status,decision,service,credit,rate,start,finish,waited,pool,method,target\n"

abbrev pub number_field : ℕ → List ℕ
number_field n = decimal n ++ codes ","

abbrev pub decision_field : Decision → List ℕ
decision_field (Admitted finish) = codes "admitted,"
decision_field Rejected = codes "rejected,"

-- how long the server works on a request, the credit that the request found, and the rate
abbrev pub found_fields : Offered → List ℕ
found_fields o = number_field o.service ++ number_field o.found.credit ++ number_field o.found.rate

-- when the service begins and when it ends: nothing where the request was rejected
abbrev pub service_fields : ℕ → Decision → List ℕ
service_fields service (Admitted finish) = number_field (finish - service) ++ number_field finish
service_fields service Rejected = codes ",,"

-- what became of a message that came at this tick; the last number is how long the server was still busy then
abbrev pub offered_fields : ℕ → Option Offered → List ℕ
offered_fields tick None = codes "bypassed,,,,,,,"
offered_fields tick (Some o) = decision_field o.decision ++ found_fields o ++ service_fields o.service o.decision
    ++ number_field (o.found.free - tick)

-- the pool that a request is of, where there is such a column
abbrev pub pool_field : Bool → Option Offered → List ℕ
pool_field false o = []
pool_field true None = codes ","
pool_field true (Some o) = number_field o.pool

-- a row up to its method
abbrev pub row_line : Row → List ℕ
row_line row = number_field row.number ++ number_field row.conn ++ number_field row.tick ++ number_field row.tier
    ++ number_field row.status ++ offered_fields row.tick row.offered ++ pool_field row.pools row.offered

abbrev pub plus_sign : ℕ
plus_sign = 43

abbrev pub semicolon : ℕ
semicolon = 59

abbrev pub equals_sign : ℕ
equals_sign = 61

abbrev pub at_sign : ℕ
at_sign = 64

abbrev pub hyphen : ℕ
hyphen = 45

-- visible ASCII but the quote, the percent sign, the comma and the semicolon
abbrev pub stands_as_it_is : ℕ → Bool
stands_as_it_is b = is_ascii_graphic b && not (b == quote || b == percent_sign || b == comma || b == semicolon)

-- a byte within a field: each other one is `%` and two hexadecimal digits, those above 9 in capitals (RFC 3986, 2.1)
abbrev pub text_byte : ℕ → List ℕ
text_byte b = if stands_as_it_is b then b ∷ [] else percent_encode_byte b

abbrev pub text_bytes : List ℕ → List ℕ
text_bytes bytes = flat_map text_byte bytes

-- a spreadsheet takes a cell that begins with this byte for a formula
abbrev pub begins_formula : ℕ → Bool
begins_formula b = b == equals_sign || b == plus_sign || b == hyphen || b == at_sign

-- bytes as a field: a first byte by which a formula begins is escaped too
abbrev pub text_field : List ℕ → List ℕ
text_field [] = []
text_field (b ∷ bytes) = (if begins_formula b then percent_encode_byte b else text_byte b) ++ text_bytes bytes

-- a row, with its method and its target, and a line feed
abbrev pub row_text : Row → List ℕ → List ℕ → List ℕ
row_text row method target = row_line row ++ text_field method ++ codes "," ++ text_field target ++ codes "\n"
