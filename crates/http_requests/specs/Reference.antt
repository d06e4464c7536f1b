-- What a reader has to believe: the definitions of this crate that the headline stands on, in reading order.
use Rattle.std.specs.Prelude.{ℕ, ◌≡◌, ◌≤◌, ◌⊎◌, Bool, true, false, not, ◌&&◌, ◌||◌, ◌==◌, nat_lt, if◌then◌else◌, List}
use Rattle.std.specs.Prelude.{[], ◌∷◌, map, length, Option, Some, None, MatchOption, MatchBool, codes, bytes_eq, suc}
use Rattle.std.specs.Prelude.{◌+◌, ◌<◌, ◌++◌, take, drop}
use Rattle.std.specs.List.{filter, flat_map, list_all, list_any, slice_split}
use Rattle.std.specs.Char.{is_ascii_alphanumeric, is_ascii_digit, to_ascii_lowercase}
use Rattle.std.specs.Str.Parse.{digits_value}
use Rattle.httparse.specs.Grammar.{Field, RequestHead, ReadsRequest, trim_ows}
use Rattle.httparse.specs.Spans.{name_and_value}
use Rattle.httpdate.specs.declared.date.HttpDate.{HttpDate}
use Rattle.httpdate.specs.Date.{IsDateText, unix_secs}
use Rattle.http_requests.specs.declared.messages.HttpVersion.{HttpVersion}
use Rattle.http_requests.specs.declared.messages.HttpVersion.TheVariants.{Http10, Http11}
use Rattle.http_requests.specs.declared.messages.MessageFault.{MessageFault}
use Rattle.http_requests.specs.declared.messages.MessageFault.TheVariants.{Block, Host, Coding, Length}
use Rattle.http_requests.specs.declared.messages.MessageFault.TheVariants.{BodySize, TooLong}
use Rattle.http_requests.specs.declared.messages.Meaning.TheVariants.{Request, Bad}
use Rattle.http_requests.specs.declared.heads.Verdict.{Verdict}
use Rattle.http_requests.specs.declared.messages.Meaning.{Meaning}
use Rattle.http_requests.specs.declared.messages.Message.{Message}

-- Bytes that part a message, and the limits of messages.

-- a line feed, a carriage return and a comma
abbrev pub line_feed : ℕ
line_feed = 10

abbrev pub carriage_return : ℕ
carriage_return = 13

abbrev pub comma : ℕ
comma = 44

-- the most field lines of a head
abbrev pub max_fields : ℕ
max_fields = 64

-- the most bytes of a block, of a body, and of the text of a connection
abbrev pub max_block_bytes : ℕ
max_block_bytes = 8192

abbrev pub max_body_bytes : ℕ
max_body_bytes = 65536

-- What the head of a request says (RFC 9110 and RFC 9112): its first fault, or the request that it
-- is. A head is a value of the grammar of `httparse`, with the fields' names and values.

-- a field line: its name, and its value without the spaces and tabs at both ends (RFC 9112, 5.1)
abbrev pub FieldLine : Type 0
FieldLine = List ℕ × List ℕ

-- the lines of fields, in order
abbrev pub lines_of : List Field → List FieldLine
lines_of fields = map name_and_value fields

-- the texts are equal but for the case of ASCII letters
abbrev pub same_text : List ℕ → List ℕ → Bool
same_text a b = bytes_eq (map to_ascii_lowercase a) (map to_ascii_lowercase b)

-- the values of the lines of this name, in order; a name's case doesn't matter (RFC 9110, 5.1)
abbrev pub values_of : List ℕ → List FieldLine → List (List ℕ)
values_of name lines = map (λ line. line.1) (filter (λ line. same_text line.0 name) lines)

-- a byte of a host and a port: one of those that RFC 3986, 3.2.2 and 3.2.3 allow there
abbrev pub is_host_byte : ℕ → Bool
is_host_byte b = is_ascii_alphanumeric b || list_any (λ c. c == b) (codes "-._~!$&'()*+,;=:[]%")

-- Host is missing under HTTP/1.1, stands there more than once, or has another byte (RFC 9112, 3.2).
-- An empty value is allowed
abbrev pub is_host_fault : ℕ → List (List ℕ) → Bool
is_host_fault minor [] = minor == 1
is_host_fault minor (value ∷ []) = not (list_all is_host_byte value)
is_host_fault minor (value ∷ other ∷ values) = true

-- there is such a line
abbrev pub is_present : List (List ℕ) → Bool
is_present [] = false
is_present (value ∷ values) = true

-- one digit or more, and nothing else (RFC 9110, 8.6)
abbrev pub is_numeral : List ℕ → Bool
is_numeral value = nat_lt 0 (length value) && list_all is_ascii_digit value

-- Content-Length stands there more than once, or is no number (RFC 9112, 6.3). Equal numbers are
-- refused as well, though a server may take them
abbrev pub is_length_fault : List (List ℕ) → Bool
is_length_fault [] = false
is_length_fault (value ∷ []) = not (is_numeral value)
is_length_fault (value ∷ other ∷ values) = true

-- how many bytes of body follow the block: none without Content-Length (RFC 9112, 6.3)
abbrev pub body_length : List (List ℕ) → ℕ
body_length [] = 0
body_length (value ∷ values) = digits_value 10 value

-- the first fault of a head of this minor version with these lines, if it has one. A body in chunks
-- isn't read, so any Transfer-Encoding is a fault (RFC 9112, 6.1). A body has at most 65,536 bytes
abbrev pub head_fault : ℕ → List FieldLine → Option MessageFault
head_fault minor lines =
    if is_host_fault minor (values_of (codes "host") lines) then Some Host
    else (if is_present (values_of (codes "transfer-encoding") lines) then Some Coding
    else (if is_length_fault (values_of (codes "content-length") lines) then Some Length
    else (if nat_lt max_body_bytes (body_length (values_of (codes "content-length") lines)) then Some BodySize
    else None)))

-- the options of the comma list that all lines together form, each without the spaces and tabs at
-- both ends (RFC 9110, 5.3 and 5.6.1)
abbrev pub options_of : List (List ℕ) → List (List ℕ)
options_of values = flat_map (λ value. map trim_ows (slice_split (λ b. b == comma) value)) values

-- the option is among them, in any case (RFC 9110, 7.6.1)
abbrev pub has_option : List ℕ → List FieldLine → Bool
has_option option lines =
    list_any (λ given. same_text given option) (options_of (values_of (codes "connection") lines))

-- the connection ends after the reply (RFC 9112, 9.3): with `close`, and under HTTP/1.0 without
-- `keep-alive`
abbrev pub is_closing : ℕ → List FieldLine → Bool
is_closing minor lines =
    has_option (codes "close") lines || (minor == 0 && not (has_option (codes "keep-alive") lines))

-- the text is a date in one of the three formats (RFC 9110, 5.6.7), and this is its second since
-- 1970; or it is no date
abbrev pub IsSecondOf : List ℕ → Option ℕ → Type 0
IsSecondOf text None = (date : HttpDate) → ¬ (IsDateText text date)
IsSecondOf text (Some second) = (date : HttpDate) × IsDateText text date × (unix_secs date ≡ second)

-- the second of the one value that there is; nothing of none or of several
abbrev pub IsOnlySecond : List (List ℕ) → Option ℕ → Type 0
IsOnlySecond [] since = since ≡ None
IsOnlySecond (value ∷ []) since = IsSecondOf value since
IsOnlySecond (value ∷ other ∷ values) since = since ≡ None

-- the two methods that are served (RFC 9110, 9.3.1 and 9.3.2); case matters in a method (RFC 9110, 9.1)
abbrev pub is_get_or_head : List ℕ → Bool
is_get_or_head method = bytes_eq method (codes "GET") || bytes_eq method (codes "HEAD")

-- What If-Modified-Since says: a second, where there is one such line and it has a date. It counts for these two
-- methods alone, and not beside If-None-Match (RFC 9110, 13.1.3)
abbrev pub IsModifiedSince : List ℕ → List FieldLine → Option ℕ → Type 0
IsModifiedSince method lines since =
    MatchBool (is_get_or_head method && not (is_present (values_of (codes "if-none-match") lines)))
    (IsOnlySecond (values_of (codes "if-modified-since") lines) since)
    (since ≡ None)

-- the version of this minor number
abbrev pub version_of : ℕ → HttpVersion
version_of minor = if minor == 0 then Http10 else Http11

-- the request that a head without a fault is, and its body's length
pub record IsRequest (method target : List ℕ) (minor : ℕ) (lines : List FieldLine) (verdict : Verdict) : Type 0 where
  pub since : Option ℕ
  pub since_is : IsModifiedSince method lines since
  pub what_is : verdict.what ≡ Request method target (version_of minor) (is_closing minor lines) since
  pub length_is : verdict.length ≡ body_length (values_of (codes "content-length") lines)

-- a fault has no body
abbrev pub bad : MessageFault → Verdict
bad fault = record { what = Bad fault; length = 0 }

-- what a head of these parts says: its first fault, or else a request
abbrev pub PartsSay : List ℕ → List ℕ → ℕ → List FieldLine → Verdict → Type 0
PartsSay method target minor lines verdict =
    MatchOption (head_fault minor lines) (IsRequest method target minor lines verdict)
    (λ fault. verdict ≡ bad fault)

-- the whole block is this head, with at most 64 fields
abbrev pub IsHead : List ℕ → RequestHead → Type 0
IsHead block head = ReadsRequest block head [] × (length head.fields ≤ max_fields)

-- the verdict of a block: what its head says, or `Block` where it is no head
unfoldable pub IsVerdict : List ℕ → Verdict → Type 0
IsVerdict block verdict =
    ((head : RequestHead) × IsHead block head
    × PartsSay head.method head.target head.minor (lines_of head.fields) verdict)
    ⊎ (((head : RequestHead) → ¬ (IsHead block head)) × (verdict ≡ bad Block))

-- The messages of a whole text (RFC 9112, sections 2 and 6).

-- the text begins with LF
abbrev pub begins_lf : List ℕ → Bool
begins_lf [] = false
begins_lf (b ∷ bytes) = b == line_feed

-- the byte belongs to an empty line: it is LF, or CR with LF after it
abbrev pub is_blank : ℕ → List ℕ → Bool
is_blank b bytes = b == line_feed || (b == carriage_return && begins_lf bytes)

-- how many bytes the empty lines take with which a text begins (RFC 9112, 2.2)
abbrev pub blank_len : List ℕ → ℕ
blank_len [] = 0
blank_len (b ∷ bytes) = if is_blank b bytes then suc (blank_len bytes) else 0

-- the line feed of a block's last line, and the empty line after it, which ends with LF or CR LF (RFC 9112, 2.1 and
-- 2.2)
abbrev pub IsBlockEnd : List ℕ → Type 0
IsBlockEnd end = (end ≡ codes "\n\n") ⊎ (end ≡ codes "\n\r\n")

-- the first e bytes of the text are some bytes and then the end of a block
pub record EndsAt (s : List ℕ) (e : ℕ) : Type 0 where
  pub before : List ℕ
  pub end : List ℕ
  pub after : List ℕ
  pub is : IsBlockEnd end
  pub text : s ≡ before ++ (end ++ after)
  pub place : e ≡ length before + length end

-- the text begins with no block of at most 8,192 bytes
abbrev pub NoBlock : List ℕ → Type 0
NoBlock s = (e : ℕ) → e ≤ max_block_bytes → EndsAt s e → ⊥

-- the block with which the text begins ends before the place e: its first end, within the limit
pub record IsBlock (s : List ℕ) (e : ℕ) : Type 0 where
  pub ends : EndsAt s e
  pub first : (k : ℕ) → k < e → EndsAt s k → ⊥
  pub short : e ≤ max_block_bytes

-- a message after which nothing is read: a fault, or a request that closes
abbrev pub closes : Meaning → Bool
closes (Request method target version closing since) = closing
closes (Bad fault) = true

-- the text begins with a block, and has its body as well: what it says, and the place after its body
pub record IsWhole (s : List ℕ) (what : Meaning) (k : ℕ) : Type 0 where
  pub e : ℕ
  pub verdict : Verdict
  pub block : IsBlock s e
  pub says : IsVerdict (take e s) verdict
  pub what_is : what ≡ verdict.what
  pub k_is : k ≡ e + verdict.length
  pub within : k ≤ length s

-- a block that is too long ends the message at its byte 8,192
pub record IsOver (s : List ℕ) (what : Meaning) (k : ℕ) : Type 0 where
  pub none : NoBlock s
  pub what_is : what ≡ Bad TooLong
  pub k_is : k ≡ max_block_bytes
  pub within : max_block_bytes ≤ length s

-- the message with which the rest of a text begins, after the empty lines there: what it is, and the
-- place after it
pub record IsNext (r : List ℕ) (what : Meaning) (k : ℕ) : Type 0 where
  pub j : ℕ
  pub k_is : k ≡ blank_len r + j
  pub front : IsWhole (drop (blank_len r) r) what j ⊎ IsOver (drop (blank_len r) r) what j

-- the messages of the rest of a text, which begins at place p of it. A closing one is the last
abbrev pub Messages : ℕ → List ℕ → List Message → Type 0
Messages p r [] = (what : Meaning) (k : ℕ) → IsNext r what k → ⊥
Messages p r (m ∷ ms) = (k : ℕ) × IsNext r m.what k × (m.end ≡ p + k)
    × MatchBool (closes m.what) (ms ≡ []) (Messages (p + k) (drop k r) ms)

-- the messages of a whole text
abbrev pub MessagesOf : List ℕ → List Message → Type 0
MessagesOf text ms = Messages 0 text ms
