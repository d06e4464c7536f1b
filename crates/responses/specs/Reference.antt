-- What a reader has to believe: the definitions of this crate that the headline stands on, in reading order.
use Rattle.std.specs.Prelude.{ℕ, List, [], ◌∷◌, zero, suc, ◌+◌, ◌-◌, ◌/◌, ◌%◌, nat_le, if◌then◌else◌, ◌++◌, length, min}
use Rattle.std.specs.Prelude.{codes, decimal, flat_map, nat_eq, unwrap_or}
use Rattle.std.specs.Map.{keys_of, lookup}
use Rattle.httpdate.specs.declared.parts.Parts.{Parts}
use Rattle.httpdate.specs.Calendar.{days_of_years, days_of_months, weekday}
use Rattle.httpdate.specs.Text.{imf_fixdate}
use Rattle.paths.specs.Reference.{file_of}
use Rattle.paths.specs.declared.file.File.{File}
use Rattle.page_cache.specs.Reference.{media_of, media_text}
use Rattle.responses.specs.declared.slip.Persistence.{Persistence}
use Rattle.responses.specs.declared.slip.Persistence.TheVariants.{Close, KeepAlive, Silent}
use Rattle.responses.specs.declared.slip.Status.TheVariants.{BadRequest, NotFound, MethodNotAllowed, ContentTooLarge}
use Rattle.responses.specs.declared.slip.Status.TheVariants.{NotImplemented, ServiceUnavailable}
use Rattle.responses.specs.declared.slip.ResponseKind.{ResponseKind}
use Rattle.responses.specs.declared.slip.ResponseKind.TheVariants.{Page, Known, Unmodified, Moved, Plain}
use Rattle.responses.specs.declared.slip.Slip.{Slip}

-- The statuses that a reply may have, each with its reason (RFC 9110, 15), in the order of a report.
abbrev pub status_rows : List (ℕ × List ℕ)
status_rows =
    (200, codes "200 OK") ∷ (301, codes "301 Moved Permanently") ∷ (304, codes "304 Not Modified")
    ∷ (400, codes "400 Bad Request") ∷ (404, codes "404 Not Found") ∷ (405, codes "405 Method Not Allowed")
    ∷ (413, codes "413 Content Too Large") ∷ (501, codes "501 Not Implemented")
    ∷ (503, codes "503 Service Unavailable") ∷ []

abbrev pub statuses : List ℕ
statuses = keys_of status_rows

abbrev pub status_words : ℕ → List ℕ
status_words code = unwrap_or (lookup (nat_eq code) status_rows) []

-- the status of each answer
abbrev pub status_of : {X : Type 0} → ResponseKind X → ℕ
status_of (Page file mtime) = 200
status_of (Known media len mtime) = 200
status_of (Moved location) = 301
status_of (Unmodified mtime) = 304
status_of (Plain BadRequest) = 400
status_of (Plain NotFound) = 404
status_of (Plain MethodNotAllowed) = 405
status_of (Plain ContentTooLarge) = 413
status_of (Plain NotImplemented) = 501
status_of (Plain (ServiceUnavailable seconds)) = 503

-- The text of a second: its day in the calendar, its time of day, and how a head writes them (RFC 9110, 5.6.7).

-- how many years or months, at most n, are over at a day, where the first n of them have `days n`
unfoldable pub passed : (ℕ → ℕ) → ℕ → ℕ → ℕ
passed days zero day = 0
passed days (suc n) day = if nat_le (days (suc n)) day then suc n else passed days n day

-- the date and the time of a second since 1970-01-01, up to the year 9999
unfoldable pub parts_at : ℕ → Parts
parts_at second =
    let day = second / 86400 in
    let years = passed days_of_years 8029 day in
    let months = passed (days_of_months (1970 + years)) 11 (day - days_of_years years) in
    record {
      year = 1970 + years;
      mon = months + 1;
      day = day - days_of_years years - days_of_months (1970 + years) months + 1;
      hour = second % 86400 / 3600;
      min = second % 3600 / 60;
      sec = second % 60;
      wday = weekday day;
    }

-- its text, as `Sun, 06 Nov 1994 08:49:37 GMT`
unfoldable pub imf_date : ℕ → List ℕ
imf_date second = imf_fixdate (parts_at second)

-- The text of a reply: a status line, fields in their order, an empty line, a body (RFC 9112, 2.1).

-- the line of a field, which is a name and a value, `Name: value` with CR LF after it
abbrev pub field_line : List ℕ × List ℕ → List ℕ
field_line field = field.0 ++ codes ": " ++ field.1 ++ codes "\r\n"

-- the fields of a content of this media type and length
abbrev pub content_fields : List ℕ → ℕ → List (List ℕ × List ℕ)
content_fields media len = (codes "Content-Type", media) ∷ (codes "Content-Length", decimal len) ∷ []

-- a status and its reason as a line, the content where no file is given; and its fields
abbrev pub status_text : ℕ → List ℕ
status_text code = status_words code ++ codes "\n"

abbrev pub described : ℕ → List (List ℕ × List ℕ)
described code = content_fields (codes "text/plain") (length (status_text code))

-- when a file was last changed: never later than the date of the reply (RFC 9110, 8.8.2.1)
abbrev pub changed : ℕ → ℕ → List (List ℕ × List ℕ)
changed date mtime = (codes "Last-Modified", imf_date (min mtime date)) ∷ []

-- the fields that each answer has of its own, at this date
abbrev pub own_fields : {X : Type 0} → List File → ℕ → ResponseKind X → List (List ℕ × List ℕ)
own_fields files date (Page file mtime) =
    content_fields (media_text (media_of (file_of files file).name)) (length (file_of files file).bytes)
    ++ changed date mtime
own_fields files date (Known media len mtime) = content_fields (media_text media) len ++ changed date mtime
own_fields files date (Unmodified mtime) = changed date mtime
own_fields files date (Moved location) = described 301 ++ (codes "Location", location) ∷ []
own_fields files date (Plain MethodNotAllowed) = described 405 ++ (codes "Allow", codes "GET, HEAD") ∷ []
own_fields files date (Plain (ServiceUnavailable seconds)) =
    described 503 ++ (codes "Retry-After", decimal seconds) ∷ []
own_fields files date what = described (status_of what)

abbrev pub connection_fields : Persistence → List (List ℕ × List ℕ)
connection_fields Close = (codes "Connection", codes "close") ∷ []
connection_fields KeepAlive = (codes "Connection", codes "keep-alive") ∷ []
connection_fields Silent = []

-- all fields of a reply
abbrev pub fields_of : {X : Type 0} → List File → Slip X → List (List ℕ × List ℕ)
fields_of files slip = (codes "Date", imf_date slip.date)
    ∷ (own_fields files slip.date slip.what ++ connection_fields slip.link)

-- the status line, the fields, and the empty line that ends them
abbrev pub head_text : {X : Type 0} → List File → Slip X → List ℕ
head_text files slip = codes "HTTP/1.1 " ++ status_words (status_of slip.what) ++ codes "\r\n"
    ++ flat_map field_line (fields_of files slip) ++ codes "\r\n"

-- the body that GET has: the file's bytes, or the status as a line; none at 304
abbrev pub content_of : {X : Type 0} → List File → ResponseKind X → List ℕ
content_of files (Page file mtime) = (file_of files file).bytes
content_of files (Known media len mtime) = []
content_of files (Unmodified mtime) = []
content_of files what = status_text (status_of what)

-- the reply; the answer to HEAD has no body
abbrev pub reply_text : {X : Type 0} → List File → Slip X → List ℕ
reply_text files slip = head_text files slip ++ (if slip.head then [] else content_of files slip.what)

-- The record of a reply in a text of replies: a line with its number, its connection and its length, and then the reply
-- with a line feed after it.
abbrev pub record_text : ℕ × ℕ × List ℕ → List ℕ
record_text reply =
    codes "reply " ++ decimal reply.0 ++ codes " " ++ decimal reply.1 ++ codes " " ++ decimal (length reply.2)
    ++ codes "\n" ++ reply.2 ++ codes "\n"
