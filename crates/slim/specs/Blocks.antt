-- The canonical block of a message: a function of its meaning alone. It is the shortest block that says so, in lines
-- that end with LF alone (RFC 9112, 2.2).
use Rattle.std.specs.Prelude.{ℕ, Bool, true, false, List, [], ◌++◌, Option, Some, None, codes, replicate, nat_le}
use Rattle.std.specs.Prelude.{if◌then◌else◌}
use Rattle.http_requests.specs.declared.messages.HttpVersion.{HttpVersion}
use Rattle.http_requests.specs.declared.messages.HttpVersion.TheVariants.{Http10, Http11}
use Rattle.http_requests.specs.declared.messages.MessageFault.{MessageFault}
use Rattle.http_requests.specs.declared.messages.Meaning.{Meaning}
use Rattle.http_requests.specs.declared.messages.Meaning.TheVariants.{Request, Bad}
use Rattle.httpdate.specs.Text.{two_digits, asctime_date}
use Rattle.responses.specs.Reference.{parts_at}
use Rattle.http_requests.specs.declared.messages.MessageFault.TheVariants as faults

-- The second of a date, as a head writes it in 24 bytes (RFC 9110, 5.6.7).

-- the text of a second since 1970-01-01, up to the year 9999, as `Sun Nov 06 08:49:37 1994`: the shortest of the three
-- formats
unfoldable pub short_date : ℕ → List ℕ
short_date second = asctime_date (two_digits (parts_at second).day) (parts_at second)

-- the last second of the year 9999
abbrev pub last_second : ℕ
last_second = 253402300799

-- the end of the first line (RFC 9112, 2.3)
abbrev pub version_text : HttpVersion → List ℕ
version_text Http10 = codes " HTTP/1.0\n"
version_text Http11 = codes " HTTP/1.1\n"

-- Host is due in HTTP/1.1 alone, and may be empty (RFC 9112, 3.2)
abbrev pub host_line : HttpVersion → List ℕ
host_line Http10 = []
host_line Http11 = codes "Host:\n"

-- Connection stands where the version alone would have the connection go on otherwise (RFC 9112, 9.3)
abbrev pub connection_line : HttpVersion → Bool → List ℕ
connection_line Http10 true = []
connection_line Http10 false = codes "Connection:keep-alive\n"
connection_line Http11 true = codes "Connection:close\n"
connection_line Http11 false = []

-- If-Modified-Since stands where it counts (RFC 9110, 13.1.3). No date is later than the year 9999
abbrev pub since_line : Option ℕ → List ℕ
since_line None = []
since_line (Some second) =
    if nat_le second last_second then codes "If-Modified-Since:" ++ short_date second ++ codes "\n" else []

-- the block of a request, without a body
abbrev pub request_block : List ℕ → List ℕ → HttpVersion → Bool → Option ℕ → List ℕ
request_block method target version closing since =
    method ++ codes " " ++ target ++ version_text version ++ host_line version
    ++ connection_line version closing ++ since_line since ++ codes "\n"

-- the shortest block with this fault; of one that is too long its first 8,192 bytes
abbrev pub faulty_block : MessageFault → List ℕ
faulty_block faults.TooLong = replicate 8192 65
faulty_block faults.Block = codes "A\n\n"
faulty_block faults.Host = codes "A / HTTP/1.1\n\n"
faulty_block faults.Coding = codes "A / HTTP/1.0\nTransfer-Encoding:\n\n"
faulty_block faults.Length = codes "A / HTTP/1.0\nContent-Length:\n\n"
faulty_block faults.BodySize = codes "A / HTTP/1.0\nContent-Length:65537\n\n"

-- the canonical block
unfoldable pub block_of : Meaning → List ℕ
block_of (Request method target version closing since) = request_block method target version closing since
block_of (Bad fault) = faulty_block fault
