-- A reply as a client reads it from a connection (RFC 9112): a head by the grammar of `httparse`, and then as many
-- bytes of body as the head tells.
use Rattle.std.specs.Prelude.{◌≡◌, ℕ, ◌/◌, ◌==◌, ◌||◌, Bool, List, [], ◌∷◌, ◌++◌, length, Option, Some}
use Rattle.std.specs.Prelude.{None, codes, if◌then◌else◌}
use Rattle.std.specs.Str.Parse.{digits_value}
use Rattle.httparse.specs.Grammar.{ResponseHead, ReadsResponse, status_code}
use Rattle.http_requests.specs.Reference.{is_present, is_numeral, lines_of, values_of}

-- the number of a lone Content-Length: one digit or more, and nothing else (RFC 9110, 8.6)
abbrev pub stated_length : List (List ℕ) → Option ℕ
stated_length [] = None
stated_length (value ∷ []) = if is_numeral value then Some (digits_value 10 value) else None
stated_length (value ∷ other ∷ values) = None

-- a status whose message ends with its head: 1xx, 204 and 304
abbrev pub is_bodyless : ℕ → Bool
is_bodyless status = (status / 100 == 1) || (status == 204) || (status == 304)

-- How many bytes of body follow a head (RFC 9112, 6.3): none in the answer to HEAD and at a status without; else, with
-- no Transfer-Encoding, as many as Content-Length says. `None`: the head doesn't tell.
abbrev pub body_length : Bool → ResponseHead → Option ℕ
body_length head h =
    if head || is_bodyless (status_code h) then Some 0
    else if is_present (values_of (codes "transfer-encoding") (lines_of h.fields)) then None
    else stated_length (values_of (codes "content-length") (lines_of h.fields))

-- the bytes begin with this head and the body that it tells of, and the rest follows
pub record Reads (head : Bool) (bytes : List ℕ) (h : ResponseHead) (body rest : List ℕ) : Type 0 where
  pub grammar : ReadsResponse bytes h (body ++ rest)
  pub stated : body_length head h ≡ Some (length body)

-- a head of HTTP/1.1 with this status, and nothing before it
pub record IsHead (code : ℕ) (h : ResponseHead) : Type 0 where
  pub blank : h.blank ≡ []
  pub minor : h.minor ≡ 1
  pub status : status_code h ≡ code

-- The text is a reply with this status and this body. Whatever follows on the connection, a client reads this reply,
-- and in one way only, and what follows is left: no reply runs into the next.
pub record IsReply (head : Bool) (code : ℕ) (body text : List ℕ) : Type 0 where
  pub read : (h : ResponseHead) × IsHead code h × ((more : List ℕ) → Reads head (text ++ more) h body more)
  pub alone : (more : List ℕ) (h : ResponseHead) (part rest : List ℕ) → Reads head (text ++ more) h part rest
      → IsHead code h × (part ≡ body) × (rest ≡ more)
