-- What stays of a target, and so of a message: all of it, or what stands before its query.
use Rattle.std.specs.Prelude.{ℕ, List, map, nat_eq, ◌==◌, ◌||◌, codes, if◌then◌else◌}
use Rattle.std.specs.List.{list_any, starts_with, before_first}
use Rattle.paths.specs.Reference.{number_sign, question_mark}
use Rattle.http_requests.specs.declared.messages.Meaning.{Meaning}
use Rattle.http_requests.specs.declared.messages.Meaning.TheVariants.{Request, Bad}
use Rattle.arrivals.specs.Reference.{Arrival}
use Rattle.slim.specs.declared.queries.Queries.{Queries}
use Rattle.slim.specs.declared.queries.Queries.TheVariants.{Kept, Dropped}

-- A target up to its query (RFC 3986, 3.4). With a `#` in it, or a question mark in front, it is none (RFC 9112, 3.2):
-- then `#` alone stands for it.
abbrev pub without_query : List ℕ → List ℕ
without_query target =
    if list_any (λ b. b == number_sign) target || starts_with nat_eq target (codes "?") then codes "#"
    else before_first (λ b. b == question_mark) target

abbrev pub kept_target : Queries → List ℕ → List ℕ
kept_target Kept target = target
kept_target Dropped target = without_query target

-- the meaning with what stays of its target
abbrev pub kept_what : Queries → Meaning → Meaning
kept_what queries (Request method target version closing since) =
    Request method (kept_target queries target) version closing since
kept_what queries (Bad fault) = Bad fault

-- the arrivals with what stays of the targets of their messages
abbrev pub kept_arrival : Queries → Arrival → Arrival
kept_arrival queries a = record a { message = record a.message { what = kept_what queries a.message.what } }

unfoldable pub kept_arrivals : Queries → List Arrival → List Arrival
kept_arrivals queries arrivals = map (kept_arrival queries) arrivals
