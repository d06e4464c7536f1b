-- Where the messages of a text lie in it, and what each was read from.
use Rattle.std.specs.Prelude.{◌≡◌, ℕ, ◌+◌, ◌≤◌, Bool, List, [], ◌∷◌, ◌++◌, length, Option, None, codes}
use Rattle.http_requests.specs.Reference.{max_fields, max_block_bytes, values_of, body_length, head_fault, is_closing}
use Rattle.http_requests.specs.Reference.{IsModifiedSince, version_of, lines_of, IsVerdict, bad, NoBlock, blank_len}
use Rattle.httparse.specs.Grammar.{LineEnd, print_blank, RequestHead, ReadsRequest}
use Rattle.http_requests.specs.declared.messages.HttpVersion.{HttpVersion}
use Rattle.http_requests.specs.declared.messages.MessageFault.TheVariants.{TooLong}
use Rattle.http_requests.specs.declared.messages.Meaning.{Meaning}
use Rattle.http_requests.specs.declared.messages.Meaning.TheVariants.{Request, Bad}
use Rattle.http_requests.specs.declared.messages.Message.{Message}

-- the request is what a head says, the head is the whole block, and the body is as long as it says
pub record IsReadFrom
    (block : List ℕ) (body method target : List ℕ) (version : HttpVersion) (closing : Bool)
    (since : Option ℕ) : Type 0 where
  pub head : RequestHead
  pub reads : ReadsRequest block head []
  pub fields : length head.fields ≤ max_fields
  pub no_fault : head_fault head.minor (lines_of head.fields) ≡ None
  pub method_is : method ≡ head.method
  pub target_is : target ≡ head.target
  pub version_is : version ≡ version_of head.minor
  pub closes_is : closing ≡ is_closing head.minor (lines_of head.fields)
  pub since_is : IsModifiedSince head.method (lines_of head.fields) since
  pub body_is : length body ≡ body_length (values_of (codes "content-length") (lines_of head.fields))

-- what a block and the body after it make: a request, a block that is cut at the limit, or a block
-- with a fault; only a request has a body
abbrev pub Means : Meaning → List ℕ → List ℕ → Type 0
Means (Request method target version closing since) block body =
    IsReadFrom block body method target version closing since
Means (Bad TooLong) block body = (length block ≡ max_block_bytes) × NoBlock block × (body ≡ [])
Means (Bad fault) block body = IsVerdict block (bad fault) × (body ≡ [])

-- the rest of a text, from place p of it, is empty lines, a message's block, which doesn't begin
-- with an empty line, its body, and what follows
pub record IsPart (p : ℕ) (rest : List ℕ) (m : Message) (after : List ℕ) : Type 0 where
  pub empty_lines : List LineEnd
  pub block : List ℕ
  pub begins : blank_len block ≡ 0
  pub body : List ℕ
  pub rest_is : rest ≡ print_blank empty_lines ++ (block ++ (body ++ after))
  pub end_is : m.end ≡ p + (length (print_blank empty_lines) + (length block + length body))
  pub means : Means m.what block body

-- the messages lie one after another from place p on, and nothing but empty lines between them
abbrev pub LieInOrder : ℕ → List ℕ → List Message → Type 0
LieInOrder p rest [] = Unit {0}
LieInOrder p rest (m ∷ ms) = (after : List ℕ) × IsPart p rest m after × LieInOrder m.end after ms
