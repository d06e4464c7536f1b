-- What the figures come to together.
use Rattle.std.proofs.Common.{◌≡◌, ◌≢◌, ℕ, ◌+◌, Bool, true, false, not, ◌||◌, cond, List, [], ◌∷◌, ◌++◌, length, refl, sym, ap, ◌∙◌, arith, append-nil}
use Rattle.std.specs.Prelude.{sum_by, count_by, bytes_eq, codes}
use Rattle.std.proofs.lemmas.Slice.Eq.{bytes_eq-Decides}
use Rattle.std.proofs.lemmas.List.{append_assoc, length-append}
use Rattle.std.proofs.lemmas.List.Elements.{All-head, All-tail, All-push, All-nil}
use Rattle.std.proofs.lemmas.List.Sums.{sum_by_push, sum_by-cons}
use Rattle.captures.specs.declared.record.Record.{Record}
use Rattle.captures.specs.declared.record.Record.TheVariants.{Piece, End, Tier}
use Rattle.captures.specs.declared.version.Version.{Version}
use Rattle.captures.specs.Reference.{connection_of, connection_now, used_once, IsCapture}
use Rattle.captures.specs.Captures.{size_of, sizes_of}
use Rattle.captures.proofs.Lives.{all_low}
use Rattle.http_requests.specs.declared.messages.Meaning.{Meaning}
use Rattle.http_requests.specs.declared.messages.Meaning.TheVariants.{Request, Bad}
use Rattle.http_requests.specs.declared.messages.HttpVersion.TheVariants.{Http10, Http11}
use Rattle.http_requests.specs.declared.messages.MessageFault.TheVariants.{TooLong, Block, Host, Coding, Length, BodySize}
use Rattle.arrivals.specs.Reference.{text_of}
use Rattle.arrivals.specs.Connections.{HaveNumbers, IsNumber, text_now}
use Rattle.inspection.specs.Figures.{every_number, every_connection, ended, is_request, has_method, has_other_method, is_http10, is_http11, is_too_long, is_bad_block, is_bad_host, is_bad_coding, is_bad_length, is_bad_body_size}
use Rattle.inspection.proofs.Everyone.{same_numbers, one_number, sum_over_all, same_sums}
use Rattle.inspection.proofs.Named.{text_of_end, text_of_tier, text_of_other, text_piece_own, text_piece_other, text_end_own, text_end_other, text_tier}
use Rattle.inspection.proofs.Ended.{ended_piece, ended_end, ended_tier, not_ended, all_of}

sum_both : {X : Type 0} (f g h : X → ℕ) (xs : List X) → ((x : X) → h x ≡ f x + g x) → sum_by h xs ≡ sum_by f xs + sum_by g xs
sum_both f g h [] each = refl
sum_both f g h (x ∷ xs) each =
    let rest = sum_both f g h xs each in
    let a = sum_by-cons f x xs in let b = sum_by-cons g x xs in let c = sum_by-cons h x xs in let e = each x in
    omega (arith, rest, a, b, c, e)

-- ---- bytes

-- the bytes that came on a connection, and on the one that a number names
abbrev came_on : List Record → ℕ → ℕ
came_on records c = length (text_of c (used_once records))

abbrev came_now : List Record → ℕ → ℕ
came_now records c = length (text_now c records)

abbrev on_ended : List Record → ℕ
on_ended records = sum_by (came_on records) (ended records)

abbrev on_named : List Record → ℕ
on_named records = sum_by (came_now records) every_number

bytes_piece : (tick conn : ℕ) (bytes : List ℕ) (records : List Record) → IsNumber conn → HaveNumbers records
    → on_ended (records ++ Piece tick conn bytes ∷ []) + on_named (records ++ Piece tick conn bytes ∷ []) ≡ on_ended records + on_named records + length bytes
bytes_piece tick conn bytes records number numbers =
    let more = records ++ Piece tick conn bytes ∷ [] in
    let gone : on_ended more ≡ on_ended records = ap (sum_by (came_on more)) (ended_piece tick conn bytes records)
    ∙ same_sums (λ d. d ≢ connection_now conn records) (came_on more) (came_on records) (ended records) (λ d other. ap length (text_of_other d tick conn bytes records other)) (not_ended conn records number numbers) in
    let one = one_number (came_now records) (came_now more) conn number (λ c low apart. ap length (text_piece_other c tick conn bytes records low number apart)) in
    let own : came_now more conn ≡ came_now records conn + length bytes = ap length (text_piece_own tick conn bytes records) ∙ length-append (text_now conn records) bytes in
    omega (arith, gone, one, own)

bytes_end : (tick conn : ℕ) (records : List Record) → IsNumber conn → HaveNumbers records
    → on_ended (records ++ End tick conn ∷ []) + on_named (records ++ End tick conn ∷ []) ≡ on_ended records + on_named records
bytes_end tick conn records number numbers =
    let more = records ++ End tick conn ∷ [] in
    let id = connection_now conn records in
    let gone : on_ended more ≡ sum_by (came_on records) (ended records ++ id ∷ []) = ap (sum_by (came_on more)) (ended_end tick conn records)
    ∙ same_sums (λ d. Unit {0}) (came_on more) (came_on records) (ended records ++ id ∷ []) (λ d other. ap length (text_of_end d tick conn records)) (all_of (ended records ++ id ∷ [])) in
    let last = sum_by_push (came_on records) (ended records) id in
    let one = one_number (came_now records) (came_now more) conn number (λ c low apart. ap length (text_end_other c tick conn records apart)) in
    let own : came_now more conn ≡ 0 = ap length (text_end_own tick conn records number numbers) in
    omega (arith, gone, last, one, own)

bytes_tier : (conn tier : ℕ) (records : List Record)
    → on_ended (records ++ Tier conn tier ∷ []) + on_named (records ++ Tier conn tier ∷ []) ≡ on_ended records + on_named records
bytes_tier conn tier records =
    let more = records ++ Tier conn tier ∷ [] in
    let gone : on_ended more ≡ on_ended records = ap (sum_by (came_on more)) (ended_tier conn tier records)
    ∙ same_sums (λ d. Unit {0}) (came_on more) (came_on records) (ended records) (λ d other. ap length (text_of_tier d conn tier records)) (all_of (ended records)) in
    let named : on_named more ≡ on_named records = same_numbers (came_now more) (came_now records) (λ c low. ap length (text_tier c conn tier records)) in
    omega (arith, gone, named)

bytes_more : (records : List Record) (r : Record) → IsNumber (connection_of r) → HaveNumbers records
    → on_ended (records ++ r ∷ []) + on_named (records ++ r ∷ []) ≡ on_ended records + on_named records + size_of r
bytes_more records (Piece tick conn bytes) number numbers = bytes_piece tick conn bytes records number numbers
bytes_more records (End tick conn) number numbers = let e = bytes_end tick conn records number numbers in omega (arith, e)
bytes_more records (Tier conn tier) number numbers = let e = bytes_tier conn tier records in omega (arith, e)

bytes_none : on_ended [] + on_named [] ≡ 0
bytes_none = (let all = sum_zero every_number in omega (arith, all))
  where
    sum_zero : (xs : List ℕ) → sum_by (came_now []) xs ≡ 0
    sum_zero [] = refl
    sum_zero (x ∷ xs) = let rest = sum_zero xs in let first = sum_by-cons (came_now []) x xs in omega (arith, rest, first)

-- all bytes came on connections that have ended, or on those that numbers name now
pub bytes_together : (records : List Record) → HaveNumbers records → on_ended records + on_named records ≡ sizes_of records
bytes_together records numbers = (let all = go [] records (All-nil (λ (r : Record). IsNumber (connection_of r))) numbers in let none = bytes_none in omega (arith, all, none))
  where
    go : (earlier records : List Record) → HaveNumbers earlier → HaveNumbers records → on_ended (earlier ++ records) + on_named (earlier ++ records) ≡ on_ended earlier + on_named earlier + sizes_of records
    go earlier [] before all = rw (append-nil earlier) (omega arith)
    go earlier (r ∷ records) before all =
        let number = All-head (λ (q : Record). IsNumber (connection_of q)) r records all in
        let one = bytes_more earlier r number before in
        let rest = go (earlier ++ r ∷ []) records (All-push (λ (q : Record). IsNumber (connection_of q)) earlier r before number) (All-tail (λ (q : Record). IsNumber (connection_of q)) r records all) in
        let joined : on_ended (earlier ++ r ∷ records) + on_named (earlier ++ r ∷ records) ≡ on_ended ((earlier ++ r ∷ []) ++ records) + on_named ((earlier ++ r ∷ []) ++ records) =
        ap (λ l. on_ended l + on_named l) (sym (append_assoc earlier (r ∷ []) records)) in
        omega (arith, one, rest, joined, sum_by-cons size_of r records)

pub bytes_of_all_pieces : (v : Version) (start : ℕ) (records : List Record) → IsCapture v start records → sum_by (λ c. length (text_of c (used_once records))) (every_connection records) ≡ sizes_of records
bytes_of_all_pieces v start records rules = sum_over_all (came_on records) records ∙ bytes_together records (all_low v records rules.each)

-- ---- messages

abbrev counted : (Meaning → Bool) → Meaning → ℕ
counted p w = cond (p w) 1 0

of_methods : (w : Meaning) → counted is_request w ≡ counted (has_method (codes "GET")) w + counted (has_method (codes "HEAD")) w + counted has_other_method w
of_methods (Request method target version closing since) = go (bytes_eq method (codes "GET")) refl (bytes_eq method (codes "HEAD")) refl
  where
    go : (g : Bool) → bytes_eq method (codes "GET") ≡ g → (h : Bool) → bytes_eq method (codes "HEAD") ≡ h
        → 1 ≡ cond (bytes_eq method (codes "GET")) 1 0 + cond (bytes_eq method (codes "HEAD")) 1 0 + cond (not (bytes_eq method (codes "GET") || bytes_eq method (codes "HEAD"))) 1 0
    go true e true f = absurd (let same : method ≡ codes "GET" = (bytes_eq-Decides method (codes "GET")).0 e in let z : true ≡ false = sym f ∙ ap (λ m. bytes_eq m (codes "HEAD")) same in cc)
    go true e false f = rw (e, f) refl
    go false e true f = rw (e, f) refl
    go false e false f = rw (e, f) refl
of_methods (Bad fault) = refl

of_versions : (w : Meaning) → counted is_request w ≡ counted is_http10 w + counted is_http11 w
of_versions (Request method target Http10 closing since) = refl
of_versions (Request method target Http11 closing since) = refl
of_versions (Bad fault) = refl

of_faults : (w : Meaning) → 1 ≡ counted is_request w + counted is_too_long w + counted is_bad_block w + counted is_bad_host w + counted is_bad_coding w + counted is_bad_length w + counted is_bad_body_size w
of_faults (Request method target version closing since) = refl
of_faults (Bad TooLong) = refl
of_faults (Bad Block) = refl
of_faults (Bad Host) = refl
of_faults (Bad Coding) = refl
of_faults (Bad Length) = refl
of_faults (Bad BodySize) = refl

pub requests_by_method : (whats : List Meaning) → count_by is_request whats ≡ count_by (has_method (codes "GET")) whats + count_by (has_method (codes "HEAD")) whats + count_by has_other_method whats
requests_by_method [] = refl
requests_by_method (w ∷ whats) =
    let rest = requests_by_method whats in let e = of_methods w in
    let r = sum_by-cons (counted is_request) w whats in
    let g = sum_by-cons (counted (has_method (codes "GET"))) w whats in
    let h = sum_by-cons (counted (has_method (codes "HEAD"))) w whats in
    let o = sum_by-cons (counted has_other_method) w whats in
    omega (arith, rest, e, r, g, h, o)

pub requests_by_version : (whats : List Meaning) → count_by is_request whats ≡ count_by is_http10 whats + count_by is_http11 whats
requests_by_version whats = sum_both (counted is_http10) (counted is_http11) (counted is_request) whats of_versions

pub messages_of_one_kind : (whats : List Meaning) → length whats ≡ count_by is_request whats + count_by is_too_long whats + count_by is_bad_block whats + count_by is_bad_host whats + count_by is_bad_coding whats + count_by is_bad_length whats + count_by is_bad_body_size whats
messages_of_one_kind [] = refl
messages_of_one_kind (w ∷ whats) =
    let rest = messages_of_one_kind whats in let e = of_faults w in
    let r = sum_by-cons (counted is_request) w whats in
    let a = sum_by-cons (counted is_too_long) w whats in
    let b = sum_by-cons (counted is_bad_block) w whats in
    let c = sum_by-cons (counted is_bad_host) w whats in
    let d = sum_by-cons (counted is_bad_coding) w whats in
    let f = sum_by-cons (counted is_bad_length) w whats in
    let g = sum_by-cons (counted is_bad_body_size) w whats in
    omega (arith, rest, e, r, a, b, c, d, f, g)
