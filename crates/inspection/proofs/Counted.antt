-- The counts of one more record and of one more message.
use Rattle.std.proofs.Common.{◌≡◌, ℕ, ◌+◌, ◌-◌, ◌^◌, ◌<◌, Bool, true, false, cond, List, [], ◌∷◌, ◌++◌, length, map, take, get_or, refl, sym, ap, ◌∙◌, arith}
use Rattle.std.specs.Prelude.{bytes_eq, codes, count_by, Option}
use Rattle.std.proofs.lemmas.List.{length_push, append_assoc, map-append, take_more, length-append, length-map, length-take-le}
use Rattle.std.proofs.lemmas.List.Sums.{sum_by_push, count_by-le-length}
use Rattle.std.proofs.lemmas.Slice.Eq.{bytes_eq-Decides}
use Rattle.captures.specs.declared.record.Record.{Record}
use Rattle.captures.specs.declared.record.Record.TheVariants.{Piece, End, Tier}
use Rattle.http_requests.specs.declared.messages.Message.{Message}
use Rattle.http_requests.specs.declared.messages.Meaning.{Meaning}
use Rattle.http_requests.specs.declared.messages.Meaning.TheVariants.{Request, Bad}
use Rattle.http_requests.specs.declared.messages.HttpVersion.{HttpVersion}
use Rattle.http_requests.specs.declared.messages.HttpVersion.TheVariants.{Http10, Http11}
use Rattle.http_requests.specs.declared.messages.MessageFault.{MessageFault}
use Rattle.http_requests.specs.declared.messages.MessageFault.TheVariants.{TooLong, Block, Host, Coding, Length, BodySize}
use Rattle.inspection.specs.declared.counts.RecordCounts.{RecordCounts}
use Rattle.inspection.specs.declared.counts.MethodCounts.{MethodCounts}
use Rattle.inspection.specs.declared.counts.FaultCounts.{FaultCounts}
use Rattle.inspection.specs.declared.counts.MessageCounts.{MessageCounts}
use Rattle.inspection.specs.Figures.{is_piece, is_end, is_tier, records_by_kind, is_request, has_method, has_other_method, is_http10, is_http11, is_too_long, is_bad_block, is_bad_host, is_bad_coding, is_bad_length, is_bad_body_size, methods_by_kind, versions_by_kind, faults_by_kind, messages_by_kind}
use Rattle.inspection.specs.Running.{FewRecords, FewMessages, with_piece, with_end, with_tier, with_method, with_version, with_fault, with_message}

-- ---- one more of a list

one_more : {X : Type 0} (p : X → Bool) (xs : List X) (x : X) → p x ≡ true → count_by p (xs ++ x ∷ []) ≡ count_by p xs + 1
one_more p xs x h = sum_by_push (λ x. cond (p x) 1 0) xs x ∙ ap (λ b. count_by p xs + cond b 1 0) h

no_more : {X : Type 0} (p : X → Bool) (xs : List X) (x : X) → p x ≡ false → count_by p (xs ++ x ∷ []) ≡ count_by p xs
no_more p xs x h = let e = sum_by_push (λ x. cond (p x) 1 0) xs x ∙ ap (λ b. count_by p xs + cond b 1 0) h in omega (arith, e)

-- ---- records

same_records : (c d : RecordCounts) → c.all ≡ d.all → c.pieces ≡ d.pieces → c.ends ≡ d.ends → c.tiers ≡ d.tiers → c ≡ d
same_records c d a p e t = λ i. record { all = a i; pieces = p i; ends = e i; tiers = t i }

pub piece_counted : (records : List Record) (tick conn : ℕ) (bytes : List ℕ) → records_by_kind (records ++ Piece tick conn bytes ∷ []) ≡ with_piece (records_by_kind records)
piece_counted records tick conn bytes =
    let r = Piece tick conn bytes in
    same_records _ _ (length_push records r) (one_more is_piece records r refl) (no_more is_end records r refl) (no_more is_tier records r refl)

pub end_counted : (records : List Record) (tick conn : ℕ) → records_by_kind (records ++ End tick conn ∷ []) ≡ with_end (records_by_kind records)
end_counted records tick conn =
    let r = End tick conn in
    same_records _ _ (length_push records r) (no_more is_piece records r refl) (one_more is_end records r refl) (no_more is_tier records r refl)

pub tier_counted : (records : List Record) (conn tier : ℕ) → records_by_kind (records ++ Tier conn tier ∷ []) ≡ with_tier (records_by_kind records)
tier_counted records conn tier =
    let r = Tier conn tier in
    same_records _ _ (length_push records r) (no_more is_piece records r refl) (no_more is_end records r refl) (one_more is_tier records r refl)

pub few_records : (records : List Record) (n : ℕ) → length records < n → FewRecords n (records_by_kind records)
few_records records n h = record {
  all = h;
  pieces = (let c = count_by-le-length is_piece records in omega (arith, c, h));
  ends = (let c = count_by-le-length is_end records in omega (arith, c, h));
  tiers = (let c = count_by-le-length is_tier records in omega (arith, c, h));
}

-- ---- requests

same_methods : (c d : MethodCounts) → c.get ≡ d.get → c.head ≡ d.head → c.other ≡ d.other → c ≡ d
same_methods c d g h o = λ i. record { get = g i; head = h i; other = o i }

pub method_counted : (whats : List Meaning) (method target : List ℕ) (version : HttpVersion) (closing : Bool) (since : Option ℕ)
    → methods_by_kind (whats ++ Request method target version closing since ∷ []) ≡ with_method (methods_by_kind whats) method
method_counted whats method target version closing since = go (bytes_eq method (codes "GET")) refl (bytes_eq method (codes "HEAD")) refl
  where
    w : Meaning
    w = Request method target version closing since

    go : (g : Bool) → bytes_eq method (codes "GET") ≡ g → (h : Bool) → bytes_eq method (codes "HEAD") ≡ h → methods_by_kind (whats ++ w ∷ []) ≡ with_method (methods_by_kind whats) method
    go true e true f = absurd (let same : method ≡ codes "GET" = (bytes_eq-Decides method (codes "GET")).0 e in let z : true ≡ false = sym f ∙ ap (λ m. bytes_eq m (codes "HEAD")) same in cc)
    go true e false f = rw e (same_methods _ _ (one_more (has_method (codes "GET")) whats w e) (no_more (has_method (codes "HEAD")) whats w f) (no_more has_other_method whats w (rw e refl)))
    go false e true f = rw (e, f) (same_methods _ _ (no_more (has_method (codes "GET")) whats w e) (one_more (has_method (codes "HEAD")) whats w f) (no_more has_other_method whats w (rw (e, f) refl)))
    go false e false f = rw (e, f) (same_methods _ _ (no_more (has_method (codes "GET")) whats w e) (no_more (has_method (codes "HEAD")) whats w f) (one_more has_other_method whats w (rw (e, f) refl)))

versions_counted : (whats : List Meaning) (method target : List ℕ) (version : HttpVersion) (closing : Bool) (since : Option ℕ)
    → versions_by_kind (whats ++ Request method target version closing since ∷ []) ≡ with_version (versions_by_kind whats) version
versions_counted whats method target Http10 closing since =
    let w = Request method target Http10 closing since in λ i. record { http10 = one_more is_http10 whats w refl i; http11 = no_more is_http11 whats w refl i }
versions_counted whats method target Http11 closing since =
    let w = Request method target Http11 closing since in λ i. record { http10 = no_more is_http10 whats w refl i; http11 = one_more is_http11 whats w refl i }

-- ---- faults

same_faults : (c d : FaultCounts) → c.too_long ≡ d.too_long → c.block ≡ d.block → c.host ≡ d.host → c.coding ≡ d.coding → c.length ≡ d.length → c.body_size ≡ d.body_size → c ≡ d
same_faults c d t b h o l s = λ i. record { too_long = t i; block = b i; host = h i; coding = o i; length = l i; body_size = s i }

no_fault : (whats : List Meaning) (method target : List ℕ) (version : HttpVersion) (closing : Bool) (since : Option ℕ)
    → faults_by_kind (whats ++ Request method target version closing since ∷ []) ≡ faults_by_kind whats
no_fault whats method target version closing since =
    let w = Request method target version closing since in
    same_faults _ _ (no_more is_too_long whats w refl) (no_more is_bad_block whats w refl) (no_more is_bad_host whats w refl) (no_more is_bad_coding whats w refl) (no_more is_bad_length whats w refl) (no_more is_bad_body_size whats w refl)

fault_counted : (whats : List Meaning) (fault : MessageFault) → faults_by_kind (whats ++ Bad fault ∷ []) ≡ with_fault (faults_by_kind whats) fault
fault_counted whats TooLong =
    let w = Bad TooLong in
    same_faults _ _ (one_more is_too_long whats w refl) (no_more is_bad_block whats w refl) (no_more is_bad_host whats w refl) (no_more is_bad_coding whats w refl) (no_more is_bad_length whats w refl) (no_more is_bad_body_size whats w refl)
fault_counted whats Block =
    let w = Bad Block in
    same_faults _ _ (no_more is_too_long whats w refl) (one_more is_bad_block whats w refl) (no_more is_bad_host whats w refl) (no_more is_bad_coding whats w refl) (no_more is_bad_length whats w refl) (no_more is_bad_body_size whats w refl)
fault_counted whats Host =
    let w = Bad Host in
    same_faults _ _ (no_more is_too_long whats w refl) (no_more is_bad_block whats w refl) (one_more is_bad_host whats w refl) (no_more is_bad_coding whats w refl) (no_more is_bad_length whats w refl) (no_more is_bad_body_size whats w refl)
fault_counted whats Coding =
    let w = Bad Coding in
    same_faults _ _ (no_more is_too_long whats w refl) (no_more is_bad_block whats w refl) (no_more is_bad_host whats w refl) (one_more is_bad_coding whats w refl) (no_more is_bad_length whats w refl) (no_more is_bad_body_size whats w refl)
fault_counted whats Length =
    let w = Bad Length in
    same_faults _ _ (no_more is_too_long whats w refl) (no_more is_bad_block whats w refl) (no_more is_bad_host whats w refl) (no_more is_bad_coding whats w refl) (one_more is_bad_length whats w refl) (no_more is_bad_body_size whats w refl)
fault_counted whats BodySize =
    let w = Bad BodySize in
    same_faults _ _ (no_more is_too_long whats w refl) (no_more is_bad_block whats w refl) (no_more is_bad_host whats w refl) (no_more is_bad_coding whats w refl) (no_more is_bad_length whats w refl) (one_more is_bad_body_size whats w refl)

-- ---- messages

same_messages : (c d : MessageCounts) → c.all ≡ d.all → c.requests ≡ d.requests → c.methods ≡ d.methods → c.versions ≡ d.versions → c.faults ≡ d.faults → c ≡ d
same_messages c d a r m v f = λ i. record { all = a i; requests = r i; methods = m i; versions = v i; faults = f i }

no_method : (whats : List Meaning) (fault : MessageFault) → methods_by_kind (whats ++ Bad fault ∷ []) ≡ methods_by_kind whats
no_method whats fault =
    let w = Bad fault in
    same_methods _ _ (no_more (has_method (codes "GET")) whats w refl) (no_more (has_method (codes "HEAD")) whats w refl) (no_more has_other_method whats w refl)

no_version : (whats : List Meaning) (fault : MessageFault) → versions_by_kind (whats ++ Bad fault ∷ []) ≡ versions_by_kind whats
no_version whats fault = let w = Bad fault in λ i. record { http10 = no_more is_http10 whats w refl i; http11 = no_more is_http11 whats w refl i }

pub message_counted : (whats : List Meaning) (what : Meaning) → messages_by_kind (whats ++ what ∷ []) ≡ with_message (messages_by_kind whats) what
message_counted whats (Request method target version closing since) =
    let w = Request method target version closing since in
    same_messages _ _ (length_push whats w) (one_more is_request whats w refl) (method_counted whats method target version closing since) (versions_counted whats method target version closing since) (no_fault whats method target version closing since)
message_counted whats (Bad fault) =
    let w = Bad fault in
    same_messages _ _ (length_push whats w) (no_more is_request whats w refl) (no_method whats fault) (no_version whats fault) (fault_counted whats fault)

pub few_messages : (whats : List Meaning) (n : ℕ) → length whats < n → FewMessages n (messages_by_kind whats)
few_messages whats n h =
    let below : (p : Meaning → Bool) → count_by p whats < n = λ p. (let c = count_by-le-length p whats in omega (arith, c, h)) in
    record {
      all = h;
      requests = below is_request;
      methods = record { get = below (has_method (codes "GET")); head = below (has_method (codes "HEAD")); other = below has_other_method };
      versions = record { http10 = below is_http10; http11 = below is_http11 };
      faults = record {
        too_long = below is_too_long;
        block = below is_bad_block;
        host = below is_bad_host;
        coding = below is_bad_coding;
        length = below is_bad_length;
        body_size = below is_bad_body_size;
      };
    }

-- ---- the loop over messages

abbrev what_of : Message → Meaning
what_of m = m.what

pub counted_more : (whats : List Meaning) (ms : List Message) (i : ℕ) (m : Message) (old new : MessageCounts) → i < length ms → m.what ≡ (get_or ms i m).what
    → old ≡ messages_by_kind (whats ++ map (λ m. m.what) (take i ms)) → new ≡ with_message old m.what
    → new ≡ messages_by_kind (whats ++ map (λ m. m.what) (take (i + 1) ms))
counted_more whats ms i m old new lt same before one =
    let step : map what_of (take (i + 1) ms) ≡ map what_of (take i ms) ++ (get_or ms i m).what ∷ [] = ap (map what_of) (take_more ms i m lt) ∙ map-append what_of (take i ms) (get_or ms i m ∷ []) in
    let all : whats ++ map what_of (take (i + 1) ms) ≡ (whats ++ map what_of (take i ms)) ++ m.what ∷ [] =
    ap (λ l. whats ++ l) step ∙ sym (append_assoc whats (map what_of (take i ms)) ((get_or ms i m).what ∷ [])) ∙ ap (λ x. (whats ++ map what_of (take i ms)) ++ x ∷ []) (sym same) in
    one ∙ ap (λ c. with_message c m.what) before ∙ sym (message_counted (whats ++ map what_of (take i ms)) m.what) ∙ ap messages_by_kind (sym all)

pub few_at : (whats : List Meaning) (ms : List Message) (i : ℕ) (c : MessageCounts) → i < length ms → length whats + length ms < 2 ^ 64
    → c ≡ messages_by_kind (whats ++ map (λ m. m.what) (take i ms)) → FewMessages (2 ^ 64 - 1) c
few_at whats ms i c lt few is =
    let n : length (whats ++ map what_of (take i ms)) ≡ length whats + i = length-append whats (map what_of (take i ms)) ∙ ap (λ k. length whats + k) (length-map (take i ms) what_of ∙ length-take-le i ms (omega (arith, lt))) in
    rw is (few_messages (whats ++ map what_of (take i ms)) (2 ^ 64 - 1) (omega (arith, n, lt, few)))
