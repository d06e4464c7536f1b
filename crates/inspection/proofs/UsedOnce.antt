-- The figures of a capture, in which each number names one connection.
use Rattle.std.proofs.Common.{◌≡◌, ◌≢◌, ℕ, ◌+◌, ◌*◌, ◌≤◌, cond, false, List, [], ◌∷◌, ◌++◌, length, flat_map, get_or, refl, sym, ap, ◌∙◌, subst, arith, nat_lt, append-nil}
use Rattle.std.specs.Prelude.{sum_by, All}
use Rattle.std.specs.List.{AllPairs}
use Rattle.std.proofs.lemmas.Grind.{flat_map-append}
use Rattle.std.proofs.lemmas.List.{append_assoc, length-append, get_or_append_left}
use Rattle.std.proofs.lemmas.List.Elements.{All-head, All-tail, All-weaker}
use Rattle.std.proofs.lemmas.List.Sums.{sum_by_push, sum_by-cons}
use Rattle.std.proofs.Math.Seq.{get_or-append_seam}
use Rattle.captures.specs.declared.record.Record.{Record}
use Rattle.captures.specs.declared.record.Record.TheVariants.{Piece, End, Tier}
use Rattle.captures.specs.declared.version.Version.{Version}
use Rattle.captures.specs.declared.version.Version.TheVariants.{One, Two, Traffic}
use Rattle.captures.specs.Reference.{format_of, connection_of, connection_now, is_end_of, ends_for_good, used_once, IsCapture}
use Rattle.captures.proofs.Lives.{ends_of, all_low, same_connection, next_connection}
use Rattle.captures.proofs.UpgradeLaws.{numbers_once}
use Rattle.http_requests.specs.declared.messages.Message.{Message}
use Rattle.arrivals.specs.Reference.{Arrival, AreArrivals, text_of, messages_of}
use Rattle.arrivals.specs.Connections.{HaveNumbers, IsNumber}
use Rattle.arrivals.proofs.Arriving.{no_text, no_messages}
use Rattle.inspection.specs.Figures.{share_over, every_number, every_connection, ended, ended_by, received, after_close, unfinished, bytes_after_close, bytes_unfinished}
use Rattle.inspection.proofs.Named.{same_after_end}
use Rattle.inspection.proofs.Everyone.{same_numbers, one_number, sum_over_all}

-- nothing of a number comes after its end
abbrev EndsLast : List Record → Type 0
EndsLast records = AllPairs (λ r s. is_end_of (connection_of s) r ≡ false) records

ends_last : (v : Version) (start : ℕ) (records : List Record) → (format_of v).used_again ≡ false → IsCapture v start records → EndsLast records
ends_last v start records once rules = λ i j d lt below. sym (for_good v (connection_of (get_or records j d)) (get_or records i d) once) ∙ rules.ends_last i j d lt below
  where
    for_good : (v : Version) (c : ℕ) (r : Record) → (format_of v).used_again ≡ false → ends_for_good v c r ≡ is_end_of c r
    for_good One c r h = refl
    for_good Two c r h = refl
    for_good Traffic c r h = absurd cc

abbrev ends_in : ℕ → Record → ℕ
ends_in c r = cond (is_end_of c r) 1 0

no_end_before : (earlier records : List Record) (r : Record) → EndsLast (earlier ++ r ∷ records) → ends_of (connection_of r) earlier ≡ 0
no_end_before earlier records r last = none earlier before
  where
    before : All (λ q. is_end_of (connection_of r) q ≡ false) earlier
    before = λ i d lt. (
        let all = earlier ++ r ∷ records in
        let pair = last i (length earlier) d lt (omega (arith, length-append earlier (r ∷ records))) in
        let left : get_or all i d ≡ get_or earlier i d = get_or_append_left earlier (r ∷ records) d i lt in
        let right : get_or all (length earlier) d ≡ r = get_or-append_seam earlier r records d in
        rw (left, right) at pair)

    none : (rs : List Record) → All (λ q. is_end_of (connection_of r) q ≡ false) rs → ends_of (connection_of r) rs ≡ 0
    none [] all = refl
    none (q ∷ rs) all =
        let first : ends_in (connection_of r) q ≡ 0 = ap (λ b. cond b 1 0) (All-head (λ q. is_end_of (connection_of r) q ≡ false) q rs all) in
        let rest = none rs (All-tail (λ q. is_end_of (connection_of r) q ≡ false) q rs all) in
        omega (arith, sum_by-cons (ends_in (connection_of r)) q rs, first, rest)

-- ---- sums

-- the sum over the connections that have ended, and those that numbers name now
abbrev over_both : (ℕ → ℕ) → List Record → ℕ
over_both f records = sum_by f (flat_map ended_by records) + sum_by (λ c. f (connection_now c records)) every_number

-- f counts nothing on connections beyond the numbers
abbrev IsOnNumbers : (ℕ → ℕ) → Type 0
IsOnNumbers f = (c : ℕ) → 65536 ≤ c → f c ≡ 0

both_end : (f : ℕ → ℕ) (tick conn : ℕ) (records : List Record) → IsOnNumbers f → IsNumber conn → ends_of conn records ≡ 0 → over_both f (records ++ End tick conn ∷ []) ≡ over_both f records
both_end f tick conn records only low fresh =
    let more = records ++ End tick conn ∷ [] in
    let gone : sum_by f (flat_map ended_by more) ≡ sum_by f (flat_map ended_by records) + f conn =
    ap (sum_by f) (flat_map-append ended_by records (End tick conn ∷ [])) ∙ sum_by_push f (flat_map ended_by records) conn in
    let one = one_number (λ c. f (connection_now c records)) (λ c. f (connection_now c more)) conn low (λ c less apart. ap f (same_after_end c tick conn records apart)) in
    let own : f (connection_now conn records) ≡ f conn = ap f (omega (arith, fresh)) in
    let next : f (connection_now conn more) ≡ 0 = ap f (next_connection conn tick records) ∙ only (conn + 65536 * (ends_of conn records + 1)) (omega arith) in
    omega (arith, gone, one, own, next)

both_same : (f : ℕ → ℕ) (records : List Record) (r : Record) → ended_by r ≡ [] → ((c : ℕ) → is_end_of c r ≡ false) → over_both f (records ++ r ∷ []) ≡ over_both f records
both_same f records r none goes_on =
    let gone : sum_by f (flat_map ended_by (records ++ r ∷ [])) ≡ sum_by f (flat_map ended_by records) =
    ap (sum_by f) (flat_map-append ended_by records (r ∷ []) ∙ ap (λ l. flat_map ended_by records ++ (l ++ [])) none ∙ append-nil (flat_map ended_by records)) in
    let named = same_numbers (λ c. f (connection_now c (records ++ r ∷ []))) (λ c. f (connection_now c records)) (λ c low. ap f (same_connection c records r (goes_on c))) in
    omega (arith, gone, named)

both_none : (f : ℕ → ℕ) → over_both f [] ≡ sum_by f every_number
both_none f = (let named = same_numbers (λ c. f (connection_now c [])) f (λ c low. ap f (omega arith)) in omega (arith, named))

both_are : (f : ℕ → ℕ) (records : List Record) → IsOnNumbers f → HaveNumbers records → EndsLast records → over_both f records ≡ sum_by f every_number
both_are f records only numbers last = go [] records numbers last ∙ both_none f
  where
    step : (earlier records : List Record) (r : Record) → IsNumber (connection_of r) → EndsLast (earlier ++ r ∷ records) → over_both f (earlier ++ r ∷ []) ≡ over_both f earlier
    step earlier records (Piece tick conn bytes) low apart = both_same f earlier (Piece tick conn bytes) refl (λ c. refl)
    step earlier records (End tick conn) low apart = both_end f tick conn earlier only low (no_end_before earlier records (End tick conn) apart)
    step earlier records (Tier conn tier) low apart = both_same f earlier (Tier conn tier) refl (λ c. refl)

    go : (earlier records : List Record) → HaveNumbers records → EndsLast (earlier ++ records) → over_both f (earlier ++ records) ≡ over_both f earlier
    go earlier [] all apart = ap (over_both f) (append-nil earlier)
    go earlier (r ∷ records) all apart =
        let one = step earlier records r (All-head (λ (q : Record). IsNumber (connection_of q)) r records all) apart in
        let joined = append_assoc earlier (r ∷ []) records in
        let rest = go (earlier ++ r ∷ []) records (All-tail (λ (q : Record). IsNumber (connection_of q)) r records all) (subst EndsLast (sym joined) apart) in
        ap (over_both f) (sym joined) ∙ rest ∙ one

-- ---- shares

-- a figure counts the texts and the messages of numbers
abbrev on_numbers : (List ℕ → List Message → ℕ) → List Record → List Arrival → ℕ → ℕ
on_numbers F records arrivals c = F (text_of c records) (messages_of c arrivals)

sum_once : (f : ℕ → ℕ) (records : List Record) → IsOnNumbers f → HaveNumbers records → EndsLast records → used_once records ≡ records → sum_by f (every_connection records) ≡ sum_by f every_number
sum_once f records only numbers last once =
    let gone : sum_by f (ended records) ≡ sum_by f (flat_map ended_by records) = ap (λ rs. sum_by f (flat_map ended_by rs)) once in
    let all = both_are f records only numbers last in
    omega (arith, gone, all, sum_over_all f records)

share_once : (f : ℕ → ℕ) (records : List Record) → IsOnNumbers f → HaveNumbers records → EndsLast records → used_once records ≡ records → share_over f (every_connection records) ≡ share_over f every_number
share_once f records only numbers last once =
    let bytes = sum_once f records only numbers last once in
    let connections = sum_once (λ c. cond (nat_lt 0 (f c)) 1 0) records (λ c beyond. ap (λ n. cond (nat_lt 0 n) 1 0) (only c beyond)) numbers last once in
    λ i. record { bytes = bytes i; connections = connections i }

-- no text comes on a connection beyond the numbers
text_beyond : (c : ℕ) (records : List Record) → HaveNumbers records → 65536 ≤ c → text_of c records ≡ []
text_beyond c records numbers beyond =
    no_text c records (All-weaker (λ (r : Record). IsNumber (connection_of r)) (λ r. connection_of r ≢ c) (λ r low e. (omega (arith, low, beyond, e))) records numbers)

figure_once : (F : List ℕ → List Message → ℕ) (v : Version) (start : ℕ) (records : List Record) (arrivals : List Arrival) → IsCapture v start records → (format_of v).used_again ≡ false → F [] [] ≡ 0
    → ((c : ℕ) → 65536 ≤ c → on_numbers F records arrivals c ≡ F [] [])
    → share_over (on_numbers F (used_once records) arrivals) (every_connection records) ≡ share_over (on_numbers F records arrivals) every_number
figure_once F v start records arrivals rules again nothing beyond =
    let once = numbers_once v start records again rules in
    let numbers = all_low v records rules.each in
    ap (λ rs. share_over (on_numbers F rs arrivals) (every_connection records)) once
    ∙ share_once (on_numbers F records arrivals) records (λ c far. beyond c far ∙ nothing) numbers (ends_last v start records again rules) once

pub received_once : (v : Version) (start : ℕ) (records : List Record) → IsCapture v start records → (format_of v).used_again ≡ false → received records ≡ share_over (λ c. length (text_of c records)) every_number
received_once v start records rules again =
    figure_once (λ text list. length text) v start records [] rules again refl (λ c far. ap length (text_beyond c records (all_low v records rules.each) far))

arrived_beyond : (F : List ℕ → List Message → ℕ) (v : Version) (start : ℕ) (records : List Record) (arrivals : List Arrival) → IsCapture v start records → AreArrivals records arrivals
    → (c : ℕ) → 65536 ≤ c → on_numbers F records arrivals c ≡ F [] []
arrived_beyond F v start records arrivals rules arrived c far =
    let text = text_beyond c records (all_low v records rules.each) far in
    let messages : messages_of c arrivals ≡ [] = no_messages (messages_of c arrivals) (rw text at (arrived.each c)) in
    λ i. F (text i) (messages i)

pub after_close_once : (v : Version) (start : ℕ) (records : List Record) (arrivals : List Arrival) → IsCapture v start records → (format_of v).used_again ≡ false → AreArrivals records arrivals
    → after_close records arrivals ≡ share_over (λ c. bytes_after_close (text_of c records) (messages_of c arrivals)) every_number
after_close_once v start records arrivals rules again arrived =
    figure_once bytes_after_close v start records arrivals rules again refl (arrived_beyond bytes_after_close v start records arrivals rules arrived)

pub unfinished_once : (v : Version) (start : ℕ) (records : List Record) (arrivals : List Arrival) → IsCapture v start records → (format_of v).used_again ≡ false → AreArrivals records arrivals
    → unfinished records arrivals ≡ share_over (λ c. bytes_unfinished (text_of c records) (messages_of c arrivals)) every_number
unfinished_once v start records arrivals rules again arrived =
    figure_once bytes_unfinished v start records arrivals rules again refl (arrived_beyond bytes_unfinished v start records arrivals rules arrived)
