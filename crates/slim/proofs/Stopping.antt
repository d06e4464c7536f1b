-- What a pass has written where it stops.
use Rattle.std.proofs.Common.{◌≡◌, ℕ, ◌+◌, ◌*◌, ◌<◌, ◌≤◌, inl, inr, List, [], ◌∷◌, ◌++◌, length, flat_map, Option, Result, Ok, Err, refl, sym, ap, ◌∙◌, subst, arith, codes, decimal, unwrap_or, IfErr, OnOk, append-nil}
use Rattle.std.specs.Io.KnownBytes.{Appends}
use Rattle.std.proofs.lemmas.List.{append_assoc, length-append}
use Rattle.std.proofs.lemmas.Grind.{flat_map-append}
use Rattle.devices.proofs.Appending.{appends_then, prefix_then}
use Rattle.devices.specs.Reference.{line_feed, WhereKnown}
use Rattle.devices.specs.Devices.{AppendsPrefix, WritesPrefix}
use Rattle.captures.specs.declared.version.Version.{Version}
use Rattle.captures.specs.declared.version.Version.TheVariants.{One, Two, Traffic}
use Rattle.std.proofs.lemmas.List.Sums.{sum_by_push}
use Rattle.captures.specs.declared.record.Record.{Record}
use Rattle.captures.specs.declared.progress.Progress.{Progress}
use Rattle.captures.specs.declared.capture_fault.CaptureFault.{CaptureFault}
use Rattle.captures.specs.declared.capture_fault.CaptureFaultKind.TheVariants as kinds
use Rattle.captures.specs.declared.pass_fault.PassFault.{PassFault}
use Rattle.captures.specs.declared.pass_fault.PassFault.TheVariants.{Capture}
use Rattle.captures.specs.Reference.{capture_text, first_line, last_line, record_text, text_before_stop, format_of, used_once, connection_of, IsCapture, IsCaptureText}
use Rattle.captures.specs.CaptureFaults.{IsForeseen, IsHeaderFault, longest_text}
use Rattle.captures.specs.Captures.{size_of, sizes_of}
use Rattle.captures.specs.Readers.{ReaderAfter, Gave, FailsFirst, FailsNext}
use Rattle.captures.proofs.PassLemmas.{reads_of, faults_next, leaves_by, leaves_part, reports}
use Rattle.captures.proofs.Lives.{is_low}
use Rattle.captures.proofs.UpgradeLaws.{rules_widen}
use Rattle.slim.proofs.Growth.{grows, grows_before}
use Rattle.slim.proofs.Ruled.{slim_rules}
use Rattle.captures.specs.Passes.{StopsAt, pass_fault, IsWriteOrMemory}
use Rattle.captures.specs.Upgrades.{later}
use Rattle.std.proofs.Math.Seq.{get_or-append_seam}
use Rattle.arrivals.specs.Reference.{Arrival, AreArrivals}
use Rattle.arrivals.specs.Connections.{IsNumber}
use Rattle.arrivals.specs.declared.connections.Connection.{Connection}
use Rattle.slim.specs.Slims.{slim_from, slim_records, slim_text, slimmed, slim_before_stop, most_growth, Slims, WritesRead, IsCutShort, Leaves}
use Rattle.slim.specs.Targets.{kept_arrivals}
use Rattle.slim.specs.declared.queries.Queries.{Queries}
use Rattle.slim.proofs.KeptTargets.{kept_seen}
use Rattle.slim.specs.Steps.{Kept, StandsMore}

-- ---- what is written

none_yet : (queries : Queries) → slimmed queries [] [] ≡ []
unfolding slim_records slim_from kept_arrivals
none_yet queries = refl

as_first : (queries : Queries) (w : Version) (start : ℕ) → slim_before_stop queries w start [] [] ≡ first_line w start ++ line_feed ∷ []
as_first queries w start = ap (text_before_stop w start) (none_yet queries) ∙ append-nil (first_line w start ++ line_feed ∷ [])

pub first_slims : (queries : Queries) (w : Version) (start : ℕ) (old new : Option (List ℕ)) → Appends old new (first_line w start ++ line_feed ∷ []) → Appends old new (slim_before_stop queries w start [] [])
first_slims queries w start old new h = subst (λ (l : List ℕ). Appends old new l) (sym (as_first queries w start)) h

pub first_slims_part : (queries : Queries) (w : Version) (start : ℕ) (old new : Option (List ℕ)) → AppendsPrefix old new (first_line w start ++ line_feed ∷ []) → AppendsPrefix old new (slim_before_stop queries w start [] [])
first_slims_part queries w start old new h = subst (λ (l : List ℕ). AppendsPrefix old new l) (sym (as_first queries w start)) h

pub count_none : (queries : Queries) → 0 ≡ length (slimmed queries [] [])
count_none queries = ap length (sym (none_yet queries))

longer : (w : Version) (start : ℕ) (records more : List Record) → text_before_stop w start (records ++ more) ≡ text_before_stop w start records ++ flat_map record_text more
longer w start records more =
    ap (λ t. (first_line w start ++ line_feed ∷ []) ++ t) (flat_map-append record_text records more)
    ∙ sym (append_assoc (first_line w start ++ line_feed ∷ []) (flat_map record_text records) (flat_map record_text more))

as_more : (queries : Queries) (w : Version) (start : ℕ) (records : List Record) (arrivals : List Arrival) (r : Record) (more : List Record) (connections : List Connection) (s : StandsMore queries records arrivals r more connections)
    → slim_before_stop queries w start (records ++ r ∷ []) (arrivals ++ s.came) ≡ slim_before_stop queries w start records arrivals ++ flat_map record_text more
as_more queries w start records arrivals r more connections s = ap (text_before_stop w start) s.more_is ∙ longer w start (slimmed queries records arrivals) more

pub more_slims : (queries : Queries) (w : Version) (start : ℕ) (records : List Record) (arrivals : List Arrival) (r : Record) (more : List Record) (connections : List Connection) (old mid new : Option (List ℕ))
    → (s : StandsMore queries records arrivals r more connections) → Appends mid new (flat_map record_text more) → Appends old mid (slim_before_stop queries w start records arrivals)
    → Appends old new (slim_before_stop queries w start (records ++ r ∷ []) (arrivals ++ s.came))
more_slims queries w start records arrivals r more connections old mid new s written before =
    subst (λ (l : List ℕ). Appends old new l) (sym (as_more queries w start records arrivals r more connections s)) (appends_then old mid new _ _ before written)

pub more_count : (queries : Queries) (count n : ℕ) (records : List Record) (arrivals : List Arrival) (r : Record) (more : List Record) (connections : List Connection)
    → (s : StandsMore queries records arrivals r more connections) → n ≡ length more → count ≡ length (slimmed queries records arrivals) → count + n ≡ length (slimmed queries (records ++ r ∷ []) (arrivals ++ s.came))
more_count queries count n records arrivals r more connections s n_is is =
    let len = length-append (slimmed queries records arrivals) more in
    let same : length (slimmed queries (records ++ r ∷ []) (arrivals ++ s.came)) ≡ length (slimmed queries records arrivals ++ more) = ap length s.more_is in
    omega (arith, is, len, same, n_is)

pub count_more : (count n : ℕ) (records : List Record) (r : Record) → count ≤ sizes_of records + length records → n ≤ size_of r + 1 → count + n ≤ sizes_of (records ++ r ∷ []) + length (records ++ r ∷ [])
count_more count n records r le few =
    let s = sum_by_push size_of records r in let l = length-append records (r ∷ []) in omega (arith, le, few, s, l)

-- ---- the capacity for it

length_more : (queries : Queries) (w : Version) (start : ℕ) (records : List Record) (arrivals : List Arrival) (r : Record) (more : List Record) (connections : List Connection) (s : StandsMore queries records arrivals r more connections)
    → length (slim_before_stop queries w start (records ++ r ∷ []) (arrivals ++ s.came)) ≡ length (slim_before_stop queries w start records arrivals) + length (flat_map record_text more)
length_more queries w start records arrivals r more connections s =
    ap length (as_more queries w start records arrivals r more connections s) ∙ length-append (slim_before_stop queries w start records arrivals) (flat_map record_text more)

pub first_room : (queries : Queries) (w : Version) (start capacity : ℕ) → length (first_line w start ++ line_feed ∷ []) + capacity ≡ (format_of w).max_text_bytes
    → length (slim_before_stop queries w start [] []) + capacity ≡ (format_of w).max_text_bytes
first_room queries w start capacity is = ap (λ l. length l + capacity) (as_first queries w start) ∙ is

pub more_room : (queries : Queries) (w : Version) (start capacity left : ℕ) (records : List Record) (arrivals : List Arrival) (r : Record) (more : List Record) (connections : List Connection)
    → (s : StandsMore queries records arrivals r more connections) → length (slim_before_stop queries w start records arrivals) + capacity ≡ (format_of w).max_text_bytes → length (flat_map record_text more) + left ≡ capacity
    → length (slim_before_stop queries w start (records ++ r ∷ []) (arrivals ++ s.came)) + left ≡ (format_of w).max_text_bytes
more_room queries w start capacity left records arrivals r more connections s is fits =
    let len = length_more queries w start records arrivals r more connections s in
    omega (arith, is, fits, len)

-- ---- where it stops

pub slim_stops_first : (queries : Queries) (to : Version) (text ahead old : Option (List ℕ)) (f : CaptureFault) → f.at ≡ 0 → IsForeseen IsHeaderFault text f → FailsFirst text f ahead
    → StopsAt text ahead (old ≡ old) (λ read. WritesRead queries to old old read) f
slim_stops_first queries to text ahead old f at h failed = inl (record { at = at; fault = λ foreseen known. h known foreseen; failed = failed }, refl)

-- where memory can't have run out
pub slim_leaves_first : (queries : Queries) (to : Version) (input ahead old new : Option (List ℕ)) (f : CaptureFault) → StopsAt input ahead (new ≡ old) (λ read. WritesRead queries to old new read) f → (f.kind ≡ kinds.Memory → ⊥)
    → Leaves queries to input ahead old new (pass_fault f)
slim_leaves_first queries to input ahead old new f stops other = elim (reports f) [
  | inl m ↦ absurd (other m.0)
  | inr c ↦ subst (λ (u : PassFault). Leaves queries to input ahead old new u) (sym c.1) (inl (c.0, stops))
]

pub slim_stops_after : (queries : Queries) (to : Version) (v : Version) (text now ahead old new : Option (List ℕ)) (start : ℕ) (records : List Record) (arrivals : List Arrival) (p q : Progress) (f : CaptureFault)
    → ReaderAfter v text start records p now → AreArrivals (used_once records) arrivals
    → Appends old new (slim_before_stop queries (later to v) start records arrivals) → Gave v text start records (Err f) q ahead → FailsNext v text start records (Err f) ahead
    → StopsAt text ahead (new ≡ old) (λ read. WritesRead queries to old new read) f
slim_stops_after queries to v text now ahead old new start records arrivals p q f fits arrived written gave fails = inr (
  reads_of v text now start records p fits,
  faults_next v text now ahead start records p q f fits gave fails,
  record { arrivals = arrivals; arrived = arrived; written = written },
)

pub slim_cut : (queries : Queries) (to : Version) (v : Version) (text now old new : Option (List ℕ)) (start : ℕ) (records : List Record) (arrivals : List Arrival) (p : Progress) → ReaderAfter v text start records p now
    → AreArrivals (used_once records) arrivals → AppendsPrefix old new (slim_before_stop queries (later to v) start records arrivals) → IsCutShort queries to text old new
slim_cut queries to v text now old new start records arrivals p fits arrived written =
    inl (reads_of v text now start records p fits, record { arrivals = arrivals; arrived = arrived; written = written })

-- a write failed within the slim records of one more record, or memory ran out
pub slim_cut_within : (queries : Queries) (to : Version) (v : Version) (text now old mid new : Option (List ℕ)) (start : ℕ) (records : List Record) (arrivals : List Arrival) (r : Record) (more : List Record) (connections : List Connection) (p : Progress)
    → ReaderAfter v text start (records ++ r ∷ []) p now → StandsMore queries records arrivals r more connections → AppendsPrefix mid new (flat_map record_text more)
    → Appends old mid (slim_before_stop queries (later to v) start records arrivals) → IsCutShort queries to text old new
slim_cut_within queries to v text now old mid new start records arrivals r more connections p fits s part before =
    slim_cut queries to v text now old new start (records ++ r ∷ []) (arrivals ++ s.came) p fits s.stands.arrived
    (subst (λ (l : List ℕ). AppendsPrefix old new l) (sym (as_more queries (later to v) start records arrivals r more connections s)) (prefix_then old mid new _ _ before part))

pub slim_reported : (queries : Queries) (to : Version) (input ahead old new : Option (List ℕ)) (f : CaptureFault) → StopsAt input ahead (new ≡ old) (λ read. WritesRead queries to old new read) f → IsCutShort queries to input old new
    → Leaves queries to input ahead old new (pass_fault f)
slim_reported queries to input ahead old new f stops cut = inl (leaves_by input ahead _ _ _ _ f stops cut)

pub slim_own : (queries : Queries) (to : Version) (input ahead old new : Option (List ℕ)) (f : PassFault) → IsWriteOrMemory f → IsCutShort queries to input old new → Leaves queries to input ahead old new f
slim_own queries to input ahead old new f own cut = inl (leaves_part input ahead _ _ _ _ f own cut)

-- there was no room for the slim records of one more record
pub slim_over : (queries : Queries) (to : Version) (v : Version) (text now after ahead old new : Option (List ℕ)) (start at capacity count : ℕ) (records : List Record) (arrivals : List Arrival) (r : Record) (more : List Record)
    (connections : List Connection) (p q : Progress) → ReaderAfter v text start records p now → ReaderAfter v text start (records ++ r ∷ []) q after → AreArrivals (used_once records) arrivals
    → StandsMore queries records arrivals r more connections → Appends old new (slim_before_stop queries (later to v) start records arrivals)
    → count ≡ length (slimmed queries records arrivals) → count ≤ sizes_of records + length records → at ≡ length records + 1
    → length (slim_before_stop queries (later to v) start records arrivals) + capacity ≡ (format_of (later to v)).max_text_bytes → capacity < length (flat_map record_text more)
    → Leaves queries to text ahead old new (Capture (record { at = at; kind = kinds.TooLarge }))
slim_over queries to v text now after ahead old new start at capacity count records arrivals r more connections p q fits fits_more arrived s written is few at_is room_is over =
    let all : List Record = records ++ r ∷ [] in
    let came : List Arrival = arrivals ++ s.came in
    let len = length_more queries (later to v) start records arrivals r more connections s in
    let counted = more_count queries count (length more) records arrivals r more connections s refl is in
    let most = count_more count (length more) records r few s.few in
    let ruled = slim_rules v start all (kept_arrivals queries came) s.stands.kept.short fits_more.rules in
    let grown = grows_before v (later to v) start all (slimmed queries all came) fits_more.rules.in_time (rules_widen to v start (slimmed queries all came) ruled.0).each ruled.1 (omega (arith, counted, most)) in
    inr (
      record { at = at; kind = kinds.TooLarge },
      refl,
      record {
        read = reads_of v text now start records p fits;
        over = inl (
          r,
          record {
            begins = λ known. (unwrap_or after [], fits_more.taken known);
            arrivals = came;
            arrived = s.stands.arrived;
            size = omega (arith, grown);
            over = omega (arith, len, room_is, over);
          },
        );
        fault = ap (λ n. record { at = n; kind = kinds.TooLarge }) at_is;
        stands = record { arrivals = arrivals; arrived = arrived; written = written };
      },
    )

-- ---- the end

counted : (n : ℕ) (records : List Record) → n ≡ length records → (codes "stop " ++ decimal n) ++ line_feed ∷ [] ≡ last_line records ++ line_feed ∷ []
counted n records e = ap (λ m. (codes "stop " ++ decimal m) ++ line_feed ∷ []) e

pub slim_part_end : (queries : Queries) (to : Version) (r : Result Unit PassFault) (v : Version) (text ahead old mid new : Option (List ℕ)) (start n : ℕ) (records : List Record) (arrivals : List Arrival)
    → n ≡ length (slimmed queries records arrivals) → IsCapture v start records → AreArrivals (used_once records) arrivals
    → Appends old mid (slim_before_stop queries (later to v) start records arrivals) → WhereKnown text (λ bytes. IsCaptureText v bytes start records) → WritesPrefix mid new r ((codes "stop " ++ decimal n) ++ line_feed ∷ [])
    → IfErr r IsWriteOrMemory → IfErr r (Leaves queries to text ahead old new)
slim_part_end queries to (Ok x) v text ahead old mid new start n records arrivals is rules arrived before c h own = tt
slim_part_end queries to (Err f) v text ahead old mid new start n records arrivals is rules arrived before c h own = slim_own queries to text ahead old new f own (inr (record {
  capture = record { version = v; start = start; records = records; rules = rules; text = c };
  arrivals = arrivals;
  arrived = arrived;
  written = prefix_then old mid new _ _ before (subst (λ (w : List ℕ). AppendsPrefix mid new w) (counted n (slimmed queries records arrivals) is) h);
}))

-- the whole slim text is no longer than so
grown_end : (queries : Queries) (to : Version) (v : Version) (start n : ℕ) (records : List Record) (arrivals : List Arrival) → n ≡ length (slimmed queries records arrivals) → n ≤ sizes_of records + length records
    → sizes_of records + length records ≤ longest_text → IsCapture v start records → Kept (slimmed queries records arrivals) records (kept_arrivals queries arrivals)
    → length (slim_text queries (later to v) start records arrivals) ≤ most_growth * length (capture_text v start records)
grown_end queries to v start n records arrivals is few capacity rules kept =
    let ruled = slim_rules v start records (kept_arrivals queries arrivals) kept.short rules in
    grows v (later to v) start records (slimmed queries records arrivals) rules.in_time (rules_widen to v start (slimmed queries records arrivals) ruled.0).each ruled.1 (omega (arith, is, few)) (omega (arith, is, few, capacity))

length_end : (queries : Queries) (w : Version) (start n : ℕ) (records : List Record) (arrivals : List Arrival) → n ≡ length (slimmed queries records arrivals)
    → length (slim_text queries w start records arrivals) ≡ length (slim_before_stop queries w start records arrivals) + length ((codes "stop " ++ decimal n) ++ line_feed ∷ [])
length_end queries w start n records arrivals is =
    length-append (slim_before_stop queries w start records arrivals) (last_line (slimmed queries records arrivals) ++ line_feed ∷ [])
    ∙ ap (λ t. length (slim_before_stop queries w start records arrivals) + length t) (sym (counted n (slimmed queries records arrivals) is))

-- there was no room for the last line
pub slim_over_end : (queries : Queries) (to : Version) (v : Version) (text now ahead old new : Option (List ℕ)) (start n at capacity : ℕ) (records : List Record) (arrivals : List Arrival) (p : Progress) → ReaderAfter v text start records p now
    → n ≡ length (slimmed queries records arrivals) → n ≤ sizes_of records + length records → sizes_of records + length records ≤ longest_text
    → AreArrivals (used_once records) arrivals → Kept (slimmed queries records arrivals) records (kept_arrivals queries arrivals)
    → Appends old new (slim_before_stop queries (later to v) start records arrivals) → WhereKnown text (λ bytes. IsCaptureText v bytes start records) → at ≡ length records + 1
    → length (slim_before_stop queries (later to v) start records arrivals) + capacity ≡ (format_of (later to v)).max_text_bytes → capacity < length ((codes "stop " ++ decimal n) ++ line_feed ∷ [])
    → Leaves queries to text ahead old new (Capture (record { at = at; kind = kinds.TooLarge }))
slim_over_end queries to v text now ahead old new start n at capacity records arrivals p fits is few most arrived kept written whole at_is room_is over =
    let len = length_end queries (later to v) start n records arrivals is in
    inr (
      record { at = at; kind = kinds.TooLarge },
      refl,
      record {
        read = reads_of v text now start records p fits;
        over = inr (record {
          whole = whole;
          arrivals = arrivals;
          arrived = arrived;
          size = grown_end queries to v start n records arrivals is few most fits.rules kept;
          over = omega (arith, len, room_is, over);
        });
        fault = ap (λ n. record { at = n; kind = kinds.TooLarge }) at_is;
        stands = record { arrivals = arrivals; arrived = arrived; written = written };
      },
    )

pub slim_ok_end : (queries : Queries) (to : Version) (r : Result Unit PassFault) (v : Version) (text old mid new : Option (List ℕ)) (start n capacity : ℕ) (records : List Record) (arrivals : List Arrival)
    → n ≡ length (slimmed queries records arrivals) → n ≤ sizes_of records + length records → sizes_of records + length records ≤ longest_text
    → IsCapture v start records → AreArrivals (used_once records) arrivals → Kept (slimmed queries records arrivals) records (kept_arrivals queries arrivals)
    → Appends old mid (slim_before_stop queries (later to v) start records arrivals) → WhereKnown text (λ bytes. IsCaptureText v bytes start records)
    → length (slim_before_stop queries (later to v) start records arrivals) + capacity ≡ (format_of (later to v)).max_text_bytes → length ((codes "stop " ++ decimal n) ++ line_feed ∷ []) ≤ capacity
    → WritesPrefix mid new r ((codes "stop " ++ decimal n) ++ line_feed ∷ []) → OnOk r (Slims queries to text old new)
slim_ok_end queries to (Ok x) v text old mid new start n capacity records arrivals is few most rules arrived kept before c room_is fits h =
    let len = length_end queries (later to v) start n records arrivals is in
    record {
      capture = record { version = v; start = start; records = records; rules = rules; text = c };
      arrivals = arrivals;
      arrived = arrived;
      kept = record {
        slims = kept.slims;
        arrived = kept.arrived;
        same = kept.same;
        again = ap (slim_records (slimmed queries records arrivals)) (kept_seen queries kept.slims arrivals kept.same) ∙ kept.again;
      };
      text = record {
        text = refl;
        rules = rules_widen to v start (slimmed queries records arrivals) (slim_rules v start records (kept_arrivals queries arrivals) kept.short rules).0;
        size = omega (arith, len, room_is, fits);
      };
      size = grown_end queries to v start n records arrivals is few most rules kept;
      written = appends_then old mid new _ _ before (subst (λ (w : List ℕ). Appends mid new w) (counted n (slimmed queries records arrivals) is) h);
    }
slim_ok_end queries to (Err f) v text old mid new start n capacity records arrivals is few most rules arrived kept before c room_is fits h = tt

-- ---- the record that came

pub number_of_next : (v : Version) (start : ℕ) (records : List Record) (r : Record) → IsCapture v start (records ++ r ∷ []) → IsNumber (connection_of r)
number_of_next v start records r rules =
    let lt : length records < length (records ++ r ∷ []) = let l = length-append records (r ∷ []) in omega (arith, l) in
    is_low v r (rw (get_or-append_seam records r [] r) at (rules.each (length records) r lt))

within_longest : (v : Version) → (format_of v).max_text_bytes ≤ longest_text
within_longest One = omega arith
within_longest Two = omega arith
within_longest Traffic = omega arith

pub all_room : (v : Version) (text now : Option (List ℕ)) (start : ℕ) (records : List Record) (p : Progress) → ReaderAfter v text start records p now → sizes_of records + length records ≤ longest_text
all_room v text now start records p fits = let h = fits.capacity in omega (arith, h, within_longest v)

pub sizes_left : (v : Version) (text now : Option (List ℕ)) (start capacity : ℕ) (records : List Record) (p : Progress) (r : Record) → ReaderAfter v text start records p now
    → size_of r + 1 + capacity ≡ p.capacity → sizes_of records + size_of r ≤ longest_text
sizes_left v text now start capacity records p r fits e = let h = fits.capacity in omega (arith, h, e, within_longest v)

-- the count stays small
pub count_small : (v : Version) (text now : Option (List ℕ)) (start count n capacity : ℕ) (records : List Record) (p : Progress) (r : Record) → ReaderAfter v text start records p now
    → size_of r + 1 + capacity ≡ p.capacity → count ≤ sizes_of records + length records → n ≤ size_of r + 1 → count + n ≤ longest_text
count_small v text now start count n capacity records p r fits e le few = let h = fits.capacity in omega (arith, h, e, le, few, within_longest v)
