-- What an upgrade has written where it stops.
use Rattle.std.proofs.Common.{◌≡◌, ℕ, ◌≤◌, inl, inr, List, [], ◌∷◌, ◌++◌, length, Option, Some, None, Result, Ok, Err, refl, sym, ap, subst, arith, codes, decimal, IfErr, OnOk, append-nil}
use Rattle.std.specs.Result.{IsErrAnd}
use Rattle.std.specs.Io.KnownBytes.{Appends}
use Rattle.std.proofs.lemmas.List.{flat_map_more}
use Rattle.devices.proofs.Appending.{appends_then, prefix_then}
use Rattle.devices.specs.Reference.{line_feed, WhereKnown}
use Rattle.devices.specs.Devices.{AppendsPrefix, WritesPrefix}
use Rattle.captures.specs.declared.version.Version.{Version}
use Rattle.captures.specs.declared.record.Record.{Record}
use Rattle.captures.specs.declared.progress.Progress.{Progress}
use Rattle.captures.specs.declared.capture_fault.CaptureFault.{CaptureFault}
use Rattle.captures.specs.declared.capture_fault.CaptureFaultKind.TheVariants as kinds
use Rattle.captures.specs.declared.pass_fault.PassFault.{PassFault}
use Rattle.captures.specs.Reference.{first_line, last_line, record_text, text_before_stop, format_of, IsCapture, IsCaptureText}
use Rattle.captures.specs.CaptureFaults.{IsForeseen, IsHeaderFault}
use Rattle.captures.specs.Readers.{ReaderAfter, Gave, FailsFirst, FailsNext}
use Rattle.captures.proofs.PassLemmas.{reads_of, faults_next, leaves_by, leaves_part, reports}
use Rattle.captures.specs.Upgrades.{later, Upgrades, Stops, IsCutShort, Leaves}
use Rattle.captures.specs.Passes.{pass_fault, IsWriteOrMemory}

-- ---- faults

-- what stands where the capture has a fault: what is due there, or else a prefix of what is due
pub leaves_reported : (to : Version) (input ahead old new : Option (List ℕ)) (f : CaptureFault) → Stops to input ahead old new f → IsCutShort to input old new → Leaves to input ahead old new (pass_fault f)
leaves_reported to input ahead old new f stops cut = leaves_by input ahead _ _ _ _ f stops cut

-- where memory can't have run out
pub leaves_first : (to : Version) (input ahead old new : Option (List ℕ)) (f : CaptureFault) → Stops to input ahead old new f → (f.kind ≡ kinds.Memory → ⊥) → Leaves to input ahead old new (pass_fault f)
leaves_first to input ahead old new f stops other = elim (reports f) [
  | inl m ↦ absurd (other m.0)
  | inr c ↦ subst (λ (u : PassFault). Leaves to input ahead old new u) (sym c.1) (c.0, stops)
]

pub own_leaves : (to : Version) (input ahead old new : Option (List ℕ)) (f : PassFault) → IsWriteOrMemory f → IsCutShort to input old new → Leaves to input ahead old new f
own_leaves to input ahead old new f own cut = leaves_part input ahead _ _ _ _ f own cut

-- a fault that `?` has passed on
pub passed_on : {T : Type 0} (r : Result T PassFault) (Q P : PassFault → Type 0) → ((f : PassFault) → Q f → P f) → IsErrAnd r Q → IfErr r P
passed_on (Ok x) Q P more h = tt
passed_on (Err f) Q P more h = more f h

-- ---- the reader

-- a reader's version and start are its own
pub fits_own : (v : Version) (text now : Option (List ℕ)) (start : ℕ) (records : List Record) (p : Progress) → ReaderAfter v text start records p now → ReaderAfter p.version text p.start records p now
fits_own v text now start records p f =
    subst (λ (q : Version × ℕ). ReaderAfter q.0 text q.1 records p now) (λ i. (sym f.version i, sym f.begun i)) f

pub gave_more : (v : Version) (text now : Option (List ℕ)) (start : ℕ) (records : List Record) (p : Progress) (x : Option Record) (r : Record) → x ≡ Some r
    → Gave v text start records (Ok x) p now → ReaderAfter v text start (records ++ r ∷ []) p now
gave_more v text now start records p x r is h = subst (λ (o : Option Record). Gave v text start records (Ok o) p now) is h

-- there are fewer records than 64 bits count
pub fits_few : (v : Version) (text now : Option (List ℕ)) (start : ℕ) (records : List Record) (p : Progress) → ReaderAfter v text start records p now → length records ≤ (format_of v).max_text_bytes
fits_few v text now start records p f = let r = f.capacity in omega arith

-- ---- what stands

pub first_written : (w : Version) (start : ℕ) (old new : Option (List ℕ)) → Appends old new (first_line w start ++ line_feed ∷ []) → Appends old new (text_before_stop w start [])
first_written w start old new h = subst (λ (l : List ℕ). Appends old new l) (sym (append-nil (first_line w start ++ line_feed ∷ []))) h

pub first_prefix : (w : Version) (start : ℕ) (old new : Option (List ℕ)) → AppendsPrefix old new (first_line w start ++ line_feed ∷ []) → AppendsPrefix old new (text_before_stop w start [])
first_prefix w start old new h = subst (λ (l : List ℕ). AppendsPrefix old new l) (sym (append-nil (first_line w start ++ line_feed ∷ []))) h

longer : (w : Version) (start : ℕ) (records : List Record) (r : Record) → text_before_stop w start records ++ record_text r ≡ text_before_stop w start (records ++ r ∷ [])
longer w start records r = flat_map_more record_text (first_line w start ++ line_feed ∷ []) records r

pub more_written : (w : Version) (start : ℕ) (records : List Record) (r : Record) (old mid new : Option (List ℕ)) → Appends old mid (text_before_stop w start records) → Appends mid new (record_text r)
    → Appends old new (text_before_stop w start (records ++ r ∷ []))
more_written w start records r old mid new before h =
    subst (λ (l : List ℕ). Appends old new l) (longer w start records r) (appends_then old mid new (text_before_stop w start records) (record_text r) before h)

pub more_prefix : (w : Version) (start : ℕ) (records : List Record) (r : Record) (old mid new : Option (List ℕ)) → Appends old mid (text_before_stop w start records) → AppendsPrefix mid new (record_text r)
    → AppendsPrefix old new (text_before_stop w start (records ++ r ∷ []))
more_prefix w start records r old mid new before h =
    subst (λ (l : List ℕ). AppendsPrefix old new l) (longer w start records r) (prefix_then old mid new (text_before_stop w start records) (record_text r) before h)

-- ---- where it stops

pub stops_first : (to : Version) (text ahead old : Option (List ℕ)) (f : CaptureFault) → f.at ≡ 0 → IsForeseen IsHeaderFault text f → FailsFirst text f ahead → Stops to text ahead old old f
stops_first to text ahead old f at h failed = inl (record { at = at; fault = λ foreseen known. h known foreseen; failed = failed }, refl)

pub stops_after : (to : Version) (v : Version) (text now ahead old new : Option (List ℕ)) (start : ℕ) (records : List Record) (p q : Progress) (f : CaptureFault) → ReaderAfter v text start records p now
    → Appends old new (text_before_stop (later to v) start records) → Gave v text start records (Err f) q ahead → FailsNext v text start records (Err f) ahead
    → Stops to text ahead old new f
stops_after to v text now ahead old new start records p q f fits written gave fails =
    inr (reads_of v text now start records p fits, faults_next v text now ahead start records p q f fits gave fails, written)

pub short_among : (to : Version) (v : Version) (text now old new : Option (List ℕ)) (start : ℕ) (records : List Record) (p : Progress) → ReaderAfter v text start records p now
    → AppendsPrefix old new (text_before_stop (later to v) start records) → IsCutShort to text old new
short_among to v text now old new start records p fits written = inl (reads_of v text now start records p fits, written)

-- the end was met
pub all_read : (v : Version) (text now : Option (List ℕ)) (start : ℕ) (records : List Record) (p : Progress) (x : Option Record) → x ≡ None → Gave v text start records (Ok x) p now
    → WhereKnown text (λ bytes. IsCaptureText v bytes start records)
all_read v text now start records p x is h = subst (λ (o : Option Record). Gave v text start records (Ok o) p now) is h

counted : (n : ℕ) (records : List Record) → n ≡ length records → (codes "stop " ++ decimal n) ++ line_feed ∷ [] ≡ last_line records ++ line_feed ∷ []
counted n records e = ap (λ m. (codes "stop " ++ decimal m) ++ line_feed ∷ []) e

short_end : (to : Version) (v : Version) (text old mid new : Option (List ℕ)) (start n : ℕ) (records : List Record) → n ≡ length records → IsCapture v start records
    → WhereKnown text (λ bytes. IsCaptureText v bytes start records)
    → Appends old mid (text_before_stop (later to v) start records) → AppendsPrefix mid new ((codes "stop " ++ decimal n) ++ line_feed ∷ []) → IsCutShort to text old new
short_end to v text old mid new start n records is rules c before h = inr (
  record { version = v; start = start; records = records; rules = rules; text = c },
  prefix_then old mid new (text_before_stop (later to v) start records) (last_line records ++ line_feed ∷ []) before (subst (λ (w : List ℕ). AppendsPrefix mid new w) (counted n records is) h),
)

whole : (to : Version) (v : Version) (text old mid new : Option (List ℕ)) (start n : ℕ) (records : List Record) → n ≡ length records → IsCapture v start records
    → WhereKnown text (λ bytes. IsCaptureText v bytes start records)
    → Appends old mid (text_before_stop (later to v) start records) → Appends mid new ((codes "stop " ++ decimal n) ++ line_feed ∷ []) → Upgrades to text old new
whole to v text old mid new start n records is rules c before h = record {
  capture = record { version = v; start = start; records = records; rules = rules; text = c };
  written = appends_then old mid new (text_before_stop (later to v) start records) (last_line records ++ line_feed ∷ []) before (subst (λ (w : List ℕ). Appends mid new w) (counted n records is) h);
}

-- the same of what another name has
pub moved : (X : Option (List ℕ) → Type 0) (a b : Option (List ℕ)) → X b → a ≡ b → X a
moved X a b h e = subst X (sym e) h

-- the last line was written, or a prefix of it
pub part_end : (to : Version) (r : Result Unit PassFault) (v : Version) (text ahead old mid new : Option (List ℕ)) (start n : ℕ) (records : List Record) → n ≡ length records → IsCapture v start records
    → Appends old mid (text_before_stop (later to v) start records) → WhereKnown text (λ bytes. IsCaptureText v bytes start records) → WritesPrefix mid new r ((codes "stop " ++ decimal n) ++ line_feed ∷ [])
    → IfErr r IsWriteOrMemory → IfErr r (Leaves to text ahead old new)
part_end to (Ok x) v text ahead old mid new start n records is rules before c h own = tt
part_end to (Err f) v text ahead old mid new start n records is rules before c h own = own_leaves to text ahead old new f own (short_end to v text old mid new start n records is rules c before h)

pub ok_end : (to : Version) (r : Result Unit PassFault) (v : Version) (text old mid new : Option (List ℕ)) (start n : ℕ) (records : List Record) → n ≡ length records → IsCapture v start records
    → Appends old mid (text_before_stop (later to v) start records) → WhereKnown text (λ bytes. IsCaptureText v bytes start records) → WritesPrefix mid new r ((codes "stop " ++ decimal n) ++ line_feed ∷ [])
    → OnOk r (Upgrades to text old new)
ok_end to (Ok x) v text old mid new start n records is rules before c h = whole to v text old mid new start n records is rules c before h
ok_end to (Err f) v text old mid new start n records is rules before c h = tt
