-- How an inspection goes on, and how it ends.
use Rattle.std.proofs.Common.{◌≡◌, ℕ, zero, suc, ◌<◌, ◌≤◌, List, [], ◌∷◌, ◌++◌, length, Option, None, Ok, Err, refl, sym, ◌∙◌, subst, arith}
use Rattle.std.specs.List.{AllPairs}
use Rattle.std.proofs.lemmas.Grind.{flat_map-append}
use Rattle.std.proofs.lemmas.List.{length-append}
use Rattle.std.proofs.Math.Seq.{get_or-append_seam}
use Rattle.captures.specs.declared.record.Record.{Record}
use Rattle.captures.specs.declared.record.Record.TheVariants.{Piece, End, Tier}
use Rattle.captures.specs.declared.progress.Progress.{Progress}
use Rattle.captures.specs.declared.version.Version.{Version}
use Rattle.captures.specs.declared.capture_fault.CaptureFault.{CaptureFault}
use Rattle.captures.specs.declared.capture_fault.CaptureFaultKind.{CaptureFaultKind}
use Rattle.captures.specs.declared.capture_fault.CaptureFaultKind.TheVariants as kinds
use Rattle.captures.specs.Reference.{IsCapture, connection_of, tick_of, ticks_of}
use Rattle.captures.specs.Readers.{ReaderAfter, Gave, FailsNext}
use Rattle.captures.proofs.PassLemmas.{reads_of, faults_next}
use Rattle.captures.proofs.UpgradeLemmas.{all_read}
use Rattle.captures.proofs.Lives.{is_low}
use Rattle.arrivals.specs.Reference.{Arrival}
use Rattle.arrivals.specs.declared.connections.Connection.{Connection}
use Rattle.arrivals.specs.Connections.{IsNumber, connection_at}
use Rattle.arrivals.specs.declared.connections.Connection.TheVariants.{Silent}
use Rattle.arrivals.proofs.Merging.{stand_none}
use Rattle.inspection.specs.declared.inspection.Inspection.{Inspection}
use Rattle.inspection.specs.declared.found.Found.{Found}
use Rattle.inspection.specs.Figures.{AreFigures}
use Rattle.inspection.specs.Running.{IsFound, Holds, IsNoEarlier}
use Rattle.inspection.specs.Inspections.{HoldsAll, HoldsBefore, Stops, reported_as, stop_of}
use Rattle.inspection.proofs.Holding.{last_le}

-- a silent connection for each number
none_kept : (connections : List Connection) → connections ≡ [] → (c : ℕ) → connection_at connections c ≡ Silent
none_kept connections none zero = rw none refl
none_kept connections none (suc c) = rw none refl

pub holds_none : (connections : List Connection) (f : Found) → connections ≡ [] → IsFound [] [] f → Holds [] [] connections f
holds_none connections f none is =
    let first = stand_none (connection_at connections) (none_kept connections none) in
    record { reads = record { each = first.each }; arrived = first.arrived; found = is }

-- the record that came names a number of 16 bits
pub number_of_next : (v : Version) (start : ℕ) (records : List Record) (r : Record) → IsCapture v start (records ++ r ∷ []) → IsNumber (connection_of r)
number_of_next v start records r rules =
    let lt : length records < length (records ++ r ∷ []) = let l = length-append records (r ∷ []) in omega (arith, l) in
    is_low v r (rw (get_or-append_seam records r [] r) at (rules.each (length records) r lt))

-- a record that keeps the rules comes no earlier than those before it
pub no_earlier : (v : Version) (start : ℕ) (records : List Record) (r : Record) → IsCapture v start (records ++ r ∷ []) → IsNoEarlier records r
no_earlier v start records (Piece tick conn bytes) rules =
    last_le (ticks_of records) tick (subst (λ (ts : List ℕ). AllPairs (λ s t. s ≤ t) ts) (flat_map-append tick_of records (Piece tick conn bytes ∷ [])) rules.rising)
no_earlier v start records (End tick conn) rules =
    last_le (ticks_of records) tick (subst (λ (ts : List ℕ). AllPairs (λ s t. s ≤ t) ts) (flat_map-append tick_of records (End tick conn ∷ [])) rules.rising)
no_earlier v start records (Tier conn tier) rules = tt

-- ---- the end

pub holds_all : (v : Version) (text now : Option (List ℕ)) (start : ℕ) (records : List Record) (arrivals : List Arrival) (connections : List Connection) (f : Found) (p q : Progress) (ahead : Option (List ℕ))
    (x : Option Record) (i : Inspection) → ReaderAfter v text start records p now → x ≡ None → Gave v text start records (Ok x) q ahead → Holds records arrivals connections f
    → i.version ≡ v → i.start ≡ start → AreFigures records arrivals i → HoldsAll text i
holds_all v text now start records arrivals connections f p q ahead x i fits none gave holds version begun figures = record {
  capture = record {
    version = v;
    start = start;
    records = records;
    rules = fits.rules;
    text = all_read v text ahead start records q x none gave;
  };
  arrivals = arrivals;
  arrived = holds.arrived;
  version = version;
  start = begun;
  figures = figures;
}

-- ---- faults

pub holds_before : (v : Version) (text now : Option (List ℕ)) (start : ℕ) (records : List Record) (arrivals : List Arrival) (connections : List Connection) (f : Found) (p q : Progress) (ahead : Option (List ℕ))
    (fault : CaptureFault) (i : Inspection) → ReaderAfter v text start records p now → Gave v text start records (Err fault) q ahead → FailsNext v text start records (Err fault) ahead
    → Holds records arrivals connections f → i.version ≡ v → i.start ≡ start → AreFigures records arrivals i → HoldsBefore text ahead i fault
holds_before v text now start records arrivals connections f p q ahead fault i fits gave failed holds version begun figures = record {
  read = reads_of v text now start records p fits;
  faults = faults_next v text now ahead start records p q fault fits gave failed;
  arrivals = arrivals;
  arrived = holds.arrived;
  version = version;
  start = begun;
  figures = figures;
}

-- what is said of a capture's fault, where the inspection tells it
pub reported : (input ahead : Option (List ℕ)) (held : Inspection) (f : CaptureFault) → HoldsBefore input ahead held f → Stops input ahead (stop_of held f)
reported input ahead held f h = go f.kind refl
  where
    go : (k : CaptureFaultKind) → f.kind ≡ k → Stops input ahead (reported_as k held f)
    go kinds.Cut e = (λ m. absurd (let z : kinds.Cut ≡ kinds.Memory = sym e ∙ m in cc), h)
    go kinds.Header e = (λ m. absurd (let z : kinds.Header ≡ kinds.Memory = sym e ∙ m in cc), h)
    go kinds.Kind e = (λ m. absurd (let z : kinds.Kind ≡ kinds.Memory = sym e ∙ m in cc), h)
    go kinds.Number e = (λ m. absurd (let z : kinds.Number ≡ kinds.Memory = sym e ∙ m in cc), h)
    go kinds.Tick e = (λ m. absurd (let z : kinds.Tick ≡ kinds.Memory = sym e ∙ m in cc), h)
    go kinds.Connection e = (λ m. absurd (let z : kinds.Connection ≡ kinds.Memory = sym e ∙ m in cc), h)
    go kinds.Ended e = (λ m. absurd (let z : kinds.Ended ≡ kinds.Memory = sym e ∙ m in cc), h)
    go kinds.Tier e = (λ m. absurd (let z : kinds.Tier ≡ kinds.Memory = sym e ∙ m in cc), h)
    go kinds.Length e = (λ m. absurd (let z : kinds.Length ≡ kinds.Memory = sym e ∙ m in cc), h)
    go kinds.Count e = (λ m. absurd (let z : kinds.Count ≡ kinds.Memory = sym e ∙ m in cc), h)
    go kinds.Trailing e = (λ m. absurd (let z : kinds.Trailing ≡ kinds.Memory = sym e ∙ m in cc), h)
    go kinds.TooLarge e = (λ m. absurd (let z : kinds.TooLarge ≡ kinds.Memory = sym e ∙ m in cc), h)
    go kinds.Read e = (λ m. absurd (let z : kinds.Read ≡ kinds.Memory = sym e ∙ m in cc), h)
    go kinds.Memory e = tt
