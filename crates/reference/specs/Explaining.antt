-- The table of decisions on a capture: a row for each message, in the order of their arrival.
use Rattle.std.specs.Prelude.{◌≡◌, ℕ, nat_lt, Bool, List, [], ◌∷◌, ◌++◌, length, Option, Some, None}
use Rattle.std.specs.Io.KnownBytes.{Appends}
use Rattle.http_requests.specs.declared.messages.Meaning.{Meaning}
use Rattle.http_requests.specs.declared.messages.Meaning.TheVariants.{Request, Bad}
use Rattle.admission.specs.Reference.{Offer, decide, decided}
use Rattle.admission.specs.After.{outlook}
use Rattle.decision_table.specs.declared.row.Offered.{Offered}
use Rattle.decision_table.specs.declared.row.Row.{Row}
use Rattle.decision_table.specs.Rows.{heading, row_text}
use Rattle.arrivals.specs.Reference.{Arrival}
use Rattle.reference.specs.Reference.{Terms, station_for, tick_in, offer_at, offers_of, handled_next, status_for}
use Rattle.reference.specs.Reference.{ArrivedCapture}
use Rattle.reference.specs.Outcomes.{outcome_of}
use Rattle.reference.specs.Texts.{Texts}
use Rattle.reference.specs.declared.summary.Outcome.{Outcome}
use Rattle.paths.specs.declared.file.File.{File}

-- there are pools besides pool 0
abbrev pub has_pools : Terms → Bool
has_pools terms = nat_lt 0 (length terms.tariff.pools)

-- an offer after those of the earlier messages: what it finds, and the decision on it
abbrev pub offered_after : List File → Terms → List Arrival → Offer → Offered
offered_after files terms earlier offer = record {
  service = offer.service;
  pool = offer.pool;
  found = outlook (station_for terms) (decided (station_for terms)
      (offers_of files terms earlier)) offer.pool offer.tier offer.tick;
  decision = decide (station_for terms) (decided (station_for terms) (offers_of files terms earlier)) offer;
}

-- the offer that a message makes, if it makes one
abbrev pub first_offered : List File → Terms → List Arrival → List Offer → Option Offered
first_offered files terms earlier [] = None
first_offered files terms earlier (offer ∷ offers) = Some (offered_after files terms earlier offer)

-- what the row of a message after the earlier ones says, besides its method and its target
abbrev pub row_of : List File → Terms → List Arrival → Arrival → Row
row_of files terms earlier a = record {
  number = length earlier;
  conn = a.origin.conn;
  tick = tick_in terms a.origin;
  tier = a.origin.tier;
  status = status_for files terms (handled_next files terms earlier a);
  pools = has_pools terms;
  offered = first_offered files terms earlier (offer_at files terms a.origin a.message.what);
}

abbrev pub method_of : Meaning → List ℕ
method_of (Request method target version closing since) = method
method_of (Bad fault) = []

abbrev pub target_of : Meaning → List ℕ
target_of (Request method target version closing since) = target
target_of (Bad fault) = []

-- the row
unfoldable pub row_after : List File → Terms → List Arrival → Arrival → List ℕ
row_after files terms earlier a = row_text (row_of files terms earlier a) (method_of a.message.what)
    (target_of a.message.what)

-- the rows of these messages after the earlier ones, each in turn
unfoldable pub rows_after : List File → Terms → List Arrival → List Arrival → List ℕ
rows_after files terms earlier [] = []
rows_after files terms earlier (a ∷ arrivals) = row_after files terms earlier a ++ rows_after files terms
    (earlier ++ a ∷ []) arrivals

-- the heading, and the rows of all messages in their order
abbrev pub table : List File → Terms → List Arrival → List ℕ
table files terms arrivals = heading (has_pools terms) ++ rows_after files terms [] arrivals

-- the table has no last line
abbrev pub row_texts : List File → Terms → Texts
row_texts files terms = record {
  first = heading (has_pools terms);
  so_far = λ start arrivals. table files terms arrivals;
  after = λ start earlier arrivals. rows_after files terms earlier arrivals;
  last = λ count. [];
  whole = λ start arrivals. table files terms arrivals;
}

-- The table of a capture, and that it was written: the input is the text of a capture with this start and these
-- records, of which these are the arrivals; and the outcome is that of `Answers`.
pub record Explains (files : List File) (terms : Terms) (input old new : Option (List ℕ))
    (outcome : Outcome) : Type 0 where
  pub read : ArrivedCapture input
  pub written : Appends old new (table files terms read.arrivals)
  pub outcome_is : outcome ≡ outcome_of read.capture.version files terms read.arrivals
