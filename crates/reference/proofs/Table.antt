-- The table of decisions, row after row, and what its rows say.
use Rattle.std.proofs.Common.{◌≡◌, ℕ, ◌+◌, ◌-◌, max, Bool, true, false, List, [], ◌∷◌, ◌++◌, ◌||◌, refl, sym, ap, ◌∙◌, append-nil, append_assoc, arith}
use Rattle.std.specs.List.{list_any}
use Rattle.http_requests.specs.declared.messages.Meaning.{Meaning}
use Rattle.http_requests.specs.declared.messages.Meaning.TheVariants.{Request, Bad}
use Rattle.paths.specs.Reference.{asked, outcome}
use Rattle.admission.specs.Reference.{Offer, servers_of, of_pool, served, free_at, is_rejected, decide, decided}
use Rattle.decision_table.specs.Rows.{heading}
use Rattle.arrivals.specs.Reference.{Arrival}
use Rattle.arrivals.specs.declared.incoming.Origin.{Origin}
use Rattle.reference.specs.Reference.{Terms, station_for, is_head, offer_of, charge_of, offer_at, offers_of, rejects}
use Rattle.reference.specs.Texts.{AreTexts}
use Rattle.reference.specs.Explaining.{has_pools, first_offered, row_after, rows_after, table, row_texts}
use Rattle.reference.specs.Laws.{is_row_rejected, RowsAgree, StartsOnceFree}
use Rattle.reference.proofs.Offering.{finish_is}
use Rattle.paths.specs.declared.file.File.{File}

-- ---- rows after rows

rows_more : (files : List File) (terms : Terms) (earlier first more : List Arrival) → rows_after files terms earlier (first ++ more) ≡ rows_after files terms earlier first ++ rows_after files terms (earlier ++ first) more
unfolding rows_after
rows_more files terms earlier [] more = rw (append-nil earlier) refl
rows_more files terms earlier (a ∷ first) more =
    let e : (earlier ++ a ∷ []) ++ first ≡ earlier ++ a ∷ first = append_assoc earlier (a ∷ []) first in
    ap (λ v. row_after files terms earlier a ++ v) (rows_more files terms (earlier ++ a ∷ []) first more ∙ ap (λ past. rows_after files terms (earlier ++ a ∷ []) first ++ rows_after files terms past more) e)
    ∙ sym (append_assoc (row_after files terms earlier a) (rows_after files terms (earlier ++ a ∷ []) first) (rows_after files terms (earlier ++ a ∷ first) more))

rows_none : (files : List File) (terms : Terms) (earlier : List Arrival) → rows_after files terms earlier [] ≡ []
unfolding rows_after
rows_none files terms earlier = refl

pub rows_one : (files : List File) (terms : Terms) (earlier : List Arrival) (a : Arrival) → rows_after files terms earlier (a ∷ []) ≡ row_after files terms earlier a
unfolding rows_after
rows_one files terms earlier a = append-nil (row_after files terms earlier a)

-- the rows are written from the heading on
pub rows_laws : (files : List File) (terms : Terms) → AreTexts (row_texts files terms)
rows_laws files terms = record {
  begins = λ start. ap (λ v. heading (has_pools terms) ++ v) (rows_none files terms []) ∙ append-nil (heading (has_pools terms));
  goes_on = λ start arrivals more. ap (λ v. heading (has_pools terms) ++ v) (rows_more files terms [] arrivals more) ∙ sym (append_assoc (heading (has_pools terms)) (rows_after files terms [] arrivals) (rows_after files terms arrivals more));
  none = λ start. rows_none files terms;
  more = λ start. rows_more files terms;
  ends = λ start arrivals. sym (append-nil (table files terms arrivals));
}

pub alone : (t : Bool) → (t || false) ≡ t
alone true = refl
alone false = refl

-- ---- what rows say

rejected_one : (files : List File) (terms : Terms) (earlier : List Arrival) (offer : Offer)
    → is_row_rejected (first_offered files terms earlier (offer ∷ [])) ≡ list_any (rejects (station_for terms) (offers_of files terms earlier)) (offer ∷ [])
unfolding rejects
rejected_one files terms earlier offer =
    sym (alone (is_rejected (decide (station_for terms) (decided (station_for terms) (offers_of files terms earlier)) offer)))

rejected_row : (files : List File) (terms : Terms) (earlier : List Arrival) (origin : Origin) (what : Meaning)
    → is_row_rejected (first_offered files terms earlier (offer_at files terms origin what)) ≡ list_any (rejects (station_for terms) (offers_of files terms earlier)) (offer_at files terms origin what)
rejected_row files terms earlier origin (Request method target version closing since) =
    rejected_one files terms earlier (offer_of terms origin (charge_of files terms target (is_head method) since (outcome files (asked method target))))
rejected_row files terms earlier origin (Bad fault) = refl

pub rows_agree : RowsAgree
rows_agree files terms earlier a = rejected_row files terms earlier a.origin a.message.what

pub starts_once_free : StartsOnceFree
starts_once_free files terms earlier offer finish admitted =
    let past = decided (station_for terms) (offers_of files terms earlier) in
    let free = free_at (servers_of (station_for terms) offer.pool) (of_pool offer.pool (served past)) in
    let is : finish ≡ max free offer.tick + offer.service = finish_is _ _ _ (sym admitted) in
    begins free offer.tick offer.service finish is
  where
    begins : (free tick service finish : ℕ) → finish ≡ max free tick + service → finish - service ≡ tick + (free - tick)
    begins free tick service finish e = omega (arith, e)
