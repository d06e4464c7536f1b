-- The tiers while time passes.
use Rattle.std.proofs.Common.{◌≡◌, ℕ, zero, suc, ◌+◌, ◌<◌, ◌≤◌, List, [], ◌∷◌, length, map, refl, sym, ◌∙◌, ap, arith, Some, slice_get, slice_set, slice_index_or, inl, inr}
use Rattle.std.proofs.Math.Seq.{map-set_same}
use Rattle.std.proofs.lemmas.Bool.{cases_eq}
use Rattle.std.proofs.lemmas.List.{length-map}
use Rattle.std.proofs.lemmas.Option.{get_or_from_slice_get}
use Rattle.token_bucket.specs.Standing.{MAX_TICK}
use Rattle.admission.specs.declared.policy.PolicyNumbers.{PolicyNumbers}
use Rattle.admission.specs.Limits.{MAX_OFFERS}
use Rattle.admission.specs.Reference.{of_tier, decided}
use Rattle.admission.specs.Standing.{TierStanding, PoolStanding, Standing, station_of, IsShare, IsSound}
use Rattle.admission.specs.TierCalls.{IsComplete, Moves, AllMove, AreComplete, AllShare}
use Rattle.admission.specs.After.{StandsAsBefore}
use Rattle.admission.proofs.SoundLemmas.{moves_none, moves_then}
use Rattle.admission.proofs.TierLemmas.{get_at, set_here, set_there}

-- ---- one tier after the other

abbrev pub rules_in : List TierStanding → List PolicyNumbers
rules_in ts = map (λ (t : TierStanding). t.rules) ts

pub all_none : (ts : List TierStanding) (tick : ℕ) → AllMove ts tick ts
all_none ts tick = record { rules = refl; each = λ i next at. (next, at, moves_none next tick) }

within_from : (ts : List TierStanding) (i : ℕ) (t : TierStanding) → slice_get ts i ≡ Some t → i < length ts
within_from [] i t at = absurd (cc)
within_from (x ∷ ts) zero t at = omega arith
within_from (x ∷ ts) (suc i) t at = omega (arith, within_from ts i t at)

pub all_set : (first ts : List TierStanding) (tick i : ℕ) (cur next : TierStanding) → AllMove first tick ts → i < length ts
    → cur ≡ slice_index_or ts i cur → Moves (slice_index_or ts i cur) tick next → AllMove first tick (slice_set ts i next)
all_set first ts tick i cur next moves within at step =
    let there : slice_get ts i ≡ Some cur = get_at ts i cur within at in
    let own : Moves cur tick next = rw at step in
    record {
      rules = map-set_same (λ (t : TierStanding). t.rules) ts i next cur
          (own.rules ∙ sym (ap (λ (t : TierStanding). t.rules) (get_or_from_slice_get ts i cur cur there))) ∙ moves.rules;
      each = λ j found is. elim (cases_eq j i) [
        | inl same ↦
            let before = moves.each i cur there in
            let this : found ≡ next = set_here ts i next found within (rw same at is) in
            (before.0, rw same before.1, rw this (moves_then before.0 cur next tick tick before.2 own (omega arith)))
        | inr apart ↦ moves.each j found (set_there ts i j next found apart is)
      ];
    }

-- those before this place are complete
abbrev pub FirstComplete : List TierStanding → ℕ → ℕ → Type 0
FirstComplete ts tick i = (j : ℕ) (t : TierStanding) → j < i → slice_get ts j ≡ Some t → IsComplete tick t

pub first_set : (ts : List TierStanding) (tick i : ℕ) (next : TierStanding) → FirstComplete ts tick i → i < length ts → IsComplete tick next
    → FirstComplete (slice_set ts i next) tick (i + 1)
first_set ts tick i next all within own j t below at =
    elim (cases_eq j i) [
      | inl same ↦
          let is : t ≡ next = set_here ts i next t within (rw same at at) in
          rw is own
      | inr apart ↦ all j t (omega arith) (set_there ts i j next t apart at)
    ]

pub all_first : (ts : List TierStanding) (tick i : ℕ) → FirstComplete ts tick i → length ts ≤ i → AreComplete ts tick
all_first ts tick i all whole j t at = all j t (omega (arith, within_from ts j t at)) at

-- no more of its requests were admitted than are ever offered
pub few_at : (first ts : List TierStanding) (tick i : ℕ) (cur : TierStanding) → AllShare first tick → AllMove first tick ts → i < length ts
    → cur ≡ slice_index_or ts i cur → (slice_index_or ts i cur).flight.admitted ≤ MAX_OFFERS
few_at first ts tick i cur share moves within at =
    let there : slice_get ts i ≡ Some cur = get_at ts i cur within at in
    let before = moves.each i cur there in
    let beside = share i before.0 before.1 in
    let own : IsShare beside.0 beside.1 tick cur = before.2.share beside.0 beside.1 tick (omega arith) beside.3 in
    rw (← at) (omega (arith, own.admitted, beside.2))

-- ---- the controller

-- with the tiers at a later tick
abbrev pub with_tiers : Standing → List TierStanding → ℕ → Standing
with_tiers c tiers tick = record {
  tiers = tiers;
  pools = c.pools;
  figures = c.figures;
  offers = c.offers;
  tick = c.tick;
  clock = tick;
}

many : (c : Standing) (tiers : List TierStanding) (tick : ℕ) → AllMove c.tiers tick tiers → length tiers ≡ length c.tiers
many c tiers tick moves =
    sym (length-map tiers (λ (t : TierStanding). t.rules)) ∙ ap (λ (ps : List PolicyNumbers). length ps) moves.rules
    ∙ length-map c.tiers (λ (t : TierStanding). t.rules)

pub passed_sound : (c : Standing) (tiers : List TierStanding) (tick : ℕ) → IsSound c → c.clock ≤ tick → tick ≤ MAX_TICK
    → AllMove c.tiers tick tiers → IsSound (with_tiers c tiers tick)
passed_sound c tiers tick sound later most moves = record {
  four = many c tiers tick moves ∙ sound.four;
  offers = sound.offers;
  default = sound.default;
  pools = sound.pools;
  kept = sound.kept;
  few = sound.few;
  clock = (omega (arith, sound.clock.0), most);
  tiers = λ i next at.
      let before = moves.each i next at in
      let own : IsShare c.offers c.tick c.clock before.0 = sound.tiers i before.0 before.1 in
      before.2.share c.offers c.tick tick (omega arith) (record {
        admitted = own.admitted;
        rejected = own.rejected;
        clock = omega (arith, own.clock);
        complete = own.complete;
      });
}

station_passed : (c : Standing) (tiers : List TierStanding) (tick : ℕ) → AllMove c.tiers tick tiers
    → station_of (with_tiers c tiers tick) ≡ station_of c
unfolding station_of
station_passed c tiers tick moves = ap (λ (ps : List PolicyNumbers). record { policies = ps; pools = map (λ (p : PoolStanding). length p.free) c.pools }) moves.rules

pub passed_stands : (c : Standing) (tiers : List TierStanding) (tick : ℕ) → AllMove c.tiers tick tiers
    → StandsAsBefore c (with_tiers c tiers tick)
passed_stands c tiers tick moves =
    let kept : station_of (with_tiers c tiers tick) ≡ station_of c = station_passed c tiers tick moves in
    record {
      fits = λ offers fits. record {
        offered = fits.offered;
        tick = fits.tick;
        pools = rw kept fits.pools;
        figures = rw kept fits.figures;
        tiers = λ i next at.
            let before = moves.each i next at in
            rw kept (before.2.fits (of_tier i (decided (station_of c) offers)) (fits.tiers i before.0 before.1));
      };
      offers = refl;
      tick = refl;
      station = kept;
    }

pub stands_then : (a b c : Standing) → StandsAsBefore a b → StandsAsBefore b c → StandsAsBefore a c
stands_then a b c first next = record {
  fits = λ offers fits. next.fits offers (first.fits offers fits);
  offers = next.offers ∙ first.offers;
  tick = next.tick ∙ first.tick;
  station = next.station ∙ first.station;
}
