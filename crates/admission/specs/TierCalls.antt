-- What the calls on a tier say of it, whatever requests of the tier it stands for.
use Rattle.std.specs.Prelude.{◌≡◌, ℕ, ◌+◌, ◌≤◌, List, [], ◌∷◌, ◌++◌, map, Some, slice_get}
use Rattle.admission.specs.declared.control.Control.{Control}
use Rattle.admission.specs.declared.control.Decision.{Decision}
use Rattle.admission.specs.declared.control.Outlook.{Outlook}
use Rattle.admission.specs.Reference.{Offer, Decided, served, controls_until, rate_at, credit}
use Rattle.admission.specs.Limits.{MAX_OFFERS}
use Rattle.admission.specs.Standing.{TierStanding, completions, AllFrom, IsShare}
use Rattle.admission.specs.Running.{decision_after}
use Rattle.admission.specs.After.{TierFits}

-- tiers that were offered nothing yet
abbrev pub AreNew : List TierStanding → Type 0
AreNew tiers = (i : ℕ) (t : TierStanding) → slice_get tiers i ≡ Some t → TierFits [] t × IsShare 0 0 0 t

-- all responses that are complete at this tick were taken in
abbrev pub IsComplete : ℕ → TierStanding → Type 0
IsComplete tick t = AllFrom (tick + 1) (completions t.flight.responses)

-- while time passes up to this tick the tier stands for the same requests, beside the others
pub record Moves (t : TierStanding) (tick : ℕ) (next : TierStanding) : Type 0 where
  pub rules : next.rules ≡ t.rules
  pub fits : (past : List Decided) → TierFits past t → TierFits past next
  pub share : (offers last now : ℕ) → tick ≤ now → IsShare offers last now t → IsShare offers last now next

-- each of these tiers does so
pub record AllMove (tiers : List TierStanding) (tick : ℕ) (moved : List TierStanding) : Type 0 where
  pub rules : map (λ t. t.rules) moved ≡ map (λ t. t.rules) tiers
  pub each : (i : ℕ) (next : TierStanding) → slice_get moved i ≡ Some next
      → (t : TierStanding) × (slice_get tiers i ≡ Some t) × Moves t tick next

abbrev pub AreComplete : List TierStanding → ℕ → Type 0
AreComplete tiers tick = (i : ℕ) (t : TierStanding) → slice_get tiers i ≡ Some t → IsComplete tick t

-- the decision on an offer at this tick is that of the definitions
abbrev pub Decides : TierStanding → ℕ → ℕ → ℕ → Decision → Type 0
Decides t free tick service decision =
    (past : List Decided) → TierFits past t → decision ≡ decision_after t.rules past free tick service

-- the tier then stands with that offer, of whatever tier and service it is, after its other requests
abbrev pub Takes : TierStanding → ℕ → ℕ → Decision → TierStanding → Type 0
Takes t tick delay decision next = (past : List Decided) (offer : Offer) → offer.tick ≡ tick → offer.delay ≡ delay
    → TierFits past t → TierFits (past ++ record { offer = offer; decision = decision } ∷ []) next

-- and stays beside the others
abbrev pub StaysBeside : TierStanding → ℕ → TierStanding → Type 0
StaysBeside t tick next = (offers : ℕ) → IsShare offers tick tick t → IsShare (offers + 1) tick tick next

-- these are the controls of the tier up to this tick
abbrev pub Shows : TierStanding → ℕ → List Control → Type 0
Shows t tick shown = (past : List Decided) → TierFits past t
    → shown ≡ controls_until t.rules (served past) tick

-- what a request of the tier finds that comes at this tick
abbrev pub Foresees : TierStanding → ℕ → ℕ → Outlook → Type 0
Foresees t free tick found = (past : List Decided) → TierFits past t → found
    ≡ record { credit = credit t.rules past tick; rate = rate_at t.rules (served past) tick; free = free }

-- a tier beside the others up to this tick, of whatever was offered
abbrev pub IsBeside : ℕ → TierStanding → Type 0
IsBeside clock t = (offers : ℕ) × (tick : ℕ) × (offers ≤ MAX_OFFERS) × IsShare offers tick clock t

-- tiers that stay beside one another up to this tick
abbrev pub AllShare : List TierStanding → ℕ → Type 0
AllShare tiers clock = (i : ℕ) (t : TierStanding) → slice_get tiers i ≡ Some t → IsBeside clock t

-- these lists are the controls of these tiers up to this tick
abbrev pub AllShow : List TierStanding → ℕ → List (List Control) → Type 0
AllShow tiers tick shown = (i : ℕ) (t : TierStanding) (controls : List Control)
    → slice_get tiers i ≡ Some t → slice_get shown i ≡ Some controls → Shows t tick controls
