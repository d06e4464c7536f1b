-- The numbers of a policy, and their ranges.
use Rattle.std.specs.Prelude.{ℕ, ◌≤◌, Bool, nat_le, ◌&&◌, if◌then◌else◌, Option, Some, None}
use Rattle.admission.specs.declared.policy.PolicyNumbers.{PolicyNumbers}
use Rattle.admission.specs.Limits.{MAX_WINDOW, MAX_EVERY, MAX_UP, MIN_DOWN, MAX_DOWN, MAX_TARGET}
use Rattle.token_bucket.specs.Standing.{MAX_RATE, MAX_DEPTH}
use Rattle.admission.specs.declared.policy.PolicyFault.{PolicyFault}
use Rattle.admission.specs.declared.policy.PolicyFault.TheVariants.{Window, Every, Smoothing, Rates, Target, Depth}

abbrev pub is_within : ℕ → ℕ → ℕ → Bool
is_within least most x = nat_le least x && nat_le x most

-- 1 ≤ rate_min ≤ rate ≤ rate_max, and the steps up and down
abbrev pub are_rates : PolicyNumbers → Bool
are_rates p =
    is_within 1 p.rate p.rate_min && (is_within p.rate MAX_RATE p.rate_max
    && (nat_le p.up MAX_UP && is_within MIN_DOWN MAX_DOWN p.down))

-- the first of the faults in their order
abbrev pub policy_fault : PolicyNumbers → Option PolicyFault
policy_fault p =
    if is_within 1 MAX_WINDOW p.window then (
    if is_within 1 MAX_EVERY p.every then (
    if nat_le p.smoothing 999 then (
    if are_rates p then (
    if is_within 1 MAX_TARGET p.target && nat_le p.low 100 then (
    if is_within 1 MAX_DEPTH p.depth then None
    else Some Depth)
    else Some Target)
    else Some Rates)
    else Some Smoothing)
    else Some Every)
    else Some Window

-- the ranges that each policy keeps
pub record IsInRange (p : PolicyNumbers) : Type 0 where
  pub window : (1 ≤ p.window) × (p.window ≤ MAX_WINDOW)
  pub every : (1 ≤ p.every) × (p.every ≤ MAX_EVERY)
  pub smoothing : p.smoothing ≤ 999
  pub rate : (p.rate_min ≤ p.rate) × (p.rate ≤ p.rate_max)
  pub rate_min : 1 ≤ p.rate_min
  pub rate_max : p.rate_max ≤ MAX_RATE
  pub up : p.up ≤ MAX_UP
  pub down : (MIN_DOWN ≤ p.down) × (p.down ≤ MAX_DOWN)
  pub target : (1 ≤ p.target) × (p.target ≤ MAX_TARGET)
  pub low : p.low ≤ 100
  pub depth : (1 ≤ p.depth) × (p.depth ≤ MAX_DEPTH)
