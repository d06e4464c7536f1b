-- The records of a batch, and its messages, which come next.
use Rattle.std.specs.Prelude.{◌≡◌, ◌≤◌, List, [], ◌++◌, map, ◌<◌, ◌∷◌}
use Rattle.captures.specs.declared.record.Record.{Record}
use Rattle.captures.specs.declared.version.Version.{Version}
use Rattle.captures.specs.Reference.{IsCapture, max_tick}
use Rattle.captures.specs.CaptureFaults.{longest_text}
use Rattle.captures.specs.Captures.{sizes_of}
use Rattle.arrivals.specs.Reference.{Arrival}
use Rattle.arrivals.specs.Connections.{AreTiers}
use Rattle.arrivals.specs.Gathering.{incoming_of}
use Rattle.arrivals.specs.declared.incoming.Incoming.{Incoming}
use Rattle.reference.specs.Reference.{Terms}
use Rattle.replay.specs.Serving.{Serves, DeciderAfter, AreBy}
use Rattle.replay.specs.States.{EngineState}
use Rattle.replay.specs.declared.decider.Decider.{Decider}
use Rattle.paths.specs.declared.file.File.{File}
use Rattle.cost_model.specs.Reference.{Tariff}
use Rattle.replay.specs.Fronts.{front_value}
use Rattle.replay.specs.declared.lookup.LookedUp.{LookedUp}

-- The messages of a batch between the two floors.

-- these are the messages of the arrivals
abbrev pub AreOf : List Arrival → List Incoming → Type 0
AreOf arrivals messages = map incoming_of arrivals ≡ messages

-- these arrivals were looked up
abbrev pub AreLookedUp : List File → Tariff → List Arrival → List LookedUp → Type 0
AreLookedUp files tariff arrivals lookups = lookups ≡ map (λ a. front_value files tariff (incoming_of a)) arrivals

-- none of them comes before an earlier one, and each is of some tier
abbrev pub InTime : List Arrival → List Arrival → Type 0
InTime earlier [] = Unit {0}
InTime earlier (a ∷ more) = AreBy a.origin.tick earlier × (a.origin.tick ≤ max_tick) × (a.origin.tier < 4)
    × InTime (earlier ++ a ∷ []) more

-- these records come next, after others whose messages were answered
pub record ComeNext (files : List File) (terms : Terms) (records rs : List Record) (arrivals : List Arrival)
    (state : EngineState) : Type 0 where
  pub serves : Serves files terms records arrivals state.connections state.decider
  pub tiers_are : AreTiers records state.tiers
  pub version : Version
  pub rules : IsCapture version state.decider.start (records ++ rs)
  pub small : sizes_of (records ++ rs) ≤ longest_text

-- these messages come next, after those that were served: they are those of the arrivals, in time
pub record Upcoming (files : List File) (terms : Terms) (arrivals more : List Arrival) (messages : List Incoming)
    (decider : Decider) : Type 0 where
  pub stands : DeciderAfter files terms arrivals decider
  pub are : AreOf more messages
  pub timely : InTime arrivals more
