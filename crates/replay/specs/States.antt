-- What an engine has come to, as its contracts see it.
use Rattle.std.specs.Prelude.{ℕ, List}
use Rattle.arrivals.specs.declared.connections.Connection.{Connection}
use Rattle.replay.specs.declared.decider.Decider.{Decider}
use Rattle.replay.specs.declared.engine.Engine.{Engine}

-- the tier and the connection of each number, and what was decided on
pub record EngineState : Type 0 where
  pub tiers : List ℕ
  pub connections : List Connection
  pub decider : Decider

abbrev pub state_of : {S : Type 0} → Engine S → EngineState
state_of engine = record { tiers = engine.tiers; connections = engine.connections; decider = engine.decider }
