-- What the piece of a record is cut into ahead of its turn.
use Rattle.std.specs.Prelude.{◌≡◌, List, []}
use Rattle.captures.specs.declared.record.Record.{Record}
use Rattle.captures.specs.declared.record.Record.TheVariants.{Piece, End, Tier}
use Rattle.captures.specs.declared.version.Version.{Version}
use Rattle.captures.specs.Reference.{IsRecord}
use Rattle.http_requests.specs.Alone.{CutAlone}
use Rattle.http_requests.specs.declared.cutting.PieceEnd.{PieceEnd}
use Rattle.http_requests.specs.declared.messages.Message.{Message}

-- some version allows the record
pub record IsAllowed (r : Record) : Type 0 where
  pub version : Version
  pub rules : IsRecord version r

-- a piece, cut by itself, gives these messages and ends so; another record gives none
abbrev pub GivesAlone : Record → List Message → PieceEnd → Type 0
GivesAlone (Piece tick conn bytes) ms end = CutAlone bytes ms end
GivesAlone (End tick conn) ms end = ms ≡ []
GivesAlone (Tier conn tier) ms end = ms ≡ []
