-- Pieces that are cut by themselves, as if the text stood between two messages where each begins.
use Rattle.std.specs.Prelude.{◌≡◌, ℕ, ◌+◌, List, [], ◌++◌, length, map}
use Rattle.http_requests.specs.Reference.{Messages}
use Rattle.http_requests.specs.Cutting.{EndBetween, Progress}
use Rattle.http_requests.specs.declared.cutting.CutterState.TheVariants.{Seeking, Closed as IsClosed}
use Rattle.http_requests.specs.declared.cutting.PieceEnd.{PieceEnd}
use Rattle.http_requests.specs.declared.cutting.PieceEnd.TheVariants.{Between, Closed, Unfinished}
use Rattle.http_requests.specs.declared.messages.Message.{Message}

-- the messages, with n bytes more of the text before them
abbrev pub shifted : ℕ → List Message → List Message
shifted n ms = map (λ m. record { end = n + m.end; what = m.what }) ms

-- the piece is these messages, from wherever in a text it begins: those of what follows come after them
pub record IsWholly (piece : List ℕ) (ms : List Message) : Type 0 where
  pub in_piece : EndBetween 0 (length piece) ms
  pub goes_on : (p : ℕ) (y : List ℕ) (ns : List Message)
      → Messages (p + length piece) y ns → Messages p (piece ++ y) (shifted p ms ++ ns)

-- the last of these messages closes: they are those of the piece and of whatever follows it
pub record IsLast (piece : List ℕ) (ms : List Message) : Type 0 where
  pub in_piece : EndBetween 0 (length piece) ms
  pub closes : (p : ℕ) (y : List ℕ) → Messages p (piece ++ y) (shifted p ms)

-- What was cut of a piece by itself: its messages, where the text stands between two messages after it, or is closed.
-- Of a piece that ends within a message nothing is said.
abbrev pub CutAlone : List ℕ → List Message → PieceEnd → Type 0
CutAlone piece ms Between = IsWholly piece ms
CutAlone piece ms Closed = IsLast piece ms
CutAlone piece ms Unfinished = Unit {0}

-- the cutter stands between two messages, and nothing of the next came yet
abbrev pub IsBetween : Progress → Type 0
IsBetween c = (c.stage ≡ Seeking) × (c.held ≡ [])

-- the cutter stands so
abbrev pub StandsSo : PieceEnd → Progress → Type 0
StandsSo Between c = IsBetween c
StandsSo Closed c = c.stage ≡ IsClosed
StandsSo Unfinished c = ¬ (IsBetween c) × ¬ (c.stage ≡ IsClosed)
