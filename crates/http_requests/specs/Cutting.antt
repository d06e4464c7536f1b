-- What a cutter holds between two pieces, and what it has done with the pieces so far.
use Rattle.std.specs.Prelude.{◌≡◌, ℕ, ◌+◌, ◌-◌, ◌<◌, ◌≤◌, List, [], ◌∷◌, ◌++◌, length, take, drop, MatchBool, true}
use Rattle.std.specs.Prelude.{false}
use Rattle.http_requests.specs.Reference.{max_block_bytes, max_body_bytes, NoBlock, Messages, MessagesOf, blank_len}
use Rattle.http_requests.specs.Reference.{closes, IsNext}
use Rattle.http_requests.specs.declared.messages.Meaning.{Meaning}
use Rattle.http_requests.specs.declared.messages.Message.{Message}
use Rattle.http_requests.specs.declared.heads.Verdict.{Verdict}
use Rattle.http_requests.specs.declared.cutting.CutterState.{CutterState}
use Rattle.http_requests.specs.declared.cutting.CutterState.TheVariants.{Seeking, Body, Closed, Failed}
use Rattle.http_requests.specs.declared.cutting.State.{State}
use Rattle.http_requests.specs.declared.heads.Extent.{Extent}
use Rattle.http_requests.specs.declared.counting.CountStep.{CountStep}
use Rattle.http_requests.specs.declared.counting.CountStep.TheVariants.{Missing, Last, Over}

-- what a cutter keeps of the text: where it stands, how many bytes were read, and the prefix that was
-- read of a block that isn't whole
pub record Progress : Type 0 where
  pub stage : CutterState
  pub read : ℕ
  pub held : List ℕ

-- the messages after one that does or does not close
abbrev pub MessagesAfter : Meaning → ℕ → List ℕ → List Message → Type 0
MessagesAfter what p r ms = MatchBool (closes what) (ms ≡ []) (Messages p r ms)

-- the messages of a body's text, which begins at place p: none before it is whole
abbrev pub BodyMessages : Meaning → ℕ → ℕ → List ℕ → List Message → Type 0
BodyMessages what left p y [] = length y < left
BodyMessages what left p y (m ∷ ms) = (left ≤ length y) × (m.what ≡ what) × (m.end ≡ p + left)
    × MessagesAfter what (p + left) (drop left y) ms

-- the messages that end in y, where y follows what was read
abbrev pub Yields : CutterState → ℕ → List ℕ → List ℕ → List Message → Type 0
Yields Seeking read held y ms = Messages (read - length held) (held ++ y) ms
Yields (Body what left) read held y ms = BodyMessages what left read y ms
Yields Closed read held y ms = ms ≡ []
Yields Failed read held y ms = ms ≡ []

abbrev pub YieldsIn : Progress → List ℕ → List Message → Type 0
YieldsIn c y ms = Yields c.stage c.read c.held y ms

-- the prefix of a block that isn't whole
abbrev pub IsUnfinished : List ℕ → Type 0
IsUnfinished held = (blank_len held ≡ 0) × NoBlock held × (length held < max_block_bytes)

-- what is held at each stage: the prefix of a block that was read, or nothing
abbrev pub IsStage : CutterState → ℕ → List ℕ → Type 0
IsStage Seeking read held = IsUnfinished held × (length held ≤ read)
IsStage (Body what left) read held = (0 < left) × (left ≤ max_body_bytes) × (held ≡ [])
IsStage Closed read held = Unit {0}
IsStage Failed read held = Unit {0}

-- what holds of each cutter
pub record IsSound (c : Progress) : Type 0 where
  pub stage : IsStage c.stage c.read c.held

-- the cutter ran out of memory
abbrev pub HasFailed : Progress → Type 0
HasFailed c = c.stage ≡ Failed

-- the messages end one after another, after the place `from` and by the place `to`
abbrev pub EndBetween : ℕ → ℕ → List Message → Type 0
EndBetween from to [] = Unit {0}
EndBetween from to (m ∷ ms) = (from < m.end) × (m.end ≤ to) × EndBetween m.end to ms

-- messages came: those of a body's text are these and then what the cutter yields
pub record Enters (what : Meaning) (left read : ℕ) (c : Progress) (old new : List Message) : Type 0 where
  pub more : List Message
  pub appended : new ≡ old ++ more
  pub ends : (from : ℕ) → from < read → EndBetween from read more
  pub yields : (y : List ℕ) (ms : List Message) → YieldsIn c y ms → BodyMessages what left read y (more ++ ms)

-- messages came: those of what was taken are these, and then what the cutter yields
pub record Cuts (before : Progress) (taken : List ℕ) (after : Progress) (old new : List Message) : Type 0 where
  pub more : List Message
  pub appended : new ≡ old ++ more
  pub ends : EndBetween before.read after.read more
  pub yields : (y : List ℕ) (ms : List Message) → YieldsIn after y ms → YieldsIn before (taken ++ y) (more ++ ms)

-- a message's block was taken, whose verdict this is, and n bytes of the text with it
pub record Begins (held text : List ℕ) (n : ℕ) (verdict : Verdict) : Type 0 where
  pub some : 0 < n
  pub within : n ≤ length text
  pub yields :
      (p : ℕ) (y : List ℕ) (ms : List Message)
      → BodyMessages verdict.what verdict.length (p + (length held + n)) y ms
      → Messages p (held ++ (take n text ++ y)) ms

-- no block was whole, and n bytes of the text were taken
pub record Waits (held text : List ℕ) (n : ℕ) (after : List ℕ) : Type 0 where
  pub some : 0 < n
  pub within : n ≤ length text
  pub unfinished : IsUnfinished after
  pub kept : length after ≤ length held + n
  pub yields :
      (p : ℕ) (y : List ℕ) (ms : List Message)
      → Messages (p + (length held + n - length after)) (after ++ y) ms
      → Messages p (held ++ (take n text ++ y)) ms

-- the cutter took n bytes of the text
pub record Took (before : Progress) (text : List ℕ) (after : Progress) (old new : List Message) (n : ℕ) : Type 0 where
  pub some : 0 < n
  pub within : n ≤ length text
  pub sound : IsSound after
  pub live : ¬ (HasFailed after)
  pub read : after.read ≡ before.read + n
  pub cuts : Cuts before (take n text) after old new

-- the cutter has read this text, whose messages are these; and whatever follows, the messages of
-- the whole are these and then what the cutter yields. No cutter that ran out of memory fits
pub record CutterAfter (past : List ℕ) (sofar : List Message) (c : Progress) : Type 0 where
  pub live : ¬ (HasFailed c)
  pub read : c.read ≡ length past
  pub messages : MessagesOf past sofar
  pub goes_on : (y : List ℕ) (ms : List Message) → YieldsIn c y ms → MessagesOf (past ++ y) (sofar ++ ms)

-- a piece after the text so far was read: what was appended are the messages of the longer text
-- that end in the piece, in order, and the cutter fits the longer text
pub record Fed
    (past : List ℕ) (sofar : List Message) (after : Progress) (piece : List ℕ) (old new : List Message) : Type 0 where
  pub more : List Message
  pub appended : new ≡ old ++ more
  pub messages : MessagesOf (past ++ piece) (sofar ++ more)
  pub in_piece : EndBetween (length past) (length past + length piece) more
  pub fits : CutterAfter (past ++ piece) (sofar ++ more) after

-- memory ran out in a piece: what was appended are the messages of the text so far and the first
-- bytes of the piece, and so the first of those of the longer text
pub record FedSome
    (past : List ℕ) (sofar : List Message) (piece : List ℕ) (old new : List Message) : Type 0 where
  pub more : List Message
  pub appended : new ≡ old ++ more
  pub at : ℕ
  pub within : at ≤ length piece
  pub messages : MessagesOf (past ++ take at piece) (sofar ++ more)
  pub first :
      (all : List Message) → MessagesOf (past ++ piece) all
      → (rest : List Message) × (all ≡ sofar ++ more ++ rest)

-- the text of pieces
abbrev pub joined : List (List ℕ) → List ℕ
joined [] = []
joined (piece ∷ pieces) = piece ++ joined pieces

abbrev pub max_text_bytes : ℕ
max_text_bytes = 1125899906842624

-- without the allocator, and with the bytes that are held as a list
abbrev pub progress : State → Progress
progress s = record { stage = s.stage; read = s.read; held = s.held.items }

-- What the count of messages asks of a block and of the rest of a text.

-- how a message goes on after its block, by the block's verdict
abbrev pub IsExtent : Verdict → Extent → Type 0
IsExtent verdict extent = (extent.closes ≡ closes verdict.what) × (extent.length ≡ verdict.length)

-- the rest of a text has no message; or one that ends the connection; or one that doesn't, of n bytes
abbrev pub IsStep : List ℕ → CountStep → Type 0
IsStep rest Missing = (what : Meaning) (k : ℕ) → IsNext rest what k → ⊥
IsStep rest Last = (what : Meaning) × (k : ℕ) × IsNext rest what k × (closes what ≡ true)
IsStep rest (Over n) = (what : Meaning) × IsNext rest what n × (closes what ≡ false)
