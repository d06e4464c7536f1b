-- What a step of an engine does to its decider and writes, whatever was decided on before it: the next message, the
-- messages of a piece, those that come next in a batch, and the next records.
use Rattle.std.specs.Prelude.{◌≡◌, ℕ, ◌+◌, ◌<◌, ◌≤◌, List, [], ◌∷◌, ◌++◌, length, map, take, Option}
use Rattle.captures.specs.declared.record.Record.{Record}
use Rattle.captures.specs.declared.version.Version.{Version}
use Rattle.captures.specs.Reference.{IsRecord, max_tick}
use Rattle.captures.specs.Captures.{size_of, sizes_of}
use Rattle.captures.specs.CaptureFaults.{longest_text}
use Rattle.http_requests.specs.declared.messages.Message.{Message}
use Rattle.http_requests.specs.declared.messages.Meaning.{Meaning}
use Rattle.arrivals.specs.Reference.{Arrival}
use Rattle.arrivals.specs.Connections.{arrivals_with, AreTiers}
use Rattle.arrivals.specs.declared.incoming.Incoming.{Incoming}
use Rattle.arrivals.specs.declared.incoming.Origin.{Origin}
use Rattle.reference.specs.Reference.{Terms, slip_of, handled_after}
use Rattle.replay.specs.Serving.{
  AreBy,
  Counted,
  DeciderAfter,
  IsLater,
  SameCapture,
  Serves,
  WritesMore,
  WritesFull,
  WritesInPart,
  ServesMore,
  ServesFull,
  ServesInPart,
  Written,
  WrittenInPart,
  most_messages,
}
use Rattle.reference.specs.Texts.{Texts, AreTexts, Wrote, WroteInPart}
use Rattle.replay.specs.States.{EngineState}
use Rattle.replay.specs.Coming.{ComeNext, Upcoming}
use Rattle.replay.specs.Backs.{slip_of_pending}
use Rattle.replay.specs.declared.pending.PendingReply.{PendingReply}
use Rattle.replay.specs.declared.decider.Decider.{Decider}
use Rattle.paths.specs.declared.file.File.{File}

-- messages may come from there next
pub record MayCome (files : List File) (terms : Terms) (origin : Origin) (decider : Decider) : Type 0 where
  pub tick : origin.tick ≤ max_tick
  pub tier : origin.tier < 4
  pub arrivals : List Arrival
  pub stands : DeciderAfter files terms arrivals decider
  pub by : AreBy origin.tick arrivals

-- the next message, of this origin and meaning, was decided on
pub record DecidesNext (files : List File) (terms : Terms) (origin : Origin) (what : Meaning)
    (before after : Decider) : Type 0 where
  pub same : SameCapture before after
  pub number : after.totals.answered ≡ before.totals.answered + 1
  pub stands : (arrivals : List Arrival) (a : Arrival) → Counted files terms arrivals before
      → a.origin ≡ origin → a.message.what ≡ what → DeciderAfter files terms (arrivals ++ a ∷ []) after

-- its text was written, and a prefix of that was
abbrev pub WritesNext : Texts → List File → Terms → Origin → Meaning → Decider → Option (List ℕ) → Option (List ℕ)
    → Type 0
WritesNext t files terms origin what decider old new = (arrivals : List Arrival) (a : Arrival)
    → DeciderAfter files terms arrivals decider
    → a.origin ≡ origin → a.message.what ≡ what → Wrote t decider.start arrivals (a ∷ []) old new

abbrev pub WritesNextInPart : Texts → List File → Terms → Origin → Meaning → Decider → Option (List ℕ) → Option (List ℕ)
    → Type 0
WritesNextInPart t files terms origin what decider old new = (arrivals : List Arrival) (a : Arrival)
    → DeciderAfter files terms arrivals decider → a.origin ≡ origin → a.message.what ≡ what
    → WroteInPart t decider.start arrivals (a ∷ []) old new

-- the messages of a piece from this origin were decided on
pub record DecidesPiece (files : List File) (terms : Terms) (origin : Origin) (messages : List Message)
    (before after : Decider) : Type 0 where
  pub same : SameCapture before after
  pub within : after.totals.answered ≤ after.most
  pub stands : (arrivals : List Arrival) (place id : ℕ) → DeciderAfter files terms arrivals before
      → DeciderAfter files terms (arrivals ++ arrivals_with place id origin messages) after

-- their text was written, and a prefix of that was
abbrev pub WritesPiece : Texts → List File → Terms → Origin → List Message → Decider → Option (List ℕ) → Option (List ℕ)
    → Type 0
WritesPiece t files terms origin messages decider old new = (arrivals : List Arrival) (place id : ℕ)
    → DeciderAfter files terms arrivals decider → Wrote t decider.start arrivals
    (arrivals_with place id origin messages) old new

abbrev pub WritesPieceInPart : Texts → List File → Terms → Origin → List Message → Decider → Option (List ℕ)
    → Option (List ℕ)
    → Type 0
WritesPieceInPart t files terms origin messages decider old new = (arrivals : List Arrival) (place id : ℕ)
    → DeciderAfter files terms arrivals decider → WroteInPart t decider.start arrivals
    (arrivals_with place id origin messages) old new

-- this record comes next, after others whose messages were answered
pub record MayAnswer (t : Texts) (files : List File) (terms : Terms) (next : Record)
    (state : EngineState) : Type 0 where
  pub laws : AreTexts t
  pub version : Version
  pub rules : IsRecord version next
  pub records : List Record
  pub arrivals : List Arrival
  pub serves : Serves files terms records arrivals state.connections state.decider
  pub small : sizes_of records + size_of next ≤ longest_text
  pub later : IsLater next arrivals
  pub within : state.decider.totals.answered ≤ state.decider.most

-- it was read, and the messages that arrived with it were decided on and written
pub record AnswersRecord (t : Texts) (files : List File) (terms : Terms) (next : Record) (before after : EngineState)
    (old new : Option (List ℕ)) : Type 0 where
  pub same : SameCapture before.decider after.decider
  pub within : after.decider.totals.answered ≤ after.decider.most
  pub tiers_are : (records : List Record) → AreTiers records before.tiers → AreTiers (records ++ next ∷ []) after.tiers
  pub serves : (records : List Record) (arrivals : List Arrival) → AreTiers records before.tiers
      → Serves files terms records arrivals before.connections before.decider
      → WritesMore t files terms records arrivals (next ∷ []) after.connections after.decider old new

-- they are more than the most that are answered, and those within it were written; a prefix of the text of those
-- within was written
abbrev pub FillsWithRecord : Texts → List File → Terms → Record → EngineState → Option (List ℕ) → Option (List ℕ)
    → Type 0
FillsWithRecord t files terms next state old new = (records : List Record) (arrivals : List Arrival)
    → AreTiers records state.tiers → Serves files terms records arrivals state.connections state.decider
    → WritesFull t state.decider.most state.decider.start records arrivals (next ∷ []) old new

abbrev pub AnswersRecordInPart : Texts → List File → Terms → Record → EngineState → Option (List ℕ) → Option (List ℕ)
    → Type 0
AnswersRecordInPart t files terms next state old new = (records : List Record) (arrivals : List Arrival)
    → AreTiers records state.tiers → Serves files terms records arrivals state.connections state.decider
    → WritesInPart t state.decider.most state.decider.start records arrivals (next ∷ []) old new

-- these messages of a batch come next, and are within the limit of messages
abbrev pub MayServe : List File → Terms → List Incoming → Decider → Type 0
MayServe files terms messages decider = (arrivals : List Arrival) × (more : List Arrival)
    × Upcoming files terms arrivals more messages decider × (length arrivals + length more ≤ most_messages)

-- the messages that come next in a batch were decided on
pub record DecidesComing (files : List File) (terms : Terms) (messages : List Incoming)
    (before after : Decider) : Type 0 where
  pub same : SameCapture before after
  pub stands : (arrivals more : List Arrival) → Upcoming files terms arrivals more messages before
      → DeciderAfter files terms (arrivals ++ more) after

-- these are their replies, which are still to be written
abbrev pub ArePending : {X : Type 0} → List File → Terms → List Incoming → Decider → List (PendingReply X) → Type 0
ArePending {X} files terms messages decider pending_replies = (arrivals more : List Arrival)
    → Upcoming files terms arrivals more messages decider
    → map slip_of_pending pending_replies ≡ map (slip_of {X = X} files terms decider.start)
    (handled_after files terms arrivals more)

-- the replies to them were written; a prefix of that was; the replies to the first of them were; a prefix of that
abbrev pub WritesComing : List File → Terms → List Incoming → Decider → Option (List ℕ) → Option (List ℕ) → Type 0
WritesComing files terms messages decider old new = (arrivals more : List Arrival)
    → Upcoming files terms arrivals more messages decider → Written files terms decider.start arrivals more old new

abbrev pub WritesComingInPart : List File → Terms → List Incoming → Decider → Option (List ℕ) → Option (List ℕ) → Type 0
WritesComingInPart files terms messages decider old new = (arrivals more : List Arrival)
    → Upcoming files terms arrivals more messages decider
    → WrittenInPart files terms decider.start arrivals more old new

abbrev pub WritesFirst : ℕ → List File → Terms → List Incoming → Decider → Option (List ℕ) → Option (List ℕ) → Type 0
WritesFirst i files terms messages decider old new = (arrivals more : List Arrival)
    → Upcoming files terms arrivals more messages decider
    → Written files terms decider.start arrivals (take i more) old new

abbrev pub WritesFirstInPart : ℕ → List File → Terms → List Incoming → Decider → Option (List ℕ) → Option (List ℕ)
    → Type 0
WritesFirstInPart i files terms messages decider old new = (arrivals more : List Arrival)
    → Upcoming files terms arrivals more messages decider
    → WrittenInPart files terms decider.start arrivals (take i more) old new

-- they are more than the most that are answered, n, and the replies to those within it were written; a prefix of the
-- replies to those within it was
abbrev pub FillsWithComing : List File → Terms → List Incoming → Decider → Option (List ℕ) → Option (List ℕ) → ℕ
    → Type 0
FillsWithComing files terms messages decider old new n = (n ≡ decider.most) × (i : ℕ) × (i < length messages)
    × (decider.totals.answered + i ≡ decider.most) × WritesFirst i files terms messages decider old new

abbrev pub AnswersComingInPart : List File → Terms → List Incoming → Decider → Option (List ℕ) → Option (List ℕ)
    → Type 0
AnswersComingInPart files terms messages decider old new = (i : ℕ) × (i ≤ length messages)
    × (decider.totals.answered + i ≤ decider.most) × WritesFirstInPart i files terms messages decider old new

-- these records come next
abbrev pub MayServeBatch : List File → Terms → List Record → EngineState → Type 0
MayServeBatch files terms rs state = (state.decider.totals.answered ≤ state.decider.most)
    × (records : List Record) × (arrivals : List Arrival) × ComeNext files terms records rs arrivals state

-- they were read, and the messages that arrived with them were answered
pub record AnswersBatch (files : List File) (terms : Terms) (rs : List Record) (before after : EngineState)
    (old new : Option (List ℕ)) : Type 0 where
  pub same : SameCapture before.decider after.decider
  pub within : after.decider.totals.answered ≤ after.decider.most
  pub tiers_are : (records : List Record) (arrivals : List Arrival) → ComeNext files terms records rs arrivals before
      → AreTiers (records ++ rs) after.tiers
  pub serves : (records : List Record) (arrivals : List Arrival) → ComeNext files terms records rs arrivals before
      → ServesMore files terms records arrivals rs after.connections after.decider old new

-- they are more than the most that are answered, and those within it were; a prefix of the replies to those within
-- was written
abbrev pub FillsWithBatch : List File → Terms → List Record → EngineState → Option (List ℕ) → Option (List ℕ) → Type 0
FillsWithBatch files terms rs state old new = (records : List Record) (arrivals : List Arrival)
    → ComeNext files terms records rs arrivals state
    → ServesFull files terms state.decider.most state.decider.start records arrivals rs old new

abbrev pub AnswersBatchInPart : List File → Terms → List Record → EngineState → Option (List ℕ) → Option (List ℕ)
    → Type 0
AnswersBatchInPart files terms rs state old new = (records : List Record) (arrivals : List Arrival)
    → ComeNext files terms records rs arrivals state
    → ServesInPart files terms state.decider.most state.decider.start records arrivals rs old new
