-- What a replay writes of the messages of a capture, one after another: their replies, or the rows of a table.
use Rattle.std.specs.Prelude.{◌≡◌, ℕ, List, [], ◌++◌, length, flat_map, Option}
use Rattle.std.specs.Io.KnownBytes.{Appends}
use Rattle.devices.specs.Devices.{AppendsPrefix}
use Rattle.responses.specs.Reference.{record_text}
use Rattle.arrivals.specs.Reference.{Arrival}
use Rattle.reference.specs.Reference.{Terms, handled, handled_after, first_line, last_line, replies_of}
use Rattle.reference.specs.Reference.{text_before_stop}
use Rattle.reference.specs.Reference.{replies_text}
use Rattle.paths.specs.declared.file.File.{File}

-- The texts that are written of a capture, by its start and its arrivals: the first line; what stands after these
-- messages, while others may still come; what is written of messages that come after the earlier ones; what is written
-- after n messages, where no other comes; and the whole.
pub record Texts : Type 0 where
  pub first : List ℕ
  pub so_far : ℕ → List Arrival → List ℕ
  pub after : ℕ → List Arrival → List Arrival → List ℕ
  pub last : ℕ → List ℕ
  pub whole : ℕ → List Arrival → List ℕ

-- they are written from the first line to the last, message after message
pub record AreTexts (t : Texts) : Type 0 where
  pub begins : (start : ℕ) → t.so_far start [] ≡ t.first
  pub goes_on : (start : ℕ) (arrivals more : List Arrival)
      → t.so_far start (arrivals ++ more) ≡ t.so_far start arrivals ++ t.after start arrivals more
  pub none : (start : ℕ) (earlier : List Arrival) → t.after start earlier [] ≡ []
  pub more : (start : ℕ) (earlier first more : List Arrival)
      → t.after start earlier (first ++ more) ≡ t.after start earlier first ++ t.after start (earlier ++ first) more
  pub ends : (start : ℕ) (arrivals : List Arrival)
      → t.whole start arrivals ≡ t.so_far start arrivals ++ t.last (length arrivals)

-- the replies
abbrev pub reply_texts : List File → Terms → Texts
reply_texts files terms = record {
  first = first_line;
  so_far = λ start arrivals. text_before_stop (replies_of files terms start (handled files terms arrivals));
  after = λ start earlier arrivals.
      flat_map record_text (replies_of files terms start (handled_after files terms earlier arrivals));
  last = last_line;
  whole = λ start arrivals. replies_text (replies_of files terms start (handled files terms arrivals));
}

-- the text of messages that come after the earlier ones was written, and a prefix of it was
abbrev pub Wrote : Texts → ℕ → List Arrival → List Arrival → Option (List ℕ) → Option (List ℕ) → Type 0
Wrote t start earlier arrivals old new = Appends old new (t.after start earlier arrivals)

abbrev pub WroteInPart : Texts → ℕ → List Arrival → List Arrival → Option (List ℕ) → Option (List ℕ) → Type 0
WroteInPart t start earlier arrivals old new = AppendsPrefix old new (t.after start earlier arrivals)
