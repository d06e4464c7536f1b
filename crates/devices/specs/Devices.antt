-- A device that is lent to a call, and what one read of a byte and one write do to it where its bytes are known.
use Rattle.std.specs.Prelude.{ℕ, ◌≡◌, ◌<◌, ◌≤◌, ◌+◌, ◌-◌, ◌^◌, List, [], ◌∷◌, take, length, None, Some, Option}
use Rattle.std.specs.Prelude.{MatchResult, Result, Ok, Bool, true, false, ◌==◌, ◌&&◌, nat_lt}
use Rattle.std.specs.Option.{is_none}
use Rattle.std.specs.Io.KnownBytes.{Keeps, Consumes, Appends, IsAtEnd}
use Rattle.devices.specs.declared.device.Failed.{Failed}

-- The bytes that a reader has left, or that a writer holds, where these are known; how often it has failed; and whether
-- it is over: a reader that met its end, a writer that failed. What is over isn't asked again.
pub record Device : Type 0 where
  pub bytes : Option (List ℕ)
  pub failures : ℕ
  pub over : Bool

-- its count of failures can rise
abbrev pub CanFail : Device → Type 0
CanFail device = device.failures < 2 ^ 64 - 1

-- its count rose by what the answer reports of it, and by nothing at Ok
abbrev pub CountsBy : {X E : Type 0} → (E → ℕ) → ℕ → ℕ → Result X E → Type 0
CountsBy attributed old new r = MatchResult r (λ _. new ≡ old) (λ e. new ≡ old + attributed e)

-- it failed at most once in a call, and is reported only where it did
abbrev pub AttributedOnce : {X E : Type 0} → (E → ℕ) → ℕ → ℕ → Result X E → Type 0
AttributedOnce attributed old new r = MatchResult r (λ _. new ≡ old) (λ e. (old + attributed e ≤ new) × (new ≤ old + 1))

-- a device that has not failed yet
abbrev pub fresh : Option (List ℕ) → Device
fresh bytes = record { bytes = bytes; failures = 0; over = false }

-- what is ahead of an input: none once it is over
abbrev pub ahead_unless : Bool → Option (List ℕ) → Option (List ℕ)
ahead_unless true bytes = Some []
ahead_unless false bytes = bytes

-- A read of an input that is over gives nothing, and changes nothing. One that isn't is over exactly where a read into
-- some buffer gave none.
abbrev pub ReadsToEnd : Device → Device → Result ℕ Failed → List ℕ → Type 0
ReadsToEnd old new r buffer = (old.over ≡ true → (r ≡ Ok 0) × (new ≡ old))
    × (old.over ≡ false → MatchResult r (λ n. new.over ≡ (n == 0 && nat_lt 0 (length buffer))) (λ _. new.over ≡ false))

-- the same of a read of one byte
abbrev pub ByteToEnd : Device → Device → Result (Option ℕ) Failed → Type 0
ByteToEnd old new r = (old.over ≡ true → (r ≡ Ok None) × (new ≡ old))
    × (old.over ≡ false → MatchResult r (λ b. new.over ≡ is_none b) (λ _. new.over ≡ false))

-- nothing is written to an output that is over, and an output is over from the first write on that failed
abbrev pub WritesUnlessOver : {X E : Type 0} → Device → Device → Result X E → Type 0
WritesUnlessOver old new r = (old.over ≡ true → new.bytes ≡ old.bytes)
    × MatchResult r (λ _. new.over ≡ old.over) (λ _. new.over ≡ true)

-- one byte was taken, or the end was met
abbrev pub TakesByte : Option (List ℕ) → Option (List ℕ) → Option ℕ → Type 0
TakesByte old new (Some b) = Consumes old new (b ∷ [])
TakesByte old new None = Keeps old new × IsAtEnd new

abbrev pub ByteConsumes : Option (List ℕ) → Option (List ℕ) → Result (Option ℕ) Failed → Type 0
ByteConsumes old new r = MatchResult r (TakesByte old new) (λ _. Keeps old new)

-- at `Ok(n)` the first n bytes were written, some where there were any; at `Err` none
abbrev pub WritesSome : Option (List ℕ) → Option (List ℕ) → Result ℕ Failed → List ℕ → Type 0
WritesSome old new r bytes = MatchResult r
    (λ n. Appends old new (take n bytes) × (n ≤ length bytes) × (0 < length bytes → 0 < n))
    (λ _. Keeps old new)

-- a prefix of the text was written
abbrev pub AppendsPrefix : Option (List ℕ) → Option (List ℕ) → List ℕ → Type 0
AppendsPrefix old new text = (n : ℕ) × (n ≤ length text) × Appends old new (take n text)

-- a prefix of it, and not all
abbrev pub AppendsProperPrefix : Option (List ℕ) → Option (List ℕ) → List ℕ → Type 0
AppendsProperPrefix old new text = (n : ℕ) × (n < length text) × Appends old new (take n text)

-- at `Ok` all the text was written, at `Err` a prefix of it
abbrev pub WritesPrefix : {X E : Type 0} → Option (List ℕ) → Option (List ℕ) → Result X E → List ℕ → Type 0
WritesPrefix old new r text = MatchResult r (λ _. Appends old new text) (λ _. AppendsPrefix old new text)

-- at `Ok` all the text was written, at `Err` a prefix of it and not all
abbrev pub WritesProperPrefix : {X E : Type 0} → Option (List ℕ) → Option (List ℕ) → Result X E → List ℕ → Type 0
WritesProperPrefix old new r text = MatchResult r (λ _. Appends old new text) (λ _. AppendsProperPrefix old new text)

-- the device failed once at `Err`, and not at `Ok`
abbrev pub CountsFailed : {X E : Type 0} → ℕ → ℕ → Result X E → Type 0
CountsFailed old new r = CountsBy (λ _. 1) old new r
