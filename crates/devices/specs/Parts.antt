-- What was taken of a text when a read failed, and at most.
use Rattle.std.specs.Prelude.{◌≡◌, ℕ, ◌+◌, ◌<◌, ◌≤◌, true, List, [], ◌++◌, length, Option, Result, Err, IfErr, is_some}
use Rattle.std.specs.Prelude.{unwrap_or}
use Rattle.devices.specs.Texts.{Ahead}

-- Where the bytes of the input are known, some of the next ones were taken, at most so many.
abbrev pub TookAtMost : ℕ → Option (List ℕ) → Option (List ℕ) → Type 0
TookAtMost most old new = is_some old ≡ true → (part : List ℕ) × (unwrap_or old [] ≡ part ++ unwrap_or new [])
    × (length part ≤ most) × (is_some new ≡ true)

-- a part was taken of which this holds, and the rest is ahead
pub record TookPart (Holds : List ℕ → Type 0) (old : Option (List ℕ)) (left : ℕ) (new : Option (List ℕ))
    (left_new : ℕ) : Type 0 where
  pub part : List ℕ
  pub bytes : unwrap_or old [] ≡ part ++ unwrap_or new []
  pub count : left ≡ length part + left_new
  pub known : is_some new ≡ true
  pub holds : Holds part

-- where the bytes of the input are known and the fault is a failed read, this holds of what the call had taken
abbrev pub FailsAfter : {Y E : Type 0} → E → (List ℕ → Type 0) → Option (List ℕ) → ℕ → Option (List ℕ) → ℕ → Result Y E
    → Type 0
FailsAfter failed Holds old left new left_new r = IfErr r
    (λ e. e ≡ failed → is_some old ≡ true → TookPart Holds old left new left_new)

-- it is nothing
abbrev pub FailsAtOnce : {Y E : Type 0} → E → Option (List ℕ) → ℕ → Option (List ℕ) → ℕ → Result Y E → Type 0
FailsAtOnce failed old left new left_new r = FailsAfter failed (λ part. part ≡ []) old left new left_new r

-- f finds it cut: nothing whole of what f reads had been taken
abbrev pub FailsWithin : {X Y E : Type 0} → E → E → (Ahead → Result (X × Ahead) E) → Option (List ℕ) → ℕ
    → Option (List ℕ) → ℕ → Result Y E → Type 0
FailsWithin failed cut f old left new left_new r = FailsAfter failed
    (λ part. f (record { bytes = part; left = left }) ≡ Err cut) old left new left_new r

-- memory ran out: some bytes had been taken, and f finds them cut
abbrev pub LacksWithin : {X Y E : Type 0} → E → E → (Ahead → Result (X × Ahead) E) → Option (List ℕ) → ℕ
    → Option (List ℕ) → ℕ → Result Y E → Type 0
LacksWithin lacking cut f old left new left_new r = FailsAfter lacking
    (λ part. (0 < length part) × (f (record { bytes = part; left = left }) ≡ Err cut)) old left new left_new r
