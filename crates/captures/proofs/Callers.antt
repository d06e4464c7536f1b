-- What a caller of a reader concludes from an answer.
use Rattle.std.proofs.Common.{◌≡◌, ℕ, true, List, [], ◌∷◌, ◌++◌, Option, Some, None, Ok, is_some, unwrap_or, inl, inr, subst, sym}
use Rattle.captures.specs.Reference.{IsCaptureText}
use Rattle.captures.specs.declared.version.Version.{Version}
use Rattle.captures.specs.CaptureFaults.{IsForeseen, IsHeaderFault, IsFaultAfter, IsFirstFault}
use Rattle.captures.specs.Readers.{ReaderAfter, Gave}
use Rattle.captures.specs.declared.record.Record.{Record}
use Rattle.captures.specs.declared.progress.Progress.{Progress}
use Rattle.captures.specs.declared.capture_fault.CaptureFault.{CaptureFault}

-- one more record, which the caller put after the others
pub gave_record : (v : Version) (text now : Option (List ℕ)) (start : ℕ) (records more : List Record) (p : Progress) (x : Option Record) (r : Record) → x ≡ Some r → more ≡ records ++ r ∷ []
    → Gave v text start records (Ok x) p now → ReaderAfter v text start more p now
gave_record v text now start records more p x r is put h =
    let fits : ReaderAfter v text start (records ++ r ∷ []) p now = subst (λ (o : Option Record). Gave v text start records (Ok o) p now) is h in
    subst (λ (rs : List Record). ReaderAfter v text start rs p now) (sym put) fits

-- the end
pub gave_all : (v : Version) (text now : Option (List ℕ)) (start : ℕ) (records : List Record) (p : Progress) (x : Option Record) → x ≡ None
    → Gave v text start records (Ok x) p now → is_some text ≡ true → IsCaptureText v (unwrap_or text []) start records
gave_all v text now start records p x is h = subst (λ (o : Option Record). Gave v text start records (Ok o) p now) is h

-- a fault
pub first_after : (v : Version) (text : Option (List ℕ)) (start : ℕ) (records : List Record) (f : CaptureFault)
    → IsForeseen (λ bytes. IsFaultAfter v bytes start records) text f → IsForeseen IsFirstFault text f
first_after v text start records f h = λ known foreseen. inr (v, start, records, h known foreseen)

pub first_of_all : (text : Option (List ℕ)) (f : CaptureFault) → IsForeseen IsHeaderFault text f → IsForeseen IsFirstFault text f
first_of_all text f h = λ known foreseen. inl (h known foreseen)
