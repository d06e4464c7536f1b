-- What stands at a device after one write and another.
use Rattle.std.proofs.Common.{◌≡◌, ℕ, ◌+◌, List, [], ◌++◌, length, take, drop, Option, Some, None, Result, Ok, Err, sym, ap, ◌∙◌, subst, arith, append-nil}
use Rattle.std.proofs.lemmas.List.{append_assoc, length-append, take-append-le, take_all}
use Rattle.std.proofs.Math.Seq.{take-add, take-append-add}
use Rattle.std.specs.Io.KnownBytes.{Appends}
use Rattle.devices.specs.Devices.{AppendsPrefix, AppendsProperPrefix, WritesPrefix, WritesProperPrefix}

pub appends_none : (old : Option (List ℕ)) → Appends old old []
appends_none None = tt
appends_none (Some x) = sym (append-nil x)

pub appends_then : (old mid new : Option (List ℕ)) (a b : List ℕ) → Appends old mid a → Appends mid new b → Appends old new (a ++ b)
appends_then None mid new a b first second = tt
appends_then (Some x) None new a b first second = absurd first
appends_then (Some x) (Some y) None a b first second = absurd second
appends_then (Some x) (Some y) (Some z) a b first second = second ∙ ap (λ v. v ++ b) first ∙ append_assoc x a b

-- one write further
pub appends_more : (old mid new : Option (List ℕ)) (bytes : List ℕ) (at n : ℕ) → Appends old mid (take at bytes) → Appends mid new (take n (drop at bytes)) → Appends old new (take (at + n) bytes)
appends_more old mid new bytes at n first second = rw take-add (appends_then old mid new (take at bytes) (take n (drop at bytes)) first second)

-- ---- a prefix

pub prefix_none : (old : Option (List ℕ)) (text : List ℕ) → AppendsPrefix old old text
prefix_none old text = (0, omega arith, appends_none old)

pub prefix_all : (old new : Option (List ℕ)) (text : List ℕ) → Appends old new text → AppendsPrefix old new text
prefix_all old new text h = (length text, omega arith, subst (λ (w : List ℕ). Appends old new w) (sym (take_all (length text) text (omega arith))) h)

-- a prefix of what comes first is one of the whole
pub prefix_first : (old new : Option (List ℕ)) (a b : List ℕ) → AppendsPrefix old new a → AppendsPrefix old new (a ++ b)
prefix_first old new a b h = (h.0, omega (arith, h.1, length-append a b), subst (λ (w : List ℕ). Appends old new w) (sym (take-append-le h.0 a b h.1)) h.2)

-- all of what comes first, and a prefix of the rest
pub prefix_then : (old mid new : Option (List ℕ)) (a b : List ℕ) → Appends old mid a → AppendsPrefix mid new b → AppendsPrefix old new (a ++ b)
prefix_then old mid new a b first h = (
  length a + h.0,
  omega (arith, h.1, length-append a b),
  subst (λ (w : List ℕ). Appends old new w) (sym (take-append-add a b h.0)) (appends_then old mid new a (take h.0 b) first h.2),
)

-- all of it alone
pub prefix_whole : (old new : Option (List ℕ)) (a b : List ℕ) → Appends old new a → AppendsPrefix old new (a ++ b)
prefix_whole old new a b h = prefix_first old new a b (prefix_all old new a h)

-- one write and another
pub writes_then : {X E : Type 0} (old mid new : Option (List ℕ)) (a b : List ℕ) (r : Result X E) → Appends old mid a → WritesPrefix mid new r b → WritesPrefix old new r (a ++ b)
writes_then old mid new a b (Ok x) first h = appends_then old mid new a b first h
writes_then old mid new a b (Err e) first h = prefix_then old mid new a b first h

-- ---- a proper prefix

pub proper_is_prefix : (old new : Option (List ℕ)) (text : List ℕ) → AppendsProperPrefix old new text → AppendsPrefix old new text
proper_is_prefix old new text h = (h.0, omega (arith, h.1), h.2)

pub proper_first : (old new : Option (List ℕ)) (a b : List ℕ) → AppendsProperPrefix old new a → AppendsProperPrefix old new (a ++ b)
proper_first old new a b h = (h.0, omega (arith, h.1, length-append a b), subst (λ (w : List ℕ). Appends old new w) (sym (take-append-le h.0 a b (omega (arith, h.1)))) h.2)

pub proper_then : (old mid new : Option (List ℕ)) (a b : List ℕ) → Appends old mid a → AppendsProperPrefix mid new b → AppendsProperPrefix old new (a ++ b)
proper_then old mid new a b first h = (
  length a + h.0,
  omega (arith, h.1, length-append a b),
  subst (λ (w : List ℕ). Appends old new w) (sym (take-append-add a b h.0)) (appends_then old mid new a (take h.0 b) first h.2),
)

pub writes_proper_then : {X E : Type 0} (old mid new : Option (List ℕ)) (a b : List ℕ) (r : Result X E) → Appends old mid a → WritesProperPrefix mid new r b → WritesProperPrefix old new r (a ++ b)
writes_proper_then old mid new a b (Ok x) first h = appends_then old mid new a b first h
writes_proper_then old mid new a b (Err e) first h = proper_then old mid new a b first h

-- a write of a whole that stopped in its first part, and in a later one
pub stopped_first : (old new : Option (List ℕ)) (a rest whole : List ℕ) → whole ≡ a ++ rest → AppendsProperPrefix old new a → AppendsProperPrefix old new whole
stopped_first old new a rest whole is stop = subst (λ (w : List ℕ). AppendsProperPrefix old new w) (sym is) (proper_first old new a rest stop)

pub stopped_in : (old mid new : Option (List ℕ)) (a b rest whole : List ℕ) → whole ≡ a ++ (b ++ rest) → Appends old mid a → AppendsProperPrefix mid new b → AppendsProperPrefix old new whole
stopped_in old mid new a b rest whole is before stop =
    subst (λ (w : List ℕ). AppendsProperPrefix old new w) (sym is) (proper_then old mid new a (b ++ rest) before (proper_first mid new b rest stop))
