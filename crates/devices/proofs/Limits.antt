-- At most so many bytes were taken.
use Rattle.std.proofs.Common.{◌≡◌, ℕ, ◌+◌, ◌≤◌, true, List, [], ◌∷◌, ◌++◌, length, take, Option, Some, None, refl, sym, ap, ◌∙◌, arith, is_some, unwrap_or}
use Rattle.std.proofs.lemmas.List.{append_assoc, length-append, length-take}
use Rattle.devices.specs.Devices.{TakesByte}
use Rattle.devices.specs.Parts.{TookAtMost}
use Rattle.devices.proofs.Taking.{Takes}

-- one byte was taken, or none
pub took_byte : (o n : Option (List ℕ)) (b : Option ℕ) → TakesByte o n b → TookAtMost 1 o n
took_byte None n b h k = absurd cc
took_byte (Some xs) None (Some b) h k = absurd h
took_byte (Some xs) None None h k = absurd h.0
took_byte (Some xs) (Some ys) (Some b) h k = (b ∷ [], h, omega arith, refl)
took_byte (Some xs) (Some ys) None h k = ([], sym h.0, omega arith, refl)

-- just these were taken
pub took_all : (most : ℕ) (o n : Option (List ℕ)) (l nl : ℕ) (taken : List ℕ) → Takes o l n nl taken → (l ≡ length taken + nl → length taken ≤ most) → TookAtMost most o n
took_all most o n l nl taken t size k = (taken, t.bytes k, size (t.count k), t.known k)

-- these were taken, and then at most so many more
pub took_more : (most more : ℕ) (o n m : Option (List ℕ)) (l nl : ℕ) (taken : List ℕ) → Takes o l n nl taken → (l ≡ length taken + nl → length taken + more ≤ most)
    → TookAtMost more n m → TookAtMost most o m
took_more most more o n m l nl taken t size h k =
    let rest = h (t.known k) in (
      taken ++ rest.0,
      t.bytes k ∙ (ap (λ v. taken ++ v) rest.1 ∙ sym (append_assoc taken rest.0 (unwrap_or m []))),
      omega (arith, size (t.count k), rest.2, length-append taken rest.0),
      rest.3,
    )

-- and then the first bytes of a buffer came
pub took_piece : (most : ℕ) (o n m : Option (List ℕ)) (l nl count : ℕ) (taken buffer : List ℕ) → Takes o l n nl taken → count ≤ length buffer
    → (is_some n ≡ true → (unwrap_or n [] ≡ take count buffer ++ unwrap_or m []) × (is_some m ≡ true))
    → (l ≡ length taken + nl → length taken + count ≤ most) → TookAtMost most o m
took_piece most o n m l nl count taken buffer t within came size =
    took_more most count o n m l nl taken t size (λ k. let now = came k in (take count buffer, now.0, omega (arith, length-take count buffer), now.1))

-- fewer than so many are fewer than more
pub took_within : (fewer most : ℕ) (o n : Option (List ℕ)) → fewer ≤ most → TookAtMost fewer o n → TookAtMost most o n
took_within fewer most o n h t k = let some = t k in (some.0, some.1, omega (arith, h, some.2), some.3)

-- nothing was taken
pub took_none : (most : ℕ) (o : Option (List ℕ)) → TookAtMost most o o
took_none most o k = ([], refl, omega arith, k)
