-- The decimals of a line, parted by single spaces.
use Rattle.std.specs.Prelude.{ℕ, ◌+◌, ◌-◌, ◌^◌, ◌==◌, ◌&&◌, not, Bool, false, List, [], ◌∷◌, min, take, drop, Option}
use Rattle.std.specs.Prelude.{Some, None, if◌then◌else◌}
use Rattle.std.specs.List.{position}
use Rattle.std.specs.Str.{all_ascii_digits}
use Rattle.std.specs.Str.Parse.{digits_value}

-- Bytes of ASCII by name (RFC 20).

abbrev pub space : ℕ
space = 32

abbrev pub quote : ℕ
quote = 34

abbrev pub comma : ℕ
comma = 44

abbrev pub zero_digit : ℕ
zero_digit = 48

-- a decimal: `0`, or digits of which the first isn't 0
abbrev pub is_decimal : List ℕ → Bool
is_decimal [] = false
is_decimal (d ∷ []) = all_ascii_digits (d ∷ [])
is_decimal (d ∷ e ∷ ds) = not (d == zero_digit) && all_ascii_digits (d ∷ e ∷ ds)

-- The number of a decimal. One of 2 ^ 64 or more counts as 2 ^ 64 - 1: that is past every limit too.
abbrev pub number_of : List ℕ → Option ℕ
number_of field = if is_decimal field then Some (min (digits_value 10 field) (2 ^ 64 - 1)) else None

infixl 10 ◌>>=◌
abbrev pub ◌>>=◌ : {A B : Type 0} → Option A → (A → Option B) → Option B
None >>= f = None
(Some x) >>= f = f x

-- the number before the first space, and what follows the space
abbrev pub number_and_rest : List ℕ → Option (ℕ × List ℕ)
number_and_rest text = do
  space ← position (λ b. b == space) text
  n ← number_of (take space text)
  Some (n, drop (space + 1) text)

-- just three numbers
abbrev pub three_numbers : List ℕ → Option (ℕ × ℕ × ℕ)
three_numbers text = do
  first ← number_and_rest text
  second ← number_and_rest first.1
  third ← number_of second.1
  Some (first.0, second.0, third)
