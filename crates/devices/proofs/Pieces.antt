-- A line that is read piece by piece, each as long as its shortest rest.
use Rattle.std.specs.List.{position, position_or_len, before_first, prefix_len, starts_with}
use Rattle.std.proofs.Common.{◌≡◌, ℕ, ◌+◌, ◌-◌, ◌<◌, ◌≤◌, ◌==◌, not, nat_lt, Bool, true, false, List, [], ◌∷◌, ◌++◌, length, take, drop, get_or, Option, eq-eqb, Some, None, Result, Ok, Err, refl, sym, ap, ◌∙◌, subst, arith, nat_eq, is_some, unwrap_or}
use Rattle.std.proofs.lemmas.Bool.Decides.{nat_tests, Decides-eqb}
use Rattle.std.proofs.lemmas.Option.{cond_some}
use Rattle.std.proofs.lemmas.List.{append_assoc, length-take, length-append, length-drop, take-append-drop, take_all, drop_more, get_or-take}
use Rattle.std.proofs.lemmas.List.Sums.{passes_at_first, prefix_len-le-length, prefix_len_passes, prefix_len_is}
use Rattle.std.proofs.lemmas.List.Folds.{prefix_len-append}
use Rattle.std.proofs.lemmas.Slice.Eq.{starts_is}
use Rattle.devices.specs.Numbers.{number_of, number_and_rest, three_numbers, ◌>>=◌ as ◌>?=◌}
use Rattle.devices.specs.declared.text.Stop.{Stop}
use Rattle.devices.specs.Texts.{Ahead, ahead_of, byte_at, line_at, available, ended, Gives, is_unforeseen, IsLong}
use Rattle.devices.specs.Texts.{IsShortestRest, GivesLongLine}
use Rattle.devices.proofs.Taking.{Takes, TakesLine, takes_more, line_whole}

bind_some : {A B : Type 0} (o : Option A) (f : A → Option B) (y : B) → (o >?= f) ≡ Some y → (x : A) × (o ≡ Some x) × (f x ≡ Some y)
bind_some (Some x) f y h = (x, refl, h)
bind_some None f y h = absurd cc

some_is : {A : Type 0} (x y : A) (o : Option A) → o ≡ Some x → o ≡ Some y → x ≡ y
some_is x y o a b = cc

pub number_long : (field : List ℕ) (n : ℕ) → number_of field ≡ Some n → 0 < length field
number_long [] n h = absurd cc
number_long (d ∷ field) n h = omega arith

pub rest_long : (text : List ℕ) (found : ℕ × List ℕ) → number_and_rest text ≡ Some found → length found.1 + 2 ≤ length text
rest_long text found h =
    let at = bind_some (position (λ b. b == 32) text) _ _ h in
    let number = bind_some (number_of (take at.0 text)) _ _ at.2 in
    let pair : (number.0, drop (at.0 + 1) text) ≡ found = some_is {A = ℕ × List ℕ} _ _ _ refl number.2 in
    let rest_is : drop (at.0 + 1) text ≡ found.1 = ap (λ (p : ℕ × List ℕ). p.1) pair in
    let first = cond_some (nat_lt (position_or_len (λ b. b == 32) text) (length text)) _ _ at.1 in
    let within : position_or_len (λ b. b == 32) text < length text = let t = first.0 in grind (arith, nat_tests) in
    let some = number_long (take at.0 text) number.0 number.1 in
    omega (arith, first.1, some, length-take at.0 text, ap length rest_is, length-drop (at.0 + 1) text)

pub three_long : (text : List ℕ) (numbers : ℕ × ℕ × ℕ) → three_numbers text ≡ Some numbers → 5 ≤ length text
three_long text numbers h =
    let first = bind_some (number_and_rest text) _ _ h in
    let second = bind_some (number_and_rest first.0.1) _ _ first.2 in
    let third = bind_some (number_of second.0.1) _ _ second.2 in
    omega (arith, rest_long text first.0 first.1, rest_long first.0.1 second.0 second.1, number_long second.0.1 third.0 third.1)

-- a line goes on that begins with its kind, in its first bytes
pub owes_rest : (least longer : ℕ) (kind prefix : List ℕ) → length prefix ≡ least → starts_with nat_eq prefix kind ≡ true
    → IsShortestRest least kind longer prefix (longer - least)
owes_rest least longer kind prefix size begins rest long =
    let cut : prefix ≡ kind ++ drop (length kind) prefix = (starts_is Decides-eqb prefix kind (starts_with nat_eq prefix kind) refl).0 begins in
    let whole : prefix ++ rest ≡ kind ++ (drop (length kind) prefix ++ rest) = ap (λ v. v ++ rest) cut ∙ append_assoc kind (drop (length kind) prefix) rest in
    let yes : starts_with nat_eq (prefix ++ rest) kind ≡ true = (starts_is Decides-eqb (prefix ++ rest) kind (starts_with nat_eq (prefix ++ rest) kind) refl).1 _ whole in
    omega (arith, long.1 yes, length-append prefix rest)

-- the read took these bytes of what was ahead
abbrev pub Came : Option (List ℕ) → ℕ → Option (List ℕ) → ℕ → ℕ → List ℕ → Type 0
Came o l n nl count buffer = is_some o ≡ true → (unwrap_or o [] ≡ take count buffer ++ unwrap_or n []) × (is_some n ≡ true)

is_nil : (xs : List ℕ) → length xs ≡ 0 → xs ≡ []
is_nil [] h = refl
is_nil (x ∷ xs) h = absurd (omega arith)

-- a line goes on by bytes of which none is a line feed
feeds_on : (line more : List ℕ) → prefix_len (λ b. not (b == 10)) line ≡ length line → prefix_len (λ b. not (b == 10)) more ≡ length more
    → prefix_len (λ b. not (b == 10)) (line ++ more) ≡ length (line ++ more)
feeds_on line more a b = rw (prefix_len-append (λ x. not (x == 10)) line more, eq-eqb (prefix_len (λ x. not (x == 10)) line) (length line) a, length-append line more) (omega (arith, b))

-- no line feed came
pub piece_more : (o n m : Option (List ℕ)) (l nl ml count : ℕ) (line came after buffer : List ℕ) (r : Bool) → TakesLine o l n nl line → came ≡ take count buffer
    → count ≤ length buffer → nl ≡ count + ml → Came n nl m ml count buffer → after ≡ line ++ before_first (λ b. b == 10) came
    → r ≡ nat_lt (length (before_first (λ b. b == 10) came)) (length came) → r ≡ false → TakesLine o l m ml after × (length after ≡ length line + count)
piece_more o n m l nl ml count line came after buffer r t came_is within left bytes after_is found none =
    let p = prefix_len (λ b. not (b == 10)) came in
    let below : p ≤ length came = prefix_len-le-length (λ b. not (b == 10)) came in
    let size : length came ≡ count = omega (arith, ap length came_is, length-take count buffer) in
    let test : nat_lt (length (take p came)) (length came) ≡ false = sym found ∙ none in
    let all : p ≡ length came = let s = length-take p came in grind (arith, nat_tests) in
    let whole : after ≡ line ++ came = after_is ∙ ap (λ v. line ++ v) (take_all p came (omega arith)) in
    let step : Takes n nl m ml came = record {
      bytes = λ k. (bytes k).0 ∙ ap (λ v. v ++ unwrap_or m []) (sym came_is);
      count = λ k. omega arith;
      known = λ k. (bytes k).1;
    } in
    rw whole (record { takes = takes_more o n m l nl ml line came t.takes step; feeds = feeds_on line came t.feeds all }, omega (arith, length-append line came))

-- a line feed came, and after it nothing more where the line announces something
pub piece_ends : (least longer : ℕ) (kind : List ℕ) (o n m : Option (List ℕ)) (l nl ml count shortest_rest : ℕ) (line came after buffer : List ℕ) (r : Bool) → TakesLine o l n nl line → came ≡ take count buffer
    → count ≤ length buffer → nl ≡ count + ml → Came n nl m ml count buffer → after ≡ line ++ before_first (λ b. b == 10) came
    → r ≡ nat_lt (length (before_first (λ b. b == 10) came)) (length came) → r ≡ true → length line + count ≤ 65 → count ≤ shortest_rest → IsShortestRest least kind longer line shortest_rest
    → is_some o ≡ true → (following : Ahead) × (line_at (ahead_of o l) ≡ Ok (after, following)) × (is_some m ≡ true) × (IsLong least kind longer after → following ≡ ahead_of m ml)
piece_ends least longer kind o n m l nl ml count shortest_rest line came after buffer r t came_is within left bytes after_is found some short in_owed owes k =
    let p = prefix_len (λ b. not (b == 10)) came in
    let below : p ≤ length came = prefix_len-le-length (λ b. not (b == 10)) came in
    let size : length came ≡ count = omega (arith, ap length came_is, length-take count buffer) in
    let front_size : length (take p came) ≡ p = omega (arith, length-take p came) in
    let test : nat_lt (length (take p came)) (length came) ≡ true = sym found ∙ some in
    let lt : p < length came = grind (arith, nat_tests) in
    let is : get_or came p 0 ≡ 10 = (Decides-eqb (get_or came p 0) 10).0 (passes_at_first (λ b. b == 10) came 0 lt) in
    let rest = drop (p + 1) came in
    let cut : came ≡ take p came ++ 10 ∷ rest = sym (take-append-drop p came) ∙ ap (λ v. take p came ++ v) (drop_more came p 0 lt ∙ ap (λ c. c ∷ rest) is) in
    let feeds : prefix_len (λ b. not (b == 10)) (take p came) ≡ length (take p came) =
    prefix_len_is (λ b. not (b == 10)) (take p came) (length (take p came)) 0 (omega arith)
    (λ i below_p. ap (λ b. not (b == 10)) (get_or-take p came i 0 (omega arith)) ∙ prefix_len_passes (λ b. not (b == 10)) came i 0 (omega arith))
    (λ past. absurd (omega arith)) in
    let kn = t.takes.known k in
    let ahead = unwrap_or m [] in
    let text : unwrap_or o [] ≡ (line ++ take p came) ++ 10 ∷ (rest ++ ahead) =
    t.takes.bytes k ∙ ap (λ v. line ++ v) ((bytes kn).0 ∙ ap (λ v. v ++ ahead) (sym came_is ∙ cut) ∙ append_assoc (take p came) (10 ∷ rest) ahead)
    ∙ sym (append_assoc line (take p came) (10 ∷ (rest ++ ahead))) in
    let rest_size : length rest ≡ count - (p + 1) = omega (arith, length-drop (p + 1) came) in
    let following : Ahead = record { bytes = rest ++ ahead; left = length rest + ml } in
    let whole : line_at (record { bytes = (line ++ take p came) ++ 10 ∷ (rest ++ ahead); left = l }) ≡ Ok (line ++ take p came, following) =
    line_whole (line ++ take p came) (rest ++ ahead) l (length rest + ml) (feeds_on line (take p came) t.feeds feeds)
    (omega (arith, length-append line (take p came))) (omega (arith, length-append line (take p came), t.takes.count k)) in (
      following,
      ap (λ v. line_at (record { bytes = v; left = l })) text ∙ whole ∙ ap (λ (v : List ℕ). let w : Result (List ℕ × Ahead) Stop = Ok (v, following) in w) (sym after_is),
      (bytes kn).1,
      λ long.
          let owed_is : shortest_rest ≤ length (take p came) + 1 = owes (take p came) (subst (λ (v : List ℕ). IsLong least kind longer v) after_is long) in
          let none : rest ≡ [] = is_nil rest (omega arith) in
          let left_is : length rest + ml ≡ ml = omega (arith, ap length none) in
          ap (λ (v : List ℕ). let w : Ahead = record { bytes = v ++ ahead; left = length rest + ml } in w) none
          ∙ ap (λ (left : ℕ). let w : Ahead = record { bytes = ahead; left = left } in w) left_is,
    )

-- ---- a line that was read ahead

-- what follows the line is ahead, whether it announces something or not
pub long_line : (least longer : ℕ) (kind : List ℕ) (old : Option (List ℕ)) (left : ℕ) (new : Option (List ℕ)) (left_new : ℕ) (r : Result (List ℕ) Stop)
    → Gives is_unforeseen line_at old left new left_new r → GivesLongLine least kind longer old left new left_new r
long_line least longer kind old left new left_new (Ok line) gives = λ k. let g = gives k in (ahead_of new left_new, g.0, g.1, λ _. refl)
long_line least longer kind old left new left_new (Err e) gives = gives

-- no byte came
pub piece_none : (a : Ahead) (e : Stop) → length (available a) ≡ 0 → e ≡ ended a → byte_at a ≡ Err e
piece_none a e none is = let test : nat_lt 0 (length (available a)) ≡ false = grind (arith, nat_tests) in rw (test, is) refl

-- a read into a buffer gives no more than the buffer holds
pub no_more : (count shortest_rest : ℕ) (buffer before : List ℕ) → count ≤ length buffer → length buffer ≡ length (take shortest_rest before) → count ≤ shortest_rest
no_more count shortest_rest buffer before a b = omega (arith, length-take shortest_rest before)
