-- What one read after another takes of a text.
use Rattle.std.proofs.Common.{◌≡◌, ℕ, suc, ◌+◌, ◌-◌, ◌<◌, ◌≤◌, ◌==◌, not, cond, nat_lt, Bool, true, false, List, [], ◌∷◌, ◌++◌, length, take, drop, Option, Result, Ok, Err, refl, sym, ap, ◌∙◌, arith, zero, is_some, unwrap_or, eq-eqb, slice_index, get_or, subst}
use Rattle.std.proofs.lemmas.List.{append_assoc, take_at, drop_at, length-take, length-append, take-take, append-nil, take_all, take_more, take-append-le, get_or-take}
use Rattle.std.proofs.Math.Seq.{take-append-add}
use Rattle.std.proofs.lemmas.Bool.Decides.{nat_tests, Decides-eqb}
use Rattle.std.specs.List.{prefix_len, before_first}
use Rattle.std.proofs.lemmas.List.Folds.{prefix_len-append}
use Rattle.std.proofs.lemmas.List.Sums.{passes_at_first, prefix_len-le-length, prefix_len_passes, prefix_len_is}
use Rattle.devices.specs.declared.text.Stop.{Stop}
use Rattle.devices.specs.declared.text.Stop.TheVariants.{TooLong, Cut, TooLarge}
use borrow.Rule.Slice.PartMut.{put_mid, post_of}
use Rattle.devices.specs.Texts.{NoneAfterFeed, is_unforeseen, ahead_of, byte_at, line_at, line_start, available, past}
use Rattle.devices.specs.Texts.{ended, Ahead}

-- n bytes of the text were taken, and where the bytes of the input are known, just these
pub record Takes (old : Option (List ℕ)) (left : ℕ) (new : Option (List ℕ)) (new_left : ℕ) (taken : List ℕ) : Type 0 where
  pub bytes : is_some old ≡ true → unwrap_or old [] ≡ taken ++ unwrap_or new []
  pub count : is_some old ≡ true → left ≡ length taken + new_left
  pub known : is_some old ≡ true → is_some new ≡ true

-- and none of them is a line feed
pub record TakesLine (old : Option (List ℕ)) (left : ℕ) (new : Option (List ℕ)) (new_left : ℕ) (line : List ℕ) : Type 0 where
  pub takes : Takes old left new new_left line
  pub feeds : prefix_len (λ b. not (b == 10)) line ≡ length line

is_nil : (xs : List ℕ) → length xs ≡ 0 → xs ≡ []
is_nil [] h = refl
is_nil (x ∷ xs) h = absurd (omega arith)

pub guard_ok : {A E : Type 0} (b : Bool) (x y : A) (e : E) → cond b (Ok x) (Err e) ≡ Ok y → (b ≡ true) × (x ≡ y)
guard_ok true x y e h = (refl, cc)
guard_ok false x y e h = absurd cc

pub takes_none : (o : Option (List ℕ)) (l : ℕ) → Takes o l o l []
takes_none o l = record { bytes = λ _. refl; count = λ _. omega arith; known = λ k. k }

pub takes_more : (o n m : Option (List ℕ)) (l nl ml : ℕ) (xs ys : List ℕ) → Takes o l n nl xs → Takes n nl m ml ys → Takes o l m ml (xs ++ ys)
takes_more o n m l nl ml xs ys a b = record {
  bytes = λ k. a.bytes k ∙ (ap (λ v. xs ++ v) (b.bytes (a.known k)) ∙ sym (append_assoc xs ys (unwrap_or m [])));
  count = λ k. omega (arith, a.count k, b.count (a.known k), length-append xs ys);
  known = λ k. b.known (a.known k);
}

pub byte_inverse : (xs ys : List ℕ) (l nl b : ℕ) → byte_at (record { bytes = xs; left = l }) ≡ Ok (b, record { bytes = ys; left = nl }) → (xs ≡ b ∷ ys) × (l ≡ 1 + nl)
byte_inverse xs ys zero nl b e = absurd cc
byte_inverse [] ys (suc l) nl b e = absurd cc
byte_inverse (x ∷ xs) ys (suc l) nl b e =
    let h = guard_ok (nat_lt 0 (length (take (suc l) (x ∷ xs)))) (x, past 1 (record { bytes = x ∷ xs; left = suc l })) (b, record { bytes = ys; left = nl }) (ended (record { bytes = x ∷ xs; left = suc l })) e in
    let same_byte : x ≡ b = ap (λ (p : ℕ × Ahead). p.0) h.1 in
    let same_rest : xs ≡ ys = ap (λ (p : ℕ × Ahead). p.1.bytes) h.1 in
    let same_left : suc l - 1 ≡ nl = ap (λ (p : ℕ × Ahead). p.1.left) h.1 in
    (cc, omega arith)

-- the byte that was read
pub takes_byte : (o n : Option (List ℕ)) (l nl b : ℕ) → (is_some o ≡ true → (byte_at (ahead_of o l) ≡ Ok (b, ahead_of n nl)) × (is_some n ≡ true)) → Takes o l n nl (b ∷ [])
takes_byte o n l nl b h = record {
  bytes = λ k. (byte_inverse (unwrap_or o []) (unwrap_or n []) l nl b (h k).0).0;
  count = λ k. omega (arith, (byte_inverse (unwrap_or o []) (unwrap_or n []) l nl b (h k).0).1);
  known = λ k. (h k).1;
}

take_past : (n : ℕ) (xs ys : List ℕ) → length xs ≤ n → take n (xs ++ ys) ≡ xs ++ take (n - length xs) ys
take_past n xs ys h = let e : n ≡ length xs + (n - length xs) = omega arith in ap (λ k. take k (xs ++ ys)) e ∙ take-append-add xs ys (n - length xs)

-- the first 65 bytes of a line, a line feed and whatever follows
front_whole : (line t : List ℕ) (l : ℕ) → length line ≤ 64 → length line < l → (r : List ℕ) × (take 65 (take l (line ++ 10 ∷ t)) ≡ line ++ 10 ∷ r)
front_whole line t l a b =
    let e : 65 - length line ≡ suc (64 - length line) = omega arith in
    let f : l - length line ≡ suc (l - length line - 1) = omega arith in
    let inner : take l (line ++ 10 ∷ t) ≡ line ++ 10 ∷ take (l - length line - 1) t = take_past l line (10 ∷ t) (omega arith) ∙ ap (λ k. line ++ take k (10 ∷ t)) f in
    let outer : take 65 (line ++ 10 ∷ take (l - length line - 1) t) ≡ line ++ 10 ∷ take (64 - length line) (take (l - length line - 1) t) = take_past 65 line (10 ∷ take (l - length line - 1) t) (omega arith) ∙ ap (λ k. line ++ take k (10 ∷ take (l - length line - 1) t)) e in
    (take (64 - length line) (take (l - length line - 1) t), ap (take 65) inner ∙ outer)

feeds_stop : (line r : List ℕ) → prefix_len (λ b. not (b == 10)) line ≡ length line → before_first (λ b. b == 10) (line ++ 10 ∷ r) ≡ line
feeds_stop line r h =
    let e : prefix_len (λ b. not (b == 10)) (line ++ 10 ∷ r) ≡ length line =
    rw (prefix_len-append (λ b. not (b == 10)) line (10 ∷ r), eq-eqb (prefix_len (λ b. not (b == 10)) line) (length line) h) (omega arith) in
    take_at line (10 ∷ r) (prefix_len (λ b. not (b == 10)) (line ++ 10 ∷ r)) (sym e)

-- nothing but the line, of which each byte is no line feed
feeds_none : (line : List ℕ) → prefix_len (λ b. not (b == 10)) line ≡ length line → before_first (λ b. b == 10) line ≡ line
feeds_none line h = ap (λ k. take k line) h ∙ take_all (length line) line (omega arith)

choose_ok : (n m : ℕ) (x : List ℕ × Ahead) (e f : Stop) → n < 65 → n < m → cond (n == 65) (Err e) (cond (n == m) (Err f) (Ok x)) ≡ Ok x
choose_ok n m x e f a b = grind (arith, nat_tests)

choose_long : (n : ℕ) (r : Result (List ℕ × Ahead) Stop) (e : Stop) → n ≡ 65 → cond (n == 65) (Err e) r ≡ Err e
choose_long n r e a = grind (arith, nat_tests)

choose_end : (n m : ℕ) (x : List ℕ × Ahead) (e f : Stop) → n < 65 → n ≡ m → cond (n == 65) (Err e) (cond (n == m) (Err f) (Ok x)) ≡ Err f
choose_end n m x e f a b = grind (arith, nat_tests)

line_is : (a b : Ahead) (line : List ℕ) → line_start a ≡ line → length line < 65 → length line < length (available a) → past (length line + 1) a ≡ b → line_at a ≡ Ok (line, b)
line_is a b line e short more p =
    let same : length (line_start a) ≡ length line = ap length e in
    choose_ok (length (line_start a)) (length (available a)) (line_start a, past (length (line_start a) + 1) a) TooLong (ended a) (omega arith) (omega arith)
    ∙ ap (λ (l : List ℕ). let r : Result (List ℕ × Ahead) Stop = Ok (l, past (length l + 1) a) in r) e ∙ ap (λ (v : Ahead). let r : Result (List ℕ × Ahead) Stop = Ok (line, v) in r) p

pub line_whole : (line t : List ℕ) (l nl : ℕ) → prefix_len (λ b. not (b == 10)) line ≡ length line → length line ≤ 64 → l ≡ length line + (1 + nl)
    → line_at (record { bytes = line ++ 10 ∷ t; left = l }) ≡ Ok (line, record { bytes = t; left = nl })
line_whole line t l nl feeds short left =
    let cut = front_whole line t l short (omega arith) in
    line_is (record { bytes = line ++ 10 ∷ t; left = l }) (record { bytes = t; left = nl }) line
    (ap (before_first (λ b. b == 10)) cut.1 ∙ feeds_stop line cut.0 feeds) (omega arith)
    (omega (arith, length-take l (line ++ 10 ∷ t), length-append line (10 ∷ t)))
    (let b : drop (length line + 1) (line ++ 10 ∷ t) ≡ t = ap (drop (length line + 1)) (sym (append_assoc line (10 ∷ []) t)) ∙ drop_at (line ++ 10 ∷ []) t (length line + 1) (length-append line (10 ∷ [])) in
    let n : l - (length line + 1) ≡ nl = omega arith in
    ap (λ bs. record { bytes = bs; left = l - (length line + 1) }) b ∙ ap (λ k. record { bytes = t; left = k }) n)

pub line_long : (line t : List ℕ) (l nl : ℕ) → prefix_len (λ b. not (b == 10)) line ≡ length line → length line ≡ 65 → l ≡ length line + nl
    → line_at (record { bytes = line ++ t; left = l }) ≡ Err TooLong
line_long line t l nl feeds long left =
    let cut : take 65 (take l (line ++ t)) ≡ line = take-take 65 l (line ++ t) (omega arith) ∙ take_at line t 65 long in
    let e : line_start (record { bytes = line ++ t; left = l }) ≡ line = ap (before_first (λ b. b == 10)) cut ∙ feeds_none line feeds in
    choose_long _ _ TooLong (ap length e ∙ long)

pub line_ends : (line t : List ℕ) (l nl : ℕ) → prefix_len (λ b. not (b == 10)) line ≡ length line → length line ≤ 64 → l ≡ length line + nl → length (take nl t) ≡ 0
    → line_at (record { bytes = line ++ t; left = l }) ≡ Err (ended (record { bytes = line ++ t; left = l }))
line_ends line t l nl feeds short left none =
    let rest : take nl t ≡ [] = is_nil (take nl t) none in
    let all : take l (line ++ t) ≡ line = take_past l line t (omega arith) ∙ ap (λ k. line ++ take k t) (let n : l - length line ≡ nl = omega arith in n) ∙ ap (λ v. line ++ v) rest ∙ append-nil line in
    let cut : take 65 (take l (line ++ t)) ≡ line = ap (take 65) all ∙ take_all 65 line (omega arith) in
    let e : line_start (record { bytes = line ++ t; left = l }) ≡ line = ap (before_first (λ b. b == 10)) cut ∙ feeds_none line feeds in
    choose_end _ _ _ TooLong _ (let same = ap length e in omega arith) (ap length e ∙ sym (ap length all))

pub ended_past : (line t : List ℕ) (l nl : ℕ) → l ≡ length line + nl → ended (record { bytes = line ++ t; left = l }) ≡ ended (record { bytes = t; left = nl })
ended_past line t l nl left = rw (left, length-append line t) (let e : nat_lt (length line + nl) (length line + length t) ≡ nat_lt nl (length t) = grind (arith, nat_tests) in ap (λ b. cond b TooLarge Cut) e)

guard_err : {A E : Type 0} (b : Bool) (x : A) (e f : E) → cond b (Ok x) (Err e) ≡ Err f → (b ≡ false) × (e ≡ f)
guard_err true x e f h = absurd cc
guard_err false x e f h = (refl, cc)

-- no byte came
byte_none : (a : Ahead) (e : Stop) → byte_at a ≡ Err e → (length (available a) ≡ 0) × (ended a ≡ e)
byte_none a e h =
    let g = guard_err (nat_lt 0 (length (available a))) (slice_index a.bytes 0, past 1 a) (ended a) e h in
    (let none = g.0 in grind (arith, nat_tests), g.1)

pub line_ok : (o n m : Option (List ℕ)) (l nl ml b : ℕ) (line : List ℕ) → TakesLine o l n nl line → length line ≤ 64 → b ≡ 10
    → (is_some n ≡ true → (byte_at (ahead_of n nl) ≡ Ok (b, ahead_of m ml)) × (is_some m ≡ true))
    → is_some o ≡ true → (line_at (ahead_of o l) ≡ Ok (line, ahead_of m ml)) × (is_some m ≡ true)
line_ok o n m l nl ml b line t short feed byte k =
    let last = takes_byte n m nl ml b byte in
    let kn = t.takes.known k in
    let text : unwrap_or o [] ≡ line ++ 10 ∷ unwrap_or m [] = t.takes.bytes k ∙ ap (λ v. line ++ v) (last.bytes kn ∙ ap (λ x. x ∷ unwrap_or m []) feed) in (
      ap (λ v. line_at (record { bytes = v; left = l })) text
          ∙ line_whole line (unwrap_or m []) l ml t.feeds short (omega (arith, t.takes.count k, last.count kn)),
      last.known kn,
    )

pub line_err : (o n : Option (List ℕ)) (l nl : ℕ) (line : List ℕ) (e : Stop) → TakesLine o l n nl line → length line ≤ 64
    → (is_some n ≡ true → is_unforeseen e ≡ false → byte_at (ahead_of n nl) ≡ Err e)
    → is_some o ≡ true → is_unforeseen e ≡ false → line_at (ahead_of o l) ≡ Err e
line_err o n l nl line e t short byte k foreseen =
    let none = byte_none (ahead_of n nl) e (byte (t.takes.known k) foreseen) in
    ap (λ v. line_at (record { bytes = v; left = l })) (t.takes.bytes k)
    ∙ (line_ends line (unwrap_or n []) l nl t.feeds short (t.takes.count k) none.0
    ∙ ap (λ (s : Stop). let r : Result (List ℕ × Ahead) Stop = Err s in r) (ended_past line (unwrap_or n []) l nl (t.takes.count k) ∙ none.1))

pub line_too_long : (o n : Option (List ℕ)) (l nl : ℕ) (line : List ℕ) → TakesLine o l n nl line → length line ≡ 65
    → is_some o ≡ true → line_at (ahead_of o l) ≡ Err TooLong
line_too_long o n l nl line t long k =
    ap (λ v. line_at (record { bytes = v; left = l })) (t.takes.bytes k) ∙ line_long line (unwrap_or n []) l nl t.feeds long (t.takes.count k)

pub line_more : (o n m : Option (List ℕ)) (l nl ml b : ℕ) (line : List ℕ) → TakesLine o l n nl line → (b == 10) ≡ false
    → (is_some n ≡ true → (byte_at (ahead_of n nl) ≡ Ok (b, ahead_of m ml)) × (is_some m ≡ true))
    → TakesLine o l m ml (line ++ b ∷ [])
line_more o n m l nl ml b line t other byte = record {
  takes = takes_more o n m l nl ml line (b ∷ []) t.takes (takes_byte n m nl ml b byte);
  feeds = rw (prefix_len-append (λ x. not (x == 10)) line (b ∷ []), eq-eqb (prefix_len (λ x. not (x == 10)) line) (length line) t.feeds, other, length-append line (b ∷ [])) (omega arith);
}

take_put : (a k m : ℕ) (xs ys : List ℕ) → a ≤ length xs → m ≤ length ys → take (a + m) (put_mid a k xs ys) ≡ take a xs ++ take m ys
take_put a k m xs ys in_xs in_ys =
    let front_length : length (take a xs) ≡ a = omega (arith, length-take a xs) in
    take_past (a + m) (take a xs) (ys ++ post_of a k xs) (omega arith)
    ∙ ap (λ v. take a xs ++ v) (ap (λ n. take n (ys ++ post_of a k xs)) (let e : a + m - length (take a xs) ≡ m = omega arith in e) ∙ take-append-le m ys (post_of a k xs) in_ys)

pub takes_part : (o n m : Option (List ℕ)) (l nl ml a k more : ℕ) (xs ys : List ℕ) → Takes o l n nl (take a xs) → a ≤ length xs → more ≤ length ys
    → nl ≡ more + ml → (is_some n ≡ true → (unwrap_or n [] ≡ take more ys ++ unwrap_or m []) × (is_some m ≡ true))
    → Takes o l m ml (take (a + more) (put_mid a k xs ys))
takes_part o n m l nl ml a k more xs ys t in_xs in_ys count bytes =
    let step : Takes n nl m ml (take more ys) = record {
      bytes = λ q. (bytes q).0;
      count = λ q. omega (arith, length-take more ys);
      known = λ q. (bytes q).1;
    } in
    rw (take_put a k more xs ys in_xs in_ys) (takes_more o n m l nl ml (take a xs) (take more ys) t step)

-- ---- a line that is read up to its line feed

-- none of the bytes stands after a line feed: the last one is the line feed
feed_last : (xs : List ℕ) (size : ℕ) → length xs ≡ size + 1 → NoneAfterFeed xs → get_or xs size 0 ≡ 10
    → (xs ≡ take size xs ++ 10 ∷ []) × (prefix_len (λ b. not (b == 10)) (take size xs) ≡ length (take size xs))
feed_last xs size is none last =
    let p = prefix_len (λ b. not (b == 10)) xs in
    let below : p ≤ length xs = prefix_len-le-length (λ b. not (b == 10)) xs in
    let not_all : p ≡ size + 1 → ⊥ = λ all. let passes : not (10 == 10) ≡ true = ap (λ b. not (b == 10)) (sym last) ∙ prefix_len_passes (λ b. not (b == 10)) xs size 0 (omega arith) in cc in
    let first : p ≡ size = omega arith in
    let front_size : length (take size xs) ≡ size = omega (arith, length-take size xs) in (
      sym (take_all (size + 1) xs (omega arith)) ∙ (take_more xs size 0 (omega arith) ∙ ap (λ b. take size xs ++ b ∷ []) last),
      prefix_len_is (λ b. not (b == 10)) (take size xs) (length (take size xs)) 0 (omega arith)
          (λ i under. ap (λ b. not (b == 10)) (get_or-take size xs i 0 (omega arith)) ∙ prefix_len_passes (λ b. not (b == 10)) xs i 0 (omega arith))
          (λ past_end. absurd (omega arith)),
    )

-- or there is none
feed_none : (xs : List ℕ) (size : ℕ) → length xs ≡ size + 1 → NoneAfterFeed xs → (get_or xs size 0 ≡ 10 → ⊥) → prefix_len (λ b. not (b == 10)) xs ≡ length xs
feed_none xs size is none other =
    let p = prefix_len (λ b. not (b == 10)) xs in
    let below : p ≤ length xs = prefix_len-le-length (λ b. not (b == 10)) xs in
    let not_here : p ≡ size → ⊥ = λ here. other (ap (λ k. get_or xs k 0) (sym here) ∙ (Decides-eqb (get_or xs p 0) 10).0 (passes_at_first (λ b. b == 10) xs 0 (omega arith))) in
    omega arith

-- a line goes on by bytes of which none stands after a line feed
pub goes_on : (a k more : ℕ) (xs ys : List ℕ) → a ≤ length xs → more ≤ length ys → prefix_len (λ b. not (b == 10)) (take a xs) ≡ length (take a xs)
    → NoneAfterFeed (take more ys) → NoneAfterFeed (take (a + more) (put_mid a k xs ys)) × (a + more ≤ length (put_mid a k xs ys))
goes_on a k more xs ys in_xs in_ys feeds none =
    let line = take a xs in
    let came = take more ys in
    let whole = take_put a k more xs ys in_xs in_ys in
    let joined : NoneAfterFeed (line ++ came) = rw (prefix_len-append (λ b. not (b == 10)) line came, eq-eqb (prefix_len (λ b. not (b == 10)) line) (length line) feeds, length-append line came) (omega (arith, none)) in (
      rw whole joined,
      omega (arith, ap length whole, length-append line came, length-take a xs, length-take more ys, length-take (a + more) (put_mid a k xs ys)),
    )

pub line_fed : (o m : Option (List ℕ)) (l ml whole : ℕ) (xs : List ℕ) → Takes o l m ml (take whole xs) → NoneAfterFeed (take whole xs) → 0 < whole → whole ≤ length xs → whole ≤ 65
    → get_or xs (whole - 1) 0 ≡ 10 → is_some o ≡ true → (line_at (ahead_of o l) ≡ Ok (take (whole - 1) xs, ahead_of m ml)) × (is_some m ≡ true)
line_fed o m l ml whole xs t none some within most last k =
    let size = whole - 1 in
    let line = take size xs in
    let all_size : length (take whole xs) ≡ size + 1 = omega (arith, length-take whole xs) in
    let found = feed_last (take whole xs) size all_size none (get_or-take whole xs size 0 (omega arith) ∙ last) in
    let same : take size (take whole xs) ≡ line = take-take size whole xs (omega arith) in
    let feeds : prefix_len (λ b. not (b == 10)) line ≡ length line = subst (λ (v : List ℕ). prefix_len (λ b. not (b == 10)) v ≡ length v) same found.1 in
    let text : unwrap_or o [] ≡ line ++ 10 ∷ unwrap_or m [] = t.bytes k ∙ (ap (λ v. v ++ unwrap_or m []) (found.0 ∙ ap (λ v. v ++ 10 ∷ []) same) ∙ append_assoc line (10 ∷ []) (unwrap_or m [])) in (
      ap (λ v. line_at (record { bytes = v; left = l })) text
          ∙ line_whole line (unwrap_or m []) l ml feeds (omega (arith, length-take size xs)) (omega (arith, t.count k, all_size, length-take size xs)),
      t.known k,
    )

pub line_unfed : (o m : Option (List ℕ)) (l ml whole : ℕ) (xs : List ℕ) → Takes o l m ml (take whole xs) → NoneAfterFeed (take whole xs) → 0 < whole → whole ≤ length xs
    → (get_or xs (whole - 1) 0 ≡ 10 → ⊥) → TakesLine o l m ml (take whole xs)
line_unfed o m l ml whole xs t none some within other = record {
  takes = t;
  feeds = feed_none (take whole xs) (whole - 1) (omega (arith, length-take whole xs)) none (λ feed. other (sym (get_or-take whole xs (whole - 1) 0 (omega arith)) ∙ feed));
}
