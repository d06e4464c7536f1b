-- Messages that come next: those of the next arrivals, served part after part.
use Rattle.std.proofs.Common.{◌≡◌, ℕ, suc, zero, ◌+◌, ◌<◌, ◌≤◌, ◌==◌, true, List, [], ◌∷◌, ◌++◌, length, take, drop, map, get_or, Option, Result, Ok, Err, refl, sym, ap, ◌∙◌, arith, append-nil, append_assoc}
use Rattle.std.specs.Prelude.{flat_map, IfErr, OnOk, OnErr}
use Rattle.std.specs.Result.{IsErrAnd}
use Rattle.std.proofs.lemmas.List.{length-append, length-map, length-take-le, drop-drop}
use Rattle.std.proofs.lemmas.Grind.{flat_map-append, common_steps}
use Rattle.std.proofs.Math.Seq.{take-append_seam, drop-append_seam}
use Rattle.std.specs.Io.KnownBytes.{Appends}
use Rattle.devices.proofs.Appending.{prefix_then, prefix_none, appends_then, prefix_first}
use Rattle.devices.specs.Devices.{AppendsPrefix}
use Rattle.paths.specs.declared.file.File.{File}
use Rattle.cost_model.specs.Reference.{Tariff}
use Rattle.responses.specs.Reference.{record_text}
use Rattle.reference.specs.Reference.{Terms, Handled, slip_of, replies_of, reply_of}
use Rattle.arrivals.specs.Reference.{Arrival}
use Rattle.replay.specs.Serving.{DeciderAfter, SameCapture, records_after, Written, WrittenInPart}
use Rattle.replay.specs.Steps.{DecidesComing}
use Rattle.replay.specs.Fronts.{front_value}
use Rattle.replay.specs.Backs.{slip_of_pending, reply_to}
use Rattle.arrivals.specs.Parts.{joined}
use Rattle.arrivals.specs.Gathering.{incoming_of}
use Rattle.replay.specs.Coming.{AreOf, AreLookedUp, InTime, Upcoming}
use Rattle.reference.specs.Outcomes.{IfTooMany, IfCutShort}
use Rattle.captures.specs.Passes.{IsWriteOrMemory}
use Rattle.arrivals.specs.declared.incoming.Incoming.{Incoming}
use Rattle.replay.specs.declared.lookup.LookedUp.{LookedUp}
use Rattle.replay.specs.declared.pending.PendingReply.{PendingReply}
use Rattle.replay.specs.declared.decider.Decider.{Decider}
use Rattle.captures.specs.declared.pass_fault.PassFault.{PassFault}
use Rattle.captures.specs.declared.pass_fault.PassFault.TheVariants as faults
use Rattle.reference.proofs.SameAnswer.{reply_is}
use Rattle.replay.proofs.Judging.{answered_is}
use Rattle.replay.proofs.Writing.{written_none, written_more}

-- ---- lists

map_map : {A B C : Type 0} (g : B → C) (f : A → B) (xs : List A) → map g (map f xs) ≡ map (λ x. g (f x)) xs
map_map g f [] = refl
map_map g f (x ∷ xs) = ap (λ ys. g (f x) ∷ ys) (map_map g f xs)

map_take : {A B : Type 0} (f : A → B) (n : ℕ) (xs : List A) → map f (take n xs) ≡ take n (map f xs)
map_take f zero xs = refl
map_take f (suc n) [] = refl
map_take f (suc n) (x ∷ xs) = ap (λ ys. f x ∷ ys) (map_take f n xs)

map_drop : {A B : Type 0} (f : A → B) (n : ℕ) (xs : List A) → map f (drop n xs) ≡ drop n (map f xs)
map_drop f zero xs = refl
map_drop f (suc n) [] = refl
map_drop f (suc n) (x ∷ xs) = map_drop f n xs

take_add : {A : Type 0} (n m : ℕ) (xs : List A) → take (n + m) xs ≡ take n xs ++ take m (drop n xs)
take_add zero m xs = let e : 0 + m ≡ m = omega arith in rw e refl
take_add (suc n) m [] = let e : suc n + m ≡ suc (n + m) = omega arith in rw e (sym (none m))
  where
    none : {A : Type 0} (m : ℕ) → take m (let xs : List A = [] in xs) ≡ []
    none zero = refl
    none (suc m) = refl
take_add (suc n) m (x ∷ xs) = let e : suc n + m ≡ suc (n + m) = omega arith in rw e (ap (λ ys. x ∷ ys) (take_add n m xs))

take_all : {A : Type 0} (xs : List A) → take (length xs) xs ≡ xs
take_all xs = grind (arith, common_steps)

pub take_short : {A : Type 0} (n : ℕ) (xs : List A) → length (take n xs) ≤ n
take_short zero xs = omega arith
take_short (suc n) [] = omega arith
take_short (suc n) (x ∷ xs) = let h = take_short n xs in omega (arith, h)

-- ---- messages in time

pub in_time_take : (earlier more : List Arrival) (n : ℕ) → InTime earlier more → InTime earlier (take n more)
in_time_take earlier more zero h = tt
in_time_take earlier [] (suc n) h = tt
in_time_take earlier (a ∷ more) (suc n) h = (h.0, h.1, h.2, in_time_take (earlier ++ a ∷ []) more n h.3)

pub in_time_drop : (earlier more : List Arrival) (n : ℕ) → InTime earlier more → InTime (earlier ++ take n more) (drop n more)
in_time_drop earlier more zero h = rw (append-nil earlier) h
in_time_drop earlier [] (suc n) h = tt
in_time_drop earlier (a ∷ more) (suc n) h = rw (append_assoc earlier (a ∷ []) (take n more)) at (in_time_drop (earlier ++ a ∷ []) more n h.3)

-- the first of the messages
pub first_come : (files : List File) (terms : Terms) (arrivals more : List Arrival) (messages within : List Incoming) (decider : Decider) (n : ℕ)
    → Upcoming files terms arrivals more messages decider → within ≡ take n messages → Upcoming files terms arrivals (take n more) within decider
first_come files terms arrivals more messages within decider n up e = record {
  stands = up.stands;
  are = map_take incoming_of n more ∙ ap (take n) up.are ∙ sym e;
  timely = in_time_take arrivals more n up.timely;
}

pub come_count : (files : List File) (terms : Terms) (arrivals more : List Arrival) (messages : List Incoming) (decider : Decider) → Upcoming files terms arrivals more messages decider → length more ≡ length messages
come_count files terms arrivals more messages decider up = sym (length-map more incoming_of) ∙ ap length up.are

pub take_count : (files : List File) (terms : Terms) (arrivals more : List Arrival) (messages : List Incoming) (decider : Decider) → Upcoming files terms arrivals more messages decider → take (length messages) more ≡ more
take_count files terms arrivals more messages decider up = rw (← come_count files terms arrivals more messages decider up) (take_all more)

-- no message
pub none_come : (files : List File) (terms : Terms) (arrivals more : List Arrival) (messages : List Incoming) (decider : Decider) → Upcoming files terms arrivals more messages decider → messages ≡ [] → more ≡ []
none_come files terms arrivals more messages decider up none = go more (come_count files terms arrivals more messages decider up ∙ ap length none)
  where
    go : (xs : List Arrival) → length xs ≡ 0 → xs ≡ []
    go [] e = refl
    go (x ∷ xs) e = absurd (let z : ⊥ = omega (arith, e) in z)

pub none_stands : (files : List File) (terms : Terms) (arrivals more : List Arrival) (messages : List Incoming) (decider : Decider) → Upcoming files terms arrivals more messages decider → messages ≡ [] → DeciderAfter files terms (arrivals ++ more) decider
none_stands files terms arrivals more messages decider up none = rw (none_come files terms arrivals more messages decider up none, append-nil arrivals) up.stands

pub none_written : (files : List File) (terms : Terms) (arrivals more : List Arrival) (messages : List Incoming) (decider : Decider) (old : Option (List ℕ)) → Upcoming files terms arrivals more messages decider → messages ≡ []
    → Written files terms decider.start arrivals more old old
none_written files terms arrivals more messages decider old up none = rw (none_come files terms arrivals more messages decider up none) (written_none files terms decider.start arrivals old)

-- ---- between the floors

pub looked_up_are : (files : List File) (tariff table : Tariff) (arrivals : List Arrival) (messages : List Incoming) (lookups : List LookedUp)
    → table ≡ tariff → AreOf arrivals messages → lookups ≡ map (front_value files table) messages → AreLookedUp files tariff arrivals lookups
looked_up_are files tariff table arrivals messages lookups same are e =
    e ∙ ap (λ (t : Tariff). map (front_value files t) messages) same ∙ ap (map (front_value files tariff)) (sym are) ∙ map_map (front_value files tariff) incoming_of arrivals

pub replies_are : (X : Type 0) (files : List File) (terms : Terms) (start : ℕ) (hs : List Handled) (pending_replies : List (PendingReply X)) (replies : List (ℕ × ℕ × List ℕ))
    → map slip_of_pending pending_replies ≡ map (slip_of {X = X} files terms start) hs → replies ≡ map (λ t. reply_to files (slip_of_pending t)) pending_replies → replies ≡ replies_of files terms start hs
replies_are X files terms start hs pending_replies replies slips e =
    e ∙ sym (map_map (reply_to files) (slip_of_pending {X = X}) pending_replies) ∙ ap (map (reply_to files)) slips ∙ each hs
  where
    each : (hs : List Handled) → map (reply_to files) (map (slip_of {X = X} files terms start) hs) ≡ replies_of files terms start hs
    each [] = refl
    each (h ∷ hs) =
        let one : reply_to files (slip_of {X = X} files terms start h) ≡ reply_of files terms start h = reply_is files terms start h (slip_of {X = X} files terms start h) (reply_to files (slip_of {X = X} files terms start h)) refl refl in
        ap (λ r. r ∷ map (reply_to files) (map (slip_of {X = X} files terms start) hs)) one ∙ ap (λ rs. reply_of files terms start h ∷ rs) (each hs)

-- ---- writing

-- one reply among others
pub split_at : {A : Type 0} (xs : List A) (i : ℕ) (d : A) → i < length xs → xs ≡ take i xs ++ (get_or xs i d ∷ drop (suc i) xs)
split_at [] i d lt = absurd (omega (arith, lt))
split_at (x ∷ xs) zero d lt = refl
split_at (x ∷ xs) (suc i) d lt = ap (λ ys. x ∷ ys) (split_at xs i d (omega (arith, lt)))

pub taken_more : {A : Type 0} (xs : List A) (i : ℕ) (d : A) → i < length xs → take (suc i) xs ≡ take i xs ++ get_or xs i d ∷ []
taken_more [] i d lt = absurd (omega (arith, lt))
taken_more (x ∷ xs) zero d lt = refl
taken_more (x ∷ xs) (suc i) d lt = ap (λ ys. x ∷ ys) (taken_more xs i d (omega (arith, lt)))

pub reply_cut : (old mid new : Option (List ℕ)) (replies : List (ℕ × ℕ × List ℕ)) (i : ℕ) (r : ℕ × ℕ × List ℕ) → i < length replies → r ≡ get_or replies i r
    → Appends old mid (flat_map record_text (take i replies)) → AppendsPrefix mid new (record_text r) → AppendsPrefix old new (flat_map record_text replies)
reply_cut old mid new replies i r lt is before part =
    let all : flat_map record_text replies ≡ flat_map record_text (take i replies) ++ (record_text r ++ flat_map record_text (drop (suc i) replies)) =
    ap (flat_map record_text) (split_at replies i r lt ∙ ap (λ x. take i replies ++ (x ∷ drop (suc i) replies)) (sym is))
    ∙ flat_map-append record_text (take i replies) (r ∷ drop (suc i) replies) in
    rw all (prefix_then old mid new (flat_map record_text (take i replies)) (record_text r ++ flat_map record_text (drop (suc i) replies)) before
    (prefix_first mid new (record_text r) (flat_map record_text (drop (suc i) replies)) part))

pub reply_more : (old mid new : Option (List ℕ)) (replies : List (ℕ × ℕ × List ℕ)) (i : ℕ) (r : ℕ × ℕ × List ℕ) → i < length replies → r ≡ get_or replies i r
    → Appends old mid (flat_map record_text (take i replies)) → Appends mid new (record_text r) → Appends old new (flat_map record_text (take (i + 1) replies))
reply_more old mid new replies i r lt is before one =
    let n : i + 1 ≡ suc i = omega arith in
    let all : flat_map record_text (take (suc i) replies) ≡ flat_map record_text (take i replies) ++ record_text r =
    ap (flat_map record_text) (taken_more replies i r lt ∙ ap (λ x. take i replies ++ x ∷ []) (sym is))
    ∙ flat_map-append record_text (take i replies) (r ∷ []) ∙ ap (λ t. flat_map record_text (take i replies) ++ t) (append-nil (record_text r)) in
    rw (n, all) (appends_then old mid new (flat_map record_text (take i replies)) (record_text r) before one)

-- ---- faults

pub short_many : {T : Type 0} (r : Result T PassFault) (P : ℕ → Type 0) → IfErr r IsWriteOrMemory → IfErr r (λ f. IfTooMany f P)
short_many (Ok x) P h = tt
short_many (Err (faults.Capture f)) P h = absurd h
short_many (Err (faults.TooMany n)) P h = absurd h
short_many (Err faults.Write) P h = tt
short_many (Err faults.Memory) P h = tt

pub short_cut : {T : Type 0} (r : Result T PassFault) (P Q : Type 0) → (P → Q) → OnErr r P → IfErr r (λ f. IfCutShort f Q)
short_cut (Ok x) P Q more h = tt
short_cut (Err (faults.Capture f)) P Q more h = tt
short_cut (Err (faults.TooMany n)) P Q more h = tt
short_cut (Err faults.Write) P Q more h = more h
short_cut (Err faults.Memory) P Q more h = more h

-- what holds where a call answers so
pub ok_more : {T : Type 0} (r : Result T PassFault) (P Q : Type 0) → (P → Q) → OnOk r P → OnOk r Q
ok_more (Ok x) P Q more h = more h
ok_more (Err f) P Q more h = tt

pub ok_both : {T : Type 0} (r : Result T PassFault) (P Q R : Type 0) → (P → Q → R) → OnOk r P → OnOk r Q → OnOk r R
ok_both (Ok x) P Q R more p q = more p q
ok_both (Err f) P Q R more p q = tt

pub ok_all : {T : Type 0} (r : Result T PassFault) (P : Type 0) → P → OnOk r P
ok_all (Ok x) P h = h
ok_all (Err f) P h = tt

-- nothing is to be shown of a fault that `?` has passed on
pub err_ok : {T : Type 0} (r : Result T PassFault) (P : Type 0) (Q : PassFault → Type 0) → IsErrAnd r Q → OnOk r P
err_ok (Ok x) P Q h = absurd h
err_ok (Err f) P Q h = tt

pub err_more : {T : Type 0} (r : Result T PassFault) (P Q : Type 0) → (P → Q) → OnErr r P → OnErr r Q
err_more (Ok x) P Q more h = tt
err_more (Err f) P Q more h = more h

-- nothing is written yet
pub unwritten : {T : Type 0} (r : Result T PassFault) (files : List File) (terms : Terms) (messages : List Incoming) (decider : Decider) (old : Option (List ℕ))
    → OnErr r ((arrivals more : List Arrival) → Upcoming files terms arrivals more messages decider → WrittenInPart files terms decider.start arrivals more old old)
unwritten (Ok x) files terms messages decider old = tt
unwritten (Err f) files terms messages decider old = λ arrivals more up. prefix_none old (records_after files terms decider.start arrivals more)

pub no_messages : (n : ℕ) (xs : List Incoming) → n ≡ length xs → (n == 0) ≡ true → xs ≡ []
no_messages n [] e t = refl
no_messages n (x ∷ xs) e t = absurd (let z : ⊥ = grind (arith, e, t) in z)

-- ---- part after part

-- the first k of the messages are served
pub record Served (files : List File) (terms : Terms) (messages : List Incoming) (old now : Decider) (before after : Option (List ℕ)) (rest : List (List Incoming)) : Type 0 where
  pub count : ℕ
  pub below : count ≤ length messages
  pub rest_is : joined rest ≡ drop count messages
  pub stands : (arrivals more : List Arrival) → Upcoming files terms arrivals more messages old → DeciderAfter files terms (arrivals ++ take count more) now
  pub written : (arrivals more : List Arrival) → Upcoming files terms arrivals more messages old → Written files terms old.start arrivals (take count more) before after
  pub same : SameCapture old now

pub served_none : (files : List File) (terms : Terms) (messages : List Incoming) (old : Decider) (before : Option (List ℕ)) (rest : List (List Incoming)) → joined rest ≡ messages → Served files terms messages old old before before rest
served_none files terms messages old before rest e = record {
  count = 0;
  below = omega arith;
  rest_is = e;
  stands = λ arrivals more up. rw (append-nil arrivals) up.stands;
  written = λ arrivals more up. written_none files terms old.start arrivals before;
  same = (refl, refl);
}

-- what comes next of the messages
pub next_come : (files : List File) (terms : Terms) (messages part : List Incoming) (old now : Decider) (before after : Option (List ℕ)) (rest following : List (List Incoming)) (arrivals more : List Arrival)
    → (s : Served files terms messages old now before after rest) → rest ≡ part ∷ following → Upcoming files terms arrivals more messages old
    → Upcoming files terms (arrivals ++ take s.count more) (take (length part) (drop s.count more)) part now
next_come files terms messages part old now before after rest following arrivals more s steps up = record {
  stands = s.stands arrivals more up;
  are = map_take incoming_of (length part) (drop s.count more) ∙ ap (take (length part)) (map_drop incoming_of s.count more ∙ ap (drop s.count) up.are ∙ sym s.rest_is ∙ ap joined steps) ∙ take-append_seam part (joined following);
  timely = in_time_take (arrivals ++ take s.count more) (drop s.count more) (length part) (in_time_drop arrivals more s.count up.timely);
}

pub next_come_as : (files : List File) (terms : Terms) (messages taken part : List Incoming) (old now : Decider) (before after : Option (List ℕ)) (rest following : List (List Incoming)) (arrivals more : List Arrival)
    → (s : Served files terms messages old now before after rest) → rest ≡ part ∷ following → taken ≡ part → Upcoming files terms arrivals more messages old
    → Upcoming files terms (arrivals ++ take s.count more) (take (length part) (drop s.count more)) taken now
next_come_as files terms messages taken part old now before after rest following arrivals more s steps same up =
    let next = next_come files terms messages part old now before after rest following arrivals more s steps up in
    record { stands = next.stands; are = next.are ∙ sym same; timely = next.timely }

-- how many they are
part_fits : (messages part : List Incoming) (rest following : List (List Incoming)) (k : ℕ) → k ≤ length messages → joined rest ≡ drop k messages → rest ≡ part ∷ following → k + length part ≤ length messages
part_fits messages part rest following k below e steps =
    let all : part ++ joined following ≡ drop k messages = ap joined (sym steps) ∙ e in
    let len = length-append part (joined following) in
    let cut = length_drop k messages below in
    let same : length (part ++ joined following) ≡ length (drop k messages) = ap length all in
    omega (arith, len, cut, same, below)
  where
    length_drop : (k : ℕ) (xs : List Incoming) → k ≤ length xs → k + length (drop k xs) ≡ length xs
    length_drop zero xs le = omega arith
    length_drop (suc k) [] le = absurd (omega (arith, le))
    length_drop (suc k) (x ∷ xs) le = let h = length_drop k xs (omega (arith, le)) in omega (arith, h)

-- how many are answered
pub answered_now : (files : List File) (terms : Terms) (messages part : List Incoming) (old now : Decider) (before after : Option (List ℕ)) (rest following : List (List Incoming)) (arrivals more : List Arrival)
    → (s : Served files terms messages old now before after rest) → rest ≡ part ∷ following → Upcoming files terms arrivals more messages old
    → (now.totals.answered ≡ old.totals.answered + s.count) × (s.count + length part ≤ length messages)
answered_now files terms messages part old now before after rest following arrivals more s steps up =
    let first = answered_is files terms arrivals old up.stands.counted in
    let later = answered_is files terms (arrivals ++ take s.count more) now (s.stands arrivals more up).counted in
    let len = length-append arrivals (take s.count more) in
    let counted = come_count files terms arrivals more messages old up in
    let below = s.below in
    let short : length (take s.count more) ≡ s.count = length-take-le s.count more (omega (arith, below, counted)) in
    (omega (arith, first, later, len, short), part_fits messages part rest following s.count s.below s.rest_is steps)

-- a prefix of what comes next, after what was served
pub taken_after : (k n m : ℕ) (more : List Arrival) → m ≤ n → take (k + m) more ≡ take k more ++ take m (take n (drop k more))
taken_after k n m more le = take_add k m more ∙ ap (λ xs. take k more ++ xs) (sym (take_take m n (drop k more) le))
  where
    take_take : (m n : ℕ) (xs : List Arrival) → m ≤ n → take m (take n xs) ≡ take m xs
    take_take zero n xs le = refl
    take_take (suc m) zero xs le = absurd (omega (arith, le))
    take_take (suc m) (suc n) [] le = refl
    take_take (suc m) (suc n) (x ∷ xs) le = ap (λ ys. x ∷ ys) (take_take m n xs (omega (arith, le)))

pub served_more : (files : List File) (terms : Terms) (messages part : List Incoming) (old now next : Decider) (before after later : Option (List ℕ)) (rest following : List (List Incoming))
    → Served files terms messages old now before after rest → rest ≡ part ∷ following → DecidesComing files terms part now next
    → ((arrivals more : List Arrival) → Upcoming files terms arrivals more part now → Written files terms now.start arrivals more after later)
    → Served files terms messages old next before later following
served_more files terms messages part old now next before after later rest following s steps decides written =
    let n = length part in record {
      count = s.count + n;
      below = part_fits messages part rest following s.count s.below s.rest_is steps;
      rest_is = sym (drop-append_seam part (joined following)) ∙ ap (drop n) (ap joined (sym steps) ∙ s.rest_is) ∙ drop-drop n s.count messages;
      stands = λ arrivals more up.
          rw (take_add s.count n more, ← append_assoc arrivals (take s.count more) (take n (drop s.count more)))
          (decides.stands (arrivals ++ take s.count more) (take n (drop s.count more)) (next_come files terms messages part old now before after rest following arrivals more s steps up));
      written = λ arrivals more up.
          rw (take_add s.count n more) (written_more files terms old.start arrivals (take s.count more) (take n (drop s.count more)) before after later (s.written arrivals more up)
          (rw s.same.0 at (written (arrivals ++ take s.count more) (take n (drop s.count more)) (next_come files terms messages part old now before after rest following arrivals more s steps up))));
      same = (decides.same.0 ∙ s.same.0, decides.same.1 ∙ s.same.1);
    }

-- all are served
pub served_all : (files : List File) (terms : Terms) (messages : List Incoming) (old now : Decider) (before after : Option (List ℕ)) (rest : List (List Incoming)) (arrivals more : List Arrival)
    → (s : Served files terms messages old now before after rest) → rest ≡ [] → Upcoming files terms arrivals more messages old → take s.count more ≡ more
served_all files terms messages old now before after rest arrivals more s none up =
    all s.count messages (sym (ap joined (sym none) ∙ s.rest_is)) more (come_count files terms arrivals more messages old up)
  where
    all : {A B : Type 0} (k : ℕ) (xs : List A) → drop k xs ≡ [] → (ys : List B) → length ys ≡ length xs → take k ys ≡ ys
    all zero [] e [] l = refl
    all zero [] e (y ∷ ys) l = absurd (let z : ⊥ = omega (arith, l) in z)
    all zero (x ∷ xs) e ys l = absurd (let z : ⊥ = cc in z)
    all (suc k) [] e [] l = refl
    all (suc k) [] e (y ∷ ys) l = absurd (let z : ⊥ = omega (arith, l) in z)
    all (suc k) (x ∷ xs) e [] l = refl
    all (suc k) (x ∷ xs) e (y ∷ ys) l = ap (λ zs. y ∷ zs) (all k xs e ys (omega (arith, l)))
