-- What is known of the items of both floors.
use Rattle.std.proofs.Common.{◌≡◌, ℕ, zero, suc, List, [], ◌∷◌, ◌++◌, ◌≤◌, nat_le, map, refl, sym, ap, subst, ◌∙◌, arith}
use Rattle.std.specs.Prelude.{flat_map, Bool, true, false, ◌&&◌, Option, nat_lt, if◌then◌else◌}
use Rattle.std.specs.List.{list_all}
use Rattle.replay.specs.declared.pending.PendingReply.{PendingReply}
use Rattle.replay.specs.declared.back.BackState.{BackState}
use Rattle.replay.specs.declared.back.BackState.TheVariants.{Pending, Fetched, Rendered}
use Rattle.responses.specs.declared.slip.Persistence.{Persistence}
use Rattle.responses.specs.declared.slip.Slip.{Slip}
use Rattle.responses.specs.declared.slip.ResponseKind.{ResponseKind}
use Rattle.responses.specs.declared.slip.ResponseKind.TheVariants as givens
use Rattle.responses.specs.Reference.{reply_text}
use Rattle.responses.specs.Replies.{OnlyHead, HasLocation}
use Rattle.replay.specs.declared.pending.PendingAnswer.{PendingAnswer}
use Rattle.replay.specs.declared.pending.PendingAnswer.TheVariants.{Page, Ready}
use Rattle.replay.specs.Backs.{only_head, has_location, can_render, is_answer, is_back, reply_in, reply_to, back_after, back_step, slip_of_pending, response_of, response_elsewhere, answer_elsewhere, pending_elsewhere, slip_elsewhere, elsewhere}
use Rattle.std.proofs.lemmas.Bool.{leb-true}
use Rattle.std.proofs.lemmas.Grind.{flat_map-append}
use Rattle.std.proofs.lemmas.List.{map-append, append_assoc}
use Rattle.stage_graph.specs.Helpers.{AreSized}
use Rattle.stage_graph.specs.Steps.{value_of}
use Rattle.paths.specs.declared.file.File.{File}
use Rattle.paths.proofs.Locations.{outcome_is}
use Rattle.http_requests.specs.declared.messages.Meaning.{Meaning}
use Rattle.http_requests.specs.declared.messages.Meaning.TheVariants.{Request, Bad}
use Rattle.cost_model.specs.Reference.{Tariff, Charge, charge}
use Rattle.replay.specs.declared.lookup.Lookup.{Lookup}
use Rattle.replay.specs.declared.lookup.Lookup.TheVariants.{Unseen, Asked, Found, Priced}
use Rattle.arrivals.specs.declared.incoming.Incoming.{Incoming}
use Rattle.replay.specs.declared.lookup.LookedUp.{LookedUp}
use Rattle.paths.specs.Reference.{asked, outcome}
use Rattle.paths.specs.declared.resolution.Outcome.{Outcome}
use Rattle.http_requests.specs.declared.messages.HttpVersion.{HttpVersion}
use Rattle.reference.specs.Reference.{is_head, answers_head, is_unmodified_file, length_found}
use Rattle.replay.specs.Fronts.{floor_lookup, floor_step, front_value, seen_as, lookup_of, unseen, IsLookup}

abbrev pub looked_up : Incoming → Lookup → LookedUp
looked_up message lookup = record { message = message; lookup = lookup }

one_lookup : (files : List File) (tariff : Tariff) (k : ℕ) (what : Meaning) (lookup : Lookup) → IsLookup files lookup → IsLookup files (floor_lookup files tariff k what lookup)
one_lookup files tariff k (Bad fault) lookup h = h
one_lookup files tariff k (Request method target version closing since) Unseen h = outcome_is files (asked method target)
one_lookup files tariff k (Request method target version closing since) (Asked a) h = outcome_is files a
one_lookup files tariff k (Request method target version closing since) (Found o) h = priced_or_not (nat_lt k 2)
  where
    priced_or_not : (b : Bool) → IsLookup files (if b then Found o else Priced o (charge tariff target o (is_head method) (is_unmodified_file files since o) (length_found files o)))
    priced_or_not true = h
    priced_or_not false = h
one_lookup files tariff k (Request method target version closing since) (Priced o cost) h = h

pub as_it_is : (files : List File) (s : Lookup) → IsLookup files (seen_as files s) → IsLookup files s
as_it_is files Unseen h = tt
as_it_is files (Asked a) h = tt
as_it_is files (Found o) h = h
as_it_is files (Priced o cost) h = h

same_lookup : (files : List File) (tariff : Tariff) (what : Meaning)
    → floor_lookup files tariff 2 what (floor_lookup files tariff 1 what (floor_lookup files tariff 0 what Unseen)) ≡ lookup_of files tariff what
same_lookup files tariff (Bad fault) = refl
same_lookup files tariff (Request method target version closing since) = refl

-- the floor finds of a message what is to be known of it
pub same_value : (files : List File) (tariff : Tariff) (message : Incoming) → value_of (floor_step files tariff) 3 (unseen message) ≡ front_value files tariff message
same_value files tariff message = ap (λ s. looked_up message s) (same_lookup files tariff message.what)

never_found : (files : List File) (tariff : Tariff) (what : Meaning) (o : Outcome) → Found o ≡ lookup_of files tariff what → ⊥
never_found files tariff (Bad fault) o e = let z : ⊥ = grind (arith, e) in z
never_found files tariff (Request method target version closing since) o e = let z : ⊥ = grind (arith, e) in z

as_known : (files : List File) (tariff : Tariff) (message m : Incoming) (s : Lookup) → looked_up message (seen_as files s) ≡ front_value files tariff m → looked_up message s ≡ front_value files tariff m
as_known files tariff message m Unseen h = h
as_known files tariff message m (Asked a) h = absurd (never_found files tariff m.what (outcome files a) (ap (λ (v : LookedUp). v.lookup) h))
as_known files tariff message m (Found o) h = h
as_known files tariff message m (Priced o cost) h = h

-- all that is known at the end is known in full
pub all_known : {X : Type 0} (files : List File) (tariff : Tariff) (message : X → Incoming) (lookup : X → Lookup) (xs : List X) (ms : List Incoming)
    → map (λ x. looked_up (message x) (seen_as files (lookup x))) xs ≡ map (front_value files tariff) ms → map (λ x. looked_up (message x) (lookup x)) xs ≡ map (front_value files tariff) ms
all_known files tariff message lookup [] ms e = e
all_known files tariff message lookup (x ∷ xs) [] e = absurd (let z : ⊥ = grind (arith, e) in z)
all_known files tariff message lookup (x ∷ xs) (m ∷ ms) e =
    let first : looked_up (message x) (seen_as files (lookup x)) ≡ front_value files tariff m = cc in
    let rest : map (λ y. looked_up (message y) (seen_as files (lookup y))) xs ≡ map (front_value files tariff) ms = cc in
    let one = as_known files tariff (message x) m (lookup x) first in
    let all = all_known files tariff message lookup xs ms rest in
    rw (one, all) refl

pub same_values : (files : List File) (tariff : Tariff) (ms : List Incoming) → map (value_of (floor_step files tariff) 3) (map unseen ms) ≡ map (front_value files tariff) ms
same_values files tariff [] = refl
same_values files tariff (m ∷ ms) =
    ap (λ v. v ∷ map (value_of (floor_step files tariff) 3) (map unseen ms)) (same_value files tariff m) ∙ ap (λ vs. front_value files tariff m ∷ vs) (same_values files tariff ms)

-- ---- chunks of items

-- one more item took a step
pub stepped_more : {X V : Type 0} (f : X → V) (h : V → V) (done rest others items : List X) (new x : X) → rest ≡ x ∷ others → f new ≡ h (f x)
    → map f done ++ map h (map f rest) ≡ map h (map f items) → map f (done ++ new ∷ []) ++ map h (map f others) ≡ map h (map f items)
stepped_more f h done rest others items new x is one so_far =
    rw (map-append f done (new ∷ []), append_assoc, one) (rw is at so_far)

none_stepped : {V : Type 0} (step : ℕ → V → V) (vs : List V) → vs ≡ map (value_of step zero) vs
none_stepped step [] = refl
none_stepped step (v ∷ vs) = ap (λ l. v ∷ l) (none_stepped step vs)

all_stepped : {V : Type 0} (step : ℕ → V → V) (n : ℕ) (vs : List V) → map (step n) (map (value_of step n) vs) ≡ map (value_of step (suc n)) vs
all_stepped step n [] = refl
all_stepped step n (v ∷ vs) = ap (λ l. step n (value_of step n v) ∷ l) (all_stepped step n vs)

-- steps that are done to all of a chunk are done to each alone
pub part_stepped : {W V : Type 0} (part : W → List V) (all : ℕ → W → W) (step : ℕ → V → V)
    → ((k : ℕ) (w : W) → part (all k w) ≡ map (step k) (part w)) → (n : ℕ) (w : W) → part (value_of all n w) ≡ map (value_of step n) (part w)
part_stepped part all step each zero w = none_stepped step (part w)
part_stepped part all step each (suc n) w =
    each n (value_of all n w) ∙ (ap (map (step n)) (part_stepped part all step each n w) ∙ all_stepped step n (part w))

-- what is made of each item of some lists, in lists or in all
pub flat_map-mapped : {X V L : Type 0} (f : X → V) (items : L → List X) (chunks : List L)
    → flat_map (λ v. map f (items v)) chunks ≡ map f (flat_map items chunks)
flat_map-mapped f items [] = refl
flat_map-mapped f items (v ∷ chunks) =
    ap (λ vs. map f (items v) ++ vs) (flat_map-mapped f items chunks) ∙ sym (map-append f (items v) (flat_map items chunks))

each_stepped : {L W V : Type 0} (part : W → List V) (value : L → W) (all : ℕ → W → W) (step : ℕ → V → V) (n : ℕ)
    → ((k : ℕ) (w : W) → part (all k w) ≡ map (step k) (part w)) → (chunks : List L)
    → flat_map (λ l. part (value_of all n (value l))) chunks ≡ flat_map (λ l. map (value_of step n) (part (value l))) chunks
each_stepped part value all step n each [] = refl
each_stepped part value all step n each (l ∷ chunks) =
    ap (λ vs. vs ++ flat_map (λ l. part (value_of all n (value l))) chunks) (part_stepped part all step each n (value l))
    ∙ ap (λ vs. map (value_of step n) (part (value l)) ++ vs) (each_stepped part value all step n each chunks)

-- what each item of some lists gives, in lists or in all
pub flat_map-flat : {X V L : Type 0} (f : X → List V) (items : L → List X) (chunks : List L)
    → flat_map (λ v. flat_map f (items v)) chunks ≡ flat_map f (flat_map items chunks)
flat_map-flat f items [] = refl
flat_map-flat f items (v ∷ chunks) =
    ap (λ vs. flat_map f (items v) ++ vs) (flat_map-flat f items chunks) ∙ sym (flat_map-append f (items v) (flat_map items chunks))

pub flat_map-states : {A B C : Type 0} (f : B → List C) (g : A → B) (xs : List A) → flat_map (λ x. f (g x)) xs ≡ flat_map f (map g xs)
flat_map-states f g [] = refl
flat_map-states f g (x ∷ xs) = ap (λ l. f (g x) ++ l) (flat_map-states f g xs)

flat_parts : {L W V X : Type 0} (part : W → List V) (value : L → W) (items : L → List X) (one : X → V) → ((l : L) → part (value l) ≡ map one (items l)) → (chunks : List L)
    → map one (flat_map items chunks) ≡ flat_map (λ l. part (value l)) chunks
flat_parts part value items one holds [] = refl
flat_parts part value items one holds (l ∷ chunks) =
    map-append one (items l) (flat_map items chunks)
    ∙ (ap (λ vs. vs ++ map one (flat_map items chunks)) (sym (holds l)) ∙ ap (λ vs. part (value l) ++ vs) (flat_parts part value items one holds chunks))

-- what chunks hold that went through some steps
pub chunks_stepped : {L W V X : Type 0} (part : W → List V) (value : L → W) (items : L → List X) (one : X → V) (all : ℕ → W → W) (step : ℕ → V → V) (n : ℕ)
    → ((l : L) → part (value l) ≡ map one (items l)) → ((k : ℕ) (w : W) → part (all k w) ≡ map (step k) (part w)) → (arrived chunks : List L)
    → map value arrived ≡ map (λ l. value_of all n (value l)) chunks
    → map one (flat_map items arrived) ≡ map (value_of step n) (map one (flat_map items chunks))
chunks_stepped part value items one all step n holds each arrived chunks values =
    flat_parts part value items one holds arrived
    ∙ (flat_map-states part value arrived
    ∙ (ap (flat_map part) values
    ∙ (sym (flat_map-states part (λ l. value_of all n (value l)) chunks)
    ∙ (each_stepped part value all step n each chunks
    ∙ (flat_map-mapped (value_of step n) (λ l. part (value l)) chunks
    ∙ ap (map (value_of step n)) (sym (flat_parts part value items one holds chunks)))))))

-- chunks that went through the same steps by another name
pub same_steps : {L V : Type 0} (content seen : L → V) (step same : ℕ → V → V) (n : ℕ) (arrived chunks : List L) → step ≡ same → content ≡ seen
    → map content arrived ≡ map (λ x. value_of step n (content x)) chunks → map seen arrived ≡ map (λ x. value_of same n (seen x)) chunks
same_steps {L} {V} content seen step same n arrived chunks steps contents values =
    subst (λ (s : ℕ → V → V). map seen arrived ≡ map (λ x. value_of s n (seen x)) chunks) steps
    (subst (λ (k : L → V). map k arrived ≡ map (λ x. value_of step n (k x)) chunks) contents values)

pub same_sizes : {L : Type 0} (count len : L → ℕ) (size : ℕ) (chunks : List L) → count ≡ len → AreSized len size chunks → AreSized count size chunks
same_sizes {L} count len size chunks counts sized = subst (λ (k : L → ℕ). AreSized k size chunks) (sym counts) sized

-- ---- the same at another type of pages

given_same : {X Y : Type 0} (d : PendingAnswer X) → response_of {X = Y} (answer_elsewhere d) ≡ response_elsewhere (response_of d)
given_same (Page file mtime) = refl
given_same (Ready what) = refl

abbrev slip_with : {X : Type 0} → ℕ → ℕ → ℕ → Bool → Persistence → ResponseKind X → Slip X
slip_with number conn date head link what = record { number = number; conn = conn; date = date; head = head; link = link; what = what }

slip_same : {X Y : Type 0} (t : PendingReply X) → slip_of_pending {X = Y} (pending_elsewhere t) ≡ slip_elsewhere (slip_of_pending t)
slip_same {X} {Y} t = ap (λ (w : ResponseKind Y). slip_with t.number t.conn t.date t.head t.link w) (given_same t.answer)

text_go : {X : Type 0} (Y : Type 0) (files : List File) (number conn date : ℕ) (head : Bool) (link : Persistence) (what : ResponseKind X)
    → reply_text files (slip_with {X = Y} number conn date head link (response_elsewhere what)) ≡ reply_text files (slip_with number conn date head link what)
text_go Y files number conn date head link (givens.Page file mtime) = refl
text_go Y files number conn date head link (givens.Known media len mtime) = refl
text_go Y files number conn date head link (givens.Unmodified mtime) = refl
text_go Y files number conn date head link (givens.Moved location) = refl
text_go Y files number conn date head link (givens.Plain status) = refl

reply_same : {X : Type 0} (Y : Type 0) (files : List File) (s : Slip X) → reply_to files (slip_elsewhere {Y = Y} s) ≡ reply_to files s
reply_same Y files s = ap (λ x. (s.number, s.conn, x)) (text_go Y files s.number s.conn s.date s.head s.link s.what)

pub step_same : {X Y : Type 0} (files : List File) (s : BackState X) → elsewhere {Y = Y} (back_after files s) ≡ back_after files (elsewhere s)
step_same {X} {Y} files (Pending t) = ap (λ (x : Slip Y). Fetched x) (sym (slip_same t))
step_same {X} {Y} files (Fetched s) = ap (λ r. Rendered r) (sym (reply_same Y files s))
step_same files (Rendered r) = refl

pub reply_elsewhere : {X : Type 0} (Y : Type 0) (s : BackState X) → reply_in (elsewhere {Y = Y} s) ≡ reply_in s
reply_elsewhere Y (Pending t) = refl
reply_elsewhere Y (Fetched s) = refl
reply_elsewhere Y (Rendered r) = refl

-- all that is rendered are replies
pub all_rendered : {X : Type 0} (Y : Type 0) (files : List File) (ts : List (PendingReply X))
    → flat_map reply_in (map (value_of (back_step files) 2) (map {B = BackState Y} (λ t. Pending (pending_elsewhere t)) ts)) ≡ map (λ t. reply_to files (slip_of_pending t)) ts
all_rendered Y files [] = refl
all_rendered Y files (t ∷ ts) =
    let one : reply_to files (slip_of_pending {X = Y} (pending_elsewhere t)) ≡ reply_to files (slip_of_pending t) = ap (reply_to files) (slip_same t) ∙ reply_same Y files (slip_of_pending t) in
    ap (λ r. r ∷ flat_map reply_in (map (value_of (back_step files) 2) (map {B = BackState Y} (λ t. Pending (pending_elsewhere t)) ts))) one ∙ ap (λ rs. reply_to files (slip_of_pending t) ∷ rs) (all_rendered Y files ts)

-- ---- reading a list to its end

and_right : (a b : Bool) → (a && b) ≡ true → b ≡ true
and_right true b e = e
and_right false b e = absurd (let z : ⊥ = grind (arith, e) in z)

pub all_rest : {X : Type 0} (p : X → Bool) (xs ys : List X) (x : X) → xs ≡ x ∷ ys → list_all p xs ≡ true → list_all p ys ≡ true
all_rest p xs ys x e h = and_right (p x) (list_all p ys) (rw e at h)

pub replies_same : {A X : Type 0} (Y : Type 0) (g : A → BackState X) (xs : List A) → flat_map (λ x. reply_in (g x)) xs ≡ flat_map (λ x. reply_in (elsewhere {Y = Y} (g x))) xs
replies_same Y g [] = refl
replies_same Y g (x ∷ xs) = ap (λ l. l ++ flat_map (λ y. reply_in (g y)) xs) (sym (reply_elsewhere Y (g x))) ∙ ap (λ l. reply_in (elsewhere {Y = Y} (g x)) ++ l) (replies_same Y g xs)

-- ---- a ticket that may be answered

and_left : (a b : Bool) → (a && b) ≡ true → a ≡ true
and_left true b e = refl
and_left false b e = e

-- its slip may be rendered
pub may_render : {X : Type 0} (files : List File) (t : PendingReply X) → is_back files (Pending t) ≡ true
    → (t.date ≤ 253402300799) × OnlyHead t.head (response_of t.answer) × HasLocation (response_of t.answer) × (is_answer files t.answer ≡ true)
may_render files t ready =
    let slip = slip_of_pending t in
    let can = and_left (can_render slip) (is_answer files t.answer) ready in
    let rest = and_right (nat_le t.date 253402300799) (only_head t.head (response_of t.answer) && has_location (response_of t.answer)) can in (
      leb-true t.date 253402300799 (and_left (nat_le t.date 253402300799) (only_head t.head (response_of t.answer) && has_location (response_of t.answer)) can),
      known t.head (response_of t.answer) (and_left (only_head t.head (response_of t.answer)) (has_location (response_of t.answer)) rest),
      placed (response_of t.answer) (and_right (only_head t.head (response_of t.answer)) (has_location (response_of t.answer)) rest),
      and_right (can_render slip) (is_answer files t.answer) ready,
    )
  where
    known : {X : Type 0} (head : Bool) (what : ResponseKind X) → only_head head what ≡ true → OnlyHead head what
    known head (givens.Page file mtime) e = tt
    known head (givens.Known media len mtime) e = e
    known head (givens.Unmodified mtime) e = tt
    known head (givens.Moved location) e = tt
    known head (givens.Plain status) e = tt

    placed : {X : Type 0} (what : ResponseKind X) → has_location what ≡ true → HasLocation what
    placed (givens.Page file mtime) e = tt
    placed (givens.Known media len mtime) e = tt
    placed (givens.Unmodified mtime) e = tt
    placed (givens.Moved location) e = e
    placed (givens.Plain status) e = tt

-- ---- a request that was looked into

-- its outcome and what it costs
pub priced : (files : List File) (tariff : Tariff) (what : Meaning) (method target : List ℕ) (version : HttpVersion) (closing : Bool) (since : Option ℕ) (head : Bool) (lookup : Lookup) (o : Outcome) (cost : Charge)
    → what ≡ Request method target version closing since → head ≡ answers_head what → lookup ≡ lookup_of files tariff what → lookup ≡ Priced o cost
    → (o ≡ outcome files (asked method target)) × (cost ≡ charge tariff target o head (is_unmodified_file files since o) (length_found files o))
priced files tariff what method target version closing since head lookup o cost is heads seen priced_is =
    let own : head ≡ is_head method = heads ∙ ap answers_head is in
    let all : Priced o cost ≡ Priced (outcome files (asked method target)) (charge tariff target (outcome files (asked method target)) (is_head method) (is_unmodified_file files since (outcome files (asked method target))) (length_found files (outcome files (asked method target)))) =
    sym priced_is ∙ rw is at seen in
    let found : o ≡ outcome files (asked method target) = cc in
    let costing : cost ≡ charge tariff target (outcome files (asked method target)) (is_head method) (is_unmodified_file files since (outcome files (asked method target))) (length_found files (outcome files (asked method target))) = cc in
    (found, rw (found, own) costing)

abbrev is_priced : Lookup → Bool
is_priced Unseen = false
is_priced (Asked a) = false
is_priced (Found o) = false
is_priced (Priced o cost) = true

pub is_priced_request : (files : List File) (tariff : Tariff) (what : Meaning) (method target : List ℕ) (version : HttpVersion) (closing : Bool) (since : Option ℕ) (lookup : Lookup)
    → what ≡ Request method target version closing since → lookup ≡ lookup_of files tariff what → is_priced lookup ≡ true
is_priced_request files tariff what method target version closing since lookup is seen = rw (seen, is) refl
