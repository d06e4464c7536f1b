-- The loop that decides on messages.
use Rattle.std.proofs.Common.{◌≡◌, ℕ, zero, suc, ◌+◌, ◌<◌, ◌≤◌, Bool, true, false, ◌&&◌, List, [], ◌∷◌, ◌++◌, length, take, drop, map, refl, sym, ap, ◌∙◌, arith, append-nil, append_assoc}
use Rattle.std.specs.List.{list_all}
use Rattle.std.proofs.lemmas.List.{map-append, length-append, length-map}
use Rattle.paths.specs.declared.file.File.{File}
use Rattle.cost_model.specs.Reference.{Tariff}
use Rattle.reference.specs.Reference.{Terms, handled_next, handled_after, slip_of}
use Rattle.arrivals.specs.Reference.{Arrival}
use Rattle.replay.specs.Serving.{DeciderAfter, AreBy, SameCapture}
use Rattle.replay.specs.Fronts.{front_value, lookup_of}
use Rattle.replay.specs.Backs.{is_back, slip_of_pending}
use Rattle.arrivals.specs.Gathering.{incoming_of}
use Rattle.replay.specs.Coming.{AreLookedUp, InTime}
use Rattle.arrivals.specs.declared.incoming.Incoming.{Incoming}
use Rattle.replay.specs.declared.lookup.LookedUp.{LookedUp}
use Rattle.replay.specs.declared.pending.PendingReply.{PendingReply}
use Rattle.replay.specs.declared.back.BackState.TheVariants.{Pending}
use Rattle.replay.specs.declared.decider.Decider.{Decider}
use Rattle.reference.proofs.Offering.{handled_more, handled_one}
use Rattle.replay.proofs.Judging.{answered_is}

-- the first k of the messages are decided on
pub record Settled {X : Type 0} (files : List File) (terms : Terms) (tariff : Tariff) (lookups : List LookedUp) (old now : Decider) (rest : List LookedUp) (pending_replies : List (PendingReply X)) (k : ℕ) : Type 0 where
  pub count : length pending_replies ≡ k
  pub rest_is : rest ≡ drop k lookups
  pub stands : (arrivals more : List Arrival) → DeciderAfter files terms arrivals old → AreLookedUp files tariff more lookups → DeciderAfter files terms (arrivals ++ take k more) now
  pub slips : (arrivals more : List Arrival) → DeciderAfter files terms arrivals old → AreLookedUp files tariff more lookups
      → map slip_of_pending pending_replies ≡ map (slip_of files terms old.start) (handled_after files terms arrivals (take k more))
  pub ready : list_all (λ t. is_back files (Pending t)) pending_replies ≡ true
  pub same : SameCapture old now

-- the element of a list that a place of its image shows
pub record At {A B : Type 0} (f : A → B) (more : List A) (k : ℕ) (s : B) : Type 0 where
  pub one : A
  pub below : k < length more
  pub is : f one ≡ s
  pub taken : take (suc k) more ≡ take k more ++ one ∷ []
  pub rest : drop k more ≡ one ∷ drop (suc k) more

pub at_place : {A B : Type 0} (f : A → B) (more : List A) (k : ℕ) (s : B) (rest : List B) → s ∷ rest ≡ drop k (map f more) → At f more k s
at_place f [] zero s rest e = absurd (let z : ⊥ = cc in z)
at_place f [] (suc k) s rest e = absurd (let z : ⊥ = cc in z)
at_place f (x ∷ more) zero s rest e = record { one = x; below = omega arith; is = cc; taken = refl; rest = refl }
at_place f (x ∷ more) (suc k) s rest e =
    let h = at_place f more k s rest e in
    let lt = h.below in
    record { one = h.one; below = omega (arith, lt); is = h.is; taken = ap (λ xs. x ∷ xs) h.taken; rest = h.rest }

-- the next of messages that come in time
pub in_time_at : (earlier more : List Arrival) (k : ℕ) (a : Arrival) → InTime earlier more → drop k more ≡ a ∷ drop (suc k) more
    → AreBy a.origin.tick (earlier ++ take k more) × (a.origin.tick ≤ 1000000000000000) × (a.origin.tier < 4)
in_time_at earlier [] zero a h e = absurd (let z : ⊥ = cc in z)
in_time_at earlier [] (suc k) a h e = absurd (let z : ⊥ = cc in z)
in_time_at earlier (x ∷ more) zero a h e =
    let same : x ≡ a = cc in
    rw (append-nil earlier, ← same) (h.0, h.1, h.2)
in_time_at earlier (x ∷ more) (suc k) a h e =
    let rest = in_time_at (earlier ++ x ∷ []) more k a h.3 e in
    (rw (append_assoc earlier (x ∷ []) (take k more)) at rest.0, rest.1, rest.2)

one_more : (k : ℕ) → k + 1 ≡ suc k
one_more k = omega arith

list_all-push : {A : Type 0} (p : A → Bool) (xs : List A) (x : A) → list_all p xs ≡ true → p x ≡ true → list_all p (xs ++ x ∷ []) ≡ true
list_all-push p [] x h e = rw e refl
list_all-push p (y ∷ xs) x h e = go (p y) (list_all p xs) (list_all p (xs ++ x ∷ [])) h (list_all-push p xs x)
  where
    go : (b all more : Bool) → (b && all) ≡ true → (all ≡ true → p x ≡ true → more ≡ true) → (b && more) ≡ true
    go true all more h f = f h e
    go false all more h f = h

-- what `decide_next` asks of the next message
pub record Next (files : List File) (terms : Terms) (decider : Decider) (message : Incoming) : Type 0 where
  pub arrivals : List Arrival
  pub stands : DeciderAfter files terms arrivals decider
  pub by : AreBy message.origin.tick arrivals
  pub tick : message.origin.tick ≤ 1000000000000000
  pub tier : message.origin.tier < 4
  pub few : decider.totals.answered < 536870912

pub next_is : {X : Type 0} (files : List File) (terms : Terms) (tariff : Tariff) (lookups : List LookedUp) (old now : Decider) (rest after : List LookedUp) (pending_replies : List (PendingReply X)) (k : ℕ)
    (arrivals more : List Arrival) (s : LookedUp) → Settled files terms tariff lookups old now rest pending_replies k → rest ≡ s ∷ after
    → DeciderAfter files terms arrivals old → AreLookedUp files tariff more lookups → InTime arrivals more → length arrivals + length more ≤ 536870912
    → Next files terms now s.message × (s ≡ front_value files tariff s.message) × (s.lookup ≡ lookup_of files tariff s.message.what)
next_is files terms tariff lookups old now rest after pending_replies k arrivals more s settled steps stands looked_up timely few =
    let here = at_place (λ a. front_value files tariff (incoming_of a)) more k s after (sym steps ∙ settled.rest_is ∙ ap (drop k) looked_up) in
    let a = here.one in
    let own : incoming_of a ≡ s.message = ap (λ (v : LookedUp). v.message) here.is in
    let tick : a.origin.tick ≡ s.message.origin.tick = ap (λ (m : Incoming). m.origin.tick) own in
    let timing = in_time_at arrivals more k a timely here.rest in
    let now_stands = settled.stands arrivals more stands looked_up in
    let counted = answered_is files terms (arrivals ++ take k more) now now_stands.counted in
    let len = length-append arrivals (take k more) in
    let short = length_take_below k more here.below in
    let below = here.below in (
      record {
        arrivals = arrivals ++ take k more;
        stands = now_stands;
        by = rw tick at timing.0;
        tick = rw tick at timing.1;
        tier = rw (ap (λ (m : Incoming). m.origin.tier) own) at timing.2;
        few = omega (arith, counted, len, short, below, few);
      },
      sym here.is ∙ ap (front_value files tariff) own,
      ap (λ (v : LookedUp). v.lookup) (sym here.is ∙ ap (front_value files tariff) own),
    )
  where
    length_take_below : {A : Type 0} (k : ℕ) (xs : List A) → k < length xs → length (take k xs) ≡ k
    length_take_below zero xs lt = refl
    length_take_below (suc k) [] lt = absurd (omega (arith, lt))
    length_take_below (suc k) (x ∷ xs) lt = ap (λ n. suc n) (length_take_below k xs (omega (arith, lt)))

-- one more of them is
pub settled_more : {X : Type 0} (files : List File) (terms : Terms) (tariff : Tariff) (lookups : List LookedUp) (old now next : Decider) (rest after : List LookedUp) (pending_replies : List (PendingReply X)) (t : PendingReply X) (k : ℕ)
    (s : LookedUp) → Settled files terms tariff lookups old now rest pending_replies k → rest ≡ s ∷ after
    → ((arrivals : List Arrival) (a : Arrival) → DeciderAfter files terms arrivals now → incoming_of a ≡ s.message → DeciderAfter files terms (arrivals ++ a ∷ []) next)
    → ((arrivals : List Arrival) (a : Arrival) → DeciderAfter files terms arrivals now → incoming_of a ≡ s.message → slip_of_pending t ≡ slip_of files terms now.start (handled_next files terms arrivals a))
    → is_back files (Pending t) ≡ true → SameCapture now next
    → Settled files terms tariff lookups old next after (pending_replies ++ t ∷ []) (k + 1)
settled_more {X} files terms tariff lookups old now next rest after pending_replies t k s settled steps stands slip ready same = rw (one_more k) (record {
  count = (let e = settled.count in let l = length-append pending_replies (t ∷ []) in omega (arith, e, l));
  rest_is = next_rest lookups k s after (sym steps ∙ settled.rest_is);
  stands = λ arrivals more begun looked_up.
      (let here = at_place (λ a. front_value files tariff (incoming_of a)) more k s after (sym steps ∙ settled.rest_is ∙ ap (drop k) looked_up) in
      rw here.taken (rw (append_assoc arrivals (take k more) (here.one ∷ [])) at (stands (arrivals ++ take k more) here.one (settled.stands arrivals more begun looked_up) (ap (λ (v : LookedUp). v.message) here.is))));
  slips = λ arrivals more begun looked_up.
      (let here = at_place (λ a. front_value files tariff (incoming_of a)) more k s after (sym steps ∙ settled.rest_is ∙ ap (drop k) looked_up) in
      let own = slip (arrivals ++ take k more) here.one (settled.stands arrivals more begun looked_up) (ap (λ (v : LookedUp). v.message) here.is) in
      rw (
        here.taken,
        handled_more files terms arrivals (take k more) (here.one ∷ []),
        handled_one files terms (arrivals ++ take k more) here.one,
        map-append (slip_of {X = X} files terms old.start) (handled_after files terms arrivals (take k more)) (handled_next files terms (arrivals ++ take k more) here.one ∷ []),
        map-append (slip_of_pending {X = X}) pending_replies (t ∷ []),
        settled.slips arrivals more begun looked_up,
        own,
        settled.same.0,
      ) refl);
  ready = list_all-push (λ t. is_back files (Pending t)) pending_replies t settled.ready ready;
  same = (same.0 ∙ settled.same.0, same.1 ∙ settled.same.1);
})
  where
    next_rest : {A : Type 0} (xs : List A) (k : ℕ) (x : A) (after : List A) → x ∷ after ≡ drop k xs → after ≡ drop (suc k) xs
    next_rest [] zero x after e = absurd (let z : ⊥ = cc in z)
    next_rest [] (suc k) x after e = absurd (let z : ⊥ = cc in z)
    next_rest (y ∷ xs) zero x after e = cc
    next_rest (y ∷ xs) (suc k) x after e = next_rest xs k x after e

-- none are left
pub settled_all : {A B : Type 0} (xs : List A) (k : ℕ) → [] ≡ drop k xs → (m : List B) → length m ≡ length xs → take k m ≡ m
settled_all [] zero e [] l = refl
settled_all [] zero e (y ∷ m) l = absurd (let z : ⊥ = omega (arith, l) in z)
settled_all [] (suc k) e [] l = refl
settled_all [] (suc k) e (y ∷ m) l = absurd (let z : ⊥ = omega (arith, l) in z)
settled_all (x ∷ xs) zero e m l = absurd (let z : ⊥ = cc in z)
settled_all (x ∷ xs) (suc k) e [] l = refl
settled_all (x ∷ xs) (suc k) e (y ∷ m) l = ap (λ ys. y ∷ ys) (settled_all xs k e m (omega (arith, l)))

-- nothing is decided on yet
pub settled_none : {X : Type 0} (files : List File) (terms : Terms) (tariff : Tariff) (lookups : List LookedUp) (old : Decider) (rest : List LookedUp) (pending_replies : List (PendingReply X)) (k : ℕ)
    → pending_replies ≡ [] → k ≡ 0 → rest ≡ lookups → Settled files terms tariff lookups old old rest pending_replies k
unfolding handled_after
settled_none {X} files terms tariff lookups old rest pending_replies k none start all = rw (none, start) (record {
  count = refl;
  rest_is = all;
  stands = λ arrivals more stands looked_up. rw (append-nil arrivals) stands;
  slips = λ arrivals more stands looked_up. refl;
  ready = refl;
  same = (refl, refl);
})

-- all are
pub settled_last : {X : Type 0} (files : List File) (terms : Terms) (tariff : Tariff) (lookups : List LookedUp) (old now : Decider) (rest : List LookedUp) (pending_replies : List (PendingReply X)) (k : ℕ) (more : List Arrival)
    → Settled files terms tariff lookups old now rest pending_replies k → rest ≡ [] → AreLookedUp files tariff more lookups → take k more ≡ more
settled_last files terms tariff lookups old now rest pending_replies k more settled none looked_up =
    settled_all lookups k (sym none ∙ settled.rest_is) more (sym (ap length looked_up ∙ length-map more _))
