-- Messages that are served one after another, without floors.
use Rattle.std.proofs.Common.{◌≡◌, ℕ, ◌+◌, ◌≤◌, Bool, true, false, ◌&&◌, List, [], ◌∷◌, ◌++◌, length, take, map, Option, refl, sym, ap, subst, ◌∙◌, append-nil}
use Rattle.std.specs.List.{list_all}
use Rattle.std.specs.Io.KnownBytes.{Appends}
use Rattle.devices.specs.Devices.{AppendsPrefix}
use Rattle.paths.specs.declared.file.File.{File}
use Rattle.cost_model.specs.Reference.{Tariff}
use Rattle.responses.specs.Reference.{record_text}
use Rattle.reference.specs.Reference.{Terms, handled_next, slip_of}
use Rattle.arrivals.specs.Reference.{Arrival}
use Rattle.arrivals.specs.declared.incoming.Incoming.{Incoming}
use Rattle.replay.specs.Serving.{DeciderAfter, SameCapture}
use Rattle.replay.specs.Fronts.{front_value}
use Rattle.replay.specs.Backs.{is_back, slip_of_pending, reply_to}
use Rattle.replay.specs.Groups.{all_of, records_of}
use Rattle.arrivals.specs.Gathering.{incoming_of}
use Rattle.replay.specs.Coming.{AreLookedUp, Upcoming}
use Rattle.replay.specs.declared.pending.PendingReply.{PendingReply}
use Rattle.replay.specs.declared.back.BackState.TheVariants.{Pending}
use Rattle.replay.specs.declared.decider.Decider.{Decider}
use Rattle.replay.proofs.PendingReplies.{Settled, Next, next_is, settled_more, settled_last}
use Rattle.replay.proofs.Upcoming.{looked_up_are}
use Rattle.replay.proofs.Grouping.{Answered, answered_none, answered_more, answered_part, answered_all, group_ready}

-- ---- decided on

-- the first k of the messages are looked up and decided on
abbrev pub SettledOf : {X : Type 0} → List File → Terms → Tariff → List Incoming → Decider → Decider → List Incoming → List (PendingReply X) → ℕ → Type 0
SettledOf files terms tariff messages old now rest pending_replies k =
    Settled files terms tariff (map (front_value files tariff) messages) old now (map (front_value files tariff) rest) pending_replies k

pub all_looked_up : (files : List File) (terms : Terms) (tariff : Tariff) (arrivals more : List Arrival) (messages : List Incoming) (decider : Decider)
    → Upcoming files terms arrivals more messages decider → AreLookedUp files tariff more (map (front_value files tariff) messages)
all_looked_up files terms tariff arrivals more messages decider up =
    looked_up_are files tariff tariff more messages (map (front_value files tariff) messages) refl up.are refl

pub next_of : {X : Type 0} (files : List File) (terms : Terms) (tariff : Tariff) (messages : List Incoming) (old now : Decider) (rest after : List Incoming) (pending_replies : List (PendingReply X)) (k : ℕ)
    (arrivals more : List Arrival) (message : Incoming) → SettledOf files terms tariff messages old now rest pending_replies k → rest ≡ message ∷ after
    → Upcoming files terms arrivals more messages old → length arrivals + length more ≤ 536870912 → Next files terms now message
next_of files terms tariff messages old now rest after pending_replies k arrivals more message settled steps up few =
    (next_is files terms tariff (map (front_value files tariff) messages) old now (map (front_value files tariff) rest) (map (front_value files tariff) after) pending_replies k arrivals more
    (front_value files tariff message) settled (ap (map (front_value files tariff)) steps) up.stands (all_looked_up files terms tariff arrivals more messages old up) up.timely few).0

pub settled_next : {X : Type 0} (files : List File) (terms : Terms) (tariff : Tariff) (messages : List Incoming) (old now next : Decider) (rest after : List Incoming) (pending_replies : List (PendingReply X)) (t : PendingReply X) (k : ℕ)
    (message : Incoming) → SettledOf files terms tariff messages old now rest pending_replies k → rest ≡ message ∷ after
    → ((arrivals : List Arrival) (a : Arrival) → DeciderAfter files terms arrivals now → incoming_of a ≡ message → DeciderAfter files terms (arrivals ++ a ∷ []) next)
    → ((arrivals : List Arrival) (a : Arrival) → DeciderAfter files terms arrivals now → incoming_of a ≡ message → slip_of_pending t ≡ slip_of files terms now.start (handled_next files terms arrivals a))
    → is_back files (Pending t) ≡ true → SameCapture now next
    → SettledOf files terms tariff messages old next after (pending_replies ++ t ∷ []) (k + 1)
settled_next files terms tariff messages old now next rest after pending_replies t k message settled steps stands slip ready same =
    settled_more files terms tariff (map (front_value files tariff) messages) old now next (map (front_value files tariff) rest) (map (front_value files tariff) after) pending_replies t k
    (front_value files tariff message) settled (ap (map (front_value files tariff)) steps) stands slip ready same

pub settled_whole : {X : Type 0} (files : List File) (terms : Terms) (tariff : Tariff) (messages : List Incoming) (old now : Decider) (rest : List Incoming) (pending_replies : List (PendingReply X)) (k : ℕ) (arrivals more : List Arrival)
    → SettledOf files terms tariff messages old now rest pending_replies k → rest ≡ [] → Upcoming files terms arrivals more messages old → take k more ≡ more
settled_whole files terms tariff messages old now rest pending_replies k arrivals more settled none up =
    settled_last files terms tariff (map (front_value files tariff) messages) old now (map (front_value files tariff) rest) pending_replies k more settled
    (ap (map (front_value files tariff)) none) (all_looked_up files terms tariff arrivals more messages old up)

-- ---- answered

-- each by itself
abbrev pub singles : {A : Type 0} → List A → List (List A)
singles xs = map (λ x. x ∷ []) xs

all_singles : {A : Type 0} (xs : List A) → all_of (singles xs) ≡ xs
all_singles [] = refl
all_singles (x ∷ xs) = ap (λ ys. x ∷ ys) (all_singles xs)

-- these replies are written, and the others follow them
abbrev pub AnsweredOf : {X : Type 0} → List File → List (PendingReply X) → Option (List ℕ) → Option (List ℕ) → List (PendingReply X) → Type 0
AnsweredOf files pending_replies old now rest = Answered files pending_replies old now (singles rest)

pub each_none : {X : Type 0} (files : List File) (pending_replies : List (PendingReply X)) (old : Option (List ℕ)) (rest : List (PendingReply X)) → rest ≡ pending_replies → AnsweredOf files pending_replies old old rest
each_none files pending_replies old rest e = answered_none files pending_replies old (singles rest) (all_singles rest ∙ e)

one_record : {X : Type 0} (files : List File) (t : PendingReply X) → records_of files (t ∷ []) ≡ record_text (reply_to files (slip_of_pending t))
one_record files t = append-nil (record_text (reply_to files (slip_of_pending t)))

pub each_more : {X : Type 0} (files : List File) (pending_replies : List (PendingReply X)) (t : PendingReply X) (old now new : Option (List ℕ)) (rest others : List (PendingReply X))
    → AnsweredOf files pending_replies old now rest → rest ≡ t ∷ others → Appends now new (record_text (reply_to files (slip_of_pending t))) → AnsweredOf files pending_replies old new others
each_more files pending_replies t old now new rest others a steps one =
    answered_more files pending_replies (t ∷ []) old now new (singles rest) (singles others) a (ap singles steps) (subst (λ xs. Appends now new xs) (sym (one_record files t)) one)

pub each_part : {X : Type 0} (files : List File) (pending_replies : List (PendingReply X)) (t : PendingReply X) (old now new : Option (List ℕ)) (rest others : List (PendingReply X))
    → AnsweredOf files pending_replies old now rest → rest ≡ t ∷ others → AppendsPrefix now new (record_text (reply_to files (slip_of_pending t))) → AppendsPrefix old new (records_of files pending_replies)
each_part files pending_replies t old now new rest others a steps one =
    answered_part files pending_replies (t ∷ []) old now new (singles rest) (singles others) a (ap singles steps) (subst (λ xs. AppendsPrefix now new xs) (sym (one_record files t)) one)

pub each_all : {X : Type 0} (files : List File) (pending_replies : List (PendingReply X)) (old now : Option (List ℕ)) (rest : List (PendingReply X))
    → AnsweredOf files pending_replies old now rest → rest ≡ [] → Appends old now (records_of files pending_replies)
each_all files pending_replies old now rest a none = answered_all files pending_replies old now (singles rest) a (ap singles none)

pub each_ready : {X : Type 0} (p : PendingReply X → Bool) (files : List File) (pending_replies : List (PendingReply X)) (t : PendingReply X) (old now : Option (List ℕ)) (rest others : List (PendingReply X))
    → AnsweredOf files pending_replies old now rest → rest ≡ t ∷ others → list_all p pending_replies ≡ true → p t ≡ true
each_ready p files pending_replies t old now rest others a steps ready =
    alone (p t) (group_ready p files pending_replies (t ∷ []) old now (singles rest) (singles others) a (ap singles steps) ready)
  where
    alone : (b : Bool) → (b && true) ≡ true → b ≡ true
    alone true e = refl
    alone false e = e
