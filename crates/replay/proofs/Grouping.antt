-- Tickets that are answered a group at a time.
use Rattle.std.proofs.Common.{◌≡◌, ℕ, Bool, true, false, ◌&&◌, List, [], ◌∷◌, ◌++◌, map, Option, refl, sym, ap, ◌∙◌, append_assoc, append-nil}
use Rattle.std.specs.Prelude.{flat_map}
use Rattle.std.specs.List.{list_all}
use Rattle.std.specs.Io.KnownBytes.{Appends}
use Rattle.std.proofs.lemmas.List.{map-append}
use Rattle.std.proofs.lemmas.Grind.{flat_map-append}
use Rattle.devices.proofs.Appending.{appends_then, prefix_then, appends_none, prefix_first}
use Rattle.devices.specs.Devices.{AppendsPrefix}
use Rattle.paths.specs.declared.file.File.{File}
use Rattle.responses.specs.Reference.{record_text}
use Rattle.replay.specs.Backs.{slip_of_pending, reply_to}
use Rattle.replay.specs.Groups.{all_of, records_of}
use Rattle.replay.specs.declared.pending.PendingReply.{PendingReply}

-- these tickets are answered, and those of the other groups follow them
pub record Answered {X : Type 0} (files : List File) (pending_replies : List (PendingReply X)) (old now : Option (List ℕ)) (rest : List (List (PendingReply X))) : Type 0 where
  pub done : List (PendingReply X)
  pub are : pending_replies ≡ done ++ all_of rest
  pub written : Appends old now (records_of files done)

pub answered_none : {X : Type 0} (files : List File) (pending_replies : List (PendingReply X)) (old : Option (List ℕ)) (rest : List (List (PendingReply X))) → all_of rest ≡ pending_replies → Answered files pending_replies old old rest
answered_none files pending_replies old rest e = record { done = []; are = sym e; written = appends_none old }

records_more : {X : Type 0} (files : List File) (first more : List (PendingReply X)) → records_of files (first ++ more) ≡ records_of files first ++ records_of files more
records_more files first more =
    ap (flat_map record_text) (map-append (λ t. reply_to files (slip_of_pending t)) first more)
    ∙ flat_map-append record_text (map (λ t. reply_to files (slip_of_pending t)) first) (map (λ t. reply_to files (slip_of_pending t)) more)

-- the tickets, parted at a group
parted : {X : Type 0} (files : List File) (pending_replies group : List (PendingReply X)) (old now : Option (List ℕ)) (rest others : List (List (PendingReply X)))
    → (a : Answered files pending_replies old now rest) → rest ≡ group ∷ others → pending_replies ≡ (a.done ++ group) ++ all_of others
parted files pending_replies group old now rest others a steps = a.are ∙ ap (λ gs. a.done ++ all_of gs) steps ∙ sym (append_assoc a.done group (all_of others))

pub answered_more : {X : Type 0} (files : List File) (pending_replies group : List (PendingReply X)) (old now new : Option (List ℕ)) (rest others : List (List (PendingReply X)))
    → Answered files pending_replies old now rest → rest ≡ group ∷ others → Appends now new (records_of files group) → Answered files pending_replies old new others
answered_more files pending_replies group old now new rest others a steps one = record {
  done = a.done ++ group;
  are = parted files pending_replies group old now rest others a steps;
  written = rw (records_more files a.done group) (appends_then old now new (records_of files a.done) (records_of files group) a.written one);
}

pub answered_part : {X : Type 0} (files : List File) (pending_replies group : List (PendingReply X)) (old now new : Option (List ℕ)) (rest others : List (List (PendingReply X)))
    → Answered files pending_replies old now rest → rest ≡ group ∷ others → AppendsPrefix now new (records_of files group) → AppendsPrefix old new (records_of files pending_replies)
answered_part files pending_replies group old now new rest others a steps one =
    let all : records_of files pending_replies ≡ records_of files a.done ++ (records_of files group ++ records_of files (all_of others)) =
    ap (records_of files) (parted files pending_replies group old now rest others a steps) ∙ records_more files (a.done ++ group) (all_of others)
    ∙ ap (λ t. t ++ records_of files (all_of others)) (records_more files a.done group)
    ∙ append_assoc (records_of files a.done) (records_of files group) (records_of files (all_of others)) in
    rw all (prefix_then old now new (records_of files a.done) (records_of files group ++ records_of files (all_of others)) a.written
    (prefix_first now new (records_of files group) (records_of files (all_of others)) one))

pub answered_all : {X : Type 0} (files : List File) (pending_replies : List (PendingReply X)) (old now : Option (List ℕ)) (rest : List (List (PendingReply X)))
    → Answered files pending_replies old now rest → rest ≡ [] → Appends old now (records_of files pending_replies)
answered_all files pending_replies old now rest a none =
    let same : pending_replies ≡ a.done = a.are ∙ ap (λ gs. a.done ++ all_of gs) none ∙ append-nil a.done in
    rw same a.written

-- each group of tickets that can be answered can be
split_all : {A : Type 0} (p : A → Bool) (xs ys : List A) → list_all p (xs ++ ys) ≡ true → (list_all p xs ≡ true) × (list_all p ys ≡ true)
split_all p [] ys h = (refl, h)
split_all p (x ∷ xs) ys h = go (p x) (list_all p xs) (list_all p (xs ++ ys)) h (split_all p xs ys)
  where
    go : (b first all : Bool) → (b && all) ≡ true → (all ≡ true → (first ≡ true) × (list_all p ys ≡ true)) → ((b && first) ≡ true) × (list_all p ys ≡ true)
    go true first all h f = f h
    go false first all h f = absurd (let z : ⊥ = cc in z)

pub group_ready : {X : Type 0} (p : PendingReply X → Bool) (files : List File) (pending_replies group : List (PendingReply X)) (old now : Option (List ℕ)) (rest others : List (List (PendingReply X)))
    → Answered files pending_replies old now rest → rest ≡ group ∷ others → list_all p pending_replies ≡ true → list_all p group ≡ true
group_ready p files pending_replies group old now rest others a steps ready =
    let all : list_all p ((a.done ++ group) ++ all_of others) ≡ true = ap (list_all p) (sym (parted files pending_replies group old now rest others a steps)) ∙ ready in
    (split_all p a.done group (split_all p (a.done ++ group) (all_of others) all).0).1
