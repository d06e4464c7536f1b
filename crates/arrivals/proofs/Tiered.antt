-- The tiers of the connections that numbers name, record by record.
use Rattle.std.proofs.Common.{◌≡◌, ◌≢◌, ℕ, ◌+◌, ◌*◌, ◌==◌, cond, inl, inr, List, [], ◌∷◌, ◌++◌, flat_map, All, refl, sym, ap, ◌∙◌, subst}
use Rattle.std.specs.Prelude.{if◌then◌else◌, Result, Ok, Err, OnOk, OnErr}
use Rattle.std.proofs.lemmas.Bool.Decides.{eqb_tells}
use Rattle.std.proofs.lemmas.List.Elements.{All-head, All-tail, All-nil, All-push}
use Rattle.captures.specs.declared.record.Record.{Record}
use Rattle.captures.specs.declared.record.Record.TheVariants.{Piece, End, Tier}
use Rattle.captures.specs.declared.version.Version.{Version}
use Rattle.captures.specs.Reference.{IsRecord, connection_of, connection_now, last_of, tier_set, tier_of, used_once}
use Rattle.captures.proofs.Lives.{is_low, ends_of, apart, same_connection, next_connection, once_push, unnamed}
use Rattle.captures.proofs.Tiers.{tier_of_piece, tier_of_end, tier_of_tier}
use Rattle.arrivals.specs.Connections.{HaveNumbers, IsNumber, tier_now, AreTiers, tier_at, with_tier}

same_test : (c conn : ℕ) (records : List Record) → IsNumber c → IsNumber conn → (connection_now conn records == connection_now c records) ≡ (conn == c)
same_test c conn records lc low = elim (eqb_tells conn c) [
  | inl same ↦ elim (eqb_tells (connection_now conn records) (connection_now c records)) [
    | inl k ↦ k.0 ∙ sym same.0
    | inr k ↦ absurd (k.1 (ap (λ d. connection_now d records) same.1))
  ]
  | inr other ↦ elim (eqb_tells (connection_now conn records) (connection_now c records)) [
    | inl k ↦ absurd (other.1 (apart conn c (ends_of conn records) (ends_of c records) low lc k.1))
    | inr k ↦ k.0 ∙ sym other.0
  ]
]

-- a connection that no record names has no tier
no_tier : (c : ℕ) (records : List Record) → All (λ r. connection_of r ≢ c) records → flat_map (tier_set c) records ≡ []
no_tier c [] all = refl
no_tier c (Piece tick conn bytes ∷ records) all = no_tier c records (All-tail (λ r. connection_of r ≢ c) (Piece tick conn bytes) records all)
no_tier c (End tick conn ∷ records) all = no_tier c records (All-tail (λ r. connection_of r ≢ c) (End tick conn) records all)
no_tier c (Tier conn tier ∷ records) all = elim (eqb_tells conn c) [
  | inl same ↦ absurd (All-head (λ r. connection_of r ≢ c) (Tier conn tier) records all same.1)
  | inr other ↦ rw other.0 (no_tier c records (All-tail (λ r. connection_of r ≢ c) (Tier conn tier) records all))
]

pub now_piece : (c tick conn : ℕ) (bytes : List ℕ) (records : List Record) → tier_now c (records ++ Piece tick conn bytes ∷ []) ≡ tier_now c records
now_piece c tick conn bytes records =
    ap (λ d. tier_of d (used_once (records ++ Piece tick conn bytes ∷ []))) (same_connection c records (Piece tick conn bytes) refl)
    ∙ ap (tier_of (connection_now c records)) (once_push records (Piece tick conn bytes))
    ∙ tier_of_piece (connection_now c records) (used_once records) tick (connection_now conn records) bytes

pub now_end : (c tick conn : ℕ) (records : List Record) → HaveNumbers records → IsNumber c → tier_now c (records ++ End tick conn ∷ []) ≡ (if conn == c then 0 else tier_now c records)
now_end c tick conn records numbers low = elim (eqb_tells conn c) [
  | inl same ↦ rw same.0 (own same.1)
  | inr other ↦ rw other.0 (
      ap (λ d. tier_of d (used_once (records ++ End tick conn ∷ []))) (same_connection c records (End tick conn) other.0) ∙ text (connection_now c records))
]
  where
    text : (d : ℕ) → tier_of d (used_once (records ++ End tick conn ∷ [])) ≡ tier_of d (used_once records)
    text d = ap (tier_of d) (once_push records (End tick conn)) ∙ tier_of_end d (used_once records) tick (connection_now conn records)

    own : conn ≡ c → tier_now c (records ++ End tick conn ∷ []) ≡ 0
    own same =
        let next = c + 65536 * (ends_of c records + 1) in
        let named : connection_now c (records ++ End tick conn ∷ []) ≡ next = ap (λ d. connection_now c (records ++ End tick d ∷ [])) same ∙ next_connection c tick records in
        ap (λ d. tier_of d (used_once (records ++ End tick conn ∷ []))) named ∙ text next ∙ ap last_of (no_tier next (used_once records) (unnamed c records low numbers))

pub now_tier : (c conn tier : ℕ) (records : List Record) → IsNumber c → IsNumber conn → tier_now c (records ++ Tier conn tier ∷ []) ≡ (if conn == c then tier else tier_now c records)
now_tier c conn tier records lc low =
    ap (λ d. tier_of d (used_once (records ++ Tier conn tier ∷ []))) (same_connection c records (Tier conn tier) refl)
    ∙ ap (tier_of (connection_now c records)) (once_push records (Tier conn tier))
    ∙ tier_of_tier (connection_now c records) (used_once records) (connection_now conn records) tier
    ∙ ap (λ b. cond b tier (tier_now c records)) (same_test c conn records lc low)

-- ---- what is kept of them

-- a record within the limits has such a number
pub number_in : (v : Version) (r q : Record) → r ≡ q → IsRecord v r → IsNumber (connection_of q)
number_in v r q is h = subst (λ (x : Record). IsNumber (connection_of x)) is (is_low v r h)

pub tiers_none : (tiers : List ℕ) → tiers ≡ [] → AreTiers [] tiers
tiers_none tiers none = record { numbers = All-nil (λ (r : Record). IsNumber (connection_of r)); each = λ c low. rw none refl }

pub tiers_piece : (tick conn : ℕ) (bytes : List ℕ) (r : Record) (records : List Record) (tiers : List ℕ) → r ≡ Piece tick conn bytes → IsNumber conn → AreTiers records tiers → AreTiers (records ++ r ∷ []) tiers
tiers_piece tick conn bytes r records tiers is low are = rw is (record {
  numbers = All-push (λ (r : Record). IsNumber (connection_of r)) records (Piece tick conn bytes) are.numbers low;
  each = λ c own. are.each c own ∙ sym (now_piece c tick conn bytes records);
})

pub tiers_end : (tick conn : ℕ) (r : Record) (records : List Record) (old new : List ℕ) → r ≡ End tick conn → IsNumber conn → ((c : ℕ) → tier_at new c ≡ with_tier conn 0 (tier_at old) c)
    → AreTiers records old → AreTiers (records ++ r ∷ []) new
tiers_end tick conn r records old new is low given are = rw is (record {
  numbers = All-push (λ (r : Record). IsNumber (connection_of r)) records (End tick conn) are.numbers low;
  each = λ c own. given c ∙ ap (λ t. if conn == c then 0 else t) (are.each c own) ∙ sym (now_end c tick conn records are.numbers own);
})

pub tiers_tier : (conn tier : ℕ) (r : Record) (records : List Record) (old new : List ℕ) → r ≡ Tier conn tier → IsNumber conn → ((c : ℕ) → tier_at new c ≡ with_tier conn tier (tier_at old) c)
    → AreTiers records old → AreTiers (records ++ r ∷ []) new
tiers_tier conn tier r records old new is low given are = rw is (record {
  numbers = All-push (λ (r : Record). IsNumber (connection_of r)) records (Tier conn tier) are.numbers low;
  each = λ c own. given c ∙ ap (λ t. if conn == c then tier else t) (are.each c own) ∙ sym (now_tier c conn tier records own low);
})

-- what follows where a call succeeds
pub on_ok : {T E : Type 0} {A B : Type 0} (r : Result T E) → (A → B) → OnOk r A → OnOk r B
on_ok (Ok x) f a = f a
on_ok (Err e) f a = tt

pub always_on_err : {T E : Type 0} {B : Type 0} (r : Result T E) → B → OnErr r B
always_on_err (Ok x) b = tt
always_on_err (Err e) b = b
