-- The requests of a tier on one server.
use Rattle.std.proofs.Common.{◌≡◌, ℕ, ◌+◌, ◌-◌, ◌*◌, ◌<◌, ◌≤◌, List, [], ◌∷◌, ◌++◌, map, Bool, true, false, cond, refl, sym, ◌∙◌, ap, arith, append-nil, nat_le, slice_index_or, inl, inr}
use Rattle.std.specs.List.{prefix_len}
use Rattle.std.proofs.lemmas.Bool.{le-leb, lt-leb, cases_lt, cases_eq}
use Rattle.std.proofs.lemmas.List.{map-append}
use Rattle.std.proofs.lemmas.List.Sums.{sum_by-cons}
use Rattle.token_bucket.specs.Reference.{TOKEN}
use Rattle.admission.specs.Reference.{Station, rules_of, Offer, Decided, Served, of_tier, servers_of, served, of_pool, finishes, completion, done, insert_complete, by_completion, free_at, finish_after, finish_in, credit, decided_next, decided_from, decided}
use Rattle.admission.specs.Servers.{HaveNoDelay, OneServerInOrder}
use Rattle.admission.proofs.RequestLemmas.{served-push, of_tier-same, of_tier-other, of_tier-none}
use Rattle.admission.specs.Pools.{AreOfPool}
use Rattle.admission.specs.After.{RisesTo}
use Rattle.admission.proofs.QueueLemmas.{rises-push, rises-widen}
use Rattle.admission.proofs.PoolLemmas.{Chosen, finish_alone, all_none, all_next}
use Rattle.admission.proofs.TurnLemmas.{Next, one_push}

-- ---- the finishes of a tier

finishes-push : (requests : List Served) (request : Served) → finishes (requests ++ request ∷ []) ≡ finishes requests ++ request.finish ∷ []
finishes-push requests request = map-append (λ (r : Served). r.finish) requests (request ∷ [])

abbrev OwnRise : ℕ → List Decided → Type 0
OwnRise tier past = RisesTo 0 (free_at 1 (served past)) (finishes (served (of_tier tier past)))

later : (requests : List Served) (offer : Offer) → free_at 1 requests ≤ finish_after 1 requests offer
later requests offer = omega arith

own_chosen : (tier : ℕ) (past : List Decided) (offer : Offer) (b : Bool) → OwnRise tier past
    → OwnRise tier (past ++ Chosen offer (finish_after 1 (served past) offer) b ∷ [])
own_chosen tier past offer true rise =
    let finish : ℕ = finish_after 1 (served past) offer in
    let request : Decided = Chosen offer finish true in
    let all : served (past ++ request ∷ []) ≡ served past ++ Next 1 (served past) offer ∷ [] = served-push past request in
    elim (cases_eq offer.tier tier) [
      | inl same ↦
          let own : served (of_tier tier past ++ request ∷ []) ≡ served (of_tier tier past) ++ Next 1 (served past) offer ∷ [] =
          served-push (of_tier tier past) request in
          rw (of_tier-same tier past request same, own, all, one_push (served past) offer, finishes-push (served (of_tier tier past)) (Next 1 (served past) offer))
          (rises-push 0 (free_at 1 (served past)) finish (finishes (served (of_tier tier past))) rise (later (served past) offer))
      | inr apart ↦
          rw (of_tier-other tier past request apart, all, one_push (served past) offer)
          (rises-widen 0 (free_at 1 (served past)) finish (finishes (served (of_tier tier past))) rise (later (served past) offer))
    ]
own_chosen tier past offer false rise =
    let request : Decided = Chosen offer (finish_after 1 (served past) offer) false in
    let all : served (past ++ request ∷ []) ≡ served past = served-push past request ∙ append-nil (served past) in
    elim (cases_eq offer.tier tier) [
      | inl same ↦
          let own : served (of_tier tier past ++ request ∷ []) ≡ served (of_tier tier past) =
          served-push (of_tier tier past) request ∙ append-nil (served (of_tier tier past)) in
          rw (of_tier-same tier past request same, own, all) rise
      | inr apart ↦ rw (of_tier-other tier past request apart, all) rise
    ]

own_from : (station : Station) (pool tier : ℕ) (past : List Decided) (offers : List Offer) → servers_of station pool ≡ 1
    → AreOfPool pool offers → of_pool pool (served past) ≡ served past → OwnRise tier past
    → OwnRise tier (decided_from station past offers)
unfolding decided_from AreOfPool
own_from station pool tier past [] one of all rise = rise
own_from station pool tier past (offer ∷ offers) one of all rise =
    let chosen : Bool = nat_le TOKEN (credit (rules_of station offer.tier) (of_tier offer.tier past) offer.tick) in
    let finish : finish_in station (served past) offer ≡ finish_after 1 (served past) offer =
    finish_alone station pool (served past) offer of.0 all ∙ ap (λ n. finish_after n (served past) offer) one in
    let next : OwnRise tier (past ++ decided_next station past offer ∷ []) =
    rw finish (own_chosen tier past offer chosen rise) in
    own_from station pool tier (past ++ decided_next station past offer ∷ []) offers one of.1
    (all_next station pool past offer of.0 all) next

own_none : (tier : ℕ) → OwnRise tier []
unfolding served RisesTo
own_none tier = rw (of_tier-none tier) (omega arith)

-- ---- no delay

-- none of these requests has a delay
unfoldable NoDelay : List Served → Type 0
NoDelay [] = Unit {0}
NoDelay (request ∷ requests) = (request.offer.delay ≡ 0) × NoDelay requests

delay-push : (requests : List Served) (request : Served) → NoDelay requests → request.offer.delay ≡ 0 → NoDelay (requests ++ request ∷ [])
unfolding NoDelay
delay-push [] request none zero_delay = (zero_delay, tt)
delay-push (first ∷ requests) request none zero_delay = (none.0, delay-push requests request none.1 zero_delay)

delay_chosen : (own : List Decided) (offer : Offer) (finish : ℕ) (b : Bool) → NoDelay (served own) → offer.delay ≡ 0
    → NoDelay (served (own ++ Chosen offer finish b ∷ []))
delay_chosen own offer finish true none zero_delay =
    rw (served-push own (Chosen offer finish true)) (delay-push (served own) (record { offer = offer; finish = finish }) none zero_delay)
delay_chosen own offer finish false none zero_delay = rw (served-push own (Chosen offer finish false), append-nil (served own)) none

delay_from : (station : Station) (tier : ℕ) (past : List Decided) (offers : List Offer) → HaveNoDelay offers
    → NoDelay (served (of_tier tier past)) → NoDelay (served (of_tier tier (decided_from station past offers)))
unfolding decided_from HaveNoDelay
delay_from station tier past [] zero_delay none = none
delay_from station tier past (offer ∷ offers) zero_delay none =
    let chosen : Bool = nat_le TOKEN (credit (rules_of station offer.tier) (of_tier offer.tier past) offer.tick) in
    let finish : ℕ = finish_in station (served past) offer in
    let next : NoDelay (served (of_tier tier (past ++ decided_next station past offer ∷ []))) =
    elim (cases_eq offer.tier tier) [
      | inl same ↦
          rw (of_tier-same tier past (decided_next station past offer) same)
          (delay_chosen (of_tier tier past) offer finish chosen none zero_delay.0)
      | inr apart ↦ rw (of_tier-other tier past (decided_next station past offer) apart) none
    ] in
    delay_from station tier (past ++ decided_next station past offer ∷ []) offers zero_delay.1 next

delay_none : (tier : ℕ) → NoDelay (served (of_tier tier []))
unfolding served NoDelay
delay_none tier = rw (of_tier-none tier) tt

completions_are : (requests : List Served) → NoDelay requests → map completion requests ≡ finishes requests
unfolding NoDelay
completions_are [] none = refl
completions_are (request ∷ requests) none =
    let own : completion request ≡ request.finish = omega (arith, none.0) in
    rw (own, completions_are requests none.1) refl

-- ---- what follows for controls

first-stays : (x : Served) (requests : List Served) (hi : ℕ) → RisesTo (completion x) hi (map completion requests)
    → insert_complete x requests ≡ x ∷ requests
unfolding insert_complete RisesTo
first-stays x [] hi rises = refl
first-stays x (y ∷ requests) hi rises = rw (le-leb (completion x) (completion y) rises.0) refl

order_stays : (lo hi : ℕ) (requests : List Served) → RisesTo lo hi (map completion requests) → by_completion requests ≡ requests
unfolding by_completion RisesTo
order_stays lo hi [] rises = refl
order_stays lo hi (x ∷ requests) rises =
    rw (order_stays (completion x) hi requests rises.1) (first-stays x requests hi rises.1)

upto-yes : (u x : ℕ) (xs : List ℕ) → x ≤ u → prefix_len (λ y. nat_le y u) (x ∷ xs) ≡ 1 + prefix_len (λ y. nat_le y u) xs
upto-yes u x xs le = rw (le-leb x u le) refl

upto-none : (u x : ℕ) (xs : List ℕ) → u < x → prefix_len (λ y. nat_le y u) (x ∷ xs) ≡ 0
upto-none u x xs lt = rw (lt-leb x u lt) refl

done-cons : (u : ℕ) (x : Served) (requests : List Served) → done (x ∷ requests) u ≡ cond (nat_le (completion x) u) 1 0 + done requests u
done-cons u x requests = sum_by-cons (λ (r : Served). cond (nat_le (completion r) u) 1 0) x requests

none-above : (u lo hi : ℕ) (requests : List Served) → RisesTo lo hi (map completion requests) → u < lo → done requests u ≡ 0
unfolding RisesTo
none-above u lo hi [] rises above = refl
none-above u lo hi (x ∷ requests) rises above =
    done-cons u x requests
    ∙ rw (lt-leb (completion x) u (omega (arith, rises.0)), none-above u (completion x) hi requests rises.1 (omega (arith, rises.0))) refl

first_are_all : (u lo hi : ℕ) (requests : List Served) → RisesTo lo hi (map completion requests)
    → done requests u ≡ prefix_len (λ c. nat_le c u) (map completion requests)
unfolding RisesTo
first_are_all u lo hi [] rises = refl
first_are_all u lo hi (x ∷ requests) rises =
    elim (cases_lt u (completion x)) [
      | inl lt ↦
          done-cons u x requests
          ∙ rw (lt-leb (completion x) u lt, none-above u (completion x) hi requests rises.1 lt) refl
          ∙ sym (upto-none u (completion x) (map completion requests) lt)
      | inr le ↦
          done-cons u x requests
          ∙ rw (le-leb (completion x) u le) (ap (λ n. 1 + n) (first_are_all u (completion x) hi requests rises.1))
          ∙ sym (upto-yes u (completion x) (map completion requests) le)
    ]

pub one_server_in_order : OneServerInOrder
one_server_in_order station offers pool tier tick k one of zero_delay =
    let own : List Served = served (of_tier tier (decided station offers)) in
    let hi : ℕ = free_at 1 (served (decided station offers)) in
    let are : map completion own ≡ finishes own = completions_are own (delay_from station tier [] offers zero_delay (delay_none tier)) in
    let rise : RisesTo 0 hi (finishes own) = own_from station pool tier [] offers one of (all_none pool) (own_none tier) in
    let rises : RisesTo 0 hi (map completion own) = rw are rise in
    record {
      order = order_stays 0 hi own rises;
      complete = first_are_all tick 0 hi own rises ∙ ap (λ (fs : List ℕ). prefix_len (λ c. nat_le c tick) fs) are;
      instant = ap (λ (fs : List ℕ). slice_index_or fs (k * (rules_of station tier).every - 1) 0) are;
    }
