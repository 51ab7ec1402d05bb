-- No token has a key twice among what is kept.
use Rattle.std.proofs.Common.{◌≡◌, ℕ, Bool, true, false, cond, ◌&&◌, not, List, [], ◌∷◌, ◌++◌, filter, None, is_some, refl, sym, ap, ◌∙◌, subst, append-nil, bytes_eq, ◌==◌}
use Rattle.std.proofs.lemmas.Bool.{and_parts, or_parts, or_from, not-true, false_from_ne_true}
use Rattle.std.proofs.lemmas.List.Elements.{filter-append}
use Rattle.std.specs.List.{list_any}
use Rattle.base_values.specs.declared.answer.Response.{Response}
use Rattle.model_commands.specs.declared.replies.Reply.{Reply}
use Rattle.office_deliveries.specs.declared.arrival.Arrival.{Arrival}
use Rattle.model_answers.specs.declared.kept.Kept.{Kept}
use Rattle.office_deliveries.specs.Deliveries.{is_write, request_done, repeats, Delivery, Opening, First, is_repeat, is_first, with_next, firsts_after, firsts, held_for, office, answers_kept}
use Rattle.model_answers.specs.KeptAnswers.{has_key, lasts, same_key, AreOneForEachKey}
use Rattle.model_answers.specs.ShopView.{with_kept}
use Rattle.office_deliveries.specs.Shops.{moment_of, own, shop_after}
use Rattle.model_answers.proofs.Lists.{some-find}
use Rattle.office_deliveries.proofs.Runs.{AreTimed, timed-next}
use Rattle.office_deliveries.proofs.Again.{none-from}
use Rattle.office_deliveries.proofs.Repeats.{repeats-from, repeat-is}
use Rattle.office_deliveries.proofs.Stood.{first_of, found-same, kept-next}

any-of-filter : (q p : Kept → Bool) (ks : List Kept) → list_any p ks ≡ false → list_any p (filter q ks) ≡ false
any-of-filter q p [] none = refl
any-of-filter q p (k ∷ ks) none =
    let x = or_parts (p k) (list_any p ks) none in
    elim (q k) as (λ b. list_any p (cond b (k ∷ filter q ks) (filter q ks)) ≡ false) [
      | true ↦ or_from (p k) (list_any p (filter q ks)) x.0 (any-of-filter q p ks x.1)
      | false ↦ any-of-filter q p ks x.1
    ]

one-filter : (q : Kept → Bool) (ks : List Kept) → AreOneForEachKey ks → AreOneForEachKey (filter q ks)
one-filter q [] one = tt
one-filter q (k ∷ ks) (here, one) = elim (q k) as (λ b. AreOneForEachKey (cond b (k ∷ filter q ks) (filter q ks))) [
  | true ↦ (any-of-filter q (same_key k) ks here, one-filter q ks one)
  | false ↦ one-filter q ks one
]

any-more : (p : Kept → Bool) (ks : List Kept) (k : Kept) → list_any p ks ≡ false → p k ≡ false → list_any p (ks ++ k ∷ []) ≡ false
any-more p [] k none e = or_from (p k) false e refl
any-more p (j ∷ ks) k none e = let x = or_parts (p j) (list_any p ks) none in or_from (p j) (list_any p (ks ++ k ∷ [])) x.0 (any-more p ks k x.1 e)

one-more : (ks : List Kept) (k : Kept) → AreOneForEachKey ks → list_any (λ j. same_key j k) ks ≡ false → AreOneForEachKey (ks ++ k ∷ [])
one-more [] k one none = (refl, tt)
one-more (j ∷ ks) k (here, one) none =
    let x = or_parts (same_key j k) (list_any (λ i. same_key i k) ks) none in
    (any-more (same_key j) ks k here x.0, one-more ks k one x.1)

-- what isn't past has not the key of an arrival that is no repeat
lasting-free : (a : Arrival) (n : ℕ) (told : Response) (ks : List Kept) → has_key a.key ≡ true → list_any (λ k. repeats a n k.token k.key k.at) ks ≡ false
    → list_any (λ j. same_key j (record { token = a.token; key = a.key; at = n; response = told })) (filter (λ k. lasts n k.at) ks) ≡ false
lasting-free a n told [] has free = refl
lasting-free a n told (k ∷ ks) has free =
    let row : Kept = record { token = a.token; key = a.key; at = n; response = told } in
    let x = or_parts (repeats a n k.token k.key k.at) (list_any (λ k. repeats a n k.token k.key k.at) ks) free in
    let rest = lasting-free a n told ks has x.1 in
    elim (lasts n k.at) as (λ b. lasts n k.at ≡ b → list_any (λ j. same_key j row) (cond b (k ∷ filter (λ k. lasts n k.at) ks) (filter (λ k. lasts n k.at) ks)) ≡ false) [
      | true ↦ λ lasting. or_from (same_key k row) (list_any (λ j. same_key j row) (filter (λ k. lasts n k.at) ks))
          (false_from_ne_true (same_key k row) (λ e.
          let same = and_parts (k.token == a.token) (bytes_eq k.key a.key) e in
          let hit = repeats-from a n k.token k.key k.at (record { keyed = has; token_is = same.0; key_is = same.1; lasting = lasting }) in
          let both : true ≡ false = sym hit ∙ x.0 in cc))
          rest
      | false ↦ λ past. rest
    ] refl

-- an executed write's own answer has no key that is still kept
pub one-next : (a : Arrival) (n : ℕ) (told : Response) (ks : List Kept) → AreOneForEachKey ks → held_for a n ks ≡ None → AreOneForEachKey (with_kept n ks (own a n told))
one-next a n told ks one none =
    let row : Kept = record { token = a.token; key = a.key; at = n; response = told } in
    let q : Kept → Bool = λ k. lasts n k.at in
    let left = one-filter q ks one in
    let free : list_any (λ k. repeats a n k.token k.key k.at) ks ≡ false = sym (some-find (λ (k : Kept). repeats a n k.token k.key k.at) ks) ∙ ap is_some none in
    let unkeyed : AreOneForEachKey (filter q ks ++ filter q []) = subst AreOneForEachKey (sym (append-nil (filter q ks))) left in
    subst AreOneForEachKey (sym (filter-append q ks (own a n told)))
    (elim (has_key a.key) as (λ b. has_key a.key ≡ b → AreOneForEachKey (filter q ks ++ filter q (cond b (row ∷ []) []))) [
      | true ↦ λ has. elim (q row) as (λ c. AreOneForEachKey (filter q ks ++ cond c (row ∷ []) [])) [
        | true ↦ one-more (filter q ks) row left (lasting-free a n told ks has free)
        | false ↦ unkeyed
      ]
      | false ↦ λ has. unkeyed
    ] refl)

one-step : (words : Reply → Response) (p : Opening) (fs : List First) (d : Delivery) → AreTimed p.state.moment fs → AreOneForEachKey (answers_kept words p fs) → AreOneForEachKey (answers_kept words p (with_next p fs d))
one-step words p fs d timed one =
    let a = d.arrival in
    elim (is_first p fs d) as (λ b. is_first p fs d ≡ b → AreOneForEachKey (answers_kept words p (cond b (fs ++ first_of p fs a ∷ []) fs))) [
      | true ↦ λ first.
          let x = and_parts (is_write a.request && not d.unavailable) (not (is_repeat p fs a)) first in
          let write = (and_parts (is_write a.request) (not d.unavailable) x.0).0 in
          let none : held_for a (moment_of (shop_after words p fs) a) (answers_kept words p fs) ≡ None =
          none-from (held_for a (moment_of (shop_after words p fs) a) (answers_kept words p fs)) (ap is_some (found-same words p fs timed a) ∙ (sym (repeat-is words p fs a) ∙ not-true (is_repeat p fs a) x.1)) in
          subst AreOneForEachKey (kept-next words p fs timed a write)
          (one-next a (moment_of (shop_after words p fs) a) (request_done words a.request (moment_of (shop_after words p fs) a) a.draw (office words p fs)).1 (answers_kept words p fs) one none)
      | false ↦ λ first. one
    ] refl

one-after : (words : Reply → Response) (p : Opening) (fs : List First) (ds : List Delivery) → AreTimed p.state.moment fs → AreOneForEachKey (answers_kept words p fs) → AreOneForEachKey (answers_kept words p (firsts_after p fs ds))
one-after words p fs [] timed one = one
one-after words p fs (d ∷ ds) timed one = one-after words p (with_next p fs d) ds (timed-next p fs d timed) (one-step words p fs d timed one)

pub one_each : (words : Reply → Response) (p : Opening) (ds : List Delivery) → AreOneForEachKey p.kept → AreOneForEachKey (answers_kept words p (firsts p ds))
one_each words p ds one =
    one-after words p [] ds tt (one-filter (λ k. lasts p.state.moment k.at) (p.kept ++ []) (subst AreOneForEachKey (sym (append-nil p.kept)) one))
