-- Secrets tell their positions, and so no two positions have one.
use Rattle.std.proofs.Common.{◌≡◌, ◌≢◌, ℕ, ◌+◌, ◌^◌, ◌<◌, ◌≤◌, ◌⊎◌, inl, inr, Bool, true, false, ◌&&◌, eqb, cond, List, [], ◌∷◌, ◌++◌, length, Option, Some, None, decimal, codes, nat_eq, append_assoc, refl, sym, ◌∙◌, subst, arith}
use Rattle.std.specs.Prelude.{is_some}
use Rattle.std.specs.List.{ends_with, AllByRecursion}
use Rattle.std.specs.Cmp.Lexicographic.{bytes_decides}
use Rattle.std.proofs.lemmas.Bool.Decides.{nat_tests, eqb_tells}
use Rattle.hex.specs.Hex.{encode_lower}
use Rattle.base_values.specs.declared.draw.Draw.{Draw}
use Rattle.base_values.specs.Secrets.{secret}
use Rattle.base_tables.specs.Tables.{row_at}
use Rattle.base_values.specs.Texts.{same_text}
use Rattle.model_rows.specs.declared.rows.Order.{Order}
use Rattle.model_rows.specs.declared.rows.OrderPos.{OrderPos}
use Rattle.model_rows.proofs.EachRow.{all_weaker, all-row_at, key-row_at, found_below}
use Rattle.model_invariant.specs.Changes.{same_place}
use Rattle.model_invariant.specs.Positions.{by_positionid, AreWhole, of_order, AllHavePositions, AreOfOrders}
use Rattle.model_invariant.specs.Shown.{AreOrdered}
use Rattle.model_invariant.specs.Secrets.{secret_ending, has_own_secret}
use Rattle.model_invariant.specs.Shown.{HaveUnlikeSecrets}
use Rattle.model_invariant.proofs.Apart.{AreApart}
use Rattle.model_invariant.proofs.ByNumber.{same_number, same_length, all_unsorted, counted_apart, counted_small, unsorted_apart}
use Rattle.model_invariant.proofs.Endings.{before_end, ends_own, ends_is, last_number}

-- the secret that is made of an order and a number ends in them
pub made_ends : (draw : Draw) (order number : ℕ) → ends_with nat_eq (secret draw order number) (secret_ending order number) ≡ true
unfolding secret
made_ends draw order number =
    let hex = encode_lower draw.bytes in
    let z = codes "z" in
    let regrouped : hex ++ secret_ending order number ≡ secret draw order number =
    sym (append_assoc (hex ++ z ++ decimal order) z (decimal number) ∙ append_assoc (hex ++ z) (decimal order) (z ++ decimal number) ∙ append_assoc hex z (decimal order ++ (z ++ decimal number))) in
    subst (λ (text : List ℕ). ends_with nat_eq text (secret_ending order number) ≡ true) regrouped (ends_own hex (secret_ending order number))

-- a text ends in one order and one number at most
module _ (text : List ℕ) (a b m n : ℕ) (la : a < 2 ^ 64) (lb : b < 2 ^ 64) (lm : m < 2 ^ 64) (ln : n < 2 ^ 64) where
  split : (order number : ℕ) → ends_with nat_eq text (secret_ending order number) ≡ true → (before_end text (secret_ending order number) ++ (122 ∷ decimal order)) ++ (122 ∷ decimal number) ≡ text
  split order number h = append_assoc (before_end text (secret_ending order number)) (122 ∷ decimal order) (122 ∷ decimal number) ∙ ends_is text (secret_ending order number) h

  pub one_place : ends_with nat_eq text (secret_ending a m) ≡ true → ends_with nat_eq text (secret_ending b n) ≡ true → (a ≡ b) × (m ≡ n)
  one_place ha hb =
      let front_a = before_end text (secret_ending a m) in
      let front_b = before_end text (secret_ending b n) in
      let last = last_number (front_a ++ (122 ∷ decimal a)) (front_b ++ (122 ∷ decimal b)) m n lm ln (split a m ha ∙ sym (split b n hb)) in ((last_number front_a front_b a b la lb last.0).1, last.1)

-- where each order's positions among these are numbered, no two of them have one place
module _ (orders : List Order) where
  abbrev Stands : ℕ → Type 0
  Stands order = is_some (row_at (λ (o : Order). o.id) order orders) ≡ true

  -- no two of an order's positions among the rows have one number, and none is above 500
  record Counts (order : ℕ) (rows : List OrderPos) : Type 0 where
    apart : AreApart same_number (of_order order rows)
    small : AllByRecursion (λ p. p.positionid ≤ 500) (of_order order rows)

  abbrev AllCount : List OrderPos → Type 0
  AllCount rows = (order : ℕ) → Stands order → Counts order rows

  all_count_rest : (p : OrderPos) (ps : List OrderPos) → AllCount (p ∷ ps) → AllCount ps
  all_count_rest p ps h order stands = by_order (eqb order p.order) c.apart c.small
    where
      c : Counts order (p ∷ ps)
      c = h order stands

      by_order : (b : Bool) → AreApart same_number (cond b (p ∷ of_order order ps) (of_order order ps)) → AllByRecursion (λ q. q.positionid ≤ 500) (cond b (p ∷ of_order order ps) (of_order order ps)) → Counts order ps
      by_order true apart small = record { apart = apart.1; small = small.1 }
      by_order false apart small = record { apart = apart; small = small }

  -- no other position of its order has the first one's number
  record First (p : OrderPos) (ps : List OrderPos) : Type 0 where
    small : p.positionid ≤ 500
    others : AllByRecursion (λ q. same_number p q ≡ false) (of_order p.order ps)

  first : (p : OrderPos) (ps : List OrderPos) → Counts p.order (p ∷ ps) → First p ps
  first p ps c = by_order (eqb p.order p.order) (grind (arith, nat_tests)) c.apart c.small
    where
      by_order : (b : Bool) → b ≡ true → AreApart same_number (cond b (p ∷ of_order p.order ps) (of_order p.order ps)) → AllByRecursion (λ q. q.positionid ≤ 500) (cond b (p ∷ of_order p.order ps) (of_order p.order ps)) → First p ps
      by_order true e apart small = record { small = small.0; others = apart.0 }
      by_order false e apart small = absurd (cc)

  all_small : (ps : List OrderPos) → AllByRecursion (λ p. Stands p.order) ps → AllCount ps → AllByRecursion (λ p. p.positionid ≤ 500) ps
  all_small [] stand h = tt
  all_small (p ∷ ps) stand h = ((first p ps (h p.order stand.0)).small, all_small ps stand.1 (all_count_rest p ps h))

  -- that goes for all positions, of whichever order
  other : (p : OrderPos) (order : ℕ) (ps : List OrderPos) → AllByRecursion (λ q. same_number p q ≡ false) (of_order order ps) → AllByRecursion (λ q. q.order ≡ order → p.positionid ≢ q.positionid) ps
  other p order [] h = tt
  other p order (q ∷ qs) h = by_order (eqb_tells order q.order) h (other p order qs)
    where
      by_order : ((eqb order q.order ≡ true) × (order ≡ q.order)) ⊎ ((eqb order q.order ≡ false) × (order ≢ q.order)) → AllByRecursion (λ r. same_number p r ≡ false) (cond (eqb order q.order) (q ∷ of_order order qs) (of_order order qs))
          → (AllByRecursion (λ r. same_number p r ≡ false) (of_order order qs) → AllByRecursion (λ r. r.order ≡ order → p.positionid ≢ r.positionid) qs) → AllByRecursion (λ r. r.order ≡ order → p.positionid ≢ r.positionid) (q ∷ qs)
      by_order (inl same) all more =
          let both : (same_number p q ≡ false) × AllByRecursion (λ r. same_number p r ≡ false) (of_order order qs) = rw same.0 at all in
          (λ e is. absurd (grind (arith, nat_tests, both.0, is)), more both.1)
      by_order (inr unlike) all more = (λ e. absurd (unlike.1 (sym e)), more (rw unlike.0 at all))

  -- what is known of a position
  record Known (p : OrderPos) : Type 0 where
    own : has_own_secret p ≡ true
    low : p.order < 2 ^ 64
    small : p.positionid ≤ 500

  differ : (p q : OrderPos) → Known p → Known q → (q.order ≡ p.order → p.positionid ≢ q.positionid) → (b : Bool) → same_text p.secret q.secret ≡ b → b ≡ false
  differ p q kp kq above true is =
      let same : p.secret ≡ q.secret = (bytes_decides p.secret q.secret).0 is in
      let place = one_place q.secret p.order q.order p.positionid q.positionid kp.low kq.low (omega (arith, kp.small)) (omega (arith, kq.small)) (subst (λ (text : List ℕ). ends_with nat_eq text (secret_ending p.order p.positionid) ≡ true) same kp.own) kq.own in
      absurd (above (sym place.0) place.1)
  differ p q kp kq above false is = refl

  differ_all : (p : OrderPos) → Known p → (qs : List OrderPos) → AllByRecursion Known qs → AllByRecursion (λ q. q.order ≡ p.order → p.positionid ≢ q.positionid) qs → AllByRecursion (λ q. same_text p.secret q.secret ≡ false) qs
  differ_all p kp [] known above = tt
  differ_all p kp (q ∷ qs) known above = (differ p q kp known.0 above.0 (same_text p.secret q.secret) refl, differ_all p kp qs known.1 above.1)

  all_differ : (ps : List OrderPos) → AllByRecursion Known ps → AllByRecursion (λ p. Stands p.order) ps → AllCount ps → HaveUnlikeSecrets ps
  all_differ [] known stand h = tt
  all_differ (p ∷ ps) known stand h =
      let f = first p ps (h p.order stand.0) in
      (differ_all p known.0 ps known.1 (other p p.order ps f.others), all_differ ps known.1 stand.1 (all_count_rest p ps h))

  -- an order that stands has its positions
  count_at : (positions : List OrderPos) → AllHavePositions orders positions → AllCount positions
  count_at positions whole order stands = by_found (row_at (λ (o : Order). o.id) order orders) refl stands
    where
      by_found : (found : Option Order) → row_at (λ (o : Order). o.id) order orders ≡ found → is_some found ≡ true → Counts order positions
      by_found None e s = absurd (cc)
      by_found (Some o) e s =
          let w = subst (λ (n : ℕ). AreWhole (of_order n positions)) (key-row_at (λ (o : Order). o.id) order orders o e) (all-row_at (λ (o : Order). o.id) (λ (o : Order). AreWhole (of_order o.id positions)) order orders o e whole) in
          let few = all_unsorted (λ p. p.positionid < 1 + length (by_positionid (of_order order positions))) (of_order order positions) (counted_small 1 (by_positionid (of_order order positions)) w.counted) in
          record {
            apart = unsorted_apart (of_order order positions) (counted_apart 1 (by_positionid (of_order order positions)) w.counted);
            small = all_weaker (λ p. p.positionid < 1 + length (by_positionid (of_order order positions))) (λ p. p.positionid ≤ 500) (λ p lt. omega (arith, lt, same_length (of_order order positions), w.few)) (of_order order positions) few;
          }

  low_at : (next order : ℕ) → next ≤ 2 ^ 64 → AllByRecursion (λ o. o.id < next) orders → Stands order → order < 2 ^ 64
  low_at next order limit below stands = by_found (row_at (λ (o : Order). o.id) order orders) refl stands
    where
      by_found : (found : Option Order) → row_at (λ (o : Order). o.id) order orders ≡ found → is_some found ≡ true → order < 2 ^ 64
      by_found None e s = absurd (cc)
      by_found (Some o) e s = omega (arith, limit, found_below (λ (o : Order). o.id) order next orders o e below)

  known_all : (next : ℕ) → next ≤ 2 ^ 64 → AllByRecursion (λ o. o.id < next) orders → (ps : List OrderPos) → AreOfOrders orders ps → AllByRecursion (λ p. p.positionid ≤ 500) ps → AllByRecursion Known ps
  known_all next limit below [] each small = tt
  known_all next limit below (p ∷ ps) each small = (
    record { own = each.secrets.0; low = low_at next p.order limit below each.stand.0; small = small.0 },
    known_all next limit below ps (record { stand = each.stand.1; secrets = each.secrets.1 }) small.1,
  )

  -- where secrets end in their positions' orders and numbers, and each order's positions are numbered
  pub secrets_unlike : (next : ℕ) (positions : List OrderPos) → next ≤ 2 ^ 64 → AllByRecursion (λ o. o.id < next) orders → AreOrdered orders positions → HaveUnlikeSecrets positions
  secrets_unlike next positions limit below h =
      let counts = count_at positions h.whole in
      all_differ positions (known_all next limit below positions h.each (all_small positions h.each.stand counts)) h.each.stand counts

  -- nor have two positions one number in one order
  other_place : (p q : OrderPos) → (q.order ≡ p.order → p.positionid ≢ q.positionid) → same_place p q ≡ false
  other_place p q above = by_order (eqb_tells p.order q.order) (eqb_tells p.positionid q.positionid)
    where
      by_order : ((eqb p.order q.order ≡ true) × (p.order ≡ q.order)) ⊎ ((eqb p.order q.order ≡ false) × (p.order ≢ q.order)) → ((eqb p.positionid q.positionid ≡ true) × (p.positionid ≡ q.positionid)) ⊎ ((eqb p.positionid q.positionid ≡ false) × (p.positionid ≢ q.positionid)) → (eqb p.order q.order && eqb p.positionid q.positionid) ≡ false
      by_order (inr other) number = rw other.0 refl
      by_order (inl same) (inr other) = rw (same.0, other.0) refl
      by_order (inl same) (inl number) = absurd (above (sym same.1) number.1)

  all_places : (ps : List OrderPos) → AllByRecursion (λ p. Stands p.order) ps → AllCount ps → AreApart same_place ps
  all_places [] stand h = tt
  all_places (p ∷ ps) stand h =
      let f = first p ps (h p.order stand.0) in
      (all_weaker (λ q. q.order ≡ p.order → p.positionid ≢ q.positionid) (λ q. same_place p q ≡ false) (λ q above. other_place p q above) ps (other p p.order ps f.others), all_places ps stand.1 (all_count_rest p ps h))

  pub places_apart : (positions : List OrderPos) → AreOrdered orders positions → AreApart same_place positions
  places_apart positions h = all_places positions h.each.stand (count_at positions h.whole)
