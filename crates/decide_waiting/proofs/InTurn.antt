-- The queue has those who wait, and each goes before all behind it.
use Rattle.std.proofs.Common.{◌≡◌, Bool, true, false, eqb, List, [], ◌∷◌, refl, sym, ap, ◌∙◌, arith}
use Rattle.std.specs.Prelude.{if◌then◌else◌}
use Rattle.std.specs.List.{AllByRecursion}
use Rattle.std.specs.List.Sorted.{IsPermutation, IsStrictlySortedBy}
use Rattle.std.specs.declared.cmp.Ordering.{Ordering}
use Rattle.std.specs.declared.cmp.Ordering.TheVariants.{Less, Equal, Greater}
use Rattle.std.specs.Ordering.{is_lt, nat_cmp, int_cmp, ordering_then, ordering_reverse}
use Rattle.std.proofs.lemmas.Bool.Decides.{nat_tests}
use Rattle.std.proofs.lemmas.Cmp.{ranked}
use Rattle.std.proofs.lemmas.List.Sorted.{IsPermutation-refl, IsPermutation-trans, IsPermutation-cons, IsPermutation-middle}
use Rattle.base_tables.specs.Tables.{AreInOrder}
use Rattle.model_rows.specs.declared.rows.Waiting.{Waiting}
use Rattle.model_rows.specs.Lists.{Lists}
use Rattle.model_rows.specs.Waits.{waiters}
use Rattle.decide_waiting.specs.Serving.{turn, goes_before, in_place, in_turn, queue}
use Rattle.decide_waiting.specs.Turns.{turn_of}
use Rattle.decide_waiting.proofs.Order.{InOrder, order_total, second_equal, turned_in_order}
use Rattle.decide_waiting.proofs.Queue.{AreApart, queue_apart}

-- an entry in its place, and so all of them
placed_permuted : (e : Waiting) (es : List Waiting) → IsPermutation (e ∷ es) (in_place e es)
placed_permuted e [] = IsPermutation-refl (e ∷ [])
placed_permuted e (x ∷ es) = by_turn (goes_before e x) (placed_permuted e es)
  where
    by_turn : (b : Bool) → IsPermutation (e ∷ es) (in_place e es) → IsPermutation (e ∷ x ∷ es) (if b then e ∷ x ∷ es else x ∷ in_place e es)
    by_turn true more = IsPermutation-refl (e ∷ x ∷ es)
    by_turn false more =
        IsPermutation-trans (e ∷ x ∷ es) (x ∷ e ∷ es) (x ∷ in_place e es)
        (IsPermutation-middle (e ∷ []) x es) (IsPermutation-cons x (e ∷ es) (in_place e es) more)

turned_permuted : (es : List Waiting) → IsPermutation es (in_turn es)
turned_permuted [] = IsPermutation-refl []
turned_permuted (e ∷ es) =
    IsPermutation-trans (e ∷ es) (e ∷ in_turn es) (in_place e (in_turn es))
    (IsPermutation-cons e es (in_turn es) (turned_permuted es)) (placed_permuted e (in_turn es))

pub queue_permuted : (lists : Lists) → IsPermutation (waiters lists) (queue lists)
unfolding queue
queue_permuted lists = turned_permuted (waiters lists)

-- of two with ids of their own, one that the other doesn't go before goes before that
settled : (r : Ordering) → is_lt (ordering_reverse r) ≡ false → ¬ (r ≡ Equal) → r ≡ Less
settled Less back other = refl
settled Equal back other = absurd (other refl)
settled Greater back other = absurd (cc)

goes_first : (x z : Waiting) → goes_before z x ≡ false → eqb x.id z.id ≡ false → turn x z ≡ Less
goes_first x z back apart = settled (turn x z) (sym (ap is_lt (order_total.antisymm (turn_of z) (turn_of x))) ∙ back) other
  where
    other : ¬ (turn x z ≡ Equal)
    other e =
        let made = ordering_then (nat_cmp x.created z.created) (nat_cmp x.id z.id) in
        let by_id : nat_cmp x.id z.id ≡ Equal = second_equal (nat_cmp x.created z.created) (nat_cmp x.id z.id) (second_equal (int_cmp z.priority x.priority) made e) in
        let same : x.id ≡ z.id = ranked x.id z.id Equal (sym by_id) in
        grind (arith, nat_tests, same, apart)

before_all : (x : Waiting) (es : List Waiting) → AllByRecursion (λ z. goes_before z x ≡ false) es → AllByRecursion (λ z. eqb x.id z.id ≡ false) es → AllByRecursion (λ z. turn x z ≡ Less) es
before_all x [] back apart = tt
before_all x (e ∷ es) back apart = (goes_first x e back.0 apart.0, before_all x es back.1 apart.1)

each_first : (es : List Waiting) → InOrder goes_before es → AreApart es → IsStrictlySortedBy turn es
unfolding IsStrictlySortedBy
each_first [] order apart = tt
each_first (e ∷ es) order apart = (before_all e es order.0 apart.0, each_first es order.1 apart.1)

queue_ordered : (lists : Lists) → InOrder goes_before (queue lists)
unfolding queue
queue_ordered lists = turned_in_order (waiters lists)

pub queue_in_turn : (lists : Lists) → AreInOrder (λ e. e.id) lists.waiting → IsStrictlySortedBy turn (queue lists)
queue_in_turn lists order = each_first (queue lists) (queue_ordered lists) (queue_apart lists order)
