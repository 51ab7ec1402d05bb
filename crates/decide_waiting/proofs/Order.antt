-- A list in order is the only one with its elements, so what a sort leaves is the queue.
use Rattle.std.proofs.Common.{◌≡◌, ℕ, suc, ◌+◌, Bool, true, false, List, [], ◌∷◌, map, refl, sym, ap, ◌∙◌, sum_by, add-one, arith}
use Rattle.std.specs.Prelude.{if◌then◌else◌}
use Rattle.std.specs.List.{AllByRecursion}
use Rattle.std.specs.List.Sorted.{IsSortedBy, IsSorted, IsPermutation}
use Rattle.std.specs.Cmp.{IsStrictWeakOrder, IsTotalOrder}
use Rattle.std.specs.declared.cmp.Ordering.{Ordering}
use Rattle.std.specs.declared.cmp.Ordering.TheVariants.{Less, Equal, Greater}
use Rattle.std.specs.Ordering.{is_lt, nat_cmp, int_cmp, ordering_then, ordering_reverse}
use Rattle.std.proofs.lemmas.Cmp.{on_total, then_total, back_total, nat_cmp_total, int_cmp_total, ranked, int_ranked}
use Rattle.std.proofs.lemmas.List.Sorted.{ranks_by, sum_by-IsPermutation}
use Rattle.std.proofs.lemmas.List.Sums.{sum_by-cons}
use Rattle.model_rows.specs.declared.rows.Waiting.{Waiting}
use Rattle.model_rows.proofs.EachRow.{all_weaker}
use Rattle.model_rows.proofs.Time.{one}
use Rattle.decide_waiting.specs.declared.turns.Turn.{Turn}
use Rattle.decide_waiting.specs.Serving.{goes_before, in_place, in_turn}
use Rattle.decide_waiting.specs.Turns.{turn_of}
use Rattle.decide_waiting.proofs.Queue.{all_in_place}

module _ {T : Type 0} (lt : T → T → Bool) where
  -- none goes before one that stands before it
  abbrev pub InOrder : List T → Type 0
  InOrder [] = Unit {0}
  InOrder (x ∷ xs) = AllByRecursion (λ z. lt z x ≡ false) xs × InOrder xs

  module _ (weak : IsStrictWeakOrder lt) where
    by_itself : (x : T) (b : Bool) → lt x x ≡ b → lt x x ≡ false
    by_itself x true e = weak.one_way x x e
    by_itself x false e = e

    not_itself : (x : T) → lt x x ≡ false
    not_itself x = by_itself x (lt x x) refl

    in_order : (xs : List T) → IsSortedBy lt xs → InOrder xs
    in_order [] s = tt
    in_order (x ∷ []) s = (tt, tt)
    in_order (x ∷ y ∷ ys) s =
        let more = in_order (y ∷ ys) (λ k d low high. rw add-one (rw add-one at (s (suc k) d (omega arith) (omega arith)))) in
        let first : lt y x ≡ false = s 0 x (omega arith) (omega arith) in
        ((first, all_weaker (λ z. lt z y ≡ false) (λ z. lt z x ≡ false) (λ z e. weak.chain z y x e first) ys more.0), more)

    none_before : (y : T) (ys : List T) → AllByRecursion (λ z. lt z y ≡ false) ys → sum_by (λ z. one (lt z y)) ys ≡ 0
    none_before y [] h = refl
    none_before y (z ∷ zs) h = omega (arith, sum_by-cons (λ x. one (lt x y)) z zs, ap one h.0, none_before y zs h.1)

    is_not : (b : Bool) (n : ℕ) → one b + n ≡ 0 → b ≡ false
    is_not true n e = absurd (omega arith)
    is_not false n e = refl

    not_before : (x y : T) (xs ys : List T) → AllByRecursion (λ z. lt z y ≡ false) ys → ((f : T → ℕ) → sum_by f (x ∷ xs) ≡ sum_by f (y ∷ ys)) → lt x y ≡ false
    not_before x y xs ys h same = is_not (lt x y) (sum_by (λ z. one (lt z y)) xs) (omega (arith, same (λ z. one (lt z y)), sum_by-cons (λ z. one (lt z y)) x xs, sum_by-cons (λ z. one (lt z y)) y ys, none_before y ys h, ap one (not_itself y)))

    module _ (alike : (x y : T) → lt x y ≡ false → lt y x ≡ false → x ≡ y) where
      only : (xs ys : List T) → InOrder xs → InOrder ys → ((f : T → ℕ) → sum_by f xs ≡ sum_by f ys) → xs ≡ ys
      only [] [] a b same = refl
      only [] (y ∷ ys) a b same = absurd (omega (arith, same (λ z. 1), sum_by-cons (λ z. 1) y ys))
      only (x ∷ xs) [] a b same = absurd (omega (arith, same (λ z. 1), sum_by-cons (λ z. 1) x xs))
      only (x ∷ xs) (y ∷ ys) a b same =
          let first : x ≡ y = alike x y (not_before x y xs ys b.0 same) (not_before y x ys xs a.0 (λ f. sym (same f))) in
          let rest : xs ≡ ys = only xs ys a.1 b.1 (λ f. omega (arith, same f, sum_by-cons f x xs, sum_by-cons f y ys, ap f first)) in
          λ i. first i ∷ rest i

-- by priority downward, then by moment, then by id
abbrev order : Turn → Turn → Ordering
order x y = ordering_then (int_cmp y.priority.0 x.priority.0) (ordering_then (nat_cmp x.created y.created) (nat_cmp x.id y.id))

pub order_total : IsTotalOrder order
order_total = then_total (back_total (on_total (λ (t : Turn). t.priority.0) int_cmp_total)) (then_total (on_total (λ (t : Turn). t.created) nat_cmp_total) (on_total (λ (t : Turn). t.id) nat_cmp_total))

weak_turns : IsStrictWeakOrder (λ x y. is_lt (order x y))
weak_turns = ranks_by order_total (λ (t : Turn). t)

weak_entries : IsStrictWeakOrder goes_before
weak_entries = ranks_by order_total turn_of

first_equal : (a b : Ordering) → ordering_then a b ≡ Equal → a ≡ Equal
first_equal Less b e = e
first_equal Equal b e = refl
first_equal Greater b e = e

pub second_equal : (a b : Ordering) → ordering_then a b ≡ Equal → b ≡ Equal
second_equal Less b e = absurd (cc)
second_equal Equal b e = e
second_equal Greater b e = absurd (cc)

level : (r : Ordering) → is_lt r ≡ false → is_lt (ordering_reverse r) ≡ false → r ≡ Equal
level Less a b = absurd (cc)
level Equal a b = refl
level Greater a b = absurd (cc)

alike_turns : (x y : Turn) → is_lt (order x y) ≡ false → is_lt (order y x) ≡ false → x ≡ y
alike_turns x y a b =
    let e : order x y ≡ Equal = level (order x y) a (sym (ap is_lt (order_total.antisymm y x)) ∙ b) in
    let later = ordering_then (nat_cmp x.created y.created) (nat_cmp x.id y.id) in
    let priority : y.priority.0 ≡ x.priority.0 = int_ranked y.priority.0 x.priority.0 Equal (sym (first_equal (int_cmp y.priority.0 x.priority.0) later e)) in
    let rest : later ≡ Equal = second_equal (int_cmp y.priority.0 x.priority.0) later e in
    let created : x.created ≡ y.created = ranked x.created y.created Equal (sym (first_equal (nat_cmp x.created y.created) (nat_cmp x.id y.id) rest)) in
    let id : x.id ≡ y.id = ranked x.id y.id Equal (sym (second_equal (nat_cmp x.created y.created) (nat_cmp x.id y.id) rest)) in
    let back = sym priority in
    λ i. record { priority = record { 0 = back i }; created = created i; id = id i }

-- the queue is in order, with the same elements
placed_in_order : (e : Waiting) (es : List Waiting) → InOrder goes_before es → InOrder goes_before (in_place e es)
placed_in_order e [] s = (tt, tt)
placed_in_order e (x ∷ es) s = by_turn (goes_before e x) refl (placed_in_order e es s.1)
  where
    by_turn : (b : Bool) → goes_before e x ≡ b → InOrder goes_before (in_place e es) → InOrder goes_before (if b then e ∷ x ∷ es else x ∷ in_place e es)
    by_turn true is more =
        let back = weak_entries.one_way e x is in
        ((back, all_weaker (λ z. goes_before z x ≡ false) (λ z. goes_before z e ≡ false) (λ z h. weak_entries.chain z x e h back) es s.0), s)
    by_turn false is more = (all_in_place (λ z. goes_before z x ≡ false) e es is s.0, more)

pub turned_in_order : (es : List Waiting) → InOrder goes_before (in_turn es)
turned_in_order [] = tt
turned_in_order (e ∷ es) = placed_in_order e (in_turn es) (turned_in_order es)

place_sums : (f : Waiting → ℕ) (e : Waiting) (es : List Waiting) → sum_by f (in_place e es) ≡ f e + sum_by f es
place_sums f e [] = sum_by-cons f e []
place_sums f e (x ∷ es) = by_turn (goes_before e x) (place_sums f e es)
  where
    by_turn : (b : Bool) → sum_by f (in_place e es) ≡ f e + sum_by f es → sum_by f (if b then e ∷ x ∷ es else x ∷ in_place e es) ≡ f e + sum_by f (x ∷ es)
    by_turn true more = sum_by-cons f e (x ∷ es)
    by_turn false more = omega (arith, more, sum_by-cons f x (in_place e es), sum_by-cons f x es)

turn_sums : (f : Waiting → ℕ) (es : List Waiting) → sum_by f (in_turn es) ≡ sum_by f es
turn_sums f [] = refl
turn_sums f (e ∷ es) = omega (arith, place_sums f e (in_turn es), turn_sums f es, sum_by-cons f e es)

map_sums : (f : Turn → ℕ) (es : List Waiting) → sum_by f (map turn_of es) ≡ sum_by (λ e. f (turn_of e)) es
map_sums f [] = refl
map_sums f (e ∷ es) = omega (arith, map_sums f es, sum_by-cons f (turn_of e) (map turn_of es), sum_by-cons (λ x. f (turn_of x)) e es)

map_each : (x : Waiting) (es : List Waiting) → AllByRecursion (λ z. goes_before z x ≡ false) es → AllByRecursion (λ t. is_lt (order t (turn_of x)) ≡ false) (map turn_of es)
map_each x [] h = tt
map_each x (e ∷ es) h = (h.0, map_each x es h.1)

map_in_order : (es : List Waiting) → InOrder goes_before es → InOrder (λ x y. is_lt (order x y)) (map turn_of es)
map_in_order [] s = tt
map_in_order (e ∷ es) s = (map_each e es s.0, map_in_order es s.1)

map_ids : (es : List Waiting) → map (λ (t : Turn). t.id) (map turn_of es) ≡ map (λ (e : Waiting). e.id) es
map_ids [] = refl
map_ids (e ∷ es) = ap (λ (l : List ℕ). e.id ∷ l) (map_ids es)

pub sorted_is_queue : (es : List Waiting) (turns : List Turn) → IsPermutation (map turn_of es) turns → IsSorted order turns → map (λ (t : Turn). t.id) turns ≡ map (λ (e : Waiting). e.id) (in_turn es)
sorted_is_queue es turns moved sorted =
    let same : turns ≡ map turn_of (in_turn es) = only (λ x y. is_lt (order x y)) weak_turns alike_turns turns (map turn_of (in_turn es)) (in_order (λ x y. is_lt (order x y)) weak_turns turns sorted) (map_in_order (in_turn es) (turned_in_order es))
    (λ f. sum_by-IsPermutation f (map turn_of es) turns moved ∙ map_sums f es ∙ sym (turn_sums (λ e. f (turn_of e)) es) ∙ sym (map_sums f (in_turn es))) in
    ap (map (λ (t : Turn). t.id)) same ∙ map_ids (in_turn es)
