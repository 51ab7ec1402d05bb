-- Those who wait, by the places of their ids.
use Rattle.std.proofs.Common.{◌≡◌, ℕ, zero, suc, ◌+◌, ◌<◌, List, [], ◌∷◌, ◌++◌, get_or, drop, length, map, Some, None, sym, ap, ◌∙◌, append_assoc, arith}
use Rattle.std.specs.List.{AllByRecursion}
use Rattle.std.proofs.lemmas.List.{drop_more, length-map}
use Rattle.base_tables.specs.Tables.{AreInOrder}
use Rattle.model_rows.specs.declared.rows.Waiting.{Waiting}
use Rattle.model_rows.specs.Lists.{Lists, waiting_at}
use Rattle.model_rows.specs.Usage.{has_none}
use Rattle.model_rows.specs.Waits.{waiters}
use Rattle.model_rows.proofs.Found.{each_found}
use Rattle.decide_waiting.specs.declared.turns.Turn.{Turn}
use Rattle.decide_waiting.specs.Turns.{turn_of}
use Rattle.decide_waiting.proofs.Queue.{filtered_weaker}

module _ (lists : Lists) where
  found_at : (es : List Waiting) → AllByRecursion (λ e. waiting_at e.id lists ≡ Some e) es → (i : ℕ) → i < length es → (d : Waiting) → waiting_at (get_or (map (λ e. e.id) es) i 0) lists ≡ Some (get_or es i d)
  found_at [] h i below d = absurd (omega arith)
  found_at (e ∷ es) h zero below d = h.0
  found_at (e ∷ es) h (suc i) below d = found_at es h.1 i (omega arith) d

  not_missing : (es : List Waiting) → AllByRecursion (λ e. waiting_at e.id lists ≡ Some e) es → (i : ℕ) → i < length es → waiting_at (get_or (map (λ e. e.id) es) i 0) lists ≡ None → ⊥
  not_missing [] h i below missing = omega arith
  not_missing (e ∷ es) h zero below missing = cc (sym h.0 ∙ missing)
  not_missing (e ∷ es) h (suc i) below missing = not_missing es h.1 i (omega arith) missing

  waiters_stand : AreInOrder (λ r. r.id) lists.waiting → AllByRecursion (λ e. waiting_at e.id lists ≡ Some e) (waiters lists)
  waiters_stand order = filtered_weaker (λ e. has_none e.voucher) (λ e. waiting_at e.id lists ≡ Some e) lists.waiting (each_found (λ r. r.id) 0 lists.waiting order)

  -- of the entry that an id finds, the turn comes next
  module _ (order : AreInOrder (λ r. r.id) lists.waiting) (ids : List ℕ) (all : ids ≡ map (λ e. e.id) (waiters lists)) (i : ℕ) (below : i < length ids) where
    here : (d : Waiting) → (i < length (waiters lists)) × (waiting_at (get_or ids i 0) lists ≡ Some (get_or (waiters lists) i d))
    here d =
        let within : i < length (waiters lists) = omega (arith, below, ap length all, length-map (waiters lists) (λ (e : Waiting). e.id)) in
        (within, ap (λ (l : List ℕ). waiting_at (get_or l i 0) lists) all ∙ found_at (waiters lists) (waiters_stand order) i within d)

    pub next_turn : (turns : List Turn) (row : Waiting) → waiting_at (get_or ids i 0) lists ≡ Some row → (turns ++ turn_of row ∷ []) ++ map turn_of (drop (i + 1) (waiters lists)) ≡ turns ++ map turn_of (drop i (waiters lists))
    next_turn turns row found =
        let is : get_or (waiters lists) i row ≡ row = cc (sym (here row).1 ∙ found) in
        let rest : drop i (waiters lists) ≡ row ∷ drop (i + 1) (waiters lists) = drop_more (waiters lists) i row (here row).0 ∙ ap (λ (e : Waiting). e ∷ drop (i + 1) (waiters lists)) is in
        append_assoc turns (turn_of row ∷ []) (map turn_of (drop (i + 1) (waiters lists))) ∙ ap (λ (l : List Waiting). turns ++ map turn_of l) (sym rest)

    pub none_missing : waiting_at (get_or ids i 0) lists ≡ None → ⊥
    none_missing missing =
        let within : i < length (waiters lists) = omega (arith, below, ap length all, length-map (waiters lists) (λ (e : Waiting). e.id)) in
        not_missing (waiters lists) (waiters_stand order) i within (ap (λ (l : List ℕ). waiting_at (get_or l i 0) lists) (sym all) ∙ missing)
