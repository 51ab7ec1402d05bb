use Rattle.std.proofs.Common.{◌≡◌, ℕ, zero, suc, ◌+◌, ◌≤◌, List, [], ◌∷◌, length, map, drop, drop-cons, refl, sym, ap, subst, ◌∙◌, arith}
use Rattle.file_scan.specs.Numbers.{RiseTo}
use Rattle.file_scan.proofs.RiseLemmas.{ends_above, rise_below, rise_under}
use Rattle.file_scan.proofs.numbers.next_number.Goals as goal
use Rattle.file_scan.proofs.numbers.next_number.Goals.{then-number-from-via-then-number-from, then-number-from-via-else-number-from+then-number}

dropped : {T : Type 0} (n : ℕ) (xs : List T) → length xs ≤ n → drop n xs ≡ []
dropped zero [] le = refl
dropped (suc n) [] le = refl
dropped zero (x ∷ xs) le = absurd (omega arith)
dropped (suc n) (x ∷ xs) le = dropped n xs (omega arith)

pub returns-clause-next : goal.returns-clause-next
returns-clause-next g c =
    let none = dropped c.loop-row.row-index c.args.rows.now (omega arith) in
    rise_below c.loop-row.from (map g.T.Numbered.number_of c.args.rows.now)
    (c.loop-row.invariant.0 c.loop-row.from (subst (λ l. RiseTo c.loop-row.from c.loop-row.from (map g.T.Numbered.number_of l)) (sym none) (omega arith)))

pub returns-clause-least : goal.returns-clause-least
returns-clause-least g c = λ number h.
    let none = dropped c.loop-row.row-index c.args.rows.now (omega arith) in
    let rise = c.loop-row.invariant.0 c.loop-row.from (subst (λ l. RiseTo c.loop-row.from c.loop-row.from (map g.T.Numbered.number_of l)) (sym none) (omega arith)) in
    subst (λ l. RiseTo c.loop-row.from number (map g.T.Numbered.number_of l)) none
    (c.loop-row.invariant.1 number (rise_under 0 c.loop-row.from number (map g.T.Numbered.number_of c.args.rows.now) (omega arith) rise h.below))

pub returns-then-number-from-clause-none : goal.returns-then-number-from-clause-none
returns-then-number-from-clause-none g c (m, low, rise) =
    let rows = c.args.rows.now in
    let i = c.loop-row.row-index in
    let x = c.row-item.result in
    let number = g.T.Numbered.number_of in
    let is : drop i rows ≡ x ∷ drop (suc i) rows = drop-cons rows i x c.loop-row-test.true ∙ ap (λ y. y ∷ drop (suc i) rows) (sym c.row-item.is) in
    let here : RiseTo c.loop-row.from m (number x ∷ map number (drop (suc i) rows)) = subst (λ l. RiseTo c.loop-row.from m (map number l)) is (c.loop-row.invariant.1 m rise) in
    let end : number x + 1 ≤ m = ends_above (number x + 1) m (map number (drop (suc i) rows)) here.1 in
    let same : c.number-number.result ≡ number x = c.number-number.ensures in
    elim c.then-number-from.branch [
      | then-number-from-via-then-number-from w ↦ omega (arith, w.if-number-from, here.0, same)
      | then-number-from-via-else-number-from+then-number w ↦ omega (arith, w.if-number, end, same, low)
    ]
