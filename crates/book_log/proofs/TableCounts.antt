-- How many changes of a log are of a table, with one more and with one fewer.
use Rattle.std.proofs.Common.{◌≡◌, ℕ, ◌+◌, ◌-◌, ◌<◌, Bool, true, false, ◌||◌, List, [], ◌∷◌, ◌++◌, length, set, get_or, inl, inr, refl, sym, ap, ◌∙◌, count_by, arith}
use Rattle.std.specs.Prelude.{if◌then◌else◌, nat_lt}
use Rattle.std.specs.List.{list_any}
use Rattle.std.proofs.lemmas.Bool.{eq-eqb}
use Rattle.std.proofs.lemmas.Bool.Decides.{eqb_tells, nat_tests}
use Rattle.std.proofs.lemmas.List.{get_or-set_same, get_or-set_other}
use Rattle.std.proofs.lemmas.List.Sums.{sum_by-cons, sum_by-append}
use Rattle.model_rows.specs.declared.changes.Change.{Change}
use Rattle.model_rows.proofs.Time.{one}
use Rattle.book_log.specs.Places.{table_of, is_of}

any_or_more : (a : Bool) (n : ℕ) → (a || nat_lt 0 n) ≡ nat_lt 0 ((if a then 1 else 0) + n)
any_or_more true n = grind (arith, nat_tests)
any_or_more false n = grind (arith, nat_tests)

-- some row passes where the number of those that pass isn't 0
pub some_counted : {T : Type 0} (passes : T → Bool) (rows : List T) → list_any passes rows ≡ nat_lt 0 (count_by passes rows)
some_counted passes [] = refl
some_counted passes (r ∷ rows) =
    ap (λ b. passes r || b) (some_counted passes rows)
    ∙ any_or_more (passes r) (count_by passes rows)
    ∙ ap (nat_lt 0) (sym (sum_by-cons (λ s. if passes s then 1 else 0) r rows))

-- one more change counts where it is of the table
pub count_more : (table : ℕ) (log : List Change) (change : Change) → count_by (is_of table) (log ++ change ∷ []) ≡ count_by (is_of table) log + one (is_of table change)
count_more table log change = omega (arith, sum_by-append (λ c. if is_of table c then 1 else 0) log (change ∷ []), sum_by-cons (λ c. if is_of table c then 1 else 0) change [])

-- and it is of its own
pub counts_own : (table : ℕ) (change : Change) → table ≡ table_of change → one (is_of table change) ≡ 1
counts_own table change same = ap one (eq-eqb (table_of change) table (sym same))

module _ (log : List Change) (counts : List ℕ) (change : Change) (ten : length counts ≡ 10) (lt : table_of change < 10) where
  abbrev own : ℕ
  own = table_of change

  set_here : (v table : ℕ) → own ≡ table → get_or (set counts own v) table 0 ≡ v
  set_here v table same = ap (λ u. get_or (set counts own v) u 0) (sym same) ∙ get_or-set_same counts own v 0 (omega (arith, ten, lt))

  pub counted_more : ((table : ℕ) → table < 10 → get_or counts table 0 ≡ count_by (is_of table) log) → (table : ℕ) → table < 10 → get_or (set counts own (get_or counts own 0 + 1)) table 0 ≡ count_by (is_of table) (log ++ change ∷ [])
  counted_more counted table within = elim (eqb_tells own table) [
    | inl e ↦
        let old : get_or counts own 0 ≡ count_by (is_of table) log = counted own lt ∙ ap (λ u. count_by (is_of u) log) e.1 in
        let here : one (is_of table change) ≡ 1 = ap one e.0 in
        omega (arith, set_here (get_or counts own 0 + 1) table e.1, old, here, count_more table log change)
    | inr e ↦
        let none : one (is_of table change) ≡ 0 = ap one e.0 in
        omega (arith, get_or-set_other counts own table (get_or counts own 0 + 1) 0 (λ same. e.1 (sym same)), counted table within, none, count_more table log change)
  ]

  pub counted_less : ((table : ℕ) → table < 10 → get_or counts table 0 ≡ count_by (is_of table) (log ++ change ∷ [])) → (table : ℕ) → table < 10 → get_or (set counts own (get_or counts own 0 - 1)) table 0 ≡ count_by (is_of table) log
  counted_less counted table within = elim (eqb_tells own table) [
    | inl e ↦
        let old : get_or counts own 0 ≡ count_by (is_of table) (log ++ change ∷ []) = counted own lt ∙ ap (λ u. count_by (is_of u) (log ++ change ∷ [])) e.1 in
        let here : one (is_of table change) ≡ 1 = ap one e.0 in
        omega (arith, set_here (get_or counts own 0 - 1) table e.1, old, here, count_more table log change)
    | inr e ↦
        let none : one (is_of table change) ≡ 0 = ap one e.0 in
        omega (arith, get_or-set_other counts own table (get_or counts own 0 - 1) 0 (λ same. e.1 (sym same)), counted table within, none, count_more table log change)
  ]
