-- The index of a log, with one more change and with one fewer.
use Rattle.std.proofs.Common.{◌≡◌, ℕ, zero, suc, ◌+◌, ◌-◌, ◌<◌, ◌≤◌, Bool, true, false, ◌&&◌, eqb, List, [], ◌∷◌, ◌++◌, length, take, set, get_or, replicate, Some, None, Option, ◌⊎◌, inl, inr, refl, sym, ap, ap₂, ◌∙◌, subst, count_by, arith, length-append, length-set}
use Rattle.std.specs.Prelude.{Result, Ok, Err, OnOk, if◌then◌else◌}
use Rattle.std.specs.Result.{is_err}
use Rattle.std.proofs.Math.Seq.{get_or-append_seam}
use Rattle.std.proofs.lemmas.Option.{none-some}
use Rattle.std.proofs.lemmas.List.{get_or-set_same, get_or-set_other, get_or-replicate, get_or_append_left, get_or-take, take-append-le, length-take-le, take_all, take_more, get_or_default}
use Rattle.std.proofs.lemmas.List.Sums.{count_by-le-length}
use Rattle.std.proofs.lemmas.Bool.{cases_lt}
use Rattle.std.proofs.lemmas.Bool.Decides.{eqb_tells, nat_tests}
use Rattle.base_tables.specs.Tables.{row_at, with_row}
use Rattle.base_tables.proofs.Edits.{row_at-with_row}
use Rattle.model_rows.specs.declared.changes.Change.{Change}
use Rattle.book_log.specs.declared.touched.Touch.{Touch}
use Rattle.book_log.specs.Places.{table_of, id_of, is_of, touches, last_place, kept_place, place_in, IsIndex}
use Rattle.book_log.proofs.LastPlaces.{last_place-more}
use Rattle.book_log.proofs.TableCounts.{count_more, counts_own, counted_more, counted_less}

-- what a call that was accepted promises
pub when_ok : {E : Type 0} (P : Type 0) (r : Result (Unit {0}) E) → is_err r ≡ false → OnOk r P → P
when_ok P (Ok x) e h = h
when_ok P (Err x) e h = absurd (cc)

-- one row more or less touched
abbrev pub with_touch : ℕ → ℕ → Option ℕ → List (List Touch) → List (List Touch)
with_touch table id place tables = set tables table (with_row (λ r. r.id) (record { id = id; place = place }) (get_or tables table []))

-- a change touches a row, or doesn't
by_touch : (t k table id : ℕ) → ((t ≡ table) × ((k ≡ id) × ((eqb t table && eqb k id) ≡ true))) ⊎ ((eqb t table && eqb k id) ≡ false)
by_touch t k table id = elim (eqb_tells t table) [
  | inl e ↦ elim (eqb_tells k id) [
    | inl f ↦ inl (e.1, (f.1, rw (e.0, f.0) refl))
    | inr f ↦ inr (rw (e.0, f.0) refl)
  ]
  | inr e ↦ inr (rw e.0 refl)
]

pub in_row : (k id : ℕ) (place : Option ℕ) (rows : List Touch) → place_in id (with_row (λ r. r.id) (record { id = k; place = place }) rows) ≡ (if eqb k id then place else place_in id rows)
in_row k id place rows = ap kept_place (row_at-with_row (λ r. r.id) id (record { id = k; place = place }) rows) ∙ by_id (eqb k id) (row_at (λ r. r.id) id rows)
  where
    by_id : (b : Bool) (o : Option Touch) → kept_place (if b then Some (record { id = k; place = place }) else o) ≡ (if b then place else kept_place o)
    by_id true o = refl
    by_id false o = refl

pub in_touched : (tables : List (List Touch)) (t k : ℕ) (place : Option ℕ) (table id : ℕ) → t < length tables → place_in id (get_or (with_touch t k place tables) table []) ≡ (if eqb t table && eqb k id then place else place_in id (get_or tables table []))
in_touched tables t k place table id lt = elim (eqb_tells t table) [
  | inl e ↦
      let rows = with_row (λ r. r.id) (record { id = k; place = place }) (get_or tables t []) in
      let here : get_or (set tables t rows) table [] ≡ rows = ap (λ u. get_or (set tables t rows) u []) (sym e.1) ∙ get_or-set_same tables t rows [] lt in
      rw e.0 (ap (place_in id) here ∙ in_row k id place (get_or tables t []) ∙ ap (λ u. if eqb k id then place else place_in id (get_or tables u [])) e.1)
  | inr e ↦ rw e.0 (ap (place_in id) (get_or-set_other tables t table (with_row (λ r. r.id) (record { id = k; place = place }) (get_or tables t [])) [] (λ same. e.1 (sym same))))
]

pub no_touches : (table id : ℕ) → place_in id (get_or ([] ∷ [] ∷ [] ∷ [] ∷ [] ∷ [] ∷ [] ∷ [] ∷ [] ∷ [] ∷ []) table []) ≡ None
no_touches zero id = refl
no_touches (suc zero) id = refl
no_touches (suc (suc zero)) id = refl
no_touches (suc (suc (suc zero))) id = refl
no_touches (suc (suc (suc (suc zero)))) id = refl
no_touches (suc (suc (suc (suc (suc zero))))) id = refl
no_touches (suc (suc (suc (suc (suc (suc zero)))))) id = refl
no_touches (suc (suc (suc (suc (suc (suc (suc zero))))))) id = refl
no_touches (suc (suc (suc (suc (suc (suc (suc (suc zero)))))))) id = refl
no_touches (suc (suc (suc (suc (suc (suc (suc (suc (suc zero))))))))) id = refl
no_touches (suc (suc (suc (suc (suc (suc (suc (suc (suc (suc table)))))))))) id = refl

pub index_none : IsIndex [] ([] ∷ [] ∷ [] ∷ [] ∷ [] ∷ [] ∷ [] ∷ [] ∷ [] ∷ [] ∷ []) [] (replicate 10 0)
index_none = record {
  ten = refl;
  lasts = λ table id lt. no_touches table id;
  count = refl;
  befores = λ place d lt. absurd (omega (arith, lt));
  all_counted = refl;
  counted = λ table lt. get_or-replicate 10 table 0 0 lt;
}

-- no more changes are counted than there are
pub counted_le : (log : List Change) (tables : List (List Touch)) (before : List (Option ℕ)) (counts : List ℕ) (table : ℕ) → IsIndex log tables before counts → table < 10 → get_or counts table 0 ≤ length log
counted_le log tables before counts table is lt = omega (arith, is.counted table lt, count_by-le-length (is_of table) log)

-- one change more or less of a table
abbrev pub with_one_more : ℕ → List ℕ → List ℕ
with_one_more table counts = set counts table (get_or counts table 0 + 1)

abbrev pub with_one_fewer : ℕ → List ℕ → List ℕ
with_one_fewer table counts = set counts table (get_or counts table 0 - 1)

module _ (log : List Change) (tables : List (List Touch)) (before : List (Option ℕ)) (counts : List ℕ) (change : Change) where
  abbrev n : ℕ
  n = length log

  one_more : length (log ++ change ∷ []) ≡ n + 1
  one_more = omega (arith, length-append log (change ∷ []))

  pub index_more : IsIndex log tables before counts → table_of change < 10 → IsIndex (log ++ change ∷ []) (with_touch (table_of change) (id_of change) (Some n) tables) (before ++ last_place (touches (table_of change) (id_of change)) log ∷ []) (with_one_more (table_of change) counts)
  index_more is lt = record {
    ten = length-set tables (table_of change) _ ∙ is.ten;
    lasts = λ table id within.
        in_touched tables (table_of change) (id_of change) (Some n) table id (omega (arith, is.ten, lt))
        ∙ ap (λ (o : Option ℕ). if touches table id change then Some n else o) (is.lasts table id within)
        ∙ sym (last_place-more (touches table id) log change);
    count = omega (arith, one_more, is.count, length-append before (last_place (touches (table_of change) (id_of change)) log ∷ []));
    befores = λ place d within. elim (cases_lt place n) [
      | inl below ↦
          get_or_append_left before _ None place (omega (arith, below, is.count))
          ∙ is.befores place d below
          ∙ ap₂ (λ (c : Change) (l : List Change). last_place (touches (table_of c) (id_of c)) l) (sym (get_or_append_left log (change ∷ []) d place below)) (sym (take-append-le place log (change ∷ []) (omega (arith, below))))
      | inr above ↦
          let same : place ≡ n = omega (arith, above, within, one_more) in
          let old = last_place (touches (table_of change) (id_of change)) log in
          ap (λ i. get_or (before ++ old ∷ []) i None) (same ∙ sym is.count)
          ∙ get_or-append_seam before old [] None
          ∙ ap₂ (λ (c : Change) (l : List Change). last_place (touches (table_of c) (id_of c)) l) (sym (ap (λ i. get_or (log ++ change ∷ []) i d) same ∙ get_or-append_seam log change [] d)) (sym (ap (λ i. take i (log ++ change ∷ [])) same ∙ all_taken log))
    ];
    all_counted = length-set counts (table_of change) _ ∙ is.all_counted;
    counted = counted_more log counts change is.all_counted lt is.counted;
  }
    where
      all_taken : (l : List Change) → take (length l) (l ++ change ∷ []) ≡ l
      all_taken [] = refl
      all_taken (c ∷ l) = ap (λ (r : List Change). c ∷ r) (all_taken l)

  -- the last change is the last that touches its row
  pub last_touched : IsIndex (log ++ change ∷ []) tables before counts → table_of change < 10 → place_in (id_of change) (get_or tables (table_of change) []) ≡ Some n
  last_touched is lt = elim (by_touch (table_of change) (id_of change) (table_of change) (id_of change)) [
    | inl e ↦ is.lasts (table_of change) (id_of change) lt ∙ last_place-more (touches (table_of change) (id_of change)) log change ∙ ap (λ (b : Bool). if b then Some n else last_place (touches (table_of change) (id_of change)) log) e.1.1
    | inr e ↦ is.lasts (table_of change) (id_of change) lt ∙ last_place-more (touches (table_of change) (id_of change)) log change ∙ absurd (differs e)
  ]
    where
      differs : (eqb (table_of change) (table_of change) && eqb (id_of change) (id_of change)) ≡ false → ⊥
      differs e = grind (arith, nat_tests, e)

  pub index_less : IsIndex (log ++ change ∷ []) tables before counts → table_of change < 10 → IsIndex log (with_touch (table_of change) (id_of change) (get_or before n None) tables) (take n before) (with_one_fewer (table_of change) counts)
  index_less is lt = record {
    ten = length-set tables (table_of change) _ ∙ is.ten;
    lasts = λ table id within. in_touched tables (table_of change) (id_of change) (get_or before n None) table id (omega (arith, is.ten, lt)) ∙ by_row table id within (by_touch (table_of change) (id_of change) table id);
    count = length-take-le n before (omega (arith, is.count, one_more));
    befores = λ place d below.
        get_or-take n before place None below
        ∙ is.befores place d (omega (arith, below, one_more))
        ∙ ap₂ (λ (c : Change) (l : List Change). last_place (touches (table_of c) (id_of c)) l) (get_or_append_left log (change ∷ []) d place below) (take-append-le place log (change ∷ []) (omega (arith, below)));
    all_counted = length-set counts (table_of change) _ ∙ is.all_counted;
    counted = counted_less log counts change is.all_counted lt is.counted;
  }
    where
      all_taken : (l : List Change) → take (length l) (l ++ change ∷ []) ≡ l
      all_taken [] = refl
      all_taken (c ∷ l) = ap (λ (r : List Change). c ∷ r) (all_taken l)

      by_row : (table id : ℕ) → table < 10 → ((table_of change ≡ table) × ((id_of change ≡ id) × ((eqb (table_of change) table && eqb (id_of change) id) ≡ true))) ⊎ ((eqb (table_of change) table && eqb (id_of change) id) ≡ false) → (if eqb (table_of change) table && eqb (id_of change) id then get_or before n None else place_in id (get_or tables table [])) ≡ last_place (touches table id) log
      by_row table id within (inl e) =
          ap (λ (b : Bool). if b then get_or before n None else place_in id (get_or tables table [])) e.1.1
          ∙ is.befores n change (omega (arith, one_more))
          ∙ ap₂ (λ (c : Change) (l : List Change). last_place (touches (table_of c) (id_of c)) l) (get_or-append_seam log change [] change) (all_taken log)
          ∙ ap₂ (λ t k. last_place (touches t k) log) e.0 e.1.0
      by_row table id within (inr e) =
          ap (λ (b : Bool). if b then get_or before n None else place_in id (get_or tables table [])) e
          ∙ is.lasts table id within
          ∙ last_place-more (touches table id) log change
          ∙ ap (λ (b : Bool). if b then Some n else last_place (touches table id) log) e

-- the same with what a push reads and writes by name
pub pushed : (log : List Change) (tables : List (List Touch)) (before : List (Option ℕ)) (counts : List ℕ) (change : Change) (t k place : ℕ) (d e : List Touch) (o : Option ℕ) (row : List Touch) (more : List Change) (befores : List (Option ℕ)) (raised : List ℕ)
    → IsIndex log tables before counts → t ≡ table_of change → t < 10 → k ≡ id_of change → place ≡ length log → o ≡ place_in k (get_or tables t d) → row ≡ with_row (λ r. r.id) (record { id = k; place = Some place }) (get_or tables t e)
    → more ≡ log ++ change ∷ [] → befores ≡ before ++ o ∷ [] → raised ≡ with_one_more t counts → IsIndex more (set tables t row) befores raised
pushed log tables before counts change t k place d e o row more befores raised is t_is t_lt k_is place_is o_is row_is more_is befores_is raised_is =
    let lt : t < length tables = omega (arith, t_lt, is.ten) in
    let old : o ≡ last_place (touches t k) log = o_is ∙ ap (place_in k) (get_or_default tables t d [] lt) ∙ is.lasts t k t_lt in
    let old_is = old ∙ ap₂ (λ u v. last_place (touches u v) log) t_is k_is in
    let here : set tables t row ≡ with_touch (table_of change) (id_of change) (Some (length log)) tables =
    ap (set tables t) (row_is ∙ ap (with_row (λ r. r.id) (record { id = k; place = Some place })) (get_or_default tables t e [] lt) ∙ ap₂ (λ v n. with_row (λ (r : Touch). r.id) (record { id = v; place = Some n }) (get_or tables t [])) k_is place_is) ∙ ap (λ u. with_touch u (id_of change) (Some (length log)) tables) t_is in
    let raised_here = raised_is ∙ ap (λ u. with_one_more u counts) t_is in
    rw (more_is, befores_is, here, old_is, raised_here) (index_more log tables before counts change is (subst (λ u. u < 10) t_is t_lt))

whole : (log : List Change) (last : ℕ) (change : Change) → last + 1 ≡ length log → change ≡ get_or log last change → log ≡ take last log ++ change ∷ []
whole log last change last_is change_is =
    sym (take_all (last + 1) log (omega (arith, last_is)))
    ∙ take_more log last change (omega (arith, last_is))
    ∙ ap (λ (c : Change). take last log ++ c ∷ []) (sym change_is)

-- a change of the log touches its row
pub is_touched : (log : List Change) (tables : List (List Touch)) (before : List (Option ℕ)) (counts : List ℕ) (last t k : ℕ) (change : Change) (e : List Touch) → IsIndex log tables before counts → last + 1 ≡ length log → change ≡ get_or log last change → t ≡ table_of change → t < 10 → k ≡ id_of change → place_in k (get_or tables t e) ≡ None → ⊥
is_touched log tables before counts last t k change e is last_is change_is t_is t_lt k_is none =
    let lt : t < length tables = omega (arith, t_lt, is.ten) in
    let index = subst (λ (l : List Change). IsIndex l tables before counts) (whole log last change last_is change_is) is in
    let found = last_touched (take last log) tables before counts change index (subst (λ u. u < 10) t_is t_lt) in
    let same = ap (place_in k) (get_or_default tables t [] e lt) in
    none-some (length (take last log)) (sym none ∙ sym same ∙ ap₂ (λ u v. place_in v (get_or tables u [])) t_is k_is ∙ found)

-- and it is counted
pub is_counted : (log : List Change) (tables : List (List Touch)) (before : List (Option ℕ)) (counts : List ℕ) (last t : ℕ) (change : Change) → IsIndex log tables before counts → last + 1 ≡ length log → change ≡ get_or log last change → t ≡ table_of change → t < 10 → 1 ≤ get_or counts t 0
is_counted log tables before counts last t change is last_is change_is t_is t_lt =
    let all : count_by (is_of t) log ≡ count_by (is_of t) (take last log ++ change ∷ []) = ap (count_by (is_of t)) (whole log last change last_is change_is) in
    omega (arith, is.counted t t_lt, all, count_more t (take last log) change, counts_own t change t_is)

-- the same with what going back reads and writes by name
pub popped : (log : List Change) (tables : List (List Touch)) (before : List (Option ℕ)) (counts : List ℕ) (last t k : ℕ) (change : Change) (o : Option ℕ) (e : List Touch) (row : List Touch) (fewer : List Change) (befores : List (Option ℕ)) (lowered : List ℕ)
    → IsIndex log tables before counts → last + 1 ≡ length log → change ≡ get_or log last change → t ≡ table_of change → t < 10 → k ≡ id_of change → o ≡ get_or before last o
    → row ≡ with_row (λ r. r.id) (record { id = k; place = o }) (get_or tables t e) → fewer ≡ take last log → befores ≡ take last before → lowered ≡ with_one_fewer t counts → IsIndex fewer (set tables t row) befores lowered
popped log tables before counts last t k change o e row fewer befores lowered is last_is change_is t_is t_lt k_is o_is row_is fewer_is befores_is lowered_is =
    let lt : t < length tables = omega (arith, t_lt, is.ten) in
    let index = subst (λ (l : List Change). IsIndex l tables before counts) (whole log last change last_is change_is) is in
    let count : length (take last log) ≡ last = length-take-le last log (omega (arith, last_is)) in
    let less = index_less (take last log) tables before counts change index (subst (λ u. u < 10) t_is t_lt) in
    let back : o ≡ get_or before (length (take last log)) None = o_is ∙ get_or_default before last o None (omega (arith, is.count, last_is)) ∙ ap (λ n. get_or before n None) (sym count) in
    let here : set tables t row ≡ with_touch (table_of change) (id_of change) (get_or before (length (take last log)) None) tables =
    ap (set tables t) (row_is ∙ ap (with_row (λ r. r.id) (record { id = k; place = o })) (get_or_default tables t e [] lt) ∙ ap₂ (λ v p. with_row (λ (r : Touch). r.id) (record { id = v; place = p }) (get_or tables t [])) k_is back) ∙ ap (λ u. with_touch u (id_of change) (get_or before (length (take last log)) None) tables) t_is in
    let lowered_here = lowered_is ∙ ap (λ u. with_one_fewer u counts) t_is in
    rw (fewer_is, befores_is, here, lowered_here) (subst (λ n. IsIndex (take last log) (with_touch (table_of change) (id_of change) (get_or before (length (take last log)) None) tables) (take n before) (with_one_fewer (table_of change) counts)) count less)
