-- What an index of rows says of sums over them.
use Rattle.std.proofs.Common.{◌≡◌, ℕ, ◌+◌, ◌<◌, zero, suc, length, get_or, count_by, Bool, true, false, cond, ◌&&◌, eqb, List, [], ◌∷◌, Option, Some, None, refl, sym, ap, ◌∙◌, sum_by, map, arith}
use Rattle.std.specs.Prelude.{if◌then◌else◌, filter}
use Rattle.std.specs.List.{AllByRecursion}
use Rattle.std.proofs.lemmas.Bool.Decides.{nat_tests}
use Rattle.std.proofs.lemmas.List.Sums.{sum_by-cons}
use Rattle.base_tables.specs.Tables.{row_at, with_row, without_row, InOrderFrom, AreInOrder, IsPlace, sum_at}
use Rattle.base_tables.proofs.Edits.{row_at-without_row, row_at_above, sum_by-with_row, sum_by-without_row}
use Rattle.base_tables.proofs.Places.{without_row_in_order}
use Rattle.base_index.specs.Entries.{entry, key_of, id_of, is_between, ids_of, ids_between}
use Rattle.base_index.proofs.EntryLemmas.{key_is, id_is}
use Rattle.model_rows.proofs.Found.{each_found}
use Rattle.model_rows.proofs.EachRow.{key-row_at}
use Rattle.model_rows.specs.CameDue.{ends_between}
use Rattle.model_rows.specs.Conditions.{names}
use Rattle.book_indexes.specs.declared.keys.Keys.{Keys}
use Rattle.book_indexes.specs.Keys.{keys_if}
use Rattle.book_indexes.specs.Indexes.{share, Mirrors, AreIndexed, with_entry, without_entry, Finds}

-- the key of a row, if there is one and it has one
abbrev key_if : {T : Type 0} → (T → Option ℕ) → Option T → Option ℕ
key_if key None = None
key_if key (Some row) = key row

-- a number is its quotient and its rest
same_entry : (e k id : ℕ) → id < 18446744073709551616 → eqb e (entry k id) ≡ (eqb (key_of e) k && eqb (id_of e) id)
same_entry e k id lt = grind (arith, nat_tests)

-- what the rows of one key add up to
sum_own : {T : Type 0} (key : T → ℕ) (f : T → ℕ) (n c : ℕ) (rows : List T) → InOrderFrom key n rows → sum_by (λ r. if eqb (key r) c then f r else 0) rows ≡ sum_at f (row_at key c rows)
sum_own key f n c [] h = refl
sum_own key f n c (r ∷ rs) h = grind (arith, nat_tests, h.0, sum_by-cons (λ s. if eqb (key s) c then f s else 0) r rs, sum_own key f (key r + 1) c rs h.1, λ (lt : c < key r + 1). row_at_above key (key r + 1) c rs lt h.1)

-- sums of what is alike at each of the rows
sums_at : {T : Type 0} (P : T → Type 0) (f g : T → ℕ) (rows : List T) → ((r : T) → P r → f r ≡ g r) → AllByRecursion P rows → sum_by f rows ≡ sum_by g rows
sums_at P f g [] e h = refl
sums_at P f g (r ∷ rs) e h = omega (arith, e r h.0, sums_at P f g rs e h.1, sum_by-cons f r rs, sum_by-cons g r rs)

pub sums_like : {X : Type 0} (f g : X → ℕ) (xs : List X) → ((x : X) → f x ≡ g x) → sum_by f xs ≡ sum_by g xs
sums_like f g [] e = refl
sums_like f g (x ∷ xs) e = omega (arith, e x, sums_like f g xs e, sum_by-cons f x xs, sum_by-cons g x xs)

pub sum_filter : {X : Type 0} (test : X → Bool) (f : X → ℕ) (xs : List X) → sum_by f (filter test xs) ≡ sum_by (λ x. if test x then f x else 0) xs
sum_filter test f [] = refl
sum_filter test f (x ∷ xs) = omega (arith, by_test (test x), sum_filter test f xs, sum_by-cons (λ y. if test y then f y else 0) x xs)
  where
    by_test : (b : Bool) → sum_by f (cond b (x ∷ filter test xs) (filter test xs)) ≡ (if b then f x else 0) + sum_by f (filter test xs)
    by_test true = omega (arith, sum_by-cons f x (filter test xs))
    by_test false = omega arith

pub sum_map : {X Y : Type 0} (g : X → Y) (f : Y → ℕ) (xs : List X) → sum_by f (map g xs) ≡ sum_by (λ x. f (g x)) xs
sum_map g f [] = refl
sum_map g f (x ∷ xs) = omega (arith, sum_map g f xs, sum_by-cons f (g x) (map g xs), sum_by-cons (λ y. f (g y)) x xs)

module _ {T : Type 0} (id : T → ℕ) (key : T → Option ℕ) (rows : List T) (entries : List ℕ) (order : AreInOrder id rows) (sorted : AreInOrder (λ n. n) entries) (mirrors : Mirrors id key rows entries) where
  abbrev one_of : ℕ → ℕ → ℕ → ℕ → ℕ
  one_of k i x y = if eqb x k && eqb y i then 1 else 0

  -- an entry stands exactly where a row has its id and its key
  counted : (k i : ℕ) → i < 18446744073709551616 → sum_at (λ e. 1) (row_at (λ n. n) (entry k i) entries) ≡ sum_at (λ r. share (one_of k i) (id r) (key r)) (row_at id i rows)
  counted k i lt =
      sym (sum_own (λ n. n) (λ e. 1) 0 (entry k i) entries sorted)
      ∙ sums_like (λ e. if eqb e (entry k i) then 1 else 0) (λ e. one_of k i (key_of e) (id_of e)) entries (λ e. ap (λ b. if b then 1 else 0) (same_entry e k i lt))
      ∙ mirrors (one_of k i)
      ∙ sums_like (λ r. share (one_of k i) (id r) (key r)) (λ r. if eqb (id r) i then share (one_of k i) (id r) (key r) else 0) rows (λ r. gate (id r) (key r))
      ∙ sum_own id (λ r. share (one_of k i) (id r) (key r)) 0 i rows order
    where
      gate : (x : ℕ) (o : Option ℕ) → share (one_of k i) x o ≡ (if eqb x i then share (one_of k i) x o else 0)
      gate x None = by_test (eqb x i)
        where
          by_test : (b : Bool) → ◌≡◌ {A = ℕ} 0 (if b then 0 else 0)
          by_test true = refl
          by_test false = refl
      gate x (Some y) = by_tests (eqb y k) (eqb x i)
        where
          by_tests : (a b : Bool) → ◌≡◌ {A = ℕ} (if a && b then 1 else 0) (if b then (if a && b then 1 else 0) else 0)
          by_tests true true = refl
          by_tests true false = refl
          by_tests false true = refl
          by_tests false false = refl

  -- the entry of the row of an id is there, if that row has a key
  entry_stands : (f : ℕ → ℕ → ℕ) (i : ℕ) (row : T) → i < 18446744073709551616 → row_at id i rows ≡ Some row → id row ≡ i → (k : ℕ) → key row ≡ Some k → sum_at (λ e. 1) (row_at (λ n. n) (entry k i) entries) ≡ 1
  entry_stands f i row lt found own k is =
      counted k i lt ∙ ap (sum_at (λ r. share (one_of k i) (id r) (key r))) found ∙ ap (share (one_of k i) (id row)) is ∙ ap (one_of k i k) own ∙ ones
    where
      ones : one_of k i k i ≡ 1
      ones = grind (arith, nat_tests)

-- one that is found adds what it is
found_adds : (F : ℕ → ℕ) (c : ℕ) (entries : List ℕ) → sum_at (λ e. 1) (row_at (λ n. n) c entries) ≡ 1 → sum_at F (row_at (λ n. n) c entries) ≡ F c
found_adds F c entries one = by_found (row_at (λ n. n) c entries) refl one
  where
    by_found : (o : Option ℕ) → row_at (λ n. n) c entries ≡ o → sum_at (λ e. 1) o ≡ 1 → sum_at F o ≡ F c
    by_found None e h = absurd (omega (arith, h))
    by_found (Some x) e h = ap F (key-row_at (λ n. n) c entries x e)

none_adds : (F : ℕ → ℕ) (o : Option ℕ) → sum_at (λ e. 1) o ≡ 0 → sum_at F o ≡ 0
none_adds F None h = refl
none_adds F (Some x) h = absurd (omega (arith, h))

module _ {T : Type 0} (id : T → ℕ) (key : T → Option ℕ) (rows : List T) (entries : List ℕ) (order : AreInOrder id rows) (sorted : AreInOrder (λ n. n) entries) (mirrors : Mirrors id key rows entries) where
  -- a row that goes, with its entry
  mirrors_drop : (i : ℕ) → i < 18446744073709551616 → Mirrors id key (without_row id i rows) (without_entry i (key_if key (row_at id i rows)) entries)
  mirrors_drop i lt f = by_row (row_at id i rows) refl
    where
      F : ℕ → ℕ
      F e = f (key_of e) (id_of e)

      gone : sum_by (λ r. share f (id r) (key r)) (without_row id i rows) + sum_at (λ r. share f (id r) (key r)) (row_at id i rows) ≡ sum_by (λ r. share f (id r) (key r)) rows
      gone = sum_by-without_row id (λ r. share f (id r) (key r)) 0 i rows order

      by_key : (row : T) → row_at id i rows ≡ Some row → id row ≡ i → (o : Option ℕ) → key row ≡ o → sum_by (λ e. f (key_of e) (id_of e)) (without_entry i o entries) ≡ sum_by (λ r. share f (id r) (key r)) (without_row id i rows)
      by_key row found own None is = omega (arith, mirrors f, gone, ap (sum_at (λ r. share f (id r) (key r))) found, ap (share f (id row)) is)
      by_key row found own (Some k) is =
          let stands = entry_stands id key rows entries order sorted mirrors f i row lt found own k is in
          omega (arith, mirrors f, gone, ap (sum_at (λ r. share f (id r) (key r))) found, ap (share f (id row)) is, ap (f k) own, sum_by-without_row (λ n. n) (λ e. f (key_of e) (id_of e)) 0 (entry k i) entries sorted, found_adds (λ e. f (key_of e) (id_of e)) (entry k i) entries stands, ap (λ x. f x (id_of (entry k i))) (key_is k i lt), ap (f k) (id_is k i lt))

      by_row : (o : Option T) → row_at id i rows ≡ o → sum_by (λ e. f (key_of e) (id_of e)) (without_entry i (key_if key o) entries) ≡ sum_by (λ r. share f (id r) (key r)) (without_row id i rows)
      by_row None found = omega (arith, mirrors f, gone, ap (sum_at (λ r. share f (id r) (key r))) found)
      by_row (Some row) found = by_key row found (key-row_at id i rows row found) (key row) refl

  -- a row that comes where none of its id stands, with its entry
  mirrors_add : (row : T) → id row < 18446744073709551616 → row_at id (id row) rows ≡ None → Mirrors id key (with_row id row rows) (with_entry (id row) (key row) entries)
  mirrors_add row lt none f = by_key (key row) refl
    where
      come : sum_by (λ r. share f (id r) (key r)) (with_row id row rows) + sum_at (λ r. share f (id r) (key r)) (row_at id (id row) rows) ≡ sum_by (λ r. share f (id r) (key r)) rows + share f (id row) (key row)
      come = sum_by-with_row id (λ r. share f (id r) (key r)) 0 row rows order

      by_key : (o : Option ℕ) → key row ≡ o → sum_by (λ e. f (key_of e) (id_of e)) (with_entry (id row) o entries) ≡ sum_by (λ r. share f (id r) (key r)) (with_row id row rows)
      by_key None is = omega (arith, mirrors f, come, ap (sum_at (λ r. share f (id r) (key r))) none, ap (share f (id row)) is)
      by_key (Some k) is =
          let absent = counted id key rows entries order sorted mirrors k (id row) lt ∙ ap (sum_at (λ r. share (one_of id key rows entries order sorted mirrors k (id row)) (id r) (key r))) none in
          omega (arith, mirrors f, come, ap (sum_at (λ r. share f (id r) (key r))) none, ap (share f (id row)) is, sum_by-with_row (λ n. n) (λ e. f (key_of e) (id_of e)) 0 (entry k (id row)) entries sorted, none_adds (λ e. f (key_of e) (id_of e)) (row_at (λ n. n) (entry k (id row)) entries) absent, ap (λ x. f x (id_of (entry k (id row)))) (key_is k (id row) lt), ap (f k) (id_is k (id row) lt))

sorted_without : (i : ℕ) (o : Option ℕ) (entries : List ℕ) → AreInOrder (λ n. n) entries → AreInOrder (λ n. n) (without_entry i o entries)
sorted_without i None entries h = h
sorted_without i (Some k) entries h = without_row_in_order (λ n. n) 0 (entry k i) entries h

module _ {T : Type 0} (id : T → ℕ) (key : T → Option ℕ) (rows : List T) (entries : List ℕ) (order : AreInOrder id rows) (sorted : AreInOrder (λ n. n) entries) (mirrors : Mirrors id key rows entries) where
  -- a row that is put in the place of its id: the entry of the one that stood there goes, and its own comes
  mirrors_put : (row : T) → id row < 18446744073709551616 → Mirrors id key (with_row id row rows) (with_entry (id row) (key row) (without_entry (id row) (key_if key (row_at id (id row) rows)) entries))
  mirrors_put row lt f =
      let rest = without_row id (id row) rows in
      let left = without_entry (id row) (key_if key (row_at id (id row) rows)) entries in
      let own : eqb (id row) (id row) ≡ true = grind (arith, nat_tests) in
      let none : row_at id (id row) rest ≡ None = row_at-without_row id (id row) (id row) rows ∙ ap (λ b. if b then None else row_at id (id row) rows) own in
      let more = mirrors_add id key rest left (without_row_in_order id 0 (id row) rows order) (sorted_without (id row) (key_if key (row_at id (id row) rows)) entries sorted) (mirrors_drop id key rows entries order sorted mirrors (id row) lt) row lt none f in
      let s : T → ℕ = λ r. share f (id r) (key r) in
      omega (arith, more, sum_by-with_row id (λ r. share f (id r) (key r)) 0 row rest (without_row_in_order id 0 (id row) rows order), sum_by-with_row id (λ r. share f (id r) (key r)) 0 row rows order, sum_by-without_row id (λ r. share f (id r) (key r)) 0 (id row) rows order, ap (sum_at (λ r. share f (id r) (key r))) none)

  -- what the ids of a key add up to
  pub sum_of_key : (k : ℕ) (ids : List ℕ) → ids ≡ ids_of k entries → Finds id (λ r. names k (key r)) rows ids
  sum_of_key k ids is G =
      ap (sum_by (λ i. G (row_at id i rows))) is
      ∙ sum_map id_of (λ i. G (row_at id i rows)) (filter (λ e. eqb (key_of e) k) entries)
      ∙ sum_filter (λ e. eqb (key_of e) k) (λ e. G (row_at id (id_of e) rows)) entries
      ∙ mirrors f
      ∙ sums_at (λ r. row_at id (id r) rows ≡ Some r) (λ r. share f (id r) (key r)) (λ r. if names k (key r) then G (Some r) else 0) rows (λ r found. each r (key r) found) (each_found id 0 rows order)
    where
      f : ℕ → ℕ → ℕ
      f x y = if eqb x k then G (row_at id y rows) else 0

      each : (r : T) (o : Option ℕ) → row_at id (id r) rows ≡ Some r → share f (id r) o ≡ (if names k o then G (Some r) else 0)
      each r None found = refl
      each r (Some x) found = ap (λ (o : Option T). if eqb x k then G o else 0) found

  -- what the ids of keys from one on and before another add up to
  pub sum_of_range : (m n : ℕ) (ids : List ℕ) → ids ≡ ids_between m n entries → Finds id (λ r. ends_between m n (key r)) rows ids
  sum_of_range m n ids is G =
      ap (sum_by (λ i. G (row_at id i rows))) is
      ∙ sum_map id_of (λ i. G (row_at id i rows)) (filter (λ e. is_between m n (key_of e)) entries)
      ∙ sum_filter (λ e. is_between m n (key_of e)) (λ e. G (row_at id (id_of e) rows)) entries
      ∙ mirrors f
      ∙ sums_at (λ r. row_at id (id r) rows ≡ Some r) (λ r. share f (id r) (key r)) (λ r. if ends_between m n (key r) then G (Some r) else 0) rows (λ r found. each r (key r) found) (each_found id 0 rows order)
    where
      f : ℕ → ℕ → ℕ
      f x y = if is_between m n x then G (row_at id y rows) else 0

      each : (r : T) (o : Option ℕ) → row_at id (id r) rows ≡ Some r → share f (id r) o ≡ (if ends_between m n o then G (Some r) else 0)
      each r None found = refl
      each r (Some x) found = ap (λ (o : Option T). if is_between m n x then G o else 0) found

  -- the same by what a put computes
  put_mirrors : (row : T) (i : ℕ) (old new : Option ℕ) (more : List ℕ) (rows_now : List T) → i < 18446744073709551616 → i ≡ id row → old ≡ key_if key (row_at id i rows) → new ≡ key row → more ≡ with_entry i new (without_entry i old entries) → rows_now ≡ with_row id row rows → Mirrors id key rows_now more
  put_mirrors row i old new more rows_now lt own old_is new_is more_is rows_is =
      rw (rows_is, more_is, old_is, new_is, own) (mirrors_put row (omega (arith, own, lt)))

  drop_mirrors : (i : ℕ) (old : Option ℕ) (left : List ℕ) (rows_now : List T) → i < 18446744073709551616 → old ≡ key_if key (row_at id i rows) → left ≡ without_entry i old entries → rows_now ≡ without_row id i rows → Mirrors id key rows_now left
  drop_mirrors i old left rows_now lt old_is left_is rows_is = rw (rows_is, left_is, old_is) (mirrors_drop id key rows entries order sorted mirrors i lt)

-- the key of a row is one of its keys
module _ {T : Type 0} (keys : T → Keys) where
  until_if : (o : Option T) → (keys_if keys o).until ≡ key_if (λ r. (keys r).until) o
  until_if None = refl
  until_if (Some r) = refl

  named_if : (o : Option T) → (keys_if keys o).named ≡ key_if (λ r. (keys r).named) o
  named_if None = refl
  named_if (Some r) = refl

  text_if : (o : Option T) → (keys_if keys o).text ≡ key_if (λ r. (keys r).text) o
  text_if None = refl
  text_if (Some r) = refl

  group_if : (o : Option T) → (keys_if keys o).group ≡ key_if (λ r. (keys r).group) o
  group_if None = refl
  group_if (Some r) = refl

module _ {T : Type 0} (id : T → ℕ) (keys : T → Keys) (rows : List T) (until named text group : List ℕ) (order : AreInOrder id rows) (indexed : AreIndexed id keys rows until named text group) (i : ℕ)
    (old : Keys) (small : i < 18446744073709551616) (was : old ≡ keys_if keys (row_at id i rows)) (rows_now : List T) (until_now named_now text_now group_now : List ℕ)
    (in_until : AreInOrder (λ n. n) until) (in_named : AreInOrder (λ n. n) named) (in_text : AreInOrder (λ n. n) text) (in_group : AreInOrder (λ n. n) group) where
  -- a row was put, and each index has its new key for its old one
  pub indexed_put : (row : T) (new : Keys) → i ≡ id row → new ≡ keys row → rows_now ≡ with_row id row rows → until_now ≡ with_entry i new.until (without_entry i old.until until)
      → named_now ≡ with_entry i new.named (without_entry i old.named named) → text_now ≡ with_entry i new.text (without_entry i old.text text)
      → group_now ≡ with_entry i new.group (without_entry i old.group group) → AreIndexed id keys rows_now until_now named_now text_now group_now
  indexed_put row new own is put e v t g = record {
    by_until = put_mirrors id (λ r. (keys r).until) rows until order in_until indexed.by_until row i old.until new.until until_now rows_now small own (ap (λ (k : Keys). k.until) was ∙ until_if keys (row_at id i rows)) (ap (λ (k : Keys). k.until) is) e put;
    by_named = put_mirrors id (λ r. (keys r).named) rows named order in_named indexed.by_named row i old.named new.named named_now rows_now small own (ap (λ (k : Keys). k.named) was ∙ named_if keys (row_at id i rows)) (ap (λ (k : Keys). k.named) is) v put;
    by_text = put_mirrors id (λ r. (keys r).text) rows text order in_text indexed.by_text row i old.text new.text text_now rows_now small own (ap (λ (k : Keys). k.text) was ∙ text_if keys (row_at id i rows)) (ap (λ (k : Keys). k.text) is) t put;
    by_group = put_mirrors id (λ r. (keys r).group) rows group order in_group indexed.by_group row i old.group new.group group_now rows_now small own (ap (λ (k : Keys). k.group) was ∙ group_if keys (row_at id i rows)) (ap (λ (k : Keys). k.group) is) g put;
  }

  -- a row is gone, and its keys are
  pub indexed_drop : rows_now ≡ without_row id i rows → until_now ≡ without_entry i old.until until → named_now ≡ without_entry i old.named named → text_now ≡ without_entry i old.text text → group_now ≡ without_entry i old.group group → AreIndexed id keys rows_now until_now named_now text_now group_now
  indexed_drop gone e v t g = record {
    by_until = drop_mirrors id (λ r. (keys r).until) rows until order in_until indexed.by_until i old.until until_now rows_now small (ap (λ (k : Keys). k.until) was ∙ until_if keys (row_at id i rows)) e gone;
    by_named = drop_mirrors id (λ r. (keys r).named) rows named order in_named indexed.by_named i old.named named_now rows_now small (ap (λ (k : Keys). k.named) was ∙ named_if keys (row_at id i rows)) v gone;
    by_text = drop_mirrors id (λ r. (keys r).text) rows text order in_text indexed.by_text i old.text text_now rows_now small (ap (λ (k : Keys). k.text) was ∙ text_if keys (row_at id i rows)) t gone;
    by_group = drop_mirrors id (λ r. (keys r).group) rows group order in_group indexed.by_group i old.group group_now rows_now small (ap (λ (k : Keys). k.group) was ∙ group_if keys (row_at id i rows)) g gone;
  }

pub length_is : {T : Type 0} (xs : List T) → length xs ≡ sum_by (λ (x : T). 1) xs
length_is [] = refl
length_is {T} (x ∷ xs) = omega (arith, length_is xs, sum_by-cons (λ (y : T). 1) x xs)

-- as many ids as rows that pass
pub found_count : {T : Type 0} (id : T → ℕ) (test : T → Bool) (rows : List T) (ids : List ℕ) → Finds id test rows ids → length ids ≡ count_by test rows
found_count id test rows ids finds = length_is ids ∙ finds (λ o. 1)

pub map_at : {T U : Type 0} (f : T → U) (rows : List T) (i : ℕ) (d : T) (e : U) → i < length rows → get_or (map f rows) i e ≡ f (get_or rows i d)
map_at f [] i d e lt = absurd (omega arith)
map_at f (r ∷ rs) zero d e lt = refl
map_at f (r ∷ rs) (suc i) d e lt = map_at f rs i d e (omega arith)

-- a number that is kept for each row, at the row's place
pub kept_at : {T : Type 0} (key : T → ℕ) (F : ℕ → ℕ) (rows : List T) (kept : List ℕ) (id i d : ℕ) → kept ≡ map (λ r. F (key r)) rows → IsPlace key rows id i → get_or kept i d ≡ F id
kept_at key F [] kept id i d is p = absurd (omega (arith, p.in_range))
kept_at key F (r ∷ rs) kept id i d is p = ap (λ l. get_or l i d) is ∙ map_at (λ s. F (key s)) (r ∷ rs) i r d p.in_range ∙ ap F (p.has_id r)
