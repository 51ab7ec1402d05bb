-- What an index has after entries came and went, and the ids of a key.
use Rattle.std.proofs.Common.{◌≡◌, ◌≢◌, ℕ, ◌+◌, ◌-◌, ◌<◌, ◌≤◌, ◌⊎◌, inl, inr, Bool, true, false, cond, ◌&&◌, eqb, List, [], ◌∷◌, ◌++◌, length, get_or, set, take, drop, suc, refl, sym, ap, ◌∙◌, arith}
use Rattle.std.specs.Prelude.{◌||◌, not, filter, map}
use Rattle.std.specs.List.{list_any, remove}
use Rattle.std.proofs.lemmas.List.{append_assoc, drop_more, take_more_set, drop-set-lt, take-append-le, take-take, length-take, length-drop, length-map, get_or-map, get_or-take, get_or-drop}
use Rattle.std.proofs.lemmas.Bool.Decides.{nat_tests, eqb_tells}
use Rattle.base_tables.specs.Tables.{has, with_row, InOrderFrom, AreInOrder}
use Rattle.base_index.specs.Entries.{entry, key_of, id_of, has_entry, ids_of, with_entries, without_id, is_between}

-- a number that is put beside others
any-with_row : (test : ℕ → Bool) (x : ℕ) (xs : List ℕ) → list_any test (with_row (λ n. n) x xs) ≡ (test x || list_any test xs)
any-with_row test x [] = refl
any-with_row test x (y ∷ ys) = grind (arith, nat_tests, any-with_row test x ys, λ (same : y ≡ x). ap test same)

pub key_is : (k i : ℕ) → i < 18446744073709551616 → key_of (entry k i) ≡ k
key_is k i lt = grind (arith)

pub id_is : (k i : ℕ) → i < 18446744073709551616 → id_of (entry k i) ≡ i
id_is k i lt = grind (arith)

pub has_entry-with_entries : (keys : List ℕ) (id : ℕ) (entries : List ℕ) (k i : ℕ) → id < 18446744073709551616 → has_entry k i (with_entries keys id entries) ≡ ((eqb id i && has k keys) || has_entry k i entries)
has_entry-with_entries [] id entries k i lt = by_test (eqb id i)
  where
    by_test : (b : Bool) → has_entry k i entries ≡ ((b && false) || has_entry k i entries)
    by_test true = refl
    by_test false = refl
has_entry-with_entries (key ∷ keys) id entries k i lt =
    has_entry-with_entries keys id (with_row (λ n. n) (entry key id) entries) k i lt
    ∙ ap (λ b. (eqb id i && has k keys) || b) (any-with_row (λ e. eqb (key_of e) k && eqb (id_of e) i) (entry key id) entries ∙ ap (λ x. (eqb x k && eqb (id_of (entry key id)) i) || has_entry k i entries) (key_is key id lt) ∙ ap (λ x. (eqb key k && eqb x i) || has_entry k i entries) (id_is key id lt))
    ∙ by_tests (eqb id i) (has k keys) (eqb key k) (has_entry k i entries)
  where
    by_tests : (a b c d : Bool) → ((a && b) || ((c && a) || d)) ≡ ((a && (c || b)) || d)
    by_tests true true true d = refl
    by_tests true true false d = refl
    by_tests true false true d = refl
    by_tests true false false d = refl
    by_tests false b true d = refl
    by_tests false b false d = refl

pub has_entry-without_id : (id : ℕ) (entries : List ℕ) (k i : ℕ) → has_entry k i (without_id id entries) ≡ (not (eqb id i) && has_entry k i entries)
has_entry-without_id id [] k i = by_test (eqb id i)
  where
    by_test : (b : Bool) → false ≡ (not b && false)
    by_test true = refl
    by_test false = refl
has_entry-without_id id (e ∷ entries) k i = grind (arith, nat_tests, has_entry-without_id id entries k i)

-- the ids of a key
pub has-ids_of : (k i : ℕ) (entries : List ℕ) → has i (ids_of k entries) ≡ has_entry k i entries
has-ids_of k i [] = refl
has-ids_of k i (e ∷ entries) = by_test (eqb (key_of e) k) (has-ids_of k i entries)
  where
    by_test : (b : Bool) → has i (ids_of k entries) ≡ has_entry k i entries → has i (map id_of (cond b (e ∷ filter (λ e. eqb (key_of e) k) entries) (filter (λ e. eqb (key_of e) k) entries))) ≡ ((b && eqb (id_of e) i) || has_entry k i entries)
    by_test true more = ap (λ b. eqb (id_of e) i || b) more
    by_test false more = more

ids_rise : (k n m : ℕ) (entries : List ℕ) → InOrderFrom (λ n. n) n entries → m ≤ n - entry k 0 → InOrderFrom (λ n. n) m (ids_of k entries)
ids_rise k n m [] h le = tt
ids_rise k n m (e ∷ es) h le = by_key (eqb_tells (key_of e) k) (λ is. ids_rise k (e + 1) (id_of e + 1) es h.1 (omega (arith, inside is))) (ids_rise k (e + 1) m es h.1 (omega (arith, le, h.0)))
  where
    inside : key_of e ≡ k → e ≡ entry k (id_of e)
    inside is = grind (arith, is)

    by_key : ((eqb (key_of e) k ≡ true) × (key_of e ≡ k)) ⊎ ((eqb (key_of e) k ≡ false) × (key_of e ≢ k)) → (key_of e ≡ k → InOrderFrom (λ n. n) (id_of e + 1) (ids_of k es)) → InOrderFrom (λ n. n) m (ids_of k es) → InOrderFrom (λ n. n) m (ids_of k (e ∷ es))
    by_key (inl t) more rest = rw t.0 (omega (arith, le, h.0, inside t.1), more t.1)
    by_key (inr t) more rest = rw t.0 rest

-- rise, where the entries do
pub ids_of_rise : (k : ℕ) (entries : List ℕ) → AreInOrder (λ n. n) entries → AreInOrder (λ n. n) (ids_of k entries)
ids_of_rise k entries h = ids_rise k 0 0 entries h (omega arith)

-- the entries between those of a key and those of the next are those of the key
pub of_key_is : (k : ℕ) (entries : List ℕ) → filter (is_between (entry k 0) (entry (k + 1) 0)) entries ≡ filter (λ e. eqb (key_of e) k) entries
of_key_is k [] = refl
of_key_is k (e ∷ es) = rw (within e) (ap (λ l. cond (eqb (key_of e) k) (e ∷ l) l) (of_key_is k es))
  where
    within : (e : ℕ) → is_between (entry k 0) (entry (k + 1) 0) e ≡ eqb (key_of e) k
    within e = grind (arith, nat_tests)

-- the entries between the first ones of two keys are those of the keys between
pub between_is : (m n : ℕ) (entries : List ℕ) → filter (is_between (entry m 0) (entry n 0)) entries ≡ filter (λ e. is_between m n (key_of e)) entries
between_is m n [] = refl
between_is m n (e ∷ es) = rw (within e) (ap (λ l. cond (is_between m n (key_of e)) (e ∷ l) l) (between_is m n es))
  where
    within : (e : ℕ) → is_between (entry m 0) (entry n 0) e ≡ is_between m n (key_of e)
    within e = grind (arith, nat_tests)

-- one entry on, where those of an id go and the others move up
pub passed_by : (id : ℕ) (es : List ℕ) (kept at e : ℕ) → at < length es → get_or es at e ≡ e → id_of e ≡ id → take kept es ++ without_id id (drop (at + 1) es) ≡ take kept es ++ without_id id (drop at es)
passed_by id es kept at e lt read is =
    let there : drop at es ≡ e ∷ drop (at + 1) es = drop_more es at e lt ∙ ap (λ x. x ∷ drop (at + 1) es) read in
    ap (λ l. take kept es ++ l) (gone (drop (at + 1) es) ∙ ap (without_id id) (sym there))
  where
    gone : (rest : List ℕ) → without_id id rest ≡ without_id id (e ∷ rest)
    gone rest = grind (arith, nat_tests)

pub moved_up : (id : ℕ) (es : List ℕ) (kept at e : ℕ) → at < length es → kept ≤ at → get_or es at e ≡ e → id_of e ≢ id → take (kept + 1) (set es kept e) ++ without_id id (drop (at + 1) (set es kept e)) ≡ take kept es ++ without_id id (drop at es)
moved_up id es kept at e lt le read is =
    let front : take (kept + 1) (set es kept e) ≡ take kept es ++ e ∷ [] = take_more_set es kept e (omega arith) in
    let behind : drop (at + 1) (set es kept e) ≡ drop (at + 1) es = drop-set-lt (at + 1) es kept e (omega arith) in
    let there : drop at es ≡ e ∷ drop (at + 1) es = drop_more es at e lt ∙ ap (λ x. x ∷ drop (at + 1) es) read in
    rw (front, behind, append_assoc) (ap (λ l. take kept es ++ l) (stays (drop (at + 1) es) ∙ ap (without_id id) (sym there)))
  where
    stays : (rest : List ℕ) → e ∷ without_id id rest ≡ without_id id (e ∷ rest)
    stays rest = grind (arith, nat_tests)

-- the last one goes
pub shorter : (kept last : ℕ) (es : List ℕ) → kept ≤ last → last < length es → take kept (remove es last) ≡ take kept es
shorter kept last es le lt = take-append-le kept (take last es) (drop (suc last) es) (omega (arith, length-take last es)) ∙ take-take kept last es le

-- an id among those that are lent
pub lent_count : (es : List ℕ) (first end : ℕ) → first ≤ end → end ≤ length es → length (map id_of (take (end - first) (drop first es))) ≡ end - first
lent_count es first end le within = length-map (take (end - first) (drop first es)) id_of ∙ length-take (end - first) (drop first es) ∙ omega (arith, length-drop first es)

pub lent_at : (es : List ℕ) (first end place d : ℕ) → first ≤ end → end ≤ length es → place < end - first → get_or (map id_of (take (end - first) (drop first es))) place d ≡ id_of (get_or es (first + place) 0)
lent_at es first end place d le within lt =
    let short = take (end - first) (drop first es) in
    let inside : place < length short = omega (arith, length-take (end - first) (drop first es), length-drop first es) in
    get_or-map id_of short place 0 d inside ∙ ap id_of (get_or-take (end - first) (drop first es) place 0 lt ∙ get_or-drop first es place 0)
