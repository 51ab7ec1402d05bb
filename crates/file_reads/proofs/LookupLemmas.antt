-- A SELECT by a test: from the rows of the tree to the values of the table.
use Rattle.std.proofs.Common.{◌≡◌, ℕ, pos, sym, ◌==◌, ◌&&◌, Bool, true, false, cond, List, [], ◌∷◌, map, filter, refl, ap, subst, ◌∙◌, codes, bytes_eq}
use Rattle.std.specs.List.Sorted.{IsPermutation}
use Rattle.std.specs.Ordering.{is_eq}
use Rattle.std.proofs.lemmas.List.Sorted.{IsPermutation-sym, IsPermutation-trans, IsPermutation-map}
use Rattle.std.proofs.lemmas.Map.Text.{is_eq-slice_cmp}
use Rattle.sqlite_value.specs.declared.value.Value.TheVariants.{Blob}
use Rattle.sqlite_value.specs.Order.{Row, column}
use Rattle.sqlite_value.proofs.OrderLemmas.{value_cmp-Int, value_cmp-Blob}
use Rattle.sqlite_trees.proofs.ListLemmas.{pull_back, IsPermutation-filter}
use Rattle.sqlite_sql.specs.Ops.{is_true, binary}
use Rattle.sqlite_sql.specs.Term.{Term, col}
use Rattle.sqlite_sql.specs.declared.ops.BinaryOp.TheVariants.{Compare}
use Rattle.sqlite_sql.specs.declared.ops.CompareOp.TheVariants.{Eq}
use Rattle.sqlite_schema.specs.declared.command.Command.TheVariants.{Select}
use Rattle.sqlite_resolve.specs.Compile.{first}
use Rattle.sqlite_tied.specs.Compute.{everything}
use Rattle.sqlite.specs.Collation.TheVariants.{Binary}
use Rattle.sqlite.specs.Listing.{understood, reads_listing}
use Rattle.sqlite.specs.State.{State, Shown}
use Rattle.file_schema.specs.Tables.{schema}
use Rattle.file_schema.specs.Parts.{row_shown}
use Rattle.file_schema.specs.Shapes.{AsksFor, over, plainly, equals, by_owner}
use Rattle.file_schema.proofs.Answered.{passes}
use Rattle.file_schema.proofs.Keyed.{equals_rowid, truth_back}
use Rattle.file_schema.proofs.Owner.{passes_owner, same_number, stays_true}
use Rattle.file_rows.specs.declared.rows.KeptRow.{KeptRow}
use Rattle.file_rows.specs.declared.rows.Token.{Token}
use Rattle.file_rows.specs.Cells.{number}
use Rattle.file_rows.specs.Rows.{kept_row, token_row}
use Rattle.file_rows.specs.Tables.{Tables, Holds}
use Rattle.file_reads.specs.Lookups.{is_under, has_digest}
use Rattle.file_reads.specs.Select.{IsSelect, IsSelectByOwner}
use Rattle.file_reads.proofs.Back.{alike, kept_in, kept_back, token_in, token_back}
use Rattle.file_reads.proofs.Loads.{selects}
use Rattle.file_reads.proofs.Queries.{is_query, query_reads}

same_bytes : (a b : List ℕ) → is_true (binary (Compare Eq Binary) (Blob a) (Blob b)) ≡ bytes_eq a b
unfolding binary
same_bytes a b = truth_back _ ∙ ap is_eq (value_cmp-Blob a b) ∙ is_eq-slice_cmp a b

module _ {A : Type 0} (row : A → Row) (back : Row → A) (law : (a : A) → back (row a) ≡ a) (show : Row → Row) (test : Row → Bool) (asked : A → Bool) (passes_as : (r : Row) (w : A) → show r ≡ row w → test r ≡ asked w) where
  found : (tree : List Row) (xs : List A) → map show tree ≡ map row xs → map show (filter test tree) ≡ map row (filter asked xs)
  found [] [] all = refl
  found [] (w ∷ xs) all = absurd cc
  found (r ∷ tree) [] all = absurd cc
  found (r ∷ tree) (w ∷ xs) all =
      let here : show r ≡ row w = cc in
      let more : map show tree ≡ map row xs = cc in
      let rest = found tree xs more in
      let left = filter test tree in
      let stay = filter asked xs in
      let step : map show (cond (asked w) (r ∷ left) left) ≡ map row (cond (asked w) (w ∷ stay) stay) =
      elim (asked w) as (λ b. map show (cond b (r ∷ left) left) ≡ map row (cond b (w ∷ stay) stay)) [
        | true ↦ ap (λ (x : Row). x ∷ map show left) here ∙ ap (λ (l : List Row). row w ∷ l) rest
        | false ↦ rest
      ] in
      ap (λ b. map show (cond b (r ∷ left) left)) (passes_as r w here) ∙ step

  -- what is shown of the rows that pass is what passes of the table's values
  looked_up : (tree : List Row) (xs all : List A) → IsPermutation (map row xs) (map show tree) → IsPermutation (map show (filter test tree)) (map row all) → IsPermutation all (filter asked xs)
  looked_up tree xs all holds came =
      let from = pull_back row (map row xs) (map show tree) holds xs refl in
      let mid : IsPermutation (map row (filter asked from.0)) (map row all) = subst (λ l. IsPermutation l (map row all)) (found tree from.0 from.2) came in
      let first : IsPermutation (map row (filter asked xs)) (map row (filter asked from.0)) = IsPermutation-map row _ _ (IsPermutation-filter asked xs from.0 from.1) in
      alike row back law all (filter asked xs) (map row all) (Rattle.std.proofs.lemmas.List.Sorted.IsPermutation-refl (map row all)) (IsPermutation-trans _ _ _ first mid)

-- ---- kept answers by token and key

abbrev pub kept_text : List ℕ
kept_text = codes "SELECT rowid, token_id, request_key, first_moment, status, allow, body FROM kept WHERE token_id = ?1 AND request_key = ?2"

abbrev pub key_test : List Term
key_test = equals (col 1 1) (col 0 0) ∷ equals (col 1 2) (col 0 1) ∷ []

abbrev kept_columns : List Term
kept_columns = col 1 0 ∷ col 1 1 ∷ col 1 2 ∷ col 1 3 ∷ col 1 4 ∷ col 1 5 ∷ col 1 6 ∷ []

kept_reads : AsksFor (Select (plainly (over 24 key_test kept_columns []))
    (codes "rowid" ∷ codes "token_id" ∷ codes "request_key" ∷ codes "first_moment" ∷ codes "status" ∷ codes "allow" ∷ codes "body" ∷ [])) kept_text × (reads_listing schema kept_text ≡ false)
unfolding understood everything
kept_reads = ((refl, (refl, refl)), refl)

kept_asks : is_query (first kept_text) ≡ true
unfolding everything
kept_asks = refl

pub kept_is : IsSelect kept_text 24 key_test
kept_is = record { project = kept_columns; order = []; names = _; asks = kept_reads.0; unlisted = kept_reads.1; shows = λ params r. refl; reads = query_reads kept_text kept_asks }

passes_key : (token : ℕ) (key : List ℕ) (r : Row) (w : KeptRow) → row_shown schema 24 r ≡ kept_row w → passes key_test (number token ∷ Blob key ∷ []) r ≡ is_under token key w
passes_key token key r w e =
    let t : column r 1 ≡ number w.kept.token = ap (λ (x : Row). column x 1) e in
    let k : column r 2 ≡ Blob w.kept.key = ap (λ (x : Row). column x 2) e in
    let first : is_true (binary (Compare Eq Binary) (column r 1) (number token)) ≡ (w.kept.token == token) =
    ap (λ v. is_true (binary (Compare Eq Binary) v (number token))) t ∙ equals_rowid (number w.kept.token) (pos token) ∙ ap is_eq (value_cmp-Int (pos w.kept.token) (pos token)) ∙ same_number w.kept.token token in
    let second : is_true (binary (Compare Eq Binary) (column r 2) (Blob key)) ≡ bytes_eq w.kept.key key = ap (λ v. is_true (binary (Compare Eq Binary) v (Blob key))) k ∙ same_bytes w.kept.key key in
    ap (λ b. is_true (binary (Compare Eq Binary) (column r 1) (number token)) && b) (stays_true _ ∙ second) ∙ ap (λ b. b && bytes_eq w.kept.key key) first

pub finds_kept : (token : ℕ) (key : List ℕ) (old new : State) → old.now.schema ≡ schema → (all : List KeptRow) → Shown kept_text (number token ∷ Blob key ∷ []) old new (map kept_row all)
    → (t : Tables) → Holds old.now.trees t → IsPermutation all (filter (is_under token key) t.kept)
finds_kept token key old new known all h t held =
    let params = number token ∷ Blob key ∷ [] in
    looked_up kept_row kept_in kept_back (row_shown schema 24) (passes key_test params) (is_under token key) (passes_key token key) (old.now.trees 24) t.kept all held.1.1.1.1.1.1.1.1.1.1.1.1.1.1.1.1.0
    (selects kept_text 24 key_test kept_is params old new known (map kept_row all) h)

-- ---- tokens by digest

abbrev pub token_text : List ℕ
token_text = codes "SELECT id, digest FROM tokens WHERE digest = ?1"

abbrev pub digest_test : List Term
digest_test = equals (col 1 2) (col 0 0) ∷ []

token_reads : AsksFor (Select (plainly (over 22 digest_test (col 1 0 ∷ col 1 2 ∷ []) [])) (codes "id" ∷ codes "digest" ∷ [])) token_text × (reads_listing schema token_text ≡ false)
unfolding understood everything
token_reads = ((refl, (refl, refl)), refl)

token_asks : is_query (first token_text) ≡ true
unfolding everything
token_asks = refl

pub token_is : IsSelect token_text 22 digest_test
token_is = record { project = col 1 0 ∷ col 1 2 ∷ []; order = []; names = _; asks = token_reads.0; unlisted = token_reads.1; shows = λ params r. refl; reads = query_reads token_text token_asks }

passes_digest : (digest : List ℕ) (r : Row) (w : Token) → row_shown schema 22 r ≡ token_row w → passes digest_test (Blob digest ∷ []) r ≡ has_digest digest w
passes_digest digest r w e =
    let k : column r 2 ≡ Blob w.digest = ap (λ (x : Row). column x 1) e in
    stays_true _ ∙ ap (λ v. is_true (binary (Compare Eq Binary) v (Blob digest))) k ∙ same_bytes w.digest digest

pub finds_token : (digest : List ℕ) (old new : State) → old.now.schema ≡ schema → (all : List Token) → Shown token_text (Blob digest ∷ []) old new (map token_row all)
    → (t : Tables) → Holds old.now.trees t → IsPermutation all (filter (has_digest digest) t.tokens)
finds_token digest old new known all h t held =
    let params = Blob digest ∷ [] in
    looked_up token_row token_in token_back (row_shown schema 22) (passes digest_test params) (has_digest digest) (passes_digest digest) (old.now.trees 22) t.tokens all held.1.1.1.1.1.1.1.1.1.1.1.1.1.1.1.0
    (selects token_text 22 digest_test token_is params old new known (map token_row all) h)

-- ---- members by their owner

module _ (sql : List ℕ) (tree : ℕ) {A : Type 0} (row : A → Row) (owner : A → ℕ) (rows : Tables → List A) (is : IsSelectByOwner sql tree row owner rows) where
  pub finds_owned : (id : ℕ) (old new : State) → old.now.schema ≡ schema → (all : List A) → Shown sql (number id ∷ []) old new (map row all) → (t : Tables) → Holds old.now.trees t → IsPermutation all (filter (λ w. owner w == id) (rows t))
  finds_owned id old new known all h t held =
      let params = number id ∷ [] in
      looked_up row is.back is.told (row_shown schema tree) (passes by_owner params) (λ w. owner w == id) (λ r w e. passes_owner id (owner w) r (sym (is.owned.begins r) ∙ ap (λ (x : Row). column x 1) e ∙ is.owned.owned w))
      (old.now.trees tree) (rows t) all (is.owned.holds old.now.trees t held) (selects sql tree by_owner is.select params old new known (map row all) h)
