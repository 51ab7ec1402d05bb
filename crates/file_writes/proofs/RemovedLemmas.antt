-- What the statements that remove by another column do.
use Rattle.std.proofs.Common.{◌≡◌, ◌==◌, ◌-◌, ◌≤◌, ◌<◌, ◌+◌, nat_lt, not, Bool, true, List, [], ◌∷◌, ℕ, ℤ, codes, Ok, refl, sym, ap, subst, ◌∙◌, pos, filter, arith}
use Rattle.std.specs.Ordering.{int_cmp}
use Rattle.std.proofs.lemmas.Bool.Decides.{nat_tests}
use Rattle.std.proofs.lemmas.Int.{ints}
use Rattle.sqlite_value.specs.declared.value.Value.TheVariants.{Int}
use Rattle.sqlite_value.specs.Order.{Row, column}
use Rattle.sqlite_value.proofs.OrderLemmas.{value_cmp-Int}
use Rattle.sqlite_sql.specs.Ops.{is_true, binary, test}
use Rattle.sqlite_sql.specs.Term.{Term, col, op2}
use Rattle.sqlite_sql.specs.declared.ops.BinaryOp.TheVariants.{Compare}
use Rattle.sqlite_sql.specs.declared.ops.CompareOp.TheVariants.{Le}
use Rattle.sqlite_schema.specs.declared.command.Command.TheVariants.{Delete}
use Rattle.sqlite_tied.specs.Compute.{everything}
use Rattle.sqlite.specs.Collation.TheVariants.{Binary}
use Rattle.sqlite.specs.Listing.{understood}
use Rattle.sqlite.specs.State.{State, Executes}
use Rattle.sqlite.proofs.Callers.{IsPlain, command_of}
use Rattle.model_answers.specs.KeptAnswers.{lasts}
use Rattle.file_schema.specs.Tables.{schema, kept_table}
use Rattle.file_schema.specs.Parts.{row_shown}
use Rattle.file_schema.specs.Shapes.{over, plainly, by_owner}
use Rattle.file_schema.proofs.Answered.{passes}
use Rattle.file_schema.proofs.Generic.{asked}
use Rattle.file_schema.proofs.Keyed.{same_filter, truth_back}
use Rattle.file_schema.proofs.Owner.{passes_owner, stays_true}
use Rattle.file_rows.specs.declared.rows.KeptRow.{KeptRow}
use Rattle.file_rows.specs.Cells.{number}
use Rattle.file_rows.specs.Rows.{kept_row}
use Rattle.file_rows.specs.Tables.{Tables, Holds, parts}
use Rattle.file_rows.specs.Changes.{IsInside, ChangesFit}
use Rattle.file_writes.specs.Removed.{AreApart, IsDeleteByOwner, of_others, without_past}
use Rattle.file_writes.proofs.Removed.{removes_where, twice}

-- ---- by the owner

module _ (sql : List ℕ) {A : Type 0} (row : A → Row) (number_of owner : A → ℕ) (rows : Tables → List A) (put : List A → Tables → Tables) (is : IsDeleteByOwner sql row number_of owner rows put) where
  pub removes_owned : (id count : ℕ) (old new : State) → IsInside old → new.step_limit ≡ old.step_limit → Executes sql (number id ∷ []) old new (Ok count) → ChangesFit (λ t. AreApart number_of (rows t)) (λ t. put (of_others owner id (rows t)) t) old new
  removes_owned id count old new at limit h =
      removes_where is.at is.table is.plain sql is.asks.1 old new at limit row number_of is.numbered rows (is.owned.holds old.now.trees) (λ t. refl) by_owner (number id ∷ []) (λ w. owner w == id)
      (λ r w e. passes_owner id (owner w) r (sym (is.owned.begins r) ∙ ap (λ (x : Row). column x 1) e ∙ is.owned.owned w)) (asked (understood schema sql) _ is.asks.0) count h (λ t. put (of_others owner id (rows t)) t) (λ t. is.puts (of_others owner id (rows t)) t)

-- ---- what is past

abbrev past_test : List Term
past_test = op2 (Compare Le Binary) (col 1 3) (col 0 0) ∷ []

at_most : (a b : ℤ) → is_true (binary (Compare Le Binary) (Int a) (Int b)) ≡ test Le (int_cmp a b)
unfolding binary
at_most a b = truth_back _ ∙ ap (test Le) (value_cmp-Int a b)

is_past : (at since : ℕ) → 86400 ≤ at → test Le (int_cmp (pos since) (pos (at - 86400))) ≡ not (lasts at since)
is_past at since late = grind (arith, ints, nat_tests)

abbrev pub forget_text : List ℕ
forget_text = codes "DELETE FROM kept WHERE first_moment <= ?1"

forget_is : (command_of (understood schema forget_text) ≡ Delete 16 (plainly (over 24 past_test (col 1 0 ∷ []) []))) × IsPlain (understood schema forget_text)
unfolding understood everything
forget_is = (refl, (refl, refl))

abbrev gone : ℕ → KeptRow → Bool
gone at w = not (lasts at w.kept.at)

passes_past : (at : ℕ) → 86400 ≤ at → (r : Row) (w : KeptRow) → row_shown schema 24 r ≡ kept_row w → passes past_test (number (at - 86400) ∷ []) r ≡ gone at w
passes_past at late r w e =
    let since : column r 3 ≡ number w.kept.at = ap (λ (x : Row). column x 3) e in
    stays_true _ ∙ ap (λ v. is_true (binary (Compare Le Binary) v (number (at - 86400)))) since ∙ at_most (pos w.kept.at) (pos (at - 86400)) ∙ is_past at w.kept.at late

stay : (at : ℕ) (rows : List KeptRow) → filter (λ r. lasts at r.kept.at) rows ≡ filter (λ r. not (gone at r)) rows
stay at rows = same_filter (λ (r : KeptRow). lasts at r.kept.at) (λ r. not (gone at r)) (λ r. sym (twice (lasts at r.kept.at))) rows

pub forgets : (old new : State) → IsInside old → new.step_limit ≡ old.step_limit → (at : ℕ) → 86400 ≤ at → (count : ℕ) → Executes forget_text (number (at - 86400) ∷ []) old new (Ok count) → ChangesFit (λ t. AreApart (λ r. r.rowid) t.kept) (without_past at) old new
forgets old new inside limit at late count h =
    removes_where 16 kept_table (record { placed = refl; uncounted = refl; unstamped = refl; restricts = refl }) forget_text forget_is.1 old new inside limit kept_row (λ r. r.rowid) (λ r. refl) (λ t. t.kept) (λ t h. h.1.1.1.1.1.1.1.1.1.1.1.1.1.1.1.1.0) (λ t. refl)
    past_test (number (at - 86400) ∷ []) (gone at) (passes_past at late) forget_is.0 count h (without_past at) (λ t. ap (λ (l : List KeptRow). parts (record t { kept = l })) (stay at t.kept))

all_stay : {A : Type 0} (p : A → Bool) → ((a : A) → p a ≡ true) → (xs : List A) → filter p xs ≡ xs
all_stay p all [] = refl
all_stay p all (a ∷ xs) = rw (all a, all_stay p all xs)

-- before the first day has gone nothing is past
pub forgets_nothing : (old : State) (at : ℕ) → IsInside old → at < 86400 → ChangesFit (λ t. AreApart (λ r. r.rowid) t.kept) (without_past at) old old
forgets_nothing old at inside early = record {
  known = inside.known;
  inside = inside.inside;
  committed = refl;
  listed = λ d. d;
  holds = λ t apart held. subst (λ (l : List KeptRow). Holds old.now.trees (record t { kept = l })) (sym (all_stay (λ (r : KeptRow). lasts at r.kept.at) (λ r. soon r.kept.at) t.kept)) held;
}
  where
    soon : (since : ℕ) → nat_lt at (since + 86400) ≡ true
    soon since = grind (arith, nat_tests)
