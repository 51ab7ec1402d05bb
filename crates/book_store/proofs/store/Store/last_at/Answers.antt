use Rattle.std.proofs.Common.{◌≡◌, ℕ, ◌+◌, ◌<◌, List, ◌++◌, length, get_or, drop, Option, Some, None, refl, sym, ap, ◌∙◌, arith}
use Rattle.base_tables.specs.Tables.{row_at}
use Rattle.model_rows.specs.declared.rows.Checkin.{Checkin}
use Rattle.model_rows.specs.declared.passages.Passage.{Passage}
use Rattle.model_rows.specs.Conditions.{names}
use Rattle.model_rows.specs.Passages.{last_after}
use Rattle.book_indexes.specs.Keys.{checkin_keys}
use Rattle.book_store.specs.Walks.{row_as_list, rows_of}
use Rattle.book_store.proofs.Listed.{rows_next, rows_end, rows_found}
use Rattle.book_store.proofs.store.Store.last_at.Goals as goal

-- one check-in and the others after it
one_first : (last : Option Passage) (o : Option Checkin) (rest : List Checkin) → last_after (last_after last (row_as_list o)) rest ≡ last_after last (row_as_list o ++ rest)
one_first last None rest = refl
one_first last (Some c) rest = refl

one_more : (rows : List Checkin) (ids : List ℕ) (i x : ℕ) (last now all : Option Passage) → last_after last (rows_of (λ r. r.id) (drop i ids) rows) ≡ all → i < length ids → ((d : ℕ) → get_or ids i d ≡ x) → now ≡ last_after last (row_as_list (row_at (λ r. r.id) x rows)) → last_after now (rows_of (λ r. r.id) (drop (i + 1) ids) rows) ≡ all
one_more rows ids i x last now all left lt at is =
    let rest : List Checkin = rows_of (λ r. r.id) (drop (i + 1) ids) rows in
    ap (λ (l : Option Passage). last_after l rest) is
    ∙ one_first last (row_at (λ r. r.id) x rows) rest
    ∙ ap (last_after last) (sym (rows_next (λ r. r.id) rows ids i x lt at))
    ∙ left

pub loop-place-preserved : goal.loop-place-preserved
loop-place-preserved c = one_more c.args.self.now.state.lists.checkins c.naming-ids.result c.loop-place.place c.at.result _ _ _ c.loop-place.invariant (omega (arith, c.len-place-end.ensures, c.loop-place-test.true)) c.at.ensures c.later_of-last.ensures

pub returns : goal.returns
returns c =
    let rows = c.args.self.now.state.lists.checkins in
    ap (last_after c.loop-place.last) (sym (rows_end (λ (r : Checkin). r.id) rows c.naming-ids.result c.loop-place.place (omega (arith, c.len-place-end.ensures, c.loop-place-test.false))))
    ∙ c.loop-place.invariant
    ∙ ap (last_after None) (rows_found (λ (r : Checkin). r.id) rows (λ (r : Checkin). names c.args.position (checkin_keys r).named) c.naming-ids.result c.recall_invariant.ensures.checkins.in_order (rw c.checkins.ensures at c.naming-ids.ensures.all))
