-- What the statements of a described table do.
use Rattle.std.proofs.Common.{◌≡◌, ◌∷◌, ℕ, zero, suc, List, [], ap, subst, Some}
use Rattle.std.specs.List.{slice_get}
use Rattle.sqlite_value.specs.Order.{Row}
use Rattle.sqlite_trees.specs.Tree.{Trees, rowid}
use Rattle.file_schema.specs.Tables.{schema}
use Rattle.file_schema.specs.Parts.{Part, HoldsPart, HoldParts}
use Rattle.file_rows.specs.Tables.{Tables, parts}
use Rattle.file_schema.specs.Described.{Described, table_of, insert_text, update_text, delete_text}
use Rattle.file_writes.specs.Asked.{IsAsked, AreKept, width_of, update_terms, stored_in}
use Rattle.file_writes.specs.Statements.{AreStatementsOf}

pub held_in : (db : Trees) (ps : List Part) (at : ℕ) (p : Part) → slice_get ps at ≡ Some p → HoldParts schema db ps → HoldsPart schema db p
held_in db [] at p is held = absurd cc
held_in db (q ∷ ps) zero p is held = let same : q ≡ p = cc in subst (HoldsPart schema db) same held.0
held_in db (q ∷ ps) (suc at) p is held = held_in db ps at p is held.1

pub statements_are : {A : Type 0} (d : Described) (at : ℕ) (row : A → Row) (key : A → ℕ) (with_row : A → Tables → Tables) (without_row : ℕ → Tables → Tables) → IsAsked d at → AreKept d at row key with_row without_row
    → AreStatementsOf row key with_row without_row (insert_text d) (update_text d) (delete_text d)
statements_are d at row key with_row without_row asked kept = record {
  at = at;
  table = table_of d;
  rows = kept.rows;
  is = record { plain = asked.plain; holds = λ db t h. held_in db (parts t) at _ (kept.stands t) h; numbered = kept.numbered };
  adds = kept.adds;
  takes = kept.takes;
  behind = λ w. stored_in d.key (Rattle.std.specs.Prelude.drop 1 (row w));
  begins = λ w. (_, kept.begins w);
  stays = kept.stays;
  shows = kept.shows;
  terms = _;
  width = width_of d;
  inserts = asked.inserts;
  fills = kept.fills;
  project = update_terms d;
  updates = asked.updates;
  sets = λ w r. ap (λ l. rowid r ∷ rowid r ∷ l) (kept.sets w r);
  removes = asked.removes;
}
