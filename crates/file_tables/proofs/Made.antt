-- A shop's file that was just made.
use Rattle.std.proofs.Common.{◌≡◌, ℕ, List, [], IsTrue, refl, sym, ap, subst, ◌∙◌, arith}
use Rattle.sqlite_trees.specs.Tree.{Trees}
use Rattle.sqlite.specs.Effect.{Database}
use Rattle.sqlite.specs.State.{State as Connected}
use Rattle.base_values.specs.Slugs.{IsSlug}
use Rattle.file_rows.specs.declared.rows.ShopRow.{ShopRow}
use Rattle.file_rows.specs.Tables.{Holds}
use Rattle.file_schema.specs.Whole.{IsWritten}
use Rattle.file_tables.specs.Begun.{IsBegun, first_tables}
use Rattle.file_tables.proofs.Begins.{begins_empty, begins_free}
use Rattle.file_meaning.specs.Typed.{IsTypedShop}
use Rattle.file_meaning.proofs.Typed.{first_typed}
use Rattle.file_tables.specs.Made.{first_shop, nothing_yet, IsMade}
use Rattle.file_tables.specs.Shops.{Tells, house_of_rows}
use Rattle.file_tables.proofs.ShopLemmas.{declared}

module _ (organizer event : List ℕ) (old new : Connected) where
  abbrev first : ShopRow
  first = first_shop organizer event

  typed_so : IsSlug organizer → IsSlug event → IsTypedShop first (first_tables first)
  typed_so org ev = first_typed first refl org ev (record { from_one = omega arith; within = omega arith })

  told : (db : Trees) → Holds db (first_tables first) → Tells db first (house_of_rows first [])
  told db held = record { tables = first_tables first; held = held; shop_is = refl; told = refl }

  -- of an open connection a crash leaves the last commit
  pub is_made : ((db : Trees) → IsTrue new.is_open → new.may_leave db → db ≡ new.committed.trees) → IsSlug organizer → IsSlug event → (head : ShopRow) → head ≡ first → IsWritten (λ db after. IsBegun first after) old new → IsMade first old head 1 new
  unfolding told
  is_made law org ev head is w = subst (λ h. IsMade first old h 1 new) (sym is) (record {
    was_open = w.was_open;
    is_open = w.is_open;
    head_is = refl;
    next_is = refl;
    known = w.turned.known;
    held = w.turned.held;
    holds = λ is_open. record {
      known = w.turned.known;
      outside = w.outside;
      settled = w.settled;
      tables = first_tables first;
      held = w.turned.held;
      stand = begins_empty first refl refl;
      typed = typed_so org ev;
      free = begins_free first 1;
    };
    knows = record {
      now = λ is_open. record { known = w.turned.known; tells = told new.now.trees w.turned.held; free = begins_free first 1 };
      left = λ trees may.
          let db : trees ≡ new.now.trees = law trees w.is_open may ∙ sym (ap (λ (d : Database). d.trees) w.settled) in
          (declared new.now trees w.listed w.turned.known db, (first, told trees (subst (λ d. Holds d (first_tables first)) (sym db) w.turned.held)));
    };
    leaves = λ left l.
        let db : l.trees ≡ new.now.trees = law l.trees w.is_open l.may ∙ sym (ap (λ (d : Database). d.trees) w.settled) in
        l.only first (first_tables first) nothing_yet (subst (λ d. Holds d (first_tables first)) (sym db) w.turned.held) (begins_empty first refl refl) (typed_so org ev);
  })
