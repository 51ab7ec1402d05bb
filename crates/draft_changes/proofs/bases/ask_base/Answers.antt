use Rattle.std.proofs.Common.{◌≡◌, List, sym, ap, ◌∙◌, subst, arith}
use Rattle.base_tables.proofs.Places.{insert_is_with_row}
use Rattle.model_catalogue.specs.CatalogueLists.{CatalogueLists}
use Rattle.draft_changes.specs.declared.bases.Base.{Base}
use Rattle.draft_counts.specs.Counts.{value_at}
use Rattle.draft_changes.specs.Used.{places_used, IsBase, AreBases}
use Rattle.draft_changes.proofs.Asked.{known_more}
use Rattle.draft_changes.proofs.Standing.{quota_stands, value_there}
use Rattle.draft_changes.proofs.bases.ask_base.Goals as goal

pub returns-in_ok-insert-in-Err : goal.returns-in_ok-insert-in-Err
returns-in_ok-insert-in-Err g c =
    let lists = (g.B.Book.state c.args.book.now).lists in
    let quotas = c.quotas-quotas.result.now in
    let quota = c.index-quotas-index.result in
    let sold : quotas ≡ lists.catalogue.quotas = c.quotas-quotas.ensures ∙ ap (λ (k : CatalogueLists). k.quotas) c.catalogue-catalogue.ensures in
    let new : Base = record { place = c.args.place; total = c.used_in_book-total.result } in
    let value : new.total ≡ value_at 0 (places_used lists c.args.at) lists.catalogue.quotas c.args.place =
    c.used_in_book-total.ensures.value ∙ sym (value_there (places_used lists c.args.at) quotas lists.catalogue.quotas c.args.place quota sold (omega arith) c.index-quotas-index.is) in
    let base : IsBase lists c.args.at lists.catalogue.quotas c.args.place new = record { value = value; few = c.used_in_book-total.ensures.few } in
    let is = c.in_ok-insert-in-Err.ensures.items ∙ insert_is_with_row (λ (b : Base). b.place) _ _ c.in-Err.gap (rw c.deref.ensures.value at c.in-Err.ensures.absent) in
    subst (λ (l : List Base). AreBases lists c.args.at l) (sym is) (known_more lists c.args.at c.args.bases.now.items new base c.requires.known)

pub used_in_book-total-requires-clause-stands : goal.used_in_book-total-requires-clause-stands
used_in_book-total-requires-clause-stands g c =
    quota_stands c.catalogue-catalogue.result.now.lists (g.B.Book.state c.args.book.now).lists.catalogue c.quotas-quotas.result.now c.index-quotas-index.result c.args.place c.catalogue-catalogue.ensures
    (c.quotas-quotas.ensures ∙ ap (λ (k : CatalogueLists). k.quotas) c.catalogue-catalogue.ensures)
    c.recall_invariant.ensures.in_order (omega arith) c.index-quotas-index.is
