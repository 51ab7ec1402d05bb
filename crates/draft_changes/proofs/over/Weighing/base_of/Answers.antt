use Rattle.std.proofs.Common.{List, get_or, sym, ap, ◌∙◌}
use Rattle.std.proofs.lemmas.List.{get_or_default}
use Rattle.base_tables.proofs.Places.{row_at_place}
use Rattle.model_catalogue.specs.declared.rows.Quota.{Quota}
use Rattle.model_rows.specs.Lists.{Lists}
use Rattle.draft_changes.specs.declared.bases.Base.{Base}
use Rattle.draft_changes.specs.Used.{places_used, IsBase}
use Rattle.draft_counts.specs.Counts.{value_at}
use Rattle.draft_counts.proofs.Values.{value_here}
use Rattle.draft_changes.proofs.Standing.{quota_stands}
use Rattle.draft_changes.proofs.over.Weighing.base_of.Goals as goal

pub returns-in-Ok-clause-value : goal.returns-in-Ok-clause-value
returns-in-Ok-clause-value g c d =
    let w = c.args.self.now in
    let lists = w.overlay.now.base in
    let base : Base = get_or w.bases.now c.in-Ok.found (record { place = 0; total = 0 }) in
    let is : IsBase lists w.at lists.catalogue.quotas c.args.place base = w.asked.are c.args.place base (row_at_place (λ (b : Base). b.place) 0 w.bases.now c.args.place c.in-Ok.found _ w.asked.in_order c.in-Ok.ensures.found) in
    is.value
    ∙ ap (λ (qs : List Quota). value_at 0 (places_used lists w.at) qs c.args.place) (sym w.sold)
    ∙ value_here 0 (places_used lists w.at) w.quotas.now c.args.place d c.requires

pub returns-in-Ok-clause-few : goal.returns-in-Ok-clause-few
returns-in-Ok-clause-few g c =
    let w = c.args.self.now in
    let base : Base = get_or w.bases.now c.in-Ok.found (record { place = 0; total = 0 }) in
    (w.asked.are c.args.place base (row_at_place (λ (b : Base). b.place) 0 w.bases.now c.args.place c.in-Ok.found _ w.asked.in_order c.in-Ok.ensures.found)).few

pub returns-in-Err-clause-value : goal.returns-in-Err-clause-value
returns-in-Err-clause-value g c d =
    let w = c.args.self.now in
    let quota = c.index-quotas-place.result in
    c.used_in_book.ensures.value
    ∙ ap (λ (l : Lists). places_used l w.at quota) (sym w.base)
    ∙ ap (places_used w.overlay.now.base w.at) (c.index-quotas-place.is ∙ get_or_default w.quotas.now c.args.place quota d c.requires)

pub used_in_book-requires-clause-stands : goal.used_in_book-requires-clause-stands
used_in_book-requires-clause-stands g c =
    let w = c.args.self.now in
    quota_stands c.catalogue.result.now.lists (g.B.Book.state w.book.now).lists.catalogue w.quotas.now c.index-quotas-place.result c.args.place c.catalogue.ensures
    (w.sold ∙ ap (λ (l : Lists). l.catalogue.quotas) w.base)
    c.recall_invariant.ensures.in_order c.requires c.index-quotas-place.is
