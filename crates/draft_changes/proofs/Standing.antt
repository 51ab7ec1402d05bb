-- A quota that is one of the catalogue's is the one of its id, and of its place.
use Rattle.std.proofs.Common.{◌≡◌, ℕ, ◌<◌, List, length, get_or, Some, sym, ap, ◌∙◌, subst}
use Rattle.base_tables.specs.Tables.{row_at, AreInOrder}
use Rattle.draft_counts.specs.Counts.{value_at}
use Rattle.draft_counts.proofs.Values.{value_here}
use Rattle.model_catalogue.proofs.Standing.{stands_at}
use Rattle.model_catalogue.specs.declared.rows.Quota.{Quota}
use Rattle.model_catalogue.specs.CatalogueLists.{CatalogueLists, quota_at}

pub quota_stands : (catalogue lists : CatalogueLists) (quotas : List Quota) (quota : Quota) (i : ℕ) → catalogue ≡ lists → quotas ≡ lists.quotas → AreInOrder (λ r. r.id) catalogue.quotas → i < length quotas → quota ≡ get_or quotas i quota → quota_at quota.id lists ≡ Some quota
quota_stands catalogue lists quotas quota i same sold order lt is =
    let sorted : AreInOrder (λ (r : Quota). r.id) quotas = subst (λ (l : List Quota). AreInOrder (λ r. r.id) l) (ap (λ (c : CatalogueLists). c.quotas) same ∙ sym sold) order in
    ap (λ (l : List Quota). row_at (λ r. r.id) quota.id l) (sym sold)
    ∙ ap (λ (q : Quota). row_at (λ r. r.id) q.id quotas) is
    ∙ stands_at quotas i quota lt sorted
    ∙ ap (λ (q : Quota). Some q) (sym is)

-- what the quota at a place has of something
pub value_there : (value : Quota → ℕ) (quotas lists : List Quota) (place : ℕ) (quota : Quota) → quotas ≡ lists → place < length quotas → quota ≡ get_or quotas place quota → value_at 0 value lists place ≡ value quota
value_there value quotas lists place quota sold lt is =
    ap (λ (l : List Quota). value_at 0 value l place) (sym sold)
    ∙ value_here 0 value quotas place quota lt
    ∙ ap value (sym is)
