use Rattle.std.proofs.Common.{ℕ, List, length, ◌∙◌, subst}
use Rattle.std.specs.List.Sorted.{IsSearchInRange, IsBinarySearchResult}
use Rattle.std.specs.Ordering.{nat_cmp}
use Rattle.base_tables.proofs.Places.{searched}
use Rattle.base_index.proofs.block.Block.place_of.Goals as goal

pub returns-clause-found : goal.returns-clause-found
returns-clause-found c =
    let facts = c.binary_search.ensures in
    let same = c.deref.ensures.value ∙ c.self.view_is in
    (searched (λ n. n) c.args.self.now c.requires c.args.entry c.binary_search.result (subst (λ (l : List ℕ). IsSearchInRange c.binary_search.result (length l)) same facts.bound) (subst (λ (l : List ℕ). IsBinarySearchResult (λ r. nat_cmp r c.args.entry) l c.binary_search.result) same facts.position)).found

pub returns-clause-absent : goal.returns-clause-absent
returns-clause-absent c =
    let facts = c.binary_search.ensures in
    let same = c.deref.ensures.value ∙ c.self.view_is in
    (searched (λ n. n) c.args.self.now c.requires c.args.entry c.binary_search.result (subst (λ (l : List ℕ). IsSearchInRange c.binary_search.result (length l)) same facts.bound) (subst (λ (l : List ℕ). IsBinarySearchResult (λ r. nat_cmp r c.args.entry) l c.binary_search.result) same facts.position)).absent
