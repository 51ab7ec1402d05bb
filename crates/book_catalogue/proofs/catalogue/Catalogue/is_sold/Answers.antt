use Rattle.std.proofs.Common.{ℕ, List, length, eqb, not, ap, ◌∙◌}
use Rattle.model_catalogue.specs.Member.{is_in}
use Rattle.book_catalogue.proofs.Listed.{some_found}
use Rattle.book_catalogue.proofs.catalogue.Catalogue.is_sold.Goals as goal

pub returns : goal.returns
returns c =
    ap not c.is_empty.ensures ∙ ap (λ (ids : List ℕ). not (eqb (length ids) 0)) c.quotas_with.ensures ∙ some_found (λ q. is_in q c.args.product) c.args.self.now.lists.quotas
