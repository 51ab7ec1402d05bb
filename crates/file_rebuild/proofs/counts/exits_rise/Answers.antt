use Rattle.std.proofs.Common.{◌∙◌, refl, sym, subst}
use Rattle.base_tables.specs.Tables.{AreInOrder}
use Rattle.file_meaning.proofs.Told.{order_of_parts}
use Rattle.file_rebuild.proofs.Offices.{order_in_parts}
use Rattle.file_rebuild.proofs.counts.exits_rise.Goals as goal

pub returns : goal.returns
returns c =
    let ids = c.as_slice.ensures.value ∙ c.in_ok-ids.ensures in (
      λ truth. order_in_parts (λ c. c.quota) (λ c. c.quota) (λ n. n) (λ r. refl) 0 c.args.exits.now
          (subst (AreInOrder (λ n. n)) ids (c.rises.ensures.0 truth)),
      λ order. c.rises.ensures.1
          (subst (AreInOrder (λ n. n)) (sym ids) (order_of_parts (λ c. c.quota) (λ c. c.quota) (λ n. n) (λ r. refl) 0 c.args.exits.now order)),
    )
