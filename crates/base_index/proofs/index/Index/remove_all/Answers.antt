use Rattle.std.proofs.Common.{not, eqb, subst, sym, ◌∙◌}
use Rattle.base_tables.specs.Tables.{AreInOrder}
use Rattle.base_tables.proofs.Places.{filter_in_order}
use Rattle.base_index.specs.Entries.{id_of}
use Rattle.base_index.proofs.index.Index.remove_all.Goals as goal

pub invariant_of-self : goal.invariant_of-self
invariant_of-self c =
    let is = c.shorten.ensures.rows ∙ c.move_up-kept.ensures.rows in
    subst (λ l. AreInOrder (λ n. n) l) (sym is) (filter_in_order (λ n. n) (λ e. not (eqb (id_of e) c.args.id)) 0 _ c.self.invariant)

pub returns-clause-rows : goal.returns-clause-rows
returns-clause-rows c = rw (← c.self.view_is) (c.shorten.ensures.rows ∙ c.move_up-kept.ensures.rows)
