use Rattle.std.proofs.Common.{◌∙◌}
use Rattle.base_tables.proofs.RisingLemmas.{has_searched}
use Rattle.base_tables.proofs.ids.Ids.has.Goals as goal

pub returns : goal.returns
returns c =
    c.is_ok.ensures.value ∙ rw (← c.self.view_is) (has_searched c.args.id c.self.inside.ids.items c.place_of.result (rw c.deref.ensures.value at c.place_of.ensures.found) (rw c.deref.ensures.value at c.place_of.ensures.absent))
