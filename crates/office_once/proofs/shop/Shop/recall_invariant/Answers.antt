use Rattle.std.proofs.Common.{subst}
use Rattle.model_invariant.specs.Sound.{IsSound}
use Rattle.office_once.proofs.shop.Shop.recall_invariant.Goals as goal

pub returns : goal.returns
returns g c = rw (← c.self.view_is) (subst IsSound c.book.ensures.state c.book.ensures.sound)
