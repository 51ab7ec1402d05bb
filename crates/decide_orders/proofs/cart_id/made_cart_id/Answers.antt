use Rattle.std.proofs.Common.{subst, sym}
use Rattle.base_values.specs.Texts.{IsText}
use Rattle.decide_orders.proofs.Limited.{made_cart_text}
use Rattle.decide_orders.proofs.cart_id.made_cart_id.Goals as goal

pub new-requires : goal.new-requires
new-requires c = subst IsText (sym c.in_ok-cart_id_chars.ensures) (made_cart_text c.args.draw c.args.id c.recall_invariant.ensures c.ranges.id.fits)
