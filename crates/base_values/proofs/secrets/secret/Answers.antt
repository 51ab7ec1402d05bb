use Rattle.std.proofs.Common.{subst, sym, arith}
use Rattle.base_values.specs.Texts.{IsText}
use Rattle.base_values.proofs.Pieces.{secret_text}
use Rattle.base_values.proofs.secrets.secret.Goals as goal

pub new-requires : goal.new-requires
new-requires c =
    subst IsText (sym c.in_ok-secret_chars.ensures) (secret_text c.args.draw c.args.order c.args.position c.recall_invariant.ensures c.ranges.order.fits (omega (arith, c.ranges.position.fits)))
