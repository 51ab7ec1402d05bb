use Rattle.std.proofs.Common.{subst, sym}
use Rattle.base_values.specs.Texts.{IsText}
use Rattle.model_invariant.proofs.MadeCodes.{made_text}
use Rattle.model_invariant.proofs.made_codes.made_code.Goals as goal

pub new-requires : goal.new-requires
new-requires c = subst IsText (sym c.in_ok-code_chars.ensures) (made_text c.args.draw c.args.id c.recall_invariant.ensures c.ranges.id.fits)
