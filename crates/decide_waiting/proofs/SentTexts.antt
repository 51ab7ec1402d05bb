-- The texts of a voucher that is sent.
use Rattle.std.proofs.Common.{[], codes, refl}
use Rattle.base_values.specs.Texts.{is_text, IsText}

pub tag_text : IsText (codes "waiting-list")
unfolding is_text
tag_text = refl

pub no_text : IsText []
unfolding is_text
no_text = refl
