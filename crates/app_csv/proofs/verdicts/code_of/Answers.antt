use Rattle.std.proofs.Common.{refl}
use Rattle.base_values.specs.Texts.{is_text}
use Rattle.app_csv.proofs.verdicts.code_of.Goals as goal

pub copy_of-requires : goal.copy_of-requires
unfolding is_text
copy_of-requires c = refl
