use Rattle.sqlite.specs.Held.{state}
use Rattle.file_open.proofs.Whole.{migrated_whole}
use Rattle.file_open.proofs.laws.what_is_whole_is_migrated.Goals as goal

pub returns : goal.returns
returns g c = λ from head t s ks its version first last error why. migrated_whole from first last head t s ks (state g.S.Store c.args.held.now) its version error why
