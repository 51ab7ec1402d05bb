use Rattle.sqlite.specs.Held.{state}
use Rattle.file_open.proofs.Opened.{made_opens}
use Rattle.file_open.proofs.laws.what_is_made_is_opened.Goals as goal

pub returns : goal.returns
returns g c = made_opens (state g.S.Store c.args.blank.now) (state g.S.Store c.args.made.now) (state g.S.Store c.args.opened.now)
