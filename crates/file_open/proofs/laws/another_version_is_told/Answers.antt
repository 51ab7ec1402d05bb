use Rattle.sqlite.specs.Held.{state}
use Rattle.file_open.proofs.Upgraded.{told_as_it_is}
use Rattle.file_open.proofs.laws.another_version_is_told.Goals as goal

pub returns : goal.returns
returns g c = λ from head t s ks its other error h. told_as_it_is from head t s ks (state g.S.Store c.args.held.now) (state g.S.Store c.args.held.now) its other error h
