use Rattle.std.proofs.Common.{◌≡◌, List, true, sym, ap, ◌∙◌, subst, length}
use Rattle.file_check.proofs.OwnKeys.{once_by_keys}
use Rattle.file_check.proofs.keys.have_own_keys.Goals as goal

pub returns : goal.returns
returns c = λ own. once_by_keys c.args.rows.now c.in_ok-keys.keys.items c.are_apart-own.result c.in_ok-keys.ensures c.are_apart-own.ensures own
