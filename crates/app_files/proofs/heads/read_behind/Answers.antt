use Rattle.std.proofs.Common.{take}
use Rattle.app_files.proofs.HeadLemmas.{read_on}
use Rattle.app_files.proofs.heads.read_behind.Goals as goal

pub returns-in-Ok-clause-behind : goal.returns-in-Ok-clause-behind
returns-in-Ok-clause-behind g c =
    (take c.in-Ok.n c.read.new.buf, read_on c.args.kept c.in-Ok.n c.args.piece.now c.read.new.buf _ c.requires c.in-Ok.ensures.bound.0, c.in-Ok.ensures.bytes.0)
