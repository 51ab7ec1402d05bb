use Rattle.app_files.proofs.HeadLemmas.{kept_last}
use Rattle.app_files.proofs.heads.keep_last.Goals as goal

pub returns-clause-last : goal.returns-clause-last
returns-clause-last c =
    kept_last c.args.piece.now c.copy_from_slice.new.self c.copy_from_slice-2.new.self _ _ c.args.seen c.saturating_sub-from.result c.requires c.saturating_sub-from.ensures
    c.copy_from_slice.ensures.after c.copy_from_slice-2.ensures.after
