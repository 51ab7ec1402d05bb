use Rattle.std.proofs.Common.{sym, subst}
use Rattle.file_reads.specs.Texts.{shop_text}
use Rattle.file_scan.specs.Causes.{ShowsBy, HasNoOtherVersion}
use Rattle.file_scan.proofs.file.tested.Goals as goal

pub returns-in-Ok-clause-passed : goal.returns-in-Ok-clause-passed
returns-in-Ok-clause-passed c = subst (HasNoOtherVersion c.args.own) c.as_slice.ensures.value c.in-Ok.ensures.passed

pub returns-in-Err-clause-cause : goal.returns-in-Err-clause-cause
returns-in-Err-clause-cause c db shows = c.in-Err.ensures.cause db (subst (ShowsBy shop_text db) (sym c.as_slice.ensures.value) shows)
