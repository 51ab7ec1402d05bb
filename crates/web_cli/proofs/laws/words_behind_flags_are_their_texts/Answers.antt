use Rattle.web_cli.proofs.LineLaws.{signed_step, unknown_flag, words_behind_flags}
use Rattle.web_cli.proofs.laws.words_behind_flags_are_their_texts.Goals as goal

pub returns-clause-plain : goal.returns-clause-plain
returns-clause-plain c = words_behind_flags

pub returns-clause-signed : goal.returns-clause-signed
returns-clause-signed c = signed_step

pub returns-clause-flag : goal.returns-clause-flag
returns-clause-flag c = unknown_flag
