use Rattle.web_cli.proofs.LineLaws.{no_version_of_feed, shows_version, shows_version_shortly}
use Rattle.web_cli.proofs.laws.the_version_is_shown.Goals as goal

pub returns-clause-long : goal.returns-clause-long
returns-clause-long c = shows_version

pub returns-clause-short : goal.returns-clause-short
returns-clause-short c = shows_version_shortly

pub returns-clause-alone : goal.returns-clause-alone
returns-clause-alone c = no_version_of_feed
