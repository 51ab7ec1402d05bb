use Rattle.web_cli.proofs.LineLaws.{exports_positions, migrates_tables, no_export, no_file, no_migration, works_off}
use Rattle.web_cli.proofs.laws.a_file_is_known_by_its_place.Goals as goal

pub returns-clause-worked : goal.returns-clause-worked
returns-clause-worked c = λ program. (works_off program, no_file program)

pub returns-clause-exported : goal.returns-clause-exported
returns-clause-exported c = λ program. (exports_positions program, no_export program)

pub returns-clause-migrated : goal.returns-clause-migrated
returns-clause-migrated c = λ program. (migrates_tables program, no_migration program)
