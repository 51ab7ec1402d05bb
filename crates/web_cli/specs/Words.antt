-- The commands of the program, as a command line names them.
use Rattle.std.specs.Prelude.{◌≡◌, true, Some, Result, Ok, codes}
use Rattle.clap.specs.Simple.{on_top}
use Rattle.std.specs.declared.alloc.AllocError.{AllocError}
use Rattle.clap.specs.declared.builder.action.ArgAction.TheVariants.{SetTrue}
use Rattle.clap.specs.declared.builder.command.Command.{Command}
use Rattle.clap.specs.Words.{App, Rule, Shape, Text, app_of, new_app, new_rule, with_rule, with_subcommand}

-- a word that is known by its place, which has to be there
abbrev pub word : Text → Rule
word name = record (new_rule name) { value_names = 1; required = true }

-- `--NAME TEXT`, which has to be there
abbrev pub flag : Text → Rule
flag name = record (word name) { long = Some name }

-- `--NAME TEXT`, which may be left out
abbrev pub choice : Text → Rule
choice name = record (new_rule name) { value_names = 1; long = Some name }

-- `--NAME`, which may be left out
abbrev pub switch : Text → Rule
switch name = record (new_rule name) { action = Some SetTrue; long = Some name }

-- `feed --from MOMENT --step SECONDS`
abbrev pub feed_app : App
feed_app = with_rule (with_rule (new_app (codes "feed")) (flag (codes "from"))) (flag (codes "step"))

-- a command on a file, which it names first
abbrev pub file_app : Text → App
file_app name = with_rule (new_app name) (word (codes "file"))

-- `init FILE --organizer SLUG --event SLUG`
abbrev pub init_app : App
init_app = with_rule (with_rule (file_app (codes "init")) (flag (codes "organizer"))) (flag (codes "event"))

-- `token-add FILE TOKEN`
abbrev pub token_app : App
token_app = with_rule (file_app (codes "token-add")) (word (codes "token"))

-- `serve FILE --listen ADDR [--connections N] [--log]`
abbrev pub serve_app : App
serve_app = with_rule (with_rule (with_rule (file_app (codes "serve")) (flag (codes "listen"))) (choice (codes "connections"))) (switch (codes "log"))

-- `periodic FILE`
abbrev pub work_app : App
work_app = file_app (codes "periodic")

-- `report FILE REPORT [--list N]`
abbrev pub report_app : App
report_app = with_rule (with_rule (file_app (codes "report")) (word (codes "report"))) (choice (codes "list"))

-- `export FILE`
abbrev pub export_app : App
export_app = file_app (codes "export")

-- `import-vouchers FILE CSV`
abbrev pub import_app : App
import_app = with_rule (file_app (codes "import-vouchers")) (word (codes "csv"))

-- `migrate FILE`
abbrev pub migrate_app : App
migrate_app = file_app (codes "migrate")

-- a program with one more command, which was made
abbrev pub IsWith : App → Result Command AllocError → App → Type 0
IsWith old made new = (added : Command) × (made ≡ Ok added) × ((app_of added).top.is_plain ≡ true → new ≡ with_subcommand old (app_of added).top)

-- a command has to be there
abbrev pub needs_command : Shape → Shape
needs_command top = record top { subcommand_required = true }

-- `--version` is answered, by the program itself and by none of its commands
abbrev pub shows_version : Shape → Shape
shows_version top = record top { has_version = true }

-- the program, with its nine commands
abbrev pub program : App
program =
    with_subcommand (with_subcommand (with_subcommand (with_subcommand (with_subcommand (with_subcommand (with_subcommand (with_subcommand (with_subcommand (on_top needs_command (on_top shows_version (new_app (codes "boxoffice")))) feed_app.top) init_app.top) token_app.top) serve_app.top)
    work_app.top) report_app.top) export_app.top) import_app.top) migrate_app.top
