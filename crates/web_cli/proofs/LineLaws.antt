-- What lines ask for whose texts are not known.
use Rattle.std.proofs.Common.{◌≡◌, ◌++◌, ℕ, List, [], ◌∷◌, Some, None, codes, refl, true, false}
use Rattle.clap.specs.declared.error.ErrorKind.TheVariants as kinds
use Rattle.clap.proofs.OnLiterals.{clap_on_literals}
use Rattle.web_cli.specs.Asked.{adds, asked_for, exports, imports, lacks_argument, makes, migrates, none, plain_words, reports, runs, serves, works}
use Rattle.web_cli.specs.Examples.{asked_alone, asked_of_feed, asked_on_hall, asked_to_serve, asked_with_step, hall, morning}

pub in_order : (program from step : List ℕ) → asked_of_feed program ((codes "--from=" ++ from) ∷ (codes "--step=" ++ step) ∷ []) ≡ runs from step
unfolding clap_on_literals asked_for
in_order program from step = refl

pub turned : (program from step : List ℕ) → asked_of_feed program ((codes "--step=" ++ step) ∷ (codes "--from=" ++ from) ∷ []) ≡ runs from step
unfolding clap_on_literals asked_for
turned program from step = refl

pub no_command : (program : List ℕ) → asked_for (program ∷ []) ≡ none (kinds.MissingSubcommand ∷ [])
unfolding clap_on_literals asked_for
no_command program = refl

pub no_flags : (program : List ℕ) → asked_alone program "feed" ≡ lacks_argument
unfolding clap_on_literals asked_for
no_flags program = refl

pub no_step : (program from : List ℕ) → asked_of_feed program ((codes "--from=" ++ from) ∷ []) ≡ lacks_argument
unfolding clap_on_literals asked_for
no_step program from = refl

pub no_from : (program step : List ℕ) → asked_of_feed program ((codes "--step=" ++ step) ∷ []) ≡ lacks_argument
unfolding clap_on_literals asked_for
no_from program step = refl

pub shows_help : (program : List ℕ) → asked_alone program "--help" ≡ none (kinds.DisplayHelp ∷ [])
unfolding clap_on_literals asked_for
shows_help program = refl

pub shows_help_of_feed : (program : List ℕ) → asked_of_feed program (codes "--help" ∷ []) ≡ none (kinds.DisplayHelp ∷ [])
unfolding clap_on_literals asked_for
shows_help_of_feed program = refl

pub shows_version : (program : List ℕ) → asked_alone program "--version" ≡ none (kinds.DisplayVersion ∷ [])
unfolding clap_on_literals asked_for
shows_version program = refl

pub shows_version_shortly : (program : List ℕ) → asked_alone program "-V" ≡ none (kinds.DisplayVersion ∷ [])
unfolding clap_on_literals asked_for
shows_version_shortly program = refl

pub no_version_of_feed : (program : List ℕ) → asked_of_feed program (codes "--version" ∷ []) ≡ none (kinds.UnknownArgument ∷ [])
unfolding clap_on_literals asked_for
no_version_of_feed program = refl

pub words_behind_flags : asked_with_step "60" ≡ runs morning (codes "60")
unfolding clap_on_literals asked_for
words_behind_flags = refl

pub signed_step : asked_with_step "-1" ≡ runs morning []
unfolding clap_on_literals asked_for
signed_step = refl

pub unknown_flag : asked_with_step "-x" ≡ none (kinds.UnknownArgument ∷ [])
unfolding clap_on_literals asked_for
unknown_flag = refl

pub makes_shop : (program organizer event : List ℕ) → asked_on_hall program "init" ((codes "--organizer=" ++ organizer) ∷ (codes "--event=" ++ event) ∷ [])
    ≡ makes hall organizer event
unfolding clap_on_literals asked_for
makes_shop program organizer event = refl

pub makes_turned : (program organizer event : List ℕ) → asked_for (program ∷ codes "init" ∷ (codes "--event=" ++ event) ∷ (codes "--organizer=" ++ organizer) ∷ hall ∷ [])
    ≡ makes hall organizer event
unfolding clap_on_literals asked_for
makes_turned program organizer event = refl

pub adds_token : (program : List ℕ) → asked_on_hall program "token-add" (codes "secret" ∷ []) ≡ adds hall (codes "secret")
unfolding clap_on_literals asked_for
adds_token program = refl

pub no_organizer : (program text : List ℕ) → asked_on_hall program "init" ((codes "--event=" ++ text) ∷ []) ≡ lacks_argument
unfolding clap_on_literals asked_for
no_organizer program text = refl

pub no_token : (program : List ℕ) → asked_on_hall program "token-add" [] ≡ lacks_argument
unfolding clap_on_literals asked_for
no_token program = refl

pub serves_shop : (program listen : List ℕ) → asked_to_serve program listen [] ≡ serves hall listen None false
unfolding clap_on_literals asked_for
serves_shop program listen = refl

pub serves_so_many : (program listen connections : List ℕ)
    → asked_to_serve program listen ((codes "--connections=" ++ connections) ∷ []) ≡ serves hall listen (Some connections) false
unfolding clap_on_literals asked_for
serves_so_many program listen connections = refl

pub serves_and_logs : (program listen : List ℕ) → asked_to_serve program listen (codes "--log" ∷ []) ≡ serves hall listen None true
unfolding clap_on_literals asked_for
serves_and_logs program listen = refl

pub signed_connections : asked_for (plain_words (codes "boxoffice" ∷ codes "serve" ∷ hall ∷ codes "--listen" ∷ codes "[::1]:80" ∷ codes "--connections" ∷ codes "-1" ∷ []))
    ≡ serves hall (codes "[::1]:80") (Some []) false
unfolding clap_on_literals asked_for
signed_connections = refl

pub no_listen : (program : List ℕ) → asked_on_hall program "serve" [] ≡ lacks_argument
unfolding clap_on_literals asked_for
no_listen program = refl

pub works_off : (program : List ℕ) → asked_on_hall program "periodic" [] ≡ works hall
unfolding clap_on_literals asked_for
works_off program = refl

pub no_file : (program : List ℕ) → asked_alone program "periodic" ≡ lacks_argument
unfolding clap_on_literals asked_for
no_file program = refl

pub exports_positions : (program : List ℕ) → asked_on_hall program "export" [] ≡ exports hall
unfolding clap_on_literals asked_for
exports_positions program = refl

pub no_export : (program : List ℕ) → asked_alone program "export" ≡ lacks_argument
unfolding clap_on_literals asked_for
no_export program = refl

pub migrates_tables : (program : List ℕ) → asked_on_hall program "migrate" [] ≡ migrates hall
unfolding clap_on_literals asked_for
migrates_tables program = refl

pub no_migration : (program : List ℕ) → asked_alone program "migrate" ≡ lacks_argument
unfolding clap_on_literals asked_for
no_migration program = refl

pub reports_sales : (program : List ℕ) → asked_on_hall program "report" (codes "sales" ∷ []) ≡ reports hall (codes "sales") None
unfolding clap_on_literals asked_for
reports_sales program = refl

pub reports_door : (program list : List ℕ) → asked_on_hall program "report" (codes "door" ∷ (codes "--list=" ++ list) ∷ []) ≡ reports hall (codes "door") (Some list)
unfolding clap_on_literals asked_for
reports_door program list = refl

pub no_report : (program : List ℕ) → asked_on_hall program "report" [] ≡ lacks_argument
unfolding clap_on_literals asked_for
no_report program = refl

pub imports_vouchers : (program : List ℕ) → asked_on_hall program "import-vouchers" (codes "codes.csv" ∷ []) ≡ imports hall (codes "codes.csv")
unfolding clap_on_literals asked_for
imports_vouchers program = refl

pub no_csv : (program : List ℕ) → asked_on_hall program "import-vouchers" [] ≡ lacks_argument
unfolding clap_on_literals asked_for
no_csv program = refl
