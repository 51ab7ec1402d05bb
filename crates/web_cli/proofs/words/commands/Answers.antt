use Rattle.std.proofs.Common.{◌≡◌, ◌∙◌, refl, ap, codes}
use Rattle.std.proofs.lemmas.Result.{IfOk-weaker}
use Rattle.clap.specs.Simple.{App, app_of, app_of_fields, new_app, on_top}
use Rattle.web_cli.specs.Words.{export_app, feed_app, shows_version, import_app, init_app, migrate_app, needs_command, report_app, serve_app, token_app, work_app}
use Rattle.web_cli.proofs.WordLemmas.{now_with}
use Rattle.web_cli.proofs.words.commands.Goals as goal

pub returns : goal.returns
returns c =
    let versioned : App = on_top shows_version (new_app (codes "boxoffice")) in
    let bare : App = on_top needs_command versioned in
    let top_is : app_of c.about.result ≡ new_app (codes "boxoffice") = ap app_of_fields c.about.ensures ∙ c.new.ensures.app in
    let version_is : app_of c.version.result ≡ versioned = ap app_of_fields c.version.ensures ∙ ap (on_top shows_version) top_is in
    let helped_is : app_of c.after_help.result ≡ versioned = ap app_of_fields c.after_help.ensures ∙ version_is in
    let bare_is : app_of c.subcommand_required-bare.result ≡ bare = ap app_of_fields c.subcommand_required-bare.ensures ∙ ap (on_top needs_command) helped_is in
    let one = now_with _ bare _ feed_app _ bare_is c.feed_command.ensures refl c.in_ok-program.ensures in
    let two = now_with _ _ _ init_app _ one c.init_command.ensures refl c.in_ok-program-2.ensures in
    let three = now_with _ _ _ token_app _ two c.token_command.ensures refl c.in_ok-program-3.ensures in
    let four = now_with _ _ _ serve_app _ three c.serve_command.ensures refl c.in_ok-program-4.ensures in
    let five = now_with _ _ _ work_app _ four c.work_command.ensures refl c.in_ok-program-5.ensures in
    let six = now_with _ _ _ report_app _ five c.report_command.ensures refl c.in_ok-program-6.ensures in
    let seven = now_with _ _ _ export_app _ six c.export_command.ensures refl c.in_ok-program-7.ensures in
    let eight = now_with _ _ _ import_app _ seven c.import_command.ensures refl c.in_ok-program-8.ensures in
    IfOk-weaker c.with-9.result _ _ (λ command added. now_with _ _ _ migrate_app _ eight c.migrate_command.ensures refl added) c.with-9.ensures
