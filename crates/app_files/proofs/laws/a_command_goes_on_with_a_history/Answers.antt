use Rattle.std.proofs.Common.{◌∷◌, [], refl, ◌∙◌}
use Rattle.office_deliveries.specs.Histories.{event_of}
use Rattle.office_deliveries.proofs.Crashes.{happens_on}
use Rattle.web_handler.specs.Streams.{words_of}
use Rattle.app_files.specs.Acting.{own_arrival}
use Rattle.app_files.proofs.laws.a_command_goes_on_with_a_history.Goals as goal

pub returns : goal.returns
returns g c = λ house begun r es words command tick first last outcome on keyless acts sure.
    let a = own_arrival command tick in
    let there = c.shops_run_in_any_words.ensures.runs (words_of house) words first.tables first.state r keyless on.running in
    let here = c.shops_run_in_any_words.ensures.acts words (words_of house) a acts.answer last.tables last.state r refl keyless (acts.running sure r there) in (
      acts.answer,
      acts.told,
      record {
        of = record { organizer = acts.organizer ∙ on.of.organizer; event = acts.event ∙ on.of.event; known = acts.house sure house on.of.known };
        happened = happens_on (words_of house) begun es (event_of (words_of house) a acts.answer r.shop ∷ []) r _ on.happened here.1;
        running = here.0;
      },
    )
