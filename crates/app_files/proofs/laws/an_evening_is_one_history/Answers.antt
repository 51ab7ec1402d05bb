use Rattle.std.proofs.Common.{◌++◌, ◌∷◌, [], None}
use Rattle.office_deliveries.specs.Histories.{Crashed, running_from, after_act, event_of}
use Rattle.web_handler.specs.Streams.{words_of}
use Rattle.web_connections.specs.Acts.{between}
use Rattle.app_files.specs.Acting.{own_arrival}
use Rattle.app_files.specs.Evening.{over}
use Rattle.app_files.proofs.laws.an_evening_is_one_history.Goals as goal

pub returns : goal.returns
returns g c = λ house begun r es n m early late first end told d0 d1 d2 d3 words command tick outcome on connections closed acts again more clean.
    let a = own_arrival command tick in
    let one = c.callers_go_on_with_a_history.ensures house begun r es n first (between told (over c.args.served.now d0)) early connections closed.found.clean on.of on.happened on.running in
    let two = c.a_history_goes_on_after_a_crash.ensures house begun one.1 one.0 d0 d1 (record { of = one.3; happened = one.4; running = one.5 }) closed in
    let after = one.0 ++ Crashed ∷ [] in
    let three = c.a_command_goes_on_with_a_history.ensures house begun (running_from (words_of house) two.0) after words command tick (over c.args.opened_for.now d1) (over c.args.acted.now d2) outcome two.1 tt acts again.found.clean in
    let later = after ++ event_of (words_of house) a three.0 two.0 ∷ [] in
    let four = c.a_history_goes_on_after_a_crash-2.ensures house begun (after_act (words_of house) a three.0 (running_from (words_of house) two.0)) later d2 d3 three.2 again in
    let five = c.callers_go_on_with_a_history.ensures house begun (running_from (words_of house) four.0) (later ++ Crashed ∷ []) m (between None (over c.args.again.now d3)) end late more clean four.1.of four.1.happened four.1.running in
    (one.0, two.0, three.0, five.0, five.1, one.2, three.1, five.2, record { of = five.3; happened = five.4; running = five.5 })
