use Rattle.std.proofs.Common.{◌∙◌, length, Ok, Err}
use Rattle.web_http.specs.Text.{answer_text, head_text, content}
use Rattle.web_http.specs.Written.{Page}
use Rattle.web_http.proofs.WriteLemmas.{stops, goes_on, writes_as}
use Rattle.web_http.proofs.write.write_text.Goals as goal

pub returns-in-Ok : goal.returns-in-Ok
unfolding answer_text
returns-in-Ok g c =
    let old : Page = record { taken = g.W.Drain.taken c.args.writer.now; failures = g.W.Drain.failures c.args.writer.now } in
    let mid : Page = record { taken = g.W.Drain.taken c.write_all.new.writer; failures = g.W.Drain.failures c.write_all.new.writer } in
    let new : Page = record { taken = g.W.Drain.taken c.write_all-in-Ok.new.writer; failures = g.W.Drain.failures c.write_all-in-Ok.new.writer } in
    let head = head_text c.args.status c.args.allow (length c.args.body.now) c.args.closes in
    let body = content c.args.status c.args.body.now in
    goes_on c.write_all-in-Ok.result c.in-Ok.field-0 old mid new head body
    (writes_as (Ok c.in-Ok.field-0) old mid c.as_slice.result.now head (c.as_slice.ensures.value ∙ c.head_of-head.ensures) c.in-Ok.ensures)
    (writes_as c.write_all-in-Ok.result mid new c.content.result.now body c.content.ensures c.write_all-in-Ok.ensures)

pub returns-in-Err : goal.returns-in-Err
unfolding answer_text
returns-in-Err g c =
    let old : Page = record { taken = g.W.Drain.taken c.args.writer.now; failures = g.W.Drain.failures c.args.writer.now } in
    let new : Page = record { taken = g.W.Drain.taken c.write_all.new.writer; failures = g.W.Drain.failures c.write_all.new.writer } in
    let head = head_text c.args.status c.args.allow (length c.args.body.now) c.args.closes in
    stops c.in-Err.refused old new head (content c.args.status c.args.body.now)
    (writes_as (Err c.in-Err.refused) old new c.as_slice.result.now head (c.as_slice.ensures.value ∙ c.head_of-head.ensures) c.in-Err.ensures)
