use Rattle.std.proofs.Common.{◌≡◌, ◌∙◌, length, ap, map, arith}
use Rattle.model_catalogue.specs.Limits.{most_rows}
use Rattle.office_reports.specs.Counted.{counted_all}
use Rattle.office_reports.proofs.Entering.{all_at_most_weaker, all_counted, counted_one}
use Rattle.office_reports.proofs.entries.count_all.Goals as goal

pub loop-position-preserved : goal.loop-position-preserved
loop-position-preserved g c =
    counted_one c.args.list.now (g.B.Book.state c.args.book.now).lists c.positions-position-items.result.now c.loop-position.position-index c.position-item.result c.args.rows.now.items c.loop-position.rows.items
    c.loop-position-test.true c.position-item.is c.loop-position.invariant _ c.in_ok-count_position.ensures

pub count_position-requires-clause-few : goal.count_position-requires-clause-few
count_position-requires-clause-few g c =
    let rows : length c.positions-position-items.result.now ≡ length (g.B.Book.state c.args.book.now).lists.positions = ap length c.positions-position-items.ensures in
    all_at_most_weaker c.loop-position.position-index most_rows c.loop-position.rows.items (omega (arith, rows, c.loop-position.auto.position-index-end, c.requires.rows)) c.loop-position.invariant.few

pub returns : goal.returns
returns g c =
    let lists = (g.B.Book.state c.args.book.now).lists in
    all_counted c.args.list.now lists c.positions-position-items.result.now c.loop-position.position-index c.args.rows.now.items c.loop-position.rows.items c.loop-position-test.false c.loop-position.invariant
    ∙ ap (λ ps. map (counted_all c.args.list.now lists ps) c.args.rows.now.items) c.positions-position-items.ensures
