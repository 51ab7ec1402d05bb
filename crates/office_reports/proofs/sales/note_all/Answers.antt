use Rattle.std.proofs.Common.{◌≡◌, ◌∙◌, length, refl, ap, map, arith}
use Rattle.model_catalogue.specs.Limits.{most_rows}
use Rattle.office_reports.specs.Noted.{noted_all}
use Rattle.office_reports.proofs.Noting.{all_few_weaker, noted_one, all_noted}
use Rattle.office_reports.proofs.sales.note_all.Goals as goal

pub loop-position-preserved : goal.loop-position-preserved
loop-position-preserved g c =
    noted_one (g.B.Book.state c.args.book.now).lists c.positions-position-items.result.now c.loop-position.position-index c.position-item.result c.args.sales.now.items c.loop-position.sales.items
    c.loop-position-test.true c.position-item.is c.loop-position.invariant _ c.note_position.new.sales.items refl c.note_position.ensures.price c.note_position.ensures.noted

pub returns-clause-noted : goal.returns-clause-noted
returns-clause-noted g c =
    let lists = (g.B.Book.state c.args.book.now).lists in
    all_noted lists c.positions-position-items.result.now c.loop-position.position-index c.args.sales.now.items c.loop-position.sales.items c.loop-position-test.false c.loop-position.invariant
    ∙ ap (λ ps. map (noted_all lists ps) c.args.sales.now.items) c.positions-position-items.ensures

pub note_position-requires-clause-few : goal.note_position-requires-clause-few
note_position-requires-clause-few g c =
    let rows : length c.positions-position-items.result.now ≡ length (g.B.Book.state c.args.book.now).lists.positions = ap length c.positions-position-items.ensures in
    all_few_weaker c.loop-position.position-index most_rows c.loop-position.sales.items (omega (arith, rows, c.loop-position.auto.position-index-end, c.requires.rows)) c.loop-position.invariant.few

pub returns-clause-few : goal.returns-clause-few
returns-clause-few g c =
    let rows : length c.positions-position-items.result.now ≡ length (g.B.Book.state c.args.book.now).lists.positions = ap length c.positions-position-items.ensures in
    all_few_weaker c.loop-position.position-index most_rows c.loop-position.sales.items (omega (arith, rows, c.loop-position.auto.position-index-end, c.requires.rows)) c.loop-position.invariant.few
