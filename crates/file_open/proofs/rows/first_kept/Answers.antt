use Rattle.std.proofs.Common.{◌↔◌, IsTrue, subst}
use Rattle.model_damage.specs.Rules.{File}
use Rattle.file_meaning.specs.Stands.{AreRowsOf}
use Rattle.file_rebuild.specs.Arranged.{rows_in, ArePaired}
use Rattle.file_meaning.specs.Typed.{AreBelowNext}
use Rattle.file_open.specs.Opened.{IsLeastIn}
use Rattle.file_open.proofs.rows.first_kept.Goals as goal

pub returns-in-Some-clause-refused : goal.returns-in-Some-clause-refused
returns-in-Some-clause-refused c =
    let rows = rows_in c.args.tables in
    let shop = c.args.shop.now in
    let tokens = c.args.tables.others.tokens.items in
    let is = c.in-Ok.ensures.told in (
      c.in-Ok.ensures.order,
      subst (λ (f : File). IsLeastIn shop tokens rows (ArePaired c.args.tables) f c.in-Some.rule) is
          (c.in-Some.ensures.broken shop tokens rows c.args.tables (subst (λ l. IsTrue c.are_below-numbered.result ↔ AreBelowNext shop l) c.as_slice.ensures.value c.are_below-numbered.ensures) (λ w. c.in-Ok.ensures.whole.1 (subst (λ (f : File). AreRowsOf f.state.lists rows) is w))),
    )

pub returns-in-None-clause-numbered : goal.returns-in-None-clause-numbered
returns-in-None-clause-numbered c = subst (AreBelowNext c.args.shop.now) c.as_slice.ensures.value (c.are_below-numbered.ensures.0 c.in-None.ensures.whole.0)

pub returns-in-None-clause-whole : goal.returns-in-None-clause-whole
returns-in-None-clause-whole c = c.in-Ok.ensures.whole.0 c.in-None.ensures.whole.1

pub returns-in-Err-clause-refused : goal.returns-in-Err-clause-refused
returns-in-Err-clause-refused c = c.unarranged.ensures (record { shop = c.args.shop.now; tables = c.args.tables }) c.in-Err.ensures.refused
