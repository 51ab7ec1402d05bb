use Rattle.std.proofs.Common.{take, ap, ◌∙◌, arith}
use Rattle.draft_overlay.proofs.Sales.{sales_front, front_le}
use Rattle.draft_overlay.proofs.CodeKeys.{keys_front}
use Rattle.draft_overlay.proofs.overlay.Overlay.truncate.Goals as goal

pub invariant_of-self : goal.invariant_of-self
invariant_of-self g c =
    let log = c.self.inside.log in
    let is = c.self.invariant in
    rw (c.truncate-2.ensures, c.truncate.ensures) (record {
      few = omega (arith, is.few, front_le c.args.count log);
      sales = sales_front c.args.count log _ is.sales;
      codes_are = ap (take c.args.count) is.codes_are ∙ keys_front c.args.count log;
    })
