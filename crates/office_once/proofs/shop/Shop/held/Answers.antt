use Rattle.std.proofs.Common.{rules, sym}
use Rattle.office_once.proofs.ShopLemmas.{nothing-told, no-key}
use Rattle.office_once.proofs.shop.Shop.held.Goals as goal

pub returns-then-is_empty : goal.returns-then-is_empty
returns-then-is_empty g c = record {
  wording = search rules;
  office = search rules;
  sure = search rules;
  house = search rules;
  found = λ sure v views. nothing-told c.args.arrival.now.token c.args.arrival.now.key c.args.at v.kept (no-key c.args.arrival.now.key (sym c.if-is_empty.ensures));
  same = search rules;
  crash = search rules;
}
