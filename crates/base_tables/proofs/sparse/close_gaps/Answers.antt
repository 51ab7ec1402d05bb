use Rattle.std.proofs.Common.{length, arith, ◌≡◌, subst, sym, ap, ◌∙◌, rules}
use Rattle.std.specs.Prelude.{filter}
use Rattle.std.proofs.lemmas.Fn.{filter_same}
use Rattle.base_tables.specs.Tables.{AreInOrder}
use Rattle.base_tables.proofs.Places.{filter_in_order}
use Rattle.base_tables.specs.Slots.{slot_key, rows_in, is_full}
use Rattle.base_tables.proofs.SlotLemmas.{closed_is, closed_count}
use Rattle.base_tables.proofs.sparse.close_gaps.Goals as goal

pub returns-then-rows-len-clause-rows : goal.returns-then-rows-len-clause-rows
returns-then-rows-len-clause-rows g c =
    let is : c.retain.new.self.items ≡ filter is_full c.args.slots.now.items = filter_same _ is_full _ (λ x b f' k. search rules) _ _ c.retain.ensures.filtered in
    ap rows_in is ∙ closed_is (g.T.Row.key) c.args.slots.now.items

pub returns-then-rows-len-clause-order : goal.returns-then-rows-len-clause-order
returns-then-rows-len-clause-order g c =
    let is : c.retain.new.self.items ≡ filter is_full c.args.slots.now.items = filter_same _ is_full _ (λ x b f' k. search rules) _ _ c.retain.ensures.filtered in
    subst (λ l. AreInOrder (slot_key (g.T.Row.key)) l) (sym is) (filter_in_order (slot_key (g.T.Row.key)) is_full 0 _ c.requires.order)

pub returns-then-rows-len-clause-bound : goal.returns-then-rows-len-clause-bound
returns-then-rows-len-clause-bound g c =
    let is : c.retain.new.self.items ≡ filter is_full c.args.slots.now.items = filter_same _ is_full _ (λ x b f' k. search rules) _ _ c.retain.ensures.filtered in
    omega (arith, c.requires.count, ap length is, closed_count (g.T.Row.key) c.args.slots.now.items)
