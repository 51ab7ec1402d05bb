use Rattle.std.proofs.Common.{◌≡◌, ◌∷◌, ◌+◌, sym, ap, ◌∙◌, drop}
use Rattle.std.proofs.lemmas.List.{drop_more}
use Rattle.draft_changes.specs.DraftState.{now}
use Rattle.draft_changes.proofs.Extensions.{extends_both}
use Rattle.model_commands.specs.declared.carts.Entry.{Entry}
use Rattle.decide_orders.proofs.Entries.{entry_joined}
use Rattle.decide_orders.proofs.Logs.{bulk_more}
use Rattle.decide_orders.proofs.bulk.add_all.Goals as goal

pub loop-entry-preserved : goal.loop-entry-preserved
loop-entry-preserved g c =
    let i = c.loop-entry.entry-index in
    let entry = c.entry-item.result in
    let all = c.args.entries.now in
    let before = now c.loop-entry.draft in
    let after = now c.add_entry.new.draft in
    let left : drop i all ≡ entry ∷ drop (i + 1) all = drop_more all i entry c.loop-entry-test.true ∙ ap (λ (e : Entry). e ∷ drop (i + 1) all) (sym c.entry-item.is) in
    let inv = c.loop-entry.invariant in
    let made = c.in_ok-add_entry.ensures.done in
    record {
      rest = entry_joined c.loop-entry.outcomes.items c.push.new.self.items c.in_ok-add_entry.field-0 entry (drop i all) (drop (i + 1) all) c.args.draw before after left made c.in_ok-push.ensures.items ∙ inv.rest;
      changes = bulk_more c.args.draft.now.log.changes c.loop-entry.draft.log.changes c.add_entry.new.draft.log.changes c.loop-entry.outcomes.items c.push.new.self.items c.in_ok-add_entry.field-0 inv.changes c.in_ok-add_entry.ensures.changes c.in_ok-push.ensures.items;
      extends = extends_both inv.extends c.in_ok-add_entry.ensures.extends;
    }
