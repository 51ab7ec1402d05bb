use Rattle.std.proofs.Common.{ℕ, OnOk, Option, refl, sym, ap, ◌∙◌, subst}
use Rattle.std.proofs.lemmas.Result.{on_ok_weaker}
use Rattle.model_rows.specs.declared.changes.Change.{Change}
use Rattle.draft_overlay.specs.Logs.{rows_of}
use Rattle.book_usage.specs.Shares.{held_name}
use Rattle.draft_counts.specs.Counts.{AreMoreUses}
use Rattle.draft_counts.specs.Uses.{held_by, used_by, use_come, use_gone}
use Rattle.draft_counts.proofs.UseCounts.{same_more, unused}
use Rattle.draft_counts.proofs.uses.count_uses.Goals as goal

pub returns-in-PutCart-clause-more : goal.returns-in-PutCart-clause-more
returns-in-PutCart-clause-more g c =
    let lists = rows_of c.args.count_base.now.overlay.now in
    let at = c.args.count_base.now.at in
    subst (λ (change : Change). OnOk c.count_held.result (AreMoreUses (use_come lists at change) (use_gone lists at change) c.args.uses.now c.count_held.new.uses)) (sym c.in-PutCart.is)
    (on_ok_weaker c.count_held.result (same_more _ _ _ _ c.args.uses.now c.count_held.new.uses (λ v. ap (held_by v) c.held_name.ensures) (λ v. ap (held_by v) (c.held_name-gone.ensures ∙ ap (held_name at) c.cart.ensures))) c.count_held.ensures.more)

pub returns-in-DropCart-clause-more : goal.returns-in-DropCart-clause-more
returns-in-DropCart-clause-more g c =
    let lists = rows_of c.args.count_base.now.overlay.now in
    let at = c.args.count_base.now.at in
    subst (λ (change : Change). OnOk c.count_held-in-DropCart.result (AreMoreUses (use_come lists at change) (use_gone lists at change) c.args.uses.now c.count_held-in-DropCart.new.uses)) (sym c.in-DropCart.is)
    (on_ok_weaker c.count_held-in-DropCart.result (same_more _ _ _ _ c.args.uses.now c.count_held-in-DropCart.new.uses (λ v. refl) (λ v. ap (held_by v) (c.held_name-in-DropCart.ensures ∙ ap (held_name at) c.cart-in-DropCart.ensures))) c.count_held-in-DropCart.ensures.more)

pub returns-in-PutPosition-clause-more : goal.returns-in-PutPosition-clause-more
returns-in-PutPosition-clause-more g c =
    let lists = rows_of c.args.count_base.now.overlay.now in
    let at = c.args.count_base.now.at in
    subst (λ (change : Change). OnOk c.count_used.result (AreMoreUses (use_come lists at change) (use_gone lists at change) c.args.uses.now c.count_used.new.uses)) (sym c.in-PutPosition.is)
    (on_ok_weaker c.count_used.result (same_more _ _ _ _ c.args.uses.now c.count_used.new.uses (λ v. ap (λ (o : Option ℕ). used_by v o c.in-PutPosition.row.discount) c.used_name.ensures) (λ v. refl)) c.count_used.ensures.more)

pub returns-in-PutOrder-clause-more : goal.returns-in-PutOrder-clause-more
returns-in-PutOrder-clause-more g c =
    let lists = rows_of c.args.count_base.now.overlay.now in
    let at = c.args.count_base.now.at in
    subst (λ (change : Change). OnOk c.count_turned.result (AreMoreUses (use_come lists at change) (use_gone lists at change) c.args.uses.now c.count_turned.new.uses)) (sym c.in-PutOrder.is) c.count_turned.ensures.more

pub returns-in_default-clause-more : goal.returns-in_default-clause-more
returns-in_default-clause-more g c = let d = c.in_default in unused (rows_of c.args.count_base.now.overlay.now) c.args.count_base.now.at c.args.uses.now c.args.change.now d.not-PutCart d.not-DropCart d.not-PutPosition d.not-PutOrder
