use Rattle.std.proofs.Common.{◌≡◌, Bool, false, ℕ, Option, ap₂, option_copied, sym, ap, ◌∙◌}
use Rattle.std.proofs.lemmas.Result.{on_ok_weaker}
use Rattle.model_catalogue.specs.declared.rows.Quota.{Quota}
use Rattle.model_rows.specs.declared.rows.Voucher.{Voucher}
use Rattle.model_rows.specs.Asked.{held_in}
use Rattle.model_rows.specs.Lists.{voucher_at}
use Rattle.model_rows.specs.Usage.{blocks_if}
use Rattle.draft_overlay.specs.Logs.{rows_of}
use Rattle.model_rows.specs.Usage.{redeemed}
use Rattle.draft_counts.specs.CountDelta.{voucher_counts, left_of}
use Rattle.draft_counts.proofs.Values.{more_same, none_more}
use Rattle.draft_counts.proofs.shift.with_voucher.Goals as goal

pub returns-then-not-may_block-2-clause-more : goal.returns-then-not-may_block-2-clause-more
returns-then-not-may_block-2-clause-more g c =
    let lists = rows_of c.args.count_base.now.overlay.now in
    let at = c.args.count_base.now.at in
    let come = option_copied c.args.come in
    let gone = voucher_at c.args.id lists in
    let no_come : (q : Quota) → blocks_if at q come ≡ false = c.may_block.ensures c.if-not-may_block.true in
    let no_gone : (q : Quota) → blocks_if at q gone ≡ false = λ q. ap (blocks_if at q) (sym c.voucher-gone.ensures) ∙ c.may_block-then-not-may_block.ensures c.if-not-may_block-2.true q in
    more_same _ _ _ _ c.args.count_base.now.catalogue.now.lists.quotas c.args.counts.now c.args.counts.now
    (λ q. sym (ap₂ (λ (a b : Bool). voucher_counts a b (left_of (redeemed c.args.id lists) come) (held_in at q c.args.id lists)) (no_come q) (no_gone q)))
    (λ q. sym (ap₂ (λ (a b : Bool). voucher_counts a b (left_of (redeemed c.args.id lists) gone) (held_in at q c.args.id lists)) (no_gone q) (no_come q)))
    (none_more c.args.count_base.now.catalogue.now.lists.quotas c.args.counts.now)

pub returns-clause-more : goal.returns-clause-more
returns-clause-more g c =
    let lists = rows_of c.args.count_base.now.overlay.now in
    let at = c.args.count_base.now.at in
    let id = c.args.id in
    let come = option_copied c.args.come in
    on_ok_weaker c.count_each.result
    (more_same _ _ _ _ c.args.count_base.now.catalogue.now.lists.quotas c.args.counts.now c.count_each.new.counts
    (λ q. ap (λ (o : Option Voucher). voucher_counts (blocks_if at q come) (blocks_if at q o) (left_of c.redeemed-redeemed.result come) (held_in at q id lists)) c.voucher-gone.ensures
    ∙ ap (λ (n : ℕ). voucher_counts (blocks_if at q come) (blocks_if at q (voucher_at id lists)) (left_of n come) (held_in at q id lists)) c.redeemed-redeemed.ensures.value)
    (λ q. ap (λ (o : Option Voucher). voucher_counts (blocks_if at q o) (blocks_if at q come) (left_of c.redeemed-redeemed.result o) (held_in at q id lists)) c.voucher-gone.ensures
    ∙ ap (λ (n : ℕ). voucher_counts (blocks_if at q (voucher_at id lists)) (blocks_if at q come) (left_of n (voucher_at id lists)) (held_in at q id lists)) c.redeemed-redeemed.ensures.value))
    c.count_each.ensures.more
