use Rattle.std.proofs.Common.{ℕ, List, map, ap, ◌∙◌}
use Rattle.model_rows.specs.declared.rows.Voucher.{Voucher}
use Rattle.model_rows.specs.Headroom.{held}
use Rattle.model_rows.specs.Usage.{redeemed, spent}
use Rattle.book_counts_applied.proofs.again.count_again.Goals as goal

pub returns-clause-kept : goal.returns-clause-kept
returns-clause-kept c =
    let state = c.put_rows.new.store.state in
    record {
      usages = c.count_usages.ensures;
      redeems = c.count_redeems.ensures ∙ ap (λ (l : List Voucher). map (λ v. redeemed v.id state.lists) l) c.vouchers.ensures;
      spents = c.count_spents.ensures ∙ ap (λ (l : List Voucher). map (λ v. spent v.id state.lists) l) c.vouchers-2.ensures;
      held =
          c.count_holds.ensures
          ∙ ap (λ (n : ℕ). map (λ v. held n v.id state.lists) c.vouchers-3.result.now) c.moment.ensures
          ∙ ap (λ (l : List Voucher). map (λ v. held state.moment v.id state.lists) l) c.vouchers-3.ensures;
      small = c.put_rows.ensures.small;
    }
