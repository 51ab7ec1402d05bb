use Rattle.std.proofs.Common.{◌&&◌, ap, ◌∙◌}
use Rattle.book_tally.specs.Amounts.{nothing}
use Rattle.draft_counts.specs.CountDelta.{once, sold_as}
use Rattle.draft_counts.proofs.Reached.{no_other_more}
use Rattle.draft_counts.proofs.Sums.{none_sold}
use Rattle.draft_counts.proofs.shift.SaleShare.touch.Goals as goal

pub returns-clause-come : goal.returns-clause-come
returns-clause-come c q other =
    let sale = c.args.self.now in
    ap (λ here. sold_as sale.paid sale.pending here (q.release_after_exit && sale.out)) (no_other_more c.touch_product.new.ids.items c.touch_voucher.new.ids.items c.args.catalogue.now.lists _ c.in_ok-touch_voucher.ensures.keeps c.in_ok-touch_product.ensures.more q other)
    ∙ none_sold sale.paid sale.pending (q.release_after_exit && sale.out)

pub returns-clause-gone : goal.returns-clause-gone
returns-clause-gone c q other = ap (λ b. record nothing { blocked = once b }) (c.in_ok-touch_voucher.ensures.more c.args.self.now.at q other)
