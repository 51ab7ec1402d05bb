use Rattle.draft_counts.proofs.Reached.{no_other_more, keeps_both}
use Rattle.draft_counts.proofs.orders.touch_both.Goals as goal

pub returns-clause-here : goal.returns-clause-here
returns-clause-here c = no_other_more c.touch_product.new.ids.items c.touch_voucher.new.ids.items c.args.catalogue.now.lists _ c.in_ok-touch_voucher.ensures.keeps c.in_ok-touch_product.ensures.more

pub returns-clause-covered : goal.returns-clause-covered
returns-clause-covered c = c.in_ok-touch_voucher.ensures.more

pub returns-clause-keeps : goal.returns-clause-keeps
returns-clause-keeps c = keeps_both c.args.ids.now.items c.touch_product.new.ids.items c.touch_voucher.new.ids.items c.in_ok-touch_product.ensures.keeps c.in_ok-touch_voucher.ensures.keeps
