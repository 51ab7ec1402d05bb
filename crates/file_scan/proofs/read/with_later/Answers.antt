use Rattle.file_scan.proofs.read.with_later.Goals as goal

pub returns-clause-held : goal.returns-clause-held
returns-clause-held c db h =
    let a = h.catalogue in
    let b = h.sales in
    let d = h.doors in
    let e = h.others in
    record {
      catalogue = record { items = a.items; variations = a.variations; quotas = a.quotas; quota_items = a.quota_items; quota_variations = a.quota_variations };
      sales = record { vouchers = b.vouchers; carts = b.carts; orders = b.orders; positions = b.positions; waiting = b.waiting };
      doors = d;
      others = record { counts = e.counts; tokens = e.tokens; kept = e.kept };
    }

pub returns-clause-limits : goal.returns-clause-limits
returns-clause-limits c fit budgets discounts =
    let a = fit.catalogue in
    let b = fit.sales in
    let e = fit.others in
    record {
      catalogue = record { items = a.items; variations = a.variations; quotas = a.quotas };
      sales = record { vouchers = b.vouchers; carts = b.carts; orders = b.orders; positions = b.positions; waiting = b.waiting; budgets = budgets; discounts = discounts };
      doors = fit.doors;
      others = record { tokens = e.tokens; kept = e.kept };
    }
