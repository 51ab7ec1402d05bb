use Rattle.std.proofs.Common.{◌≡◌, List, map, get_or, refl, sym, ap, ◌∙◌, arith}
use Rattle.model_rows.specs.declared.rows.Voucher.{Voucher}
use Rattle.model_rows.specs.CountRows.{voucher_count}
use Rattle.file_check.proofs.Recounts.{goes_on, breaks}
use Rattle.file_check.proofs.counters.are_redeemed.Goals as goal

pub returns-then-not-is_voucher_count : goal.returns-then-not-is_voucher_count
returns-then-not-is_voucher_count g c =
    let count = voucher_count (g.B.Book.state c.args.book.now) in
    let counts = c.args.redeemed.now in
    let rows = c.vouchers-vouchers.result.now in
    let here = get_or counts c.loop-at.at (record { voucher = 0; redeemed = 0; spent = 0 }) in
    let wrong : here ≡ count c.index-vouchers-at.result → ⊥ = λ e. cc (c.is_voucher_count.ensures.1 e, c.if-not-is_voucher_count.true) in
    let never : counts ≡ map count rows → ⊥ = λ all. breaks count counts rows c.loop-at.at here (record { voucher = 0; redeemed = 0; spent = 0 }) c.index-vouchers-at.result (omega arith) c.loop-at-test.true refl c.index-vouchers-at.is wrong (c.loop-at.invariant.1 all) in
    (λ truth. absurd (cc (truth)), λ all. absurd (never (all ∙ ap (λ (vs : List Voucher). map count vs) (sym c.vouchers-vouchers.ensures))))

pub loop-at-preserved : goal.loop-at-preserved
loop-at-preserved g c =
    let count = voucher_count (g.B.Book.state c.args.book.now) in
    let counts = c.args.redeemed.now in
    let rows = c.vouchers-vouchers.result.now in
    let here = get_or counts c.loop-at.at (record { voucher = 0; redeemed = 0; spent = 0 }) in
    goes_on count counts rows c.loop-at.at here (record { voucher = 0; redeemed = 0; spent = 0 }) c.index-vouchers-at.result (counts ≡ map count rows) (omega arith) c.loop-at-test.true refl c.index-vouchers-at.is (c.is_voucher_count.ensures.0 c.if-not-is_voucher_count.false) c.loop-at.invariant
