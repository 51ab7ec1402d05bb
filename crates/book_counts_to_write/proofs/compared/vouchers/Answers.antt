use Rattle.std.proofs.Common.{◌≡◌, List, [], ◌∷◌, ◌++◌, take, get_or, sym, ap, ◌∙◌, arith}
use Rattle.std.specs.Prelude.{flat_map}
use Rattle.std.proofs.lemmas.List.{take_more, flat_map_more}
use Rattle.model_rows.specs.declared.rows.Voucher.{Voucher}
use Rattle.model_rows.specs.declared.count_rows.VoucherCount.{VoucherCount}
use Rattle.book_counts_to_write.specs.Told.{Passage, voucher_told}
use Rattle.book_counts_to_write.proofs.compared.vouchers.Goals as goal

pub loop-voucher-preserved : goal.loop-voucher-preserved
loop-voucher-preserved g c =
    let both : Passage = record { before = g.A.Book.state c.args.before.now; after = g.C.Book.state c.args.after.now } in
    let rows : List Voucher = c.vouchers-voucher-items.result.now in
    let item : c.voucher-item.result ≡ get_or rows c.loop-voucher.voucher-index _ = c.voucher-item.is in
    c.in_ok-add_voucher.ensures
    ∙ ap (λ (l : List VoucherCount). l ++ voucher_told both c.voucher-item.result) c.loop-voucher.invariant
    ∙ flat_map_more (voucher_told both) [] (take c.loop-voucher.voucher-index rows) c.voucher-item.result
    ∙ ap (flat_map (voucher_told both)) (ap (λ (v : Voucher). take c.loop-voucher.voucher-index rows ++ v ∷ []) item ∙ sym (take_more rows c.loop-voucher.voucher-index _ (omega (arith, c.loop-voucher-test.true))))
