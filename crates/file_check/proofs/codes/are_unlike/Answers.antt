use Rattle.file_check.proofs.Likes.{unlike_firsts}
use Rattle.file_check.proofs.codes.are_unlike.Goals as goal

pub returns : goal.returns
returns g c =
    let firsts = unlike_firsts (g.B.Book.state c.args.book.now).lists.vouchers c.recall_invariant.ensures.vouchers.in_order in
    (λ h. firsts.0 (c.all_have_new_codes.ensures.0 h), λ h. c.all_have_new_codes.ensures.1 (firsts.1 h))
