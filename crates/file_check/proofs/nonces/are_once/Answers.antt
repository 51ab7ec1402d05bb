use Rattle.file_check.proofs.Likes.{once_firsts}
use Rattle.file_check.proofs.nonces.are_once.Goals as goal

pub returns : goal.returns
returns g c =
    let firsts = once_firsts (g.B.Book.state c.args.book.now).lists.checkins c.recall_invariant.ensures.checkins.in_order in
    (λ h. firsts.0 (c.in_ok-new.ensures.0 h), λ h. c.in_ok-new.ensures.1 (firsts.1 h))
