use Rattle.std.proofs.lemmas.Result.{IfOk-weaker}
use Rattle.app_files.proofs.TokenLemmas.{cause_of, full_by, known_by, left_by, no_token, open_at, stays_at}
use Rattle.app_files.proofs.adding.add_shop_token.Goals as goal

pub returns-in-Ok : goal.returns-in-Ok
returns-in-Ok g c =
    let opened = c.in-Ok.ensures.opens in
    let added = c.add_over.ensures in
    let outcome = c.add_over.result.outcome in
    record {
      added = IfOk-weaker outcome _ _ (λ number gets clean db at known.
          let it = gets clean in
          known_by db.trees _ _ _ _ number _ _ (opened.opened it.clean db (open_at _ _ opened.rests it.clean it.was_open db at) known) it) added.gets;
      cause = cause_of outcome _ _ _ added.cause (λ is clean db at known.
          let cleared = added.clean clean in
          full_by db.trees _ _ _ _ _ (opened.opened cleared db at known) (λ house knows. added.full is clean house knows));
      none = λ clean is_open db at known. stays_at outcome db _ _ _ opened.rests (added.clean clean) is_open at known (added.none clean);
      crash = λ clean db at known.
          let cleared = added.clean clean in
          left_by db _ _ _ _ _ _ _ opened.rests opened.crash added.crash cleared clean at known (λ was_open. opened.opened cleared db (open_at _ _ opened.rests cleared was_open db at) known)
          (λ house knows. added.known_crash clean house knows);
    }

pub returns-in-Err : goal.returns-in-Err
returns-in-Err g c = no_token g.S.Store _ _ _ _ c.in-Err.ensures.stays
