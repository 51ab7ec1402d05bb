use Rattle.std.proofs.Common.{List, [], ◌∷◌, ◌++◌, sym, ap, ◌∙◌, subst}
use Rattle.draft_overlay.specs.Logs.{rows_of}
use Rattle.draft_counts.specs.declared.tallies.JournalMark.{JournalMark}
use Rattle.draft_counts.specs.declared.tallies.RowCounts.{RowCounts}
use Rattle.draft_counts.specs.Tallied.{Tallied, IsNext, reach_now}
use Rattle.draft_counts.proofs.tallies.Tallies.count.Goals as goal

pub returns-clause-ok : goal.returns-clause-ok
returns-clause-ok g c =
    let inside = c.self.inside in
    let lists = rows_of c.args.overlay.now in
    let change = c.args.change.now in
    let here : RowCounts = record { carts = c.carts_after-carts.result; vouchers = c.vouchers_after-vouchers.result } in
    let new : Tallied = record { counts = c.count_both.new.counts; uses = c.count_both.new.uses; here = here; reached = c.push.new.self.items } in
    subst (λ (old : Tallied). IsNext c.args.at change lists c.args.catalogue.now.lists.quotas old new) c.self.view_is
    (record {
      counts = c.in_ok-count_both.ensures.more;
      uses = c.in_ok-count_both.ensures.uses;
      carts = c.carts_after-carts.ensures;
      vouchers = c.vouchers_after-vouchers.ensures;
      reached = c.in_ok-push.ensures.items ∙ ap (λ (l : List JournalMark). l ++ c.reach_now-reach.result ∷ []) c.reserve.ensures.items ∙ ap (λ (r : JournalMark). inside.reached.items ++ r ∷ []) (c.reach_now-reach.ensures ∙ ap reach_now (sym c.self.view_is));
    })
