use Rattle.std.proofs.Common.{◌++◌, [], ◌∷◌, eqb, ap, sym, ◌∙◌}
use Rattle.std.specs.Prelude.{if◌then◌else◌}
use Rattle.book_tally.specs.declared.tally.Count.{Count}
use Rattle.book_tally.specs.Counts.{came, went}
use Rattle.book_tally.proofs.Newest.{part_added}
use Rattle.book_tally.proofs.tally.Tally.add.Goals as goal

pub returns-clause-comes : goal.returns-clause-comes
returns-clause-comes g c k =
    let none = g.A.Amount.zero in
    let journal = c.self.inside.counts.items in
    let new : Count g.row.A.Denot = record { id = c.args.key; come = c.in_ok-come.come; gone = c.in_ok-gone.gone } in
    let is = c.in_ok-push-2.ensures.items ∙ ap (λ l. l ++ new ∷ []) c.reserve.ensures.items in
    let more = c.in_ok-come.ensures ∙ ap (λ a. g.A.Amount.sum a c.args.come) (c.of-old.ensures.come ∙ ap (came none c.args.key) (sym c.self.view_is)) in
    ap (came none k) is ∙ part_added none (λ r. r.come) journal g.A.Amount.sum new c.args.come k more ∙ ap (λ l. if eqb c.args.key k then g.A.Amount.sum (came none k l) c.args.come else came none k l) c.self.view_is

pub returns-clause-goes : goal.returns-clause-goes
returns-clause-goes g c k =
    let none = g.A.Amount.zero in
    let journal = c.self.inside.counts.items in
    let new : Count g.row.A.Denot = record { id = c.args.key; come = c.in_ok-come.come; gone = c.in_ok-gone.gone } in
    let is = c.in_ok-push-2.ensures.items ∙ ap (λ l. l ++ new ∷ []) c.reserve.ensures.items in
    let more = c.in_ok-gone.ensures ∙ ap (λ a. g.A.Amount.sum a c.args.gone) (c.of-old.ensures.gone ∙ ap (went none c.args.key) (sym c.self.view_is)) in
    ap (went none k) is ∙ part_added none (λ r. r.gone) journal g.A.Amount.sum new c.args.gone k more ∙ ap (λ l. if eqb c.args.key k then g.A.Amount.sum (went none k l) c.args.gone else went none k l) c.self.view_is
