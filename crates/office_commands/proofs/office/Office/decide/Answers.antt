use Rattle.std.proofs.Common.{rules, ◌≡◌, ◌≤◌, IfOk, sym, ap, subst}
use Rattle.base_values.specs.Moments.{last_moment}
use Rattle.std.proofs.lemmas.Result.{IfOk-weaker}
use Rattle.model_rows.specs.Lists.{State}
use Rattle.model_rows.specs.Change.{changes_applied}
use Rattle.model_invariant.specs.Sound.{IsSound}
use Rattle.model_commands.specs.declared.replies.Reply.{Reply}
use Rattle.office_other.specs.Machine.{IsStep}
use Rattle.office_other.proofs.Machine.{step_sound}
use Rattle.office_commands.proofs.office.Office.decide.Goals as goal

pub returns-clause-step : goal.returns-clause-step
returns-clause-step g c =
    subst (λ (s : State). IfOk c.decide_over.result (IsStep c.args.command.now c.args.at c.args.draw s)) c.book-book.ensures.state c.decide_over.ensures

pub returns-clause-sound : goal.returns-clause-sound
returns-clause-sound g c =
    let last : c.args.at ≤ last_moment = search rules in
    let state : State = g.B.Book.state c.book-book.result.now in
    let moment : state.moment ≤ c.args.at = subst (λ (s : State). s.moment ≤ c.args.at) (sym c.book-book.ensures.state) c.requires in
    subst (λ (s : State). IfOk c.decide_over.result (λ r. IsSound (changes_applied r.0.changes c.args.at s))) c.book-book.ensures.state
    (IfOk-weaker c.decide_over.result _ _ (λ r is. subst IsSound (sym (ap (λ (x : State × Reply). x.0) is.step)) (step_sound c.args.command.now c.args.at c.args.draw state c.recall_invariant.ensures c.recall_invariant-2.ensures moment last c.book-book.ensures.sound)) c.decide_over.ensures)
