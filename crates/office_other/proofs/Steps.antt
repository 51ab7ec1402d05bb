-- A step of what is for sale, from its changes and its reply.
use Rattle.std.proofs.Common.{◌≡◌, ℕ, sym, ap, ◌∙◌}
use Rattle.base_values.specs.declared.draw.Draw.{Draw}
use Rattle.model_rows.specs.Lists.{State}
use Rattle.model_rows.specs.Change.{Changed, changes_applied}
use Rattle.book_tally.specs.declared.deltas.Drafted.{Drafted}
use Rattle.model_commands.specs.declared.requests.Command.{Command}
use Rattle.model_commands.specs.declared.replies.Reply.{Reply}
use Rattle.office_step.specs.Changes.{changes_of}
use Rattle.office_step.specs.IsStep.{HasCountDeltas, IsTimelessStep}
use Rattle.office_step.specs.Step.{RefusesWithoutChange, step}

-- these changes and this reply are the step of a command, whatever the changes shift
pub record Fits (command : Command) (at : ℕ) (draw : Draw) (state : State) (changed : Changed) (reply : Reply) : Type 0 where
  pub leads : (changes_applied changed at state, reply) ≡ step command at draw state
  pub changes : changed.list ≡ changes_of command draw (record state { moment = at }) reply
  pub refused : RefusesWithoutChange state (changed, reply)

pub timeless : (command : Command) (state : State) (made : Drafted × Reply) (changed : Changed) (reply : Reply)
    → made.0.changes ≡ changed → made.1 ≡ reply → ((at : ℕ) → HasCountDeltas at state.lists made.0)
    → ((at : ℕ) (draw : Draw) → Fits command at draw state changed reply) → IsTimelessStep command state made
timeless command state made changed reply are is deltas fits = λ at draw. record {
  step = ap (λ (x : Changed). let told : State × Reply = (changes_applied x at state, made.1) in told) are ∙ (ap (λ (r : Reply). let told : State × Reply = (changes_applied changed at state, r) in told) is ∙ (fits at draw).leads);
  changes = ap (λ (x : Changed). x.list) are ∙ ((fits at draw).changes ∙ ap (λ (r : Reply). changes_of command draw (record state { moment = at }) r) (sym is));
  refused = λ kind refusal told. are ∙ (fits at draw).refused kind refusal (sym is ∙ told);
  deltas = deltas at;
}
