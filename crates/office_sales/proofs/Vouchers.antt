-- A voucher that is made or changed is shown by the orders as they were before: they stay.
use Rattle.std.proofs.Common.{◌≡◌, ℕ, List, [], ◌∷◌, ◌++◌, Result, Ok, Err, IfOk, refl, sym, ap, ◌∙◌, subst}
use Rattle.std.specs.declared.alloc.AllocError.{AllocError}
use Rattle.base_values.specs.declared.draw.Draw.{Draw}
use Rattle.model_rows.specs.declared.rows.Voucher.{Voucher}
use Rattle.model_rows.specs.declared.rows.NextIds.{NextIds}
use Rattle.model_rows.specs.declared.changes.Change.{Change}
use Rattle.model_rows.specs.declared.changes.Change.TheVariants.{PutVoucher}
use Rattle.model_rows.specs.Lists.{Lists, State}
use Rattle.model_rows.specs.Change.{Changed, changes_applied, after_all}
use Rattle.office_step.specs.Drafts.{DraftState, now, Extends}
use Rattle.model_commands.specs.declared.vouchers.NewVoucher.{NewVoucher}
use Rattle.model_commands.specs.declared.vouchers.VoucherPatch.{VoucherPatch}
use Rattle.book_tally.specs.declared.deltas.Drafted.{Drafted}
use Rattle.office_step.specs.IsStep.{HasCountDeltas, IsClosed, IsStep}
use Rattle.office_step.specs.Step.{voucher_made, voucher_changed, voucher_step, voucher_change_step}
use Rattle.office_step.proofs.SoundSteps.{made_is, changed_is}
use Rattle.model_commands.specs.declared.requests.Command.TheVariants.{AddVoucher, ChangeVoucher}
use Rattle.model_commands.specs.declared.replies.Reply.{Reply}
use Rattle.model_commands.specs.declared.replies.Reply.TheVariants.{Made, Found}
use Rattle.office_step.specs.Changes.{changes_of}
use Rattle.office_step.specs.ShownRows.{show_voucher}

made_shown : (new : NewVoucher) (draw : Draw) (before after : State) (row : Voucher) → voucher_made new draw before ≡ Ok (after, row) → show_voucher before.lists row ≡ show_voucher after.lists row
unfolding show_voucher
made_shown new draw before after row h = ap (λ (s : State). show_voucher s.lists row) (made_is new draw before after row h).is_after

changed_shown : (id : ℕ) (patch : VoucherPatch) (before after : State) (row : Voucher) → voucher_changed id patch before ≡ Ok (after, row) → show_voucher before.lists row ≡ show_voucher after.lists row
unfolding show_voucher
changed_shown id patch before after row h = ap (λ (s : State). show_voucher s.lists row) (changed_is id patch before after row h).is_after

-- a draft as it is opened
abbrev pub opened : State → ℕ → DraftState
opened state at = record { log = record { base = state.lists; changes = [] }; next = state.next; moment = at }

abbrev office_of : List Change → NextIds → Lists → ℕ → State
office_of changes next lists at = record { lists = after_all changes lists; next = next; moment = at }

-- the changes of a draft that ends lead to what the draft is
finished : (state : State) (at : ℕ) (draft : DraftState) (made : Changed) → made.list ≡ draft.log.changes → made.next ≡ draft.next → draft.log.base ≡ state.lists → draft.moment ≡ at → changes_applied made at state ≡ now draft
finished state at draft made list next base moment =
    ap (λ (l : List Change). office_of l made.next state.lists at) list ∙ (ap (λ (n : NextIds). office_of draft.log.changes n state.lists at) next ∙ (ap (λ (b : Lists). office_of draft.log.changes draft.next b at) (sym base) ∙ ap (λ (m : ℕ). office_of draft.log.changes draft.next draft.log.base m) (sym moment)))

-- a voucher that is made or changed is put
made_changes : (new : NewVoucher) (draw : Draw) (state : State) (lists : Lists) (row : Voucher) → changes_of (AddVoucher new) draw state (Made (show_voucher lists row)) ≡ PutVoucher row ∷ []
unfolding show_voucher
made_changes new draw state lists row = refl

changed_changes : (id : ℕ) (patch : VoucherPatch) (draw : Draw) (state : State) (lists : Lists) (row : Voucher) → changes_of (ChangeVoucher id patch) draw state (Found (show_voucher lists row)) ≡ PutVoucher row ∷ []
unfolding show_voucher
changed_changes id patch draw state lists row = refl

-- what a draft has put that was just opened
put_alone : (state : State) (at : ℕ) (begun after : DraftState) (row : Voucher) → begun ≡ opened state at → after.log.changes ≡ begun.log.changes ++ PutVoucher row ∷ [] → after.log.changes ≡ PutVoucher row ∷ []
put_alone state at begun after row is changes = changes ∙ ap (λ (d : DraftState). d.log.changes ++ PutVoucher row ∷ []) is

-- a draft stands on the rows on which it was opened, at its moment
base_is : (state : State) (at : ℕ) (begun after : DraftState) → begun ≡ opened state at → Extends begun after → after.log.base ≡ state.lists
base_is state at begun after is extends = extends.base ∙ ap (λ (d : DraftState). d.log.base) is

moment_is : (state : State) (at : ℕ) (begun after : DraftState) → begun ≡ opened state at → Extends begun after → after.moment ≡ at
moment_is state at begun after is extends = extends.moment ∙ ap (λ (d : DraftState). d.moment) is

-- where the changes of a draft that was just opened lead
ended : (state : State) (at : ℕ) (begun after : DraftState) (made : Changed) → begun ≡ opened state at → Extends begun after → made.list ≡ after.log.changes → made.next ≡ after.next → changes_applied made at state ≡ now after
ended state at begun after made is extends list next =
    finished state at after made list next (base_is state at begun after is extends) (moment_is state at begun after is extends)

-- a voucher that a draft made is the step of its command
pub made_step : (new : NewVoucher) (draw : Draw) (at : ℕ) (state : State) (begun after : DraftState) (row : Voucher) (made : Drafted)
    → begun ≡ opened state at → Extends begun after → voucher_made new draw (now begun) ≡ Ok (now after, row) → after.log.changes ≡ begun.log.changes ++ PutVoucher row ∷ [] → made.changes.list ≡ after.log.changes → made.changes.next ≡ after.next
    → HasCountDeltas at state.lists made
    → IsStep (AddVoucher new) at draw state (made, Made (show_voucher state.lists row))
made_step new draw at state begun after row made is extends done changes list next deltas =
    let now_done : voucher_made new draw (record state { moment = at }) ≡ Ok (now after, row) = ap (λ (d : DraftState). voucher_made new draw (now d)) (sym is) ∙ done in
    let shown : show_voucher state.lists row ≡ show_voucher (now after).lists row = made_shown new draw (record state { moment = at }) (now after) row now_done in record {
      step = ap (λ (s : State). let told : State × Reply = (s, Made (show_voucher state.lists row)) in told) (ended state at begun after made.changes is extends list next)
          ∙ (ap (λ s. let told : State × Reply = (now after, Made s) in told) shown ∙ ap (voucher_step (record state { moment = at })) (sym now_done));
      changes = list ∙ (put_alone state at begun after row is changes ∙ sym (made_changes new draw (record state { moment = at }) state.lists row));
      refused = λ kind refusal told. cc;
      deltas = deltas;
    }

-- and one that a draft changed
pub changed_step : (id : ℕ) (patch : VoucherPatch) (draw : Draw) (at : ℕ) (state : State) (begun after : DraftState) (row : Voucher) (made : Drafted)
    → begun ≡ opened state at → Extends begun after → voucher_changed id patch (now begun) ≡ Ok (now after, row) → after.log.changes ≡ begun.log.changes ++ PutVoucher row ∷ [] → made.changes.list ≡ after.log.changes → made.changes.next ≡ after.next
    → HasCountDeltas at state.lists made
    → IsStep (ChangeVoucher id patch) at draw state (made, Found (show_voucher state.lists row))
changed_step id patch draw at state begun after row made is extends done changes list next deltas =
    let now_done : voucher_changed id patch (record state { moment = at }) ≡ Ok (now after, row) = ap (λ (d : DraftState). voucher_changed id patch (now d)) (sym is) ∙ done in
    let shown : show_voucher state.lists row ≡ show_voucher (now after).lists row = changed_shown id patch (record state { moment = at }) (now after) row now_done in record {
      step = ap (λ (s : State). let told : State × Reply = (s, Found (show_voucher state.lists row)) in told) (ended state at begun after made.changes is extends list next)
          ∙ (ap (λ s. let told : State × Reply = (now after, Found s) in told) shown ∙ ap (voucher_change_step (record state { moment = at })) (sym now_done));
      changes = list ∙ (put_alone state at begun after row is changes ∙ sym (changed_changes id patch draw (record state { moment = at }) state.lists row));
      refused = λ kind refusal told. cc;
      deltas = deltas;
    }

abbrev answered : Reply → Result Reply AllocError
answered reply = Ok reply

same_told : {a b : Reply} → answered a ≡ answered b → a ≡ b
same_told e = cc

-- what comes of a draft that is closed with an answer
pub closed_with : (at : ℕ) (lists : Lists) (result : Result (Drafted × Reply) AllocError) (reply : Result Reply AllocError) (told : Reply) (draft : DraftState) (P : Drafted × Reply → Type 0)
    → IfOk result (IsClosed at lists draft reply) → reply ≡ Ok told → ((made : Drafted) → IsClosed at lists draft (Ok told) (made, told) → P (made, told)) → IfOk result P
closed_with at lists (Ok (made, said)) reply told draft P closed is holds =
    let same : told ≡ said = same_told (sym is ∙ closed.reply) in
    subst (λ (t : Reply). P (made, t)) same (holds made (record { reply = refl; list = closed.list; next = closed.next; deltas = closed.deltas }))
closed_with at lists (Err e) reply told draft P closed is holds = tt
