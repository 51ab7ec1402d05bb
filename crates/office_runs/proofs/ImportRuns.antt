-- An import does what its rows do, each as a command of its own after those before it, and tells what each of them was told.
use Rattle.std.proofs.Common.{◌≡◌, ℕ, ◌≤◌, List, [], ◌∷◌, map, Option, Some, None, Result, Ok, Err, refl, sym, ap, ap₂, ◌∙◌, subst, arith}
use Rattle.std.specs.Prelude.{max, min}
use Rattle.base_values.specs.declared.draw.Draw.{Draw}
use Rattle.base_values.specs.Moments.{last_moment}
use Rattle.model_rows.specs.declared.rows.Voucher.{Voucher}
use Rattle.model_rows.specs.Lists.{State}
use Rattle.model_commands.specs.declared.vouchers.NewVoucher.{NewVoucher}
use Rattle.model_commands.specs.declared.vouchers.Verdict.{Verdict}
use Rattle.model_commands.specs.declared.vouchers.VoucherRefusal.{VoucherRefusal}
use Rattle.decide_vouchers.specs.Imported.{namesake, made_verdict, imported_beside, row_imported, rows_imported}
use Rattle.decide_vouchers.specs.Made.{voucher_made}
use Rattle.decide_vouchers.proofs.Imports.{rows_moment}
use Rattle.model_commands.specs.declared.requests.Command.TheVariants.{AddVoucher}
use Rattle.model_commands.specs.declared.replies.Reply.{Reply}
use Rattle.office_step.specs.ShownRows.{show_voucher}
use Rattle.office_step.specs.Step.{voucher_step, step, moment_at}
use Rattle.office_runs.specs.Promises.{verdict_told, row_beside, rows_alone}

pub no_later : (state : State) (clock : ℕ) → min clock last_moment ≤ state.moment → state.moment ≡ moment_at clock state
no_later state clock le = by_last state.moment clock last_moment le
  where
    by_last : (moment clock last : ℕ) → min clock last ≤ moment → moment ≡ max moment (min clock last)
    by_last moment clock last le = omega (arith, le)

-- a row of its own leads where it leads in the import, and is told what became of it there
same_office : (state : State) (r : Result (State × Voucher) VoucherRefusal) → (made_verdict state r).0 ≡ (voucher_step state r).0
same_office state (Ok (after, row)) = refl
same_office state (Err refusal) = refl

same_verdict : (state : State) (r : Result (State × Voucher) VoucherRefusal) → verdict_told (voucher_step state r).1 ≡ Some (made_verdict state r).1
unfolding show_voucher
same_verdict state (Ok (after, row)) = refl
same_verdict state (Err refusal) = refl

-- what is left, and what each was told
abbrev pub each_told : State × List Verdict → State × List (Option Verdict)
each_told made = (made.0, map (λ verdict. Some verdict) made.1)

module _ (clock : ℕ) (draw : Draw) where
  own_step : (new : NewVoucher) (state : State) → min clock last_moment ≤ state.moment → voucher_step state (voucher_made new draw state) ≡ step (AddVoucher new) (moment_at clock state) draw state
  own_step new state le = ap (λ at. step (AddVoucher new) at draw state) (no_later state clock le)

  beside : (found : Option Voucher) (new : NewVoucher) (state : State) → min clock last_moment ≤ state.moment → ((imported_beside found new draw state).0, Some (imported_beside found new draw state).1) ≡ row_beside found clock draw new state
  beside (Some row) new state le = refl
  beside None new state le =
      let r = voucher_made new draw state in
      let own = own_step new state le in
      ap₂ (λ (s : State) (v : Option Verdict). (s, v)) (same_office state r ∙ ap (λ (made : State × Reply). made.0) own) (sym (same_verdict state r) ∙ ap (λ (made : State × Reply). verdict_told made.1) own)

  still : (new : NewVoucher) (state : State) → min clock last_moment ≤ state.moment → min clock last_moment ≤ (row_imported new draw state).0.moment
  still new state le = subst (λ (at : ℕ). min clock last_moment ≤ at) (sym (rows_moment (new ∷ []) draw state)) le

  pub all_alone : (vouchers : List NewVoucher) (state : State) → min clock last_moment ≤ state.moment → each_told (rows_imported vouchers draw state) ≡ rows_alone clock draw vouchers state
  all_alone [] state le = refl
  all_alone (new ∷ more) state le =
      let one = row_imported new draw state in
      ap (λ (rest : State × List (Option Verdict)). (rest.0, Some one.1 ∷ rest.1)) (all_alone more one.0 (still new state le))
      ∙ ap (λ (made : State × Option Verdict). ((rows_alone clock draw more made.0).0, made.1 ∷ (rows_alone clock draw more made.0).1)) (beside (namesake new.code state.lists) new state le)
