-- What the rows of a voucher file do, one after another.
use Rattle.std.proofs.Common.{◌≡◌, Bool, true, false, List, [], ◌∷◌, Option, Some, None, Result, Ok, Err, refl, sym, ap, ◌∙◌, subst, append_assoc}
use Rattle.std.specs.Prelude.{◌++◌, if◌then◌else◌}
use Rattle.std.specs.List.{AllByRecursion}
use Rattle.std.proofs.lemmas.List.Elements.{filter_map-append}
use Rattle.base_values.specs.Draws.{IsDraw}
use Rattle.base_values.specs.declared.draw.Draw.{Draw}
use Rattle.model_rows.specs.declared.rows.Voucher.{Voucher}
use Rattle.model_rows.specs.declared.changes.Change.{Change}
use Rattle.model_rows.specs.declared.changes.Change.TheVariants.{PutVoucher}
use Rattle.model_rows.specs.Lists.{State}
use Rattle.model_invariant.specs.Changes.{LeadTo}
use Rattle.model_invariant.specs.Sound.{IsSound}
use Rattle.model_invariant.proofs.Changes.{leads_one, leads_nowhere, leads_joined}
use Rattle.model_commands.specs.FitRequests.{IsFitVoucher}
use Rattle.model_commands.specs.declared.vouchers.NewVoucher.{NewVoucher}
use Rattle.model_commands.specs.declared.vouchers.Verdict.{Verdict}
use Rattle.model_commands.specs.declared.vouchers.Verdict.TheVariants.{Added, Same, Other, Refused}
use Rattle.model_commands.specs.declared.vouchers.VoucherRefusal.{VoucherRefusal}
use Rattle.decide_vouchers.specs.Imported.{namesake, made_verdict, imported_beside, row_imported, with_verdict, rows_imported, put_by, import_changes, is_as_given, verdict_on}
use Rattle.decide_vouchers.specs.Steps.{after_verdicts}
use Rattle.decide_vouchers.specs.Made.{voucher_made}
use Rattle.decide_vouchers.proofs.Made.{made_is, made_sound, made_moment}

-- ---- one after another

-- one row more
pub row_joined : (verdicts new : List Verdict) (verdict : Verdict) (row : NewVoucher) (all rest : List NewVoucher) (draw : Draw) (before after : State) → all ≡ row ∷ rest → row_imported row draw before ≡ (after, verdict) → new ≡ verdicts ++ verdict ∷ [] → after_verdicts new (rows_imported rest draw after) ≡ after_verdicts verdicts (rows_imported all draw before)
row_joined verdicts new verdict row all rest draw before after left made joined =
    let more = rows_imported rest draw after in
    ap (λ (vs : List Verdict). after_verdicts vs more) joined
    ∙ ap (λ (vs : List Verdict). (more.0, vs)) (append_assoc verdicts (verdict ∷ []) more.1)
    ∙ ap (λ (m : State × Verdict). after_verdicts verdicts (with_verdict m.1 (rows_imported rest draw m.0))) (sym made)
    ∙ ap (λ (rows : List NewVoucher). after_verdicts verdicts (rows_imported rows draw before)) (sym left)

-- one verdict more
pub changes_more : (old before after : List Change) (verdicts new : List Verdict) (verdict : Verdict) → before ≡ old ++ import_changes verdicts → after ≡ before ++ import_changes (verdict ∷ []) → new ≡ verdicts ++ verdict ∷ [] → after ≡ old ++ import_changes new
changes_more old before after verdicts new verdict so_far made is =
    made ∙ ap (λ (cs : List Change). cs ++ import_changes (verdict ∷ [])) so_far ∙ append_assoc old (import_changes verdicts) (import_changes (verdict ∷ [])) ∙ ap (λ (cs : List Change). old ++ cs) (sym (ap import_changes is ∙ filter_map-append put_by verdicts (verdict ∷ [])))

-- ---- one row

-- where a voucher has its code nothing is put
pub puts_nothing : (new : NewVoucher) (row : Voucher) → import_changes (verdict_on new row ∷ []) ≡ []
puts_nothing new row = by_likeness (is_as_given new row)
  where
    by_likeness : (same : Bool) → import_changes ((if same then Same else Other) ∷ []) ≡ []
    by_likeness true = refl
    by_likeness false = refl

-- what is known of every voucher that is made is known of what a row does, where it is known where nothing is done
module _ (new : NewVoucher) (draw : Draw) (state : State) (P : State × Verdict → Type 0)
    (still : (verdict : Verdict) → put_by verdict ≡ None → P (state, verdict)) (made : (after : State) (row : Voucher) → voucher_made new draw state ≡ Ok (after, row) → P (after, Added row)) where
  by_made : (r : Result (State × Voucher) VoucherRefusal) → voucher_made new draw state ≡ r → P (made_verdict state r)
  by_made (Err refusal) is = still (Refused refusal) refl
  by_made (Ok (after, row)) is = made after row is

  by_likeness : (row : Voucher) (same : Bool) → is_as_given new row ≡ same → P (state, verdict_on new row)
  by_likeness row true is = subst (λ (v : Verdict). P (state, v)) (ap (λ (b : Bool). if b then Same else Other) (sym is)) (still Same refl)
  by_likeness row false is = subst (λ (v : Verdict). P (state, v)) (ap (λ (b : Bool). if b then Same else Other) (sym is)) (still Other refl)

  by_namesake : (found : Option Voucher) → P (imported_beside found new draw state)
  by_namesake None = by_made (voucher_made new draw state) refl
  by_namesake (Some row) = by_likeness row (is_as_given new row) refl

  pub of_row : P (row_imported new draw state)
  of_row = by_namesake (namesake new.code state.lists)

row_sound : (new : NewVoucher) (draw : Draw) (state : State) → IsFitVoucher new → IsDraw draw → IsSound state → IsSound (row_imported new draw state).0
row_sound new draw state fit sixteen sound = of_row new draw state (λ (m : State × Verdict). IsSound m.0) (λ verdict none. sound) (λ after row h. made_sound new draw state after row fit sixteen sound h)

row_moment : (new : NewVoucher) (draw : Draw) (state : State) → (row_imported new draw state).0.moment ≡ state.moment
row_moment new draw state = of_row new draw state (λ (m : State × Verdict). m.0.moment ≡ state.moment) (λ verdict none. refl) (λ after row h. made_moment new draw state after row h)

no_changes : (verdict : Verdict) → put_by verdict ≡ None → import_changes (verdict ∷ []) ≡ []
no_changes verdict none = cc (none)

row_leads : (new : NewVoucher) (draw : Draw) (state : State) → IsFitVoucher new → IsDraw draw → IsSound state → LeadTo (import_changes ((row_imported new draw state).1 ∷ [])) state.lists (row_imported new draw state).0.lists
row_leads new draw state fit sixteen sound =
    of_row new draw state (λ (m : State × Verdict). LeadTo (import_changes (m.1 ∷ [])) state.lists m.0.lists)
    (λ verdict none. subst (λ (changes : List Change). LeadTo changes state.lists state.lists) (sym (no_changes verdict none)) (leads_nowhere state.lists))
    (λ after row h. leads_one (PutVoucher row) state after (ap (λ (s : State). s.lists) (made_is new draw state after row h).is_after) (made_sound new draw state after row fit sixteen sound h))

-- ---- all rows

pub rows_sound : (rows : List NewVoucher) (draw : Draw) (state : State) → AllByRecursion IsFitVoucher rows → IsDraw draw → IsSound state → IsSound (rows_imported rows draw state).0
rows_sound [] draw state fit sixteen sound = sound
rows_sound (new ∷ rows) draw state fit sixteen sound = rows_sound rows draw (row_imported new draw state).0 fit.1 sixteen (row_sound new draw state fit.0 sixteen sound)

pub rows_moment : (rows : List NewVoucher) (draw : Draw) (state : State) → (rows_imported rows draw state).0.moment ≡ state.moment
rows_moment [] draw state = refl
rows_moment (new ∷ rows) draw state = rows_moment rows draw (row_imported new draw state).0 ∙ row_moment new draw state

pub rows_lead : (rows : List NewVoucher) (draw : Draw) (state : State) → AllByRecursion IsFitVoucher rows → IsDraw draw → IsSound state → LeadTo (import_changes (rows_imported rows draw state).1) state.lists (rows_imported rows draw state).0.lists
rows_lead [] draw state fit sixteen sound = leads_nowhere state.lists
rows_lead (new ∷ rows) draw state fit sixteen sound =
    let made = row_imported new draw state in
    let more = rows_imported rows draw made.0 in
    let one = row_leads new draw state fit.0 sixteen sound in
    let rest = rows_lead rows draw made.0 fit.1 sixteen (row_sound new draw state fit.0 sixteen sound) in
    subst (λ (changes : List Change). LeadTo changes state.lists more.0.lists) (sym (filter_map-append put_by (made.1 ∷ []) more.1)) (leads_joined (import_changes (made.1 ∷ [])) (import_changes more.1) state.lists made.0.lists more.0.lists one rest)
