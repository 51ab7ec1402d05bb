-- Lines of no rows.
use Rattle.std.proofs.Common.{◌≡◌, ◌∙◌, ℕ, ◌≤◌, List, [], ◌∷◌, ◌++◌, length, drop, refl, ap}
use Rattle.std.proofs.lemmas.List.{drop_all, append-nil}
use Rattle.model_commands.specs.declared.vouchers.Verdict.{Verdict}
use Rattle.app_csv.specs.VerdictLines.{verdict_lines}

none_left : (codes : List (List ℕ)) → verdict_lines codes [] ≡ []
none_left [] = refl
none_left (code ∷ codes) = refl

-- behind all rows nothing more is said
pub all_said : (text : List ℕ) (codes : List (List ℕ)) (i : ℕ) (verdicts : List Verdict) → length verdicts ≤ i → text ++ verdict_lines codes (drop i verdicts) ≡ text
all_said text codes i verdicts past = ap (λ (left : List Verdict). text ++ verdict_lines codes left) (drop_all i verdicts past) ∙ ap (λ (more : List ℕ). text ++ more) (none_left codes) ∙ append-nil text
