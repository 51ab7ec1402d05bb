-- What became of the rows of a voucher file, a line for each.
use Rattle.std.specs.Prelude.{ℕ, List, [], ◌∷◌, ◌++◌, map, unwrap_or, codes}
use Rattle.std.specs.Fmt.{decimal}
use Rattle.model_commands.specs.Refusals.{number_of_voucher_refusal}
use Rattle.model_commands.specs.declared.vouchers.NewVoucher.{NewVoucher}
use Rattle.model_commands.specs.declared.vouchers.Verdict.{Verdict}
use Rattle.model_commands.specs.declared.vouchers.Verdict.TheVariants.{Added, Same, Other, Refused}

-- the code of each row; a row without one has an empty text
abbrev pub codes_of : List NewVoucher → List (List ℕ)
codes_of vouchers = map (λ new. unwrap_or new.code []) vouchers

-- `added`, `same`, `other`, or `refused` and the refusal's number
abbrev pub verdict_text : Verdict → List ℕ
verdict_text (Added row) = codes "added"
verdict_text Same = codes "same"
verdict_text Other = codes "other"
verdict_text (Refused refusal) = codes "refused " ++ decimal (number_of_voucher_refusal refusal)

-- `CODE VERDICT`
abbrev pub verdict_line : List ℕ → Verdict → List ℕ
verdict_line code verdict = code ++ (codes " " ++ (verdict_text verdict ++ 10 ∷ []))

-- each row's line, in order
abbrev pub verdict_lines : List (List ℕ) → List Verdict → List ℕ
verdict_lines [] verdicts = []
verdict_lines (code ∷ more) [] = []
verdict_lines (code ∷ more) (verdict ∷ verdicts) = verdict_line code verdict ++ verdict_lines more verdicts
