-- Rows that are taken one after another.
use Rattle.std.proofs.Common.{List, [], ◌∷◌, ◌++◌, refl, subst}
use Rattle.file_scan.specs.Took.{Took}

pub took_more : {K R : Type 0} (step : K → R → K → Type 0) (a b c : K) (rows : List R) (row : R) → Took step a rows b → step b row c → Took step a (rows ++ row ∷ []) c
took_more step a b c [] row t s = (c, subst (λ k. step k row c) t s, refl)
took_more step a b c (r ∷ rows) row t s = (t.0, t.1, took_more step t.0 b c rows row t.2 s)
