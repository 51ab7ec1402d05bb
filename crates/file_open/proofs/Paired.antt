-- Counts that are paired with their exits are the usages that they were taken of, and vouchers that are paired with what is spent of them are
-- their counts.
use Rattle.std.proofs.Common.{◌≡◌, List, [], ◌∷◌, map, refl, ap, ap₂, ◌∙◌}
use Rattle.std.specs.List.{zip}
use Rattle.model_rows.specs.declared.count_rows.QuotaCount.{QuotaCount}
use Rattle.model_rows.specs.declared.count_rows.VoucherCount.{VoucherCount}
use Rattle.file_rows.specs.declared.rows.CountRow.{CountRow}
use Rattle.file_rows.specs.declared.rows.ExitRow.{ExitRow}
use Rattle.file_rows.specs.declared.rows.SpentRow.{SpentRow}
use Rattle.file_rows.specs.declared.rows.VoucherRow.{VoucherRow}
use Rattle.file_rows.specs.Changes.{head_of_count, head_of_exit, head_of_spent}
use Rattle.file_meaning.specs.Rows.{Redeemed, head_of_redeemed, usage_in, uses_in}
use Rattle.file_rebuild.specs.Arranged.{count_in}

abbrev pub pairs : List CountRow → List ExitRow → List QuotaCount
pairs cs es = map (λ p. usage_in p.0 p.1.exited) (zip cs es)

abbrev ArePairs : List CountRow → List ExitRow → Type 0
ArePairs cs es = map (λ r. r.quota) cs ≡ map (λ r. r.quota) es

pub counts_paired : (cs : List CountRow) (es : List ExitRow) → ArePairs cs es → map head_of_count (pairs cs es) ≡ cs
counts_paired [] [] h = refl
counts_paired [] (e ∷ es) h = absurd cc
counts_paired (c ∷ cs) [] h = absurd cc
counts_paired (c ∷ cs) (e ∷ es) h = let rest : ArePairs cs es = cc in ap (λ l. c ∷ l) (counts_paired cs es rest)

pub exits_paired : (cs : List CountRow) (es : List ExitRow) → ArePairs cs es → map head_of_exit (pairs cs es) ≡ es
exits_paired [] [] h = refl
exits_paired [] (e ∷ es) h = absurd cc
exits_paired (c ∷ cs) [] h = absurd cc
exits_paired (c ∷ cs) (e ∷ es) h =
    let rest : ArePairs cs es = cc in
    let same : c.quota ≡ e.quota = cc in
    ap (λ n. record { quota = n; exited = e.exited } ∷ map head_of_exit (pairs cs es)) same ∙ ap (λ l. e ∷ l) (exits_paired cs es rest)

-- and what was taken of usages is paired so that it gives them back
pub pairs_back : (us : List QuotaCount) → pairs (map head_of_count us) (map head_of_exit us) ≡ us
pairs_back [] = refl
pairs_back (u ∷ us) = ap (λ l. u ∷ l) (pairs_back us)

pub are_paired : (us : List QuotaCount) → ArePairs (map head_of_count us) (map head_of_exit us)
are_paired [] = refl
are_paired (u ∷ us) = ap (λ l. u.quota ∷ l) (are_paired us)

-- ---- vouchers

-- how often each is redeemed, as its row says
abbrev pub uses_of : VoucherRow → Redeemed
uses_of row = record { voucher = row.voucher.id; redeemed = row.redeemed }

abbrev pub uses : List VoucherRow → List SpentRow → List VoucherCount
uses vs ss = map (λ p. count_in p.0 p.1.spent) (zip vs ss)

abbrev AreUses : List VoucherRow → List SpentRow → Type 0
AreUses vs ss = map (λ r. r.voucher.id) vs ≡ map (λ r. r.voucher_id) ss

pub uses_paired : (vs : List VoucherRow) (ss : List SpentRow) → AreUses vs ss → map head_of_redeemed (uses vs ss) ≡ map uses_of vs
uses_paired [] [] h = refl
uses_paired [] (s ∷ ss) h = absurd cc
uses_paired (v ∷ vs) [] h = absurd cc
uses_paired (v ∷ vs) (s ∷ ss) h = let rest : AreUses vs ss = cc in ap (λ l. uses_of v ∷ l) (uses_paired vs ss rest)

pub spents_paired : (vs : List VoucherRow) (ss : List SpentRow) → AreUses vs ss → map head_of_spent (uses vs ss) ≡ ss
spents_paired [] [] h = refl
spents_paired [] (s ∷ ss) h = absurd cc
spents_paired (v ∷ vs) [] h = absurd cc
spents_paired (v ∷ vs) (s ∷ ss) h =
    let rest : AreUses vs ss = cc in
    let same : v.voucher.id ≡ s.voucher_id = cc in
    ap (λ n. record { voucher_id = n; spent = s.spent } ∷ map head_of_spent (uses vs ss)) same ∙ ap (λ l. s ∷ l) (spents_paired vs ss rest)

-- and rows that have the uses of counts are paired with what is spent so that they give the counts back
pub uses_back : (vs : List VoucherRow) (cs : List VoucherCount) → map uses_of vs ≡ map head_of_redeemed cs → uses vs (map head_of_spent cs) ≡ cs
uses_back [] [] h = refl
uses_back [] (c ∷ cs) h = absurd cc
uses_back (v ∷ vs) [] h = absurd cc
uses_back (v ∷ vs) (c ∷ cs) h =
    let one : uses_of v ≡ head_of_redeemed c = cc in
    let rest : map uses_of vs ≡ map head_of_redeemed cs = cc in
    ap₂ ◌∷◌ (ap (λ (w : Redeemed). uses_in w c.spent) one) (uses_back vs cs rest)

pub are_uses : (vs : List VoucherRow) (cs : List VoucherCount) → map uses_of vs ≡ map head_of_redeemed cs → AreUses vs (map head_of_spent cs)
are_uses [] [] h = refl
are_uses [] (c ∷ cs) h = absurd cc
are_uses (v ∷ vs) [] h = absurd cc
are_uses (v ∷ vs) (c ∷ cs) h =
    let one : uses_of v ≡ head_of_redeemed c = cc in
    let rest : map uses_of vs ≡ map head_of_redeemed cs = cc in
    ap₂ ◌∷◌ (ap (λ (w : Redeemed). w.voucher) one) (are_uses vs cs rest)
