-- Counters, row by row, beside what is counted afresh.
use Rattle.std.proofs.Common.{◌≡◌, ◌↔◌, ℕ, zero, suc, ◌+◌, ◌<◌, List, [], ◌∷◌, length, drop, map, get_or, Some, add-one, sym, ap, ◌∙◌, subst, arith}
use Rattle.base_tables.specs.Tables.{row_at, AreInOrder}
use Rattle.model_catalogue.proofs.Standing.{stands_at}
use Rattle.model_catalogue.specs.declared.rows.Quota.{Quota}
use Rattle.model_catalogue.specs.CatalogueLists.{CatalogueLists, quota_at}

module _ {A C : Type 0} (f : A → C) where
  rest : (counts : List C) (rows : List A) (i : ℕ) (c d : C) (r : A) → i < length counts → i < length rows → c ≡ get_or counts i d → r ≡ get_or rows i r → c ≡ f r → (drop (suc i) counts ≡ map f (drop (suc i) rows)) ↔ (drop i counts ≡ map f (drop i rows))
  rest [] rows i c d r l1 l2 e1 e2 e = absurd (omega arith)
  rest (x ∷ xs) [] i c d r l1 l2 e1 e2 e = absurd (omega arith)
  rest (x ∷ xs) (y ∷ ys) zero c d r l1 l2 e1 e2 e =
      let here : x ≡ f y = sym e1 ∙ e ∙ ap f e2 in
      (λ h. cc (here, h), λ h. ap (drop 1) h)
  rest (x ∷ xs) (y ∷ ys) (suc i) c d r l1 l2 e1 e2 e = rest xs ys i c d r (omega arith) (omega arith) e1 e2 e

  -- where this row's count is right, all are from here on if they are behind it
  pub goes_on : (counts : List C) (rows : List A) (i : ℕ) (c d : C) (r : A) (all : Type 0) → i < length counts → i < length rows → c ≡ get_or counts i d → r ≡ get_or rows i r → c ≡ f r → (drop i counts ≡ map f (drop i rows)) ↔ all → (drop (i + 1) counts ≡ map f (drop (i + 1) rows)) ↔ all
  goes_on counts rows i c d r all l1 l2 e1 e2 e both =
      let more = rest counts rows i c d r l1 l2 e1 e2 e in
      rw add-one (λ h. both.0 (more.0 h), λ h. more.1 (both.1 h))

  -- where it isn't, they aren't
  pub breaks : (counts : List C) (rows : List A) (i : ℕ) (c d : C) (r : A) → i < length counts → i < length rows → c ≡ get_or counts i d → r ≡ get_or rows i r → (c ≡ f r → ⊥) → (drop i counts ≡ map f (drop i rows)) → ⊥
  breaks [] rows i c d r l1 l2 e1 e2 wrong h = omega arith
  breaks (x ∷ xs) [] i c d r l1 l2 e1 e2 wrong h = omega arith
  breaks (x ∷ xs) (y ∷ ys) zero c d r l1 l2 e1 e2 wrong h =
      let here : x ≡ f y = cc in
      wrong (e1 ∙ here ∙ ap f (sym e2))
  breaks (x ∷ xs) (y ∷ ys) (suc i) c d r l1 l2 e1 e2 wrong h = breaks xs ys i c d r (omega arith) (omega arith) e1 e2 wrong h

-- a quota that is one of the catalogue's is the one of its id
pub quota_stands : (catalogue lists : CatalogueLists) (quotas : List Quota) (quota : Quota) (i : ℕ) → catalogue ≡ lists → quotas ≡ catalogue.quotas → AreInOrder (λ r. r.id) catalogue.quotas → i < length quotas → quota ≡ get_or quotas i quota → quota_at quota.id lists ≡ Some quota
quota_stands catalogue lists quotas quota i same own order lt is =
    ap (λ (l : CatalogueLists). quota_at quota.id l) (sym same)
    ∙ ap (λ (l : List Quota). row_at (λ r. r.id) quota.id l) (sym own)
    ∙ ap (λ (q : Quota). row_at (λ r. r.id) q.id quotas) is
    ∙ stands_at quotas i quota lt (subst (λ (l : List Quota). AreInOrder (λ r. r.id) l) (sym own) order)
    ∙ ap (λ (q : Quota). Some q) (sym is)
