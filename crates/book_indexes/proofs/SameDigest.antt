-- A text and its digest.
use Rattle.std.proofs.Common.{◌≡◌, ◌≢◌, ◌⊎◌, inl, inr, ℕ, ◌+◌, ◌*◌, ◌%◌, true, false, ◌&&◌, eqb, List, [], ◌∷◌, refl, sym, ap, ◌∙◌, arith}
use Rattle.std.proofs.lemmas.Bool.Decides.{nat_tests, eqb_tells}
use Rattle.base_values.specs.Texts.{same_text}
use Rattle.book_indexes.specs.Digests.{digest_from, digest}

-- the same text has the same digest
same_digest : (h : ℕ) (a b : List ℕ) → same_text a b ≡ true → digest_from h a ≡ digest_from h b
unfolding digest_from
same_digest h [] [] e = refl
same_digest h [] (y ∷ ys) e = absurd (cc)
same_digest h (x ∷ xs) [] e = absurd (cc)
same_digest h (x ∷ xs) (y ∷ ys) e = by_first (eqb_tells x y) e (λ more. same_digest ((h * 257 + x) % 36028797018963968) xs ys more)
  where
    by_first : ((eqb x y ≡ true) × (x ≡ y)) ⊎ ((eqb x y ≡ false) × (x ≢ y)) → (eqb x y && same_text xs ys) ≡ true → (same_text xs ys ≡ true → digest_from ((h * 257 + x) % 36028797018963968) xs ≡ digest_from ((h * 257 + x) % 36028797018963968) ys) → digest_from ((h * 257 + x) % 36028797018963968) xs ≡ digest_from ((h * 257 + y) % 36028797018963968) ys
    by_first (inl t) e more = more (ap (λ c. c && same_text xs ys) (sym t.0) ∙ e) ∙ ap (λ z. digest_from ((h * 257 + z) % 36028797018963968) ys) t.1
    by_first (inr t) e more = absurd (cc (sym (ap (λ c. c && same_text xs ys) t.0) ∙ e))

-- so it is found by it
pub found_by_digest : (key : ℕ) (a b : List ℕ) → key ≡ digest b → same_text a b ≡ true → eqb (digest a) key ≡ true
found_by_digest key a b is e = by_digest (digest a) (digest b) (same_digest 0 a b e) is
  where
    by_digest : (x y : ℕ) → x ≡ y → key ≡ y → eqb x key ≡ true
    by_digest x y same is = grind (arith, nat_tests, same, is)
