-- A part of the rows that pass, row by row.
use Rattle.std.proofs.Common.{◌≡◌, ℕ, suc, ◌+◌, ◌-◌, ◌<◌, Bool, true, cond, List, [], ◌∷◌, ◌++◌, length, map, filter, take, sym, ap, ◌∙◌, arith}
use Rattle.std.proofs.lemmas.List.{append_assoc, length-append}
use Rattle.decide_door.specs.Status.{part}

module _ {A B : Type 0} (show : A → B) (passes : A → Bool) where
  module _ (shown : List B) (most : ℕ) (row : A) (rows : List A) where
    pub part_taken : length shown < most → passes row ≡ true → part show passes shown 0 most (row ∷ rows) ≡ part show passes (shown ++ show row ∷ []) 0 most rows
    part_taken lt e =
        let one : length (shown ++ show row ∷ []) ≡ length shown + 1 = length-append shown (show row ∷ []) in
        let some : most - length shown ≡ suc (most - length (shown ++ show row ∷ [])) = omega (arith, lt, one) in
        ap (λ b. shown ++ map show (take (most - length shown) (cond b (row ∷ filter passes rows) (filter passes rows)))) e
        ∙ ap (λ n. shown ++ map show (take n (row ∷ filter passes rows))) some
        ∙ sym (append_assoc shown (show row ∷ []) (map show (take (most - length (shown ++ show row ∷ [])) (filter passes rows))))
