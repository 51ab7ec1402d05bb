-- One addition after another.
use Rattle.std.proofs.Common.{◌≡◌, ℕ, ◌+◌, ◌-◌, List, [], ◌++◌, length, take, drop, Option, Some, None, refl, sym, ap, ap₂, ◌∙◌, arith, append_assoc, append-nil, take-append-drop}
use Rattle.std.proofs.lemmas.List.{take-take, drop-take, take_rest}
use Rattle.base_devices.specs.Reported.{Adds, Gives}
use Rattle.std.proofs.KnownBytes.{Consumes-trans}

pub Adds-nil : {X : Type 0} (a : Option (List X)) → Adds a [] a
Adds-nil None = tt
Adds-nil {X} (Some xs) = ap (λ (t : List X). Some t) (sym (append-nil xs))

pub Adds-append : {X : Type 0} (a b c : Option (List X)) (xs ys : List X) → Adds a xs b → Adds b ys c → Adds a (xs ++ ys) c
Adds-append None b c xs ys p q = tt
Adds-append (Some old) None c xs ys p q = cc
Adds-append {X} (Some old) (Some mid) c xs ys p q =
    let same : mid ≡ old ++ xs = cc in
    q ∙ ap (λ (t : List X). Some t) (ap (λ (t : List X). t ++ ys) same ∙ append_assoc old xs ys)

pub take_on : (bytes : List ℕ) (at n : ℕ) → take (at + n) bytes ≡ take at bytes ++ take n (take (length bytes - at) (drop at bytes))
take_on bytes at n =
    sym (take-append-drop at (take (at + n) bytes))
    ∙ ap₂ (λ (a b : List ℕ). a ++ b) (take-take at (at + n) bytes (omega arith)) (drop-take at n bytes ∙ ap (take n) (sym (take_rest bytes at)))

pub Gives-nil : (a : Option (List ℕ)) → Gives a [] a
Gives-nil None = tt
Gives-nil (Some xs) = refl

pub Gives-append : (a b c : Option (List ℕ)) (xs ys : List ℕ) → Gives a xs b → Gives b ys c → Gives a (xs ++ ys) c
Gives-append a b c xs ys p q = Consumes-trans a b c xs ys p q
