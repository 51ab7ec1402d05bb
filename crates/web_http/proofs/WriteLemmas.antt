-- What was written, one text after another.
use Rattle.std.proofs.Common.{◌≡◌, ℕ, List, ◌++◌, Result, Ok, Err, ap, ◌∙◌, append_assoc, subst, sym, ◌+◌}
use Rattle.base_devices.specs.declared.device.Refused.{Refused}
use Rattle.base_devices.proofs.ToldLemmas.{Adds-append}
use Rattle.web_http.specs.Written.{Page, Writes}

-- the first of two texts stopped
pub stops : (e : Refused) (old new : Page) (xs ys : List ℕ) → Writes (Err e) xs old new → Writes (Err e) (xs ++ ys) old new
stops e old new xs ys ((part, rest, is, added), failed) = ((part, rest ++ ys, ap (λ (t : List ℕ). t ++ ys) is ∙ append_assoc part rest ys, added), failed)

-- the first of two texts was written, and then the second
pub goes_on : (r : Result (Unit {0}) Refused) (u : Unit {0}) (old mid new : Page) (xs ys : List ℕ) → Writes (Ok u) xs old mid → Writes r ys mid new → Writes r (xs ++ ys) old new
goes_on (Ok v) u old mid new xs ys (before, well) (added, still) = (Adds-append old.taken mid.taken new.taken xs ys before added, still ∙ well)
goes_on (Err e) u old mid new xs ys (before, well) ((part, rest, is, added), failed) = (
  (
    xs ++ part,
    rest,
    ap (λ (t : List ℕ). xs ++ t) is ∙ sym (append_assoc xs part rest),
    Adds-append old.taken mid.taken new.taken xs part before added,
  ),
  failed ∙ ap (λ (n : ℕ). n + 1) well,
)

-- the same text in other words
pub writes_as : (r : Result (Unit {0}) Refused) (old new : Page) (xs ys : List ℕ) → xs ≡ ys → Writes r xs old new → Writes r ys old new
writes_as r old new xs ys is = subst (λ (t : List ℕ). Writes r t old new) is
