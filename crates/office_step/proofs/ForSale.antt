-- Changes of what is for sale shift no count, nor does a refusal.
use Rattle.std.proofs.Common.{◌≡◌, ℕ, List, [], ◌∷◌, map, refl, sym, subst}
use Rattle.model_catalogue.specs.declared.rows.Variation.{Variation}
use Rattle.model_rows.specs.declared.changes.Change.{Change}
use Rattle.model_rows.specs.declared.changes.Change.TheVariants.{PutItem, PutVariation, PutQuota}
use Rattle.model_rows.specs.Lists.{Lists}
use Rattle.model_rows.specs.Change.{after_change, after_all}
use Rattle.book_tally.specs.declared.deltas.CountDeltas.{CountDeltas}
use Rattle.book_tally.specs.CountDeltas.{AreCountDeltas}
use Rattle.book_tally.proofs.Unshifted.{unshifted}
use Rattle.office_step.specs.IsStep.{AreOfCatalogue}

-- they leave all other lists
alone : (changes : List Change) (lists : Lists) → AreOfCatalogue changes → after_all changes lists ≡ record lists { catalogue = (after_all changes lists).catalogue }
alone [] lists are = refl
alone (PutItem row ∷ changes) lists are = alone changes (after_change (PutItem row) lists) are
alone (PutVariation row ∷ changes) lists are = alone changes (after_change (PutVariation row) lists) are
alone (PutQuota row ∷ changes) lists are = alone changes (after_change (PutQuota row) lists) are
alone (change ∷ changes) lists are = absurd are

pub offered_shifts : (changes : List Change) (at : ℕ) (lists : Lists) (deltas : CountDeltas) → AreOfCatalogue changes → deltas.quotas.items ≡ [] → deltas.vouchers.items ≡ [] → AreCountDeltas lists (after_all changes lists) at deltas
offered_shifts changes at lists deltas are none gone =
    subst (λ (l : Lists). AreCountDeltas lists l at deltas) (sym (alone changes lists are)) (unshifted lists (after_all changes lists).catalogue at deltas none gone)

-- variations that are put are for sale
pub variations_offered : (rows : List Variation) → AreOfCatalogue (map PutVariation rows)
variations_offered [] = tt
variations_offered (row ∷ rows) = variations_offered rows
