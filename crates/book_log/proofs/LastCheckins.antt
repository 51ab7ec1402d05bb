-- The last check-in of a position after changes that put new ones.
use Rattle.std.proofs.Common.{◌≡◌, ℕ, Bool, true, false, ◌||◌, List, [], ◌∷◌, Option, refl, sym, ap, ◌∙◌}
use Rattle.model_rows.specs.declared.changes.Change.{Change}
use Rattle.model_rows.specs.declared.changes.Change.TheVariants.{PutCheckin}
use Rattle.model_rows.specs.declared.passages.Passage.{Passage}
use Rattle.model_rows.specs.Lists.{Lists}
use Rattle.model_rows.specs.Change.{after_change, after_all}
use Rattle.model_rows.specs.Passages.{last_at}
use Rattle.model_rows.proofs.LastPassages.{last_put}
use Rattle.book_log.specs.Places.{is_of, touches_table}
use Rattle.book_log.specs.NewCheckins.{IsNewCheckin, AreNewCheckins, last_with, last_with_all}

module _ (position : ℕ) where
  last_step : (change : Change) (lists : Lists) → IsNewCheckin change lists → last_at position (after_change change lists).checkins ≡ last_with position change (last_at position lists.checkins)
  last_step (PutCheckin row) lists new = last_put position row lists.checkins new
  last_step _ lists new = refl

  -- what is made of the last one change by change is the last one after all of them
  pub last_after_all : (changes : List Change) (lists : Lists) → AreNewCheckins changes lists → last_with_all position changes (last_at position lists.checkins) ≡ last_at position (after_all changes lists).checkins
  last_after_all [] lists new = refl
  last_after_all (change ∷ changes) lists new = ap (last_with_all position changes) (sym (last_step change lists new.0)) ∙ last_after_all changes (after_change change lists) new.1

  -- it stays where no change puts a check-in
  still : (change : Change) (last : Option Passage) → is_of 9 change ≡ false → last_with position change last ≡ last
  still (PutCheckin row) last is = absurd (cc is)
  still _ last is = refl

  pub last_stays : (changes : List Change) (last : Option Passage) → touches_table 9 changes ≡ false → last_with_all position changes last ≡ last
  last_stays [] last none = refl
  last_stays (change ∷ changes) last none = by_first (is_of 9 change) refl none (last_stays changes last)
    where
      by_first : (b : Bool) → is_of 9 change ≡ b → (b || touches_table 9 changes) ≡ false → (touches_table 9 changes ≡ false → last_with_all position changes last ≡ last) → last_with_all position (change ∷ changes) last ≡ last
      by_first true is none more = absurd (cc none)
      by_first false is none more = ap (last_with_all position changes) (still change last is) ∙ more none
