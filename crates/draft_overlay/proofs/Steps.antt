-- One change more.
use Rattle.std.proofs.Common.{◌≡◌, ℕ, ◌+◌, ◌<◌, List, [], ◌∷◌, ◌++◌, length, take, get_or, refl, ap, ◌∙◌}
use Rattle.std.proofs.lemmas.List.{take_more}
use Rattle.model_rows.specs.declared.changes.Change.{Change}
use Rattle.model_rows.specs.Lists.{Lists}
use Rattle.model_rows.specs.Change.{after_change, after_all}

pub after_all-push : (log : List Change) (change : Change) (lists : Lists) → after_all (log ++ change ∷ []) lists ≡ after_change change (after_all log lists)
after_all-push [] change lists = refl
after_all-push (c ∷ log) change lists = after_all-push log change (after_change c lists)

pub after_all_more : (log : List Change) (i : ℕ) (d : Change) (lists : Lists) → i < length log → after_all (take (i + 1) log) lists ≡ after_change (get_or log i d) (after_all (take i log) lists)
after_all_more log i d lists lt = ap (λ l. after_all l lists) (take_more log i d lt) ∙ after_all-push (take i log) (get_or log i d) lists
