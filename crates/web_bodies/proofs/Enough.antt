-- That the entries that are handed on are the first ones.
use Rattle.std.proofs.Common.{◌≡◌, ℕ, List, length, take, min, ap, ◌∙◌}
use Rattle.std.proofs.lemmas.List.{take_min}
use Rattle.serde_json.specs.View.{items_view}
use Rattle.serde_json.specs.declared.value.Value.{Value}
use Rattle.web_fields.specs.Lists.{all_of}
use Rattle.web_fields.proofs.Kept.{first_said}
use Rattle.web_bodies.specs.OrderBodies.{enough, bulk_entry, entry_said, entries_of}

-- the entries of the front say what the first of them all say
pub front_said : (list : List Value) (n : ℕ) → n ≡ min enough (length list) → all_of bulk_entry (items_view (take n list)) ≡ entries_of (items_view list)
front_said list n e =
    let same : take n list ≡ take enough list = ap (λ k. take k list) e ∙ take_min enough list in
    ap (λ front. all_of bulk_entry (items_view front)) same ∙ first_said entry_said enough list
