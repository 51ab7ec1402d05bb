-- The usage of a quota whose name or size differs.
use Rattle.std.proofs.Common.{◌≡◌, ℕ, Bool, List, ap, ◌∙◌}
use Rattle.model_catalogue.specs.declared.rows.Quota.{Quota}
use Rattle.model_rows.specs.Lists.{Lists}
use Rattle.model_rows.specs.Usage.{usage_of, blocked_by}

-- a quota of other name and size uses the same
pub like_usage : (lists : Lists) (at : ℕ) (a b : Quota) → a.id ≡ b.id → a.items ≡ b.items → a.variations ≡ b.variations → a.release_after_exit ≡ b.release_after_exit → usage_of lists at a ≡ usage_of lists at b
unfolding usage_of blocked_by
like_usage lists at a b id items variations release =
    ap (λ n. usage_of lists at (record { id = n; name = a.name; release_after_exit = a.release_after_exit; size = a.size; items = a.items; variations = a.variations })) id
    ∙ ap (λ (l : List ℕ). usage_of lists at (record { id = b.id; name = a.name; release_after_exit = a.release_after_exit; size = a.size; items = l; variations = a.variations })) items
    ∙ ap (λ (l : List ℕ). usage_of lists at (record { id = b.id; name = a.name; release_after_exit = a.release_after_exit; size = a.size; items = b.items; variations = l })) variations
    ∙ ap (λ (r : Bool). usage_of lists at (record { id = b.id; name = a.name; release_after_exit = r; size = a.size; items = b.items; variations = b.variations })) release
