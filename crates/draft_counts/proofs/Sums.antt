-- Amounts that are added where a test passes, and those of which nothing counts.
use Rattle.std.proofs.Common.{◌≡◌, ℕ, Bool, true, false, ◌&&◌, Option, None, Some, refl, sym, ap, ◌∙◌}
use Rattle.std.specs.Prelude.{if◌then◌else◌, not}
use Rattle.model_rows.specs.declared.rows.Order.{Order}
use Rattle.model_rows.specs.declared.rows.Status.{Status}
use Rattle.model_rows.specs.declared.rows.Usage.{Usage}
use Rattle.model_rows.specs.declared.rows.Status.TheVariants.{Pending, Paid, Expired, Cancelled}
use Rattle.model_rows.specs.Conditions.{is_paid, is_pending, is_in_force}
use Rattle.model_rows.specs.Usage.{stands_as}
use Rattle.book_tally.specs.Amounts.{nothing}
use Rattle.book_tally.proofs.AmountLemmas.{same_usage}
use Rattle.draft_counts.specs.CountDelta.{order_counts, sold_as, usage_of_places, unless_kept}

-- an order without positions counts nothing
pub none_ordered : (order other : Option Order) → order_counts order other 0 0 0 ≡ nothing
none_ordered order other =
    same_usage (order_counts order other 0 0 0) nothing (none_if (stands_as is_paid order)) (none_if (stands_as is_pending order)) (none_if (stands_as is_in_force other && not (stands_as is_in_force order))) refl refl (none_if (stands_as is_paid order))
  where
    none_if : (b : Bool) → ◌≡◌ {A = ℕ} (if b then 0 else 0) 0
    none_if true = refl
    none_if false = refl

pub same_counts : (order other : Option Order) {here here' covered covered' released released' : ℕ} → here ≡ here' → covered ≡ covered' → released ≡ released' → order_counts order other here covered released ≡ order_counts order other here' covered' released'
same_counts order other {here} {here'} {covered} {covered'} {released} {released'} a b c =
    ap (λ n. order_counts order other n covered released) a ∙ ap (λ n. order_counts order other here' n released) b ∙ ap (order_counts order other here' covered') c

-- nor does a place that isn't there
pub none_sold : (paid pending released : Bool) → sold_as paid pending false released ≡ nothing
none_sold true true released = refl
none_sold true false released = refl
none_sold false true released = refl
none_sold false false released = refl

-- nor does one whose order is in force no more
pub ended_sold : (order : Option Order) (here released : Bool) → stands_as is_in_force order ≡ false → nothing ≡ sold_as (stands_as is_paid order) (stands_as is_pending order) here released
ended_sold None here released ended = refl
ended_sold (Some order) here released ended = by_status order.status ended
  where
    by_status : (s : Status) → is_in_force s ≡ false → nothing ≡ sold_as (is_paid s) (is_pending s) here released
    by_status Pending e = absurd (cc e)
    by_status Paid e = absurd (cc e)
    by_status Expired e = refl
    by_status Cancelled e = refl

pub none_placed : (waits : Bool) → usage_of_places waits 0 ≡ nothing
none_placed true = refl
none_placed false = refl

-- what counts the same brings nothing
pub none_kept : (keeps : Bool) (usage : Usage) → keeps ≡ true → nothing ≡ unless_kept keeps usage
none_kept keeps usage is = sym (ap (λ (b : Bool). unless_kept b usage) is)

pub some_kept : (keeps : Bool) (usage : Usage) → keeps ≡ false → usage ≡ unless_kept keeps usage
some_kept keeps usage is = sym (ap (λ (b : Bool). unless_kept b usage) is)
