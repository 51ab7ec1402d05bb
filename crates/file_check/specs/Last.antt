-- The rules that are tested over a book.
use Rattle.std.specs.Prelude.{ℕ, List}
use Rattle.model_rows.specs.declared.count_rows.QuotaCount.{QuotaCount}
use Rattle.model_rows.specs.declared.count_rows.VoucherCount.{VoucherCount}
use Rattle.model_rows.specs.Lists.{State}
use Rattle.model_damage.specs.declared.rule.Rule.{Rule}
use Rattle.model_damage.specs.declared.rule.Rule.TheVariants.{Shop, Limits, Ids}
use Rattle.model_damage.specs.Rules.{File, Keeps, IsLeastBroken}

-- the rules that are tested before there is a book
pub record KeepsFirst (file : File) : Type 0 where
  pub shop : Keeps Shop file
  pub limits : Keeps Limits file
  pub ids : Keeps Ids file

-- the file of a shop whose office is a book's, with its counters
abbrev pub file_with : State → List QuotaCount → List VoucherCount → List ℕ → List ℕ → File
file_with state used redeemed organizer event = record { organizer = organizer; event = event; state = state; used = used; redeemed = redeemed }

-- whosever shop it is, where the first rules are kept, all are
abbrev pub KeepsAll : (List ℕ → List ℕ → File) → Type 0
KeepsAll file = (organizer event : List ℕ) (rule : Rule) → KeepsFirst (file organizer event) → Keeps rule (file organizer event)

-- whosever shop it is, where the first rules are kept, this one is the least that is broken
abbrev pub IsLeastOf : (List ℕ → List ℕ → File) → Rule → Type 0
IsLeastOf file rule = (organizer event : List ℕ) → KeepsFirst (file organizer event) → IsLeastBroken rule (file organizer event)
