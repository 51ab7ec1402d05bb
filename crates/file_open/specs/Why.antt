-- Why rows that were all read are no box office: words for the functions that look.
use Rattle.std.specs.Prelude.{◌≡◌, ◌⊎◌, ◌<◌, Bool, IsTrue}
use Rattle.model_damage.specs.declared.rule.Rule.{Rule}
use Rattle.model_damage.specs.Numbers.{number}
use Rattle.model_damage.specs.Rules.{File, Keeps, IsLeastBroken}
use Rattle.file_scan.specs.declared.error.OpenError.{OpenError}
use Rattle.file_scan.specs.declared.error.OpenError.TheVariants.{Memory, NotAShop, Version, Damaged, Store}
use Rattle.file_scan.specs.declared.file.FileTables.{FileTables}
use Rattle.file_rebuild.specs.Arranged.{AreReadInOrder}
use Rattle.file_open.specs.Opened.{RowsRise, IsLeastOf}
use Rattle.model_damage.specs.declared.rule.Rule.TheVariants as rules

-- why rows that were read are no office: 62 because of that rule, 63 because they don't rise by their numbers, and neither 60 nor 61
abbrev pub IsWhy : FileTables → OpenError → Type 0
IsWhy read Memory = Unit {0}
IsWhy read NotAShop = ⊥
IsWhy read (Version version) = ⊥
IsWhy read (Damaged rule) = AreReadInOrder read.shop read.tables × IsLeastOf read rule
IsWhy read Store = ¬ (RowsRise read.tables × AreReadInOrder read.shop read.tables)

-- why rows that keep the first rules are no office: for want of memory; because of the least rule that they break, which isn't that of budgets
-- where counters aren't paired; or because of that of counters, where they aren't paired and each rule before it is kept
abbrev pub IsBroken : Bool → File → OpenError → Type 0
IsBroken paired file Memory = Unit {0}
IsBroken paired file NotAShop = ⊥
IsBroken paired file (Version version) = ⊥
IsBroken paired file (Damaged rule) =
    (IsLeastBroken rule file × (rule ≡ rules.Budgets → IsTrue paired)) ⊎ ((rule ≡ rules.Counters) × (¬ IsTrue paired) × ((other : Rule) → number other < number rules.Counters → Keeps other file))
IsBroken paired file Store = ⊥
