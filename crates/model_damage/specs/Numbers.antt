-- The order in which broken rules are told.
use Rattle.std.specs.Prelude.{ℕ}
use Rattle.model_damage.specs.declared.rule.Rule.{Rule}
use Rattle.model_damage.specs.declared.rule.Rule.TheVariants.{Shop, Limits, Ids, Names, Positions, Headroom, Counters, Budgets}

-- of several broken rules the one with the least number counts
abbrev pub number : Rule → ℕ
number Shop = 1
number Limits = 2
number Ids = 3
number Names = 4
number Positions = 5
number Headroom = 6
number Counters = 7
number Budgets = 8
