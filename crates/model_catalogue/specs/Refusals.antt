-- The number of each refusal.
use Rattle.std.specs.Prelude.{ℕ}
use Rattle.model_catalogue.specs.declared.refusal.CatalogueRefusal.{CatalogueRefusal}
use Rattle.model_catalogue.specs.declared.refusal.CatalogueRefusal.TheVariants.{Memory, NoItem, NoVariation, NeedsVariation, NoQuota, BadMember, Inactive, Full, Plain, NotSold}

-- 10 to 18 are the catalogue's own, and 6 is want of memory
abbrev pub number_of_refusal : CatalogueRefusal → ℕ
number_of_refusal Memory = 6
number_of_refusal NoItem = 10
number_of_refusal NoVariation = 11
number_of_refusal NeedsVariation = 12
number_of_refusal NoQuota = 13
number_of_refusal BadMember = 14
number_of_refusal Inactive = 15
number_of_refusal Full = 16
number_of_refusal Plain = 17
number_of_refusal NotSold = 18
