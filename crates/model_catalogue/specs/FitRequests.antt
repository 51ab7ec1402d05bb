-- What the types of requests to the catalogue promise: texts, amounts of money and sizes are within their limits.
use Rattle.std.specs.Prelude.{IfSome}
use Rattle.std.specs.List.{AllByRecursion}
use Rattle.base_values.specs.Counts.{IsSize}
use Rattle.base_values.specs.Money.{IsMoney}
use Rattle.base_values.specs.Texts.{IsText}
use Rattle.model_catalogue.specs.declared.requests.NewVariation.{NewVariation}
use Rattle.model_catalogue.specs.declared.requests.NewItem.{NewItem}
use Rattle.model_catalogue.specs.declared.requests.ItemPatch.{ItemPatch}
use Rattle.model_catalogue.specs.declared.requests.NewQuota.{NewQuota}
use Rattle.model_catalogue.specs.declared.requests.QuotaPatch.{QuotaPatch}

-- a new variation: its name is a text as rows have it, and its price, if it has one, is an amount of money
pub record IsFitVariation (new : NewVariation) : Type 0 where
  pub name : IsText new.name
  pub price : IfSome new.default_price IsMoney

-- a new item: its name is a text as rows have it, its price is an amount of money, and its variations are fit
pub record IsFitItem (new : NewItem) : Type 0 where
  pub name : IsText new.name
  pub price : IsMoney new.default_price
  pub variations : AllByRecursion IsFitVariation new.variations

-- a change of an item: a name that is given is a text as rows have it, and a price an amount of money
pub record IsFitItemPatch (patch : ItemPatch) : Type 0 where
  pub name : IfSome patch.name IsText
  pub price : IfSome patch.default_price IsMoney

-- a new quota: its name is a text as rows have it, and its size, if it has one, is 0 to 1,000,000
pub record IsFitQuota (new : NewQuota) : Type 0 where
  pub name : IsText new.name
  pub size : IfSome new.size IsSize

-- a change of a quota: a size that is given is 0 to 1,000,000, or is unlimited
pub record IsFitQuotaPatch (patch : QuotaPatch) : Type 0 where
  pub size : IfSome patch.size (λ size. IfSome size IsSize)
