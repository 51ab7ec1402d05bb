-- What a contract sees of a shop.
use Rattle.model_rows.specs.Lists.{State}

-- its tables, the rows of its office, and its wording
pub record OpenShop (T W : Type 0) : Type 0 where
  pub tables : T
  pub state : State
  pub wording : W
