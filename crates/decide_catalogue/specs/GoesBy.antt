-- What a decision about what is for sale answers.
use Rattle.std.specs.Prelude.{◌≡◌, ◌≢◌, Result, Ok, Err, IfOk, IfErr}
use Rattle.model_catalogue.specs.declared.refusal.CatalogueRefusal.{CatalogueRefusal}
use Rattle.model_catalogue.specs.declared.refusal.CatalogueRefusal.TheVariants.{Memory}

-- a result goes by this rule, unless there was no memory
pub record GoesBy {A : Type 0} (rule result : Result A CatalogueRefusal) : Type 0 where
  -- what is answered is what the rule gives
  pub done : IfOk result (λ answer. rule ≡ Ok answer)
  -- each refusal but want of memory is the rule's
  pub refused : IfErr result (λ e. e ≢ Memory → rule ≡ Err e)
