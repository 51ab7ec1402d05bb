-- Answers with statuses of the list.
use Rattle.std.specs.Prelude.{◌≡◌, true, List}
use Rattle.std.specs.List.{AllByRecursion}
use Rattle.base_values.specs.declared.answer.Answer.{Answer}
use Rattle.base_devices.specs.declared.device.Tick.{Tick}
use Rattle.web_http.specs.Messages.{Message}
use Rattle.model_answers.specs.declared.kept.Kept.{Kept}
use Rattle.model_answers.specs.ShopView.{ShopView}
use Rattle.web_responses.specs.Statuses.{is_given}
use Rattle.web_api.specs.Statuses.{status_of}
use Rattle.web_arrivals.specs.HandlerView.{House}
use Rattle.web_arrivals.specs.Streams.{ServesShop}

-- each answer that is kept has such a status
abbrev pub AreGiven : List Kept → Type 0
AreGiven ks = AllByRecursion (λ k. is_given k.response.status ≡ true) ks

-- a message, as the shop serves it, is answered with such a status
abbrev pub ServesGiven : House → ShopView → Tick → Message → Answer → ShopView → Type 0
ServesGiven house old tick m answer new = ServesShop house old tick m answer new × (is_given (status_of answer) ≡ true)
