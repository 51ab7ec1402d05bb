-- As what the shop of a handler is seen.
use Rattle.std.specs.Prelude.{List}
use Rattle.base_values.specs.declared.answer.Response.{Response}
use Rattle.model_commands.specs.declared.replies.Reply.{Reply}
use Rattle.model_answers.specs.ShopView.{ShopView}
use Rattle.office_deliveries.specs.Deliveries.{Delivery, Opening}
use Rattle.office_deliveries.specs.Histories.{IsRunning, Running}
use Rattle.office_deliveries.specs.Shops.{StandsFor, Views}
use Rattle.web_arrivals.specs.HandlerView.{HandlerView, Meaning}

-- a handler has this shop: the rows of its office, and the answers that its tables keep
abbrev pub HasShop : {T : Type 0} → Meaning T → HandlerView T → ShopView → Type 0
HasShop tables handler v = Views tables.holds handler.tables handler.state v

-- the shop of a handler stands for a list of arrivals, behind an opening, of which each was told what these words say
abbrev pub HasList : {T : Type 0} → Meaning T → (Reply → Response) → HandlerView T → Opening → List Delivery → Type 0
HasList tables words handler p ds = StandsFor words tables.holds handler.tables handler.state p ds

-- the shop of a handler is this running one, with what a crash may leave of it
abbrev pub HasRunning : {T : Type 0} → Meaning T → (Reply → Response) → HandlerView T → Running → Type 0
HasRunning tables words handler r = IsRunning words tables.holds tables.may_leave handler.tables handler.state r
