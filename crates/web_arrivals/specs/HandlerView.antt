-- What a contract sees of the handler of a shop.
use Rattle.std.specs.Prelude.{◌≡◌, ℕ, List}
use Rattle.base_values.specs.declared.answer.Response.{Response}
use Rattle.model_rows.specs.Lists.{State}
use Rattle.model_commands.specs.declared.replies.Reply.{Reply}
use Rattle.model_answers.specs.declared.kept.Kept.{Kept}
use Rattle.model_answers.specs.declared.tables.Tables.{Ghosts}
pub use Rattle.model_answers.specs.House.{House}
use Rattle.model_answers.specs.ShopView.{ShopView}
use Rattle.web_responses.specs.Replies.{words}

-- the short names of the organizer and the event, the tables, and the rows of the office
pub record HandlerView (T : Type 0) : Type 0 where
  pub organizer : List ℕ
  pub event : List ℕ
  pub tables : T
  pub state : State

-- What a trait says of the tables of a shop: when they are sure, what they hold, which house they know, and what a crash may leave.
pub record Meaning (T : Type 0) : Type 1 where
  pub sure : T → Type 0
  pub holds : T → State → List Kept → Type 0
  pub knows : T → House → Type 0
  pub may_leave : T → ShopView → Type 0

-- what is said of tables, by its four parts
abbrev pub meaning : {T : Type 0} → (T → Type 0) → (T → State → List Kept → Type 0) → (T → House → Type 0) → (T → ShopView → Type 0) → Meaning T
meaning sure holds knows may_leave = record { sure = sure; holds = holds; knows = knows; may_leave = may_leave }

-- what this trait says of its tables
abbrev pub trait_meaning : {T : Type 0} → Ghosts T → Meaning T
trait_meaning g = meaning g.sure g.holds g.knows g.may_leave

-- by what a message is read at a handler: its own names, and the tokens of the house that its tables know
abbrev pub house_of : {T : Type 0} → HandlerView T → House → House
house_of handler house = record house { organizer = handler.organizer; event = handler.event }

-- what a reply is told there
abbrev pub words_of : House → Reply → Response
words_of house = words house.organizer house.event

-- what a reply is told at a handler
abbrev pub reply_worded : {T : Type 0} → HandlerView T → Reply → Response
reply_worded handler = words handler.organizer handler.event

-- a handler of this house, which its tables know too
pub record IsOf {T : Type 0} (tables : Meaning T) (house : House) (handler : HandlerView T) : Type 0 where
  pub organizer : handler.organizer ≡ house.organizer
  pub event : handler.event ≡ house.event
  pub known : tables.knows handler.tables house

-- the handler of an office over tables
abbrev pub handler_with : {T : Type 0} → T → List ℕ → List ℕ → State → HandlerView T
handler_with tables organizer event state = record { organizer = organizer; event = event; tables = tables; state = state }
