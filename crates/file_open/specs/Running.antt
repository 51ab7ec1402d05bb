-- A shop that runs over the tables of a file, and what is found and opened of it after a crash.
use Rattle.std.specs.Prelude.{◌≡◌, List}
use Rattle.sqlite_trees.specs.declared.store.Store.{Ghosts}
use Rattle.sqlite.specs.Held.{Held, state}
use Rattle.base_values.specs.declared.answer.Response.{Response}
use Rattle.model_rows.specs.Lists.{State}
use Rattle.model_commands.specs.declared.replies.Reply.{Reply}
use Rattle.model_answers.specs.declared.kept.Kept.{Kept}
use Rattle.model_answers.specs.House.{House}
use Rattle.model_answers.specs.ShopView.{ShopView}
use Rattle.office_deliveries.specs.Histories.{Running, MayLeave, IsRunning, running_from}
use Rattle.file_tables.specs.declared.sql.SqlTables.{SqlTables}
use Rattle.file_tables.specs.Shops.{HoldsWhileOpen, IsOfHouse, Leaves}
use Rattle.file_open.specs.Found.{IsFound}
use Rattle.file_open.specs.Opened.{IsOpened}

-- ---- what tables hold, know and leave, as the trait of tables has it

-- while their connection is open they hold this office and these answers
abbrev pub HoldsShop : {S : Type 0} → Ghosts S → SqlTables S → State → List Kept → Type 0
HoldsShop g t office answers = HoldsWhileOpen t.head t.next_row (state g t.connection) office answers

-- they know this house, and so does what a crash leaves of them
abbrev pub KnowsHouse : {S : Type 0} → Ghosts S → SqlTables S → House → Type 0
KnowsHouse g t house = IsOfHouse t.head t.next_row (state g t.connection) house

-- a crash may leave this shop in them
abbrev pub LeavesShop : {S : Type 0} → Ghosts S → SqlTables S → ShopView → Type 0
LeavesShop g t left = Leaves (state g t.connection) left

-- a shop is running so over them, with this office
abbrev pub Runs : {S : Type 0} → Ghosts S → (Reply → Response) → SqlTables S → State → Running → Type 0
Runs g words t office r = IsRunning words (HoldsShop g) (LeavesShop g) t office r

-- a shop is running over them, with this office, as one that a crash may have left of that one
abbrev pub RunsOn : {S : Type 0} → Ghosts S → (Reply → Response) → Running → SqlTables S → State → Type 0
RunsOn g words r t office = (x : ShopView) × MayLeave words r x × Runs g words t office (running_from words x)

-- ---- connections after a crash

-- a new connection finds what a crash left of that one
abbrev pub Finds : {S : Type 0} → Ghosts S → Held S → Held S → Type 0
Finds g old fresh = IsFound (state g old) (state g fresh)

-- the new connection shows what the old one shows
abbrev pub ShowsSame : {S : Type 0} → Ghosts S → Held S → Held S → Type 0
ShowsSame g old fresh = (state g fresh).now ≡ (state g old).now

-- what it shows was opened as these tables, with this office
abbrev pub Opens : {S : Type 0} → Ghosts S → Held S → SqlTables S → State → Type 0
Opens g fresh t office = IsOpened (state g fresh).now.trees t.head t.next_row office (state g t.connection)
