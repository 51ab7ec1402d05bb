-- The least rule that is broken.
use Rattle.std.proofs.Common.{◌≡◌, ◌<◌, ◌↔◌, Bool, IsTrue, List, inl, inr, refl, subst, sym, arith}
use Rattle.sqlite.specs.Effect.{Database}
use Rattle.file_schema.specs.Tables.{schema}
use Rattle.file_meaning.specs.Rows.{OfficeRows}
use Rattle.file_meaning.specs.Stands.{AreRowsOf}
use Rattle.model_damage.specs.declared.rule.Rule.{Rule}
use Rattle.model_damage.specs.declared.rule.Rule.TheVariants as rules
use Rattle.model_damage.specs.Numbers.{number}
use Rattle.model_damage.specs.Rules.{File, Keeps, IsLeastBroken}
use Rattle.file_rows.specs.declared.rows.ShopRow.{ShopRow}
use Rattle.file_rows.specs.declared.rows.Token.{Token}
use Rattle.file_rows.specs.Tables.{Holds}
use Rattle.file_scan.specs.declared.error.OpenError.{OpenError}
use Rattle.file_scan.specs.declared.error.OpenError.TheVariants.{Memory, NotAShop, Version, Damaged, Store}
use Rattle.file_scan.specs.declared.file.FileTables.{FileTables}
use Rattle.file_scan.specs.Causes.{IsReadable, IsCause}
use Rattle.file_scan.specs.Lawful.{IsOfMachine}
use Rattle.file_scan.specs.Read.{tables_of}
use Rattle.file_rebuild.specs.Arranged.{file_arranged, rows_in, ArePaired, AreReadInOrder}
use Rattle.file_meaning.specs.Typed.{AreBelowNext}
use Rattle.file_open.specs.Opened.{KeepsIn, IsLeastIn, IsDamagedBy, IsReason}
use Rattle.file_open.specs.Why.{IsWhy, IsBroken}

module _ (shop : ShopRow) (tokens : List Token) (rows : OfficeRows) (paired : Type 0) (file : File) where
  pub kept_in : (rule : Rule) → AreBelowNext shop tokens → AreRowsOf file.state.lists rows → paired → Keeps rule file → KeepsIn shop tokens rows paired file rule
  kept_in rules.Shop below whole pairs k = k
  kept_in rules.Limits below whole pairs k = k
  kept_in rules.Ids below whole pairs k = (below, k)
  kept_in rules.Names below whole pairs k = (whole, k)
  kept_in rules.Positions below whole pairs k = k
  kept_in rules.Headroom below whole pairs k = k
  kept_in rules.Counters below whole pairs k = (pairs, k)
  kept_in rules.Budgets below whole pairs k = k

  kept : (rule : Rule) → KeepsIn shop tokens rows paired file rule → Keeps rule file
  kept rules.Shop k = k
  kept rules.Limits k = k
  kept rules.Ids k = k.1
  kept rules.Names k = k.1
  kept rules.Positions k = k
  kept rules.Headroom k = k
  kept rules.Counters k = k.1
  kept rules.Budgets k = k

  -- before that of counters nothing is asked of pairs
  kept_before : (rule : Rule) → number rule < 7 → AreBelowNext shop tokens → AreRowsOf file.state.lists rows → Keeps rule file → KeepsIn shop tokens rows paired file rule
  kept_before rules.Shop lt below whole k = k
  kept_before rules.Limits lt below whole k = k
  kept_before rules.Ids lt below whole k = (below, k)
  kept_before rules.Names lt below whole k = (whole, k)
  kept_before rules.Positions lt below whole k = k
  kept_before rules.Headroom lt below whole k = k
  kept_before rules.Counters lt below whole k = absurd (omega (arith, lt))
  kept_before rules.Budgets lt below whole k = absurd (omega (arith, lt))

  -- that of budgets is told where counters are paired
  kept_under : (rule other : Rule) → number other < number rule → AreBelowNext shop tokens → AreRowsOf file.state.lists rows → (rule ≡ rules.Budgets → paired) → Keeps other file → KeepsIn shop tokens rows paired file other
  kept_under rules.Shop other lt below whole pairs k = kept_before other (omega (arith, lt)) below whole k
  kept_under rules.Limits other lt below whole pairs k = kept_before other (omega (arith, lt)) below whole k
  kept_under rules.Ids other lt below whole pairs k = kept_before other (omega (arith, lt)) below whole k
  kept_under rules.Names other lt below whole pairs k = kept_before other (omega (arith, lt)) below whole k
  kept_under rules.Positions other lt below whole pairs k = kept_before other (omega (arith, lt)) below whole k
  kept_under rules.Headroom other lt below whole pairs k = kept_before other (omega (arith, lt)) below whole k
  kept_under rules.Counters other lt below whole pairs k = kept_before other (omega (arith, lt)) below whole k
  kept_under rules.Budgets other lt below whole pairs k = kept_in other below whole (pairs refl) k

  -- any other, where each link tells a member
  pub least_later : (rule : Rule) → AreBelowNext shop tokens → AreRowsOf file.state.lists rows → (rule ≡ rules.Budgets → paired) → IsLeastBroken rule file → IsLeastIn shop tokens rows paired file rule
  least_later rule below whole pairs h = record { before = λ other lt. kept_under rule other lt below whole pairs (h.before other lt); broken = λ k. h.broken (kept rule k) }

  -- that of counters, where they aren't paired
  pub least_unpaired : AreBelowNext shop tokens → AreRowsOf file.state.lists rows → (¬ paired) → ((other : Rule) → number other < number rules.Counters → Keeps other file) → IsLeastIn shop tokens rows paired file rules.Counters
  least_unpaired below whole none before = record { before = λ other lt. kept_before other lt below whole (before other lt); broken = λ k. none k.0 }

-- why the rows of an office are broken is why the file isn't opened
pub why : (read : FileTables) (file : File) (paired : Bool) (e : OpenError) → file ≡ file_arranged read.shop read.tables → AreReadInOrder read.shop read.tables → AreBelowNext read.shop read.tables.others.tokens.items → AreRowsOf (file_arranged read.shop read.tables).state.lists (rows_in read.tables)
    → (IsTrue paired ↔ ArePaired read.tables) → IsBroken paired file e → IsWhy read e
why read file paired Memory is order below whole pairs h = tt
why read file paired (Damaged rule) is order below whole pairs (inl h) = (
  order,
  least_later read.shop read.tables.others.tokens.items (rows_in read.tables) (ArePaired read.tables) (file_arranged read.shop read.tables) rule below whole (λ last. pairs.0 (h.1 last)) (subst (IsLeastBroken rule) is h.0),
)
why read file paired (Damaged rule) is order below whole pairs (inr (seventh, none, before)) = (
  order,
  subst (IsLeastIn read.shop read.tables.others.tokens.items (rows_in read.tables) (ArePaired read.tables) (file_arranged read.shop read.tables)) (sym seventh)
      (least_unpaired read.shop read.tables.others.tokens.items (rows_in read.tables) (ArePaired read.tables) (file_arranged read.shop read.tables) below whole (λ are. none (pairs.1 are)) (λ other lt. subst (Keeps other) is (before other lt))),
)
why read file paired NotAShop is order below whole pairs h = absurd h
why read file paired (Version version) is order below whole pairs h = absurd h
why read file paired Store is order below whole pairs h = absurd h

-- and so it is told of what was read
pub reason : (db : Database) (read : FileTables) → IsReadable db → (db.schema ≡ schema → Holds db.trees (tables_of read)) → (e : OpenError) → IsWhy read e → IsReason db e
reason db read readable held Memory h = tt
reason db read readable held NotAShop h = absurd h
reason db read readable held (Version version) h = absurd h
reason db read readable held (Damaged rule) h = inr (readable, λ known. record { read = read; held = held known; order = h.0; least = h.1 })
reason db read readable held Store h = tt

pub unread : (db : Database) (e : OpenError) → IsCause db e → IsReason db e
unread db Memory h = tt
unread db NotAShop h = h
unread db (Version version) h = h
unread db (Damaged rule) h = inl h
unread db Store h = tt

-- no reason but that of the machine
pub clear : (db : Database) → db.schema ≡ schema → ((e : OpenError) → IsCause db e → IsOfMachine e) → ((rule : Rule) → ¬ IsDamagedBy rule db.trees) → (e : OpenError) → IsReason db e → IsOfMachine e
clear db known read kept Memory h = tt
clear db known read kept NotAShop h = read NotAShop h
clear db known read kept (Version version) h = read (Version version) h
clear db known read kept (Damaged rule) (inl h) = read (Damaged rule) h
clear db known read kept (Damaged rule) (inr h) = kept rule (h.1 known)
clear db known read kept Store h = tt
