-- The door: lists, by which tickets are checked in, and check-ins.
use Rattle.std.specs.Prelude.{◌≡◌, ℕ, Bool, true, false, ◌&&◌, ◌==◌, is_some, List, [], ◌∷◌, Option, Some, None}
use Rattle.std.specs.List.{AllByRecursion}
use Rattle.base_tables.specs.Tables.{row_at, AreInOrder}
use Rattle.base_values.specs.Texts.{same_text}
use Rattle.model_catalogue.specs.declared.rows.Item.{Item}
use Rattle.model_rows.specs.declared.rows.OrderPos.{OrderPos}
use Rattle.model_rows.specs.declared.rows.CheckinList.{CheckinList}
use Rattle.model_rows.specs.declared.rows.Checkin.{Checkin}
use Rattle.model_rows.specs.Lists.{Lists}

-- an item of this id is among these
abbrev pub has_item : List Item → ℕ → Bool
has_item items id = is_some (row_at (λ r. r.id) id items)

-- the ids of a list's items rise, and each of these items stands
pub record HasItems (items : List Item) (row : CheckinList) : Type 0 where
  pub rise : AreInOrder (λ n. n) row.limit_products
  pub stand : AllByRecursion (λ id. has_item items id ≡ true) row.limit_products

-- a check-in's list and its order position stand
pub record IsCheckedIn (lists : List CheckinList) (positions : List OrderPos) (row : Checkin) : Type 0 where
  pub list : is_some (row_at (λ r. r.id) row.list lists) ≡ true
  pub position : is_some (row_at (λ r. r.id) row.position positions) ≡ true

-- two nonces that were given, and are one
abbrev pub same_nonce : Option (List ℕ) → Option (List ℕ) → Bool
same_nonce None other = false
same_nonce (Some nonce) None = false
same_nonce (Some nonce) (Some other) = same_text nonce other

-- two check-ins of one position by one list, with one nonce
abbrev pub repeats : Checkin → Checkin → Bool
repeats a b = a.list == b.list && (a.position == b.position && same_nonce a.nonce b.nonce)

-- no list has a nonce twice for a position
abbrev pub AreOnce : List Checkin → Type 0
AreOnce [] = Unit {0}
AreOnce (c ∷ cs) = AllByRecursion (λ d. repeats c d ≡ false) cs × AreOnce cs

-- what holds of the door's tables, by the lists that it reads
pub record IsDoor (items : List Item) (positions : List OrderPos) (lists : List CheckinList) (checkins : List Checkin) : Type 0 where
  -- each list's items rise and stand
  pub limited : AllByRecursion (HasItems items) lists
  -- each check-in's list and position stand
  pub checked : AllByRecursion (IsCheckedIn lists positions) checkins
  -- no list has a nonce twice for a position
  pub nonces : AreOnce checkins

-- what holds of the door's tables in these lists
abbrev pub IsDoorOf : Lists → Type 0
IsDoorOf lists = IsDoor lists.catalogue.items lists.positions lists.checkin_lists lists.checkins
