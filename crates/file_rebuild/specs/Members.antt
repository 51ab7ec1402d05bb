-- The members of rows, as links tell them.
use Rattle.std.specs.Prelude.{◌≡◌, ℕ, ◌==◌, List, map, filter, flat_map, Option, option_map, option_to_list}
use Rattle.std.specs.Global.{Vec}
use Rattle.base_tables.specs.Rising.{rising}
use Rattle.base_tables.specs.Tables.{row_at}
use Rattle.file_meaning.specs.Links.{Link}
use Rattle.file_meaning.specs.Rows.{budget_in}

-- the members that are told of an owner, in the order of their links
abbrev pub members_told : ℕ → List Link → List ℕ
members_told owner rows = map (λ l. l.member) (filter (λ l. l.owner == owner) rows)

-- in the place of each id stands what links tell of it
abbrev pub AreTold : List ℕ → List Link → List (Vec ℕ) → Type 0
AreTold ids rows lists = map (λ v. v.items) lists ≡ map (λ id. members_told id rows) ids

-- in rising order, each once
abbrev pub members_of : ℕ → List Link → List ℕ
members_of owner rows = rising (members_told owner rows)

-- the links of one owner to these members
abbrev pub links_to : List ℕ → ℕ → List Link
links_to members owner = map (λ id. record { owner = owner; member = id }) members

-- The links of these owners to their members. They are just the given ones where each of these is of an owner, and none comes twice.
abbrev pub links_of : List ℕ → List Link → List Link
links_of owners rows = flat_map (λ owner. links_to (members_of owner rows) owner) owners

-- The links of these owners to the value that is told of each first, where one is told. They are just the given ones where each of these is
-- of an owner, and no owner has two.
abbrev pub values_of : List ℕ → List Link → List Link
values_of owners rows = flat_map (λ owner. links_to (option_to_list (budget_in (members_told owner rows))) owner) owners

-- of each of these ids the value in its row, where it has a row; rows are told by their key
abbrev pub each_value : {V : Type 0} → (V → ℕ) → (V → ℕ) → List ℕ → List V → List (Option ℕ)
each_value key value ids rows = map (λ id. option_map value (row_at key id rows)) ids

-- the links of the rows' keys to their values
abbrev pub value_links : {V : Type 0} → (V → ℕ) → (V → ℕ) → List V → List Link
value_links key value rows = map (λ r. record { owner = key r; member = value r }) rows
