-- What the tables of an earlier version don't tell: that no ticket of a quota is out and none releases places; that nothing is spent of a voucher,
-- none has a budget, and no price was lowered by one. And the tables that such a version becomes.
use Rattle.std.specs.Prelude.{◌≡◌, ℕ, zero, suc, List, [], map}
use Rattle.sqlite.specs.Effect.{Database}
use Rattle.file_rows.specs.declared.rows.CountRow.{CountRow}
use Rattle.file_rows.specs.declared.rows.ExitRow.{ExitRow}
use Rattle.file_rows.specs.declared.rows.ShopRow.{ShopRow}
use Rattle.file_rows.specs.declared.rows.SpentRow.{SpentRow}
use Rattle.file_rows.specs.declared.rows.VoucherRow.{VoucherRow}
use Rattle.file_rows.specs.Tables.{Tables}
use Rattle.file_tables.specs.Begun.{IsUpgraded, of_this_version, with_exits, with_head, with_spents}

-- of this count no ticket is out
abbrev pub none_out : CountRow → ExitRow
none_out count = record { quota = count.quota; exited = 0 }

-- of this voucher nothing is spent
abbrev pub none_spent : VoucherRow → SpentRow
none_spent row = record { voucher_id = row.voucher.id; spent = 0 }

-- the rows of exits that the tables of a version haven't: one for each count
abbrev pub lacking_exits : ℕ → List CountRow → List ExitRow
lacking_exits zero counts = map none_out counts
lacking_exits (suc zero) counts = map none_out counts
lacking_exits (suc (suc version)) counts = []

-- and the rows of what is spent: one for each voucher
abbrev pub lacking_spents : ℕ → List VoucherRow → List SpentRow
lacking_spents zero vouchers = map none_spent vouchers
lacking_spents (suc zero) vouchers = map none_spent vouchers
lacking_spents (suc (suc zero)) vouchers = map none_spent vouchers
lacking_spents (suc (suc (suc version))) vouchers = []

-- the rows are just those that the tables of a version haven't
pub record AreLacking (version : ℕ) (t : Tables) (out : List ExitRow) (spent : List SpentRow) : Type 0 where
  pub exits : out ≡ lacking_exits version t.counts
  pub spents : spent ≡ lacking_spents version t.vouchers

-- the tables of a version with the rows that this program's has beside them
abbrev pub tables_supplied : ℕ → Tables → Tables
tables_supplied version t = with_spents (lacking_spents version t.vouchers) (with_exits (lacking_exits version t.counts) t)

-- what a file of a version becomes that is brought to this program's: it gets these rows, and its shop's row gets the version
abbrev pub Brings : ℕ → ShopRow → Tables → Database → Database → Type 0
Brings version head t = IsUpgraded (of_this_version head) (lacking_exits version t.counts) (lacking_spents version t.vouchers) version

-- the tables of this program's version that become of a version's: the shop's row tells the version, and all other rows are as they were
abbrev pub brought : ℕ → ShopRow → Tables → Tables
brought version head t = with_head (of_this_version head) (tables_supplied version t)
