-- What the statements on `vouchers` do.
use Rattle.std.proofs.Common.{◌≡◌, ◌==◌, true, All, List, [], ◌∷◌, ◌++◌, ℕ, codes, Ok, refl, sym, ap, subst, ◌∙◌, pos, map}
use Rattle.sqlite_value.specs.declared.value.Value.TheVariants.{Null, Int, Text}
use Rattle.sqlite_value.specs.Order.{Row, column}
use Rattle.sqlite_trees.specs.Tree.{rowid}
use Rattle.sqlite_trees.specs.View.{is_int}
use Rattle.sqlite_sql.specs.Term.{Term, lit, col}
use Rattle.sqlite_schema.specs.declared.command.Command.{Command}
use Rattle.sqlite_schema.specs.declared.command.Command.TheVariants.{Insert, Update}
use Rattle.sqlite_schema.specs.declared.command.Source.TheVariants.{Values}
use Rattle.sqlite_rules.specs.Cast.{cast_row}
use Rattle.sqlite_tied.specs.Compute.{everything}
use Rattle.sqlite.specs.Values.{or_null}
use Rattle.sqlite.specs.Listing.{understood}
use Rattle.sqlite.specs.State.{State, Executes}
use Rattle.sqlite.proofs.Callers.{IsPlain, command_of}
use Rattle.base_tables.specs.Tables.{sum_at}
use Rattle.file_schema.specs.Tables.{schema, vouchers_table}
use Rattle.file_schema.specs.Parts.{row_shown, with_rows, without}
use Rattle.file_schema.specs.Shapes.{places, over, plainly, equals, delete_keyed}
use Rattle.file_schema.specs.Plain.{IsPlainTable}
use Rattle.file_schema.proofs.Parts.{all_numbered, rows_without}
use Rattle.file_schema.proofs.Casts.{cast_null, cast_int, cast_int_or_null}
use Rattle.model_rows.specs.declared.rows.Voucher.{Voucher}
use Rattle.model_rows.specs.declared.count_rows.VoucherCount.{VoucherCount}
use Rattle.file_rows.specs.declared.rows.VoucherRow.{VoucherRow}
use Rattle.file_rows.specs.Cells.{number, truth, mode}
use Rattle.file_rows.specs.Rows.{voucher_row}
use Rattle.file_rows.specs.Tables.{Tables, Holds, parts}
use Rattle.file_rows.specs.Changes.{IsInside, Changes, head_of_voucher}
use Rattle.file_writes.specs.Vouchers.{voucher_values, redeemed_of, without_id, with_new_voucher, put_voucher, set_redeemed, without_voucher}
use Rattle.file_writes.proofs.CastLemmas.{cast_mode}
use Rattle.file_writes.proofs.Rows.{adds_row, misses_row, removes_row}
use Rattle.file_writes.proofs.PartRows.{updates_part, no_row_of}
use Rattle.file_writes.proofs.Found.{find_one, find_none}

abbrev pub insert_text : List ℕ
insert_text = codes "INSERT INTO vouchers (id, code, max_usages, valid_until, block_quota, allow_ignore_quota, price_mode, amount, item_id, variation_id, quota_id, tag, comment, redeemed) VALUES (?1, ?2, ?3, ?4, ?5, ?6, ?7, ?8, ?9, ?10, ?11, ?12, ?13, 0)"

abbrev pub update_text : List ℕ
update_text = codes "UPDATE vouchers SET code = ?2, max_usages = ?3, valid_until = ?4, block_quota = ?5, allow_ignore_quota = ?6, price_mode = ?7, amount = ?8, item_id = ?9, variation_id = ?10, quota_id = ?11, tag = ?12, comment = ?13 WHERE id = ?1"

abbrev pub redeem_text : List ℕ
redeem_text = codes "UPDATE vouchers SET redeemed = ?2 WHERE id = ?1"

abbrev pub delete_text : List ℕ
delete_text = codes "DELETE FROM vouchers WHERE id = ?1"

abbrev insert_terms : List Term
insert_terms = col 0 0 ∷ lit Null ∷ (map (col 0) (places 1 12) ++ lit (Int (pos 0)) ∷ [])

-- the count stays
abbrev update_project : List Term
update_project = col 1 0 ∷ col 1 0 ∷ lit Null ∷ (map (col 0) (places 1 12) ++ col 1 14 ∷ [])

-- all but the count stays
abbrev redeem_project : List Term
redeem_project = col 1 0 ∷ col 1 0 ∷ lit Null ∷ (map (col 1) (places 2 12) ++ col 0 1 ∷ [])

abbrev update_of : List Term → Command
update_of project = Update 6 (plainly (over 8 (equals (col 1 0) (col 0 0) ∷ []) project []))

insert_is : (command_of (understood schema insert_text) ≡ Insert 6 (Values insert_terms 15)) × IsPlain (understood schema insert_text)
unfolding understood everything
insert_is = (refl, (refl, refl))

update_is : (command_of (understood schema update_text) ≡ update_of update_project) × IsPlain (understood schema update_text)
unfolding understood everything
update_is = (refl, (refl, refl))

redeem_is : (command_of (understood schema redeem_text) ≡ update_of redeem_project) × IsPlain (understood schema redeem_text)
unfolding understood everything
redeem_is = (refl, (refl, refl))

delete_is : (command_of (understood schema delete_text) ≡ delete_keyed 6 8) × IsPlain (understood schema delete_text)
unfolding understood everything
delete_is = (refl, (refl, refl))

table_is : IsPlainTable schema 6 vouchers_table
table_is = record { placed = refl; uncounted = refl; unstamped = refl; restricts = refl }

-- the columns behind the id, as they are stored
abbrev behind : VoucherRow → Row
behind r =
    Null ∷ Text r.voucher.code ∷ number r.voucher.max_usages ∷ or_null number r.voucher.valid_until ∷ truth r.voucher.block_quota
    ∷ truth r.voucher.allow_ignore_quota ∷ mode r.voucher.price_mode ∷ or_null number r.voucher.value ∷ or_null number r.voucher.item
    ∷ or_null number r.voucher.variation ∷ or_null number r.voucher.quota ∷ Text r.voucher.tag ∷ Text r.voucher.comment ∷ number r.redeemed ∷ []

casts : (id : ℕ) (r : VoucherRow) → cast_row vouchers_table (number id ∷ behind r) ≡ number id ∷ behind r
casts id r = simp (cast_int, cast_null, cast_int_or_null (λ n. pos n), cast_mode)

abbrev key : VoucherRow → ℕ
key r = r.voucher.id

abbrev voucher_rows : Tables → List Row
voucher_rows t = map voucher_row t.vouchers

numbered : (t : Tables) → All (λ r. is_int (rowid r) ≡ true) (voucher_rows t)
numbered t = all_numbered voucher_row key (λ r. refl) t.vouchers

rows_left : (id : ℕ) (t : Tables) → parts (without_voucher id t) ≡ with_rows 8 (without (pos id)) (parts t)
rows_left id t = rw (rows_without voucher_row key (λ r. refl) id t.vouchers)

-- a new voucher is redeemed 0 times
abbrev new_row : Voucher → VoucherRow
new_row w = record { voucher = head_of_voucher w; redeemed = 0 }

-- the parameters behind the id
abbrev values_behind : Voucher → Row
values_behind w = Text w.code ∷ number w.max_usages ∷ or_null number w.valid_until ∷ truth w.block_quota ∷ truth w.allow_ignore_quota ∷ mode w.price_mode ∷ or_null number w.value ∷ or_null number w.item ∷ or_null number w.variation ∷ or_null number w.quota ∷ Text w.tag ∷ Text w.comment ∷ []

-- a voucher with the count that a row shows, and a row's voucher with another count
abbrev counted_in : Voucher → Row → Row
counted_in w s = Null ∷ Text w.code ∷ number w.max_usages ∷ or_null number w.valid_until ∷ truth w.block_quota ∷ truth w.allow_ignore_quota ∷ mode w.price_mode ∷ or_null number w.value ∷ or_null number w.item ∷ or_null number w.variation ∷ or_null number w.quota ∷ Text w.tag ∷ Text w.comment ∷ column s 13 ∷ []

abbrev with_count : ℕ → Row → Row
with_count n s = Null ∷ column s 1 ∷ column s 2 ∷ column s 3 ∷ column s 4 ∷ column s 5 ∷ column s 6 ∷ column s 7 ∷ column s 8 ∷ column s 9 ∷ column s 10 ∷ column s 11 ∷ column s 12 ∷ number n ∷ []

module _ (old new : State) (at : IsInside old) (limit : new.step_limit ≡ old.step_limit) where
  pub adds : (w : Voucher) (count : ℕ) → Executes insert_text (voucher_values w) old new (Ok count) → Changes (with_new_voucher w) old new
  adds w count h =
      adds_row 6 vouchers_table table_is insert_text insert_is.1 old new at limit insert_terms 15 insert_is.0 (voucher_values w) (number w.id ∷ behind (new_row w)) refl (pos w.id) _ (casts w.id (new_row w)) (voucher_row (new_row w)) refl (with_new_voucher w) (λ t. refl) count h

  -- the columns of the voucher change, and its count stays
  pub puts : (w : Voucher) (count : ℕ) → count ≡ 1 → Executes update_text (voucher_values w) old new (Ok count) → Changes (put_voucher w) old new
  puts w count one h =
      updates_part 6 vouchers_table table_is update_text update_is.1 old new at limit voucher_row key (λ r. refl) (λ t. t.vouchers) (λ t h. h.1.1.1.1.1.1.0) (λ t. refl) update_project update_is.0
      w.id (values_behind w) (λ r. counted_in w (row_shown schema 8 r)) (λ r. refl) (λ (a : VoucherRow). record { voucher = head_of_voucher w; redeemed = a.redeemed })
      (λ a r same is.
      let row : VoucherRow = record { voucher = head_of_voucher w; redeemed = a.redeemed } in
      (behind row, ap (λ s. cast_row vouchers_table (number w.id ∷ counted_in w s)) same ∙ casts w.id row, refl))
      (subst (λ n. Executes update_text (voucher_values w) old new (Ok n)) one h)
      (put_voucher w) (λ t a found. ap (λ n. parts (record t { vouchers = record { voucher = head_of_voucher w; redeemed = n } ∷ without_id w.id t.vouchers })) (ap (sum_at (λ (r : VoucherRow). r.redeemed)) (find_one (λ (r : VoucherRow). r.voucher.id == w.id) t.vouchers a found)))

  pub redeems : (c : VoucherCount) (count : ℕ) → count ≡ 1 → Executes redeem_text (number c.voucher ∷ number c.redeemed ∷ []) old new (Ok count) → Changes (set_redeemed c) old new
  redeems c count one h =
      updates_part 6 vouchers_table table_is redeem_text redeem_is.1 old new at limit voucher_row key (λ r. refl) (λ t. t.vouchers) (λ t h. h.1.1.1.1.1.1.0) (λ t. refl) redeem_project redeem_is.0
      c.voucher (number c.redeemed ∷ []) (λ r. with_count c.redeemed (row_shown schema 8 r)) (λ r. refl) (λ (a : VoucherRow). record a { redeemed = c.redeemed })
      (λ a r same is.
      let row = record a { redeemed = c.redeemed } in
      (behind row, ap (λ s. cast_row vouchers_table (number c.voucher ∷ with_count c.redeemed s)) same ∙ casts c.voucher row, ap (λ (n : ℕ). row_shown schema 8 (number n ∷ behind row)) (sym is)))
      (subst (λ n. Executes redeem_text (number c.voucher ∷ number c.redeemed ∷ []) old new (Ok n)) one h)
      (set_redeemed c) (λ t a found. ap (λ (l : List VoucherRow). parts (record t { vouchers = map (λ (r : VoucherRow). record r { redeemed = c.redeemed }) l ++ without_id c.voucher t.vouchers })) found)

  pub missed : (w : Voucher) (count : ℕ) → count ≡ 0 → Executes update_text (voucher_values w) old new (Ok count) → Changes (without_voucher w.id) old new × ((t : Tables) → Holds old.now.trees t → redeemed_of w.id t.vouchers ≡ 0)
  missed w count none h =
      let ran = subst (λ n. Executes update_text (voucher_values w) old new (Ok n)) none h in (
        misses_row 6 vouchers_table table_is update_text update_is.1 old new at limit voucher_rows numbered (λ t h. h.1.1.1.1.1.1.0) update_project update_is.0 w.id _ ran (without_voucher w.id) (rows_left w.id),
        λ t held. ap (sum_at (λ (r : VoucherRow). r.redeemed)) (find_none (λ (r : VoucherRow). r.voucher.id == w.id) t.vouchers
            (no_row_of 6 vouchers_table table_is update_text update_is.1 old new at limit voucher_row key (λ r. refl) (λ t. t.vouchers) (λ t h. h.1.1.1.1.1.1.0) (λ t. refl) update_project update_is.0 w.id _ ran t held)),
      )

  pub removes : (id count : ℕ) → Executes delete_text (number id ∷ []) old new (Ok count) → Changes (without_voucher id) old new
  removes id count h =
      removes_row 6 vouchers_table table_is delete_text delete_is.1 old new at limit voucher_rows numbered (λ t h. h.1.1.1.1.1.1.0) delete_is.0 id count h (without_voucher id) (rows_left id)

-- an UPDATE that counts no row, and then an INSERT
pub adds_new : (old mid new : State) (w : Voucher) → ((t : Tables) → Holds old.now.trees t → redeemed_of w.id t.vouchers ≡ 0) → Changes (without_voucher w.id) old mid → Changes (with_new_voucher w) mid new → Changes (put_voucher w) old new
adds_new old mid new w none a b = record {
  known = b.known;
  inside = b.inside;
  committed = b.committed ∙ a.committed;
  listed = λ d. b.listed (a.listed d);
  holds = λ t held. subst (λ n. Holds new.now.trees (record t { vouchers = record { voucher = head_of_voucher w; redeemed = n } ∷ without_id w.id t.vouchers })) (sym (none t held)) (b.holds (without_voucher w.id t) (a.holds t held));
}
