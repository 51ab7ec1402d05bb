-- The vouchers of a code: those that changes put, and those of the book that no change touches. The first is that of the least id.
use Rattle.std.specs.Prelude.{◌≡◌, ℕ, ◌<◌, ◌≤◌, Bool, true, false, ◌&&◌, ◌==◌, List, Option, Some, None, is_none, option_map, find, min, if◌then◌else◌}
use Rattle.base_values.specs.Texts.{same_text}
use Rattle.model_rows.specs.declared.changes.Change.{Change}
use Rattle.model_rows.specs.declared.changes.Change.TheVariants.{PutVoucher}
use Rattle.model_rows.specs.declared.rows.Voucher.{Voucher}
use Rattle.model_rows.specs.Lists.{voucher_at}
use Rattle.draft_overlay.specs.Logs.{Log, rows_of}
use Rattle.book_log.specs.Places.{touches, last_place}

-- a row passes, if there is one
abbrev pub passes_if : {T : Type 0} → (T → Bool) → Option T → Bool
passes_if passes None = false
passes_if passes (Some row) = passes row

-- the least number for which it holds; none where it holds for none
abbrev pub IsLeast : (ℕ → Type 0) → Option ℕ → Type 0
IsLeast Holds None = (id : ℕ) → Holds id → ⊥
IsLeast Holds (Some least) = Holds least × ((id : ℕ) → Holds id → least ≤ id)

-- the lesser of two, or the one that there is
abbrev pub lesser : Option ℕ → Option ℕ → Option ℕ
lesser None b = b
lesser (Some a) None = Some a
lesser (Some a) (Some b) = Some (min a b)

-- a place that is below the count
abbrev pub IsBelow : ℕ → Option ℕ → Type 0
IsBelow count None = ⊥
IsBelow count (Some place) = place < count

-- with the changes, the voucher of an id has the code
abbrev pub HasCode : List ℕ → Log → ℕ → Type 0
HasCode code log id = passes_if (λ v. same_text v.code code) (voucher_at id (rows_of log)) ≡ true

-- and the last change that touches it is one of the first ones
abbrev pub IsPutBelow : ℕ → List ℕ → Log → ℕ → Type 0
IsPutBelow count code log id = HasCode code log id × IsBelow count (last_place (touches 3 id) log.changes)

-- or no change touches it
abbrev pub IsUnchanged : List ℕ → Log → ℕ → Type 0
IsUnchanged code log id = HasCode code log id × (last_place (touches 3 id) log.changes ≡ None)

-- a place that was found is this one
abbrev pub is_place : ℕ → Option ℕ → Bool
is_place place None = false
is_place place (Some other) = other == place

-- the id of the voucher that the change at a place puts, where it has the code and no later change touches it
abbrev pub put_if : List ℕ → ℕ → Log → Change → Option ℕ
put_if code place log (PutVoucher row) = if same_text row.code code && is_place place (last_place (touches 3 row.id) log.changes) then Some row.id else None
put_if code place log _ = None

-- the id of the book's first voucher that has the code and that no change touches
abbrev pub first_unchanged : List ℕ → Log → Option ℕ
first_unchanged code log = option_map (λ v. v.id) (find (λ (v : Voucher). same_text v.code code && is_none (last_place (touches 3 v.id) log.changes)) log.base.vouchers)
