-- What becomes of a command on a file that is known by its name.
use Rattle.std.specs.Prelude.{◌≡◌, ◌⊎◌, ℕ, Bool, true, false, List, Result, Err, IfErr, IsTrue}
use Rattle.sqlite_trees.specs.declared.store.Store.{Ghosts}
use Rattle.sqlite.specs.Held.{state}
use Rattle.sqlite.specs.declared.connection.Connection.{Connection}
use Rattle.web_cli.specs.declared.fault.RunFault.{RunFault}
use Rattle.web_cli.specs.declared.fault.RunFault.TheVariants as faults
use Rattle.app_files.specs.Came.{Coming}

-- the file isn't there, stands already, can't be opened, has a second name or is no database; the store failed; or there is no memory
abbrev pub is_shelf_fault : RunFault → Bool
is_shelf_fault faults.Memory = true
is_shelf_fault faults.NotAShop = true
is_shelf_fault faults.Store = true
is_shelf_fault faults.File = true
is_shelf_fault faults.Linked = true
is_shelf_fault _ = false

-- a voucher file can't be read; or there is no memory
abbrev pub is_csv_fault : RunFault → Bool
is_csv_fault faults.Memory = true
is_csv_fault faults.CsvFile = true
is_csv_fault _ = false

-- what is known of the bytes of the voucher file of this name; and where there are none, the fault is that file's
abbrev pub IsSource : (List ℕ → Result (List ℕ) RunFault → Type 0) → List ℕ → Result (List ℕ) RunFault → Type 0
IsSource held csv source = held csv source × IfErr source (λ fault. IsTrue (is_csv_fault fault))

-- what is known of a connection to the file of this name, where it was told whether there was one
abbrev pub IsGiven : {S : Type 0} → (List ℕ → Bool → Type 0) → (List ℕ → Connection S → Type 0) → Bool → List ℕ → Connection S → Type 0
IsGiven stood gives was_there file connection = stood file was_there × gives file connection

-- why no connection was had, for one of these faults: a call for it was refused
abbrev pub IsRefused : (List ℕ → RunFault → Type 0) → List ℕ → RunFault → Type 0
IsRefused refuses file fault = refuses file fault × IsTrue (is_shelf_fault fault)

-- why a command has no connection to a file that has to be there: none is there, or a connection to it was refused
abbrev pub IsMissing : (List ℕ → Bool → Type 0) → (List ℕ → RunFault → Type 0) → List ℕ → RunFault → Type 0
IsMissing stood refuses file fault =
    (stood file false × (fault ≡ faults.File)) ⊎ (stood file true × IsRefused refuses file fault)

-- why a command has no connection to a file that is to be made: one is there; or none is, and there was no memory for the names of the shop, or
-- a connection was refused
abbrev pub IsTaken : (List ℕ → Bool → Type 0) → (List ℕ → RunFault → Type 0) → List ℕ → RunFault → Type 0
IsTaken stood refuses file fault =
    (stood file true × (fault ≡ faults.NotAShop)) ⊎ (stood file false × ((fault ≡ faults.Memory) ⊎ IsRefused refuses file fault))

-- What a command came to over a connection to the file of this name, which it left so; or there is no such connection, and the fault says
-- why.
abbrev pub IsShelved : {S A : Type 0} → (List ℕ → Connection S → Type 0) → (List ℕ → RunFault → Type 0)
    → (Connection S → Connection S → Result A RunFault → Type 0) → List ℕ → Result A RunFault → Type 0
IsShelved {S = S} gives lacks came file outcome =
    ((connection : Connection S) × (left : Connection S) × gives file connection × came connection left outcome)
    ⊎ ((fault : RunFault) × (outcome ≡ Err fault) × lacks file fault)

-- what a command came to over the file of this name, which stood there; or there is no connection to that file, and the fault says why
abbrev pub OverFile : {S A : Type 0} → Ghosts S → (List ℕ → Bool → Type 0) → (List ℕ → Connection S → Type 0) → (List ℕ → RunFault → Type 0) → Coming S A → List ℕ → Result A RunFault → Type 0
OverFile g stood gives refuses Comes file outcome = IsShelved (IsGiven stood gives true) (IsMissing stood refuses) (λ connection left came. Comes (state g connection) left came) file outcome

-- what a command came to over a new file of this name; or there is no connection to one, and the fault says why
abbrev pub OverNewFile : {S A : Type 0} → Ghosts S → (List ℕ → Bool → Type 0) → (List ℕ → Connection S → Type 0) → (List ℕ → RunFault → Type 0) → Coming S A → List ℕ → Result A RunFault → Type 0
OverNewFile g stood gives refuses Comes file outcome = IsShelved (IsGiven stood gives false) (IsTaken stood refuses) (λ connection left came. Comes (state g connection) left came) file outcome
