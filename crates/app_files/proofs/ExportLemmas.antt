-- What an export of a shop's database comes to.
use Rattle.std.proofs.Common.{◌≡◌, inl, inr, ℕ, Bool, List, [], Result, IsTrue, refl, sym, subst, arith}
use Rattle.sqlite_trees.specs.declared.store.Store.{Ghosts}
use Rattle.sqlite.specs.Held.{state}
use Rattle.sqlite.specs.State.{State as Connected, HasCleanDisk}
use Rattle.sqlite.specs.declared.connection.Connection.{Connection}
use Rattle.sqlite.proofs.StateLemmas.{survives_then}
use Rattle.file_scan.specs.declared.error.OpenError.{OpenError}
use Rattle.file_scan.specs.declared.error.OpenError.TheVariants as opening
use Rattle.file_scan.proofs.LimitLemmas.{sound_fits}
use Rattle.file_scan.proofs.Stays.{at_same, then_stays}
use Rattle.file_tables.specs.declared.sql.SqlTables.{SqlTables}
use Rattle.web_handler.specs.Streams.{HandlerView}
use Rattle.base_devices.specs.Reported.{Adds}
use Rattle.base_devices.proofs.ToldLemmas.{Adds-nil}
use Rattle.web_http.specs.Written.{Page}
use Rattle.web_cli.specs.Saying.{CountsCut, CountsEnd}
use Rattle.web_cli.specs.declared.fault.RunFault.{RunFault}
use Rattle.web_cli.specs.declared.fault.RunFault.TheVariants as faults
use Rattle.app_export.specs.Written.{Exports}
use Rattle.app_files.specs.Exported.{IsExported}
use Rattle.app_files.specs.Faults.{fault_of_opening}
use Rattle.app_files.specs.Served.{OpensAs, StaysUnopened}
use Rattle.app_files.specs.Shelved.{IsMissing, is_shelf_fault}

-- ---- nothing is written

pub opening_counts : (e : OpenError) (n : ℕ) → CountsCut (fault_of_opening e) n n
opening_counts opening.Memory n = refl
opening_counts opening.NotAShop n = refl
opening_counts (opening.Version version) n = refl
opening_counts (opening.Damaged rule) n = refl
opening_counts opening.Store n = refl

shelf_counts : (f : RunFault) (n : ℕ) → IsTrue (is_shelf_fault f) → CountsCut f n n
shelf_counts faults.Memory n h = refl
shelf_counts faults.Full n h = refl
shelf_counts faults.NoList n h = refl
shelf_counts faults.NotAShop n h = refl
shelf_counts faults.Version n h = refl
shelf_counts (faults.Damaged rule) n h = refl
shelf_counts faults.Store n h = refl
shelf_counts faults.Header n h = refl
shelf_counts (faults.Line line) n h = refl
shelf_counts (faults.Column line at) n h = refl
shelf_counts faults.Unwritten n h = absurd (cc)
shelf_counts faults.TooManyLines n h = refl
shelf_counts faults.File n h = refl
shelf_counts faults.Linked n h = refl
shelf_counts faults.CsvFile n h = refl
shelf_counts faults.Listen n h = refl
shelf_counts (faults.Argument argument) n h = refl
shelf_counts (faults.Run failure) n h = refl

pub missing_counts : (stood : List ℕ → Bool → Type 0) (refuses : List ℕ → RunFault → Type 0) (file : List ℕ) (f : RunFault) (n : ℕ) → IsMissing stood refuses file f → CountsCut f n n
missing_counts stood refuses file f n (inl h) = subst (λ (g : RunFault). CountsCut g n n) (sym h.1) refl
missing_counts stood refuses file f n (inr h) = shelf_counts f n h.1.1

-- ---- of a shop that was opened, or wasn't

pub opened_exported : {S : Type 0} (g : Ghosts S) (old : Connected) (first left : Connection S) (handler : HandlerView (SqlTables S)) (text : List ℕ) (before after : Page) (outcome : Result (Unit {0}) RunFault)
    → OpensAs g old handler → first ≡ handler.tables.connection → Exports (state g first) (state g left) text before after outcome → IsExported g text old left outcome
opened_exported {S} g old first left handler text before after outcome opens same e =
    let it = subst (λ (c : Connection S). Exports (state g c) (state g left) text before after outcome) same e in
    let here = state g handler.tables.connection in
    let early : HasCleanDisk (state g left) → HasCleanDisk here = λ clean. omega (arith, it.crash.clean, clean) in
    inl
    (record {
      handler = handler;
      opens = opens;
      written = λ clean db at known.
          let opened = opens.opened (early clean) db at known in
          it.written clean db (at_same old here (opens.same (early clean)) db at) known opened.tables opened.held handler.tables.head handler.state _ opened.stand opens.sound;
      cause = λ clean db at known.
          let opened = opens.opened (early clean) db at known in
          let typed = opened.typed in
          it.cause clean db (at_same old here (opens.same (early clean)) db at) known opened.tables opened.held
          (sound_fits handler.tables.head opened.tables handler.state _ typed.first typed.organizer typed.event typed.token opened.stand opens.sound typed.rows);
      rests = λ clean opened. then_stays old here (state g left) (opens.same (early clean)) (it.rests clean opened);
      crash = survives_then old here (state g left) (λ _. ⊥) (λ _. ⊥) (λ _. ⊥) (λ _ db none. none) (λ _ db none. none) opens.crash it.crash;
    })

pub unopened_exported : {S : Type 0} (g : Ghosts S) (old : Connected) (left : Connection S) (outcome : Result (Unit {0}) RunFault) (page : Page) → StaysUnopened g old left outcome
    → (text : List ℕ) × IsExported g text old left outcome × Adds page.taken text page.taken × CountsEnd outcome page.failures page.failures
unopened_exported g old left outcome page stays = (
  [],
  inr (stays, refl),
  Adds-nil page.taken,
  subst (λ (r : Result (Unit {0}) RunFault). CountsEnd r page.failures page.failures) (sym stays.told) (opening_counts stays.error page.failures),
)
