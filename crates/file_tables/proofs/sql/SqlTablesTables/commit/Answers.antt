use Rattle.std.proofs.Common.{◌≡◌, false, true, rules, subst}
use Rattle.std.specs.List.{AllByRecursion}
use Rattle.sqlite.specs.Held.{state}
use Rattle.file_rows.specs.declared.rows.ShopRow.{ShopRow}
use Rattle.file_meaning.specs.Lawful.{puts_come_first}
use Rattle.file_meaning.specs.Stands.{IsRising}
use Rattle.file_tables.proofs.ShopLemmas.{moved_on, written_holds, written_house, written_leaves, leaves_or, leaves_written, still_knows}
use Rattle.file_tables.proofs.sql.SqlTablesTables.commit.Goals as goal

pub returns-in-Ok-clause-all : goal.returns-in-Ok-clause-all
returns-in-Ok-clause-all g c clean s ks holds right =
    let old = state g.S.Store c.args.self.now.connection in
    let new = state g.S.Store c.write_whole.new.connection in
    let head = c.args.self.now.head in
    let shop : ShopRow = record head { moment = c.args.at; next = c.next-self.result } in
    let from = c.args.self.now.next_row in
    let rises : AllByRecursion IsRising c.as_slice.result.now = search rules in
    let comes : puts_come_first false c.as_slice.result.now ≡ true = search rules in
    let rising = subst (AllByRecursion IsRising) c.as_slice.ensures rises in
    let first = subst (λ l. puts_come_first false l ≡ true) c.as_slice.ensures comes in
    let is = rw c.as_slice-2.ensures at (c.in-Ok.ensures.all clean (λ o. (holds o).known)) in
    written_holds head shop c.args.changes.now c.args.counts.now from c.args.kept c.next-self.ensures rising first (moved_on head c.args.at c.next-self.result) c.types_known.ensures.changes c.types_known.ensures.kept old new c.in-Ok.free is s ks holds right

pub returns-in-Ok-clause-house : goal.returns-in-Ok-clause-house
returns-in-Ok-clause-house g c clean house of =
    let old = state g.S.Store c.args.self.now.connection in
    let new = state g.S.Store c.write_whole.new.connection in
    let head = c.args.self.now.head in
    let shop : ShopRow = record head { moment = c.args.at; next = c.next-self.result } in
    let from = c.args.self.now.next_row in
    let rises : AllByRecursion IsRising c.as_slice.result.now = search rules in
    let comes : puts_come_first false c.as_slice.result.now ≡ true = search rules in
    let rising = subst (AllByRecursion IsRising) c.as_slice.ensures rises in
    let first = subst (λ l. puts_come_first false l ≡ true) c.as_slice.ensures comes in
    let crash = rw c.as_slice-2.ensures at c.write_whole.ensures.crash in
    let is = rw c.as_slice-2.ensures at (c.in-Ok.ensures.all clean (λ o. (of.now o).known)) in
    written_house head shop c.args.changes.now c.args.counts.now from c.args.kept c.next-self.ensures rising first (moved_on head c.args.at c.next-self.result) c.types_known.ensures.changes c.types_known.ensures.kept old new c.in-Ok.free clean is crash house of

pub returns-in-Ok-clause-crash : goal.returns-in-Ok-clause-crash
returns-in-Ok-clause-crash g c =
    let old = state g.S.Store c.args.self.now.connection in
    let new = state g.S.Store c.write_whole.new.connection in
    let head = c.args.self.now.head in
    let shop : ShopRow = record head { moment = c.args.at; next = c.next-self.result } in
    let from = c.args.self.now.next_row in
    let rises : AllByRecursion IsRising c.as_slice.result.now = search rules in
    let comes : puts_come_first false c.as_slice.result.now ≡ true = search rules in
    let rising = subst (AllByRecursion IsRising) c.as_slice.ensures rises in
    let first = subst (λ l. puts_come_first false l ≡ true) c.as_slice.ensures comes in
    let is = rw c.as_slice-2.ensures at c.write_whole.ensures.crash in
    leaves_or head shop c.args.changes.now c.args.counts.now from c.args.kept c.next-self.ensures rising first (moved_on head c.args.at c.next-self.result) c.types_known.ensures.changes c.types_known.ensures.kept old new is

pub returns-in-Ok-clause-settled : goal.returns-in-Ok-clause-settled
returns-in-Ok-clause-settled g c clean left l s ks holds right =
    let old = state g.S.Store c.args.self.now.connection in
    let new = state g.S.Store c.write_whole.new.connection in
    let head = c.args.self.now.head in
    let shop : ShopRow = record head { moment = c.args.at; next = c.next-self.result } in
    let from = c.args.self.now.next_row in
    let rises : AllByRecursion IsRising c.as_slice.result.now = search rules in
    let comes : puts_come_first false c.as_slice.result.now ≡ true = search rules in
    let rising = subst (AllByRecursion IsRising) c.as_slice.ensures rises in
    let first = subst (λ l. puts_come_first false l ≡ true) c.as_slice.ensures comes in
    let is = rw c.as_slice-2.ensures at (c.in-Ok.ensures.all clean (λ o. (holds o).known)) in
    leaves_written head shop c.args.changes.now c.args.counts.now from c.args.kept c.next-self.ensures rising first (moved_on head c.args.at c.next-self.result) c.types_known.ensures.changes c.types_known.ensures.kept old new (λ db is_open may. g.met.S.Store.settled c.write_whole.new.connection.store db is_open may) c.in-Ok.free is left l s ks holds right

pub returns-in-Err-clause-house : goal.returns-in-Err-clause-house
returns-in-Err-clause-house g c clean house of =
    let old = state g.S.Store c.args.self.now.connection in
    let new = state g.S.Store c.write_whole.new.connection in
    let head = c.args.self.now.head in
    let shop : ShopRow = record head { moment = c.args.at; next = c.next-self.result } in
    let from = c.args.self.now.next_row in
    let rises : AllByRecursion IsRising c.as_slice.result.now = search rules in
    let comes : puts_come_first false c.as_slice.result.now ≡ true = search rules in
    let rising = subst (AllByRecursion IsRising) c.as_slice.ensures rises in
    let first = subst (λ l. puts_come_first false l ≡ true) c.as_slice.ensures comes in
    let crash = rw c.as_slice-2.ensures at c.write_whole.ensures.crash in
    record {
      now = still_knows head from old new house (c.in-Err.ensures.none clean (λ o. (of.now o).known)) of.now;
      left = written_leaves head shop c.args.changes.now c.args.counts.now from c.args.kept c.next-self.ensures rising first (moved_on head c.args.at c.next-self.result) c.types_known.ensures.changes c.types_known.ensures.kept old new clean crash house of;
    }

pub returns-in-Err-clause-crash : goal.returns-in-Err-clause-crash
returns-in-Err-clause-crash g c =
    let old = state g.S.Store c.args.self.now.connection in
    let new = state g.S.Store c.write_whole.new.connection in
    let head = c.args.self.now.head in
    let shop : ShopRow = record head { moment = c.args.at; next = c.next-self.result } in
    let from = c.args.self.now.next_row in
    let rises : AllByRecursion IsRising c.as_slice.result.now = search rules in
    let comes : puts_come_first false c.as_slice.result.now ≡ true = search rules in
    let rising = subst (AllByRecursion IsRising) c.as_slice.ensures rises in
    let first = subst (λ l. puts_come_first false l ≡ true) c.as_slice.ensures comes in
    let is = rw c.as_slice-2.ensures at c.write_whole.ensures.crash in
    leaves_or head shop c.args.changes.now c.args.counts.now from c.args.kept c.next-self.ensures rising first (moved_on head c.args.at c.next-self.result) c.types_known.ensures.changes c.types_known.ensures.kept old new is
