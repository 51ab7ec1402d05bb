use Rattle.std.proofs.Common.{◌≡◌, inl, Some, None, IsTrue, ◌∙◌, arith, rules}
use Rattle.sqlite_trees.specs.Tree.{Trees}
use Rattle.sqlite.specs.Held.{state}
use Rattle.sqlite.specs.State.{HasCleanDisk}
use Rattle.file_schema.specs.Tables.{schema}
use Rattle.file_schema.specs.Whole.{IsOver, IsStill}
use Rattle.model_answers.specs.House.{House}
use Rattle.file_tables.specs.Shops.{KnowsWhileOpen}
use Rattle.file_tables.proofs.ShopLemmas.{leaves_still, still_holds, still_knows, tells_tokens}
use Rattle.file_tables.proofs.Added.{still_over, still_shows, found_knows, found_leaves, same_number, same_head, same_tables, next_number, no_room, next_head, then_tables, then_knows, then_leaves_house, then_holds, then_settled, then_leaves}
use Rattle.file_tables.proofs.adding.add_token.Goals as goal

-- a digest that has a number
pub returns-in-Ok-Some : goal.returns-in-Ok-Some
returns-in-Ok-Some g c =
    let head = c.args.tables.now.head in
    let next = c.args.tables.now.next_row in
    let digest = c.args.digest.now in
    let number = c.in-Ok-Some.number in
    let old = state g.S.Store c.args.tables.now.connection in
    let new = state g.S.Store c.find_number.new.connection in
    let still = c.find_number.ensures.still in
    let known : HasCleanDisk new → (house : House) → KnowsWhileOpen head next old house → Some number ≡ house.tokens digest =
    λ clean house knows.
    let told = c.in-Ok-Some.ensures.found clean house.tokens (tells_tokens _ _ _ house (knows (c.in-Ok-Some.ensures.open clean))) in
    let a = c.in-Ok-Some.field-0-is in
    let b = c.in-Ok-Some.number-is in
    let d = c.in-Ok-Some.is in
    cc in
    record {
      number = λ clean house knows. same_number number head.next_token (house.tokens digest) (known clean house knows);
      was_open = search rules;
      full = search rules;
      full_open = search rules;
      head = λ clean house knows. same_head number head (house.tokens digest) (known clean house knows);
      head_none = search rules;
      next_row = search rules;
      tables = λ clean house knows is_open t held. same_tables number head digest new.now.trees t (house.tokens digest) (known clean house knows) (still_shows old new (still clean) is_open t held);
      knows = λ clean house knows. found_knows head next new digest number house (known clean house knows) (still_knows head next old new house (still clean) knows);
      leaves_house = λ clean house knows left. found_leaves head next old new digest number house (known clean house knows) (knows (c.in-Ok-Some.ensures.open clean)) clean c.find_number.ensures.crash left;
      none = search rules;
      holds = λ clean s ks holds. still_holds head next old new s ks (still clean) holds;
      crash = search rules;
      known_crash = search rules;
      leaves = λ left l. inl (leaves_still old new c.find_number.ensures.crash left l);
      settled = λ clean house knows none. absurd (let never : Some number ≡ None = known clean house knows ∙ none in cc);
    }

-- a new one
pub returns-in-Ok-None : goal.returns-in-Ok-None
returns-in-Ok-None g c =
    let tables = c.args.tables.now in
    let head = tables.head in
    let next = tables.next_row in
    let digest = c.args.digest.now in
    let later = c.add_next.new.tables in
    let added = c.add_next.ensures in
    let r = c.add_next.result in
    let old = state g.S.Store tables.connection in
    let mid = state g.S.Store c.find_number.new.connection in
    let new = state g.S.Store later.connection in
    let early : HasCleanDisk new → HasCleanDisk mid = λ clean. omega (arith, c.add_next.ensures.crash.clean) in
    let none : HasCleanDisk new → (house : House) → KnowsWhileOpen head next old house → None ≡ house.tokens digest =
    λ clean house knows.
    let told = c.in-Ok-None.ensures.found (early clean) house.tokens (tells_tokens _ _ _ house (knows (c.in-Ok-None.ensures.open (early clean)))) in
    let a = c.in-Ok-None.field-0-is in
    let b = c.in-Ok-None.is in
    cc in
    let still : HasCleanDisk new → IsStill old mid = λ clean. c.find_number.ensures.still (early clean) in
    let over : HasCleanDisk new → IsOver schema old → IsOver schema mid = λ clean was. still_over old mid (still clean) was in
    let settles : (db : Trees) → IsTrue new.is_open → new.may_leave db → db ≡ new.committed.trees = λ db is_open may. g.met.S.Store.settled later.connection.store db is_open may in
    record {
      number = λ clean house knows. next_number r head.next_token (house.tokens digest) (none clean house knows) added.number;
      was_open = search rules;
      full = λ clean house knows is. no_room head.next_token (house.tokens digest) (none clean house knows) (added.full is);
      full_open = search rules;
      head = λ clean house knows. next_head r head later.head (house.tokens digest) (none clean house knows) added.head;
      head_none = search rules;
      next_row = search rules;
      tables = λ clean house knows is_open. then_tables r head digest next old mid new (house.tokens digest) (none clean house knows) (still clean) (added.all clean (over clean (λ o. (knows o).known)));
      knows = λ clean house knows.
          then_knows r head digest next old mid new later.head later.next_row added.next_row house (still clean) knows added.number added.head (added.all clean (over clean (λ o. (knows o).known)));
      leaves_house = λ clean house knows left.
          then_leaves_house r head digest next old mid new settles later.head house (still clean) knows added.number added.head (added.all clean (over clean (λ o. (knows o).known)));
      none = search rules;
      holds = λ clean s ks holds.
          let on = over clean (λ o. (holds o).known) in
          then_holds r head digest next old mid new later.head later.next_row added.next_row s ks (still clean) holds added.digest added.number added.head added.head_none (added.all clean on) (added.none clean on);
      crash = search rules;
      known_crash = λ clean house knows number is. absurd (let never : None ≡ Some number = none clean house knows ∙ is in cc);
      leaves = then_leaves r head digest next old mid new added.digest added.full_crash c.find_number.ensures.crash c.find_number.ensures.still added.crash;
      settled = λ clean house knows none. then_settled r head digest next old mid new settles (added.all clean (over clean (λ o. (knows o).known)));
    }
