use Rattle.std.proofs.Common.{◌≡◌, rules, arith, [], ◌∷◌, length}
use Rattle.std.proofs.lemmas.Bool.Decides.{nat_tests}
use Rattle.file_tables.proofs.Asked.{single, number_none, number_one}
use Rattle.file_tables.proofs.tokens.find_number.Goals as goal

pub returns-in_default-clause-found : goal.returns-in_default-clause-found
returns-in_default-clause-found g c clean tokens knows =
    let none : c.in_ok-rows.rows.items ≡ [] = search rules in
    let digest = c.args.digest.now in
    number_none tokens digest knows.tables.tokens c.in_ok-rows.rows.items (knows.told digest) (c.in_ok-rows.ensures.found clean knows.known knows.tables knows.held) none

pub returns-clause-found : goal.returns-clause-found
returns-clause-found g c clean tokens knows =
    let token = c.in-Some.token in
    let digest = c.args.digest.now in
    let zero : length c.pop.new.self.items ≡ 0 = grind (arith, nat_tests, c.is_empty.ensures, c.if-not-is_empty.false) in
    let one : c.in_ok-rows.rows.items ≡ token ∷ [] = single c.pop.new.self.items c.in_ok-rows.rows.items token c.in-Some.ensures.items zero in
    number_one tokens digest knows.tables.tokens c.in_ok-rows.rows.items (knows.told digest) (c.in_ok-rows.ensures.found clean knows.known knows.tables knows.held) token one
