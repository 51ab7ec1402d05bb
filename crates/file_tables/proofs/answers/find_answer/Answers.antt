use Rattle.std.proofs.Common.{◌≡◌, rules, arith, [], ◌∷◌, length, true, false}
use Rattle.std.proofs.lemmas.Bool.Decides.{nat_tests}
use Rattle.model_answers.specs.KeptAnswers.{is_for}
use Rattle.file_tables.proofs.Asked.{single, told_none, told_one}
use Rattle.file_tables.proofs.answers.find_answer.Goals as goal

pub returns-in_default-clause-found : goal.returns-in_default-clause-found
returns-in_default-clause-found g c clean ks keeps =
    let none : c.in_ok-rows.rows.items ≡ [] = search rules in
    told_none c.args.token c.args.key.now c.args.at keeps.tables.kept c.in_ok-rows.rows.items ks keeps.kept (c.in_ok-rows.ensures.found clean keeps.known keeps.tables keeps.held) none

pub returns-then-not-is_for-clause-found : goal.returns-then-not-is_for-clause-found
returns-then-not-is_for-clause-found g c clean ks keeps =
    let row = c.in-Some.row in
    let zero : length c.pop.new.self.items ≡ 0 = grind (arith, nat_tests, c.is_empty.ensures, c.if-not-is_empty.false) in
    let one : c.in_ok-rows.rows.items ≡ row ∷ [] = single c.pop.new.self.items c.in_ok-rows.rows.items row c.in-Some.ensures.items zero in
    let past : is_for c.args.token c.args.key.now c.args.at row.kept ≡ false = search rules in
    told_one c.args.token c.args.key.now c.args.at keeps.tables.kept c.in_ok-rows.rows.items ks keeps.kept (c.in_ok-rows.ensures.found clean keeps.known keeps.tables keeps.held) row false one past

pub returns-clause-found : goal.returns-clause-found
returns-clause-found g c clean ks keeps =
    let row = c.in-Some.row in
    let zero : length c.pop.new.self.items ≡ 0 = grind (arith, nat_tests, c.is_empty.ensures, c.if-not-is_empty.false) in
    let one : c.in_ok-rows.rows.items ≡ row ∷ [] = single c.pop.new.self.items c.in_ok-rows.rows.items row c.in-Some.ensures.items zero in
    let stays : is_for c.args.token c.args.key.now c.args.at row.kept ≡ true = search rules in
    told_one c.args.token c.args.key.now c.args.at keeps.tables.kept c.in_ok-rows.rows.items ks keeps.kept (c.in_ok-rows.ensures.found clean keeps.known keeps.tables keeps.held) row true one stays
