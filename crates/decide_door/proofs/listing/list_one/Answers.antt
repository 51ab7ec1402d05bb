use Rattle.std.proofs.Common.{◌≡◌, ◌∷◌, [], ◌++◌, true, rules, sym, ap, ◌∙◌, arith}
use Rattle.decide_door.specs.Belongs.{belongs}
use Rattle.decide_door.specs.Status.{ticket_of, part}
use Rattle.decide_door.proofs.Part.{part_taken}
use Rattle.decide_door.proofs.listing.list_one.Goals as goal

pub returns-in_ok-push : goal.returns-in_ok-push
returns-in_ok-push g c = λ others.
    let list = c.args.list.now in
    let lists = (g.B.Book.state c.args.book.now).lists in
    let position = c.args.position.now in
    let rows = c.args.rows.now.items in
    let show = ticket_of list lists in
    let passes = belongs list lists in
    let none : c.args.skip ≡ 0 = omega arith in
    let passed : c.belongs.result ≡ true = search rules in
    let pushed : c.push.new.self.items ≡ rows ++ show position ∷ [] = c.in_ok-push.ensures.items ∙ ap (λ t. rows ++ t ∷ []) c.in_ok-ticket_of.ensures in
    ap (λ l. part show passes l 0 c.args.most others) pushed
    ∙ sym (part_taken show passes rows c.args.most position others (omega arith) (sym c.belongs.ensures ∙ passed))
    ∙ ap (λ n. part show passes rows n c.args.most (position ∷ others)) (sym none)
