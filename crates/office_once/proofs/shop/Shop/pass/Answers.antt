use Rattle.std.proofs.Common.{rules, ◌≡◌, ◌≤◌, [], ap, ◌∙◌, subst}
use Rattle.base_values.specs.Moments.{last_moment}
use Rattle.model_rows.specs.Change.{Changed}
use Rattle.model_invariant.specs.Sound.{IsSound}
use Rattle.office_once.proofs.ShopLemmas.{passed, passed-sound, passed-deltas}
use Rattle.office_once.proofs.shop.Shop.pass.Goals as goal

pub returns-clause-passed : goal.returns-clause-passed
returns-clause-passed g c =
    let list : c.plain.result.changes.list ≡ [] = ap (λ (x : Changed). x.list) c.plain.ensures.changes ∙ (c.new-2.ensures.list ∙ c.new.ensures.items) in
    let same : c.new-2.result.next ≡ c.args.self.now.state.next = search rules in
    let next : c.plain.result.changes.next ≡ c.args.self.now.state.next = ap (λ (x : Changed). x.next) c.plain.ensures.changes ∙ same in
    passed c.plain.result.changes c.args.at c.args.self.now.state list next

pub returns-clause-sound : goal.returns-clause-sound
returns-clause-sound g c =
    let list : c.plain.result.changes.list ≡ [] = ap (λ (x : Changed). x.list) c.plain.ensures.changes ∙ (c.new-2.ensures.list ∙ c.new.ensures.items) in
    let same : c.new-2.result.next ≡ c.args.self.now.state.next = search rules in
    let next : c.plain.result.changes.next ≡ c.args.self.now.state.next = ap (λ (x : Changed). x.next) c.plain.ensures.changes ∙ same in
    let sound : IsSound c.args.self.now.state = rw (← c.self.view_is) (subst IsSound c.book.ensures.state c.book.ensures.sound) in
    let last : c.args.at ≤ last_moment = search rules in
    passed-sound c.plain.result.changes c.args.at c.args.self.now.state list next c.requires last sound

pub returns-clause-deltas : goal.returns-clause-deltas
returns-clause-deltas g c =
    let list : c.plain.result.changes.list ≡ [] = ap (λ (x : Changed). x.list) c.plain.ensures.changes ∙ (c.new-2.ensures.list ∙ c.new.ensures.items) in
    passed-deltas c.args.self.now.state.lists c.args.at c.plain.result list c.plain.ensures.quotas c.plain.ensures.vouchers
