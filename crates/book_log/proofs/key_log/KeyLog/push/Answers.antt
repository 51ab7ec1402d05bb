use Rattle.std.proofs.Common.{◌≡◌, [], ◌∷◌, ◌++◌, List, ℕ, length, refl, ap, ◌∙◌, arith}
use Rattle.book_log.specs.Places.{place_in}
use Rattle.book_log.proofs.KeyIndexes.{key_pushed}
use Rattle.book_log.proofs.key_log.KeyLog.push.Goals as goal

pub invariant_of-self-2 : goal.invariant_of-self-2
invariant_of-self-2 c =
    let old = c.self.inside in
    let place_is : c.len-place.result ≡ length old.keys.items = omega (arith, c.len-place.ensures) in
    let more_is = c.in_ok-push.ensures.items ∙ ap (λ (l : List ℕ). l ++ c.args.key ∷ []) c.reserve.ensures.items in
    key_pushed old.keys.items old.last old.before.items c.args.key c.len-place.result (place_in c.args.key old.last) c.note.new.touched c.push.new.self.items c.note.new.before.items c.self.invariant place_is refl c.in_ok-note.ensures.last more_is c.in_ok-note.ensures.earlier
