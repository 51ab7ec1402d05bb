use Rattle.std.proofs.Common.{◌<◌, [], ◌∷◌, ◌++◌, length, take, sym, ap, ◌∙◌, arith}
use Rattle.std.proofs.lemmas.List.{take_more}
use Rattle.base_index.proofs.found.Found.to_vec.Goals as goal

pub loop-place-preserved : goal.loop-place-preserved
loop-place-preserved c =
    let all = c.args.self.now in
    let place = c.loop-place.place in
    let lt : place < length all = omega arith in
    c.in_ok-push.ensures.items ∙ ap (λ l. l ++ c.at.result ∷ []) c.loop-place.invariant ∙ ap (λ x. take place all ++ x ∷ []) (sym (c.at.ensures 0)) ∙ sym (take_more all place 0 lt)
