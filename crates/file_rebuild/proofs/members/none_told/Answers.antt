use Rattle.std.proofs.Common.{ℕ, List, [], ◌∷◌, ◌++◌, map, sym, ap, ap₂, ◌∙◌, arith}
use Rattle.std.proofs.lemmas.List.{map-append, map_more}
use Rattle.file_rebuild.specs.Members.{members_told}
use Rattle.file_rebuild.proofs.members.none_told.Goals as goal

pub loop-id-preserved : goal.loop-id-preserved
loop-id-preserved c =
    ap (map (λ v. v.items)) c.in_ok-push.ensures.items ∙ map-append (λ v. v.items) c.loop-id.all.items (c.new.result ∷ [])
    ∙ ap₂ (λ (a : List (List ℕ)) (b : List ℕ). a ++ b ∷ []) c.loop-id.invariant c.new.ensures.items ∙ sym (map_more (λ id. members_told id []) c.args.ids.now c.loop-id._id-index 0 (omega (arith, c.loop-id-test.true)))
