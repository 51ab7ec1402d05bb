use Rattle.std.proofs.Common.{◌≡◌, ◌<◌, [], ◌∷◌, ◌++◌, length, get_or, map, sym, ap, subst, ◌∙◌, arith}
use Rattle.std.proofs.lemmas.List.{map-set, get_or-map}
use Rattle.base_tables.specs.Tables.{IsPlace, IsGap}
use Rattle.file_rebuild.proofs.Telling.{place_told, gap_same}
use Rattle.file_rebuild.proofs.members.tell.Goals as goal

pub returns-in_ok-push-in-Ok-clause-told : goal.returns-in_ok-push-in-Ok-clause-told
returns-in_ok-push-in-Ok-clause-told g c = λ before is.
    let l = g.L.Linking.link c.args.link.now in
    let ids = c.args.ids.now in
    let at = c.in-Ok.at in
    let old = c.index_mut.result.now in
    let place : IsPlace (λ n. n) ids l.owner at = subst (λ o. IsPlace (λ n. n) ids o at) c.owner.ensures c.in-Ok.ensures.found in
    let within : at < length c.args.all.now.items = omega (arith, place.in_range, c.requires.length) in
    let here : old.items ≡ get_or (map (λ v. v.items) c.args.all.now.items) at old.items = ap (λ v. v.items) c.index_mut.ensures.value ∙ sym (get_or-map (λ v. v.items) c.args.all.now.items at old old.items within) in
    let more : c.push.new.self.items ≡ old.items ++ l.member ∷ [] = c.in_ok-push-in-Ok.ensures.items ∙ ap (λ m. old.items ++ m ∷ []) c.member.ensures in
    map-set (λ v. v.items) c.args.all.now.items at c.push.new.self ∙ place_told ids at before l (map (λ v. v.items) c.args.all.now.items) old.items c.push.new.self.items c.requires.order place is here more

pub returns-in-Err-clause-told : goal.returns-in-Err-clause-told
returns-in-Err-clause-told g c = λ before is.
    let l = g.L.Linking.link c.args.link.now in
    is ∙ gap_same c.args.ids.now c.in-Err._at before l (subst (λ o. IsGap (λ n. n) c.args.ids.now o c.in-Err._at) c.owner.ensures c.in-Err.ensures.absent)
