use Rattle.std.proofs.Common.{◌≡◌, ◌+◌, List, [], ◌∷◌, ◌++◌, map, take, sym, ap, ◌∙◌, arith}
use Rattle.std.proofs.lemmas.List.{map_more}
use Rattle.file_meaning.specs.Links.{Link}
use Rattle.file_rebuild.specs.Members.{members_told}
use Rattle.file_rebuild.proofs.members.told_in.Goals as goal

pub loop-link-preserved : goal.loop-link-preserved
loop-link-preserved g c =
    let link = g.L.Linking.link in
    let links = c.args.links.now in
    let at = c.loop-link.link-index in
    let step : map link (take (at + 1) links) ≡ map link (take at links) ++ link c.link-item.result ∷ [] =
    map_more link links at c.link-item.result (omega (arith, c.loop-link-test.true)) ∙ ap (λ x. map link (take at links) ++ link x ∷ []) (sym c.link-item.is) in
    c.in_ok-tell.ensures.told (map link (take at links)) c.loop-link.invariant ∙ ap (λ (before : List Link). map (λ id. members_told id before) c.args.ids.now) (sym step)
