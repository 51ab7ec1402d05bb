use Rattle.std.proofs.Common.{◌∙◌, map, ap}
use Rattle.std.proofs.lemmas.List.Sorted.{IsPermutation-map}
use Rattle.file_meaning.specs.Links.{are_just}
use Rattle.file_tables.proofs.MemberLemmas.{just_alike}
use Rattle.file_tables.proofs.writes.members.members_stand.Goals as goal

pub returns-clause-told : goal.returns-clause-told
returns-clause-told g c clean at t held =
    let rows = c.in_ok-rows.ensures.found clean at.known t held in
    c.are_just.ensures ∙ ap (are_just c.args.members.now) (c.in_ok-found.ensures ∙ ap (map g.T.Member.member_of) c.as_slice.ensures.value)
    ∙ just_alike c.args.members.now _ _ (IsPermutation-map g.T.Member.member_of _ _ rows)
