use Rattle.std.proofs.Common.{map, IsTrue}
use Rattle.file_rebuild.proofs.Joined.{sorted_members, members_whole}
use Rattle.file_rebuild.proofs.members.members_in.Goals as goal

pub returns-clause-each : goal.returns-clause-each
returns-clause-each g c = sorted_members (λ v. v.items) c.in_ok-told.told.items c.in_ok-each.each.items c.args.ids.now (map g.L.Linking.link c.args.links.now) c.in_ok-each.ensures c.in_ok-told.ensures

pub returns-clause-whole : goal.returns-clause-whole
returns-clause-whole g c =
    let each = sorted_members (λ v. v.items) c.in_ok-told.told.items c.in_ok-each.each.items c.args.ids.now (map g.L.Linking.link c.args.links.now) c.in_ok-each.ensures c.in_ok-told.ensures in
    members_whole g.L.Linking.link c.args.links.now c.args.ids.now c.in_ok-each.each.items c.as_slice.result.now (IsTrue c.are_so_many-whole.result) c.requires each c.as_slice.ensures.value c.are_so_many-whole.ensures
