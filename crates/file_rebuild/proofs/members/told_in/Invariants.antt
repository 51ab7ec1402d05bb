use Rattle.std.proofs.Common.{◌≡◌, map, take}
use Rattle.file_rebuild.specs.Members.{members_told}
use Rattle.file_rebuild.proofs.members.told_in.Given as goal

abbrev pub invariant-loop-link : goal.invariant-loop-link
invariant-loop-link g l = map (λ v. v.items) l.all.items ≡ map (λ id. members_told id (map g.L.Linking.link (take l.link-index l.links))) l.ids
