use Rattle.std.proofs.Common.{◌≡◌, [], map, take}
use Rattle.file_rebuild.specs.Members.{members_told}
use Rattle.file_rebuild.proofs.members.none_told.Given as goal

abbrev pub invariant-loop-id : goal.invariant-loop-id
invariant-loop-id l = map (λ v. v.items) l.all.items ≡ map (λ id. members_told id []) (take l._id-index l.ids)
