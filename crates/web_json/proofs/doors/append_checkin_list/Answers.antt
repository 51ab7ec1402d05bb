use Rattle.std.proofs.Common.{ap, codes}
use Rattle.serde_json.specs.Data.{Members, member, no_members}
use Rattle.serde_json.specs.Written.{compact_text}
use Rattle.web_json.specs.Values.{count, counts}
use Rattle.web_json.specs.DoorRows.{checkin_list_members, list_name}
use Rattle.web_json.proofs.PieceLemmas.{begun, list_of, with_member, with_members, ended}
use Rattle.web_json.proofs.doors.append_checkin_list.Goals as goal

pub returns : goal.returns
returns c =
    let door = c.args.list.now in
    let items = counts door.limit_products in
    let members : Members = checkin_list_members door no_members in
    let with_items : Members = checkin_list_members door (member (codes "limit_products") items no_members) in
    let name : Members = list_name door in
    let whole : Members = checkin_list_members door (member (codes "limit_products") items name) in
    ended c.append_text.result _ _ _ whole
    (with_members _ _ _ _ with_items name tt tt (ap compact_text c.in_ok-name.ensures)
    (with_member _ _ _ (codes "limit_products") items members tt
    (begun _ _ _ members (ap compact_text c.in_ok-value.ensures) c.in_ok-append_opened.ensures)
    (list_of count _ _ (codes "limit_products") _ _ c.as_slice-items.ensures c.in_ok-append_list_member.ensures))
    c.in_ok-append_members.ensures)
    c.append_text.ensures
