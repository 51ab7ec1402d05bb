use Rattle.std.proofs.Common.{ap, ◌∙◌, map, codes}
use Rattle.serde_json.specs.Data.{Members, member, no_members}
use Rattle.serde_json.specs.Written.{compact_text, has_float}
use Rattle.web_json.specs.Values.{list}
use Rattle.web_json.specs.OrderRows.{position_body, order_members, last_members}
use Rattle.web_json.proofs.Floats.{order_no_float}
use Rattle.web_json.proofs.PieceLemmas.{begun, with_member, with_members, ended}
use Rattle.web_json.proofs.orders.append_order.Goals as goal

pub append_opened-requires : goal.append_opened-requires
append_opened-requires c = ap has_float c.in_ok-value.ensures ∙ order_no_float c.args.order.now

pub returns : goal.returns
returns c =
    let order = c.args.order.now in
    let positions = list (map position_body c.args.positions.now) in
    let members : Members = order_members order no_members in
    let with_positions : Members = order_members order (member (codes "positions") positions no_members) in
    let last : Members = last_members order c.args.positions.now in
    let whole : Members = order_members order (member (codes "positions") positions last) in
    ended c.append_text.result _ _ _ whole
    (with_members _ _ _ _ with_positions last tt tt (ap compact_text c.in_ok-last.ensures)
    (with_member _ _ _ (codes "positions") positions members tt
    (begun _ _ _ members (ap compact_text c.in_ok-value.ensures) c.in_ok-append_opened.ensures)
    c.in_ok-append_list_member.ensures)
    c.in_ok-append_members.ensures)
    c.append_text.ensures
