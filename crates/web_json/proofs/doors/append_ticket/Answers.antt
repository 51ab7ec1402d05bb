use Rattle.std.proofs.Common.{ap, ◌∙◌, map, codes}
use Rattle.serde_json.specs.Data.{Members, member, no_members}
use Rattle.serde_json.specs.Written.{compact_text, has_float}
use Rattle.web_json.specs.Values.{list}
use Rattle.web_json.specs.OrderRows.{position_members}
use Rattle.web_json.specs.DoorRows.{checkin_body}
use Rattle.web_json.proofs.Floats.{position_no_float}
use Rattle.web_json.proofs.PieceLemmas.{begun_with, with_members, ended}
use Rattle.web_json.proofs.doors.append_ticket.Goals as goal

pub append_members-requires : goal.append_members-requires
append_members-requires c = ap has_float c.in_ok-value.ensures ∙ position_no_float c.args.position.now

pub returns : goal.returns
returns c =
    let checkins = list (map checkin_body c.args.checkins.now) in
    let first : Members = member (codes "checkins") checkins no_members in
    let position : Members = position_members c.args.position.now in
    let whole : Members = member (codes "checkins") checkins position in
    ended c.append_text-2.result _ _ _ whole
    (with_members _ _ _ _ first position tt tt (ap compact_text c.in_ok-value.ensures)
    (begun_with _ _ _ (codes "checkins") checkins c.in_ok-append_text.ensures c.in_ok-append_key_and_list.ensures)
    c.in_ok-append_members.ensures)
    c.append_text-2.ensures
