use Rattle.std.proofs.Common.{ap, ◌∙◌, codes}
use Rattle.serde_json.specs.Data.{Members, member, no_members}
use Rattle.serde_json.specs.Written.{compact_text, has_float}
use Rattle.web_json.specs.Values.{count, counts}
use Rattle.web_json.specs.Rows.{quota_members}
use Rattle.web_json.proofs.Floats.{size_no_float}
use Rattle.web_json.proofs.PieceLemmas.{begun, list_of, with_member, with_members, ended}
use Rattle.web_json.proofs.rows.append_quota.Goals as goal

pub append_members-requires : goal.append_members-requires
append_members-requires c = ap has_float c.in_ok-value.ensures ∙ size_no_float c.args.quota.now

pub returns : goal.returns
returns c =
    let quota = c.args.quota.now in
    let items = counts quota.items in
    let variations = counts quota.variations in
    let id : Members = member (codes "id") (count quota.id) no_members in
    let with_items : Members = member (codes "id") (count quota.id) (member (codes "items") items no_members) in
    let named : Members = quota_members quota no_members in
    let with_named : Members = member (codes "id") (count quota.id) (member (codes "items") items named) in
    let whole : Members = member (codes "id") (count quota.id) (member (codes "items") items (quota_members quota (member (codes "variations") variations no_members))) in
    ended c.append_text.result _ _ _ whole
    (with_member _ _ _ (codes "variations") variations with_named tt
    (with_members _ _ _ _ with_items named tt tt (ap compact_text c.in_ok-value.ensures)
    (with_member _ _ _ (codes "items") items id tt
    (begun _ _ _ id (ap compact_text c.in_ok-id.ensures) c.in_ok-append_opened.ensures)
    (list_of count _ _ (codes "items") _ _ c.as_slice-items.ensures c.in_ok-append_list_member.ensures))
    c.in_ok-append_members.ensures)
    (list_of count _ _ (codes "variations") _ _ c.as_slice-variations.ensures c.in_ok-append_list_member-2.ensures))
    c.append_text.ensures
