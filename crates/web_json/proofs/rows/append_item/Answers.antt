use Rattle.std.proofs.Common.{ap, map, codes}
use Rattle.serde_json.specs.Data.{member, no_members}
use Rattle.serde_json.specs.Written.{compact_text}
use Rattle.web_json.specs.Values.{list}
use Rattle.web_json.specs.Rows.{item_members, variation_body}
use Rattle.web_json.proofs.PieceLemmas.{begun, with_member, ended}
use Rattle.web_json.proofs.rows.append_item.Goals as goal

pub returns : goal.returns
returns c =
    let item = c.args.item.now in
    let members = item_members item no_members in
    let variations = list (map (variation_body item.default_price) c.args.variations.now) in
    ended c.append_text.result _ _ _ (item_members item (member (codes "variations") variations no_members))
    (with_member _ _ _ (codes "variations") variations members tt
    (begun _ _ _ members (ap compact_text c.in_ok-value.ensures) c.in_ok-append_opened.ensures)
    c.in_ok-append_list_member.ensures)
    c.append_text.ensures
