use Rattle.std.proofs.Common.{ap, ◌∙◌, map, codes}
use Rattle.serde_json.specs.Data.{Members, member, no_members}
use Rattle.serde_json.specs.Written.{compact_text, has_float}
use Rattle.web_json.specs.Values.{list}
use Rattle.web_json.specs.Rows.{shown_body}
use Rattle.web_responses.specs.Pages.{page_members}
use Rattle.web_responses.proofs.PageFloats.{page_no_float}
use Rattle.web_json.proofs.PieceLemmas.{begun, list_of, with_member, ended}
use Rattle.web_responses.proofs.pages.append_page.Goals as goal

pub append_opened-requires : goal.append_opened-requires
append_opened-requires c = ap has_float c.in_ok-value.ensures ∙ page_no_float c.args.organizer.now c.args.event.now c.args.page.now

pub returns : goal.returns
returns c =
    let page = c.args.page.now in
    let rows = list (map shown_body page.rows) in
    let members : Members = page_members c.args.organizer.now c.args.event.now page no_members in
    let whole : Members = page_members c.args.organizer.now c.args.event.now page (member (codes "results") rows no_members) in
    ended c.append_text.result _ _ _ whole
    (with_member _ _ _ (codes "results") rows members tt
    (begun _ _ _ members (ap compact_text c.in_ok-value.ensures) c.in_ok-append_opened.ensures)
    (list_of shown_body _ _ (codes "results") _ _ c.as_slice-rows.ensures c.in_ok-append_list_member.ensures))
    c.append_text.ensures
