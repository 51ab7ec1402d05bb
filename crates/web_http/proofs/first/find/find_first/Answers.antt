use Rattle.std.proofs.Common.{◌+◌, ◌≤◌, length, ap, ◌∙◌, arith, length-take-le}
use Rattle.web_http.specs.Messages.{check_fields}
use Rattle.web_http.proofs.FirstLemmas.{quiet, takes, fields_same}
use Rattle.web_http.proofs.first.find.find_first.Goals as goal

pub returns-then-length-bytes : goal.returns-then-length-bytes
returns-then-length-bytes c =
    let found = c.in-Whole.ensures.finds in
    let fits = c.in-Ok.ensures ∙ ap check_fields (fields_same _ _ _ found.0 found.2) in
    let inside = c.in-Whole.ensures.within.1.section.len_fits in
    let cut = length-take-le c.in-Whole.end c.args.bytes.now c.in-Whole.ensures.within.0 in
    let lines = c.in-Whole.ensures.within.0 in
    let here : c.in-Whole.head.len ≤ length c.args.bytes.now = omega arith in
    let test = c.if-length-bytes.true in
    (omega arith, quiet _ found.0 c.in-Whole.head.len c.in-Ok.length here found.1 fits)

pub returns-else-length-bytes : goal.returns-else-length-bytes
returns-else-length-bytes c =
    let found = c.in-Whole.ensures.finds in
    let within = c.in-Whole.ensures.within in
    let fits = c.in-Ok.ensures ∙ ap check_fields (fields_same _ _ _ found.0 found.2) in
    let cut = length-take-le c.in-Whole.end c.args.bytes.now within.0 in
    let inside = within.1.section.len_fits in
    let here = c.if-length-bytes.false in
    let room : c.in-Whole.head.len + c.in-Ok.length ≤ length c.args.bytes.now = omega arith in (
      record { lines = within.0; head = within.1; body = room },
      takes _ c.in-Whole.end _ c.in-Whole.head found.0 c.in-Ok.length found.1 found.2 fits room,
    )
