use Rattle.std.proofs.Common.{◌≡◌}
use Rattle.form_urlencoded.specs.Form.{raw_pairs}
use Rattle.form_urlencoded.specs.Parse.{raw_pairs_left}
use Rattle.web_api.specs.Page.{page_in}
use Rattle.web_api.proofs.page.page_in.Given as goal

abbrev pub invariant-loop-name : goal.invariant-loop-name
invariant-loop-name l = page_in (raw_pairs_left l.name-iterator) ≡ page_in (raw_pairs l.query)
