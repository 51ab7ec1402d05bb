use Rattle.std.proofs.Common.{ap, ◌∙◌, ◌++◌, codes}
use Rattle.std.proofs.lemmas.Result.{IfOk-weaker}
use Rattle.std.specs.Fmt.{decimal}
use Rattle.web_responses.specs.Pages.{page_path}
use Rattle.web_responses.proofs.Paths.{pieces_grouped}
use Rattle.web_responses.proofs.pages.page_path.Goals as goal

pub returns : goal.returns
unfolding page_path
returns c =
    let front = codes "/api/v1/organizers/" ++ c.args.organizer.now ++ codes "/events/" ++ c.args.event.now in
    IfOk-weaker c.format.result _ _ (λ s h. h ∙ pieces_grouped (codes "/api/v1/organizers/") c.args.organizer.now (codes "/events/") c.args.event.now _ (codes "?page=") (decimal c.args.number)
    ∙ ap (λ path. front ++ path ++ codes "?page=" ++ decimal c.args.number) c.in_ok-path.ensures) c.format.ensures.ok
