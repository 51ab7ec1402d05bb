use Rattle.web_cli.proofs.LineLaws.{adds_token, makes_shop, makes_turned, no_organizer, no_token}
use Rattle.web_cli.proofs.laws.files_and_tokens_are_known_by_their_places.Goals as goal

pub returns-clause-made : goal.returns-clause-made
returns-clause-made c = λ program organizer event. (makes_shop program organizer event, makes_turned program organizer event)

pub returns-clause-added : goal.returns-clause-added
returns-clause-added c = adds_token

pub returns-clause-lacking : goal.returns-clause-lacking
returns-clause-lacking c = λ program text. (no_organizer program text, no_token program)
