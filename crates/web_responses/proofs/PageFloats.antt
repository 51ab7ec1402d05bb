-- The members of pages have no float.
use Rattle.std.proofs.Common.{◌≡◌, ℕ, Bool, true, false, List, if◌then◌else◌, refl}
use Rattle.serde_json.specs.Data.{string, null, object, no_members}
use Rattle.serde_json.specs.Written.{has_float}
use Rattle.model_commands.specs.declared.replies.Page.{Page}
use Rattle.web_responses.specs.Pages.{next_path, previous_path, page_members}

text_no_float : (b : Bool) (text : List ℕ) → has_float (if b then string text else null) ≡ false
text_no_float true text = refl
text_no_float false text = refl

next_no_float : (organizer event : List ℕ) (page : Page) → has_float (next_path organizer event page) ≡ false
next_no_float organizer event page = text_no_float _ _

previous_no_float : (organizer event : List ℕ) (page : Page) → has_float (previous_path organizer event page) ≡ false
previous_no_float organizer event page = text_no_float _ _

pub page_no_float : (organizer event : List ℕ) (page : Page) → has_float (object (page_members organizer event page no_members)) ≡ false
page_no_float organizer event page = rw (next_no_float organizer event page, previous_no_float organizer event page) refl
