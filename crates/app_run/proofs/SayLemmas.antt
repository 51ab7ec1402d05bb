-- What the commands on a shop's file come to, where their values could be read.
use Rattle.std.proofs.Common.{◌≡◌, ℕ, Bool, true, false, List, Result}
use Rattle.std.proofs.lemmas.Bool.{false≢true}
use Rattle.web_http.specs.Written.{Page}
use Rattle.web_cli.specs.declared.fault.RunFault.{RunFault}
use Rattle.web_cli.specs.Saying.{Adding, AddsWhere, Making, MakesWhere, Tells, ready_line, token_line}

pub makes_there : (made : Making) (well : Bool) (file organizer event : List ℕ) (old new : Page) (came result : Result (Unit {0}) RunFault) → well ≡ true
    → made file organizer event came → Tells ready_line came old new result → MakesWhere well made file organizer event old new result
makes_there made true file organizer event old new came result h happened told = (came, happened, told)
makes_there made false file organizer event old new came result h happened told = absurd (false≢true h)

pub adds_there : (added : Adding) (well : Bool) (file token : List ℕ) (old new : Page) (came : Result ℕ RunFault) (result : Result (Unit {0}) RunFault) → well ≡ true
    → added file token came → Tells token_line came old new result → AddsWhere well added file token old new result
adds_there added true file token old new came result h happened told = (came, happened, told)
adds_there added false file token old new came result h happened told = absurd (false≢true h)
