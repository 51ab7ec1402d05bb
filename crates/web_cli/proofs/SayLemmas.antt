-- What is said of an address that is listened at.
use Rattle.std.proofs.Common.{◌≡◌, ◌++◌, ◌∷◌, [], ℕ, List, Result, OnErr, inl, ap, codes}
use Rattle.base_devices.specs.declared.device.Refused.{Refused}
use Rattle.web_http.specs.Written.{Page, Writes}
use Rattle.web_http.proofs.WriteLemmas.{writes_as}
use Rattle.web_cli.specs.declared.fault.RunFault.{RunFault}
use Rattle.web_cli.specs.Saying.{TellsListening, end_said}

pub says_listening : (listen bytes : List ℕ) (old new : Page) (written : Result (Unit {0}) Refused) (result : Result (Unit {0}) RunFault) → bytes ≡ listen
    → Writes written (codes "listening on " ++ (bytes ++ 10 ∷ [])) old new → OnErr written (result ≡ end_said written) → TellsListening listen old new result
says_listening listen bytes old new written result is writes ends =
    inl (written, writes_as written old new _ _ (ap (λ (t : List ℕ). codes "listening on " ++ (t ++ 10 ∷ [])) is) writes, ends)
