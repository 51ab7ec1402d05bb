use Rattle.std.proofs.Common.{◌≡◌, true, refl}
use Rattle.web_http.specs.Text.{fault_status}
use Rattle.web_http.specs.declared.fault.FrameFault.{FrameFault}
use Rattle.web_http.specs.declared.fault.FrameFault.TheVariants.{BadHead, BodyTooLarge, HeadTooLarge, UnknownCoding}
use Rattle.web_responses.specs.Statuses.{is_given}
use Rattle.web_api.proofs.StatusLemmas.{call_given, text_given}
use Rattle.web_api.proofs.laws.statuses_are_few.Goals as goal

pub returns-clause-calls : goal.returns-clause-calls
returns-clause-calls c = call_given

pub returns-clause-faults : goal.returns-clause-faults
returns-clause-faults c = fault_given
  where
    fault_given : (fault : FrameFault) → is_given (fault_status fault) ≡ true
    fault_given BadHead = refl
    fault_given BodyTooLarge = refl
    fault_given HeadTooLarge = refl
    fault_given UnknownCoding = refl

pub returns-clause-texts : goal.returns-clause-texts
returns-clause-texts c = text_given
