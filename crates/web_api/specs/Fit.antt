-- What holds of every call that is a value, by the types of what it holds.
use Rattle.model_commands.specs.Fit.{IsFit}
use Rattle.web_api.specs.declared.call.Call.{Call}
use Rattle.web_api.specs.declared.call.Call.TheVariants as calls

-- the command that it is, if it is one, is fit
abbrev pub IsFitCall : Call → Type 0
IsFitCall (calls.Write command) = IsFit command
IsFitCall (calls.Unauthorized response) = Unit {0}
IsFitCall (calls.Read query) = Unit {0}
IsFitCall (calls.ReadRefused response) = Unit {0}
IsFitCall (calls.WriteRefused response) = Unit {0}
