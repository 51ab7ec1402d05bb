use Rattle.std.proofs.Common.{◌≡◌, ◌&&◌, drop}
use Rattle.web_http.specs.Messages.{same_word}
use Rattle.web_http.proofs.fields.same_word.Given as goal

abbrev pub invariant-loop-i : goal.invariant-loop-i
invariant-loop-i l = (l.same && same_word (drop l.i l.a) (drop l.i l.b)) ≡ same_word l.a l.b
