use Rattle.std.proofs.Common.{rules, arith}
use Rattle.std.proofs.lemmas.Grind.{common_steps}
use Rattle.web_http.specs.Messages.{same_word}
use Rattle.web_http.proofs.fields.same_word.Goals as goal

pub returns-then-a-b : goal.returns-then-a-b
unfolding same_word
returns-then-a-b c = first_of (search rules, grind (arith, common_steps))

pub loop-i-preserved : goal.loop-i-preserved
unfolding same_word
loop-i-preserved c = first_of (search rules, grind (arith, common_steps))

pub returns : goal.returns
unfolding same_word
returns c = first_of (search rules, grind (arith, common_steps))
