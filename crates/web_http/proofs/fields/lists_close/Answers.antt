use Rattle.std.proofs.Common.{rules, tests, codes, eqb}
use Rattle.std.proofs.lemmas.Iterator.Splits.{YieldsList-from_slice_split}
use Rattle.std.proofs.lemmas.Iterator.Search.{any_from_yields_List}
use Rattle.httparse.specs.Grammar.{trim_ows}
use Rattle.web_http.specs.Messages.{same_word}
use Rattle.web_http.proofs.fields.lists_close.Goals as goal

pub returns : goal.returns
returns c =
    any_from_yields_List (λ w. same_word (trim_ows w) (codes "close")) _ _ _ c.any.ensures.ran
    (YieldsList-from_slice_split _ (λ b. eqb b 44) c.args.value.now c.split.ensures.rest c.split.ensures.done c.split.ensures.closure (λ x b q k. search (rules, tests)))
    (λ x b q k. search (rules, tests))
