use Rattle.std.proofs.Common.{arith}
use Rattle.web_http.proofs.HeadLemmas.{undecided, bad, found}
use Rattle.web_http.proofs.heads.head_of.Goals as goal

pub returns-then-end-eq0-clause-finds : goal.returns-then-end-eq0-clause-finds
returns-then-end-eq0-clause-finds c = c.unfinished.ensures.finds c.args.headers.now

pub returns-then-end-eq0-clause-within : goal.returns-then-end-eq0-clause-within
returns-then-end-eq0-clause-within c = c.unfinished.ensures.within c.args.headers.now

pub unfinished-requires-in-Ok-Partial : goal.unfinished-requires-in-Ok-Partial
unfinished-requires-in-Ok-Partial c =
    let e = rw c.in-Ok-Partial.field-0-is at c.in-Ok-Partial.ensures in
    undecided _ _ (omega arith) c.last_line-end.ensures e.partial e.unfinished

pub returns-in-Ok-Complete-clause-finds : goal.returns-in-Ok-Complete-clause-finds
returns-in-Ok-Complete-clause-finds c =
    let e = rw c.in-Ok-Complete.field-0-is at c.in-Ok-Complete.ensures in
    found _ _ _ _ (omega arith) c.last_line-end.ensures e.within e.complete

pub returns-in-Ok-Partial-clause-finds : goal.returns-in-Ok-Partial-clause-finds
returns-in-Ok-Partial-clause-finds c = c.unfinished-in-Ok-Partial.ensures.finds c.parse_request.new.headers

pub returns-in-Ok-Partial-clause-within : goal.returns-in-Ok-Partial-clause-within
returns-in-Ok-Partial-clause-within c = c.unfinished-in-Ok-Partial.ensures.within c.parse_request.new.headers

pub returns-in-Err-clause-finds : goal.returns-in-Err-clause-finds
returns-in-Err-clause-finds c =
    let e = c.in-Err.ensures in
    bad _ _ _ _ c.requires (omega arith) c.last_line-end.ensures e.invalid e.too_many
