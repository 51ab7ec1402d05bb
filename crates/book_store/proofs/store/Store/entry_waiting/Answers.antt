use Rattle.std.proofs.Common.{sym, ◌∙◌, arith}
use Rattle.model_rows.specs.declared.rows.Waiting.{Waiting}
use Rattle.model_rows.specs.Conditions.{names}
use Rattle.book_indexes.specs.Keys.{waiting_keys}
use Rattle.model_rows.specs.Waits.{waits_as}
use Rattle.book_store.proofs.Waits.{found_waiting}
use Rattle.book_store.proofs.Listed.{this_first, later_first, none_first}
use Rattle.book_store.proofs.store.Store.entry_waiting.Goals as goal

pub returns-then-is_some : goal.returns-then-is_some
returns-then-is_some c =
    c.waiting_at-found.ensures.found
    ∙ this_first (λ r. r.id) c.args.self.now.state.lists.waiting (λ (r : Waiting). names c.digest.result (waiting_keys r).text) (λ (r : Waiting). waits_as c.args.email.now c.args.product r)
    c.with_text-ids.result c.loop-place.place c.recall_invariant.ensures.waiting.in_order (rw c.waiting.ensures at c.with_text-ids.ensures.all)
    (λ r. found_waiting c.digest.result r c.args.email.now c.args.product c.digest.ensures) c.at.result c.loop-place.invariant (omega (arith, c.len-place-end.ensures, c.loop-place-test.true))
    c.at.ensures (sym c.waiting_at-found.ensures.some ∙ sym c.is_some.ensures ∙ c.if-is_some.true)

pub loop-place-preserved : goal.loop-place-preserved
loop-place-preserved c =
    later_first (λ r. r.id) c.args.self.now.state.lists.waiting (λ (r : Waiting). names c.digest.result (waiting_keys r).text) (λ (r : Waiting). waits_as c.args.email.now c.args.product r)
    c.with_text-ids.result c.loop-place.place c.at.result c.loop-place.invariant (omega (arith, c.len-place-end.ensures, c.loop-place-test.true)) c.at.ensures
    (sym c.waiting_at-found.ensures.some ∙ sym c.is_some.ensures ∙ c.if-is_some.false)

pub returns : goal.returns
returns c =
    none_first (λ r. r.id) c.args.self.now.state.lists.waiting (λ (r : Waiting). names c.digest.result (waiting_keys r).text) (λ (r : Waiting). waits_as c.args.email.now c.args.product r)
    c.with_text-ids.result c.loop-place.place c.recall_invariant.ensures.waiting.in_order (rw c.waiting.ensures at c.with_text-ids.ensures.all)
    (λ r. found_waiting c.digest.result r c.args.email.now c.args.product c.digest.ensures) c.loop-place.invariant (omega (arith, c.len-place-end.ensures, c.loop-place-test.false))
