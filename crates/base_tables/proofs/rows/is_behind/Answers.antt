use Rattle.std.proofs.Common.{◌≡◌, ◌∙◌, ◌<◌, ◌-◌, length, get_or, ap, sym, subst}
use Rattle.std.proofs.lemmas.Bool.{ltb-true}
use Rattle.std.proofs.lemmas.Option.{get_or_from_slice_get}
use Rattle.base_tables.proofs.Places.{behind_last}
use Rattle.base_tables.proofs.rows.is_behind.Goals as goal

pub returns-in-Some : goal.returns-in-Some
returns-in-Some g c smaller =
    let there : (d : g.row.T.Denot) → get_or c.args.rows.now (length c.args.rows.now - 1) d ≡ c.in-Some.last.now = λ d. get_or_from_slice_get c.args.rows.now (length c.args.rows.now - 1) c.in-Some.last.now d (sym c.in-Some.ensures.value) in
    behind_last g.T.Row.key c.args.rows.now c.args.id c.requires (λ d. subst (λ n. n < c.args.id) (c.id.ensures ∙ sym (ap g.T.Row.key (there d))) (ltb-true _ _ smaller))
