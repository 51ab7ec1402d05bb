use Rattle.std.proofs.Common.{ap, sym, ◌∙◌, inl, inr}
use Rattle.sqlite.specs.Effect.{Database}
use Rattle.sqlite.specs.Held.{state}
use Rattle.file_open.proofs.Tokens.{known_as, token_out, token_in}
use Rattle.file_open.proofs.crashes.a_token_is_in_or_out.Goals as goal

pub returns : goal.returns
returns g c = λ digest house s ks opened holds knows crash found z o.
    let old = state g.S.Store c.args.old.now.connection in
    let head = c.args.old.now.head in
    let next = c.args.old.now.next_row in
    let db = (state g.S.Store c.args.fresh.now).now.trees in
    elim (crash.crash found.clean db found.may) [
      | inl may ↦ inl (known_as db _ _ _ z _ house (token_out head next old db house (g.met.S.Store.settled c.args.old.now.connection.store db opened may ∙ sym (ap (λ (d : Database). d.trees) (holds opened).settled)) (knows opened)) o).0
      | inr may ↦ inr (known_as db _ _ _ z _ _ (token_in head digest next old db house may (knows opened)) o).0
    ]
