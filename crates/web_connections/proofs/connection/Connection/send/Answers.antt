use Rattle.std.proofs.Common.{refl, take, drop, sym, ap, ◌∙◌, subst, take-append-drop, ◌++◌, List, ℕ}
use Rattle.std.proofs.lemmas.List.{drop-drop, take_rest}
use Rattle.base_devices.specs.Reported.{Adds}
use Rattle.web_connections.proofs.connection.Connection.send.Goals as goal

pub returns-in-Ok : goal.returns-in-Ok
returns-in-Ok g c =
    let items = c.self.inside.answer.items in
    let at = c.self.inside.at in
    let n = c.in-Ok.n in
    rw (← c.self.view_is) (record {
      part = take n (drop at items);
      phase = refl;
      left = refl;
      coming = c.in-Ok.ensures.same;
      unsent = sym (take-append-drop n (drop at items)) ∙ ap (λ (l : List ℕ). take n (drop at items) ++ l) (drop-drop n at items);
      gone = subst (λ (l : List ℕ). Adds (g.E.Ends.taken c.self.inside.ends) (take n l) (g.E.Ends.taken c.write.new.self)) (take_rest c.deref.result.now at ∙ ap (drop at) c.deref.ensures.value) c.in-Ok.ensures.taken;
    })
