use Rattle.std.proofs.Common.{ℕ, List, take, drop, sym, subst, rules, append-nil, arith, ap, length, length-drop, take-append-drop}
use Rattle.std.proofs.lemmas.List.{take_rest}
use Rattle.base_devices.specs.Reported.{Adds}
use Rattle.base_devices.proofs.ToldLemmas.{Adds-append, take_on}
use Rattle.web_http.proofs.write.write_all.Goals as goal

pub returns-in-Err : goal.returns-in-Err
returns-in-Err g c =
    let at = c.loop-at.at in (
      (
        take at c.args.bytes.now,
        drop at c.args.bytes.now,
        sym (take-append-drop at c.args.bytes.now),
        subst (λ (t : List ℕ). Adds (g.W.Drain.taken c.args.writer.now) t (g.W.Drain.taken c.write.new.self)) (append-nil _) (Adds-append _ _ _ _ _ c.loop-at.invariant.taken c.in-Err.ensures.kept),
      ),
      search rules,
    )

pub loop-at-preserved : goal.loop-at-preserved
loop-at-preserved g c = record {
  inside = omega (arith, length-drop c.loop-at.at c.args.bytes.now, c.in-Ok.ensures.fits, ap length (take_rest c.args.bytes.now c.loop-at.at));
  taken = subst (λ (t : List ℕ). Adds (g.W.Drain.taken c.args.writer.now) t (g.W.Drain.taken c.write.new.self)) (sym (take_on c.args.bytes.now c.loop-at.at c.in-Ok.n)) (Adds-append _ _ _ _ _ c.loop-at.invariant.taken c.in-Ok.ensures.taken);
  well = search rules;
}
