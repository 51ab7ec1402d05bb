use Rattle.std.proofs.Common.{◌++◌, [], ℕ, List, refl, sym, ap, ◌∙◌, subst, arith, length-append}
use Rattle.web_connection.specs.Run.{AtTick, Progress, cursor}
use Rattle.base_devices.proofs.ToldLemmas.{Gives-nil, Gives-append}
use Rattle.web_connection.proofs.RunLemmas.{progress_none, progress_more, progress_feed, finished_more, finished_none, finished_all, finished_at, broken_more, broken_at, limit_broken, read_broken, run_leads, run_ends}
use Rattle.web_connection.proofs.CountLemmas.{read_counted, step_counted}
use Rattle.web_connection.proofs.run.answer_all.Goals as goal

pub loop-turn-init : goal.loop-turn-init
loop-turn-init g c = record {
  done = (
    [],
    Gives-nil _,
    progress_none (AtTick g.T.Ticks.reads g.D.Handler.serves) _ _ (ap (λ (l : List ℕ). cursor l (g.T.Ticks.reported c.args.ticks.now) c.args.handler.now (g.W.Drain.taken c.args.writer.now)) c.requires),
    record { most = omega arith; some = omega arith },
  );
  clock = refl;
  output = refl;
  input = refl;
  calls = omega arith;
}

pub returns-in-Ok-false : goal.returns-in-Ok-false
returns-in-Ok-false g c =
    let S = AtTick g.T.Ticks.reads g.D.Handler.serves in
    let inv = c.loop-turn.invariant in
    let done = inv.done in
    let e = rw c.in-Ok-false.field-0-test at c.in-Ok-false.ensures in record {
      leads = run_leads S _ _ _ done.0 c.loop-turn.turn done.1 done.3 inv.calls (finished_at S _ _ _ _ _ _ _ (finished_all S _ _ _ (finished_more S _ _ _ done.2 e.leads)));
      counted = (e.counted.0 ∙ inv.clock, e.counted.1 ∙ inv.output, inv.input);
      calls = omega (arith, inv.calls);
    }

pub returns-in-Err : goal.returns-in-Err
returns-in-Err g c =
    let S = AtTick g.T.Ticks.reads g.D.Handler.serves in
    let inv = c.loop-turn.invariant in
    let done = inv.done in record {
      leads = run_leads S _ _ _ done.0 c.loop-turn.turn done.1 done.3 inv.calls (broken_at S _ _ _ _ _ _ _ (broken_more S _ _ _ _ done.2 c.in-Err.ensures.leads));
      counted = step_counted c.in-Err.failure _ _ _ _ inv.clock inv.output inv.input c.in-Err.ensures.counted;
      calls = omega (arith, inv.calls);
    }

pub returns-in-Ok-false-take_in : goal.returns-in-Ok-false-take_in
returns-in-Ok-false-take_in g c =
    let S = AtTick g.T.Ticks.reads g.D.Handler.serves in
    let inv = c.loop-turn.invariant in
    let done = inv.done in
    let e = rw c.in-Ok-true.field-0-test at c.in-Ok-true.ensures in
    let read = rw c.in-Ok-false-take_in.field-0-test at c.in-Ok-false-take_in.ensures in record {
      leads = run_ends S _ _ _ done.0 _ c.loop-turn.turn done.1 read.leads.0 done.3 (omega (arith, read.calls, inv.calls))
          (finished_at S _ _ _ _ _ _ _ (finished_none S _ _ _ (progress_more S _ _ _ done.2 e.leads.0) e.leads.1 read.leads.2));
      counted = (e.counted.0 ∙ inv.clock, e.counted.1 ∙ inv.output, read.counted ∙ inv.input);
      calls = omega (arith, inv.calls, read.calls);
    }

pub returns-in-Err-take_in : goal.returns-in-Err-take_in
returns-in-Err-take_in g c =
    let S = AtTick g.T.Ticks.reads g.D.Handler.serves in
    let inv = c.loop-turn.invariant in
    let done = inv.done in
    let e = rw c.in-Ok-true.field-0-test at c.in-Ok-true.ensures in
    let read = c.in-Err-take_in.ensures in record {
      leads = read_broken S _ _ _ done.0 _ _ _ c.loop-turn.turn _ _ done.1 done.3 (progress_more S _ _ _ done.2 e.leads.0) e.leads.1 (omega (arith, read.calls, inv.calls)) read.leads read.counted;
      counted = read_counted c.in-Err-take_in.failure _ _ _ (e.counted.0 ∙ inv.clock) (e.counted.1 ∙ inv.output) inv.input read.counted;
      calls = omega (arith, inv.calls, read.calls);
    }

pub loop-turn-preserved : goal.loop-turn-preserved
loop-turn-preserved g c =
    let S = AtTick g.T.Ticks.reads g.D.Handler.serves in
    let inv = c.loop-turn.invariant in
    let done = inv.done in
    let e = rw c.in-Ok-true.field-0-test at c.in-Ok-true.ensures in
    let read = rw c.in-Ok-true-take_in.field-0-test at c.in-Ok-true-take_in.ensures in
    let came = read.leads.0 in
    let fed = progress_feed S done.0 _ came _ _ _ _ _ _ (progress_more S _ _ _ done.2 e.leads.0) in
    record {
      done = (
        done.0 ++ came,
        Gives-append _ _ _ _ _ done.1 read.leads.1,
        subst (λ (l : List ℕ). Progress S (cursor (done.0 ++ came) (g.T.Ticks.reported c.args.ticks.now) c.args.handler.now (g.W.Drain.taken c.args.writer.now)) (cursor l (g.T.Ticks.reported c.answer_ready.new.ticks) c.answer_ready.new.handler (g.W.Drain.taken c.answer_ready.new.writer))) (sym read.leads.3) fed,
        record {
          most = omega (arith, length-append done.0 came, done.3.most, read.leads.2.1);
          some = omega (arith, length-append done.0 came, done.3.some, read.leads.2.0);
        },
      );
      clock = e.counted.0 ∙ inv.clock;
      output = e.counted.1 ∙ inv.output;
      input = read.counted ∙ inv.input;
      calls = omega (arith, read.calls, inv.calls);
    }

pub returns-in-Ok-true-answer_ready : goal.returns-in-Ok-true-answer_ready
returns-in-Ok-true-answer_ready g c =
    let S = AtTick g.T.Ticks.reads g.D.Handler.serves in
    let inv = c.loop-turn.invariant in
    let done = inv.done in
    let e = rw c.in-Ok-true-answer_ready.field-0-test at c.in-Ok-true-answer_ready.ensures in record {
      leads = run_leads S _ _ _ done.0 _ done.1 done.3 inv.calls (limit_broken S _ _ _ _ _ _ (progress_more S _ _ _ done.2 e.leads.0) e.leads.1);
      counted = (e.counted.0 ∙ inv.clock, e.counted.1 ∙ inv.output, inv.input, omega (arith, inv.calls));
      calls = omega (arith, inv.calls);
    }

pub returns-in-Ok-false-answer_ready : goal.returns-in-Ok-false-answer_ready
returns-in-Ok-false-answer_ready g c =
    let S = AtTick g.T.Ticks.reads g.D.Handler.serves in
    let inv = c.loop-turn.invariant in
    let done = inv.done in
    let e = rw c.in-Ok-false-answer_ready.field-0-test at c.in-Ok-false-answer_ready.ensures in record {
      leads = run_leads S _ _ _ done.0 _ done.1 done.3 inv.calls (finished_at S _ _ _ _ _ _ _ (finished_all S _ _ _ (finished_more S _ _ _ done.2 e.leads)));
      counted = (e.counted.0 ∙ inv.clock, e.counted.1 ∙ inv.output, inv.input);
      calls = omega (arith, inv.calls);
    }

pub returns-in-Err-answer_ready : goal.returns-in-Err-answer_ready
returns-in-Err-answer_ready g c =
    let S = AtTick g.T.Ticks.reads g.D.Handler.serves in
    let inv = c.loop-turn.invariant in
    let done = inv.done in record {
      leads = run_leads S _ _ _ done.0 _ done.1 done.3 inv.calls (broken_at S _ _ _ _ _ _ _ (broken_more S _ _ _ _ done.2 c.in-Err-answer_ready.ensures.leads));
      counted = step_counted c.in-Err-answer_ready.failure _ _ _ _ inv.clock inv.output inv.input c.in-Err-answer_ready.ensures.counted;
      calls = omega (arith, inv.calls);
    }
