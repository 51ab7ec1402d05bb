use Rattle.std.proofs.Common.{ℕ, length, take, drop, ◌++◌, ◌+◌, ◌-◌, ◌∙◌, ap, sym, arith}
use Rattle.std.proofs.lemmas.List.{length-take-le}
use Rattle.app_files.proofs.HeadLemmas.{comes_on, looks_on, mark_later, none_on}
use Rattle.app_files.proofs.heads.finds_mark.Goals as goal

pub loop-preserved : goal.loop-preserved
loop-preserved g c =
    let came = c.loop.invariant.came in
    let behind = c.in_ok-n.ensures.behind in
    let kept = c.keep_last-kept.ensures.last in
    record {
      most = c.keep_last-kept.ensures.most;
      came = looks_on _ _ _ came.0 _ behind.0 _ _ came.1 behind.2 came.2 came.3 behind.1 (c.has_mark.ensures.nowhere c.if-has_mark.false)
          (kept ∙ ap (λ (k : ℕ). drop (k - 12) (take (c.loop.kept + c.in_ok-n.n) c.read_behind.new.piece)) (sym (length-take-le (c.loop.kept + c.in_ok-n.n) c.read_behind.new.piece c.in_ok-n.ensures.inside)));
    }

pub returns-then-has_mark : goal.returns-then-has_mark
returns-then-has_mark g c =
    let came = c.loop.invariant.came in
    let behind = c.in_ok-n.ensures.behind in
    let mark = c.has_mark.ensures.found c.if-has_mark.true in (
      came.0 ++ take (c.loop.kept + c.in_ok-n.n) c.read_behind.new.piece,
      comes_on _ _ _ came.0 _ behind.0 _ came.1 behind.2 behind.1,
      (length came.0 + mark.0, mark_later came.0 _ mark.0 mark.1),
    )

pub returns-then-n-eq0 : goal.returns-then-n-eq0
returns-then-n-eq0 g c =
    let came = c.loop.invariant.came in
    let behind = c.in_ok-n.ensures.behind in (
      came.0 ++ take (c.loop.kept + c.in_ok-n.n) c.read_behind.new.piece,
      comes_on _ _ _ came.0 _ behind.0 _ came.1 behind.2 behind.1,
      (
        none_on came.0 _ behind.0 _ came.2 came.3 behind.1 (c.has_mark.ensures.nowhere c.if-has_mark.false),
        c.in_ok-n.ensures.ended c.if-n-eq0.true (omega (arith, c.loop.invariant.most)),
      ),
    )
