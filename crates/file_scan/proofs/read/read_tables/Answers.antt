use Rattle.std.proofs.Common.{◌≤◌, arith}
use Rattle.file_reads.proofs.SinceLemmas.{since_before}
use Rattle.file_scan.proofs.ReadLemmas.{if_err, both_ok}
use Rattle.file_scan.proofs.Shown.{where_then}
use Rattle.file_scan.proofs.Versions.{is_first, is_second, is_third, first_for, second_for, third_for}
use Rattle.file_scan.proofs.read.read_tables.Goals as goal

pub returns-then-own-lt2 : goal.returns-then-own-lt2
returns-then-own-lt2 g c = record {
  loaded = λ clean db at known.
      let small : c.args.own ≤ 1 = omega (arith, c.if-own-lt2.true) in
      both_ok c.read_first.result _ _ _ (c.read_first.ensures.reads.loaded clean db at (since_before 1 c.args.own c.requires.first db.schema known)) c.read_first.ensures.none (λ rows held none. is_first c.args.own small db.trees rows held none);
  limits = c.read_first.ensures.reads.limits;
  found = λ clean db at.
      let small : c.args.own ≤ 1 = omega (arith, c.if-own-lt2.true) in
      where_then c.read_first.result _ _ (c.read_first.ensures.reads.found clean db at) (λ h. (h, (λ late. absurd (omega (arith, small, late)), λ late. absurd (omega (arith, small, late)))));
  refused = λ clean db at.
      if_err c.read_first.result _ _ (c.read_first.ensures.reads.refused clean db at) (first_for c.args.own c.requires.first db);
  store = λ clean db at known. c.read_first.ensures.reads.store clean db at (since_before 1 c.args.own c.requires.first db.schema known);
  same = c.read_first.ensures.reads.same;
  only = c.read_first.ensures.reads.only;
}

pub returns-then-own-lt3 : goal.returns-then-own-lt3
returns-then-own-lt3 g c = record {
  loaded = λ clean db at known.
      let late : 2 ≤ c.args.own = omega (arith, c.if-own-lt2.false) in
      let small : c.args.own ≤ 2 = omega (arith, c.if-own-lt3.true) in
      both_ok c.read_second.result _ _ _ (c.read_second.ensures.reads.loaded clean db at (since_before 2 c.args.own late db.schema known)) c.read_second.ensures.none (λ rows held none. is_second c.args.own late small db.trees rows held none);
  limits = c.read_second.ensures.reads.limits;
  found = λ clean db at.
      let small : c.args.own ≤ 2 = omega (arith, c.if-own-lt3.true) in
      where_then c.read_second.result _ _ (c.read_second.ensures.reads.found clean db at) (λ h. (h.0, (λ late. h.1, λ late. absurd (omega (arith, small, late)))));
  refused = λ clean db at.
      let late : 2 ≤ c.args.own = omega (arith, c.if-own-lt2.false) in
      if_err c.read_second.result _ _ (c.read_second.ensures.reads.refused clean db at) (second_for c.args.own late db);
  store = λ clean db at known.
      let late : 2 ≤ c.args.own = omega (arith, c.if-own-lt2.false) in
      c.read_second.ensures.reads.store clean db at (since_before 2 c.args.own late db.schema known);
  same = c.read_second.ensures.reads.same;
  only = c.read_second.ensures.reads.only;
}

pub returns : goal.returns
returns g c = record {
  loaded = λ clean db at known.
      let late : 3 ≤ c.args.own = omega (arith, c.if-own-lt3.false) in
      is_third c.args.own late db.trees c.read_third.result (c.read_third.ensures.loaded clean db at (since_before 3 c.args.own late db.schema known));
  limits = c.read_third.ensures.limits;
  found = λ clean db at. where_then c.read_third.result _ _ (c.read_third.ensures.found clean db at) (λ h. (h.0, (λ late. h.1.0, λ late. h.1.1)));
  refused = λ clean db at.
      let late : 3 ≤ c.args.own = omega (arith, c.if-own-lt3.false) in
      if_err c.read_third.result _ _ (c.read_third.ensures.refused clean db at) (third_for c.args.own late db);
  store = λ clean db at known.
      let late : 3 ≤ c.args.own = omega (arith, c.if-own-lt3.false) in
      c.read_third.ensures.store clean db at (since_before 3 c.args.own late db.schema known);
  same = c.read_third.ensures.same;
  only = c.read_third.ensures.only;
}
