use Rattle.std.proofs.Common.{◌≡◌, ◌<◌, ◌∙◌, ℕ, List, [], ◌++◌, Bor, length, get_or, add-one, Ok, sym, ap, subst, arith}
use Rattle.std.proofs.lemmas.List.{length-map, get_or-map}
use Rattle.sqlite.specs.Held.{state}
use Rattle.sqlite.specs.State.{HasCleanDisk, Executes}
use Rattle.file_schema.proofs.Inside.{stays_same, stays_then}
use Rattle.file_schema.specs.Grown.{Grows}
use Rattle.file_schema.specs.Versions.{schema_after, statement_texts}
use Rattle.file_schema.proofs.Grown.{grows, grows_none, grows_then, inside_grown}
use Rattle.file_schema.proofs.Makes.{each, all_made}
use Rattle.file_schema.proofs.make.run_from.Goals as goal

pub statements-init : goal.statements-init
statements-init g c =
    let s = state g.S.Store c.args.tx.now.conn.now in
    (stays_same g.S.Store c.args.tx.now.conn, λ clean at. ([], grows_none (schema_after c.args.from) s at))

pub statements-preserved : goal.statements-preserved
statements-preserved g c =
    let old = state g.S.Store c.args.tx.now.conn.now in
    let mid = state g.S.Store c.statements.tx.conn.now in
    let new = state g.S.Store c.run.new.tx.conn.now in
    let i = c.statements.at in
    let first = schema_after c.args.from in
    let all : length c.args.statements.now ≡ 23 = sym (length-map c.args.statements.now (λ (s : Bor (List ℕ)). s.now)) ∙ ap length c.requires in
    let inv = c.statements.invariant in
    let step = c.run.ensures in (
      stays_then g.S.Store c.args.tx.now.conn c.statements.tx.conn c.run.new.tx.conn inv.0 step.inside,
      λ clean at.
          let early : HasCleanDisk mid = omega (arith, step.inside.crash.clean) in
          let few = (inv.1 early at).0 in
          let reached = (inv.1 early at).1 in
          let inside = inside_grown few first (schema_after i) old mid reached in
          let within : i < length c.args.statements.now = c.statements-test.true in
          let text : (get_or c.args.statements.now i (record { ref_ptr = (0, 0); now = [] })).now ≡ get_or statement_texts i [] =
          sym (get_or-map (λ (s : Bor (List ℕ)). s.now) c.args.statements.now i (record { ref_ptr = (0, 0); now = [] }) [] within) ∙ ap (λ l. get_or l i []) c.requires in
          let ran : Executes (get_or statement_texts i []) [] mid new (Ok c.in_ok-run.field-0) = rw text at (c.in_ok-run.ensures.ran clean inside.inside) in
          let made = each i (omega (arith, all, within)) mid new inside c.in_ok-run.field-0 ran in
          (few ++ made.0, rw add-one (grows_then few made.0 first (schema_after i) _ old mid new reached made.1)),
    )

pub returns-clause-grown : goal.returns-clause-grown
returns-clause-grown g c clean at =
    let old = state g.S.Store c.args.tx.now.conn.now in
    let new = state g.S.Store c.statements.tx.conn.now in
    let first = schema_after c.args.from in
    let all : length c.args.statements.now ≡ 23 = sym (length-map c.args.statements.now (λ (s : Bor (List ℕ)). s.now)) ∙ ap length c.requires in
    let made = c.statements.invariant.1 clean at in
    subst (λ s. Grows first s old new) (all_made c.statements.at (omega (arith, all, c.statements-test.false))) (grows made.0 first (schema_after c.statements.at) old new made.1)
