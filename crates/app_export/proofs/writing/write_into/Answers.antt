use Rattle.std.proofs.Common.{◌≡◌, ◌∙◌, ℕ, List, Result, Ok, Err, sym, subst}
use Rattle.sqlite.specs.Held.{state}
use Rattle.web_http.specs.Written.{Page, writer_page}
use Rattle.web_cli.specs.declared.fault.RunFault.{RunFault}
use Rattle.app_export.specs.Written.{Exports}
use Rattle.app_export.specs.declared.positions.WalkError.TheVariants.{Sink}
use Rattle.app_export.proofs.WriteLemmas.{exports_all, exports_broken, exports_ungathered, kept_all, kept_broken}
use Rattle.app_export.proofs.writing.write_into.Goals as goal

pub returns-in-Err-clause-same : goal.returns-in-Err-clause-same
returns-in-Err-clause-same g c =
    kept_broken (λ k. k.out.ghost_name) (λ k. k.lines.now) (λ k. writer_page g.W.Drain k.out.now) _ c.in-Err.error c.args.walk.now.sink c.stream_positions.new.walk.sink c.requires.ready c.in-Err.ensures.some

pub returns-in-Err-clause-exported : goal.returns-in-Err-clause-exported
returns-in-Err-clause-exported g c =
    let old = state g.S.Store c.args.connection.now in
    let new = state g.S.Store c.stream_positions.new.conn in
    let before = c.args.walk.now.sink in
    let after = c.stream_positions.new.walk.sink in
    let first : Page = writer_page g.W.Drain before.out.now in
    let last : Page = writer_page g.W.Drain after.out.now in
    let it = exports_broken (λ k. k.out.ghost_name) (λ k. k.lines.now) (λ k. writer_page g.W.Drain k.out.now)
    old new c.stream_positions.ensures.rests c.stream_positions.ensures.crash before after after c.requires.ready c.requires.names c.in-Err.error c.in-Err.ensures.cause c.in-Err.ensures.some in
    subst (λ (f : RunFault). (text : List ℕ) × Exports old new text first last (Err f)) (sym c.fault_of_walk.ensures) it

pub returns-in-Ok-clause-same : goal.returns-in-Ok-clause-same
returns-in-Ok-clause-same g c =
    c.hand_on.ensures.same
    ∙ kept_all (λ k. k.out.ghost_name) (λ k. k.lines.now) (λ k. writer_page g.W.Drain k.out.now) _ c.args.walk.now.sink c.stream_positions.new.walk.sink c.requires.ready c.in_default.ensures.all

pub returns-in-Ok-clause-exported : goal.returns-in-Ok-clause-exported
returns-in-Ok-clause-exported g c =
    exports_all (λ k. k.out.ghost_name) (λ k. k.lines.now) (λ k. writer_page g.W.Drain k.out.now)
    (state g.S.Store c.args.connection.now) (state g.S.Store c.stream_positions.new.conn) c.stream_positions.ensures.rests c.stream_positions.ensures.crash
    c.args.walk.now.sink c.stream_positions.new.walk.sink c.hand_on.new.self c.requires.ready c.requires.names c.in_default.ensures.all tt c.in-Ok.ensures.handed

pub returns-in-Err-hand_on-clause-same : goal.returns-in-Err-hand_on-clause-same
returns-in-Err-hand_on-clause-same g c =
    c.hand_on.ensures.same
    ∙ kept_all (λ k. k.out.ghost_name) (λ k. k.lines.now) (λ k. writer_page g.W.Drain k.out.now) _ c.args.walk.now.sink c.stream_positions.new.walk.sink c.requires.ready c.in_default.ensures.all

pub returns-in-Err-hand_on-clause-exported : goal.returns-in-Err-hand_on-clause-exported
returns-in-Err-hand_on-clause-exported g c =
    let old = state g.S.Store c.args.connection.now in
    let new = state g.S.Store c.stream_positions.new.conn in
    let before = c.args.walk.now.sink in
    let after = c.hand_on.new.self in
    let first : Page = writer_page g.W.Drain before.out.now in
    let last : Page = writer_page g.W.Drain after.out.now in
    let it = exports_ungathered (λ k. k.out.ghost_name) (λ k. k.lines.now) (λ k. writer_page g.W.Drain k.out.now)
    old new c.stream_positions.ensures.rests c.stream_positions.ensures.crash before c.stream_positions.new.walk.sink after c.requires.ready c.requires.names c.in-Err-hand_on.fault c.in_default.ensures.all c.in-Err-hand_on.ensures.handed in
    subst (λ (f : RunFault). (text : List ℕ) × Exports old new text first last (Err f)) (sym c.fault_of_walk-in-Err-hand_on.ensures) it
