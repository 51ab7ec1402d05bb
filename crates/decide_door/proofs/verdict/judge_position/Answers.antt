use Rattle.std.proofs.Common.{◌≡◌, Ok, true, false, List, rules, refl, ap, ◌∙◌}
use Rattle.draft_changes.specs.DraftState.{now}
use Rattle.model_rows.specs.declared.rows.Checkin.{Checkin}
use Rattle.model_rows.specs.declared.rows.OrderPos.{OrderPos}
use Rattle.model_rows.specs.Lists.{checkins_by}
use Rattle.decide_door.specs.declared.verdict.Admission.TheVariants.{Again, New}
use Rattle.decide_door.specs.Valid.{IsValid}
use Rattle.decide_door.specs.Verdict.{is_stored, may_pass}
use Rattle.decide_door.proofs.Among.{verdict_by}
use Rattle.decide_door.proofs.verdict.judge_position.Goals as goal

pub returns-then-is_stored-clause-done : goal.returns-then-is_stored-clause-done
returns-then-is_stored-clause-done g c =
    let list = c.args.list.now in
    let position = c.args.position.now in
    let scan = c.args.scan.now in
    let lists = (now c.args.draft.now).lists in
    let own : List Checkin = c.as_slice-checkins.result.now in
    let is : own ≡ checkins_by list.id position.id lists = search rules in
    let valid : IsValid list position scan lists = record { in_force = search rules; listed = search rules; paid = search rules } in
    let stored : is_stored list.id position.id scan.nonce own ≡ true = search rules in
    let same : position ≡ c.in_ok-copy.field-0 = search rules in
    verdict_by list position scan lists own true (may_pass list position.id scan own) is valid stored refl ∙ ap (λ (p : OrderPos). Ok (Again p)) same

pub returns-then-not-may_pass-clause-refused : goal.returns-then-not-may_pass-clause-refused
returns-then-not-may_pass-clause-refused g c =
    let list = c.args.list.now in
    let position = c.args.position.now in
    let scan = c.args.scan.now in
    let lists = (now c.args.draft.now).lists in
    let own : List Checkin = c.as_slice-checkins.result.now in
    let is : own ≡ checkins_by list.id position.id lists = search rules in
    let valid : IsValid list position scan lists = record { in_force = search rules; listed = search rules; paid = search rules } in
    let stored : is_stored list.id position.id scan.nonce own ≡ false = search rules in
    let passes : may_pass list position.id scan own ≡ false = search rules in
    λ _. verdict_by list position scan lists own false false is valid stored passes

pub returns-clause-done : goal.returns-clause-done
returns-clause-done g c =
    let list = c.args.list.now in
    let position = c.args.position.now in
    let scan = c.args.scan.now in
    let lists = (now c.args.draft.now).lists in
    let own : List Checkin = c.as_slice-checkins.result.now in
    let is : own ≡ checkins_by list.id position.id lists = search rules in
    let valid : IsValid list position scan lists = record { in_force = search rules; listed = search rules; paid = search rules } in
    let stored : is_stored list.id position.id scan.nonce own ≡ false = search rules in
    let passes : may_pass list position.id scan own ≡ true = search rules in
    let same : position ≡ c.in_ok-copy-2.field-0 = search rules in
    verdict_by list position scan lists own false true is valid stored passes ∙ ap (λ (p : OrderPos). Ok (New p)) same
