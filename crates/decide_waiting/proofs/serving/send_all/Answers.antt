use Rattle.std.proofs.Common.{◌≡◌, ℕ, List, [], ◌∷◌, ◌++◌, Result, Ok, Err, length, refl, sym, ap, ◌∙◌, subst, append-nil, arith}
use Rattle.std.specs.Prelude.{IfOk, OnOk}
use Rattle.std.proofs.lemmas.Result.{IfOk-at_ok, IfOk-weaker}
use Rattle.std.proofs.lemmas.Bool.Decides.{nat_tests}
use Rattle.draft_changes.specs.DraftState.{now}
use Rattle.decide_waiting.specs.Serving.{all_served, served_changes}
use Rattle.decide_waiting.proofs.Served.{none_waits, run_of_all}
use Rattle.decide_waiting.proofs.Trades.{sound_can_send}
use Rattle.decide_waiting.proofs.serving.send_all.Goals as goal

none_of : (l : List ℕ) → length l ≡ 0 → l ≡ []
none_of [] e = refl
none_of (x ∷ xs) e = absurd (omega arith)

pub returns-then-is_empty-clause-done : goal.returns-then-is_empty-clause-done
returns-then-is_empty-clause-done g c =
    let state = now c.args.draft.now in
    let none : c.in_ok-queue.queue.items ≡ [] = none_of c.in_ok-queue.queue.items (grind (arith, nat_tests, c.is_empty.ensures, c.if-is_empty.true)) in
    (none_waits c.args.draw state (sound_can_send state c.requires.sound) (sym c.in_ok-queue.ensures ∙ none)).0 ∙ ap (λ (l : List ℕ). (state, l)) (sym none)

pub returns-then-is_empty-clause-changes : goal.returns-then-is_empty-clause-changes
returns-then-is_empty-clause-changes g c =
    let state = now c.args.draft.now in
    let before = c.args.draft.now.log.changes in
    let none : c.in_ok-queue.queue.items ≡ [] = none_of c.in_ok-queue.queue.items (grind (arith, nat_tests, c.is_empty.ensures, c.if-is_empty.true)) in
    sym (ap (λ l. before ++ l) (none_waits c.args.draw state (sound_can_send state c.requires.sound) (sym c.in_ok-queue.ensures ∙ none)).1 ∙ append-nil before)

-- what an attempt that stays gave
stays : {T E S : Type 0} (r made : Result T E) (mid new : S) (P : S → T → Type 0) → r ≡ made → OnOk r (new ≡ mid) → IfOk made (P mid) → IfOk r (P new)
stays (Ok x) made mid new P e kept h = subst (λ s. P s x) (sym kept) (IfOk-at_ok (P mid) (sym e) h)
stays (Err y) made mid new P e kept h = tt

pub returns-clause-done : goal.returns-clause-done
returns-clause-done g c =
    let state = now c.args.draft.now in
    let mid = c.send_each-served.new.draft in
    let queued = c.deref.ensures.value ∙ c.in_ok-queue.ensures in
    stays c.end_attempt.result c.send_each-served.result mid c.end_attempt.new.self (λ d ids. all_served c.args.draw state ≡ (now d, ids.items)) c.end_attempt.ensures.answer c.end_attempt.ensures.kept
    (IfOk-weaker c.send_each-served.result _ _ (λ ids h. (run_of_all c.args.draw state (sound_can_send state c.requires.sound) c.deref.result.now ids.items c.args.draft.now.log.changes mid.log.changes (now mid) queued h).0) c.send_each-served.ensures.done)

pub returns-clause-changes : goal.returns-clause-changes
returns-clause-changes g c =
    let state = now c.args.draft.now in
    let before = c.args.draft.now.log.changes in
    let mid = c.send_each-served.new.draft in
    let queued = c.deref.ensures.value ∙ c.in_ok-queue.ensures in
    stays c.end_attempt.result c.send_each-served.result mid c.end_attempt.new.self (λ d ids. d.log.changes ≡ before ++ served_changes c.args.draw state) c.end_attempt.ensures.answer c.end_attempt.ensures.kept
    (IfOk-weaker c.send_each-served.result _ _ (λ ids h. (run_of_all c.args.draw state (sound_can_send state c.requires.sound) c.deref.result.now ids.items before mid.log.changes (now mid) queued h).1) c.send_each-served.ensures.done)
