-- A draft that goes on keeps its marks.
use Rattle.std.proofs.Common.{◌≡◌, ap, ◌∙◌}
use Rattle.model_rows.specs.declared.changes.Change.{Change}
use Rattle.model_rows.specs.Change.{change_applied}
use Rattle.draft_changes.specs.DraftState.{DraftState, Extends, now, with_change}
use Rattle.draft_counts.proofs.Logs.{after_all-push}

-- it goes on after what went on
pub extends_both : {a b c : DraftState} → Extends a b → Extends b c → Extends a c
extends_both one two = record {
  base = two.base ∙ one.base;
  moment = two.moment ∙ one.moment;
  marks = λ mark is. let first = one.marks mark is in let later = two.marks mark first.0 in (later.0, later.1 ∙ first.1);
}

pub now-with_change : (draft : DraftState) (change : Change) → now (with_change change draft) ≡ change_applied change (now draft)
now-with_change draft change = ap (λ lists. record { lists = lists; next = draft.next; moment = draft.moment }) (after_all-push draft.log.changes change draft.log.base)
