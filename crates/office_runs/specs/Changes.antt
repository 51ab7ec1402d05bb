-- What a step changes can be made.
use Rattle.model_invariant.specs.Changes.{LeadTo}
use Rattle.office_step.specs.Changes.{changes_of}
use Rattle.office_runs.specs.Runs.{Stepped, office_at}

-- the changes of a step can be made one after another, and lead to the rows that it leaves
abbrev pub MakesItsChanges : Stepped → Type 0
MakesItsChanges s = LeadTo (changes_of s.command s.draw (office_at s) s.reply) s.before.lists s.after.lists
