-- A handler that follows another one message by message follows it through runs.
use Rattle.std.proofs.Common.{◌≡◌, ℕ, List, [], ◌∷◌, ◌++◌, map, Option, Result, Ok, Err, refl, sym, subst}
use Rattle.base_values.specs.declared.answer.Answer.{Answer}
use Rattle.base_devices.specs.declared.device.Tick.{Tick}
use Rattle.web_http.specs.Messages.{Message, whole}
use Rattle.web_connection.specs.declared.failure.Failure.{Failure}
use Rattle.web_connection.specs.declared.failure.Failure.TheVariants as failures
use Rattle.web_connection.specs.Run.{AtTick, Item, Runs, Cursor, cursor, Progress, Finished, CutOff, Stopped, BreaksOff, Streams, Devices, with_handler, RunLeads}

-- A handler follows another one, as long as it is sure: of each message that it answers the other one gives the same answer, and
-- as what it was seen before, so it is seen after. Where it is sure after a message, it was so before.
pub record Follows {D E : Type 0} (Serves : D → Tick → Message → Answer → D → Type 0) (Other : E → Tick → Message → Answer → E → Type 0) (Sure : D → Type 0) (Seen : D → E → Type 0) : Type 0 where
  pub was_sure : (old : D) (tick : Tick) (m : Message) (answer : Answer) (new : D) → Serves old tick m answer new → Sure new → Sure old
  pub one : (old : D) (tick : Tick) (m : Message) (answer : Answer) (new : D) (seen : E) → Serves old tick m answer new → Sure new → Seen old seen
      → (left : E) × Other seen tick m answer left × Seen new left

-- so it does at ticks of which the same is known
pub follows_at : {D E : Type 0} (reads : Option Tick → Type 0) (Serves : D → Tick → Message → Answer → D → Type 0) (Other : E → Tick → Message → Answer → E → Type 0) (Sure : D → Type 0) (Seen : D → E → Type 0)
    → Follows Serves Other Sure Seen → Follows (AtTick reads Serves) (AtTick reads Other) Sure Seen
follows_at reads Serves Other Sure Seen follows = record {
  was_sure = λ old tick m answer new serves. follows.was_sure old tick m answer new serves.1;
  one = λ old tick m answer new seen serves sure is. let x = follows.one old tick m answer new seen serves.1 sure is in (x.0, (serves.0, x.1), x.2);
}

-- a place in a run with another handler there
abbrev pub seen_as : {D E : Type 0} → Cursor D → E → Cursor E
seen_as place handler = cursor place.left place.reported handler place.taken

-- where a handler is sure after a run, it was so before it
module _ {D : Type 0} (Serves : D → Tick → Message → Answer → D → Type 0) (Sure : D → Type 0)
    (was_sure : (old : D) (tick : Tick) (m : Message) (answer : Answer) (new : D) → Serves old tick m answer new → Sure new → Sure old) where
  runs_sure : (old : D) (ticks : List Tick) (items : List Item) (written : List ℕ) (new : D) → Runs Serves old ticks items written new → Sure new → Sure old
  runs_sure old [] [] written new (none, same) sure = subst Sure same sure
  runs_sure old [] (Err f ∷ items) written new (is, same, last) sure = subst Sure same sure
  runs_sure old [] (Ok m ∷ items) written new x sure = absurd x
  runs_sure old (t ∷ ts) [] written new x sure = absurd x
  runs_sure old (t ∷ ts) (Err f ∷ items) written new x sure = absurd x
  runs_sure old (t ∷ ts) (Ok m ∷ items) written new (mid, answer, rest, serves, is, x) sure = was_sure old t m answer mid serves (runs_sure mid ts items rest new x sure)

  breaks_sure : (e : Failure) (mid new : Cursor D) → BreaksOff Serves e mid new → Sure new.handler → Sure mid.handler
  breaks_sure failures.Output mid new cut sure = runs_sure mid.handler cut.ticks (cut.item ∷ []) (cut.part ++ cut.rest) new.handler cut.runs sure
  breaks_sure failures.Clock mid new (stopped, next) sure = subst Sure stopped.handler sure
  breaks_sure failures.Input mid new (stopped, none) sure = subst Sure stopped.handler sure
  breaks_sure failures.Limit mid new (stopped, none) sure = subst Sure stopped.handler sure
  breaks_sure failures.Memory mid new (stopped, loses) sure = subst Sure stopped.handler sure

  streams_sure : (after : Option (List ℕ)) (old new : Cursor D) (result : Result (Unit {0}) Failure) → Streams Serves after old new result → Sure new.handler → Sure old.handler
  streams_sure after old new (Ok u) f sure = runs_sure old.handler f.ticks f.items f.written new.handler f.runs sure
  streams_sure after old new (Err e) broken sure =
      let before = broken.before in
      runs_sure old.handler before.ticks (map whole before.messages) before.written broken.mid.handler before.runs (breaks_sure e broken.mid new broken.last sure)

  pub run_sure : (old new : Devices D) (result : Result (Unit {0}) Failure) → RunLeads Serves old new result → Sure new.handler → Sure old.handler
  run_sure old new result run sure = streams_sure new.left (cursor run.bytes old.reported old.handler old.taken) (cursor [] new.reported new.handler new.taken) result run.streams sure

module _ {D E : Type 0} (Serves : D → Tick → Message → Answer → D → Type 0) (Other : E → Tick → Message → Answer → E → Type 0) (Sure : D → Type 0) (Seen : D → E → Type 0)
    (follows : Follows Serves Other Sure Seen) where
  pub runs_follow : (old : D) (ticks : List Tick) (items : List Item) (written : List ℕ) (new : D) (seen : E) → Runs Serves old ticks items written new → Sure new → Seen old seen
      → (left : E) × Runs Other seen ticks items written left × Seen new left
  runs_follow old [] [] written new seen (none, same) sure is = (seen, (none, refl), subst (λ (d : D). Seen d seen) (sym same) is)
  runs_follow old [] (Err f ∷ items) written new seen (none, same, last) sure is = (seen, (none, refl, last), subst (λ (d : D). Seen d seen) (sym same) is)
  runs_follow old [] (Ok m ∷ items) written new seen x sure is = absurd x
  runs_follow old (t ∷ ts) [] written new seen x sure is = absurd x
  runs_follow old (t ∷ ts) (Err f ∷ items) written new seen x sure is = absurd x
  runs_follow old (t ∷ ts) (Ok m ∷ items) written new seen (mid, answer, rest, serves, text_is, x) sure is =
      let one = follows.one old t m answer mid seen serves (runs_sure Serves Sure follows.was_sure mid ts items rest new x sure) is in
      let others = runs_follow mid ts items rest new one.0 x sure one.2 in
      (others.0, (one.0, answer, rest, one.1, text_is, others.1), others.2)

  progress_follows : (old new : Cursor D) (seen : E) → Progress Serves old new → Sure new.handler → Seen old.handler seen → (left : E) × Progress Other (seen_as old seen) (seen_as new left) × Seen new.handler left
  progress_follows old new seen p sure is =
      let x = runs_follow old.handler p.ticks (map whole p.messages) p.written new.handler seen p.runs sure is in
      (x.0, record { messages = p.messages; ticks = p.ticks; written = p.written; chain = p.chain; reported = p.reported; taken = p.taken; runs = x.1 }, x.2)

  finished_follows : (IsOf : List Item → Type 0) (old new : Cursor D) (seen : E) → Finished Serves IsOf old new → Sure new.handler → Seen old.handler seen
      → (left : E) × Finished Other IsOf (seen_as old seen) (seen_as new left) × Seen new.handler left
  finished_follows IsOf old new seen f sure is =
      let x = runs_follow old.handler f.ticks f.items f.written new.handler seen f.runs sure is in
      (x.0, record { items = f.items; ticks = f.ticks; written = f.written; all = f.all; reported = f.reported; taken = f.taken; runs = x.1 }, x.2)

  -- where a run breaks off
  abbrev pub BreaksSeen : Failure → Cursor D → Cursor D → E → Type 0
  BreaksSeen e mid new seen = (left : E) × BreaksOff Other e (seen_as mid seen) (seen_as new left) × Seen new.handler left

  stopped_follows : (mid new : Cursor D) (seen : E) → Stopped mid new → Seen mid.handler seen → Stopped (seen_as mid seen) (seen_as new seen) × Seen new.handler seen
  stopped_follows mid new seen stopped is = (record { reported = stopped.reported; taken = stopped.taken; handler = refl }, subst (λ (d : D). Seen d seen) (sym stopped.handler) is)

  cut_follows : (mid new : Cursor D) (seen : E) → CutOff Serves mid new → Sure new.handler → Seen mid.handler seen → (left : E) × CutOff Other (seen_as mid seen) (seen_as new left) × Seen new.handler left
  cut_follows mid new seen cut sure is =
      let x = runs_follow mid.handler cut.ticks (cut.item ∷ []) (cut.part ++ cut.rest) new.handler seen cut.runs sure is in
      (x.0, record { item = cut.item; ticks = cut.ticks; part = cut.part; rest = cut.rest; next = cut.next; reported = cut.reported; taken = cut.taken; runs = x.1 }, x.2)

  breaks_follow : (e : Failure) (mid new : Cursor D) (seen : E) → BreaksOff Serves e mid new → Sure new.handler → Seen mid.handler seen → BreaksSeen e mid new seen
  breaks_follow failures.Output mid new seen cut sure is = cut_follows mid new seen cut sure is
  breaks_follow failures.Clock mid new seen (stopped, next) sure is = let x = stopped_follows mid new seen stopped is in (seen, (x.0, next), x.1)
  breaks_follow failures.Input mid new seen (stopped, none) sure is = let x = stopped_follows mid new seen stopped is in (seen, (x.0, none), x.1)
  breaks_follow failures.Limit mid new seen (stopped, none) sure is = let x = stopped_follows mid new seen stopped is in (seen, (x.0, none), x.1)
  breaks_follow failures.Memory mid new seen (stopped, loses) sure is = let x = stopped_follows mid new seen stopped is in (seen, (x.0, loses), x.1)

  streams_follow : (after : Option (List ℕ)) (old new : Cursor D) (result : Result (Unit {0}) Failure) (seen : E) → Streams Serves after old new result → Sure new.handler → Seen old.handler seen
      → (left : E) × Streams Other after (seen_as old seen) (seen_as new left) result × Seen new.handler left
  streams_follow after old new (Ok u) seen f sure is = finished_follows _ old new seen f sure is
  streams_follow after old new (Err e) seen broken sure is =
      let before = progress_follows old broken.mid seen broken.before (breaks_sure Serves Sure follows.was_sure e broken.mid new broken.last sure) is in
      let last = breaks_follow e broken.mid new before.0 broken.last sure before.2 in
      (last.0, record { mid = seen_as broken.mid before.0; before = before.1; last = last.1 }, last.2)

  pub run_follows : (old new : Devices D) (result : Result (Unit {0}) Failure) (seen : E) → RunLeads Serves old new result → Sure new.handler → Seen old.handler seen
      → (left : E) × RunLeads Other (with_handler old seen) (with_handler new left) result × Seen new.handler left
  run_follows old new result seen run sure is =
      let x = streams_follow new.left (cursor run.bytes old.reported old.handler old.taken) (cursor [] new.reported new.handler new.taken) result seen run.streams sure is in
      (x.0, record { bytes = run.bytes; given = run.given; pieces = run.pieces; streams = x.1 }, x.2)

-- a run, whatever is known of its ticks
pub run_whenever : {D : Type 0} (reads : Option Tick → Type 0) (Serves : D → Tick → Message → Answer → D → Type 0) (old new : Devices D) (result : Result (Unit {0}) Failure)
    → RunLeads (AtTick reads Serves) old new result → RunLeads Serves old new result
run_whenever {D} reads Serves old new result run =
    let itself : Follows (AtTick reads Serves) Serves (λ d. Unit {0}) (λ d e. e ≡ d) = record {
      was_sure = λ before tick m answer after serves sure. tt;
      one = λ before tick m answer after seen serves sure is. (after, subst (λ (d : D). Serves d tick m answer after) (sym is) serves.1, refl);
    } in
    let x = run_follows (AtTick reads Serves) Serves (λ d. Unit {0}) (λ d e. e ≡ d) itself old new result old.handler run tt refl in
    subst (λ (d : D). RunLeads Serves old (with_handler new d) result) x.2 x.1
