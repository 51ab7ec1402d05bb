-- Which arrivals are executed, what the small box office makes of them, what is kept, and what each arrival is told.
use Rattle.std.specs.Prelude.{ℕ, min, max, Bool, true, false, not, ◌&&◌, ◌||◌, ◌==◌, List, [], ◌∷◌, ◌++◌, filter, find, Option, Some, None, if◌then◌else◌, bytes_eq}
use Rattle.std.specs.List.{list_any}
use Rattle.base_values.specs.declared.answer.Answer.{Answer}
use Rattle.base_values.specs.declared.answer.Answer.TheVariants.{Decided, Unavailable}
use Rattle.base_values.specs.declared.answer.Response.{Response}
use Rattle.base_values.specs.declared.draw.Draw.{Draw}
use Rattle.base_values.specs.Moments.{last_moment}
use Rattle.model_rows.specs.Lists.{State}
use Rattle.model_commands.specs.declared.replies.Reply.{Reply}
use Rattle.office_step.specs.Answer.{answer}
pub use Rattle.office_step.specs.Step.{step}
use Rattle.office_deliveries.specs.declared.arrival.Arrival.{Arrival}
use Rattle.model_answers.specs.declared.kept.Kept.{Kept}
use Rattle.model_answers.specs.KeptAnswers.{has_key, lasts}
use Rattle.office_deliveries.specs.declared.arrival.Request.{Request}
use Rattle.office_deliveries.specs.declared.arrival.Request.TheVariants.{Write, WriteRefused, Read, ReadRefused}

-- ---- one request

-- a command is a write, and a query a read; a request that was refused is marked as one of both
abbrev pub is_write : Request → Bool
is_write (Write command) = true
is_write (WriteRefused response) = true
is_write (Read query) = false
is_write (ReadRefused response) = false

-- What the small box office does with a request at a moment, which knows no keys, and what is told in these words: a write
-- stores its moment, refused or not; a read changes nothing.
unfoldable pub request_done : (Reply → Response) → Request → ℕ → Draw → State → State × Response
request_done words (Write command) at draw state = let made = step command at draw state in (made.0, words made.1)
request_done words (WriteRefused response) at draw state = (record state { moment = at }, response)
request_done words (Read query) at draw state = (state, words (answer query at state))
request_done words (ReadRefused response) at draw state = (state, response)

-- ---- keys

-- at a moment, the key of an arrival is still the one that this token used at that time
abbrev pub repeats : Arrival → ℕ → ℕ → List ℕ → ℕ → Bool
repeats a now token key since = has_key a.key && (token == a.token) && bytes_eq key a.key && lasts now since

-- ---- lists of arrivals

-- an arrival, and whether it was answered 503
pub record Delivery : Type 0 where
  pub arrival : Arrival
  pub unavailable : Bool

-- an arrival that is answered other than 503, and one that is answered 503
abbrev pub came : Arrival → Delivery
came a = record { arrival = a; unavailable = false }

-- an arrival that is answered 503, and isn't executed
abbrev pub turned_away : Arrival → Delivery
turned_away a = record { arrival = a; unavailable = true }

-- what a list of arrivals begins with: an office, and what is kept in its tables
pub record Opening : Type 0 where
  pub state : State
  pub kept : List Kept

-- a write that was executed, and its moment
pub record First : Type 0 where
  pub arrival : Arrival
  pub at : ℕ

-- the moment of the last executed write
abbrev pub latest : ℕ → List First → ℕ
latest moment [] = moment
latest moment (f ∷ fs) = latest f.at fs

-- the moment of an arrival: the clock's, but never before that of the last executed write; a clock beyond the last moment
-- counts as that one
abbrev pub now : Opening → List First → Arrival → ℕ
now p fs a = max (latest p.state.moment fs) (min a.clock last_moment)

-- an answer of the opening, or one of an executed write, is still kept for the arrival's key
abbrev pub is_repeat : Opening → List First → Arrival → Bool
is_repeat p fs a = list_any (λ k. repeats a (now p fs a) k.token k.key k.at) p.kept || list_any (λ f. repeats a (now p fs a) f.arrival.token f.arrival.key f.at) fs

-- the arrival is a write, wasn't answered 503, and is no repeat
abbrev pub is_first : Opening → List First → Delivery → Bool
is_first p fs d = is_write d.arrival.request && not d.unavailable && not (is_repeat p fs d.arrival)

-- the executed writes, and this arrival behind them at its moment, where it is one more
abbrev pub with_next : Opening → List First → Delivery → List First
with_next p fs d = if is_first p fs d then fs ++ record { arrival = d.arrival; at = now p fs d.arrival } ∷ [] else fs

-- the executed writes, and behind them those that these arrivals add, one after another
abbrev pub firsts_after : Opening → List First → List Delivery → List First
firsts_after p fs [] = fs
firsts_after p fs (d ∷ ds) = firsts_after p (with_next p fs d) ds

-- the writes that are executed, each at its first arrival
abbrev pub firsts : Opening → List Delivery → List First
firsts p ds = firsts_after p [] ds

-- ---- repeats

-- the answer that is kept for an arrival's key
abbrev pub held_for : Arrival → ℕ → List Kept → Option Kept
held_for a now ks = find (λ k. repeats a now k.token k.key k.at) ks

-- the answer that is kept for a repeat, or else a fresh one
abbrev pub told_once : Response → Option Kept → Response
told_once fresh None = fresh
told_once fresh (Some k) = k.response

-- ---- the small box office run once on each of them

module _ (words : Reply → Response) where
  -- the office after an executed write, and its answer, at the moment and with the draw of that arrival
  abbrev pub write_executed : First → State → State × Response
  write_executed f state = request_done words f.arrival.request f.at f.arrival.draw state

  -- the office after these writes, each executed in the office that the one before it left
  abbrev pub office_after : State → List First → State
  office_after state [] = state
  office_after state (f ∷ fs) = office_after (write_executed f state).0 fs

  -- what each of them is told, under its token and its key, since its moment
  abbrev pub answers : State → List First → List Kept
  answers state [] = []
  answers state (f ∷ fs) = record { token = f.arrival.token; key = f.arrival.key; at = f.at; response = (write_executed f state).1 } ∷ answers (write_executed f state).0 fs

  -- the office after all executed writes, from the one of the opening on
  abbrev pub office : Opening → List First → State
  office p fs = office_after p.state fs

  -- all that was ever kept: what the opening has, and what executed writes with a key were told
  abbrev pub ever_kept : Opening → List First → List Kept
  ever_kept p fs = p.kept ++ filter (λ k. has_key k.key) (answers p.state fs)

  -- what is kept: all of it that isn't past
  abbrev pub answers_kept : Opening → List First → List Kept
  answers_kept p fs = filter (λ k. lasts (office p fs).moment k.at) (ever_kept p fs)

  -- what an arrival is told that isn't answered 503: a repeat what its first one was told; another write what it is told now;
  -- a read what it is told in the office of the writes before it
  abbrev pub told_in : Opening → List First → Arrival → Response
  told_in p fs a =
      let at = now p fs a in
      told_once (request_done words a.request at a.draw (office p fs)).1 (if is_write a.request then held_for a at (ever_kept p fs) else None)

  -- the answer to an arrival behind others: 503 where it was turned away, else by the writes executed till then
  abbrev pub answer_told : Opening → List Delivery → Delivery → Answer
  answer_told p ds d = if d.unavailable then Unavailable else Decided (told_in p (firsts p ds) d.arrival)

  -- what the arrivals of a list are told that come after others
  abbrev pub told_after : Opening → List Delivery → List Delivery → List Answer
  told_after p ds [] = []
  told_after p ds (e ∷ es) = answer_told p ds e ∷ told_after p (ds ++ e ∷ []) es
