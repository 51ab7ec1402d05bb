-- What becomes of one message, from what the shop does with it.
use Rattle.std.proofs.Common.{◌≡◌, inl, inr, ℕ, true, false, cond, List, ◌∷◌, Option, Result, Ok, Err, refl, subst, subst₂}
use Rattle.base_values.specs.declared.answer.Answer.{Answer}
use Rattle.base_values.specs.declared.answer.Answer.TheVariants.{Unavailable}
use Rattle.base_values.specs.declared.answer.Response.{Response}
use Rattle.base_devices.specs.declared.device.Tick.{Tick}
use Rattle.web_http.specs.Messages.{Message}
use Rattle.model_rows.specs.Lists.{State}
use Rattle.model_commands.specs.declared.replies.Reply.{Reply}
use Rattle.model_answers.specs.declared.kept.Kept.{Kept}
use Rattle.model_answers.specs.ShopView.{ShopView}
use Rattle.web_responses.specs.Replies.{words}
use Rattle.web_arrivals.specs.Deliveries.{Arrival, is_write, Running, MayLeave, IsRunning, IsAmong, also_undecided, after_none, Views}
use Rattle.office_once.proofs.ShopLemmas.{stands-same}
use Rattle.web_arrivals.specs.Coming.{arrival, arrival_with, number_of}
use Rattle.web_arrivals.specs.HandlerView.{HandlerView, House, Meaning, house_of, words_of, reply_worded}
use Rattle.web_arrivals.specs.Served.{ServesOnce}

-- ---- a write that isn't answered is undecided from then on

also-among : (a b : Arrival) (open_ : List Arrival) → IsAmong a open_ → IsAmong a (also_undecided b open_)
also-among a b open_ among = elim (is_write b.request) as (λ w. IsAmong a (cond w (b ∷ open_) open_)) [ true ↦ inr among | false ↦ among ]

also-left : (words : Reply → Response) (a : Arrival) (r : Running) (x : ShopView) → MayLeave words r x → MayLeave words (after_none words a r) x
also-left words a r x (inl e) = inl e
also-left words a r x (inr (b, among, e)) = inr (b, also-among b a r.undecided among, e)

still-running : {T : Type 0} (holds : T → State → List Kept → Type 0) (may_leave : T → ShopView → Type 0) (words : Reply → Response) (a : Arrival) (tables : T) (state : State) (r : Running)
    → IsRunning words holds may_leave tables state r → IsRunning words holds may_leave tables state (after_none words a r)
still-running holds may_leave words a tables state r running = record {
  views = running.views;
  sound = running.sound;
  leaves = λ left may. let x = running.leaves left may in (x.0, also-left words a r x.0 x.1, x.2);
  leaves_sound = running.leaves_sound;
}

module _ {T : Type 0} (tables : Meaning T) (told_words : Reply → Response) where
  -- 503, with nothing changed
  pub unavailable : (d : HandlerView T) (coming : Result Arrival Response) → ServesOnce tables told_words d coming Unavailable d
  unavailable d (Ok a) = record {
    served = λ v views. views;
    stands = stands-same tables.holds told_words d.tables d.state a Unavailable (λ v views. refl);
    running = still-running tables.holds tables.may_leave told_words a d.tables d.state;
    house = λ house knows. knows;
    fit = tt;
  }
  unavailable d (Err refusal) = record {
    served = λ v views. (views, tt);
    stands = λ p ds stands. (stands, tt);
    running = λ r running. running;
    house = λ house knows. knows;
    fit = tt;
  }

  -- behind a look-up that changes nothing
  pub looked-up : (old mid new : HandlerView T) (coming : Result Arrival Response) (answer : Answer)
      → ((v : ShopView) → Views tables.holds old.tables old.state v → Views tables.holds mid.tables mid.state v)
      → ((house : House) → tables.knows old.tables house → tables.knows mid.tables house)
      → ((left : ShopView) → tables.may_leave mid.tables left → tables.may_leave old.tables left)
      → ServesOnce tables told_words mid coming answer new → ServesOnce tables told_words old coming answer new
  looked-up old mid new coming answer same knows leaves once = record {
    served = λ v views. once.served v (same v views);
    stands = λ p ds stands. once.stands p ds (same _ stands);
    running = λ r running. once.running r (record {
      views = same r.shop running.views;
      sound = running.sound;
      leaves = λ left may. running.leaves left (leaves left may);
      leaves_sound = λ left may. running.leaves_sound left (leaves left may);
    });
    house = λ house known. once.house house (knows house known);
    fit = once.fit;
  }

-- the same of a message whose token was looked up
pub known : {T : Type 0} (tables : Meaning T) (old mid new : HandlerView T) (t : Tick) (m : Message) (answer : Answer) (number : Option ℕ) (told : House)
    → mid.organizer ≡ old.organizer → mid.event ≡ old.event → number ≡ number_of told.tokens m
    → ((v : ShopView) → Views tables.holds old.tables old.state v → Views tables.holds mid.tables mid.state v)
    → ((house : House) → tables.knows old.tables house → tables.knows mid.tables house)
    → ((left : ShopView) → tables.may_leave mid.tables left → tables.may_leave old.tables left)
    → ServesOnce tables (reply_worded mid) mid (arrival_with mid.organizer mid.event number t m) answer new
    → let house = house_of old told in ServesOnce tables (words_of house) old (arrival house t m) answer new
known tables old mid new t m answer number told organizer event found same knows leaves once =
    let here = looked-up tables (reply_worded mid) old mid new (arrival_with mid.organizer mid.event number t m) answer same knows leaves once in
    let named = subst₂ (λ (a b : List ℕ). ServesOnce tables (words a b) old (arrival_with a b number t m) answer new) organizer event here in
    subst (λ (n : Option ℕ). ServesOnce tables (reply_worded old) old (arrival_with old.organizer old.event n t m) answer new) found named
