-- What a turn's steps do to a conversation.
use Rattle.std.proofs.Common.{◌≡◌, inl, inr, ℕ, true, false, List, [], ◌++◌, ◌<◌, ◌≤◌, length, drop, map, Option, Some, refl, sym, ap, ◌∙◌, subst, subst₂, append_assoc, append-nil, arith}
use Rattle.std.proofs.lemmas.List.{drop_all, drop_more}
use Rattle.base_values.specs.declared.answer.Answer.{Answer}
use Rattle.base_devices.specs.declared.device.Tick.{Tick}
use Rattle.base_devices.specs.Reported.{Adds, Gives}
use Rattle.base_devices.proofs.ToldLemmas.{Adds-nil, Adds-append, Gives-nil, Gives-append}
use Rattle.web_http.specs.Messages.{HasNone, Message, Messages, whole}
use Rattle.web_http.proofs.FirstLemmas.{no_head}
use Rattle.web_connection.specs.declared.failure.Failure.TheVariants as failures
use Rattle.web_connection.specs.Run.{AreAll, Cursor, cursor, Finished, Progress}
use Rattle.web_connection.specs.declared.failure.Step.TheVariants as steps
use Rattle.web_connection.proofs.RunLemmas.{Chain-messages, Runs-append, broken_more, finished_none, memory_broken, progress_feed, progress_more, progress_none}
use Rattle.web_connections.specs.declared.phase.Phase.{Phase}
use Rattle.web_connections.specs.declared.phase.Phase.TheVariants as phases
use Rattle.web_connections.specs.Acts.{Act, Between, Records, ticks}
use Rattle.web_connections.specs.Exchanges.{Came, Hears, Moves, Replies, ConnectionState, Sends, Takes, Exchanges, Turn, Went, connection_begun, needs_of, acts_recorded}
use Rattle.web_connections.specs.declared.phase.Needs.TheVariants as needs
use Rattle.web_connections.specs.Connections.{has_some}
use Rattle.web_connections.proofs.RecordLemmas.{Acts-append, ticks-append, went_recorded}

-- ---- a run goes on

module _ {D : Type 0} (Serves : D → Tick → Message → Answer → D → Type 0) where
  finished_on : (after : Option (List ℕ)) (p q r : Cursor D) → Progress Serves p q → Finished Serves (AreAll q.left after) q r → Finished Serves (AreAll p.left after) p r
  finished_on after p q r x y = record {
    items = map whole x.messages ++ y.items;
    ticks = x.ticks ++ y.ticks;
    written = x.written ++ y.written;
    all = on y.all;
    reported = Adds-append p.reported q.reported r.reported x.ticks y.ticks x.reported y.reported;
    taken = Adds-append p.taken q.taken r.taken x.written y.written x.taken y.taken;
    runs = Runs-append Serves p.handler q.handler r.handler x.ticks y.ticks x.messages y.items x.written y.written x.runs y.runs;
  }
    where
      on : AreAll q.left after y.items → AreAll p.left after (map whole x.messages ++ y.items)
      on (inl always) = inl (λ more. Chain-messages p.left q.left more x.messages y.items x.chain (always more))
      on (inr (are, ended)) = inr (
        subst (λ (t : List ℕ). Messages t (map whole x.messages ++ y.items)) (append-nil p.left)
            (Chain-messages p.left q.left [] x.messages y.items x.chain (subst (λ (t : List ℕ). Messages t y.items) (sym (append-nil q.left)) are)),
        ended,
      )

  went_on : (after : Option (List ℕ)) (phase : Phase) (p q r : Cursor D) → Progress Serves p q → Went Serves after phase q r → Went Serves after phase p r
  went_on after phases.Waits p q r x (y, none) = (progress_more Serves p q r x y, none)
  went_on after phases.Goes p q r x y = progress_more Serves p q r x y
  went_on after phases.Ends p q r x y = finished_on after p q r x y
  went_on after phases.Lost p q r x (e, y) = (e, broken_more Serves e p q r x y)

-- ---- a conversation goes on

pub none_of_none : HasNone []
none_of_none = no_head [] (omega arith, λ n line settles. let some = line.some in let here = line.here in absurd (omega arith))

pub exchanges_begin : (coming gone : Option (List ℕ)) → Exchanges (connection_begun coming gone) [] (connection_begun coming gone)
exchanges_begin coming gone = record {
  bytes = [];
  given = Gives-nil coming;
  text = [];
  went = (progress_none Records (acts_recorded [] [] []) (acts_recorded [] [] []) refl, none_of_none);
  sent = [];
  is = refl;
  out = Adds-nil gone;
}

-- ---- what it needs

pub needs_room : (answer : List ℕ) (at : ℕ) (phase : Phase) → at < length answer → needs.Room ≡ needs_of (drop at answer) phase
needs_room answer at phase lt = ap (λ (unsent : List ℕ). needs_of unsent phase) (sym (drop_more answer at 0 lt))

pub unsent_some : (answer : List ℕ) (at : ℕ) → at < length answer → has_some (drop at answer) ≡ true
unsent_some answer at lt = ap has_some (drop_more answer at 0 lt)

pub unsent_none : (answer : List ℕ) (at : ℕ) → length answer ≤ at → has_some (drop at answer) ≡ false
unsent_none answer at le = ap has_some (drop_all at answer le)

-- where something is unsent, no message is taken
pub takes_unsent : (old new : ConnectionState) → 0 < length old.unsent → Takes old new
takes_unsent old new some was none is = absurd (let same = ap (λ (u : List ℕ). length u) none in omega (arith, some, same))

-- nothing but a sending came after a message was taken, or before
pub takes_sent : (a b c d : ConnectionState) → (a.phase ≡ phases.Goes → b ≡ a) → Takes b c → Sends c d → Takes a d
takes_sent a b c d same takes sends was none is =
    let e = same was in
    subst (λ (l : List ℕ). length l < length a.left) (sym sends.left)
    (subst (λ (s : ConnectionState). length c.left < length s.left) e
    (takes (subst (λ (s : ConnectionState). s.phase ≡ phases.Goes) (sym e) was) (subst (λ (s : ConnectionState). s.unsent ≡ []) (sym e) none) (sym sends.phase ∙ is)))

pub sends_moves : (old new : ConnectionState) → Sends old new → Moves old new
sends_moves old new sends first own connection = record {
  bytes = connection.bytes;
  given = subst (λ (g : Option (List ℕ)). Gives first.coming connection.bytes g) (sym sends.coming) connection.given;
  text = connection.text;
  went =
      subst (λ (g : Option (List ℕ)). Went Records g new.phase (acts_recorded connection.bytes [] []) (acts_recorded new.left own connection.text)) (sym sends.coming)
      (subst₂ (λ (s : Phase) (l : List ℕ). Went Records old.coming s (acts_recorded connection.bytes [] []) (acts_recorded l own connection.text)) (sym sends.phase) (sym sends.left) connection.went);
  sent = connection.sent ++ sends.part;
  is = connection.is ∙ (ap (λ (u : List ℕ). connection.sent ++ u) sends.unsent ∙ sym (append_assoc connection.sent sends.part new.unsent));
  out = Adds-append first.gone old.gone new.gone connection.sent sends.part connection.out sends.gone;
}

hears_moves : (phase : Phase) (old new : ConnectionState) → old.phase ≡ phases.Waits → new.phase ≡ phase → Came phase old new → HasNone old.left → new.unsent ≡ old.unsent → new.gone ≡ old.gone → Moves old new
hears_moves phase old new was is came none unsent gone first own connection = record {
  bytes = connection.bytes ++ input phase came;
  given = Gives-append first.coming old.coming new.coming connection.bytes (input phase came) connection.given (gives phase came);
  text = connection.text;
  went = subst (λ (s : Phase). Went Records new.coming s (acts_recorded (connection.bytes ++ input phase came) [] []) (acts_recorded new.left own connection.text)) (sym is) (on phase came);
  sent = connection.sent;
  is = connection.is ∙ ap (λ (u : List ℕ). connection.sent ++ u) (sym unsent);
  out = subst (λ (g : Option (List ℕ)). Adds first.gone connection.sent g) (sym gone) connection.out;
}
  where
    input : (s : Phase) → Came s old new → List ℕ
    input phases.Waits c = []
    input phases.Goes c = c.0
    input phases.Ends c = []
    input phases.Lost c = c.0

    gives : (s : Phase) (c : Came s old new) → Gives old.coming (input s c) new.coming
    gives phases.Waits c = c.0
    gives phases.Goes c = c.1
    gives phases.Ends c = c.0
    gives phases.Lost c = c.1

    before : Progress Records (acts_recorded connection.bytes [] []) (acts_recorded old.left own connection.text) × HasNone old.left
    before = subst (λ (s : Phase). Went Records old.coming s (acts_recorded connection.bytes [] []) (acts_recorded old.left own connection.text)) was connection.went

    fed : (more : List ℕ) → Progress Records (acts_recorded (connection.bytes ++ more) [] []) (acts_recorded (old.left ++ more) own connection.text)
    fed more = progress_feed Records connection.bytes old.left more _ _ _ _ _ _ before.0

    -- nothing more came
    stays : new.left ≡ old.left → Progress Records (acts_recorded (connection.bytes ++ []) [] []) (acts_recorded new.left own connection.text)
    stays same = subst₂ (λ (b l : List ℕ). Progress Records (acts_recorded b [] []) (acts_recorded l own connection.text)) (sym (append-nil connection.bytes)) (sym same) before.0

    on : (s : Phase) (c : Came s old new) → Went Records new.coming s (acts_recorded (connection.bytes ++ input s c) [] []) (acts_recorded new.left own connection.text)
    on phases.Waits c = (stays c.1, subst HasNone (sym c.1) none)
    on phases.Goes c = subst (λ (l : List ℕ). Progress Records (acts_recorded (connection.bytes ++ c.0) [] []) (acts_recorded l own connection.text)) (sym c.2) (fed c.0)
    on phases.Ends c = finished_none Records new.coming _ _ (stays c.1) (subst HasNone (sym c.1) none) c.2
    on phases.Lost c = (failures.Memory, memory_broken Records _ (old.left ++ c.0) new.left _ _ _ (fed c.0) (old.left, c.0, refl, none, c.2))

pub hears_on : (old new : ConnectionState) → old.phase ≡ phases.Waits → Hears old new → Moves old new
hears_on old new was hears = hears_moves new.phase old new was refl hears.came hears.none hears.unsent hears.gone

-- ---- turns

module _ {D : Type 0} (Serves : D → Tick → Message → Answer → D → Type 0) where
  pub turn_moves : (from to : Between D) (old new : ConnectionState) → to ≡ from → Moves old new → Turn Serves from to old new
  turn_moves from to old new same moves = subst (λ (b : Between D). Turn Serves from b old new) (sym same) (record {
    acts = [];
    acted = refl;
    reported = Adds-nil from.reported;
    exchanges = λ first own connection. subst (λ (os : List Act). Exchanges first os new) (sym (append-nil own)) (moves first own connection);
  })

  pub turn_more : (from mid to : Between D) (a b c : ConnectionState) → Turn Serves from mid a b → Turn Serves mid to b c → Turn Serves from to a c
  turn_more from mid to a b c x y = record {
    acts = x.acts ++ y.acts;
    acted = Acts-append Serves from.handler mid.handler to.handler x.acts y.acts x.acted y.acted;
    reported = subst (λ (ts : List Tick). Adds from.reported ts to.reported) (sym (ticks-append x.acts y.acts)) (Adds-append from.reported mid.reported to.reported (ticks x.acts) (ticks y.acts) x.reported y.reported);
    exchanges = λ first own connection. subst (λ (os : List Act). Exchanges first os c) (append_assoc own x.acts y.acts) (y.exchanges first (own ++ x.acts) (x.exchanges first own connection));
  }

  -- a message was answered, or none was there
  pub turn_reply : (from to : Between D) (old new : ConnectionState) → old.phase ≡ phases.Goes → old.unsent ≡ [] → Replies Serves from to [] new.unsent old new → Turn Serves from to old new
  turn_reply from to old new was none replies =
      let p = cursor old.left from.reported from.handler (Some []) in
      let q = cursor new.left to.reported to.handler (Some new.unsent) in
      let r = went_recorded Serves new.coming new.phase p q [] new.unsent refl refl replies.went in record {
        acts = r.0;
        acted = r.1;
        reported = r.2;
        exchanges = λ first own connection.
            let before = subst (λ (s : Phase). Went Records old.coming s (acts_recorded connection.bytes [] []) (acts_recorded old.left own connection.text)) was connection.went in
            let all : connection.text ≡ connection.sent = connection.is ∙ (ap (λ (u : List ℕ). connection.sent ++ u) none ∙ append-nil connection.sent) in record {
              bytes = connection.bytes;
              given = subst (λ (g : Option (List ℕ)). Gives first.coming connection.bytes g) (sym replies.coming) connection.given;
              text = connection.text ++ new.unsent;
              went = went_on Records new.coming new.phase (acts_recorded connection.bytes [] []) (acts_recorded old.left own connection.text) (acts_recorded new.left (own ++ r.0) (connection.text ++ new.unsent)) before
                  (subst (λ (t : List ℕ). Went Records new.coming new.phase (acts_recorded old.left own t) (acts_recorded new.left (own ++ r.0) (connection.text ++ new.unsent))) (append-nil connection.text) (r.3 own connection.text));
              sent = connection.sent;
              is = ap (λ (u : List ℕ). u ++ new.unsent) all;
              out = subst (λ (g : Option (List ℕ)). Adds first.gone connection.sent g) (sym replies.gone) connection.out;
            };
      }
