-- The connections, as a list of arrivals, a running shop, a history and its rows see it.
use Rattle.std.proofs.Common.{ℕ, List, Option}
use Rattle.base_values.specs.declared.answer.Answer.{Answer}
use Rattle.base_devices.specs.declared.device.Tick.{Tick}
use Rattle.web_http.specs.Messages.{Message}
use Rattle.web_connection.specs.Run.{AtTick}
use Rattle.web_connection.proofs.FollowLemmas.{Follows, follows_at}
use Rattle.model_invariant.specs.Sound.{IsSound}
use Rattle.model_answers.specs.ShopView.{ShopView}
use Rattle.web_arrivals.specs.Deliveries.{Delivery, Event, Happens, IsRunning, Opening, Running, StandsFor, Views}
use Rattle.web_arrivals.specs.HandlerView.{HandlerView, House, IsOf, Meaning, words_of}
use Rattle.web_arrivals.specs.Served.{Serves}
use Rattle.web_arrivals.specs.Streams.{ServesAndKeeps, ServesHistory, ServesList, ServesRunning}
use Rattle.web_arrivals.proofs.RowLemmas.{IsSoundAt, keeps-once}
use Rattle.web_arrivals.proofs.StreamLemmas.{HappensAt, IsSeen, Once, RunsAt, StandsAt, happens-once, is-still, listed-once, once-of, runs-once}
use Rattle.web_connections.specs.Acts.{Between, seen_at}
use Rattle.web_connections.specs.Connections.{Connections, History}
use Rattle.web_connections.proofs.ConnectionLemmas.{connections_follow}

module _ {T : Type 0} (tables : Meaning T) (house : House) where
  abbrev IsSure : HandlerView T → Type 0
  IsSure d = tables.sure d.tables

  -- whoever follows the handler in this way follows it message by message
  follows : {E : Type 0} (Rel : HandlerView T → E → Type 0) (Other : E → Tick → Message → Answer → E → Type 0) → Once tables house Rel Other
      → Follows (Serves tables) Other IsSure (IsSeen tables house Rel)
  follows Rel Other one = record {
    was_sure = λ old t m answer new serves. serves.was_sure;
    one = λ old t m answer new seen serves sure is.
        let x = one old t m answer new seen (once-of tables house old t m answer new is.of sure serves) is.rel in
        (x.0, x.1, record { of = is-still tables house old t m answer new is.of sure serves; rel = x.2 });
  }

module _ {T : Type 0} (tables : Meaning T) (reads : Option Tick → Type 0) (house : House) (came : ℕ) (old new : Between (HandlerView T)) (all : History)
    (connections : Connections (AtTick reads (Serves tables)) came old new all) (is_sure : tables.sure new.handler.tables) (of : IsOf tables house old.handler) where
  -- as those see them that follow the handler message by message
  seen : {E : Type 0} (Rel : HandlerView T → E → Type 0) (Other : E → Tick → Message → Answer → E → Type 0) → Once tables house Rel Other → (first : E) → Rel old.handler first
      → (last : E) × Connections (AtTick reads Other) came (seen_at old first) (seen_at new last) all × IsOf tables house new.handler × Rel new.handler last
  seen Rel Other once first rel =
      let at = follows_at reads (Serves tables) Other (IsSure tables house) (IsSeen tables house Rel) (follows tables house Rel Other once) in
      let x = connections_follow (AtTick reads (Serves tables)) (AtTick reads Other) (IsSure tables house) (IsSeen tables house Rel) at came old new all first connections is_sure (record { of = of; rel = rel }) in
      (x.0, x.1, x.2.of, x.2.rel)

  pub told_once : (p : Opening) (ds : List Delivery) → StandsFor (words_of house) tables.holds old.handler.tables old.handler.state p ds
      → (es : List Delivery) × Connections (AtTick reads (ServesList house p)) came (seen_at old ds) (seen_at new es) all × IsOf tables house new.handler
      × StandsFor (words_of house) tables.holds new.handler.tables new.handler.state p es
  told_once p ds stands = seen (StandsAt tables house p) (ServesList house p) (listed-once tables house p) ds stands

  pub run_on : (r : Running) → IsRunning (words_of house) tables.holds tables.may_leave old.handler.tables old.handler.state r
      → (s : Running) × Connections (AtTick reads (ServesRunning house)) came (seen_at old r) (seen_at new s) all × IsOf tables house new.handler
      × IsRunning (words_of house) tables.holds tables.may_leave new.handler.tables new.handler.state s
  run_on r running = seen (RunsAt tables house) (ServesRunning house) (runs-once tables house) r running

  pub history_on : (begun r : Running) (es : List Event) → Happens (words_of house) begun es r → IsRunning (words_of house) tables.holds tables.may_leave old.handler.tables old.handler.state r
      → (fs : List Event) × (s : Running) × Connections (AtTick reads (ServesHistory house)) came (seen_at old es) (seen_at new fs) all × IsOf tables house new.handler × Happens (words_of house) begun fs s
      × IsRunning (words_of house) tables.holds tables.may_leave new.handler.tables new.handler.state s
  history_on begun r es happened running =
      let x = seen (HappensAt tables house begun) (ServesHistory house) (happens-once tables house begun) es (r, happened, running) in
      (x.0, x.3.0, x.1, x.2, x.3.1, x.3.2)

  pub too_much : (v : ShopView) → IsSound v.state → Views tables.holds old.handler.tables old.handler.state v
      → (w : ShopView) × Connections (AtTick reads (ServesAndKeeps house)) came (seen_at old v) (seen_at new w) all × IsOf tables house new.handler
      × Views tables.holds new.handler.tables new.handler.state w × IsSound w.state
  too_much v sound views =
      let x = seen (IsSoundAt tables house) (ServesAndKeeps house) (keeps-once tables house) v (record { views = views; sound = sound }) in
      (x.0, x.1, x.2, x.3.views, x.3.sound)
