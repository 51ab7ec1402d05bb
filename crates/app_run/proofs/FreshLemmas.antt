-- A handler that `feed` begins with, as a shop and as one that stands for no arrivals; and what is told of a run from it.
use Rattle.std.proofs.Common.{◌≡◌, inl, inr, ℕ, List, [], Result, Err, sym, subst₂}
use Rattle.sqlite_trees.specs.declared.store.Store.{Ghosts}
use Rattle.base_values.specs.declared.answer.Answer.{Answer}
use Rattle.base_devices.specs.declared.device.Tick.{Tick}
use Rattle.web_http.specs.Messages.{Message}
use Rattle.model_rows.specs.Lists.{State}
use Rattle.model_invariant.specs.Sound.{IsSound}
use Rattle.model_invariant.proofs.Sound.{sound_empty}
use Rattle.model_answers.specs.ShopView.{ShopView}
use Rattle.web_handler.specs.Deliveries.{Delivery, StandsFor, Views}
use Rattle.web_connection.specs.declared.failure.Failure.{Failure}
use Rattle.web_connection.specs.declared.failure.Failure.TheVariants as failures
use Rattle.web_connection.specs.Run.{RunLeads}
use Rattle.web_connection.proofs.RunLemmas.{unopened}
use Rattle.web_handler.specs.Streams.{HandlerView, Meaning, handler_with, words_of, ServesAndKeeps, ServesList}
use Rattle.web_handler.proofs.Streams.{nothing-too-much, told-once}
use Rattle.file_tables.specs.declared.sql.SqlTables.{SqlTables}
use Rattle.app_run.specs.Opened.{IsFreshShop}
use Rattle.app_run.proofs.Sure.{memory_sure}
use Rattle.web_handler.specs.Fed.{FeedsHandler, Ports, devices}
use Rattle.app_run.specs.Feed.{Feeds}
use Rattle.web_cli.specs.FeedTicks.{feed_ticks}
use Rattle.app_run.specs.Fresh.{IsFresh, feed_house}
use Rattle.app_run.specs.House.{LeadsList, LeadsShop, fresh_opening, fresh_shop}
use Rattle.app_run.specs.Stored.{in_memory, in_store}

module _ {T : Type 0} (tables : Meaning T) (first : HandlerView T) (from step : ℕ) (old new : Ports) (result : Result (Unit {0}) Failure) (fresh : IsFresh tables first)
    (fed : FeedsHandler tables first from step old new result) (sure : tables.sure fed.house.tables) where
  fresh_views : Views tables.holds first.tables first.state fresh_shop
  fresh_views = record { state_is = fresh.state; held = fresh.held; one = tt }

  fresh_stands : StandsFor (words_of feed_house) tables.holds first.tables first.state fresh_opening []
  fresh_stands = fresh_views

  pub fed_fairly : (w : ShopView) × LeadsShop from step fed.count old new w result
      × Views tables.holds fed.house.tables fed.house.state w × IsSound w.state
  fed_fairly =
      let x = nothing-too-much tables feed_house fresh_shop (devices old [] first) (devices new (feed_ticks from step fed.count) fed.house) result sound_empty fed.leads sure fresh.of fresh_views in
      (x.0, x.1, x.3, x.4)

  pub fed_once : (es : List Delivery) × LeadsList from step fed.count old new es result
      × StandsFor (words_of feed_house) tables.holds fed.house.tables fed.house.state fresh_opening es
  fed_once =
      let x = told-once tables feed_house fresh_opening [] (devices old [] first) (devices new (feed_ticks from step fed.count) fed.house) result fed.leads sure fresh.of fresh_stands in
      (x.0, x.1, x.3)

-- ---- `feed` itself, over SQLite's memory

-- the handler of a shop that was just opened
pub handler_is_fresh : {S : Type 0} (g : Ghosts S) (tables : SqlTables S) (organizer event : List ℕ) (office : State) → IsFreshShop g tables organizer event office → IsFresh (in_store g) (handler_with tables organizer event office)
handler_is_fresh g tables organizer event office fresh = record {
  of = record { organizer = fresh.organizer_is; event = fresh.event_is; known = fresh.knows };
  state = fresh.empty_is;
  held = fresh.holds;
}

module _ (from step : ℕ) (old new : Ports) (result : Result (Unit {0}) Failure) where
  -- where there was no memory for the shop
  unread : {D : Type 0} (Serves : D → Tick → Message → Answer → D → Type 0) (d : D) → result ≡ Err failures.Memory → new ≡ old
      → RunLeads Serves (devices old [] d) (devices new [] d) result
  unread Serves d failed still =
      subst₂ (λ (p : Ports) (r : Result (Unit {0}) Failure). RunLeads Serves (devices old [] d) (devices p [] d) r) (sym still) (sym failed) (unopened Serves (devices old [] d))

  pub feeds_fairly : Feeds from step old new result
      → (count : ℕ) × (w : ShopView) × LeadsShop from step count old new w result × IsSound w.state
  feeds_fairly (inl (first, fresh, fed)) =
      let x = fed_fairly in_memory first from step old new result fresh fed (memory_sure fed.house.tables) in
      (fed.count, x.0, x.1, x.3)
  feeds_fairly (inr (failed, still)) = (0, fresh_shop, unread (ServesAndKeeps feed_house) fresh_shop failed still, sound_empty)

  pub feeds_once : Feeds from step old new result
      → (count : ℕ) × (es : List Delivery) × LeadsList from step count old new es result
  feeds_once (inl (first, fresh, fed)) =
      let x = fed_once in_memory first from step old new result fresh fed (memory_sure fed.house.tables) in
      (fed.count, x.0, x.1)
  feeds_once (inr (failed, still)) = (0, [], unread (ServesList feed_house fresh_opening) [] failed still)
