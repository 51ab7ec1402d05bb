-- Sending one after another is what was decided at once.
use Rattle.std.proofs.Common.{◌≡◌, ℕ, ◌+◌, ◌<◌, Bool, true, false, ◌&&◌, eqb, List, [], ◌∷◌, ◌++◌, length, map, Option, Some, None, Result, Ok, Err, refl, sym, ap, ◌∙◌, subst, nat_lt, nat_le, arith}
use Rattle.std.specs.Prelude.{if◌then◌else◌, not, ◌||◌, is_none, find, option_map}
use Rattle.std.specs.List.{AllByRecursion, list_all}
use Rattle.std.specs.Option.{ok_or}
use Rattle.base_values.specs.Deciding.{◌>>=◌, ◌>>◌, check, refuse_some}
use Rattle.std.proofs.lemmas.Bool.Decides.{nat_tests}
use Rattle.std.proofs.lemmas.List.Sums.{sum_by-cons}
use Rattle.base_values.specs.declared.draw.Draw.{Draw}
use Rattle.base_tables.specs.Tables.{with_row}
use Rattle.base_tables.proofs.Edits.{row_at-with_row}
use Rattle.model_catalogue.specs.declared.rows.Quota.{Quota}
use Rattle.model_catalogue.specs.declared.refusal.CatalogueRefusal.TheVariants.{Inactive, NotSold, Full}
use Rattle.model_catalogue.specs.CatalogueLists.{CatalogueLists, is_active, is_sold}
use Rattle.model_catalogue.specs.Limits.{takes_rows}
use Rattle.model_catalogue.specs.Member.{is_in}
use Rattle.model_rows.specs.declared.changes.Change.{Change}
use Rattle.model_rows.specs.declared.rows.Voucher.{Voucher}
use Rattle.model_rows.specs.declared.rows.Waiting.{Waiting}
use Rattle.model_rows.specs.Available.{available}
use Rattle.model_rows.specs.Full.{takes_voucher}
use Rattle.model_rows.specs.Lists.{State, waiting_at}
use Rattle.model_rows.specs.Usage.{has_none}
use Rattle.model_invariant.specs.Sound.{IsSound}
use Rattle.model_rows.proofs.EachRow.{all_weaker, all_both}
use Rattle.model_rows.proofs.Time.{one}
use Rattle.model_commands.specs.declared.waiting.WaitingRefusal.{WaitingRefusal}
use Rattle.model_commands.specs.declared.waiting.WaitingRefusal.TheVariants.{Catalogue, SoldOut, AlreadySent, NoEntry}
use Rattle.decide_waiting.specs.Places.{used_unwaited, is_closed, first_closed}
use Rattle.decide_waiting.specs.Sending.{sent_voucher, with_its_voucher, with_sent, sent_to, voucher_sent}
use Rattle.decide_waiting.specs.Steps.{CanSend}
use Rattle.decide_waiting.specs.Serving.{queue, served_in, has_place, is_served, served_after, entries_served, all_sent, all_served, all_changes, served_changes}
use Rattle.decide_waiting.specs.Steps.{Run, state_after, run_with, run_after, each_sent, run_in_turn, served_in_turn}
use Rattle.decide_waiting.proofs.Trades.{sound_can_send, sent_can_send, sent_unwaited}
use Rattle.decide_waiting.proofs.Queue.{AreApart, Waits, queue_apart, queue_waits}

-- a row whose id is the next one makes the list longer by one
length_put : {T : Type 0} (key : T → ℕ) (row : T) (rows : List T) → AllByRecursion (λ r. key r < key row) rows → length (with_row key row rows) ≡ length rows + 1
length_put key row [] h = refl
length_put key row (r ∷ rs) h = grind (arith, nat_tests, h.0, length_put key row rs h.1)

-- the box office after these were sent (the last of them first)
record Follows (start : State) (before : List Waiting) (state : State) : Type 0 where
  can : CanSend state
  catalogue : state.lists.catalogue ≡ start.lists.catalogue
  rows : length state.lists.vouchers ≡ length start.lists.vouchers + length before
  next : state.next.voucher ≡ start.next.voucher + length before
  unwaited : (quota : Quota) → used_unwaited state quota ≡ used_unwaited start quota + served_in quota before

module _ (draw : Draw) (start : State) where
  module _ (before : List Waiting) (state : State) (entry : Waiting) (f : Follows start before state) where
    -- room
    rows_below : (a b n : ℕ) → a ≡ b + n → nat_lt a 1000000 ≡ nat_le (b + (n + 1)) 1000000
    rows_below a b n e = grind (arith, nat_tests, e)

    ids_below : (a b n : ℕ) → a ≡ b + n → nat_le a 9007199254740991 ≡ nat_le (b + (n + 1)) 9007199254740992
    ids_below a b n e = grind (arith, nat_tests, e)

    same_room : takes_voucher state ≡ takes_rows (length before + 1) start.next.voucher start.lists.vouchers
    same_room = λ i. rows_below (length state.lists.vouchers) (length start.lists.vouchers) (length before) f.rows i && ids_below state.next.voucher start.next.voucher (length before) f.next i

    -- places
    turned : (a b : Bool) → (not a || b) ≡ not (a && not b)
    turned true true = refl
    turned true false = refl
    turned false b = refl

    same_place : (quota : Quota) → has_place start before entry.product quota ≡ not (is_closed state entry.product quota)
    same_place quota = ap (λ (n : ℕ). not (is_in quota entry.product) || available quota.size n) (sym (f.unwaited quota)) ∙ turned (is_in quota entry.product) (available quota.size (used_unwaited state quota))

    none_closed : (quotas : List Quota) → list_all (has_place start before entry.product) quotas ≡ is_none (option_map (λ quota. quota.id) (find (is_closed state entry.product) quotas))
    none_closed [] = refl
    none_closed (q ∷ qs) = ap (λ b. b && list_all (has_place start before entry.product) qs) (same_place q) ∙ by_test (is_closed state entry.product q) (none_closed qs)
      where
        by_test : (b : Bool) → list_all (has_place start before entry.product) qs ≡ is_none (option_map (λ quota. quota.id) (find (is_closed state entry.product) qs)) → (not b && list_all (has_place start before entry.product) qs) ≡ is_none (option_map (λ quota. quota.id) (if b then Some q else find (is_closed state entry.product) qs))
        by_test true e = refl
        by_test false e = e

    same_open : list_all (has_place start before entry.product) start.lists.catalogue.quotas ≡ is_none (first_closed state entry.product)
    unfolding first_closed
    same_open = none_closed start.lists.catalogue.quotas ∙ ap (λ (c : CatalogueLists). is_none (option_map (λ quota. quota.id) (find (is_closed state entry.product) c.quotas))) (sym f.catalogue)

    -- what `voucher_sent` answers
    abbrev Refuses : Result (State × Waiting) WaitingRefusal → Type 0
    Refuses (Ok sent) = ⊥
    Refuses (Err refusal) = Unit {0}

    abbrev Sends : Bool → Result (State × Waiting) WaitingRefusal → Type 0
    Sends true result = result ≡ Ok (with_sent draw entry state, with_its_voucher state entry)
    Sends false result = Refuses result

    by_check : (holds more : Bool) (refusal : WaitingRefusal) (next : Result (State × Waiting) WaitingRefusal) → Sends more next → Sends (holds && more) (check holds refusal >> next)
    by_check true more refusal next is = is
    by_check false more refusal next is = tt

    by_none : (closed : Option ℕ) (more : Bool) (next : Result (State × Waiting) WaitingRefusal) → Sends more next → Sends (is_none closed && more) (refuse_some SoldOut closed >> next)
    by_none None more next is = is
    by_none (Some quota) more next is = tt

    by_room : (room : Bool) → Sends room (check room (Catalogue Full) >> Ok (with_sent draw entry state, with_its_voucher state entry))
    by_room true = refl
    by_room false = tt

    by_tests : has_none entry.voucher ≡ true → Sends (is_active entry.product state.lists.catalogue && (is_sold entry.product state.lists.catalogue && (is_none (first_closed state entry.product) && takes_voucher state))) (sent_to draw entry state)
    unfolding sent_to
    by_tests waits =
        let active = is_active entry.product state.lists.catalogue in
        let sold = is_sold entry.product state.lists.catalogue in
        let closed = first_closed state entry.product in
        let room = takes_voucher state in
        subst (λ (b : Bool). Sends (active && (sold && (is_none closed && room))) (check b AlreadySent >> (check active (Catalogue Inactive) >> (check sold (Catalogue NotSold) >> (refuse_some SoldOut closed >> (check room (Catalogue Full) >> Ok (with_sent draw entry state, with_its_voucher state entry))))))) (sym waits)
        (by_check active _ _ _ (by_check sold _ _ _ (by_none closed _ _ (by_room room))))

    same_test : is_served start before entry ≡ (is_active entry.product state.lists.catalogue && (is_sold entry.product state.lists.catalogue && (is_none (first_closed state entry.product) && takes_voucher state)))
    unfolding is_served
    same_test =
        let at = sym f.catalogue in
        let room = sym same_room in
        λ i. is_active entry.product (at i) && (is_sold entry.product (at i) && (same_open i && room i))

    module _ (waits : Waits state.lists entry) where
      found : voucher_sent entry.id draw state ≡ sent_to draw entry state
      unfolding voucher_sent
      found = ap (λ (e : Option Waiting). ok_or e NoEntry >>= (λ e. sent_to draw e state)) waits.0

      decides : Sends (is_served start before entry) (voucher_sent entry.id draw state)
      decides = subst (λ (r : Result (State × Waiting) WaitingRefusal). Sends (is_served start before entry) r) (sym found) (subst (λ (b : Bool). Sends b (sent_to draw entry state)) (sym same_test) (by_tests waits.1))

      follows_sent : Follows start (entry ∷ before) (with_sent draw entry state)
      follows_sent = record {
        can = sent_can_send draw state entry f.can;
        catalogue = f.catalogue;
        rows = omega (arith, f.rows, length_put (λ (r : Voucher). r.id) (sent_voucher draw state entry.product) state.lists.vouchers f.can.vouchers.below);
        next = omega (arith, f.next);
        unwaited = λ quota. omega (arith, f.unwaited quota, sent_unwaited draw state entry f.can quota waits.0 waits.1, sum_by-cons (λ e. one (is_in quota e.product)) entry before);
      }

    others_wait : (es : List Waiting) → AllByRecursion (λ x. eqb entry.id x.id ≡ false) es → AllByRecursion (Waits state.lists) es → AllByRecursion (Waits (with_sent draw entry state).lists) es
    others_wait es apart h =
        all_weaker (λ x. (eqb entry.id x.id ≡ false) × Waits state.lists x) (Waits (with_sent draw entry state).lists)
        (λ x both. (row_at-with_row (λ r. r.id) x.id (with_its_voucher state entry) state.lists.waiting ∙ ap (λ b. if b then Some (with_its_voucher state entry) else waiting_at x.id state.lists) both.0 ∙ both.1.0, both.1.1))
        es (all_both (λ x. eqb entry.id x.id ≡ false) (Waits state.lists) es apart h)

  -- without room none is sent
  no_room : (a d p : Bool) → (a && (d && (p && false))) ≡ false
  no_room true true true = refl
  no_room true true false = refl
  no_room true false p = refl
  no_room false d p = refl

  unserved : (before : List Waiting) (e : Waiting) → takes_rows (length before + 1) start.next.voucher start.lists.vouchers ≡ false → is_served start before e ≡ false
  unfolding is_served
  unserved before e full = ap (λ b. is_active e.product start.lists.catalogue && (is_sold e.product start.lists.catalogue && (list_all (has_place start before e.product) start.lists.catalogue.quotas && b))) full ∙ no_room (is_active e.product start.lists.catalogue) (is_sold e.product start.lists.catalogue) (list_all (has_place start before e.product) start.lists.catalogue.quotas)

  none_served : (before es : List Waiting) → takes_rows (length before + 1) start.next.voucher start.lists.vouchers ≡ false → served_after start before es ≡ []
  none_served before [] full = refl
  none_served before (e ∷ es) full = ap (λ b. if b then e ∷ served_after start (e ∷ before) es else served_after start before es) (unserved before e full) ∙ none_served before es full

  abbrev Decided : List Waiting → State → Run
  Decided sent state = record { state = all_sent draw sent state; ids = map (λ e. e.id) sent; changes = all_changes draw sent state }

  -- the next turn, where there is room or not
  abbrev pub Turn : List ℕ → ℕ → State → Bool → Run
  Turn ids id state room = if room then run_with draw state (voucher_sent id draw state) (each_sent draw ids (state_after state (voucher_sent id draw state))) else record { state = state; ids = []; changes = [] }

  -- those who are sent from then on, where the next one is or not
  abbrev Rest : List Waiting → Waiting → List Waiting → Bool → List Waiting
  Rest before e es b = if b then e ∷ served_after start (e ∷ before) es else served_after start before es

  agree : (before es : List Waiting) (state : State) → Follows start before state → AreApart es → AllByRecursion (Waits state.lists) es → each_sent draw (map (λ e. e.id) es) state ≡ Decided (served_after start before es) state
  agree before [] state f apart waits = refl
  agree before (e ∷ es) state f apart waits = by_room (takes_voucher state) refl (agree (e ∷ before) es (with_sent draw e state) (follows_sent before state e f waits.0) apart.1 (others_wait before state e f es apart.0 waits.1)) (agree before es state f apart.1 waits.1)
    where
      ids : List ℕ
      ids = map (λ x. x.id) es

      skipped : (r : Result (State × Waiting) WaitingRefusal) → Refuses before state e f r → run_with draw state r (each_sent draw ids (state_after state r)) ≡ each_sent draw ids state
      skipped (Ok sent) h = absurd h
      skipped (Err refusal) h = refl

      by_test : (b : Bool) → each_sent draw ids (with_sent draw e state) ≡ Decided (served_after start (e ∷ before) es) (with_sent draw e state) → each_sent draw ids state ≡ Decided (served_after start before es) state → Sends before state e f b (voucher_sent e.id draw state) → Turn ids e.id state true ≡ Decided (Rest before e es b) state
      by_test true sent skip sends =
          ap (λ (r : Result (State × Waiting) WaitingRefusal). run_with draw state r (each_sent draw ids (state_after state r))) sends
          ∙ ap (λ (rest : Run). run_with draw state (Ok (with_sent draw e state, with_its_voucher state e)) rest) sent
      by_test false sent skip refuses = skipped (voucher_sent e.id draw state) refuses ∙ skip

      by_room : (room : Bool) → takes_voucher state ≡ room → each_sent draw ids (with_sent draw e state) ≡ Decided (served_after start (e ∷ before) es) (with_sent draw e state) → each_sent draw ids state ≡ Decided (served_after start before es) state → Turn ids e.id state (takes_voucher state) ≡ Decided (Rest before e es (is_served start before e)) state
      by_room true is sent skip = ap (Turn ids e.id state) is ∙ by_test (is_served start before e) sent skip (decides before state e f waits.0)
      by_room false is sent skip = ap (Turn ids e.id state) is ∙ ap (λ (sent : List Waiting). Decided sent state) (sym (none_served before (e ∷ es) (sym (same_room before state e f) ∙ is)))

  decided : CanSend start → run_in_turn draw start ≡ Decided (entries_served start) start
  unfolding entries_served
  decided can = agree [] (queue start.lists) start (record {
    can = can;
    catalogue = refl;
    rows = omega arith;
    next = omega arith;
    unwaited = λ quota. omega arith;
  }) (queue_apart start.lists can.waiting) (queue_waits start.lists can.waiting)

  at_once : CanSend start → served_in_turn draw start ≡ all_served draw start
  unfolding served_in_turn all_served
  at_once can = ap (λ (run : Run). (run.state, run.ids)) (decided can)

  pub sound_at_once : IsSound start → served_in_turn draw start ≡ all_served draw start
  sound_at_once h = at_once (sound_can_send start h)

  -- what a run comes to, with its changes
  pub run_at_once : CanSend start → run_in_turn draw start ≡ record { state = (all_served draw start).0; ids = (all_served draw start).1; changes = served_changes draw start }
  unfolding all_served served_changes
  run_at_once can = decided can

  -- where nobody waits nothing is done
  pub none_waits : CanSend start → map (λ e. e.id) (queue start.lists) ≡ [] → (all_served draw start ≡ (start, [])) × (served_changes draw start ≡ [])
  none_waits can none =
      let same : record { state = (all_served draw start).0; ids = (all_served draw start).1; changes = served_changes draw start } ≡ record { state = start; ids = []; changes = [] } = sym (run_at_once can) ∙ ap (λ (ids : List ℕ). each_sent draw ids start) none in
      ((λ i. ((same i).state, (same i).ids)), ap (λ (run : Run). run.changes) same)

  -- a run of all who wait, behind what was changed before
  pub run_of_all : CanSend start → (queue_ids ids : List ℕ) (before changes : List Change) (after : State) → queue_ids ≡ map (λ e. e.id) (queue start.lists) → run_after [] before (each_sent draw queue_ids start) ≡ record { state = after; ids = ids; changes = changes } → (all_served draw start ≡ (after, ids)) × (changes ≡ before ++ served_changes draw start)
  run_of_all can queue_ids ids before changes after all is =
      let same : run_after [] before (record { state = (all_served draw start).0; ids = (all_served draw start).1; changes = served_changes draw start }) ≡ record { state = after; ids = ids; changes = changes } = ap (run_after [] before) (sym (run_at_once can) ∙ ap (λ (ids : List ℕ). each_sent draw ids start) (sym all)) ∙ is in
      ((λ i. ((same i).state, (same i).ids)), sym (ap (λ (run : Run). run.changes) same))
