-- What happens in a server, one after another.
use Rattle.std.proofs.Common.{◌≡◌, inl, inr, ℕ, ◌+◌, ◌≤◌, List, [], ◌∷◌, ◌++◌, replicate, None, Option, Result, Ok, Err, IfErr, refl, sym, ap, ◌∙◌, subst, subst₂, append_assoc, append-nil, arith}
use Rattle.base_values.specs.declared.answer.Answer.{Answer}
use Rattle.base_devices.specs.declared.device.Tick.{Tick}
use Rattle.web_http.specs.Messages.{Message}
use Rattle.base_devices.specs.Reported.{Adds}
use Rattle.base_devices.proofs.ToldLemmas.{Adds-append, Adds-nil}
use Rattle.web_sockets.specs.Accepting.{Begun}
use Rattle.web_connections.specs.declared.turns.Next.{Next}
use Rattle.web_connections.specs.declared.turns.Next.TheVariants as nexts
use Rattle.web_connections.specs.Acts.{Between}
use Rattle.web_connections.specs.Connections.{Callers, DoesAll, IsFree, AcceptsOne, TurnsAt, callers, state_begun, with_caller, with_slot}
use Rattle.web_connections.proofs.HistoryLemmas.{own_history}
use Rattle.web_server.specs.Rounds.{AnswersCallers, EndsAtOnce, EndsEarly, Happened, Hosts, Clears, Rearranged, Rearranges, Reassigns, RoundsEnd, Served}
use Rattle.web_connection.specs.declared.failure.Failure.TheVariants as failures
use Rattle.web_cli.specs.declared.fault.RunFault.{RunFault}
use Rattle.web_cli.specs.declared.fault.RunFault.TheVariants as faults

-- ---- nobody has a turn

pub rearranged_none : (old new : Callers) → new ≡ old → Rearranged [] old new
rearranged_none old new is = record { order = []; all = (refl, is) }

pub rearranged_leaves : (old new : Callers) (slot : ℕ) → new ≡ with_slot slot None old → Rearranged [] old new
rearranged_leaves old new slot is = record { order = nexts.Leaves slot ∷ []; all = (refl, is) }

pub rearranged_comes : (came : List Begun) (old new : Callers) → AcceptsOne came old new → Rearranged came old new
rearranged_comes came old new accepts = record { order = nexts.Comes ∷ []; all = (new, came, [], sym (append-nil came), accepts, (refl, refl)) }

-- somebody takes a free slot, or comes in vain
pub accepts_one : (old new : Callers) (slot : ℕ) (b : Begun) → IsFree slot old → new ≡ with_caller slot (state_begun b) old → AcceptsOne (b ∷ []) old new
accepts_one old new slot b free is = (refl, inr (slot, free, is))

pub accepts_nobody : (old new : Callers) (b : Begun) → new ≡ old → AcceptsOne (b ∷ []) old new
accepts_nobody old new b is = (refl, inl is)

rearranges_more : (came more : List Begun) (a b c : Callers) (os ps : List Next) → Rearranges came a b os → Rearranges more b c ps → Rearranges (came ++ more) a c (os ++ ps)
rearranges_more came more a b c [] ps (none, same) y =
    subst₂ (λ (bs : List Begun) (d : Callers). Rearranges bs d c ps) (sym (ap (λ (bs : List Begun). bs ++ more) none)) same y
rearranges_more came more a b c (nexts.Comes ∷ os) ps (amid, first, later, whole, accepts, x) y =
    (amid, first, later ++ more, ap (λ (bs : List Begun). bs ++ more) whole ∙ append_assoc first later more, accepts, rearranges_more later more amid b c os ps x y)
rearranges_more came more a b c (nexts.Leaves slot ∷ os) ps x y = rearranges_more came more (with_slot slot None a) b c os ps x y
rearranges_more came more a b c (nexts.Turn slot ∷ os) ps x y = absurd x

pub rearranged_more : (came more : List Begun) (a b c : Callers) → Rearranged came a b → Rearranged more b c → Rearranged (came ++ more) a c
rearranged_more came more a b c x y = record { order = x.order ++ y.order; all = rearranges_more came more a b c x.order y.order x.all y.all }

pub clears_none : (old new : Callers) → new ≡ old → Clears old new
clears_none old new is = record { connections = rearranged_none old new is; came = ap (λ (c : Callers). c.came) is }

pub clears_leaves : (old new : Callers) (slot : ℕ) → new ≡ with_slot slot None old → Clears old new
clears_leaves old new slot is = record { connections = rearranged_leaves old new slot is; came = ap (λ (c : Callers). c.came) is }

pub clears_more : (a b c : Callers) → Clears a b → Clears b c → Clears a c
clears_more a b c x y = record { connections = rearranged_more [] [] a b c x.connections y.connections; came = y.came ∙ x.came }

-- some left, and then one came
pub cleared_comes : (a b c : Callers) (one : Begun) → Clears a b → AcceptsOne (one ∷ []) b c → Rearranged (one ∷ []) a c
cleared_comes a b c one x accepts = rearranged_more [] (one ∷ []) a b c x.connections (rearranged_comes (one ∷ []) b c accepts)

-- ---- the same, with those who are accepted still

pub reassigns_of : (old new : Callers) (before left : ℕ) (shown seen : Option (List Begun)) (came : List Begun) → Adds shown came seen → Rearranged came old new → new.came + left ≤ old.came + before
    → Reassigns old new before left shown seen
reassigns_of old new before left shown seen came reported connections count = record { came = came; reported = reported; connections = connections; count = count }

pub reassigns_clears : (old new : Callers) (before left : ℕ) (shown seen : Option (List Begun)) → Clears old new → left ≤ before → seen ≡ shown → Reassigns old new before left shown seen
reassigns_clears old new before left shown seen x fewer same = record {
  came = [];
  reported = subst (λ (s : Option (List Begun)). Adds shown [] s) (sym same) (Adds-nil shown);
  connections = x.connections;
  count = omega (arith, x.came, fewer);
}

pub reassigns_more : (a b c : Callers) (l m n : ℕ) (r s t : Option (List Begun)) → Reassigns a b l m r s → Reassigns b c m n s t → Reassigns a c l n r t
reassigns_more a b c l m n r s t x y = record {
  came = x.came ++ y.came;
  reported = Adds-append r s t x.came y.came x.reported y.reported;
  connections = rearranged_more x.came y.came a b c x.connections y.connections;
  count = omega (arith, x.count, y.count);
}

-- ---- whatever happens

module _ {D : Type 0} (Serves : D → Tick → Message → Answer → D → Type 0) where
  does_more : (from mid to : Between D) (came more : List Begun) (a b c : Callers) (os ps : List Next) → DoesAll Serves from mid came a b os → DoesAll Serves mid to more b c ps
      → DoesAll Serves from to (came ++ more) a c (os ++ ps)
  does_more from mid to came more a b c [] ps (none, same, is) y =
      subst (λ (bs : List Begun). DoesAll Serves from to bs a c ps) (sym (ap (λ (bs : List Begun). bs ++ more) none))
      (subst₂ (λ (at : Between D) (d : Callers). DoesAll Serves at to more d c ps) same is y)
  does_more from mid to came more a b c (o ∷ os) ps (at, amid, first, later, whole, does, x) y =
      (at, amid, first, later ++ more, ap (λ (bs : List Begun). bs ++ more) whole ∙ append_assoc first later more, does, does_more at mid to later more amid b c os ps x y)

  rearranged_does : (from : Between D) (came : List Begun) (old new : Callers) (order : List Next) → Rearranges came old new order → DoesAll Serves from from came old new order
  rearranged_does from came old new [] (none, is) = (none, refl, is)
  rearranged_does from came old new (nexts.Comes ∷ os) (amid, first, later, whole, accepts, x) = (from, amid, first, later, whole, (refl, accepts), rearranged_does from later amid new os x)
  rearranged_does from came old new (nexts.Leaves slot ∷ os) x =
      (from, with_slot slot None old, [], came, refl, (refl, refl, refl), rearranged_does from came (with_slot slot None old) new os x)
  rearranged_does from came old new (nexts.Turn slot ∷ os) x = absurd x

  pub happened_none : (from to : Between D) (old new : Callers) → to ≡ from → new ≡ old → Happened Serves from to [] old new
  happened_none from to old new same is = record { order = []; all = (refl, same, is) }

  pub hosts_none : (from to : Between D) (old new : Callers) (before left : ℕ) (shown seen : Option (List Begun)) → to ≡ from → new ≡ old → left ≡ before → seen ≡ shown
      → Hosts Serves from to old new before left shown seen
  hosts_none from to old new before left shown seen same is stays unseen = record {
    came = [];
    reported = subst (λ (s : Option (List Begun)). Adds shown [] s) (sym unseen) (Adds-nil shown);
    connections = happened_none from to old new same is;
    count = omega (arith, ap (λ (c : Callers). c.came) is, stays);
  }

  pub hosts_turn : (from to : Between D) (old new : Callers) (left slot : ℕ) (shown : Option (List Begun)) → TurnsAt Serves from to slot old new → Hosts Serves from to old new left left shown shown
  hosts_turn from to old new left slot shown turns =
      let came : new.came ≡ old.came = ap (λ (c : Callers). c.came) turns.2 in
      record {
        came = [];
        reported = Adds-nil shown;
        connections = record { order = nexts.Turn slot ∷ []; all = (to, new, [], [], refl, (refl, turns), (refl, refl, refl)) };
        count = omega (arith, came);
      }

  pub hosts_of : (from to : Between D) (old new : Callers) (before left : ℕ) (shown seen : Option (List Begun)) → to ≡ from → Reassigns old new before left shown seen
      → Hosts Serves from to old new before left shown seen
  hosts_of from to old new before left shown seen same x = record {
    came = x.came;
    reported = x.reported;
    connections = record { order = x.connections.order; all = subst (λ (at : Between D). DoesAll Serves from at x.came old new x.connections.order) (sym same) (rearranged_does from x.came old new x.connections.order x.connections.all) };
    count = x.count;
  }

  pub hosts_more : (from mid to : Between D) (a b c : Callers) (l m n : ℕ) (r s t : Option (List Begun)) → Hosts Serves from mid a b l m r s → Hosts Serves mid to b c m n s t
      → Hosts Serves from to a c l n r t
  hosts_more from mid to a b c l m n r s t x y = record {
    came = x.came ++ y.came;
    reported = Adds-append r s t x.came y.came x.reported y.reported;
    connections = record { order = x.connections.order ++ y.connections.order; all = does_more from mid to x.came y.came a b c x.connections.order y.connections.order x.connections.all y.connections.all };
    count = omega (arith, x.count, y.count);
  }

  -- from an empty connections on
  pub served_by : (from to : Between D) (count most before left : ℕ) (now : Callers) (shown seen : Option (List Begun)) → now.came ≤ most
      → Hosts Serves from to (callers 0 (replicate count None)) now before left shown seen → Served Serves most from to shown seen
  served_by from to count most before left now shown seen within x =
      let own = own_history Serves from to x.came count now x.connections.order x.connections.all in
      record { came = now.came; within = within; all = own.0; connections = own.1; begun = x.came; reported = x.reported; among = own.2 }

  -- nobody came
  pub served_none : (from to : Between D) (most : ℕ) (shown seen : Option (List Begun)) → to ≡ from → seen ≡ shown → Served Serves most from to shown seen
  served_none from to most shown seen same unseen =
      served_by from to 0 most 0 0 (callers 0 []) shown seen (omega arith) (hosts_none from to (callers 0 []) (callers 0 []) 0 0 shown seen same refl refl unseen)

  -- a server that couldn't be opened
  pub answers_none : (from to : Between D) (most : ℕ) (shown seen : Option (List Begun)) (fault : RunFault) → to ≡ from → seen ≡ shown → EndsAtOnce fault
      → AnswersCallers Serves most from to shown seen (Err fault)
  unfolding served_none served_by
  answers_none from to most shown seen fault same unseen (inl is) = (served_none from to most shown seen same unseen, subst (λ (f : RunFault). EndsEarly f 0) (sym is) tt)
  answers_none from to most shown seen fault same unseen (inr is) = (served_none from to most shown seen same unseen, subst (λ (f : RunFault). EndsEarly f 0) (sym is) refl)

  -- one that couldn't say where it listens
  pub answers_unsaid : (from to : Between D) (most : ℕ) (shown seen : Option (List Begun)) → to ≡ from → seen ≡ shown → AnswersCallers Serves most from to shown seen (Err (faults.Run failures.Output))
  unfolding served_none served_by
  answers_unsaid from to most shown seen same unseen = (served_none from to most shown seen same unseen, refl)

  -- all rounds of one that was
  pub answers_all : (from to : Between D) (count most before left : ℕ) (now : Callers) (shown seen : Option (List Begun)) (result : Result (Unit {0}) RunFault) → now.came ≤ most
      → Hosts Serves from to (callers 0 (replicate count None)) now before left shown seen
      → RoundsEnd result (callers 0 (replicate count None)) now → AnswersCallers Serves most from to shown seen result
  unfolding served_by
  answers_all from to count most before left now shown seen (Ok u) within x ends = served_by from to count most before left now shown seen within x
  answers_all from to count most before left now shown seen (Err fault) within x (inl is) =
      (served_by from to count most before left now shown seen within x, subst (λ (f : RunFault). EndsEarly f now.came) (sym is) tt)
  answers_all from to count most before left now shown seen (Err fault) within x (inr (is, same)) =
      (served_by from to count most before left now shown seen within x, subst (λ (f : RunFault). EndsEarly f now.came) (sym is) (ap (λ (c : Callers). c.came) same))

-- rounds that only a listener ends
pub rounds_end : (result : Result (Unit {0}) RunFault) (old new : Callers) → IfErr result (λ (fault : RunFault). fault ≡ faults.Listen) → RoundsEnd result old new
rounds_end (Ok u) old new ends = tt
rounds_end (Err fault) old new ends = inl ends
