-- What each thing that happens in the connections adds to its story.
use Rattle.std.proofs.Common.{◌≡◌, ◌⊎◌, inl, inr, ℕ, ◌<◌, ◌≤◌, ◌+◌, List, [], ◌∷◌, ◌++◌, length, replicate, Option, Some, None, slice_index_or, slice_set, refl, sym, ap, ◌∙◌, subst, subst₂, append_assoc, append-nil, arith}
use Rattle.std.proofs.lemmas.Bool.{cases_eq, cases_lt}
use Rattle.std.proofs.lemmas.List.{get_or_append_left, get_or_push, get_or_past, get_or-replicate, length-set, length_push, length-replicate, get_or-set_same, get_or-set_other, set_past, set-get_or}
use Rattle.base_values.specs.declared.answer.Answer.{Answer}
use Rattle.base_devices.specs.declared.device.Tick.{Tick}
use Rattle.base_devices.specs.Reported.{Adds}
use Rattle.base_devices.proofs.ToldLemmas.{Adds-nil, Adds-append}
use Rattle.web_http.specs.Messages.{Message}
use Rattle.web_sockets.specs.Accepting.{Begun}
use Rattle.web_connections.specs.declared.turns.Next.{Next}
use Rattle.web_connections.specs.declared.turns.Next.TheVariants as nexts
use Rattle.web_connections.specs.Acts.{Act, Acts, Between, ticks}
use Rattle.web_connections.specs.Exchanges.{ConnectionState, Exchanges, Turn, connection_begun}
use Rattle.web_connections.specs.Connections.{AreAmong, AreInSlots, Caller, Callers, Does, DoesAll, GoesOn, Connections, Heard, IsFree, IsGone, LeadsOn, AcceptsOne, Serving, History, TakesTurn, acts_of, at_slot, caller, callers, nobody, of, state_begun, history, with_caller, with_slot}
use Rattle.web_connections.proofs.RecordLemmas.{Acts-append, ticks-append}
use Rattle.web_connections.proofs.TurnLemmas.{exchanges_begin}
use Rattle.web_connections.proofs.ConnectionLemmas.{acts_heard, acts_of-append, are-append, are_by, are_more, heard_by, of-append, of_later, of_other, of_own}

abbrev some_caller : Caller → Option Caller
some_caller c = Some c

-- who is found at a slot is the one who is there
same_caller : (whoever : Option Caller) (c d : Caller) → whoever ≡ Some c → whoever ≡ Some d → c ≡ d
same_caller whoever c d is also = let both : some_caller c ≡ some_caller d = sym is ∙ also in cc

none_here : (whoever : Option Caller) (c : Caller) → whoever ≡ None → whoever ≡ Some c → ⊥
none_here whoever c none some = let both : (let it : Option Caller = None in it) ≡ some_caller c = sym none ∙ some in absurd cc

-- ---- who is at which slot

-- at a slot that was set is whoever was set there, and at another one who was there
set_here : (slots : List (Option Caller)) (slot : ℕ) (whoever : Option Caller) → slot < length slots → slice_index_or (slice_set slots slot whoever) slot None ≡ whoever
set_here slots slot whoever within = get_or-set_same slots slot whoever None within

set_elsewhere : (slots : List (Option Caller)) (slot other : ℕ) (whoever : Option Caller) → (slot ≡ other → ⊥) → slice_index_or (slice_set slots slot whoever) other None ≡ slice_index_or slots other None
set_elsewhere slots slot other whoever apart = get_or-set_other slots slot other whoever None (λ e. apart (sym e))

-- whoever is somewhere is at one of the slots
within_slots : (now : Callers) (slot : ℕ) (c : Caller) → at_slot slot now ≡ Some c → slot < length now.slots
within_slots now slot c is = on (cases_lt slot (length now.slots))
  where
    on : (slot < length now.slots) ⊎ (length now.slots ≤ slot) → slot < length now.slots
    on (inl lt) = lt
    on (inr le) = absurd (none_here (at_slot slot now) c (get_or_past now.slots slot None le) is)

-- whoever is there after a slot became free was there before
still_here : (now : Callers) (slot i : ℕ) (c : Caller) → at_slot i (with_slot slot None now) ≡ Some c → at_slot i now ≡ Some c
still_here now slot i c is = on (cases_eq slot i) (cases_lt slot (length now.slots))
  where
    on : (slot ≡ i) ⊎ (slot ≡ i → ⊥) → (slot < length now.slots) ⊎ (length now.slots ≤ slot) → at_slot i now ≡ Some c
    on (inr apart) side = sym (set_elsewhere now.slots slot i None apart) ∙ is
    on (inl same) (inl lt) =
        absurd (none_here (at_slot i (with_slot slot None now)) c (subst (λ (k : ℕ). slice_index_or (slice_set now.slots slot None) k None ≡ None) same (set_here now.slots slot None lt)) is)
    on (inl same) (inr le) = subst (λ (slots : List (Option Caller)). slice_index_or slots i None ≡ Some c) (set_past now.slots slot None le) is

-- a slot becomes free
in_slots_free : (now : Callers) (lasts : List ConnectionState) (slot : ℕ) → AreInSlots now lasts → AreInSlots (with_slot slot None now) lasts
in_slots_free now lasts slot in_slots = record {
  here = λ i c is. in_slots.here i c (still_here now slot i c is);
  apart = λ i j c d is also same. in_slots.apart i j c d (still_here now slot i c is) (still_here now slot j d also) same;
}

-- a caller takes a slot
in_slots_come : (now : Callers) (lasts : List ConnectionState) (slot : ℕ) (state : ConnectionState) → length lasts ≡ now.came → slot < length now.slots → AreInSlots now lasts
    → AreInSlots (with_caller slot state now) (lasts ++ state ∷ [])
in_slots_come now lasts slot state count within in_slots = record {
  here = λ i c is. there i c is (cases_eq slot i);
  apart = λ i j c d is also same. differ i j c d is also same (cases_eq slot i) (cases_eq slot j);
}
  where
    after : Callers
    after = with_caller slot state now

    comer : Caller
    comer = caller now.came state

    -- who is at the slot that was taken
    new_one : (i : ℕ) (c : Caller) → at_slot i after ≡ Some c → slot ≡ i → c ≡ comer
    new_one i c is same =
        same_caller (at_slot i after) c comer is (subst (λ (k : ℕ). slice_index_or (slice_set now.slots slot (Some comer)) k None ≡ Some comer) same (set_here now.slots slot (Some comer) within))

    old_one : (i : ℕ) (c : Caller) → at_slot i after ≡ Some c → (slot ≡ i → ⊥) → at_slot i now ≡ Some c
    old_one i c is apart = sym (set_elsewhere now.slots slot i (Some comer) apart) ∙ is

    there : (i : ℕ) (c : Caller) → at_slot i after ≡ Some c → (slot ≡ i) ⊎ (slot ≡ i → ⊥) → (c.number < after.came) × (slice_index_or (lasts ++ state ∷ []) c.number nobody ≡ c.state)
    there i c is (inl same) =
        subst (λ (d : Caller). (d.number < after.came) × (slice_index_or (lasts ++ state ∷ []) d.number nobody ≡ d.state)) (sym (new_one i c is same))
        (omega arith, get_or_push lasts state nobody now.came count)
    there i c is (inr apart) =
        let was = in_slots.here i c (old_one i c is apart) in
        let lt = was.0 in
        (omega (arith, lt), get_or_append_left lasts (state ∷ []) nobody c.number (omega (arith, lt, count)) ∙ was.1)

    differ : (i j : ℕ) (c d : Caller) → at_slot i after ≡ Some c → at_slot j after ≡ Some d → c.number ≡ d.number → (slot ≡ i) ⊎ (slot ≡ i → ⊥) → (slot ≡ j) ⊎ (slot ≡ j → ⊥) → i ≡ j
    differ i j c d is also same (inl a) (inl b) = sym a ∙ b
    differ i j c d is also same (inl a) (inr b) =
        let number : c.number ≡ now.came = ap (λ (e : Caller). e.number) (new_one i c is a) in
        let lt = (in_slots.here j d (old_one j d also b)).0 in
        absurd (omega (arith, number, same, lt))
    differ i j c d is also same (inr a) (inl b) =
        let number : d.number ≡ now.came = ap (λ (e : Caller). e.number) (new_one j d also b) in
        let lt = (in_slots.here i c (old_one i c is a)).0 in
        absurd (omega (arith, number, same, lt))
    differ i j c d is also same (inr a) (inr b) = in_slots.apart i j c d (old_one i c is a) (old_one j d also b) same

-- the conversation at a slot goes on
in_slots_turn : (now : Callers) (lasts : List ConnectionState) (slot : ℕ) (c : Caller) (state : ConnectionState) → length lasts ≡ now.came → at_slot slot now ≡ Some c → AreInSlots now lasts
    → AreInSlots (with_slot slot (Some (caller c.number state)) now) (slice_set lasts c.number state)
in_slots_turn now lasts slot c state count found in_slots = record {
  here = λ i d is. there i d is (cases_eq slot i);
  apart = λ i j d e is also same. differ i j d e is also same (cases_eq slot i) (cases_eq slot j);
}
  where
    turned : Caller
    turned = caller c.number state

    after : Callers
    after = with_slot slot (Some turned) now

    within : slot < length now.slots
    within = within_slots now slot c found

    new_one : (i : ℕ) (d : Caller) → at_slot i after ≡ Some d → slot ≡ i → d ≡ turned
    new_one i d is same =
        same_caller (at_slot i after) d turned is (subst (λ (k : ℕ). slice_index_or (slice_set now.slots slot (Some turned)) k None ≡ Some turned) same (set_here now.slots slot (Some turned) within))

    old_one : (i : ℕ) (d : Caller) → at_slot i after ≡ Some d → (slot ≡ i → ⊥) → at_slot i now ≡ Some d
    old_one i d is apart = sym (set_elsewhere now.slots slot i (Some turned) apart) ∙ is

    there : (i : ℕ) (d : Caller) → at_slot i after ≡ Some d → (slot ≡ i) ⊎ (slot ≡ i → ⊥) → (d.number < now.came) × (slice_index_or (slice_set lasts c.number state) d.number nobody ≡ d.state)
    there i d is (inl same) =
        let lt = (in_slots.here slot c found).0 in
        subst (λ (e : Caller). (e.number < now.came) × (slice_index_or (slice_set lasts c.number state) e.number nobody ≡ e.state)) (sym (new_one i d is same))
        (lt, get_or-set_same lasts c.number state nobody (omega (arith, lt, count)))
    there i d is (inr apart) =
        let was = in_slots.here i d (old_one i d is apart) in
        (was.0, get_or-set_other lasts c.number d.number state nobody (λ same. apart (sym (in_slots.apart i slot d c (old_one i d is apart) found same))) ∙ was.1)

    differ : (i j : ℕ) (d e : Caller) → at_slot i after ≡ Some d → at_slot j after ≡ Some e → d.number ≡ e.number → (slot ≡ i) ⊎ (slot ≡ i → ⊥) → (slot ≡ j) ⊎ (slot ≡ j → ⊥) → i ≡ j
    differ i j d e is also same (inl a) (inl b) = sym a ∙ b
    differ i j d e is also same (inl a) (inr b) =
        let number : d.number ≡ c.number = ap (λ (x : Caller). x.number) (new_one i d is a) in
        sym a ∙ in_slots.apart slot j c e found (old_one j e also b) (sym number ∙ same)
    differ i j d e is also same (inr a) (inl b) =
        let number : e.number ≡ c.number = ap (λ (x : Caller). x.number) (new_one j e also b) in
        in_slots.apart i slot d c (old_one i d is a) found (same ∙ number) ∙ b
    differ i j d e is also same (inr a) (inr b) = in_slots.apart i j d e (old_one i d is a) (old_one j e also b) same

-- ---- who is gone

-- who is at a slot after one of the slots was set
who_is : (now : Callers) (slot i : ℕ) (whoever : Option Caller) (c : Caller) → slot < length now.slots → slice_index_or (slice_set now.slots slot whoever) i None ≡ Some c
    → ((slot ≡ i) × (whoever ≡ Some c)) ⊎ ((slot ≡ i → ⊥) × (at_slot i now ≡ Some c))
who_is now slot i whoever c within is = on (cases_eq slot i)
  where
    on : (slot ≡ i) ⊎ (slot ≡ i → ⊥) → ((slot ≡ i) × (whoever ≡ Some c)) ⊎ ((slot ≡ i → ⊥) × (at_slot i now ≡ Some c))
    on (inl same) = inl (same, sym (subst (λ (k : ℕ). slice_index_or (slice_set now.slots slot whoever) k None ≡ whoever) same (set_here now.slots slot whoever within)) ∙ is)
    on (inr apart) = inr (apart, sym (set_elsewhere now.slots slot i whoever apart) ∙ is)

number_of : (c d : Caller) → some_caller c ≡ Some d → c.number ≡ d.number
number_of c d both = let same : c ≡ d = cc in ap (λ (e : Caller). e.number) same

-- where somebody of another number is set, whoever was gone is gone still
gone_set : (now : Callers) (came slot n : ℕ) (c : Caller) → slot < length now.slots → (c.number ≡ n → ⊥) → IsGone n now → IsGone n (callers came (slice_set now.slots slot (Some c)))
gone_set now came slot n c within apart gone i d is same = on (who_is now slot i (Some c) d within is)
  where
    on : ((slot ≡ i) × (some_caller c ≡ Some d)) ⊎ ((slot ≡ i → ⊥) × (at_slot i now ≡ Some d)) → ⊥
    on (inl (here, both)) = apart (number_of c d both ∙ same)
    on (inr (there, was)) = gone i d was same

gone_free : (now : Callers) (slot n : ℕ) → IsGone n now → IsGone n (with_slot slot None now)
gone_free now slot n gone i c is same = gone i c (still_here now slot i c is) same

-- ---- who came in

among_none : (bs : List Begun) → AreAmong [] bs
among_none [] = refl
among_none (b ∷ bs) = inl (among_none bs)

among_one : (b : Begun) → AreAmong (state_begun b ∷ []) (b ∷ [])
among_one b = inr ([], refl, refl)

among_more : (xs ys : List ConnectionState) (bs cs : List Begun) → AreAmong xs bs → AreAmong ys cs → AreAmong (xs ++ ys) (bs ++ cs)
among_more xs ys [] cs none y = subst (λ (zs : List ConnectionState). AreAmong (zs ++ ys) cs) (sym none) y
among_more xs ys (b ∷ bs) cs (inl x) y = inl (among_more xs ys bs cs x y)
among_more xs ys (b ∷ bs) cs (inr (rest, is, x)) y = inr (rest ++ ys, ap (λ (zs : List ConnectionState). zs ++ ys) is, among_more rest ys bs cs x y)

-- ---- what happens

module _ {D : Type 0} (Serves : D → Tick → Message → Answer → D → Type 0) where
  -- nobody came yet
  pub history_opens : (from : Between D) (count : ℕ) → Serving Serves from from (callers 0 (replicate count None)) (history [] [] [])
  history_opens from count = record {
    connections = record { acted = refl; reported = Adds-nil from.reported; are = tt; firsts = refl; lasts = refl; exchanges = λ n lt. absurd (omega (arith, lt)) };
    in_slots = record {
      here = λ i c is. absurd (none_here (at_slot i opened) c (free i) is);
      apart = λ i j c d is also same. absurd (none_here (at_slot i opened) c (free i) is);
    };
  }
    where
      opened : Callers
      opened = callers 0 (replicate count None)

      free : (i : ℕ) → at_slot i opened ≡ None
      free i = on (cases_lt i count)
        where
          on : (i < count) ⊎ (count ≤ i) → at_slot i opened ≡ None
          on (inl lt) = get_or-replicate count i None None lt
          on (inr le) = get_or_past (opened.slots) i None (subst (λ (n : ℕ). n ≤ i) (sym (length-replicate count (let it : Option Caller = None in it))) le)

  -- one more caller
  connections_come : (came : ℕ) (from to : Between D) (all : History) (coming gone : Option (List ℕ)) → Connections Serves came from to all
      → let state = connection_begun coming gone in Connections Serves (came + 1) from to (history (all.firsts ++ state ∷ []) (all.lasts ++ state ∷ []) all.heard)
  connections_come came from to all coming gone connections = record {
    acted = connections.acted;
    reported = connections.reported;
    are = are_more came (came + 1) all.heard (omega arith) connections.are;
    firsts = length_push all.firsts state ∙ ap (λ (n : ℕ). n + 1) connections.firsts;
    lasts = length_push all.lasts state ∙ ap (λ (n : ℕ). n + 1) connections.lasts;
    exchanges = λ n lt. on n lt (cases_lt n came);
  }
    where
      state : ConnectionState
      state = connection_begun coming gone

      on : (n : ℕ) → n < came + 1 → (n < came) ⊎ (came ≤ n) → Exchanges (slice_index_or (all.firsts ++ state ∷ []) n nobody) (of n all.heard) (slice_index_or (all.lasts ++ state ∷ []) n nobody)
      on n lt (inl before) =
          subst₂ (λ (f l : ConnectionState). Exchanges f (of n all.heard) l)
          (sym (get_or_append_left all.firsts (state ∷ []) nobody n (let count = connections.firsts in omega (arith, before, count))))
          (sym (get_or_append_left all.lasts (state ∷ []) nobody n (let count = connections.lasts in omega (arith, before, count))))
          (connections.exchanges n before)
      on n lt (inr le) =
          let same : came ≡ n = omega (arith, lt, le) in
          subst₂ (λ (f l : ConnectionState). Exchanges f (of n all.heard) l)
          (sym (get_or_push all.firsts state nobody n (connections.firsts ∙ same)))
          (sym (get_or_push all.lasts state nobody n (connections.lasts ∙ same)))
          (subst (λ (os : List Act). Exchanges state os state) (sym (of_later n came all.heard connections.are le)) (exchanges_begin coming gone))

  -- a turn of one of them
  connections_turn : (came : ℕ) (from mid to : Between D) (all : History) (number : ℕ) (state : ConnectionState) → number < came → Connections Serves came from mid all
      → (turn : Turn Serves mid to (slice_index_or all.lasts number nobody) state)
      → Connections Serves came from to (history all.firsts (slice_set all.lasts number state) (all.heard ++ heard_by number turn.acts))
  connections_turn came from mid to all number state lt connections turn = record {
    acted = subst (λ (os : List Act). Acts Serves from.handler os to.handler) (sym whole)
        (Acts-append Serves from.handler mid.handler to.handler (acts_of all.heard) turn.acts connections.acted turn.acted);
    reported = subst (λ (os : List Act). Adds from.reported (ticks os) to.reported) (sym whole)
        (subst (λ (ts : List Tick). Adds from.reported ts to.reported) (sym (ticks-append (acts_of all.heard) turn.acts))
        (Adds-append from.reported mid.reported to.reported (ticks (acts_of all.heard)) (ticks turn.acts) connections.reported turn.reported));
    are = are-append came all.heard more connections.are (are_by came number turn.acts lt);
    firsts = connections.firsts;
    lasts = length-set all.lasts number state ∙ connections.lasts;
    exchanges = λ n within. subst (λ (os : List Act). Exchanges (slice_index_or all.firsts n nobody) os (slice_index_or (slice_set all.lasts number state) n nobody)) (sym (of-append n all.heard more)) (on n within (cases_eq number n));
  }
    where
      more : List Heard
      more = heard_by number turn.acts

      whole : acts_of (all.heard ++ more) ≡ acts_of all.heard ++ turn.acts
      whole = acts_of-append all.heard more ∙ ap (λ (os : List Act). acts_of all.heard ++ os) (acts_heard number turn.acts)

      on : (n : ℕ) → n < came → (number ≡ n) ⊎ (number ≡ n → ⊥)
          → Exchanges (slice_index_or all.firsts n nobody) (of n all.heard ++ of n more) (slice_index_or (slice_set all.lasts number state) n nobody)
      on n within (inl same) =
          subst (λ (k : ℕ). Exchanges (slice_index_or all.firsts k nobody) (of k all.heard ++ of k more) (slice_index_or (slice_set all.lasts number state) k nobody)) same
          (subst₂ (λ (os : List Act) (s : ConnectionState). Exchanges (slice_index_or all.firsts number nobody) (of number all.heard ++ os) s)
          (sym (of_own number turn.acts)) (sym (get_or-set_same all.lasts number state nobody (let count = connections.lasts in omega (arith, lt, count))))
          (turn.exchanges (slice_index_or all.firsts number nobody) (of number all.heard) (connections.exchanges number lt)))
      on n within (inr apart) =
          subst₂ (λ (os : List Act) (s : ConnectionState). Exchanges (slice_index_or all.firsts n nobody) os s)
          (sym (ap (λ (os : List Act). of n all.heard ++ os) (of_other n number turn.acts apart) ∙ append-nil (of n all.heard)))
          (sym (get_or-set_other all.lasts number n state nobody (λ e. apart (sym e))))
          (connections.exchanges n within)

  -- ---- the connections goes on

  goes_stay : (first from : Between D) (old : Callers) (till : History) → Serving Serves first from old till → GoesOn Serves first from from old old till
  goes_stay first from old till serving = record {
    firsts = [];
    lasts = till.lasts;
    heard = [];
    serving = subst₂ (λ (fs : List ConnectionState) (hs : List Heard). Serving Serves first from old (history fs till.lasts hs)) (sym (append-nil till.firsts)) (sym (append-nil till.heard)) serving;
    came = omega arith;
    gone = λ n lt is. (is, refl, refl);
  }

  goes_come : (first from : Between D) (old : Callers) (till : History) (slot : ℕ) (coming gone : Option (List ℕ)) → IsFree slot old → Serving Serves first from old till
      → GoesOn Serves first from from old (with_caller slot (connection_begun coming gone) old) till
  goes_come first from old till slot coming gone free serving =
      let state = connection_begun coming gone in record {
        firsts = state ∷ [];
        lasts = till.lasts ++ state ∷ [];
        heard = [];
        serving = subst (λ (hs : List Heard). Serving Serves first from (with_caller slot state old) (history (till.firsts ++ state ∷ []) (till.lasts ++ state ∷ []) hs)) (sym (append-nil till.heard)) (record {
          connections = connections_come old.came first from till coming gone serving.connections;
          in_slots = in_slots_come old till.lasts slot state serving.connections.lasts free.within serving.in_slots;
        });
        came = omega arith;
        gone = λ n lt is. (
          gone_set old (old.came + 1) slot n (caller old.came state) free.within (λ same. absurd (omega (arith, lt, same))) is,
          get_or_append_left till.lasts (state ∷ []) nobody n (let count = serving.connections.lasts in omega (arith, lt, count)),
          refl,
        );
      }

  goes_leave : (first from : Between D) (old : Callers) (till : History) (slot : ℕ) → Serving Serves first from old till → GoesOn Serves first from from old (with_slot slot None old) till
  goes_leave first from old till slot serving = record {
    firsts = [];
    lasts = till.lasts;
    heard = [];
    serving = subst₂ (λ (fs : List ConnectionState) (hs : List Heard). Serving Serves first from (with_slot slot None old) (history fs till.lasts hs)) (sym (append-nil till.firsts)) (sym (append-nil till.heard)) (record {
      connections = serving.connections;
      in_slots = in_slots_free old till.lasts slot serving.in_slots;
    });
    came = omega arith;
    gone = λ n lt is. (gone_free old slot n is, refl, refl);
  }

  goes_more : (first from mid to : Between D) (old amid new : Callers) (till : History) → (x : GoesOn Serves first from mid old amid till)
      → GoesOn Serves first mid to amid new (history (till.firsts ++ x.firsts) x.lasts (till.heard ++ x.heard)) → GoesOn Serves first from to old new till
  goes_more first from mid to old amid new till x y = record {
    firsts = x.firsts ++ y.firsts;
    lasts = y.lasts;
    heard = x.heard ++ y.heard;
    serving = subst₂ (λ (fs : List ConnectionState) (hs : List Heard). Serving Serves first to new (history fs y.lasts hs))
        (append_assoc till.firsts x.firsts y.firsts) (append_assoc till.heard x.heard y.heard) y.serving;
    came = let before = x.came in let after = y.came in omega (arith, before, after);
    gone = λ n lt is.
        let a = x.gone n lt is in
        let b = y.gone n (let before = x.came in omega (arith, lt, before)) a.0 in
        (b.0, b.1 ∙ a.1, of-append n x.heard y.heard ∙ (ap (λ (os : List Act). os ++ of n y.heard) a.2 ∙ b.2));
  }

  -- ---- one after another

  -- the connections goes on so, and these came in
  abbrev GoesWith : Between D → Between D → Between D → Callers → Callers → History → List Begun → Type 0
  GoesWith first from to old new till came = (on : GoesOn Serves first from to old new till) × AreAmong on.firsts came

  with_none : (first from to : Between D) (old new : Callers) (till : History) (came : List Begun) → to ≡ from → new ≡ old → Serving Serves first from old till → GoesWith first from to old new till came
  unfolding goes_stay
  with_none first from to old new till came same is serving =
      subst₂ (λ (b : Between D) (now : Callers). GoesWith first from b old now till came) (sym same) (sym is) (goes_stay first from old till serving, among_none came)

  with_more : (first from mid to : Between D) (old amid new : Callers) (till : History) (came : List Begun) (here later : List Begun) → came ≡ here ++ later
      → (x : GoesWith first from mid old amid till here)
      → GoesWith first mid to amid new (history (till.firsts ++ x.0.firsts) x.0.lasts (till.heard ++ x.0.heard)) later → GoesWith first from to old new till came
  unfolding goes_more
  with_more first from mid to old amid new till came here later is x y =
      (goes_more first from mid to old amid new till x.0 y.0, subst (λ (bs : List Begun). AreAmong (x.0.firsts ++ y.0.firsts) bs) (sym is) (among_more x.0.firsts y.0.firsts here later x.1 y.1))

  turn_on : (first from to : Between D) (old new : Callers) (till : History) (came : List Begun) (slot : ℕ) (found whoever : Option Caller) → at_slot slot old ≡ found → TakesTurn Serves from to found whoever
      → new ≡ with_slot slot whoever old → Serving Serves first from old till → GoesWith first from to old new till came
  turn_on first from to old new till came slot None whoever free (none, same) is serving =
      let stays = ap (λ (w : Option Caller). with_slot slot w old) (none ∙ sym free) ∙ ap (λ (slots : List (Option Caller)). callers old.came slots) (set-get_or old.slots slot None) in
      with_none first from to old new till came same (is ∙ stays) serving
  turn_on first from to old new till came slot (Some c) whoever here (state, turned, turn, takes) is serving =
      let there = serving.in_slots.here slot c here in
      let on = subst (λ (s : ConnectionState). Turn Serves from to s state) (sym there.1) turn in
      subst (λ (now : Callers). GoesWith first from to old now till came) (sym (is ∙ ap (λ (w : Option Caller). with_slot slot w old) turned)) (
        record {
          firsts = [];
          lasts = slice_set till.lasts c.number state;
          heard = heard_by c.number on.acts;
          serving = subst (λ (fs : List ConnectionState). Serving Serves first to (with_slot slot (Some (caller c.number state)) old) (history fs (slice_set till.lasts c.number state) (till.heard ++ heard_by c.number on.acts))) (sym (append-nil till.firsts)) (record {
            connections = connections_turn old.came first from to till c.number state there.0 serving.connections on;
            in_slots = in_slots_turn old till.lasts slot c state serving.connections.lasts here serving.in_slots;
          });
          came = omega arith;
          gone = λ n lt is. (
            gone_set old old.came slot n (caller c.number state) (within_slots old slot c here) (is slot c here) is,
            get_or-set_other till.lasts c.number n state nobody (λ same. is slot c here (sym same)),
            of_other n c.number on.acts (is slot c here),
          );
        },
        among_none came,
      )

  comes_on : (from to : Between D) (came : List Begun) (old new : Callers) → to ≡ from → AcceptsOne came old new → LeadsOn Serves from to came old new
  unfolding goes_come
  comes_on from to [] old new same is first till serving = with_none first from to old new till [] same is serving
  comes_on from to (b ∷ bs) old new same (alone, inl is) first till serving = with_none first from to old new till (b ∷ bs) same is serving
  comes_on from to (b ∷ bs) old new same (alone, inr (slot, free, is)) first till serving =
      subst₂ (λ (at : Between D) (now : Callers). GoesWith first from at old now till (b ∷ bs)) (sym same) (sym is)
      (goes_come first from old till slot b.coming b.gone free serving, subst (λ (cs : List Begun). AreAmong (state_begun b ∷ []) (b ∷ cs)) (sym alone) (among_one b))

  leaves_on : (from to : Between D) (came : List Begun) (old new : Callers) (slot : ℕ) → to ≡ from → new ≡ with_slot slot None old → LeadsOn Serves from to came old new
  unfolding goes_leave
  leaves_on from to came old new slot same is first till serving =
      subst₂ (λ (b : Between D) (now : Callers). GoesWith first from b old now till came) (sym same) (sym is) (goes_leave first from old till slot serving, among_none came)

  does_on : (from to : Between D) (came : List Begun) (old new : Callers) (next : Next) → Does Serves from to came old new next → LeadsOn Serves from to came old new
  does_on from to came old new nexts.Comes (same, lets) first till serving = comes_on from to came old new same lets first till serving
  does_on from to came old new (nexts.Turn slot) (none, (whoever, turn, is)) first till serving =
      turn_on first from to old new till came slot (at_slot slot old) whoever refl turn is serving
  does_on from to came old new (nexts.Leaves slot) (none, same, is) first till serving = leaves_on from to came old new slot same is first till serving

  pub all_on : (from to : Between D) (came : List Begun) (old new : Callers) (order : List Next) → DoesAll Serves from to came old new order → LeadsOn Serves from to came old new
  all_on from to came old new [] (none, same, is) first till serving = with_none first from to old new till came same is serving
  all_on from to came old new (next ∷ others) (mid, amid, here, later, whole, does, x) first till serving =
      let one = does_on from mid here old amid next does first till serving in
      with_more first from mid to old amid new till came here later whole one
      (all_on mid to later amid new others x first (history (till.firsts ++ one.0.firsts) one.0.lasts (till.heard ++ one.0.heard)) one.0.serving)

  pub own_history : (from to : Between D) (came : List Begun) (count : ℕ) (now : Callers) (order : List Next) → DoesAll Serves from to came (callers 0 (replicate count None)) now order
      → (all : History) × Connections Serves now.came from to all × AreAmong all.firsts came
  own_history from to came count now order does =
      let on = all_on from to came (callers 0 (replicate count None)) now order does from (history [] [] []) (history_opens from count) in
      (history on.0.firsts on.0.lasts on.0.heard, on.0.serving.connections, on.1)

  -- one more thing
  pub does_more : (from mid to : Between D) (came more : List Begun) (old amid new : Callers) (order : List Next) (next : Next) → DoesAll Serves from mid came old amid order
      → Does Serves mid to more amid new next → DoesAll Serves from to (came ++ more) old new (order ++ next ∷ [])
  does_more from mid to came more old amid new [] next (none, same, is) does =
      (to, new, more, [], ap (λ (bs : List Begun). bs ++ more) none ∙ sym (append-nil more), subst₂ (λ (b : Between D) (c : Callers). Does Serves b to more c new next) same is does, (refl, refl, refl))
  does_more from mid to came more old amid new (other ∷ others) next (mid', amid', here, later, whole, does', x) does =
      (mid', amid', here, later ++ more, ap (λ (bs : List Begun). bs ++ more) whole ∙ append_assoc here later more, does', does_more mid' mid to later more amid' amid new others next x does)
