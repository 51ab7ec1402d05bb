-- Runs and chains, one after another.
use Rattle.std.proofs.Common.{◌≡◌, ℕ, Bool, true, false, List, [], ◌∷◌, ◌++◌, map, Option, Some, Result, Ok, Err, refl, sym, ap, ◌∙◌, subst, subst₂, append_assoc, append-nil, length-append, ◌+◌, inl, inr, arith}
use Rattle.std.proofs.lemmas.List.{map-append}
use Rattle.std.specs.Io.KnownBytes.{IsAtEnd}
use Rattle.base_values.specs.declared.answer.Answer.{Answer}
use Rattle.base_devices.specs.declared.device.Tick.{Tick}
use Rattle.base_devices.specs.Reported.{Adds, Gives}
use Rattle.base_devices.proofs.ToldLemmas.{Adds-nil, Adds-append, Gives-nil, Gives-append}
use Rattle.web_http.specs.declared.fault.FrameFault.{FrameFault}
use Rattle.web_http.specs.Text.{text, fault_text}
use Rattle.web_http.specs.Messages.{Message, Takes, Faults, HasNone, closes, Messages, whole}
use Rattle.web_http.specs.Framed.{TakesFirst}
use Rattle.web_http.proofs.FirstLemmas.{no_head}
use Rattle.web_connection.specs.declared.failure.Failure.{Failure}
use Rattle.web_connection.specs.declared.failure.Failure.TheVariants as failures
use Rattle.web_connection.specs.Run.{Item, Runs, Chain, AreAlways, AreAll, Cursor, cursor, Progress, Finished, Stopped, BreaksOff, Broken, Streams, Devices, InPieces, RunLeads, LosesRead, TakesIn, CountedIn}

-- ---- chains

pub Chain-append : (a b c : List ℕ) (ms ns : List Message) → Chain a ms b → Chain b ns c → Chain a (ms ++ ns) c
Chain-append a b c [] ns x y = subst (λ (t : List ℕ). Chain t ns c) (sym x) y
Chain-append a b c (m ∷ ms) ns (mid, takes, goes, x) y = (mid, takes, goes, Chain-append mid b c ms ns x y)

pub Chain-feed : (a b more : List ℕ) (ms : List Message) → Chain a ms b → Chain (a ++ more) ms (b ++ more)
Chain-feed a b more [] x = ap (λ (t : List ℕ). t ++ more) x
Chain-feed a b more (m ∷ ms) (mid, takes, goes, x) =
    (mid ++ more, λ rest. subst₂ (λ (s t : List ℕ). Takes s m t) (sym (append_assoc a more rest)) (sym (append_assoc mid more rest)) (takes (more ++ rest)), goes, Chain-feed mid b more ms x)

takes_now : (a b : List ℕ) (m : Message) → TakesFirst a m b → Takes a m b
takes_now a b m takes = subst₂ (λ (s t : List ℕ). Takes s m t) (append-nil a) (append-nil b) (takes [])

-- whatever follows the chain completes the messages
pub Chain-messages : (a b more : List ℕ) (ms : List Message) (items : List Item) → Chain a ms b → Messages (b ++ more) items
    → Messages (a ++ more) (map whole ms ++ items)
Chain-messages a b more [] items x y = subst (λ (t : List ℕ). Messages (t ++ more) items) (sym x) y
Chain-messages a b more (m ∷ ms) items (mid, takes, goes, x) y =
    (mid ++ more, takes more, λ is. absurd (let both : true ≡ false = sym is ∙ goes in cc), λ is. Chain-messages mid b more ms items x y)

-- ---- runs

pub Runs-append : {D : Type 0} (Serves : D → Tick → Message → Answer → D → Type 0) (d e f : D) (ts us : List Tick) (ms : List Message) (items : List Item) (a b : List ℕ)
    → Runs Serves d ts (map whole ms) a e → Runs Serves e us items b f → Runs Serves d (ts ++ us) (map whole ms ++ items) (a ++ b) f
Runs-append Serves d e f [] us [] items a b (written, same) y =
    subst₂ (λ s (t : List ℕ). Runs Serves s us items t f) same (sym (ap (λ (s : List ℕ). s ++ b) written)) y
Runs-append Serves d e f (t ∷ ts) us [] items a b x y = absurd x
Runs-append Serves d e f [] us (m ∷ ms) items a b x y = absurd x
Runs-append Serves d e f (t ∷ ts) us (m ∷ ms) items a b (mid, answer, rest, serves, written, x) y = (
  mid,
  answer,
  rest ++ b,
  serves,
  ap (λ (s : List ℕ). s ++ b) written ∙ append_assoc (text answer (closes m)) rest b,
  Runs-append Serves mid e f ts us ms items rest b x y,
)

-- ---- one step

abbrev pub some_message : Message → Option Message
some_message m = Some m

-- the frame is the message that was taken
pub takes_frame : (l l' : List ℕ) (frame : Message) (taken : Option Message) → some_message frame ≡ taken
    → ((m : Message) × (taken ≡ some_message m) × TakesFirst l m l') → TakesFirst l frame l'
takes_frame l l' frame taken is (m, same, takes) =
    let both : some_message frame ≡ some_message m = is ∙ same in
    let e : frame ≡ m = cc in
    subst (λ (x : Message). TakesFirst l x l') (sym e) takes

pub fault_done : {D : Type 0} (Serves : D → Tick → Message → Answer → D → Type 0) (l l' : List ℕ) (t : Option (List Tick)) (d : D) (w w' : Option (List ℕ)) (f : FrameFault)
    → ((more : List ℕ) → Faults (l ++ more) f) → Adds w (fault_text f) w' → Finished Serves (AreAlways l) (cursor l t d w) (cursor l' t d w')
fault_done Serves l l' t d w w' f faults wrote = record {
  items = Err f ∷ [];
  ticks = [];
  written = fault_text f;
  all = λ more. (faults more, refl);
  reported = Adds-nil t;
  taken = wrote;
  runs = (refl, refl, refl);
}

pub message_ends : {D : Type 0} (Serves : D → Tick → Message → Answer → D → Type 0) (l l' : List ℕ) (t t' : Option (List Tick)) (d d' : D) (w w' : Option (List ℕ)) (m : Message) (tick : Tick) (answer : Answer) (b : Bool)
    → TakesFirst l m l' → Adds t (tick ∷ []) t' → Serves d tick m answer d' → Adds w (text answer b) w' → b ≡ closes m → b ≡ true
    → Finished Serves (AreAlways l) (cursor l t d w) (cursor l' t' d' w')
message_ends Serves l l' t t' d d' w w' m tick answer b takes reported serves wrote test hit = let ends : closes m ≡ true = sym test ∙ hit in record {
  items = Ok m ∷ [];
  ticks = tick ∷ [];
  written = text answer b;
  all = λ more. (l' ++ more, takes more, λ e. refl, λ e. absurd (let both : true ≡ false = sym ends ∙ e in cc));
  reported = reported;
  taken = wrote;
  runs = (d', answer, [], serves, ap (text answer) test ∙ sym (append-nil (text answer (closes m))), (refl, refl));
}

pub message_goes : {D : Type 0} (Serves : D → Tick → Message → Answer → D → Type 0) (l l' : List ℕ) (t t' : Option (List Tick)) (d d' : D) (w w' : Option (List ℕ)) (m : Message) (tick : Tick) (answer : Answer) (b : Bool)
    → TakesFirst l m l' → Adds t (tick ∷ []) t' → Serves d tick m answer d' → Adds w (text answer b) w' → b ≡ closes m → b ≡ false
    → Progress Serves (cursor l t d w) (cursor l' t' d' w')
message_goes Serves l l' t t' d d' w w' m tick answer b takes reported serves wrote test hit = let goes : closes m ≡ false = sym test ∙ hit in record {
  messages = m ∷ [];
  ticks = tick ∷ [];
  written = text answer b;
  chain = (l', takes, goes, refl);
  reported = reported;
  taken = wrote;
  runs = (d', answer, [], serves, ap (text answer) test ∙ sym (append-nil (text answer (closes m))), (refl, refl));
}

none_of_none : HasNone []
none_of_none = no_head [] (omega arith, λ n line settles. let some = line.some in let here = line.here in absurd (omega arith))

-- ---- several steps

module _ {D : Type 0} (Serves : D → Tick → Message → Answer → D → Type 0) where
  pub progress_none : (p q : Cursor D) → q ≡ p → Progress Serves p q
  progress_none p q same = subst (Progress Serves p) (sym same) (record {
    messages = [];
    ticks = [];
    written = [];
    chain = refl;
    reported = Adds-nil p.reported;
    taken = Adds-nil p.taken;
    runs = (refl, refl);
  })

  map_whole : (ms ns : List Message) → map whole (ms ++ ns) ≡ map whole ms ++ map whole ns
  map_whole ms ns = map-append whole ms ns

  pub progress_more : (p q r : Cursor D) → Progress Serves p q → Progress Serves q r → Progress Serves p r
  progress_more p q r x y = record {
    messages = x.messages ++ y.messages;
    ticks = x.ticks ++ y.ticks;
    written = x.written ++ y.written;
    chain = Chain-append p.left q.left r.left x.messages y.messages x.chain y.chain;
    reported = Adds-append p.reported q.reported r.reported x.ticks y.ticks x.reported y.reported;
    taken = Adds-append p.taken q.taken r.taken x.written y.written x.taken y.taken;
    runs = subst (λ (items : List Item). Runs Serves p.handler (x.ticks ++ y.ticks) items (x.written ++ y.written) r.handler)
        (sym (map_whole x.messages y.messages))
        (Runs-append Serves p.handler q.handler r.handler x.ticks y.ticks x.messages (map whole y.messages) x.written y.written x.runs y.runs);
  }

  pub finished_more : (p q r : Cursor D) → Progress Serves p q → Finished Serves (AreAlways q.left) q r → Finished Serves (AreAlways p.left) p r
  finished_more p q r x y = record {
    items = map whole x.messages ++ y.items;
    ticks = x.ticks ++ y.ticks;
    written = x.written ++ y.written;
    all = λ more. Chain-messages p.left q.left more x.messages y.items x.chain (y.all more);
    reported = Adds-append p.reported q.reported r.reported x.ticks y.ticks x.reported y.reported;
    taken = Adds-append p.taken q.taken r.taken x.written y.written x.taken y.taken;
    runs = Runs-append Serves p.handler q.handler r.handler x.ticks y.ticks x.messages y.items x.written y.written x.runs y.runs;
  }

  pub broken_more : (e : Failure) (p q r : Cursor D) → Progress Serves p q → Broken Serves e q r → Broken Serves e p r
  broken_more e p q r x y = record { mid = y.mid; before = progress_more p q y.mid x y.before; last = y.last }

  -- a read buffer that comes after the bytes
  pub progress_feed : (b l : List ℕ) (input : List ℕ) (t t' : Option (List Tick)) (d d' : D) (w w' : Option (List ℕ))
      → Progress Serves (cursor b t d w) (cursor l t' d' w') → Progress Serves (cursor (b ++ input) t d w) (cursor (l ++ input) t' d' w')
  progress_feed b l input t t' d d' w w' x = record {
    messages = x.messages;
    ticks = x.ticks;
    written = x.written;
    chain = Chain-feed b l input x.messages x.chain;
    reported = x.reported;
    taken = x.taken;
    runs = x.runs;
  }

  -- where no message is left and nothing follows, all were answered
  pub finished_none : (after : Option (List ℕ)) (p q : Cursor D) → Progress Serves p q → HasNone q.left → IsAtEnd after → Finished Serves (AreAll p.left after) p q
  finished_none after p q x none ended = record {
    items = map whole x.messages;
    ticks = x.ticks;
    written = x.written;
    all = inr (
      subst₂ (λ (t : List ℕ) (items : List Item). Messages t items) (append-nil p.left) (append-nil (map whole x.messages))
          (Chain-messages p.left q.left [] x.messages [] x.chain (subst HasNone (sym (append-nil q.left)) none)),
      ended,
    );
    reported = x.reported;
    taken = x.taken;
    runs = x.runs;
  }

  -- where the last message ends the connection, all were answered
  pub finished_all : (after : Option (List ℕ)) (p q : Cursor D) → Finished Serves (AreAlways p.left) p q → Finished Serves (AreAll p.left after) p q
  finished_all after p q x = record {
    items = x.items;
    ticks = x.ticks;
    written = x.written;
    all = inl x.all;
    reported = x.reported;
    taken = x.taken;
    runs = x.runs;
  }

  -- ---- where a run breaks off

  stopped : (l l' : List ℕ) (t t' : Option (List Tick)) (d : D) (w : Option (List ℕ)) → Adds t [] t' → Stopped (cursor l t d w) (cursor l' t' d w)
  stopped l l' t t' d w reported = record { reported = reported; taken = Adds-nil w; handler = refl }

  pub fault_broken : (l l' : List ℕ) (t : Option (List Tick)) (d : D) (w w' : Option (List ℕ)) (f : FrameFault) (part rest : List ℕ)
      → ((more : List ℕ) → Faults (l ++ more) f) → fault_text f ≡ part ++ rest → Adds w part w' → Broken Serves failures.Output (cursor l t d w) (cursor l' t d w')
  fault_broken l l' t d w w' f part rest faults split wrote = record {
    mid = cursor l t d w;
    before = progress_none _ _ refl;
    last = record {
      item = Err f;
      ticks = [];
      part = part;
      rest = rest;
      next = subst (λ (s : List ℕ). Faults s f) (append-nil l) (faults []);
      reported = Adds-nil t;
      taken = wrote;
      runs = (sym split, refl, refl);
    };
  }

  pub clock_broken : (l l' : List ℕ) (t t' : Option (List Tick)) (d : D) (w : Option (List ℕ)) (m : Message)
      → TakesFirst l m l' → Adds t [] t' → Broken Serves failures.Clock (cursor l t d w) (cursor l' t' d w)
  clock_broken l l' t t' d w m takes reported = record {
    mid = cursor l t d w;
    before = progress_none _ _ refl;
    last = (stopped l l' t t' d w reported, (m, (l', takes_now l l' m takes)));
  }

  pub message_broken : (l l' : List ℕ) (t t' : Option (List Tick)) (d d' : D) (w w' : Option (List ℕ)) (m : Message) (tick : Tick) (answer : Answer) (b : Bool) (part rest : List ℕ)
      → TakesFirst l m l' → Adds t (tick ∷ []) t' → Serves d tick m answer d' → text answer b ≡ part ++ rest → Adds w part w' → b ≡ closes m
      → Broken Serves failures.Output (cursor l t d w) (cursor l' t' d' w')
  message_broken l l' t t' d d' w w' m tick answer b part rest takes reported serves split wrote test = record {
    mid = cursor l t d w;
    before = progress_none _ _ refl;
    last = record {
      item = Ok m;
      ticks = tick ∷ [];
      part = part;
      rest = rest;
      next = (l', takes_now l l' m takes);
      reported = reported;
      taken = wrote;
      runs = (d', answer, [], serves, sym split ∙ (ap (text answer) test ∙ sym (append-nil (text answer (closes m)))), (refl, refl));
    };
  }

  pub memory_broken : (p : Cursor D) (l l' : List ℕ) (t : Option (List Tick)) (d : D) (w : Option (List ℕ)) → Progress Serves p (cursor l t d w) → LosesRead l → Broken Serves failures.Memory p (cursor l' t d w)
  memory_broken p l l' t d w x loses = record { mid = cursor l t d w; before = x; last = (stopped l l' t t d w (Adds-nil t), loses) }

  pub limit_broken : (p : Cursor D) (l l' : List ℕ) (t : Option (List Tick)) (d : D) (w : Option (List ℕ)) → Progress Serves p (cursor l t d w) → HasNone l → Broken Serves failures.Limit p (cursor l' t d w)
  limit_broken p l l' t d w x none = record { mid = cursor l t d w; before = x; last = (stopped l l' t t d w (Adds-nil t), none) }

  -- a reader that fails, or memory for what it gave that is refused
  pub read_broken : (e : Failure) (old new : Devices D) (b l l' : List ℕ) (g : Option (List ℕ)) (turn input input' : ℕ)
      → Gives old.left b g → InPieces b turn 0 → Progress Serves (cursor b old.reported old.handler old.taken) (cursor l new.reported new.handler new.taken) → HasNone l
      → new.calls ≡ old.calls + turn + 1 → TakesIn (Err e) l l' g new.left → CountedIn (Err e) input input' → RunLeads Serves old new (Err e)
  read_broken failures.Input old new b l l' g turn input input' gives pieces x none calls read counted = record {
    bytes = b;
    given = subst (λ (s : List ℕ). Gives old.left s new.left) (append-nil b) (Gives-append old.left g new.left b [] gives read.0);
    pieces = record { most = omega (arith, pieces.most, calls); some = omega (arith, pieces.some, calls) };
    streams = record { mid = cursor l new.reported new.handler new.taken; before = x; last = (stopped l [] new.reported new.reported new.handler new.taken (Adds-nil new.reported), none) };
  }
  read_broken failures.Memory old new b l l' g turn input input' gives pieces x none calls (came, read, (some, most), same) counted = record {
    bytes = b ++ came;
    given = Gives-append old.left g new.left b came gives read;
    pieces = record {
      most = omega (arith, length-append b came, pieces.most, most, calls);
      some = omega (arith, length-append b came, pieces.some, some, calls);
    };
    streams = memory_broken _ (l ++ came) [] new.reported new.handler new.taken
        (progress_feed b l came old.reported new.reported old.handler new.handler old.taken new.taken x) (l, came, refl, none, most);
  }
  read_broken failures.Output old new b l l' g turn input input' gives pieces x none calls read counted = absurd counted
  read_broken failures.Clock old new b l l' g turn input input' gives pieces x none calls read counted = absurd counted
  read_broken failures.Limit old new b l l' g turn input input' gives pieces x none calls read counted = absurd counted

  -- what is left afterwards does not matter
  pub broken_at : (e : Failure) (p : Cursor D) (l l' : List ℕ) (t : Option (List Tick)) (d : D) (w : Option (List ℕ)) → Broken Serves e p (cursor l t d w) → Broken Serves e p (cursor l' t d w)
  broken_at e p l l' t d w x = record { mid = x.mid; before = x.before; last = last_at e x.mid x.last }
    where
      stays : (q : Cursor D) → Stopped q (cursor l t d w) → Stopped q (cursor l' t d w)
      stays q y = record { reported = y.reported; taken = y.taken; handler = y.handler }

      last_at : (f : Failure) (q : Cursor D) → BreaksOff Serves f q (cursor l t d w) → BreaksOff Serves f q (cursor l' t d w)
      last_at failures.Output q y = record { item = y.item; ticks = y.ticks; part = y.part; rest = y.rest; next = y.next; reported = y.reported; taken = y.taken; runs = y.runs }
      last_at failures.Clock q y = (stays q y.0, y.1)
      last_at failures.Input q y = (stays q y.0, y.1)
      last_at failures.Limit q y = (stays q y.0, y.1)
      last_at failures.Memory q y = (stays q y.0, y.1)

  pub finished_at : (p : Cursor D) (IsOf : List Item → Type 0) (l l' : List ℕ) (t : Option (List Tick)) (d : D) (w : Option (List ℕ)) → Finished Serves IsOf p (cursor l t d w) → Finished Serves IsOf p (cursor l' t d w)
  finished_at p IsOf l l' t d w x = record {
    items = x.items;
    ticks = x.ticks;
    written = x.written;
    all = x.all;
    reported = x.reported;
    taken = x.taken;
    runs = x.runs;
  }

  -- ---- a whole run

  -- a connection that could not be opened
  pub unopened : (p : Devices D) → RunLeads Serves p p (Err failures.Memory)
  unopened p = record {
    bytes = [];
    given = Gives-nil p.left;
    pieces = record { most = omega arith; some = omega arith };
    streams = memory_broken (cursor [] p.reported p.handler p.taken) [] [] p.reported p.handler p.taken (progress_none _ _ refl) ([], [], refl, none_of_none, omega arith);
  }

  -- all bytes that came were read in so many calls, and what they lead to is known
  pub run_leads : (old new : Devices D) (result : Result (Unit {0}) Failure) (bytes : List ℕ) (calls : ℕ) → Gives old.left bytes new.left
      → InPieces bytes calls 0 → new.calls ≡ old.calls + calls
      → Streams Serves new.left (cursor bytes old.reported old.handler old.taken) (cursor [] new.reported new.handler new.taken) result → RunLeads Serves old new result
  run_leads old new result bytes calls given pieces is streams = record {
    bytes = bytes;
    given = given;
    pieces = record { most = omega (arith, pieces.most, is); some = omega (arith, pieces.some, is) };
    streams = streams;
  }

  -- one more call gave nothing, at the end
  pub run_ends : (old new : Devices D) (u : Unit {0}) (bytes : List ℕ) (g : Option (List ℕ)) (calls : ℕ) → Gives old.left bytes g → Gives g [] new.left
      → InPieces bytes calls 0 → new.calls ≡ old.calls + calls + 1
      → Finished Serves (AreAll bytes new.left) (cursor bytes old.reported old.handler old.taken) (cursor [] new.reported new.handler new.taken) → RunLeads Serves old new (Ok u)
  run_ends old new u bytes g calls given last pieces is finished = record {
    bytes = bytes;
    given = subst (λ (s : List ℕ). Gives old.left s new.left) (append-nil bytes) (Gives-append old.left g new.left bytes [] given last);
    pieces = record { most = omega (arith, pieces.most, is); some = omega (arith, pieces.some, is) };
    streams = finished;
  }
